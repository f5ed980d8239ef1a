-- view: document 02's number and values for each answer of building and of a lookup.
use Rattle.std.specs.Prelude.{List, ℕ, Result, Ok, Err, Option, Some, None}
use Rattle.refusals.specs.Numbers.{bad_state_no, input_too_long_no, too_many_entries_no, bad_span_no}
use Rattle.refusals.specs.Answers.{fault_of}
use Rattle.whole.specs.Whole.{EntryRow}
use Rattle.whole.specs.declared.WholeError.{WholeError}
use Rattle.whole.specs.declared.WholeError.TheVariants as Errors
use Rattle.index.specs.Index.{IndexSaid, index_is, index_broken, index_refused, AfterIndex, FoundSaid, found_row, found_none, look_refused}
use Rattle.index.specs.declared.Row.{Row}
use Rattle.index.specs.declared.Indexed.{Indexed}
use Rattle.index.specs.declared.FindError.{FindError}
use Rattle.index.specs.declared.FindError.TheVariants.{InputTooLong, BadSpan}

unfoldable pub entry_row : Row → EntryRow
entry_row r = record { name = r.name; entry = r.entry }

abbrev pub indexed : Result Indexed WholeError → IndexSaid
indexed (Ok x) = index_is x.rows x.next
indexed (Err (Errors.Fault f)) = index_broken (fault_of f)
indexed (Err Errors.InputTooLong) = index_refused input_too_long_no
indexed (Err Errors.BadState) = index_refused bad_state_no
indexed (Err Errors.TooManyEntries) = index_refused too_many_entries_no

abbrev pub after_index : IndexSaid → List ℕ → AfterIndex
after_index said t = record { answer = said; table = t }

-- 9, and 16 for a table that isn't sound
abbrev pub found_by : Result (Option Row) FindError → FoundSaid
found_by (Ok (Some r)) = found_row (entry_row r)
found_by (Ok None) = found_none
found_by (Err InputTooLong) = look_refused input_too_long_no
found_by (Err BadSpan) = look_refused bad_span_no
