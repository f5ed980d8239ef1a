-- cut: an event's number and values, where a payload's length is known; a refusal's words, and the number of a lookup's; a writer or none; a row of small numbers; a watch or none, and one that can be packed.
use Rattle.std.specs.Prelude.{◌≡◌, true, false, cond, List, [], ◌∷◌, ℕ, ◌+◌, ◌≤◌, length, ltb, Ok, Err}
use Rattle.std.specs.Prelude as P
use Rattle.std.proofs.Math.Option.{Option}
use Rattle.refusals.specs.Numbers.{input_too_long_no, bad_state_no, too_deep_no, too_many_entries_no, limit}
use Rattle.refusals.specs.Read.{Refusal}
use Rattle.refusals.specs.Answers.{fault_of, opt_of, as_it_is}
use Rattle.decoder.specs.Record.{Event, answer_err, answer_of, bad_decoder}
use Rattle.decoder.specs.declared.Decoder.{Decoder}
use Rattle.packed.specs.Layout.{number_at_claim}
use Rattle.writer.specs.declared.ListWriter.{ListWriter}
use Rattle.whole.specs.Whole.{EntryRow}
use Rattle.whole.specs.declared.WholeError.{WholeError}
use Rattle.whole.specs.declared.WholeError.TheVariants as WholeErrorC
use Rattle.index.specs.Index.{FoundSaid, found_row, found_none, look_refused}
use Rattle.walk.specs.declared.WalkError.{WalkError}
use Rattle.walk.specs.declared.WalkError.TheVariants as WalkErrorC
use Rattle.losses.specs.declared.Watch.{Watch}
use Rattle.sartrogheo.specs.Calls.{good_no, not_found_no, answer_no, answer_values}

-- the number doesn't depend on a payload's bytes, and the values only on how many there are
abbrev pub event_no : Event → ℕ
event_no e = answer_no (answer_of e [])

abbrev pub event_values : Event → ℕ → List ℕ
event_values (Ok false) len = []
event_values (Ok true) len = len ∷ []
event_values (Err e) len = answer_values (answer_err e)

-- number, kind and place
abbrev pub refusal_words : Refusal → List ℕ
refusal_words f = f.number ∷ f.kind ∷ f.place ∷ []

abbrev pub whole_error_words : WholeError → List ℕ
whole_error_words (WholeErrorC.Fault f) = refusal_words (fault_of f)
whole_error_words WholeErrorC.InputTooLong = input_too_long_no ∷ 0 ∷ 0 ∷ []
whole_error_words WholeErrorC.BadState = bad_state_no ∷ 0 ∷ 0 ∷ []
whole_error_words WholeErrorC.TooManyEntries = too_many_entries_no ∷ 0 ∷ 0 ∷ []

abbrev pub walk_error_words : WalkError → List ℕ
walk_error_words (WalkErrorC.Fault f) = refusal_words (fault_of f)
walk_error_words (WalkErrorC.TooDeep place) = too_deep_no ∷ 0 ∷ place ∷ []
walk_error_words WalkErrorC.InputTooLong = input_too_long_no ∷ 0 ∷ 0 ∷ []

abbrev pub look_no : FoundSaid → ℕ
look_no (found_row r) = good_no
look_no found_none = not_found_no
look_no (look_refused n) = n

-- the bytes' fill, or the whole room if it is less
unfoldable pub fill_in : List ℕ → ℕ → ℕ
fill_in l room = cond (ltb (number_at_claim l 8 4) room) (number_at_claim l 8 4) room

abbrev pub opt_writer : P.Option ListWriter → Option ListWriter
opt_writer = opt_of as_it_is

abbrev pub opt_watch : P.Option Watch → Option Watch
opt_watch = opt_of as_it_is

-- a decoder that packing accepts, and bytes with room for it
pub record CanBePacked (d : Decoder) (l : List ℕ) : Type 0 where
  pub sound : bad_decoder d ≡ false
  pub small : d.capacity ≤ limit
  pub room : 28 ≤ length l

-- a row that a table's numbers hold
pub record RowIsSmall (r : EntryRow) : Type 0 where
  pub name : r.name.start + r.name.len ≤ limit
  pub entry : r.entry.start + r.entry.len ≤ limit
