-- The views can be undone, so the contracts allow one outcome for each input.
use mathlib.Core.Path.{◌≡◌, refl, ap}
use mathlib.Core.Bool.{cond}
use lib.Dec.{eqb}
use Rattle.std.specs.Prelude.{Result, Ok, Err, Option, Some, None}
use Rattle.refusals.specs.Numbers.{input_too_long_no}
use Rattle.refusals.proofs.Undone.{fault_from, fault_back}
use Rattle.whole.specs.declared.WholeError.{WholeError}
use Rattle.whole.specs.declared.WholeError.TheVariants as Errors
use Rattle.whole.proofs.Decided.{alone_from}
use Rattle.index.specs.Index.{IndexSaid, index_is, index_broken, index_refused, AfterIndex, FoundSaid, found_row, found_none, look_refused}
use Rattle.index.specs.Answers.{entry_row, indexed, after_index, found_by}
use Rattle.index.specs.declared.Row.{Row}
use Rattle.index.specs.declared.Indexed.{Indexed}
use Rattle.index.specs.declared.FindError.{FindError}
use Rattle.index.specs.declared.FindError.TheVariants.{InputTooLong, BadSpan}
use Rattle.decided.specs.One.{With}
use Rattle.decided.proofs.Laws.{injective, undone}
use Rattle.index.specs.Decided.{Views, Decided}

-- 9, 4 and 20 stand at no place, every other refusal is a reading's
index_from : IndexSaid → Result Indexed WholeError
index_from (index_is rows next) = Ok (record { rows = rows; next = next })
index_from (index_broken f) = Err (Errors.Fault (fault_from f))
index_from (index_refused n) = Err (alone_from n)

index_back : (r : Result Indexed WholeError) → index_from (indexed r) ≡ r
unfolding index_from alone_from
index_back (Ok x) = refl
index_back (Err (Errors.Fault f)) = ap (λ g. Err (Errors.Fault g)) (fault_back f)
index_back (Err Errors.InputTooLong) = refl
index_back (Err Errors.BadState) = refl
index_back (Err Errors.TooManyEntries) = refl

found_from : FoundSaid → Result (Option Row) FindError
found_from (found_row r) = Ok (Some (record { name = r.name; entry = r.entry }))
found_from found_none = Ok None
found_from (look_refused n) = Err (cond (eqb n input_too_long_no) InputTooLong BadSpan)

found_back : (r : Result (Option Row) FindError) → found_from (found_by r) ≡ r
unfolding found_from entry_row
found_back (Ok (Some r)) = refl
found_back (Ok None) = refl
found_back (Err InputTooLong) = refl
found_back (Err BadSpan) = refl

index_one : (r r' : With (Result Indexed WholeError)) → after_index (indexed r.answer) r.memory ≡ after_index (indexed r'.answer) r'.memory → r ≡ r'
index_one r r' h =
    let a : r.answer ≡ r'.answer = undone indexed index_from index_back _ _ (ap (λ (l : AfterIndex). l.answer) h) in
    let m : r.memory ≡ r'.memory = ap (λ (l : AfterIndex). l.table) h in
    λ i. record { answer = a i; memory = m i }

pub views : Views
views = record { index = index_one; found = undone found_by found_from found_back }

pub decided : Decided
decided =
    record {
      build_index_claim = λ input at table. injective (λ (r : With (Result Indexed WholeError)). after_index (indexed r.answer) r.memory) views.index _;
      look_up = λ input table name. injective found_by views.found _;
    }
