-- Each view can be undone, so a contract allows one outcome for each input.
use mathlib.Core.Path.{◌≡◌, refl, ap}
use Prim.Native.Nat.{ℕ}
use Rattle.std.specs.Prelude.{Result, Ok, Err}
use Rattle.refusals.specs.Read.{Read, got, refused}
use Rattle.refusals.specs.Answers.{as_it_is, reads_as}
use Rattle.refusals.specs.declared.Fault.{Fault}
use Rattle.tlf.specs.Answers.{place_read}
use Rattle.decided.proofs.Laws.{one_outcome, injective, undone}
use Rattle.refusals.proofs.Undone.{fault_from, fault_back, reads_once, same_once}
use Rattle.tlf.specs.Decided.{Views, Decided}

place_from : Read (Unit {0}) → Result ℕ Fault
place_from (got u next) = Ok next
place_from (refused f) = Err (fault_from f)

place_back : (r : Result ℕ Fault) → place_from (place_read r) ≡ r
unfolding place_from
place_back (Ok next) = refl
place_back (Err f) = ap (λ x. Err x) (fault_back f)

pub views : Views
views =
    record {
      tlf = reads_once as_it_is same_once;
      place = undone place_read place_from place_back;
    }

pub decided : Decided
decided =
    record {
      is_list_claim = λ self. one_outcome _;
      is_boolean_claim = λ self. one_outcome _;
      parse = λ input at. injective (reads_as as_it_is) views.tlf _;
      is_list_of_claim = λ self n. one_outcome _;
      parse_list_of = λ input at n. injective place_read views.place _;
    }
