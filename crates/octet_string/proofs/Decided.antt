-- Each view can be undone, so a contract allows one outcome for each input.
use mathlib.Core.Path.{◌≡◌, refl}
use mathlib.Core.Option.{Option, some, none}
use Prim.Native.Nat.{ℕ}
use Rattle.std.specs.Prelude.{Result, Ok, Err}
use Rattle.refusals.specs.Answers.{as_it_is, reads_as}
use Rattle.refusals.specs.declared.BadSpan.{BadSpan}
use Rattle.octet_string.specs.Answers.{span_check}
use Rattle.decided.proofs.Laws.{one_outcome, injective, undone}
use Rattle.refusals.proofs.Decided.{views as refusalViews}
use Rattle.octet_string.specs.Decided.{Views, Decided}

check_from : Option ℕ → Result (Unit {0}) BadSpan
check_from none = Ok tt
check_from (some n) = Err (record {})

check_back : (r : Result (Unit {0}) BadSpan) → check_from (span_check r) ≡ r
unfolding check_from
check_back (Ok u) = refl
check_back (Err e) = refl

pub views : Views
views = record { check = undone span_check check_from check_back }

pub decided : Decided
decided =
    record {
      parse_octet_str = λ input at. injective (reads_as as_it_is) refusalViews.span _;
      octet_str = λ input span. one_outcome _;
      check_span = λ input span. injective span_check views.check _;
      is_absent = λ input at. one_outcome _;
    }
