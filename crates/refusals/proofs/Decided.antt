-- Each view can be undone, so a contract allows one outcome for each input.
use Prim.Native.Nat.{ℕ}
use Rattle.refusals.specs.Answers.{fault_of, as_it_is, reads_as}
use Rattle.refusals.specs.declared.Span.{Span}
use Rattle.decided.proofs.Laws.{injective, undone}
use Rattle.refusals.proofs.Undone.{fault_from, fault_back, reads_once, same_once}
use Rattle.refusals.specs.Decided.{Views, Decided}

pub views : Views
views =
    record {
      fault = undone fault_of fault_from fault_back;
      byte = reads_once as_it_is same_once;
      span = reads_once as_it_is same_once;
    }

pub decided : Decided
decided =
    record {
      at_claim = λ self place. injective fault_of views.fault _;
      take_byte = λ input at. injective (reads_as as_it_is) views.byte _;
      take_n = λ input at n. injective (reads_as as_it_is) views.span _;
    }
