-- The view can be undone, so the contract allows one outcome for each input.
use mathlib.Core.Path.{◌≡◌, refl, ap}
use mathlib.Core.Bool.{cond}
use Prim.Native.Nat.{ℕ}
use lib.Dec.{eqb}
use Rattle.std.specs.Prelude.{Result, Ok, Err}
use Rattle.refusals.specs.Numbers.{bad_state_no, input_too_long_no}
use Rattle.refusals.proofs.Undone.{fault_from, fault_back, field_from, field_back}
use Rattle.message.specs.Answers.{list_end}
use Rattle.message.proofs.Decided.{list_end_from, list_end_back, start_from, start_back_lem}
use Rattle.whole.specs.Whole.{WholeSaid, whole_is, broken, refused_alone, AfterWhole}
use Rattle.whole.specs.Answers.{whole_read, after_whole}
use Rattle.whole.specs.declared.WholeMessage.{WholeMessage}
use Rattle.whole.specs.declared.WholeError.{WholeError}
use Rattle.whole.specs.declared.WholeError.TheVariants as Errors
use Rattle.decided.specs.One.{With}
use Rattle.decided.proofs.Laws.{injective, undone}
use Rattle.whole.specs.Decided.{Views, Decided}

-- 9, 4 and 20 stand at no place
unfoldable pub alone_from : ℕ → WholeError
alone_from n = cond (eqb n input_too_long_no) Errors.InputTooLong (cond (eqb n bad_state_no) Errors.BadState Errors.TooManyEntries)

-- every other refusal is a reading's
whole_from : WholeSaid → Result WholeMessage WholeError
whole_from (whole_is start end rows next) = Ok (record { start = start_from start; end = field_from list_end_from end; rows = rows; next = next })
whole_from (broken f) = Err (Errors.Fault (fault_from f))
whole_from (refused_alone n) = Err (alone_from n)

whole_back : (r : Result WholeMessage WholeError) → whole_from (whole_read r) ≡ r
unfolding whole_from alone_from
whole_back (Ok m) =
    let a = start_back_lem m.start in
    let b = field_back list_end list_end_from list_end_back m.end in
    λ i. Ok (record { start = a i; end = b i; rows = m.rows; next = m.next })
whole_back (Err (Errors.Fault f)) = ap (λ g. Err (Errors.Fault g)) (fault_back f)
whole_back (Err Errors.InputTooLong) = refl
whole_back (Err Errors.BadState) = refl
whole_back (Err Errors.TooManyEntries) = refl

whole_one : (r r' : With (Result WholeMessage WholeError)) → after_whole (whole_read r.answer) r.memory ≡ after_whole (whole_read r'.answer) r'.memory → r ≡ r'
whole_one r r' h =
    let a : r.answer ≡ r'.answer = undone whole_read whole_from whole_back _ _ (ap (λ (l : AfterWhole). l.answer) h) in
    let m : r.memory ≡ r'.memory = ap (λ (l : AfterWhole). l.table) h in
    λ i. record { answer = a i; memory = m i }

pub views : Views
views = record { whole = whole_one }

pub decided : Decided
decided = record { read_message_claim = λ input at table. injective (λ (r : With (Result WholeMessage WholeError)). after_whole (whole_read r.answer) r.memory) views.whole _ }
