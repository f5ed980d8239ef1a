-- Each view can be undone, so a contract allows one outcome for each input.
use mathlib.Core.Path.{◌≡◌, refl, ap}
use mathlib.Core.Bool.{cond}
use Prim.Native.Nat.{ℕ}
use Rattle.std.specs.Prelude.{Result, Ok, Err}
use lib.Dec.{eqb}
use Rattle.refusals.specs.Numbers.{bad_state_no, wrong_number_no, bad_span_no}
use Rattle.writer.specs.Calls.{WriteOutcome, to, not_written, AfterWrite}
use Rattle.writer.specs.Answers.{error_number, place_written, list_written, after_write}
use Rattle.writer.specs.declared.WriteError.{WriteError}
use Rattle.writer.specs.declared.WriteError.TheVariants.{BadState, WrongNumber, BadSpan, OutputTooShort}
use Rattle.writer.specs.declared.ListWriter.{ListWriter}
use Rattle.decided.specs.One.{With}
use Rattle.decided.proofs.Laws.{injective, undone}
use Rattle.writer.specs.Decided.{Views, Decided}

write_error_from : ℕ → WriteError
write_error_from k = cond (eqb k bad_state_no) BadState (cond (eqb k wrong_number_no) WrongNumber (cond (eqb k bad_span_no) BadSpan OutputTooShort))

write_error_back : (e : WriteError) → write_error_from (error_number e) ≡ e
unfolding write_error_from
write_error_back BadState = refl
write_error_back WrongNumber = refl
write_error_back BadSpan = refl
write_error_back OutputTooShort = refl

written_from : WriteOutcome ℕ → Result ℕ WriteError
written_from (to place) = Ok place
written_from (not_written k) = Err (write_error_from k)

written_back : (r : Result ℕ WriteError) → written_from (place_written r) ≡ r
unfolding written_from
written_back (Ok place) = refl
written_back (Err e) = ap Err (write_error_back e)

list_written_from : WriteOutcome ListWriter → Result ListWriter WriteError
list_written_from (to w) = Ok w
list_written_from (not_written k) = Err (write_error_from k)

list_written_back : (r : Result ListWriter WriteError) → list_written_from (list_written r) ≡ r
unfolding list_written_from
list_written_back (Ok w) = refl
list_written_back (Err e) = ap Err (write_error_back e)

whole_written_one : (r r' : With (Result ℕ WriteError)) → after_write (place_written r.answer) r.memory ≡ after_write (place_written r'.answer) r'.memory → r ≡ r'
whole_written_one r r' h =
    let a : r.answer ≡ r'.answer = undone place_written written_from written_back _ _ (ap (λ (l : AfterWrite ℕ). l.answer) h) in
    let m : r.memory ≡ r'.memory = ap (λ (l : AfterWrite ℕ). l.output) h in
    λ i. record { answer = a i; memory = m i }

list_written_one : (r r' : With (Result ListWriter WriteError)) → after_write (list_written r.answer) r.memory ≡ after_write (list_written r'.answer) r'.memory → r ≡ r'
list_written_one r r' h =
    let a : r.answer ≡ r'.answer = undone list_written list_written_from list_written_back _ _ (ap (λ (l : AfterWrite ListWriter). l.answer) h) in
    let m : r.memory ≡ r'.memory = ap (λ (l : AfterWrite ListWriter). l.output) h in
    λ i. record { answer = a i; memory = m i }

pub views : Views
views = record { whole = whole_written_one; list = list_written_one }

pub decided : Decided
decided =
    record {
      write_open = λ out at strings head x. injective (λ (r : With (Result ℕ WriteError)). after_write (place_written r.answer) r.memory) views.whole _;
      write_close = λ out at strings head x. injective (λ (r : With (Result ℕ WriteError)). after_write (place_written r.answer) r.memory) views.whole _;
      write_list_start = λ out at strings head x. injective (λ (r : With (Result ListWriter WriteError)). after_write (list_written r.answer) r.memory) views.list _;
      write_list_entry = λ out w strings x. injective (λ (r : With (Result ListWriter WriteError)). after_write (list_written r.answer) r.memory) views.list _;
      write_list_end = λ out w strings x. injective (λ (r : With (Result ListWriter WriteError)). after_write (list_written r.answer) r.memory) views.list _;
    }
