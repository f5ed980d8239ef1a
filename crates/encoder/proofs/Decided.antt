-- Each view can be undone, so a contract allows one outcome for each input.
use Rattle.std.specs.Prelude.{ℕ, Option, Some, None, Result, Ok, Err}
use mathlib.Core.Path.{◌≡◌, refl, ap}
use mathlib.Core.Bool.{cond}
use lib.Dec.{eqb}
use Rattle.encoder.specs.Encode as E
use Rattle.encoder.specs.Encode.{EncodeAnswer, length_is, encode_answer, AfterEncode, after_encode}
use Rattle.encoder.specs.Encoder.{NextAnswer, byte, finished, no_byte, next_answer, Step, step_of}
use Rattle.encoder.specs.declared.EncodeError.{EncodeError}
use Rattle.encoder.specs.declared.EncodeError.TheVariants as EncodeErr
use Rattle.encoder.specs.declared.EncoderError.{EncoderError}
use Rattle.encoder.specs.declared.EncoderError.TheVariants as EncoderErr
use Rattle.encoder.specs.declared.Given.{Given}
use Rattle.decided.specs.One.{With}
use Rattle.decided.proofs.Laws.{one_outcome, injective, undone}
use Rattle.encoder.specs.Decided.{Views, Decided}

encoded_from : EncodeAnswer → Result ℕ EncodeError
encoded_from (length_is n) = Ok n
encoded_from (E.no_frame k) = Err (cond (eqb k 1) EncodeErr.PayloadTooLong EncodeErr.OutOfMemory)

encoded_back : (r : Result ℕ EncodeError) → encoded_from (encode_answer r) ≡ r
unfolding encoded_from
encoded_back (Ok n) = refl
encoded_back (Err EncodeErr.PayloadTooLong) = refl
encoded_back (Err EncodeErr.OutOfMemory) = refl

encode_one : (r r' : With (Result ℕ EncodeError)) → after_encode (encode_answer r.answer) r.memory ≡ after_encode (encode_answer r'.answer) r'.memory → r ≡ r'
encode_one r r' h =
    let a : r.answer ≡ r'.answer = undone encode_answer encoded_from encoded_back _ _ (ap (λ (l : AfterEncode). l.answer) h) in
    let m : r.memory ≡ r'.memory = ap (λ (l : AfterEncode). l.output) h in
    λ i. record { answer = a i; memory = m i }

item_from : NextAnswer → Result (Option ℕ) EncoderError
item_from (byte b) = Ok (Some b)
item_from finished = Ok None
item_from (no_byte k) = Err (cond (eqb k 1) EncoderErr.PayloadTooLong EncoderErr.BadState)

item_back : (r : Result (Option ℕ) EncoderError) → item_from (next_answer r) ≡ r
unfolding item_from
item_back (Ok (Some b)) = refl
item_back (Ok None) = refl
item_back (Err EncoderErr.PayloadTooLong) = refl
item_back (Err EncoderErr.BadState) = refl

pub next_one : (r r' : Given) → step_of r ≡ step_of r' → r ≡ r'
next_one r r' h =
    let a : r.answer ≡ r'.answer = undone next_answer item_from item_back _ _ (ap (λ (s : Step). s.answer) h) in
    let e : r.encoder ≡ r'.encoder = ap (λ (s : Step). s.encoder) h in
    λ i. record { answer = a i; encoder = e i }

pub views : Views
views =
    record {
      next = next_one;
      encoded = encode_one;
    }

pub decided : Decided
decided =
    record {
      new = one_outcome _;
      next = λ self payload. injective step_of views.next _;
      encode = λ payload out. injective (λ (r : With (Result ℕ EncodeError)). after_encode (encode_answer r.answer) r.memory) views.encoded _;
    }
