-- What the contracts rule out: each wrong reading of docs/WRONG-READINGS.md that is told here is an outcome that the definition does not allow.
use mathlib.Core.Path.{◌≡◌, ap, sym, ◌∙◌}
use mathlib.Core.List.{List, [], ◌∷◌}
use Prim.Native.Nat.{ℕ, ◌<◌}
use native.Mathlib.Omega.{arith}
use lib.ListN.{length}
use lib.IntN.{pos, negsuc}
use lib.Dec.{leb}
use borrow.Author.Tests.{le-leb, lt-leb, le-ltb}
use Rattle.crc_x25.specs.Crc.{start, reflect, polynomial, bit_step, bit_steps, byte_step, register}
use Rattle.frame.specs.Frame.{frame_of}
use Rattle.frame.proofs.Cases.{by_test}
use Rattle.refusals.specs.Numbers.{limit}
use Rattle.encoder.specs.Encode.{EncodeAnswer, length_is, no_frame, encode_answer, AfterEncode, after_encode, encode_to}
use Rattle.encoder.specs.Encoder.{NextAnswer, byte, finished, no_byte, Step, step_of, encoder_at, fresh_encoder, ended, step_from, bad_encoder, next_step}
use Rattle.std.specs.Prelude.{Some, None, Ok, Err}
use Rattle.encoder.specs.declared.EncodeError.TheVariants.{PayloadTooLong, OutOfMemory}
use Rattle.encoder.specs.declared.Encoder.{Encoder}
use Rattle.encoder.specs.declared.EncoderState.{EncoderState}
use Rattle.encoder.specs.declared.EncoderState.TheVariants.{Init, LookingForEscape, HandlingEscape, End}
use Rattle.encoder.specs.declared.EncoderError.TheVariants as EncoderErr
use Rattle.encoder.proofs.Encodes.{encode_long}

-- the number of a refusal
number_of : EncodeAnswer → ℕ
number_of (length_is n) = 0
number_of (no_frame k) = k

-- the same of an Encoder's answer
refused_next : NextAnswer → ℕ
refused_next (byte b) = 0
refused_next finished = 0
refused_next (no_byte k) = k

-- 1 for finished
is_over : NextAnswer → ℕ
is_over (byte b) = 0
is_over finished = 1
is_over (no_byte k) = 0

-- how much of the start an Encoder has given
starts_at : EncoderState → ℕ
starts_at (Init n) = n
starts_at (LookingForEscape n) = 9
starts_at (HandlingEscape n) = 9
starts_at (End n) = 9

-- where the payload is too long, 1 is answered, whatever the output is
room_before_length : (P out left : List ℕ) → limit < length P → after_encode (encode_answer (Err OutOfMemory)) left ≡ encode_to P out → ⊥
unfolding number_of
room_before_length P out left long h = let n : ◌≡◌ {A = ℕ} 1 2 = ap (λ (a : AfterEncode). number_of a.answer) (encode_long P out long ∙ sym h) in omega (arith, n)

-- ---- BadState, clause by clause: of no payload, but for the first

-- the position is beyond a payload of one byte
place_beyond_the_payload_is_good : (b : ℕ) (e : Encoder) → step_of (record { answer = Ok (Some b); encoder = e }) ≡ next_step (encoder_at (Init 0) 2 0) (0x12 ∷ []) → ⊥
unfolding next_step bad_encoder refused_next
place_beyond_the_payload_is_good b e h = let n : ◌≡◌ {A = ℕ} 0 4 = ap (λ (s : Step). refused_next s.answer) h in omega (arith, n)

-- the start has eight bytes
init_nine_is_good : (b : ℕ) (e : Encoder) → step_of (record { answer = Ok (Some b); encoder = e }) ≡ next_step (encoder_at (Init 9) 0 0) [] → ⊥
unfolding next_step bad_encoder refused_next
init_nine_is_good b e h = let n : ◌≡◌ {A = ℕ} 0 4 = ap (λ (s : Step). refused_next s.answer) h in omega (arith, n)

-- behind four 1b of a run four more are due
run_of_five_is_good : (b : ℕ) (e : Encoder) → step_of (record { answer = Ok (Some b); encoder = e }) ≡ next_step (encoder_at (LookingForEscape 5) 0 0) [] → ⊥
unfolding next_step bad_encoder refused_next
run_of_five_is_good b e h = let n : ◌≡◌ {A = ℕ} 0 4 = ap (λ (s : Step). refused_next s.answer) h in omega (arith, n)

-- an escape has four
escape_of_five_is_good : (b : ℕ) (e : Encoder) → step_of (record { answer = Ok (Some b); encoder = e }) ≡ next_step (encoder_at (HandlingEscape 5) 0 0) [] → ⊥
unfolding next_step bad_encoder refused_next
escape_of_five_is_good b e h = let n : ◌≡◌ {A = ℕ} 0 4 = ap (λ (s : Step). refused_next s.answer) h in omega (arith, n)

-- at most three pads stand before the end
end_at_minus_four_is_good : (b : ℕ) (e : Encoder) → step_of (record { answer = Ok (Some b); encoder = e }) ≡ next_step (encoder_at (End (negsuc 3)) 0 0) [] → ⊥
unfolding next_step bad_encoder refused_next
end_at_minus_four_is_good b e h = let n : ◌≡◌ {A = ℕ} 0 4 = ap (λ (s : Step). refused_next s.answer) h in omega (arith, n)

-- the end has eight bytes
end_at_nine_is_good : (e : Encoder) → step_of (record { answer = Ok None; encoder = e }) ≡ next_step (encoder_at (End (pos 9)) 0 0) [] → ⊥
unfolding next_step bad_encoder refused_next
end_at_nine_is_good e h = let n : ◌≡◌ {A = ℕ} 0 4 = ap (λ (s : Step). refused_next s.answer) h in omega (arith, n)

-- End 8 is good: all is given
end_at_eight_is_bad : (e : Encoder) → step_of (record { answer = Err EncoderErr.BadState; encoder = e }) ≡ next_step (encoder_at (End (pos 8)) 0 0) [] → ⊥
unfolding next_step bad_encoder step_from refused_next
end_at_eight_is_bad e h = let n : ◌≡◌ {A = ℕ} 4 0 = ap (λ (s : Step). refused_next s.answer) h in omega (arith, n)

-- ---- lengths

-- a payload that is too long is 1, whatever the Encoder is
bad_state_before_length : (e d : Encoder) (P : List ℕ) → limit < length P → step_of (record { answer = Err EncoderErr.BadState; encoder = e }) ≡ next_step d P → ⊥
unfolding next_step refused_next
bad_state_before_length e d P long h =
    let n : ◌≡◌ {A = ℕ} 4 1 = rw (lt-leb (length P) limit long) at (ap (λ (s : Step). refused_next s.answer) h) in
    omega (arith, n)

-- a payload of the limit is encoded, or the output is too short for it
payload_at_the_limit_refused : (P out left : List ℕ) → length P ≡ limit → after_encode (encode_answer (Err PayloadTooLong)) left ≡ encode_to P out → ⊥
unfolding encode_to number_of
payload_at_the_limit_refused P out left is h = not_one (sym (ap (λ (a : AfterEncode). number_of a.answer) h))
  where
    not_one : number_of (encode_to P out).answer ≡ 1 → ⊥
    not_one =
        rw (le-leb (length P) limit (omega (arith, is)))
        (by_test (λ (a : AfterEncode). number_of a.answer ≡ 1 → ⊥) (leb (length (frame_of P)) (length out)) _ _ (λ t e. omega (arith, e)) (λ t e. omega (arith, e)))

-- a new Encoder gives the start first
encoder_begins_behind_the_start : (e : Encoder) → e.state ≡ Init 8 → e ≡ fresh_encoder → ⊥
unfolding fresh_encoder starts_at
encoder_begins_behind_the_start e s h = let n : ◌≡◌ {A = ℕ} 8 0 = ap starts_at (sym s ∙ ap (λ (x : Encoder). x.state) h) in omega (arith, n)

-- a byte over the limit is 1, not a frame
long_payload_encoded : (n : ℕ) (P out left : List ℕ) → limit < length P → after_encode (encode_answer (Ok n)) left ≡ encode_to P out → ⊥
unfolding number_of
long_payload_encoded n P out left long h = let k : ◌≡◌ {A = ℕ} 1 0 = ap (λ (a : AfterEncode). number_of a.answer) (encode_long P out long ∙ sym h) in omega (arith, k)

-- and not a byte
long_payload_begun : (b : ℕ) (e d : Encoder) (P : List ℕ) → limit < length P → step_of (record { answer = Ok (Some b); encoder = e }) ≡ next_step d P → ⊥
unfolding next_step refused_next
long_payload_begun b e d P long h =
    let n : ◌≡◌ {A = ℕ} 0 1 = rw (lt-leb (length P) limit long) at (ap (λ (s : Step). refused_next s.answer) h) in
    omega (arith, n)

-- a payload of the limit is not: an Encoder gives its start's first byte
encoder_at_the_limit_refused : (e : Encoder) (P : List ℕ) → length P ≡ limit → step_of (record { answer = Err EncoderErr.PayloadTooLong; encoder = e }) ≡ next_step (encoder_at (Init 0) 0 0) P → ⊥
unfolding next_step bad_encoder step_from refused_next
encoder_at_the_limit_refused e P is h =
    let n : ◌≡◌ {A = ℕ} 1 0 = rw (le-leb (length P) limit (omega (arith, is)), le-ltb (length P) 0 (omega arith)) at (ap (λ (s : Step). refused_next s.answer) h) in
    omega (arith, n)

-- its register stands behind the start's eight bytes, not behind four of them
encoder_crc_without_start : (e : Encoder) → e.crc ≡ register start (0x01 ∷ 0x01 ∷ 0x01 ∷ 0x01 ∷ []) → e ≡ fresh_encoder → ⊥
unfolding fresh_encoder reflect polynomial bit_step bit_steps byte_step register
encoder_crc_without_start e is h = let n = sym is ∙ ap (λ (x : Encoder). x.crc) h in omega (arith, n)

-- End 7 has a byte to give, the CRC's second
finished_too_early : (e : Encoder) → step_of (record { answer = Ok None; encoder = e }) ≡ next_step (encoder_at (End (pos 7)) 0 0) [] → ⊥
unfolding next_step bad_encoder step_from ended is_over
finished_too_early e h = let n : ◌≡◌ {A = ℕ} 1 0 = ap (λ (s : Step). is_over s.answer) h in omega (arith, n)
