-- rule: the Encoder's next byte, with document 01's numbers. An Encoder holds where it is in the frame, its place
-- in the payload, and the CRC register.
use Rattle.std.specs.Prelude.{Bool, true, false, cond, List, [], ◌∷◌, ◌++◌, ℕ, suc, ◌/◌, ◌%◌, length, get_or, replicate, ℤ, pos, negsuc, neg_ℤ, eqb, ltb, leb, Option, Some, None, Result, Ok, Err}
use Rattle.std.proofs.Math.IntN.{suc_ℤ}
use Rattle.crc_x25.specs.Crc.{start, byte_step, register, final_xor}
use Rattle.refusals.specs.Numbers.{payload_too_long_no, bad_state_no, limit}
use Rattle.frame.specs.Frame.{esc_seq, start_seq, missing}
use Rattle.encoder.specs.declared.Encoder.{Encoder}
use Rattle.encoder.specs.declared.EncoderState.{EncoderState}
use Rattle.encoder.specs.declared.EncoderState.TheVariants.{Init, LookingForEscape, HandlingEscape, End}
use Rattle.encoder.specs.declared.Given.{Given}
use Rattle.encoder.specs.declared.EncoderError.{EncoderError}
use Rattle.encoder.specs.declared.EncoderError.TheVariants.{PayloadTooLong, BadState}

pub data NextAnswer : Type 0 where
  byte : ℕ → NextAnswer
  finished : NextAnswer
  no_byte : ℕ → NextAnswer  -- document 01's number

abbrev pub next_answer : Result (Option ℕ) EncoderError → NextAnswer
next_answer (Ok (Some b)) = byte b
next_answer (Ok None) = finished
next_answer (Err PayloadTooLong) = no_byte payload_too_long_no
next_answer (Err BadState) = no_byte bad_state_no

-- an answer, and the Encoder for the next call
pub record Step : Type 0 where
  pub answer : NextAnswer
  pub encoder : Encoder

abbrev pub step_to : NextAnswer → Encoder → Step
step_to answer e = record { answer = answer; encoder = e }

abbrev pub step_of : Given → Step
step_of g = step_to (next_answer g.answer) g.encoder

abbrev pub encoder_at : EncoderState → ℕ → ℕ → Encoder
encoder_at state place crc = record { state = state; place = place; crc = crc }

-- an Encoder that gave nothing yet: its register stands behind the start
unfoldable pub fresh_encoder : Encoder
fresh_encoder = encoder_at (Init 0) 0 (register start start_seq)

-- 0 to 3 zero bytes, 1b1b1b1b 1a, the pad count
abbrev pub end_of : ℕ → List ℕ
end_of pad = replicate pad 0x00 ++ esc_seq ++ (0x1a ∷ pad ∷ [])

-- the end's byte n, counted from its first 1b: pad bytes stand before it, the CRC at 6 and 7, low byte first
abbrev pub end_byte : ℤ → ℕ → ℕ → ℕ
end_byte (negsuc n) pad crc = 0x00
end_byte (pos n) pad crc = get_or (esc_seq ++ (0x1a ∷ pad ∷ crc % 256 ∷ crc / 256 ∷ [])) n 0x00

-- End runs from -3 to 8; at 8 all is given
abbrev pub bad_end : ℤ → Bool
bad_end (negsuc n) = ltb 2 n
bad_end (pos n) = ltb 8 n

abbrev pub last_end : ℤ → Bool
last_end (negsuc n) = false
last_end (pos n) = leb 8 n

unfoldable pub ended : ℤ → ℕ → ℕ → Step
ended n place reg = step_to (byte (end_byte n (missing place) (final_xor reg))) (encoder_at (End (suc_ℤ n)) place reg)

-- the 1b of a run, with the byte b more
abbrev pub run_of : ℕ → ℕ → ℕ
run_of n b = cond (eqb b 0x1b) (suc n) 0

-- the payload's next byte, behind n 1b of a run; behind the payload the end's first, its pads, escape and pad count in the register
unfoldable pub looked : ℕ → ℕ → ℕ → List ℕ → Step
looked n place reg payload =
    let b = get_or payload place 0 in
    let pad = missing place in
    cond (ltb place (length payload))
    (step_to (byte b) (encoder_at (LookingForEscape (run_of n b)) (suc place) (byte_step reg b)))
    (ended (neg_ℤ (pos pad)) place (register reg (end_of pad)))

-- the start; payload bytes, and four more 1b behind four of a run; the end. Where the start or an escape is whole, the payload's next
-- byte comes in the same call; finished leaves the Encoder as it is
unfoldable pub step_from : EncoderState → ℕ → ℕ → List ℕ → Step
step_from (Init n) place reg payload =
    cond (ltb n 8) (step_to (byte (get_or start_seq n 0)) (encoder_at (Init (suc n)) place reg)) (looked 0 place reg payload)
step_from (LookingForEscape n) place reg payload =
    cond (ltb n 4) (looked n place reg payload) (step_to (byte 0x1b) (encoder_at (HandlingEscape 1) place (register reg esc_seq)))
step_from (HandlingEscape n) place reg payload =
    cond (ltb n 4) (step_to (byte 0x1b) (encoder_at (HandlingEscape (suc n)) place reg)) (looked 0 place reg payload)
step_from (End n) place reg payload = cond (last_end n) (step_to finished (encoder_at (End n) place reg)) (ended n place reg)

-- Init over 8, either escape count over 4, End outside -3 to 8
abbrev pub bad_count : EncoderState → Bool
bad_count (Init n) = ltb 8 n
bad_count (LookingForEscape n) = ltb 4 n
bad_count (HandlingEscape n) = ltb 4 n
bad_count (End n) = bad_end n

-- the position beyond its payload, which is len long, or a bad count
unfoldable pub bad_encoder : Encoder → ℕ → Bool
bad_encoder e len = cond (ltb len e.place) true (bad_count e.state)

unfoldable pub next_step : Encoder → List ℕ → Step
next_step e payload =
    cond (leb (length payload) limit)
    (cond (bad_encoder e (length payload)) (step_to (no_byte bad_state_no) e) (step_from e.state e.place e.crc payload))
    (step_to (no_byte payload_too_long_no) e)
