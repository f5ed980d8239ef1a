-- What the contracts rule out: each wrong reading of docs/WRONG-READINGS.md that is told here is an outcome that the definition does not allow, at a small input.
use mathlib.Core.Path.{◌≡◌, ap}
use mathlib.Core.List.{List, [], ◌∷◌}
use Rattle.std.specs.Prelude.{false, Option, Some, Result, Ok}
use Prim.Native.Nat.{ℕ}
use native.Mathlib.Omega.{arith}
use lib.ListN.{replicate, get_or}
use Rattle.crc_x25.specs.Crc.{reflect, polynomial, bit_step, bit_steps, byte_step, register}
use Rattle.encoder.specs.Encoder.{Step, NextAnswer, byte, finished, no_byte, step_of, encoder_at, fresh_encoder, step_from, bad_encoder, next_step}
use Rattle.encoder.specs.declared.EncoderState.{EncoderState}
use Rattle.encoder.specs.declared.EncoderState.TheVariants.{Init, LookingForEscape, HandlingEscape, End}
use Rattle.encoder.specs.declared.EncoderError.{EncoderError}
use Rattle.encoder.specs.declared.Encoder.{Encoder}
use Rattle.decoder.specs.Push.{sized, search, begun, searching, store, step, finalized, reset_count}
use Rattle.decoder.specs.Record.{Event, DecoderAnswer, nothing, payload, count, refusal, After, Left, after_push, after_finalize, after_reset, wrote, bad_decoder, wrong_buffer, new_record, record_of, pushed, push_record, finalize_record, reset_record}
use Rattle.decoder.specs.declared.Decoder.{Decoder}
use Rattle.decoder_slice.specs.Slice.{Took, after_slice, pushes_from, slice_record}

-- a new decoder of capacity 8, the same behind the byte 1b, and one in whose frame nothing is stored yet
abbrev new8 : Decoder
new8 = new_record (sized 8)

abbrev behind1b : Decoder
behind1b = record_of (sized 8) (search 1 0 1)

abbrev begun8 : Decoder
begun8 = record_of (sized 8) begun

abbrev eight_zeros : List ℕ
eight_zeros = replicate 8 0

-- ---- the push

in_place_push_keeps_the_decoder : (e : Event) (m : List ℕ) → after_push (record { decoder = new8; event = e }) m ≡ push_record new8 eight_zeros 0x1b → ⊥
unfolding push_record pushed bad_decoder wrong_buffer step searching
in_place_push_keeps_the_decoder e m h = let raw : ◌≡◌ {A = ℕ} 0 1 = ap (λ (a : After). a.decoder.raw_msg_len) h in omega (arith, raw)

in_place_push_keeps_the_buffer : (d : Decoder) (e : Event) → after_push (record { decoder = d; event = e }) eight_zeros ≡ push_record begun8 eight_zeros 0x12 → ⊥
unfolding push_record pushed bad_decoder wrong_buffer wrote step store reflect polynomial bit_step bit_steps byte_step register
in_place_push_keeps_the_buffer d e h = let first : ◌≡◌ {A = ℕ} 0 0x12 = ap (λ (a : After). get_or a.memory 0 0) h in omega (arith, first)

-- ---- finalize and reset

in_place_finalize_keeps_the_decoder : (e : Event) → after_finalize (record { decoder = behind1b; event = e }) ≡ finalize_record behind1b → ⊥
unfolding finalize_record bad_decoder finalized
in_place_finalize_keeps_the_decoder e h = let raw : ◌≡◌ {A = ℕ} 1 0 = ap (λ (l : Left). l.decoder.raw_msg_len) h in omega (arith, raw)

-- how many bytes an answer says are lost
lost : DecoderAnswer → ℕ
lost nothing = 0
lost (payload bytes) = 0
lost (count n) = n
lost (refusal k values) = get_or values 0 0

-- asked behind its new beginning, a decoder has lost nothing
in_place_finalize_judges_the_new_decoder : (d : Decoder) → after_finalize (record { decoder = d; event = Ok false }) ≡ finalize_record behind1b → ⊥
unfolding finalize_record bad_decoder finalized lost
in_place_finalize_judges_the_new_decoder d h = let n : ◌≡◌ {A = ℕ} 0 1 = ap (λ (l : Left). lost l.answer) h in omega (arith, n)

in_place_reset_keeps_the_decoder : (n : ℕ) → after_reset (record { decoder = behind1b; count = n }) ≡ reset_record behind1b → ⊥
unfolding reset_record reset_count
in_place_reset_keeps_the_decoder n h = let raw : ◌≡◌ {A = ℕ} 1 0 = ap (λ (l : Left). l.decoder.raw_msg_len) h in omega (arith, raw)

in_place_reset_counts_the_new_decoder : (d : Decoder) → after_reset (record { decoder = d; count = 0 }) ≡ reset_record behind1b → ⊥
unfolding reset_record reset_count lost
in_place_reset_counts_the_new_decoder d h = let n : ◌≡◌ {A = ℕ} 0 1 = ap (λ (l : Left). lost l.answer) h in omega (arith, n)

-- ---- the push of a slice

in_place_slice_keeps_the_decoder : (e : Event) (taken : ℕ) (m : List ℕ) → after_slice (record { decoder = new8; event = e; taken = taken }) m ≡ slice_record new8 eight_zeros (0x1b ∷ []) → ⊥
unfolding slice_record pushes_from push_record pushed bad_decoder wrong_buffer step searching
in_place_slice_keeps_the_decoder e taken m h = let raw : ◌≡◌ {A = ℕ} 0 1 = ap (λ (t : Took). t.decoder.raw_msg_len) h in omega (arith, raw)

in_place_slice_keeps_the_buffer : (d : Decoder) (e : Event) (taken : ℕ) → after_slice (record { decoder = d; event = e; taken = taken }) eight_zeros ≡ slice_record begun8 eight_zeros (0x12 ∷ []) → ⊥
unfolding slice_record pushes_from push_record pushed bad_decoder wrong_buffer wrote step store reflect polynomial bit_step bit_steps byte_step register
in_place_slice_keeps_the_buffer d e taken h = let first : ◌≡◌ {A = ℕ} 0 0x12 = ap (λ (t : Took). get_or t.memory 0 0) h in omega (arith, first)

-- ---- the Encoder

-- how far into the start an Encoder is
started : EncoderState → ℕ
started (Init n) = n
started (LookingForEscape n) = 8
started (HandlingEscape n) = 8
started (End n) = 8

in_place_next_keeps_the_encoder : (i : Result (Option ℕ) EncoderError) → step_of (record { answer = i; encoder = fresh_encoder }) ≡ next_step fresh_encoder [] → ⊥
unfolding next_step bad_encoder step_from fresh_encoder started reflect polynomial bit_step bit_steps byte_step register
in_place_next_keeps_the_encoder i h = let n : ◌≡◌ {A = ℕ} 0 1 = ap (λ (s : Step). started s.encoder.state) h in omega (arith, n)

-- the byte that an answer gives
byte_given : NextAnswer → ℕ
byte_given (byte b) = b
byte_given finished = 256
byte_given (no_byte n) = 256

-- the fourth byte of a start is 1b; the Encoder that this call leaves would give the fifth, 01
in_place_next_judges_the_new_encoder : (e : Encoder) (reg : ℕ) → step_of (record { answer = Ok (Some 0x01); encoder = e }) ≡ next_step (encoder_at (Init 3) 0 reg) [] → ⊥
unfolding next_step bad_encoder step_from byte_given
in_place_next_judges_the_new_encoder e reg h = let b : ◌≡◌ {A = ℕ} 0x01 0x1b = ap (λ (s : Step). byte_given s.answer) h in omega (arith, b)
