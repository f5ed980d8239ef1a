-- The vectors of transport.rs on encode that are not on the bench sheet, and the Encoder's, by computation over the definitions.
use mathlib.Core.Path.{◌≡◌, refl}
use mathlib.Core.List.{List, [], ◌∷◌, ◌++◌, map}
use Prim.Native.Nat.{ℕ}
use lib.ListN.{replicate}
use Rattle.crc_x25.specs.Crc.{reflect, polynomial, bit_step, bit_steps, byte_step, register, final_xor, crc_of}
use Rattle.frame.specs.Frame.{escaped, closed, frame_of}
use Rattle.encoder.specs.Encode.{length_is, after_encode, encode_to}
use Rattle.encoder.specs.Encode as E
use Rattle.encoder.specs.Encoder.{byte, finished, no_byte, step_to, encoder_at, fresh_encoder, ended, looked, step_from, bad_encoder, next_step}
use Rattle.encoder.specs.declared.EncoderState.{EncoderState}
use Rattle.encoder.specs.declared.EncoderState.TheVariants.{Init, LookingForEscape, HandlingEscape, End}
use lib.IntN.{pos, negsuc}
use Rattle.encoder.specs.Calls.{calls}

abbrev p1 : List ℕ
p1 = 0x12 ∷ 0x34 ∷ 0x56 ∷ 0x78 ∷ []

abbrev p2 : List ℕ
p2 = 0x01 ∷ 0x02 ∷ 0x03 ∷ 0x1b ∷ 0x1b ∷ []

abbrev f1 : List ℕ
f1 = 0x1b ∷ 0x1b ∷ 0x1b ∷ 0x1b ∷ 0x01 ∷ 0x01 ∷ 0x01 ∷ 0x01 ∷ 0x12 ∷ 0x34 ∷ 0x56 ∷ 0x78 ∷ 0x1b ∷ 0x1b ∷ 0x1b ∷ 0x1b ∷ 0x1a ∷ 0x00 ∷ 0xb8 ∷ 0x7b ∷ []

abbrev f2 : List ℕ
f2 = 0x1b ∷ 0x1b ∷ 0x1b ∷ 0x1b ∷ 0x01 ∷ 0x01 ∷ 0x01 ∷ 0x01 ∷ 0x1b ∷ 0x1b ∷ 0x1b ∷ 0x1b ∷ 0x1b ∷ 0x1b ∷ 0x1b ∷ 0x1b ∷ 0x1b ∷ 0x1b ∷ 0x1b ∷ 0x1b ∷ 0x1a ∷ 0x00 ∷ 0x94 ∷ 0xfc ∷ []

abbrev f3 : List ℕ
f3 = 0x1b ∷ 0x1b ∷ 0x1b ∷ 0x1b ∷ 0x01 ∷ 0x01 ∷ 0x01 ∷ 0x01 ∷ 0x01 ∷ 0x02 ∷ 0x03 ∷ 0x1b ∷ 0x1b ∷ 0x00 ∷ 0x00 ∷ 0x00 ∷ 0x1b ∷ 0x1b ∷ 0x1b ∷ 0x1b ∷ 0x1a ∷ 0x03 ∷ 0x48 ∷ 0x0e ∷ []

abbrev f4 : List ℕ
f4 = 0x1b ∷ 0x1b ∷ 0x1b ∷ 0x1b ∷ 0x01 ∷ 0x01 ∷ 0x01 ∷ 0x01 ∷ 0x1b ∷ 0x1b ∷ 0x1b ∷ 0x1b ∷ 0x1a ∷ 0x00 ∷ 0xc6 ∷ 0xe5 ∷ []

-- four 1b at the payload's end, pads behind a run of two, and no payload, whose CRCs were taken elsewhere
frames : map frame_of ((0x1b ∷ 0x1b ∷ 0x1b ∷ 0x1b ∷ []) ∷ p2 ∷ [] ∷ []) ≡ f2 ∷ f3 ∷ f4 ∷ []
unfolding reflect polynomial bit_step bit_steps byte_step register final_xor crc_of escaped closed frame_of
frames = refl

-- encode's own, of a frame of 20 bytes: an output of 22 keeps its last two, one of 19 refuses
encodes : map (λ n. encode_to p1 (replicate n 0xff)) (22 ∷ 19 ∷ []) ≡ after_encode (length_is 20) (f1 ++ 0xff ∷ 0xff ∷ []) ∷ after_encode (E.no_frame 2) (replicate 19 0xff) ∷ []
unfolding reflect polynomial bit_step bit_steps byte_step register final_xor crc_of escaped closed frame_of encode_to
encodes = refl

-- the escape of transport.rs's first page
escape_example : escaped 0 (0x00 ∷ 0x1b ∷ 0x1b ∷ 0x1b ∷ 0x1b ∷ 0x01 ∷ 0x02 ∷ 0x03 ∷ []) ≡ 0x00 ∷ 0x1b ∷ 0x1b ∷ 0x1b ∷ 0x1b ∷ 0x1b ∷ 0x1b ∷ 0x1b ∷ 0x1b ∷ 0x01 ∷ 0x02 ∷ 0x03 ∷ []
unfolding escaped
escape_example = refl

-- encode_streaming's: the same bytes, one a call, then finished
streams : map (calls 25 fresh_encoder) (p1 ∷ p2 ∷ []) ≡ (map byte f1 ++ replicate 5 finished) ∷ (map byte f3 ++ replicate 1 finished) ∷ []
unfolding reflect polynomial bit_step bit_steps byte_step register final_xor fresh_encoder ended looked step_from bad_encoder next_step calls
streams = refl

abbrev states : List EncoderState
states = Init 9 ∷ LookingForEscape 5 ∷ HandlingEscape 5 ∷ End (negsuc 3) ∷ End (pos 9) ∷ []

-- each bad state that document 01 lists is answered with 4 and left as it is: place, Init, both escape counts, End on both sides
bad_states : map (λ e. next_step e p1) (map (λ s. encoder_at s 0 0) states) ≡ map (λ e. step_to (no_byte 4) e) (map (λ s. encoder_at s 0 0) states)
unfolding bad_encoder next_step
bad_states = refl

bad_place : next_step (encoder_at (Init 0) 5 0) p1 ≡ step_to (no_byte 4) (encoder_at (Init 0) 5 0)
unfolding bad_encoder next_step
bad_place = refl
