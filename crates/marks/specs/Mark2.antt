-- claim: mark 2. A decoder hands out a payload only at the last byte of a sound frame for it, and every sound frame that fits is handed out.
use Rattle.std.specs.Prelude.{◌≡◌, false, cond, List, [], ◌∷◌, ◌++◌, map, ℕ, ◌+◌, ◌≤◌, ◌<◌, length, replicate, eqb}
use Rattle.refusals.specs.Numbers.{decoder_out_of_memory_no, discarded_bytes_no, count_stop}
use Rattle.frame.specs.Frame.{Sound}
use Rattle.decoder.specs.Push.{second_way, stopped}
use Rattle.decoder.specs.Record.{DecoderAnswer, nothing, payload, refusal, setup, bad_decoder, wrong_buffer}
use Rattle.decoder.specs.Run.{Op, push, finalize, reset, brought}
use Rattle.decoder.specs.declared.DecodeState.{DecodeState}
use Rattle.decoder.specs.declared.DecodeState.TheVariants.{LookingForMessageStart, Done}
use Rattle.decoder.specs.declared.Decoder.{Decoder}
use Rattle.decoder.specs.declared.Setup.{Setup}
use Rattle.marks.specs.Decoders.{Machine, Gave, answers, behind_of, bytes_since, frame_says}

-- ---- soundness

-- what is pushed are bytes: a push takes a u8, so every call is such
abbrev pub PushesBytes : List Op → Type 0
PushesBytes [] = Unit {0}
PushesBytes (push b ∷ os) = (b < 256) × PushesBytes os
PushesBytes (finalize ∷ os) = PushesBytes os
PushesBytes (reset ∷ os) = PushesBytes os

-- the operation o pushes the last byte of a sound frame for P: with it, the bytes `since` end with such a frame
pub record EndsFrame (since : List ℕ) (o : Op) (P : List ℕ) : Type 0 where
  pub last : ℕ
  pub pushes : o ≡ push last
  pub before : List ℕ
  pub frame : List ℕ
  pub ends : since ++ last ∷ [] ≡ before ++ frame
  pub sound : Sound frame P

-- Operations on a new decoder, and one more, all with one buffer, of whatever length. What is handed back is what the last answer brings: its payload, and behind every other answer the empty part.
-- And where that answer is a payload, the operation pushes the last byte of a sound frame for it, which ends the bytes pushed since the last payload, finalize or reset, or else since the start
abbrev pub SoundBehind : {S : Type 0} → Machine S → Setup → List ℕ → List Op → Op → Type 0
SoundBehind {S} M C m os o =
    let a : Gave S = behind_of M (M.new C) m os o in
    (M.payload_of a.decoder a.memory ≡ brought a.answer)
    × ((P : List ℕ) → PushesBytes (os ++ o ∷ []) → a.answer ≡ payload P → EndsFrame (bytes_since os (answers M (M.new C) m os)) o P)

-- of the new decoder too the empty part is handed back
abbrev pub Soundness : {S : Type 0} → Machine S → Type 0
Soundness M = (C : Setup) (m : List ℕ) → (M.payload_of (M.new C) m ≡ []) × ((os : List Op) (o : Op) → SoundBehind M C m os o)

-- ---- completeness

-- the eighth byte of a frame answers DiscardedBytes(noise) if noise is over 0, else no event
abbrev pub eighth : ℕ → DecoderAnswer
eighth noise = cond (eqb noise 0) nothing (refusal discarded_bytes_no (noise ∷ []))

-- the first event behind the eighth byte is 3
pub record NoRoom (noise : ℕ) (heard : List DecoderAnswer) : Type 0 where
  pub quiet : ℕ
  pub rest : List DecoderAnswer
  pub is : heard ≡ replicate 7 nothing ++ eighth noise ∷ (replicate quiet nothing ++ refusal decoder_out_of_memory_no [] ∷ rest)

-- From any search from which a start sequence pushed next is found (`Searching C d m noise`: the decoder d, with the memory m, is one, with this noise before that start), every sound frame, pads of any value. Its data D fits where D's length plus 4 is at most the capacity: then the
-- eighth byte answers for the noise, the last with the payload, and every other nothing. Where it doesn't fit, the first event behind the eighth byte is 3
abbrev pub Completeness : {S : Type 0} → Machine S → (Setup → S → List ℕ → ℕ → Type 0) → Type 0
Completeness {S} M Searching =
    (C : Setup) (d : S) (m : List ℕ) (noise : ℕ) → Searching C d m noise
    → (frame P : List ℕ) (sound : Sound frame P)
    → let heard : List DecoderAnswer = answers M d m (map push frame) in
    (length sound.D + 4 ≤ C.capacity → heard ≡ frame_says (eighth noise) frame P)
    × (C.capacity < length sound.D + 4 → NoRoom noise heard)

-- a state from which a start sequence pushed next is found: a search with nothing matched; in the second way any search, what is matched being noise before that start; or behind a payload, where the next byte begins a search without noise
pub data Ready (way : ℕ) (s : DecodeState) (noise : ℕ) : Type 0 where
  nothing_matched : s ≡ LookingForMessageStart 0 noise → Ready way s noise
  some_matched : (n dropped : ℕ) → way ≡ second_way → s ≡ LookingForMessageStart n dropped → dropped ≤ count_stop → noise ≡ stopped (dropped + n) → Ready way s noise
  behind_payload : s ≡ Done → noise ≡ 0 → Ready way s noise

-- ours: a record in such a state, whatever else it holds, that with this memory is refused neither with 4 nor with 5
pub record OurSearch (C : Setup) (d : Decoder) (m : List ℕ) (noise : ℕ) : Type 0 where
  pub searches : Ready d.way d.state noise
  pub good : bad_decoder d ≡ false
  pub lent : wrong_buffer d.capacity (length m) ≡ false
  pub setup' : setup d ≡ C
