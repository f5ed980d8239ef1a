-- claim: encode writes the frame, and an Encoder's calls give encode's bytes, one a call, then finished for ever.
use Rattle.std.specs.Prelude.{◌≡◌, List, [], ◌∷◌, ◌++◌, map, ℕ, zero, suc, ◌+◌, ◌≤◌, length, replicate}
use Rattle.frame.specs.Frame.{frame_of}
use Rattle.encoder.specs.declared.Encoder.{Encoder}
use Rattle.refusals.specs.Numbers.{limit}
use Rattle.encoder.specs.Encoder.{NextAnswer, byte, finished, fresh_encoder, next_step}
use Rattle.marks.specs.Mark3.{Encode, Job, wrote_for}

-- what a call gave: its answer, and the encoder for the next call
pub record CalledOnce (E : Type 0) : Type 0 where
  pub answer : NextAnswer
  pub encoder : E

-- an encoder that keeps an E: a new one, and what a call gives, with the payload lent
pub record Caller (E : Type 0) : Type 0 where
  pub new : E
  pub next : E → List ℕ → CalledOnce E

-- ours, by the definitions that the contracts of Encoder::new and Encoder::next cite
abbrev pub our_encoder : Caller Encoder
our_encoder = record { new = fresh_encoder; next = λ e payload. record { answer = (next_step e payload).answer; encoder = (next_step e payload).encoder } }

-- what n calls answer, each with the encoder that the one before left
unfoldable pub calls_of : {E : Type 0} → Caller E → ℕ → E → List ℕ → List NextAnswer
calls_of K zero e payload = []
calls_of K (suc n) e payload =
    let t = K.next e payload in
    t.answer ∷ calls_of K n t.encoder payload

-- a payload of at most 1,048,576 bytes (else 1) and an output that takes its frame (else encode answers 2): what encode wrote is the frame, and a new encoder gives these bytes, one a call, then finished at every later call
abbrev pub SameBytes : {E : Type 0} → Caller E → Encode → Type 0
SameBytes K encode =
    (j : Job) → length j.payload ≤ limit → length (frame_of j.payload) ≤ length j.output
    → (wrote_for encode j ≡ frame_of j.payload)
    × ((more : ℕ) → calls_of K (length (wrote_for encode j) + more) K.new j.payload ≡ map byte (wrote_for encode j) ++ replicate more finished)
