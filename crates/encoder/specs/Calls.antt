-- claim: one call after the other gives the frame's bytes, and then finished for ever.
use Rattle.std.specs.Prelude.{◌≡◌, List, [], ◌∷◌, ◌++◌, map, ℕ, zero, suc, ◌+◌, ◌≤◌, length, replicate}
use Rattle.frame.specs.Frame.{frame_of}
use Rattle.encoder.specs.declared.Encoder.{Encoder}
use Rattle.refusals.specs.Numbers.{limit}
use Rattle.encoder.specs.Encoder.{NextAnswer, byte, finished, fresh_encoder, next_step}

-- what n calls answer, each with the Encoder that the one before left
unfoldable pub calls : ℕ → Encoder → List ℕ → List NextAnswer
calls zero e payload = []
calls (suc n) e payload = (next_step e payload).answer ∷ calls n (next_step e payload).encoder payload

-- from a fresh Encoder: the frame's bytes, one a call, then finished at every later call
abbrev pub GivesTheFrame : Type 0
GivesTheFrame =
    (payload : List ℕ) → length payload ≤ limit
    → (more : ℕ) → calls (length (frame_of payload) + more) fresh_encoder payload ≡ map byte (frame_of payload) ++ replicate more finished
