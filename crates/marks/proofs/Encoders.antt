-- The Encoder's calls give encode's bytes.
use mathlib.Core.Path.{◌≡◌, refl, ap, ◌∙◌}
use mathlib.Core.List.{List, ◌∷◌}
use Prim.Native.Nat.{ℕ, zero, suc, ◌+◌}
use lib.ListN.{length}
use Rattle.frame.specs.Frame.{frame_of}
use Rattle.encoder.specs.declared.Encoder.{Encoder}
use Rattle.encoder.specs.Encode.{encode_to}
use Rattle.encoder.specs.Encoder.{NextAnswer, fresh_encoder, next_step}
use Rattle.encoder.specs.Calls as E
use Rattle.encoder.proofs.Calls.{gives_the_frame}
use Rattle.marks.specs.Encoders.{our_encoder, calls_of, SameBytes}
use Rattle.marks.proofs.Recovery.{wrote_frame}

calls_are : (n : ℕ) (e : Encoder) (P : List ℕ) → calls_of our_encoder n e P ≡ E.calls n e P
unfolding calls_of E.calls
calls_are zero e P = refl
calls_are (suc n) e P = ap (λ (l : List NextAnswer). (next_step e P).answer ∷ l) (calls_are n (next_step e P).encoder P)

pub same_bytes : SameBytes our_encoder encode_to
same_bytes j short room =
    let w = wrote_frame j short room in (
      w,
      λ more. rw w (calls_are (length (frame_of j.payload) + more) fresh_encoder j.payload ∙ gives_the_frame j.payload short more),
    )
