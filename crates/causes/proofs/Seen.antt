-- What is seen of a recording over the state of the push rules: its losses are those of the one run.
use mathlib.Core.Path.{◌≡◌, refl, ap, sym, ◌∙◌}
use mathlib.Core.Bool.{true, false, cond}
use mathlib.Core.List.{List, [], ◌∷◌, ◌++◌}
use Prim.Native.Nat.{ℕ, suc, ◌+◌, ◌-◌}
use native.Mathlib.Omega.{arith}
use lib.ListN.{length, take, length-append, length-take}
use lib.Seq.{take_at}
use Rattle.frame.specs.Frame.{start_seq}
use Rattle.decoder.specs.Push.{State, done, Out, fresh, begun, step, finalized}
use Rattle.decoder.specs.Record.{DecoderAnswer, nothing, payload, count, refusal, numbered}
use Rattle.decoder.specs.declared.Setup.{Setup}
use Rattle.decoder.proofs.Saw.{saw}
use Rattle.decoder_slice.specs.Slice.{says_nothing}
use Rattle.since.specs.Bytes.{grown_since}
use Rattle.losses.specs.Loss.{piece_of, loss_at, LossSaid, lost_is, none_lost, is_refusal, hands_out}
use Rattle.losses.specs.Watch.{WatchSaid, quietly, kept_over, lost_over, over_of}
use Rattle.losses.specs.declared.Loss.{Loss}
use Rattle.causes.specs.Calls.{losses_among}
use Rattle.causes.proofs.Links.{LeftBy, quiet_left, paid_left, start_left, gone_left, left_saw, losses_in}

-- what the answer to the byte b brings, with h read since `at`
abbrev pub seen_by : ℕ → List ℕ → ℕ → DecoderAnswer → WatchSaid
seen_by at h b nothing = quietly
seen_by at h b (payload P) = kept_over (suc at) (at + length (h ++ b ∷ []))
seen_by at h b (count k) = quietly
seen_by at h b (refusal k v) = lost_over (loss_at false (refusal k v) at h (piece_of (refusal k v) (h ++ b ∷ [])))

unfoldable pub seen_in : Setup → State → ℕ → List ℕ → List ℕ → List WatchSaid
seen_in C s at h [] = []
seen_in C s at h (b ∷ bytes) =
    let o : Out = step C s b in
    let a : DecoderAnswer = numbered o.event in
    cond (says_nothing a) (seen_in C o.state at (h ++ b ∷ []) bytes) (seen_by at h b a ∷ seen_in C o.state (at + over_of a (length (h ++ b ∷ []))) (grown_since a h b) bytes)

-- what the end says
unfoldable pub end_in : Setup → State → ℕ → List ℕ → List ℕ → LossSaid
end_in C s at h [] =
    let a : DecoderAnswer = numbered (finalized s) in
    cond (is_refusal a) (lost_is (loss_at true a at h h)) none_lost
end_in C s at h (b ∷ bytes) =
    let o : Out = step C s b in
    let a : DecoderAnswer = numbered o.event in
    cond (says_nothing a) (end_in C o.state at (h ++ b ∷ []) bytes) (end_in C o.state (at + over_of a (length (h ++ b ∷ []))) (grown_since a h b) bytes)

-- ---- the losses

final_among : (at : ℕ) (h : List ℕ) (a : DecoderAnswer) → losses_among [] (cond (is_refusal a) (lost_is (loss_at true a at h h)) none_lost) ≡ cond (is_refusal a) (loss_at true a at h h ∷ []) []
unfolding losses_among
final_among at h nothing = refl
final_among at h (payload P) = refl
final_among at h (count k) = refl
final_among at h (refusal k v) = refl

pub over_eight : (g : List ℕ) → length g - 8 ≡ length (take (length g - 8) g)
over_eight g = sym (length-take (length g - 8) g ∙ omega arith)

pub less_eight_claim : (g x : List ℕ) → g ≡ x ++ start_seq → take (length g - 8) g ≡ x
less_eight_claim g x e = rw e (take_at x start_seq (length (x ++ start_seq) - 8) (simp length-append (omega arith)))

module _ (C : Setup) (bytes : List ℕ) (ih : (s : State) (at : ℕ) (h : List ℕ) → losses_among (seen_in C s at h bytes) (end_in C s at h bytes) ≡ losses_in C s at h bytes) (at : ℕ) (h : List ℕ) (b : ℕ) where
  abbrev g : List ℕ
  g = h ++ b ∷ []

  among_event : (o : Out) → LeftBy o
      → (let a : DecoderAnswer = numbered o.event in
      losses_among (cond (says_nothing a) (seen_in C o.state at g bytes) (seen_by at h b a ∷ seen_in C o.state (at + over_of a (length g)) (grown_since a h b) bytes))
      (cond (says_nothing a) (end_in C o.state at g bytes) (end_in C o.state (at + over_of a (length g)) (grown_since a h b) bytes))
      ≡ cond (is_refusal a) (loss_at false a at h (piece_of a g) ∷ losses_in C o.state (at + length (piece_of a g)) (grown_since a h b) bytes)
      (cond (hands_out a) (losses_in C o.state (at + length g) [] bytes) (losses_in C o.state at g bytes)))
  unfolding losses_among
  among_event o (quiet_left t) = ih t at g
  among_event o (paid_left P) = ih (done P) (at + length g) []
  among_event o (start_left k) =
      ap (λ (x : List Loss). loss_at false (refusal 6 (k ∷ [])) at h (take (length g - 8) g) ∷ x) (ih begun (at + (length g - 8)) start_seq ∙ ap (λ (n : ℕ). losses_in C begun (at + n) start_seq bytes) (over_eight g))
  among_event o (gone_left e k v q ne of) = rw (q, ne) (ap (λ (x : List Loss). loss_at false (refusal k v) at h g ∷ x) (ih fresh (at + length g) []))

pub seen_losses : (C : Setup) (bytes : List ℕ) (s : State) (at : ℕ) (h : List ℕ) → losses_among (seen_in C s at h bytes) (end_in C s at h bytes) ≡ losses_in C s at h bytes
unfolding seen_in end_in losses_in
seen_losses C [] s at h = final_among at h (numbered (finalized s))
seen_losses C (b ∷ bytes) s at h = among_event C bytes (seen_losses C bytes) at h b (step C s b) (left_saw C s b (step C s b) (saw C s b))
