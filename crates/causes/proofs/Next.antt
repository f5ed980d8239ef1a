-- The next loss over the state of the push rules, and where bytes that say nothing lead it.
use mathlib.Core.Path.{◌≡◌, refl, ap, sym, ◌∙◌}
use mathlib.Core.Bool.{Bool, true, false, cond}
use mathlib.Core.List.{List, [], ◌∷◌, ◌++◌, append_assoc, append-nil}
use Prim.Native.Nat.{ℕ, ◌+◌}
use lib.ListN.{length}
use Rattle.decoder.specs.Push.{State, done, silent, Out, says, fresh, step, finalized}
use Rattle.decoder.specs.Record.{DecoderAnswer, numbered, setup, state_of, push_record}
use Rattle.decoder.specs.Run.{push, finalize, act}
use Rattle.decoder.specs.declared.Decoder.{Decoder}
use Rattle.decoder.specs.declared.Setup.{Setup}
use Rattle.decoder.proofs.States.{act_state, answer_state}
use Rattle.decoder.proofs.Faithful.{Fit}
use Rattle.decoder.proofs.Runs.{Acts, acts}
use Rattle.losses.specs.Loss.{piece_of, loss_at, LossSaid, lost_is, none_lost, LossAfter, is_refusal, hands_out, next_behind}
use Rattle.since.proofs.Rules.{Silent, stop, silent_on}

unfoldable pub next_in_state : Setup → State → ℕ → List ℕ → List ℕ → LossSaid
next_in_state C s begun h [] =
    let a : DecoderAnswer = numbered (finalized s) in
    cond (is_refusal a) (lost_is (loss_at true a begun h h)) none_lost
next_in_state C s begun h (b ∷ bytes) =
    let o : Out = step C s b in
    let a : DecoderAnswer = numbered o.event in
    let g : List ℕ = h ++ b ∷ [] in
    cond (is_refusal a) (lost_is (loss_at false a begun h (piece_of a g)))
    (cond (hands_out a) (next_in_state C o.state (begun + length g) [] bytes) (next_in_state C o.state begun g bytes))

-- one push more, by what the step is
pub next_step_lem : (C : Setup) (s : State) (begun : ℕ) (h : List ℕ) (b : ℕ) (bytes : List ℕ) (o : Out) → step C s b ≡ o
    → next_in_state C s begun h (b ∷ bytes) ≡ (let a : DecoderAnswer = numbered o.event in
    cond (is_refusal a) (lost_is (loss_at false a begun h (piece_of a (h ++ b ∷ []))))
    (cond (hands_out a) (next_in_state C o.state (begun + length (h ++ b ∷ [])) [] bytes) (next_in_state C o.state begun (h ++ b ∷ []) bytes)))
unfolding next_in_state
next_step_lem C s begun h b bytes o e =
    ap (λ (o : Out). let a : DecoderAnswer = numbered o.event in
    cond (is_refusal a) (lost_is (loss_at false a begun h (piece_of a (h ++ b ∷ []))))
    (cond (hands_out a) (next_in_state C o.state (begun + length (h ++ b ∷ [])) [] bytes) (next_in_state C o.state begun (h ++ b ∷ []) bytes))) e

pub next_silent : {C : Setup} {s t : State} {a : List ℕ} → Silent C s a t → (begun : ℕ) (h rest : List ℕ) → next_in_state C s begun h (a ++ rest) ≡ next_in_state C t begun (h ++ a) rest
next_silent {C} {s} stop begun h rest = ap (λ (l : List ℕ). next_in_state C s begun l rest) (sym (append-nil h))
next_silent {C} {s} (silent_on {t = t} {u = u} {b = b} {l = l} e q) begun h rest =
    next_step_lem C s begun h b (l ++ rest) (says t silent) e ∙ next_silent q begun (h ++ b ∷ []) rest ∙ ap (λ (k : List ℕ). next_in_state C u begun k rest) (append_assoc h (b ∷ []) l)

-- behind a payload it is as from fresh
pub done_next : (C : Setup) (P : List ℕ) (begun : ℕ) (bytes : List ℕ) → next_in_state C (done P) begun [] bytes ≡ next_in_state C fresh begun [] bytes
unfolding next_in_state finalized step
done_next C P begun [] = refl
done_next C P begun (b ∷ bytes) = refl

-- over the record it is the same
pub next_over : (bytes : List ℕ) (d : Decoder) (m : List ℕ) (begun : ℕ) (h : List ℕ) → Fit d m → (next_behind d m begun h bytes).said ≡ next_in_state (setup d) (state_of d m) begun h bytes
unfolding next_behind next_in_state act act_state answer_state
next_over [] d m begun h f =
    let a : Acts d m finalize (act d m finalize) = acts d m finalize f in
    ap (λ (x : DecoderAnswer). cond (is_refusal x) (lost_is (loss_at true x begun h h)) none_lost) a.answer
next_over (b ∷ bytes) d m begun h f =
    let a : Acts d m (push b) (act d m (push b)) = acts d m (push b) f in
    let d' : Decoder = (push_record d m b).decoder in
    let m' : List ℕ = (push_record d m b).memory in
    let g : List ℕ = h ++ b ∷ [] in
    let on : (n : ℕ) (k : List ℕ) → (next_behind d' m' n k bytes).said ≡ next_in_state (setup d) (step (setup d) (state_of d m) b).state n k bytes =
    λ n k. next_over bytes d' m' n k a.fit ∙ rw (a.setup', a.view') in
    let told : DecoderAnswer → LossSaid → LossSaid → LossSaid = λ x p q. cond (is_refusal x) (lost_is (loss_at false x begun h (piece_of x g))) (cond (hands_out x) p q) in
    let A : DecoderAnswer = (push_record d m b).answer in
    said_cond (is_refusal A) _ _ ∙ ap (λ (x : LossSaid). cond (is_refusal A) (lost_is (loss_at false A begun h (piece_of A g))) x) (said_cond (hands_out A) _ _)
    ∙ (λ i. told (a.answer i) (on (begun + length g) [] i) (on begun g i))
  where
    said_cond : (t : Bool) (x y : LossAfter) → (cond t x y).said ≡ cond t x.said y.said
    said_cond true x y = refl
    said_cond false x y = refl
