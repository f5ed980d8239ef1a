-- What a push does, rule by rule, and runs of pushes that say nothing.
use mathlib.Core.Path.{◌≡◌, refl, ap, ◌∙◌}
use mathlib.Core.List.{List, [], ◌∷◌, ◌++◌, append_assoc, map}
use Prim.Native.Nat.{ℕ, suc, ◌+◌, ◌≤◌, ◌<◌}
use native.Mathlib.Omega.{arith}
use lib.ListN.{length, replicate, length-append, length-replicate}
use borrow.Author.Tests.{ne_eqb, le-leb, lt-ltb}
use Rattle.decoder.specs.Push.{Mem, State, body, escape, silent, Out, says, put, tick, opened, store, judge, step}
use Rattle.decoder.specs.Record.{DecoderAnswer, nothing, numbered}
use Rattle.decoder.specs.Run as R
use Rattle.decoder.specs.Run.{Op}
use Rattle.decoder.proofs.States.{run_state, act_state, answer_state}
use Rattle.decoder.specs.declared.Setup.{Setup}
use Rattle.since.proofs.Lists.{last_four}

pub store_fits : (C : Setup) (m : Mem) (l : List ℕ) (k : Mem → Out) → length m.stored + length l ≤ C.capacity → store C m l k ≡ k (put m l)
unfolding store
store_fits C m l k h = rw (le-leb (length m.stored + length l) C.capacity h)

module _ (C : Setup) (m : Mem) where
  pub step_other : (n b : ℕ) → (b ≡ 0x1b → ⊥) → length m.stored + suc n ≤ C.capacity → step C (body n m) b ≡ says (body 0 (put m (replicate n 0x1b ++ b ∷ []))) silent
  unfolding step
  step_other n b ne h = rw (ne_eqb b 0x1b ne) (store_fits C m _ _ (simp (length-append, length-replicate) (omega arith)))

  pub step_wait : (n : ℕ) → (n ≡ 3 → ⊥) → step C (body n m) 0x1b ≡ says (body (suc n) (tick m)) silent
  unfolding step
  step_wait n ne = rw (ne_eqb n 3 ne)

  pub step_open : step C (body 3 m) 0x1b ≡ says (escape 0 (opened m)) silent
  unfolding step
  step_open = refl

  pub step_read : (k b : ℕ) → k < 3 → length m.stored < C.capacity → step C (escape k m) b ≡ says (escape (suc k) (put m (b ∷ []))) silent
  unfolding step
  step_read k b lt h = rw (store_fits C m (b ∷ []) _ (omega arith), lt-ltb k 3 lt)

  pub step_judge : (S : List ℕ) (w x y z : ℕ) → m.stored ≡ S ++ w ∷ x ∷ y ∷ [] → length m.stored < C.capacity
      → step C (escape 3 m) z ≡ judge (put m (z ∷ [])) (w ∷ x ∷ y ∷ z ∷ [])
  unfolding step
  step_judge S w x y z e h =
      store_fits C m (z ∷ []) _ (omega arith) ∙ ap (judge (put m (z ∷ []))) (last_four (m.stored ++ z ∷ []) S w x y z (rw (e, append_assoc)))

-- pushes that say nothing
pub data Silent (C : Setup) : State → List ℕ → State → Type 0 where
  stop : {s : State} → Silent C s [] s
  silent_on : {s t u : State} {b : ℕ} {l : List ℕ} → step C s b ≡ says t silent → Silent C t l u → Silent C s (b ∷ l) u

pub and_then : {C : Setup} {s t u : State} {a b : List ℕ} → Silent C s a t → Silent C t b u → Silent C s (a ++ b) u
and_then stop r = r
and_then (silent_on e q) r = silent_on e (and_then q r)

-- one `nothing` for each byte
abbrev pub nothings : List ℕ → List DecoderAnswer
nothings l = map (λ b. nothing) l

pub silent_run : {C : Setup} {s t : State} {a : List ℕ} → Silent C s a t → (os : List Op) → run_state C s (map R.push a ++ os) ≡ nothings a ++ run_state C t os
unfolding run_state act_state answer_state
silent_run stop os = refl
silent_run {C} (silent_on {l = l} e q) os =
    ap (λ (o : Out). numbered o.event ∷ run_state C o.state (map R.push l ++ os)) e ∙ ap (λ (k : List DecoderAnswer). nothing ∷ k) (silent_run q os)
