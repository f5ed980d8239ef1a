-- Less room: the same step, or 3.
use mathlib.Core.Path.{◌≡◌, refl, ap}
use mathlib.Core.Bool.{Bool, true, false, cond}
use mathlib.Core.List.{List, [], ◌∷◌, ◌++◌}
use Prim.Native.Nat.{ℕ, ◌+◌, ◌≤◌}
use native.Mathlib.Omega.{arith}
use lib.ListN.{length, replicate}
use lib.Dec.{eqb, leb}
use borrow.Author.Tests.{le-leb}
use Rattle.frame.proofs.Cases.{by_le}
use Rattle.decoder.specs.Push.{Mem, State, search, body, escape, done, memory, searching, Out, says, put, store, step, fresh}
use Rattle.decoder.specs.declared.Setup.{Setup}

-- what is wanted of a step with less room, o, beside one with more, o'
abbrev pub Less : Type 0 → Out → Out → Type 0
Less G o o' = (o ≡ says fresh memory → G) → (o ≡ o' → G) → G

store_less : {G : Type 0} (C D : Setup) (m : Mem) (l : List ℕ) (k : Mem → Out) → C.capacity ≤ D.capacity → Less G (store C m l k) (store D m l k)
unfolding store
store_less {G} C D m l k le =
    by_le (λ (o : Out). Less G o (cond (leb (length m.stored + length l) D.capacity) (k (put m l)) (says fresh memory))) (length m.stored + length l) C.capacity _ _
    (λ fit f g. g (rw (le-leb (length m.stored + length l) D.capacity (omega arith))))
    (λ full f g. f refl)

else_less : {G : Type 0} (t : Bool) (x y z : Out) → Less G y z → Less G (cond t x y) (cond t x z)
else_less true x y z h = λ f g. g refl
else_less false x y z h = h

pub step_less : {G : Type 0} (C D : Setup) (s : State) (b : ℕ) → C.way ≡ D.way → C.capacity ≤ D.capacity → Less G (step C s b) (step D s b)
unfolding step
step_less C D (search n noise raw) b w le = λ f g. g (ap (λ (x : ℕ). searching x n noise raw b) w)
step_less C D (done P) b w le = λ f g. g (ap (λ (x : ℕ). searching x 0 0 0 b) w)
step_less C D (escape k m) b w le = store_less C D m (b ∷ []) _ le
step_less C D (body n m) b w le = else_less (eqb b 0x1b) _ _ _ (store_less C D m (replicate n 0x1b ++ b ∷ []) _ le)
