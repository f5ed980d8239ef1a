-- The number of items that a pass may take doesn't matter, if it is more than the bytes that are left.
use mathlib.Core.Path.{◌≡◌, refl}
use mathlib.Core.List.{List, [], ◌∷◌}
use mathlib.Core.Bool.{Bool}
use Prim.Native.Nat.{ℕ, zero, suc, ◌+◌, ◌-◌, ◌<◌}
use native.Mathlib.Omega.{arith}
use lib.ListN.{length}
use Rattle.refusals.specs.Read.{Read, got, refused, Refusal, then, guard}
use Rattle.refusals.proofs.Read.{Ok, Ahead}
use Rattle.walk.specs.Walk.{Item, end_mark, leaf, list_item, take_item, walk_step, pass}
use Rattle.walk.proofs.Items.{item_ok}

-- where two continuations agree on what is found, so do the readings
pub then_same : {A B : Type 0} {Q : A → ℕ → Type 0} (r : Read A) (j k : A → ℕ → Read B) → Ok Q r → ((a : A) (n : ℕ) → Q a n → j a n ≡ k a n) → then r j ≡ then r k
unfolding then
then_same (got a n) j k q h = h a n q.holds
then_same (refused f) j k q h = refl

guard_same : (p : Bool) (f : Refusal) (x y : Read ℕ) → x ≡ y → guard p f x ≡ guard p f y
guard_same p f x y e = rw e

taken_same : (on go : List ℕ → ℕ → ℕ → Read ℕ) (wants : List ℕ) (leaves at n : ℕ) (i : Item) → ((w : List ℕ) (l : ℕ) → on w l n ≡ go w l n) → take_item on wants leaves at i n ≡ take_item go wants leaves at i n
unfolding take_item
taken_same on go wants leaves at n end_mark h = h wants (leaves + 1)
taken_same on go wants leaves at n (leaf ty content) h = h wants (leaves + 1)
taken_same on go wants leaves at n (list_item k) h = guard_same _ _ _ _ (h (k ∷ wants) leaves)

step_same : (on go : List ℕ → ℕ → ℕ → Read ℕ) (s wants : List ℕ) (leaves at : ℕ) → ((n : ℕ) → Ahead s at n → (w : List ℕ) (l : ℕ) → on w l n ≡ go w l n) → walk_step on s wants leaves at ≡ walk_step go s wants leaves at
unfolding walk_step
step_same on go s [] leaves at h = refl
step_same on go s (zero ∷ wants) leaves at h = step_same on go s wants leaves at h
step_same on go s (suc k ∷ wants) leaves at h = then_same _ _ _ (item_ok s at) (λ i n a. taken_same on go (k ∷ wants) leaves at n i (h n a))

pub many_enough : (f g : ℕ) (s wants : List ℕ) (leaves at : ℕ) → length s - at < f → length s - at < g → pass f s wants leaves at ≡ pass g s wants leaves at
unfolding pass
many_enough zero g s wants leaves at p q = absurd (omega arith)
many_enough (suc f) zero s wants leaves at p q = absurd (omega arith)
many_enough (suc f) (suc g) s wants leaves at p q =
    step_same (pass f s) (pass g s) s wants leaves at (λ n a w l. many_enough f g s w l n (omega (arith, a.ahead, a.within)) (omega (arith, a.ahead, a.within)))

-- a pass of as many items as there may be
abbrev pub pass_left : List ℕ → List ℕ → ℕ → ℕ → Read ℕ
pass_left s wants leaves at = pass (suc (length s - at)) s wants leaves at

pub passed_next : (s wants : List ℕ) (leaves at : ℕ) → pass_left s wants leaves at ≡ walk_step (pass_left s) s wants leaves at
unfolding pass
passed_next s wants leaves at =
    step_same (pass (length s - at) s) (pass_left s) s wants leaves at (λ n a w l. many_enough (length s - at) (suc (length s - n)) s w l n (omega (arith, a.ahead, a.within)) (omega arith))
