-- The first number that a test holds of is the least.
use mathlib.Core.Path.{◌≡◌, refl}
use mathlib.Core.Bool.{Bool, true, false, cond}
use Prim.Native.Nat.{ℕ, zero, suc, ◌+◌, ◌≤◌, ◌<◌}
use native.Mathlib.Omega.{arith}
use Rattle.byte_count.specs.Count.{first_that}

pub pick : (P : ℕ → Type 0) (b : Bool) (x y : ℕ) → (b ≡ true → P x) → (b ≡ false → P y) → P (cond b x y)
pick P true x y h k = h refl
pick P false x y h k = k refl

beyond : (p : ℕ → Bool) (n m : ℕ) → n ≤ m → p n ≡ false → p m ≡ true → suc n ≤ m
beyond p n m h f t = let ne : n ≡ m → ⊥ = λ e. (let z : ◌≡◌ {A = ℕ} 0 1 = cc in omega arith) in omega arith

-- n is the least number from `low` on that the test holds of
pub record Least (p : ℕ → Bool) (low high n : ℕ) : Type 0 where
  pub from : low ≤ n
  pub below : n < high
  pub holds : p n ≡ true
  pub least : (m : ℕ) → low ≤ m → p m ≡ true → n ≤ m

pub first_that_is : (k n : ℕ) (p : ℕ → Bool) (m : ℕ) → n ≤ m → m < n + k → p m ≡ true → Least p n (n + k) (first_that k n p)
unfolding first_that
first_that_is zero n p m h l e = absurd (omega arith)
first_that_is (suc k) n p m h l e =
    pick (Least p n (n + suc k)) (p n) n (first_that k (suc n) p)
    (λ t. record { from = omega arith; below = omega arith; holds = t; least = λ x a b. a })
    (λ f. let g = first_that_is k (suc n) p m (beyond p n m h f e) (omega arith) e in
    record { from = omega arith; below = omega arith; holds = g.holds; least = λ x a b. g.least x (beyond p n x a f b) b })

-- whatever the test, the search stays within its numbers
pub first_within : (k n : ℕ) (p : ℕ → Bool) → (n ≤ first_that k n p) × (first_that k n p ≤ n + k)
unfolding first_that
first_within zero n p = (omega arith, omega arith)
first_within (suc k) n p = let g = first_within k (suc n) p in pick (λ (x : ℕ). (n ≤ x) × (x ≤ n + suc k)) (p n) n (first_that k (suc n) p) (λ t. (omega arith, omega arith)) (λ f. (omega (arith, g.0), omega (arith, g.1)))
