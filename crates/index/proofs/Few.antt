-- Spending: a row sinks at most as often as the number of rows can be halved.
use Prim.Native.Nat.{ℕ, zero, suc, ◌+◌, ◌*◌, ◌-◌, ◌/◌, ◌^◌, ◌<◌, ◌≤◌}
use mathlib.Core.Path.{◌≡◌, ap, ◌∙◌, subst}
use native.Mathlib.Omega.{arith}
use native.Mathlib.Numerals.{add-one}
use native.Mathlib.Nat.{two-pow-succ, mul-add, mul-one}
use lib.Pow.{pow_mono}
use Rattle.frame.proofs.Cases.{by_lt}
use Rattle.index.specs.Few.{Sunk, Turns, Few}

-- a number is below its power of two
pub below_power : (k : ℕ) → k < 2 ^ k
below_power zero = omega arith
below_power (suc k) = omega (arith, below_power k, two-pow-succ k)

pub power_next : (k : ℕ) → 2 ^ (k + 1) ≡ 2 ^ k + 2 ^ k
power_next k = ap (λ (j : ℕ). 2 ^ j) (add-one k) ∙ two-pow-succ k

pub power_less : (k l m : ℕ) → 2 ^ k ≤ m → m < 2 ^ l → k + 1 ≤ l
power_less k l m h g =
    by_lt {A = ℕ} (λ v. k + 1 ≤ l) k l 0 0
    (λ e. omega arith)
    (λ e. let f : 2 ^ l ≤ 2 ^ k = pow_mono e in absurd (omega arith))

-- a row that sank to place i has asked for the top once more for each step
pub record Deep (i a b : ℕ) : Type 0 where
  pub turns : ℕ
  pub deep : 2 ^ turns ≤ i + 1
  pub few : b ≤ a + 2 * turns

pub deep_begin : (i a : ℕ) → Deep i a a
deep_begin i a = record { turns = 0; deep = omega arith; few = omega arith }

pub deep_next : {i c a b b' : ℕ} → Deep i a b → 2 * i + 1 ≤ c → b' ≤ b + 2 → Deep c a b'
deep_next w l h = record { turns = w.turns + 1; deep = omega (arith, w.deep, power_next w.turns, l); few = omega (arith, w.few, h) }

-- and once before the first
pub deep_end : {i end a b : ℕ} (a₀ : ℕ) → a ≤ a₀ + 2 → Deep i a b → i < end → Sunk end a₀ b
deep_end {end = end} a₀ e w h l g = omega (arith, e, w.few, power_less w.turns l end (omega (arith, w.deep, h)) g)

pub deep_small : {i end a b : ℕ} → Deep i a b → i < end → end < 2 ^ 32 → b ≤ a + 64
deep_small {end = end} w h g = omega (arith, w.few, power_less w.turns 32 end (omega (arith, w.deep, h)) g)

-- of m rows k are still to sink
pub record TurnsLeft (n m a b k : ℕ) : Type 0 where
  pub within : (l : ℕ) → n < 2 ^ l → b + 2 * (l * k) ≤ a + 2 * (l * m)

pub turns_begin : (n m a : ℕ) → TurnsLeft n m a a m
turns_begin n m a = record { within = λ l h. omega arith }

one_turn : (m k l a b b' : ℕ) → b + 2 * (l * (k + 1)) ≤ a + 2 * (l * m) → b' ≤ b + 2 * l → b' + 2 * (l * k) ≤ a + 2 * (l * m)
one_turn m k l a b b' w h =
    let e : l * (k + 1) ≡ l * k + l = mul-add l k 1 ∙ ap (λ (v : ℕ). l * k + v) (mul-one l) in
    omega arith

pub turns_next : {n m a b b' k end : ℕ} → 0 < k → end ≤ n → TurnsLeft n m a b k → Sunk end b b' → TurnsLeft n m a b' (k - 1)
turns_next {n} {m} {a} {b} {b'} {k} p low w h = record {
  within = λ l g. one_turn m (k - 1) l a b b' (subst (λ (v : ℕ). b + 2 * (l * v) ≤ a + 2 * (l * m)) (less_one k p) (w.within l g)) (h l (omega arith));
}
  where
    less_one : (j : ℕ) → 0 < j → j ≡ j - 1 + 1
    less_one j q = omega arith

pub turns_end : {n m a b k : ℕ} → TurnsLeft n m a b k → Turns n m a b
turns_end w l h = omega (arith, w.within l h)

halves : (l n : ℕ) → 2 * (l * (n / 2)) ≤ l * n
halves zero n = omega arith
halves (suc l) n = omega (arith, halves l n)

pub few_of : (n a b c d : ℕ) → b ≤ a + n → Turns n (n / 2) b c → Turns n n c d → Few n a d
few_of n a b c d e p q l h = omega (arith, e, p l h, q l h, halves l n)

pub few_less : (n a b : ℕ) → b ≤ a + n → Few n a b
few_less n a b e l h = omega arith
