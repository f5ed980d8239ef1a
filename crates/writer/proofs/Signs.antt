-- A signed number, its magnitude and its sign.
use mathlib.Core.Path.{◌≡◌, refl}
use mathlib.Core.Bool.{true, false}
use Prim.Native.Nat.{ℕ, ◌^◌, ◌-◌}
use native.Mathlib.Omega.{arith}
use lib.IntN.{ℤ, pos, negsuc, nat_abs}
use lib.Signed.{mag, lt_z}
use borrow.Author.Tests.{ltb-true}
use Rattle.writer.specs.Fields.{low_bytes}

-- a number of n bytes that stands for a negative one lies as far below their greatest
pub low_below : (n : ℕ) (z : ℤ) → lt_z z (pos 0) ≡ true → 256 ^ n - 1 - mag z ≡ low_bytes n z
unfolding low_bytes
low_below n (pos v) h = absurd (omega (arith, ltb-true v 0 h))
low_below n (negsuc k) h = refl

pub low_not_below : (n : ℕ) (z : ℤ) → lt_z z (pos 0) ≡ false → nat_abs z ≡ low_bytes n z
unfolding low_bytes
low_not_below n (pos v) h = refl
low_not_below n (negsuc k) h = let z : ◌≡◌ {A = ℕ} 0 1 = cc in absurd (omega arith)
