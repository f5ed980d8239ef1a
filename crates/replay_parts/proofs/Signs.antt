-- How far a number below 0 is from -1.
use Prim.Native.Nat.{ℕ, suc, ◌-◌}
use mathlib.Core.Bool.{Bool, true, false, cond}
use mathlib.Core.Path.{◌≡◌, ap, ◌∙◌}
use native.Mathlib.Omega.{arith}
use borrow.Author.Tests.{ltb-true, le-ltb}
use lib.IntN.{ℤ, pos, negsuc, nat_abs, ◌-ℤ◌}
use lib.Signed.{lt_z, non_neg}
use lib.Dec.{T}
use mir.Syntax.{w64}
use mir.Val.{Fits, SFits, to_z, of_z}
use mir.ValLaws.{to_z-of_z}

from_one : (n : ℕ) → negsuc 0 -ℤ negsuc n ≡ pos n
from_one n = ap (λ (b : Bool). cond b (negsuc (1 - suc (suc n))) (pos (suc n - 1))) (le-ltb (suc n) 1 (omega arith)) ∙ ap pos (omega arith)

distance_fits : (z : ℤ) → SFits w64 z → lt_z z (pos 0) ≡ true → SFits w64 (negsuc 0 -ℤ z)
distance_fits (pos n) f e = absurd (omega (arith, ltb-true n 0 e))
distance_fits (negsuc n) f e = rw from_one (record { sfits = f.sfits })

distance_is : (z : ℤ) → SFits w64 z → lt_z z (pos 0) ≡ true → T (non_neg (negsuc 0 -ℤ z)) × Fits w64 (nat_abs (negsuc 0 -ℤ z))
distance_is (pos n) f e = absurd (omega (arith, ltb-true n 0 e))
distance_is (negsuc n) f e = rw from_one (tt, record { fits = omega (arith, f.sfits) })

number_is : (z : ℤ) → SFits w64 z → lt_z z (pos 0) ≡ false → T (non_neg z) × Fits w64 (nat_abs z)
number_is (pos n) f e = (tt, record { fits = omega (arith, f.sfits) })
number_is (negsuc n) f e = let z : ◌≡◌ {A = ℕ} 0 1 = cc in absurd (omega arith)

module _ (n : ℤ) (f : SFits w64 n) where
  read_back : to_z w64 (of_z w64 n) ≡ n
  read_back = to_z-of_z w64 n f

  pub sub_fits : lt_z (to_z w64 (of_z w64 n)) (pos 0) ≡ true → SFits w64 (negsuc 0 -ℤ to_z w64 (of_z w64 n))
  sub_fits e = rw read_back (distance_fits n f (rw read_back at e))

  pub cast_fits : lt_z (to_z w64 (of_z w64 n)) (pos 0) ≡ true
      → T (non_neg (to_z w64 (of_z w64 (negsuc 0 -ℤ to_z w64 (of_z w64 n))))) × Fits w64 (nat_abs (to_z w64 (of_z w64 (negsuc 0 -ℤ to_z w64 (of_z w64 n)))))
  cast_fits e = rw (to_z-of_z w64 (negsuc 0 -ℤ to_z w64 (of_z w64 n)) (sub_fits e), read_back) (distance_is n f (rw read_back at e))

  pub same_fits : lt_z (to_z w64 (of_z w64 n)) (pos 0) ≡ false → T (non_neg (to_z w64 (of_z w64 n))) × Fits w64 (nat_abs (to_z w64 (of_z w64 n)))
  same_fits e = rw read_back (number_is n f (rw read_back at e))
