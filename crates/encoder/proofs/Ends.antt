-- Laws of End counts, which are signed.
use Prim.Native.Nat.{ℕ, zero, suc, ◌≤◌}
use mathlib.Core.Bool.{false}
use mathlib.Core.Path.{◌≡◌, refl, sym, ap, ◌∙◌}
use native.Mathlib.Omega.{arith}
use borrow.Author.Tests.{leb-false}
use lib.IntN.{ℤ, pos, negsuc, suc_ℤ, neg_ℤ, nat_abs, ◌+ℤ◌, ◌-ℤ◌, +ℤ_one}
use lib.Signed.{lt_z, non_neg}
use lib.Dec.{T}
use mir.Syntax.{w8}
use mir.Val.{Fits, SFits, to_z, of_z}
use mir.ValLaws.{to_z-of_z}
use Rattle.encoder.specs.Encoder.{last_end}

suc_fits : (n : ℤ) → SFits w8 n → last_end n ≡ false → SFits w8 (suc_ℤ n)
suc_fits (pos n) f e = record { sfits = omega (arith, leb-false 8 n e) }
suc_fits (negsuc zero) f e = record { sfits = omega arith }
suc_fits (negsuc (suc n)) f e = record { sfits = omega (arith, f.sfits) }

module _ (n : ℤ) (f : SFits w8 n) (e : last_end n ≡ false) where
  is_suc : to_z w8 (of_z w8 n) +ℤ pos 1 ≡ suc_ℤ n
  is_suc = ap (λ (z : ℤ). z +ℤ pos 1) (to_z-of_z w8 n f) ∙ +ℤ_one n

  pub next_fits : SFits w8 (to_z w8 (of_z w8 n) +ℤ pos 1)
  next_fits = rw is_suc (suc_fits n f e)

  pub end_next_is : to_z w8 (of_z w8 (to_z w8 (of_z w8 n) +ℤ pos 1)) ≡ suc_ℤ n
  end_next_is = ap (λ (z : ℤ). to_z w8 (of_z w8 z)) is_suc ∙ to_z-of_z w8 (suc_ℤ n) (suc_fits n f e)

pub first_fits : (pad : ℕ) → pad ≤ 3 → SFits w8 (pos 0 -ℤ to_z w8 pad)
first_fits zero h = record { sfits = omega arith }
first_fits (suc zero) h = record { sfits = omega arith }
first_fits (suc (suc zero)) h = record { sfits = omega arith }
first_fits (suc (suc (suc zero))) h = record { sfits = omega arith }
first_fits (suc (suc (suc (suc n)))) h = absurd (omega arith)

pub first_is : (pad : ℕ) → pad ≤ 3 → to_z w8 (of_z w8 (pos 0 -ℤ to_z w8 pad)) ≡ neg_ℤ (pos pad)
first_is zero h = refl
first_is (suc zero) h = refl
first_is (suc (suc zero)) h = refl
first_is (suc (suc (suc zero))) h = refl
first_is (suc (suc (suc (suc n)))) h = absurd (omega arith)

module _ (n : ℤ) (f : SFits w8 n) where
  pub end_read_back : to_z w8 (of_z w8 n) ≡ n
  end_read_back = to_z-of_z w8 n f

  -- an End count that is not negative is a place
  pub index_is_lem : lt_z n (pos 0) ≡ false → n ≡ pos (nat_abs (to_z w8 (of_z w8 n)))
  index_is_lem e = index n e ∙ ap (λ (z : ℤ). pos (nat_abs z)) (sym end_read_back)
    where
      index : (n : ℤ) → lt_z n (pos 0) ≡ false → n ≡ pos (nat_abs n)
      index (pos n) e = refl
      index (negsuc n) e = let z : ◌≡◌ {A = ℕ} 0 1 = cc in absurd (omega arith)

  pub index_fits : lt_z n (pos 0) ≡ false → T (non_neg (to_z w8 (of_z w8 n))) × Fits w8 (nat_abs (to_z w8 (of_z w8 n)))
  index_fits e = rw end_read_back (fits n f e)
    where
      fits : (n : ℤ) → SFits w8 n → lt_z n (pos 0) ≡ false → T (non_neg n) × Fits w8 (nat_abs n)
      fits (pos n) f e = (tt, record { fits = omega (arith, f.sfits) })
      fits (negsuc n) f e = let z : ◌≡◌ {A = ℕ} 0 1 = cc in absurd (omega arith)

pub not_last : (pad : ℕ) → last_end (neg_ℤ (pos pad)) ≡ false
not_last zero = refl
not_last (suc pad) = refl
