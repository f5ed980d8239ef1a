-- Comparing names: the three outcomes, and the slices' own order.
use Prim.Native.Nat.{ℕ, suc, min, ◌<◌, ◌≤◌}
use mathlib.Core.List.{List, [], ◌∷◌}
use mathlib.Core.Path.{◌≡◌, refl, sym, ap, ◌∙◌, subst}
use mathlib.Core.Bool.{Bool, true, false, cond}
use lib.Dec.{ltb}
use lib.ListN.{length, get_or, drop, drop_of_length-le}
use lib.Seq.{drop-cons}
use Rattle.frame.proofs.Cases.{by_lt, by_eq}
use native.Mathlib.Omega.{arith}
use borrow.Author.Tests.{eq-eqb, ne_eqb, lt-ltb, le-ltb}
use Rattle.name_order.specs.Order.{lower, compared}
use Rattle.std.specs.declared.cmp.Ordering.{Ordering}
use Rattle.std.specs.declared.cmp.Ordering.TheVariants.{Less, Equal, Greater}
use Rattle.std.specs.Ordering.{nat_cmp, ordering_index, ordering_then}
use Rattle.std.specs.Cmp.Lexicographic.{slice_cmp}
use Rattle.name_order.proofs.Lower as L
use Rattle.name_order.proofs.Lower.{Lower, shorter, less, further, lower_true, true_lower, lower_asym, Compared, comparing}

pub not_lower : (x y : List ℕ) → (Lower x y → ⊥) → lower x y ≡ false
not_lower x y h = go (lower x y) refl
  where
    go : (t : Bool) → lower x y ≡ t → lower x y ≡ false
    go true e = absurd (h (lower_true x y e))
    go false e = e

pub same_not : (x y : List ℕ) → x ≡ y → Lower x y → ⊥
same_not x y e r = let f : Lower y y = subst (λ (z : List ℕ). Lower z y) e r in lower_asym f f

pub is_less : (x y : List ℕ) → Lower x y → compared x y ≡ Less
unfolding compared
is_less x y r = rw (true_lower r)

pub is_greater : (x y : List ℕ) → Lower y x → compared x y ≡ Greater
unfolding compared
is_greater x y r = rw (not_lower x y (λ t. lower_asym t r), true_lower r)

pub is_equal : (x y : List ℕ) → x ≡ y → compared x y ≡ Equal
unfolding compared
is_equal x y e = rw (not_lower x y (same_not x y e), not_lower y x (same_not y x (sym e)))

-- the slices' own order says the same
own_less : {x y : List ℕ} → Lower x y → slice_cmp nat_cmp x y ≡ Less
own_less shorter = refl
own_less (less {a = a} {b = b} h) = simp (lt-ltb a b h)
own_less (further {a = a} {b = b} q r) = simp (le-ltb a b (omega arith), eq-eqb a b q, own_less r)

own_greater : {x y : List ℕ} → Lower y x → slice_cmp nat_cmp x y ≡ Greater
own_greater shorter = refl
own_greater (less {a = a} {b = b} h) = simp (le-ltb b a (omega arith), ne_eqb b a (λ q. omega arith))
own_greater (further {a = a} {b = b} q r) = simp (le-ltb b a (omega arith), eq-eqb b a (sym q), own_greater r)

own_equal : (x y : List ℕ) → x ≡ y → slice_cmp nat_cmp x y ≡ Equal
own_equal x y e = rw e (own_same y)
  where
    own_same : (z : List ℕ) → slice_cmp nat_cmp z z ≡ Equal
    own_same [] = refl
    own_same (a ∷ z) = simp (le-ltb a a (omega arith), eq-eqb a a refl, own_same z)

pub compared_so : (x y : List ℕ) → slice_cmp nat_cmp x y ≡ compared x y
compared_so x y = go (comparing x y)
  where
    go : Compared x y → slice_cmp nat_cmp x y ≡ compared x y
    go (L.less_name r) = own_less r ∙ sym (is_less x y r)
    go (L.equal_names q) = own_equal x y q ∙ sym (is_equal x y q)
    go (L.greater_name r) = own_greater r ∙ sym (is_greater x y r)

-- ---- the loop: behind i equal bytes

module _ (x y : List ℕ) (i : ℕ) where
  pub own_at : i < length x → i < length y → (get_or x i 0 ≡ get_or y i 0 → ⊥) → slice_cmp nat_cmp (drop i x) (drop i y) ≡ nat_cmp (get_or x i 0) (get_or y i 0)
  own_at h k n = rw (drop-cons x i 0 h, drop-cons y i 0 k, ne_eqb (get_or x i 0) (get_or y i 0) n) (go (ltb (get_or x i 0) (get_or y i 0)))
    where
      go : (t : Bool) → ordering_then (cond t Less Greater) (slice_cmp nat_cmp (drop (suc i) x) (drop (suc i) y)) ≡ cond t Less Greater
      go true = refl
      go false = refl

  pub own_end : i ≡ min (length x) (length y) → slice_cmp nat_cmp (drop i x) (drop i y) ≡ nat_cmp (length x) (length y)
  own_end e =
      by_lt {A = Ordering} (λ v. slice_cmp nat_cmp (drop i x) (drop i y) ≡ nat_cmp (length x) (length y)) (length x) (length y) Less Less
      (λ h. let m : length x ≤ i = omega arith in rw (drop_of_length-le x m, drop-cons y i 0 (omega arith), lt-ltb (length x) (length y) h))
      (λ h. by_eq {A = Ordering} (λ v. slice_cmp nat_cmp (drop i x) (drop i y) ≡ nat_cmp (length x) (length y)) (length x) (length y) Less Less
      (λ q. let m : length x ≤ i = omega arith in let n : length y ≤ i = omega arith in rw (drop_of_length-le x m, drop_of_length-le y n, le-ltb (length x) (length y) h, eq-eqb (length x) (length y) q))
      (λ q. let n : length y ≤ i = omega arith in rw (drop_of_length-le y n, drop-cons x i 0 (omega arith), le-ltb (length x) (length y) h, ne_eqb (length x) (length y) q)))

-- ---- what an outcome says of the names

apart : {o p : Ordering} → (ordering_index o ≡ ordering_index p → ⊥) → o ≡ p → ⊥
apart n e = n (ap ordering_index e)

pub says_less : (x y : List ℕ) → compared x y ≡ Less → Lower x y
says_less x y e = go (comparing x y)
  where
    go : Compared x y → Lower x y
    go (L.less_name r) = r
    go (L.equal_names q) = absurd (apart (λ z. omega arith) (sym (is_equal x y q) ∙ e))
    go (L.greater_name r) = absurd (apart (λ z. omega arith) (sym (is_greater x y r) ∙ e))

pub says_equal : (x y : List ℕ) → compared x y ≡ Equal → x ≡ y
says_equal x y e = go (comparing x y)
  where
    go : Compared x y → x ≡ y
    go (L.less_name r) = absurd (apart (λ z. omega arith) (sym (is_less x y r) ∙ e))
    go (L.equal_names q) = q
    go (L.greater_name r) = absurd (apart (λ z. omega arith) (sym (is_greater x y r) ∙ e))

pub says_greater : (x y : List ℕ) → compared x y ≡ Greater → Lower y x
says_greater x y e = go (comparing x y)
  where
    go : Compared x y → Lower y x
    go (L.less_name r) = absurd (apart (λ z. omega arith) (sym (is_less x y r) ∙ e))
    go (L.equal_names q) = absurd (apart (λ z. omega arith) (sym (is_equal x y q) ∙ e))
    go (L.greater_name r) = r
