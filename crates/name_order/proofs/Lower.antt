-- The order of names: the test as a relation, and its laws.
use Prim.Native.Nat.{ℕ, ◌<◌}
use mathlib.Core.List.{List, [], ◌∷◌}
use mathlib.Core.Path.{◌≡◌, refl, sym, ◌∙◌}
use mathlib.Core.Bool.{true, false, false≢true}
use native.Mathlib.Omega.{arith}
use borrow.Author.Tests.{eq-eqb, lt-ltb, le-ltb}
use Rattle.name_order.specs.Order.{lower}
use Rattle.frame.proofs.Cases.{by_eq, by_lt}

pub data Lower : List ℕ → List ℕ → Type 0 where
  shorter : {b : ℕ} {l : List ℕ} → Lower [] (b ∷ l)
  less : {a b : ℕ} {k l : List ℕ} → a < b → Lower (a ∷ k) (b ∷ l)
  further : {a b : ℕ} {k l : List ℕ} → a ≡ b → Lower k l → Lower (a ∷ k) (b ∷ l)

pub lower_true : (x y : List ℕ) → lower x y ≡ true → Lower x y
unfolding lower
lower_true x [] e = absurd (false≢true e)
lower_true [] (b ∷ l) e = shorter
lower_true (a ∷ k) (b ∷ l) e =
    by_lt (λ v. v ≡ true → Lower (a ∷ k) (b ∷ l)) a b true _
    (λ h f. less h)
    (λ h. by_eq (λ v. v ≡ true → Lower (a ∷ k) (b ∷ l)) a b _ false
    (λ q f. further q (lower_true k l f))
    (λ q f. absurd (false≢true f)))
    e

pub true_lower : {x y : List ℕ} → Lower x y → lower x y ≡ true
unfolding lower
true_lower shorter = refl
true_lower (less {a = a} {b = b} h) = simp (lt-ltb a b h)
true_lower (further {a = a} {b = b} q r) = simp (le-ltb a b (omega arith), eq-eqb a b q, true_lower r)

pub lower_asym : {x y : List ℕ} → Lower x y → Lower y x → ⊥
lower_asym shorter r = elim r [ ]
lower_asym (less h) (less i) = omega arith
lower_asym (less h) (further q r) = omega arith
lower_asym (further q r) (less h) = omega arith
lower_asym (further q r) (further p t) = lower_asym r t

pub lower_trans : {x y z : List ℕ} → Lower x y → Lower y z → Lower x z
lower_trans shorter (less i) = shorter
lower_trans shorter (further q r) = shorter
lower_trans (less {a = a} h) (less {b = b} i) = less {a = a} {b = b} (omega arith)
lower_trans (less {a = a} h) (further {b = b} q r) = less {a = a} {b = b} (omega arith)
lower_trans (further {a = a} q r) (less {b = b} h) = less {a = a} {b = b} (omega arith)
lower_trans (further q r) (further p t) = further (q ∙ p) (lower_trans r t)

pub data Compared (x y : List ℕ) : Type 0 where
  less_name : Lower x y → Compared x y
  equal_names : x ≡ y → Compared x y
  greater_name : Lower y x → Compared x y

comparing_more : (a b : ℕ) (k l : List ℕ) → a ≡ b → Compared k l → Compared (a ∷ k) (b ∷ l)
comparing_more a b k l q (less_name r) = less_name (further q r)
comparing_more a b k l q (equal_names e) = equal_names (cc)
comparing_more a b k l q (greater_name r) = greater_name (further (sym q) r)

pub comparing : (x y : List ℕ) → Compared x y
comparing [] [] = equal_names refl
comparing [] (b ∷ l) = less_name shorter
comparing (a ∷ k) [] = greater_name shorter
comparing (a ∷ k) (b ∷ l) =
    by_lt {A = ℕ} (λ v. Compared (a ∷ k) (b ∷ l)) a b 0 0
    (λ h. less_name (less h))
    (λ h. by_eq {A = ℕ} (λ v. Compared (a ∷ k) (b ∷ l)) a b 0 0
    (λ q. comparing_more a b k l q (comparing k l))
    (λ q. greater_name (less (omega arith))))
