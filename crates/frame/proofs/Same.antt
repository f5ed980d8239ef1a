-- Two lists are the same exactly if the test says so.
use mathlib.Core.Path.{◌≡◌, refl, sym, ◌∙◌}
use mathlib.Core.Bool.{Bool, true, false, false≢true}
use mathlib.Core.List.{List, [], ◌∷◌}
use Prim.Native.Nat.{ℕ}
use borrow.Author.Tests.{eq-eqb}
use Rattle.frame.specs.Frame.{same}
use Rattle.frame.proofs.Cases.{by_eq}

pub same_true : (a b : List ℕ) → same a b ≡ true → a ≡ b
unfolding same
same_true [] [] e = refl
same_true [] (y ∷ b) e = absurd (false≢true e)
same_true (x ∷ a) [] e = absurd (false≢true e)
same_true (x ∷ a) (y ∷ b) e =
    by_eq (λ (t : Bool). t ≡ true → ◌≡◌ {A = List ℕ} (x ∷ a) (y ∷ b)) x y (same a b) false
    (λ p f. let q : a ≡ b = same_true a b f in cc)
    (λ n f. absurd (false≢true f)) e

pub same_self : (a : List ℕ) → same a a ≡ true
unfolding same
same_self [] = refl
same_self (x ∷ a) = rw (eq-eqb x x refl) (same_self a)

pub same_false : (a b : List ℕ) → same a b ≡ false → a ≡ b → ⊥
same_false a b f e = false≢true (sym f ∙ rw e (same_self b))
