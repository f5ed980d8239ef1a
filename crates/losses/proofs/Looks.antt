-- A look at bytes, one after another: behind the first whole start nothing changes, and a look at two parts is one at both.
use Prim.Native.Nat.{ℕ, suc, ◌+◌, ◌<◌, ◌≤◌}
use mathlib.Core.Path.{◌≡◌, refl, sym, ap, ◌∙◌}
use mathlib.Core.Bool.{cond}
use mathlib.Core.List.{List, [], ◌∷◌, ◌++◌}
use native.Mathlib.Omega.{arith}
use native.Mathlib.Nat.{add-zero}
use borrow.Author.Tests.{eq-eqb, ne_eqb}
use lib.ListN.{length, take, drop, get_or, drop_of_length-le}
use lib.Dec.{eqb}
use Rattle.refusals.proofs.Places.{from_place}
use Rattle.frame.specs.Frame.{start_seq}
use Rattle.search.specs.Search.{most_matched}
use Rattle.losses.specs.Watch.{look, looked_on}
use Rattle.losses.specs.Cut.{looked_over}
use Rattle.losses.specs.declared.Look.{Look}

-- a look that has found no start
pub unfound : (l : Look) → l.start_end ≡ 0 → l ≡ look l.matched 0
unfound l e i = record { matched = l.matched; start_end = e i }

pub looked_found : (l : Look) (n b : ℕ) → (l.start_end ≡ 0 → ⊥) → looked_on l n b ≡ l
looked_found l n b ne = rw (ne_eqb l.start_end 0 ne)

pub over_found : (l : Look) (n : ℕ) (bytes : List ℕ) → (l.start_end ≡ 0 → ⊥) → looked_over l n bytes ≡ l
unfolding looked_over
over_found l n [] ne = refl
over_found l n (b ∷ bytes) ne = ap (λ (x : Look). looked_over x (suc n) bytes) (looked_found l n b ne) ∙ over_found l (suc n) bytes ne

pub looked_append : (l : Look) (n : ℕ) (a b : List ℕ) → looked_over l n (a ++ b) ≡ looked_over (looked_over l n a) (n + length a) b
unfolding looked_over
looked_append l n [] b = rw (add-zero n)
looked_append l n (x ∷ a) b =
    let e : n + suc (length a) ≡ suc n + length a = omega arith in
    rw e (looked_append (looked_on l n x) (suc n) a b)

over_one : (q k n b : ℕ) (s : List ℕ) → k ≡ most_matched (take q start_seq ++ b ∷ []) → looked_over (look k (cond (eqb k 8) (suc n) 0)) (suc n) s ≡ looked_over (look q 0) n (b ∷ s)
unfolding looked_over
over_one q k n b s e = rw e

-- the byte of s at i, behind n + i bytes of which q are matched last: k are behind it
module _ (q k n i : ℕ) (s : List ℕ) (lt : i < length s) (is : k ≡ most_matched (take q start_seq ++ get_or s i 0 ∷ [])) where
  at_place : looked_over (look q 0) (n + i) (get_or s i 0 ∷ drop (i + 1) s) ≡ looked_over (look q 0) (n + i) (drop i s)
  at_place = ap (looked_over (look q 0) (n + i)) (sym (from_place s i lt))

  pub look_further : (k ≡ 8 → ⊥) → looked_over (look k 0) (n + (i + 1)) (drop (i + 1) s) ≡ looked_over (look q 0) (n + i) (drop i s)
  look_further ne =
      let e : n + (i + 1) ≡ suc (n + i) = omega arith in
      rw e (rw (ne_eqb k 8 ne) at (over_one q k (n + i) (get_or s i 0) (drop (i + 1) s) is) ∙ at_place)

  pub look_ends : k ≡ 8 → look k (n + (i + 1)) ≡ looked_over (look q 0) (n + i) (drop i s)
  look_ends eight =
      let e : n + (i + 1) ≡ suc (n + i) = omega arith in
      let some : suc (n + i) ≡ 0 → ⊥ = λ z. omega arith in
      rw e (sym (over_found (look k (suc (n + i))) (suc (n + i)) (drop (i + 1) s) some) ∙ rw (eq-eqb k 8 eight) at (over_one q k (n + i) (get_or s i 0) (drop (i + 1) s) is) ∙ at_place)

pub look_done : (q n i : ℕ) (s : List ℕ) → length s ≤ i → look q 0 ≡ looked_over (look q 0) (n + i) (drop i s)
unfolding looked_over
look_done q n i s le = rw drop_of_length-le
