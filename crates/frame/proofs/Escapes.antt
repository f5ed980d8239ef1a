-- Laws of escapes and of the run of 1b behind a list: over two lists one after the other, and case by case.
use mathlib.Core.Path.{◌≡◌, refl, ap, sym, ◌∙◌}
use mathlib.Core.List.{List, [], ◌∷◌, ◌++◌, append_assoc}
use Prim.Native.Nat.{ℕ, zero, suc, ◌+◌, ◌≤◌}
use native.Mathlib.Omega.{arith}
use native.Mathlib.Nat.{add_comm}
use lib.ListN.{replicate, replicate-append-replicate}
use borrow.Author.Tests.{ne_eqb}
use Rattle.frame.specs.Frame.{esc_seq, run_with, four_more, escaped, run_behind}
use Rattle.frame.proofs.Cases.{by_eq}

pub escaped_append : (r : ℕ) (a b : List ℕ) → escaped r (a ++ b) ≡ escaped r a ++ escaped (run_behind r a) b
unfolding escaped run_behind
escaped_append r [] b = refl
escaped_append r (x ∷ a) b = rw (escaped_append (run_with r x) a b, append_assoc (four_more r x))

pub run_append : (r : ℕ) (a b : List ℕ) → run_behind r (a ++ b) ≡ run_behind (run_behind r a) b
unfolding run_behind
run_append r [] b = refl
run_append r (x ∷ a) b = run_append (run_with r x) a b

after_le : (r x : ℕ) → r ≤ 3 → run_with r x ≤ 3
after_le r x h =
    by_eq (λ k. k ≤ 3) x 0x1b _ _ (λ e. by_eq (λ k. k ≤ 3) r 3 _ _ (λ e. omega arith) (λ n. omega arith)) (λ n. omega arith)

pub run_le : (r : ℕ) (a : List ℕ) → r ≤ 3 → run_behind r a ≤ 3
unfolding run_behind
run_le r [] h = h
run_le r (x ∷ a) h = run_le (run_with r x) a (after_le r x h)

-- a byte other than 1b
pub after_other : (r b : ℕ) → (b ≡ 0x1b → ⊥) → run_with r b ≡ 0
after_other r b n = rw (ne_eqb b 0x1b n)

pub four_other : (r b : ℕ) → (b ≡ 0x1b → ⊥) → four_more r b ≡ []
four_other r b n = rw (ne_eqb b 0x1b n)

-- a 1b that is no fourth
pub after_wait : (r : ℕ) → (r ≡ 3 → ⊥) → run_with r 0x1b ≡ suc r
after_wait r n = rw (ne_eqb r 3 n)

pub four_wait : (r : ℕ) → (r ≡ 3 → ⊥) → four_more r 0x1b ≡ []
four_wait r n = rw (ne_eqb r 3 n)

-- n more 1b in a run that stays below four
pub run_few : (n r : ℕ) → n + r ≤ 3 → run_behind r (replicate n 0x1b) ≡ n + r
unfolding run_behind
run_few zero r h = omega arith
run_few (suc n) r h = ap (λ (k : ℕ). run_behind k (replicate n 0x1b)) (after_wait r (λ e. omega arith)) ∙ run_few n (suc r) (omega arith) ∙ omega arith

pub escaped_few : (n r : ℕ) → n + r ≤ 3 → escaped r (replicate n 0x1b) ≡ replicate n 0x1b
unfolding escaped
escaped_few zero r h = refl
escaped_few (suc n) r h = rw (after_wait r (λ e. omega arith), four_wait r (λ e. omega arith), escaped_few n (suc r) (omega arith))

-- pad bytes of 0 stay as they are
pub escaped_zeros : (n r : ℕ) → escaped r (replicate n 0) ≡ replicate n 0
unfolding escaped
escaped_zeros zero r = refl
escaped_zeros (suc n) r = ap (λ (l : List ℕ). 0 ∷ l) (escaped_zeros n 0)

-- escaped and run_behind, case by case
module _ (r b : ℕ) (p : List ℕ) (ne : b ≡ 0x1b → ⊥) where
  pub escaped_other : escaped r (b ∷ p) ≡ b ∷ escaped 0 p
  unfolding escaped
  escaped_other = rw (four_other r b ne) (ap (λ (k : ℕ). b ∷ escaped k p) (after_other r b ne))

  pub run_other : run_behind r (b ∷ p) ≡ run_behind 0 p
  unfolding run_behind
  run_other = ap (λ (k : ℕ). run_behind k p) (after_other r b ne)

module _ (r : ℕ) (p : List ℕ) (ne : r ≡ 3 → ⊥) where
  pub escaped_wait : escaped r (0x1b ∷ p) ≡ 0x1b ∷ escaped (suc r) p
  unfolding escaped
  escaped_wait = rw (four_wait r ne) (ap (λ (k : ℕ). 0x1b ∷ escaped k p) (after_wait r ne))

  pub run_wait : run_behind r (0x1b ∷ p) ≡ run_behind (suc r) p
  unfolding run_behind
  run_wait = ap (λ (k : ℕ). run_behind k p) (after_wait r ne)

pub escaped_fourth : (p : List ℕ) → escaped 3 (0x1b ∷ p) ≡ 0x1b ∷ esc_seq ++ escaped 0 p
unfolding escaped
escaped_fourth p = refl

pub run_fourth : (p : List ℕ) → run_behind 3 (0x1b ∷ p) ≡ run_behind 0 p
unfolding run_behind
run_fourth p = refl

pub replicate_snoc : (n a : ℕ) → replicate (suc n) a ≡ replicate n a ++ a ∷ []
replicate_snoc zero a = refl
replicate_snoc (suc n) a = ap (λ (l : List ℕ). a ∷ l) (replicate_snoc n a)

pub run_nil : (r : ℕ) → run_behind r [] ≡ r
unfolding run_behind
run_nil r = refl

pub escaped_nil : (r : ℕ) → escaped r [] ≡ []
unfolding escaped
escaped_nil r = refl

pub swap_esc_seq : (a : ℕ) → replicate a 0x1b ++ esc_seq ≡ esc_seq ++ replicate a 0x1b
swap_esc_seq a = replicate-append-replicate a 4 0x1b ∙ ap (λ (n : ℕ). replicate n 0x1b) (add_comm a 4) ∙ sym (replicate-append-replicate 4 a 0x1b)
