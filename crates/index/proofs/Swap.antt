-- Swapping two places, and shuffles made of such swaps.
use Prim.Native.Nat.{ℕ, ◌<◌, ◌≤◌}
use mathlib.Core.Path.{◌≡◌, refl, sym, ap, ◌∙◌}
use native.Mathlib.Omega.{arith}
use Rattle.frame.proofs.Cases.{by_eq, by_lt}
use Rattle.index.specs.Heap.{swap, Shuffle}

pub data Swapped (i j k : ℕ) : ℕ → Type 0 where
  took_first : k ≡ i → Swapped i j k j
  took_second : (k ≡ i → ⊥) → k ≡ j → Swapped i j k i
  took_none : (k ≡ i → ⊥) → (k ≡ j → ⊥) → Swapped i j k k

pub swap_view : (i j k : ℕ) → Swapped i j k (swap i j k)
unfolding swap
swap_view i j k = by_eq (Swapped i j k) k i j _ took_first (λ n. by_eq (Swapped i j k) k j i k (took_second n) (took_none n))

twice : {i j k x y : ℕ} → Swapped i j k x → Swapped i j x y → y ≡ k
twice (took_first e) (took_first f) = omega arith
twice (took_first e) (took_second n f) = sym e
twice (took_first e) (took_none n m) = absurd (m refl)
twice (took_second n e) (took_first f) = sym e
twice (took_second n e) (took_second m f) = absurd (m refl)
twice (took_second n e) (took_none m o) = absurd (m refl)
twice (took_none n m) (took_first f) = absurd (n f)
twice (took_none n m) (took_second o f) = absurd (m f)
twice (took_none n m) (took_none o q) = refl

swap_swap : (i j k : ℕ) → swap i j (swap i j k) ≡ k
swap_swap i j k = twice (swap_view i j k) (swap_view i j (swap i j k))

swap_within : {i j k x n : ℕ} → Swapped i j k x → i < n → j < n → k < n → x < n
swap_within (took_first e) h g l = g
swap_within (took_second n e) h g l = h
swap_within (took_none n m) h g l = l

swap_stays : {i j k x n : ℕ} → Swapped i j k x → i < n → j < n → n ≤ k → x ≡ k
swap_stays (took_first e) h g l = omega arith
swap_stays (took_second n e) h g l = omega arith
swap_stays (took_none n m) h g l = refl

pub shuffle_swap : {A : Type 0} (n i j : ℕ) (f g : ℕ → A) → i < n → j < n → ((k : ℕ) → f k ≡ g (swap i j k)) → Shuffle n f g
shuffle_swap n i j f g h l e = record {
  to = swap i j;
  back = swap i j;
  is = e;
  there = swap_swap i j;
  again = swap_swap i j;
  within = λ k m. swap_within (swap_view i j k) h l m;
  stays = λ k m. swap_stays (swap_view i j k) h l m;
}

pub shuffle_none : {A : Type 0} (n : ℕ) (f : ℕ → A) → Shuffle n f f
shuffle_none n f = record {
  to = λ k. k;
  back = λ k. k;
  is = λ k. refl;
  there = λ k. refl;
  again = λ k. refl;
  within = λ k m. m;
  stays = λ k m. refl;
}

pub shuffle_then : {A : Type 0} {n : ℕ} {f g h : ℕ → A} → Shuffle n f g → Shuffle n g h → Shuffle n f h
shuffle_then s t = record {
  to = λ k. t.to (s.to k);
  back = λ k. s.back (t.back k);
  is = λ k. s.is k ∙ t.is (s.to k);
  there = λ k. ap s.back (t.there (s.to k)) ∙ s.there k;
  again = λ k. ap t.to (s.again (t.back k)) ∙ t.again k;
  within = λ k m. t.within (s.to k) (s.within k m);
  stays = λ k m. ap t.to (s.stays k m) ∙ t.stays k m;
}

pub shuffle_wider : {A : Type 0} {m n : ℕ} {f g : ℕ → A} → m ≤ n → Shuffle m f g → Shuffle n f g
shuffle_wider {m = m} {n = n} h s = record {
  to = s.to;
  back = s.back;
  is = s.is;
  there = s.there;
  again = s.again;
  within = λ k l.
      by_lt {A = ℕ} (λ v. s.to k < n) k m 0 0
      (λ g. omega (arith, s.within k g))
      (λ g. omega (arith, s.stays k g));
  stays = λ k l. s.stays k (omega arith);
}

-- where an element went
pub back_within : {A : Type 0} {n : ℕ} {f g : ℕ → A} (s : Shuffle n f g) (k : ℕ) → k < n → s.back k < n
back_within {n = n} s k h =
    by_lt {A = ℕ} (λ v. s.back k < n) (s.back k) n 0 0
    (λ g. g)
    (λ g. omega (arith, s.stays (s.back k) g, s.again k))

pub back_is : {A : Type 0} {n : ℕ} {f g : ℕ → A} (s : Shuffle n f g) (k : ℕ) → g k ≡ f (s.back k)
back_is {g = g} s k = sym (s.is (s.back k) ∙ ap g (s.again k))

pub to_apart : {A : Type 0} {n : ℕ} {f g : ℕ → A} (s : Shuffle n f g) (j k : ℕ) → (j ≡ k → ⊥) → s.to j ≡ s.to k → ⊥
to_apart s j k d e = d (sym (s.there j) ∙ ap s.back e ∙ s.there k)
