-- A message's 50 words from its parts.
use mathlib.Core.Path.{◌≡◌, refl, ap, ◌∙◌}
use mathlib.Core.List.{List, [], ◌∷◌, ◌++◌}
use Prim.Native.Nat.{ℕ, zero, suc, ◌+◌, ◌≤◌}
use native.Mathlib.Omega.{arith}
use lib.ListN.{length, set, drop, replicate}
use lib.Seq.{sets, sets-eq}
use Rattle.std.proofs.lemmas.List.{length-append}
use borrow.Rule.Slice.PartMut.{put_mid}
use Rattle.streaming.specs.Next.{Said}
use Rattle.words.specs.Words.{event_words}
use Rattle.words.proofs.Laws.{event_words_length}
use Rattle.whole.specs.Whole.{WholeSaid}
use Rattle.whole.proofs.Rows.{copied_sets}
use Rattle.sartrogheo.specs.Wholes.{start_said, end_said, rows_said, next_said, message_words}

-- what an answer is in words has always 24
words_length : (s : Said) (v : List ℕ) → v ≡ event_words s → length v ≡ 24
words_length s v is = ap length is ∙ event_words_length s

-- stores behind a first part leave it
sets_past_one : (x : ℕ) (l : List ℕ) (i : ℕ) (vs : List ℕ) → sets (x ∷ l) (suc i) vs ≡ x ∷ sets l i vs
sets_past_one x l i [] = refl
sets_past_one x [] i (v ∷ vs) = sets_past_one x [] (suc i) vs
sets_past_one x (y ∷ l) zero (v ∷ vs) = sets_past_one x (v ∷ l) 1 vs
sets_past_one x (y ∷ l) (suc i) (v ∷ vs) = sets_past_one x _ (suc (suc i)) vs

sets_past : (p l : List ℕ) (n i : ℕ) (vs : List ℕ) → n ≡ length p + i → sets (p ++ l) n vs ≡ p ++ sets l i vs
sets_past [] l n i vs h = let e : n ≡ i = omega (arith, h) in rw e
sets_past (x ∷ p) l zero i vs h = absurd (omega (arith, h))
sets_past (x ∷ p) l (suc n) i vs h = sets_past_one x (p ++ l) n vs ∙ ap (λ (k : List ℕ). x ∷ k) (sets_past p l n i vs (omega (arith, h)))

sets_front : (l vs : List ℕ) (n : ℕ) → length vs ≡ n → n ≤ length l → sets l 0 vs ≡ vs ++ drop n l
sets_front l vs n e h =
    let z : 0 + length vs ≡ n = omega (arith, e) in
    rw z at (sets-eq vs l 0 (omega arith))

-- 24 words, 24 more, and two numbers are all 50
module _ (s e : List ℕ) (r n : ℕ) (a : length s ≡ 24) (b : length e ≡ 24) where
  two_in : sets (s ++ replicate 26 0) 24 e ≡ s ++ (e ++ replicate 2 0)
  two_in = sets_past s (replicate 26 0) 24 0 e (omega arith) ∙ ap (λ (k : List ℕ). s ++ k) (sets_front (replicate 26 0) e 24 b (omega arith))

  all_in : sets (sets (s ++ replicate 26 0) 24 e) 48 (r ∷ n ∷ []) ≡ s ++ (e ++ (r ∷ n ∷ []))
  all_in = rw two_in (sets_past s (e ++ replicate 2 0) 48 24 (r ∷ n ∷ []) (omega arith) ∙ ap (λ (k : List ℕ). s ++ k) (sets_past e (replicate 2 0) 24 0 (r ∷ n ∷ []) (omega arith)))

pub words_in : (w : WholeSaid) (s e : List ℕ) → s ≡ event_words (start_said w) → e ≡ event_words (end_said w) → set (set (put_mid 24 24 (s ++ replicate 26 0) e) 48 (rows_said w)) 49 (next_said w) ≡ message_words w
unfolding message_words
words_in w s e start end =
    let a = words_length (start_said w) s start in
    let b = words_length (end_said w) e end in
    ap (λ (l : List ℕ). set (set l 48 (rows_said w)) 49 (next_said w)) (copied_sets (s ++ replicate 26 0) e e 24 24 refl b (omega (arith, a, length-append s (replicate 26 0)))) ∙ all_in s e (rows_said w) (next_said w) a b ∙ rw (start, end)
