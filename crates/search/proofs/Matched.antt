-- The laws of `most_matched`: the bytes end with so many of the start sequence's first bytes, and with no more; with one byte more, of those before it only they matter.
use mathlib.Core.Path.{◌≡◌, refl, ap, sym, ◌∙◌}
use mathlib.Core.Bool.{Bool, true, false≢true}
use mathlib.Core.List.{List, [], ◌∷◌, ◌++◌, append_assoc, append-nil}
use Prim.Native.Nat.{ℕ, zero, suc, ◌+◌, ◌-◌, ◌≤◌}
use native.Mathlib.Omega.{arith}
use lib.ListN.{length, take, drop, length-append, take-append-drop}
use lib.Seq.{drop_at, length-take-le}
use Rattle.frame.specs.Frame.{start_seq}
use Rattle.frame.proofs.Cases.{by_test, either}
use Rattle.frame.proofs.Same.{same_true, same_self}
use Rattle.search.specs.Search.{ends_with, greatest, most_matched}
use Rattle.search.specs.Found.{EndsInStart, HasStart}

-- ---- the greatest number that a test holds of

greatest_most : (k : ℕ) (test : ℕ → Bool) → greatest k test ≤ k
unfolding greatest
greatest_most zero test = omega arith
greatest_most (suc k) test = by_test (λ (n : ℕ). n ≤ suc k) (test (suc k)) _ _ (λ t. omega arith) (λ f. let i = greatest_most k test in omega arith)

greatest_least : (k : ℕ) (test : ℕ → Bool) (j : ℕ) → j ≤ k → test j ≡ true → j ≤ greatest k test
unfolding greatest
greatest_least zero test j le t = le
greatest_least (suc k) test j le t =
    by_test (λ (n : ℕ). j ≤ n) (test (suc k)) _ _ (λ u. le) (λ f.
    either j (suc k) (λ e. absurd (false≢true (sym f ∙ ap test (sym e) ∙ t))) (λ ne. greatest_least k test j (omega arith) t))

greatest_holds : (k : ℕ) (test : ℕ → Bool) → test 0 ≡ true → test (greatest k test) ≡ true
unfolding greatest
greatest_holds zero test z = z
greatest_holds (suc k) test z = by_test (λ (n : ℕ). test n ≡ true) (test (suc k)) _ _ (λ t. t) (λ f. greatest_holds k test z)

-- ---- the bytes l end with the first k of the start sequence

pub record EndsInFirst (k : ℕ) (l : List ℕ) : Type 0 where
  pub before : List ℕ
  pub is : l ≡ before ++ take k start_seq

pub first_long : (k : ℕ) → k ≤ 8 → length (take k start_seq) ≡ k
first_long k le = length-take-le k start_seq (omega arith)

ends_of : (k : ℕ) (l : List ℕ) → ends_with k l ≡ true → EndsInFirst k l
ends_of k l t =
    let n : ℕ = length l - k in
    record { before = take n l; is = sym (take-append-drop n l) ∙ ap (λ (x : List ℕ). take n l ++ x) (same_true (drop n l) (take k start_seq) t) }

ends_is : (k : ℕ) (l : List ℕ) → k ≤ 8 → EndsInFirst k l → ends_with k l ≡ true
ends_is k l le e =
    let p : List ℕ = e.before in
    let s : List ℕ = take k start_seq in
    let n : length p ≡ length (p ++ s) - k = simp (length-append, first_long k le) (omega arith) in
    rw (e.is, drop_at p s (length (p ++ s) - k) n) (same_self s)

module _ (l : List ℕ) where
  pub most_eight : most_matched l ≤ 8
  unfolding most_matched
  most_eight = greatest_most 8 (λ k. ends_with k l)

  pub most_ends : EndsInFirst (most_matched l) l
  unfolding most_matched
  most_ends = ends_of (most_matched l) l (greatest_holds 8 (λ k. ends_with k l) (ends_is 0 l (omega arith) (record { before = l; is = sym (append-nil l) })))

  pub most_least : (k : ℕ) → k ≤ 8 → EndsInFirst k l → k ≤ most_matched l
  unfolding most_matched
  most_least k le e = greatest_least 8 (λ k. ends_with k l) k le (ends_is k l le e)

pub most_short : (l : List ℕ) → most_matched l ≤ length l
most_short l =
    let e = most_ends l in
    let n : length l ≡ length e.before + most_matched l = ap length e.is ∙ simp (length-append, first_long (most_matched l) (most_eight l)) in
    omega arith

-- ---- a byte more

snoc_same : (a b : List ℕ) (x y : ℕ) → a ++ x ∷ [] ≡ b ++ y ∷ [] → (a ≡ b) × (x ≡ y)
snoc_same [] [] x y e = (refl, cc)
snoc_same [] (w ∷ []) x y e = absurd (let n = ap length e in omega arith)
snoc_same [] (w ∷ v ∷ b) x y e = absurd (let n = ap length e in omega arith)
snoc_same (w ∷ []) [] x y e = absurd (let n = ap length e in omega arith)
snoc_same (w ∷ v ∷ a) [] x y e = absurd (let n = ap length e in omega arith)
snoc_same (w ∷ a) (v ∷ b) x y e =
    let t : a ++ x ∷ [] ≡ b ++ y ∷ [] = cc in
    let h : w ≡ v = cc in
    let i = snoc_same a b x y t in
    (rw (h, i.0), i.1)

-- of two ends of a list the shorter is an end of the longer
shorter_end : (p a q b : List ℕ) → p ++ a ≡ q ++ b → length b ≤ length a → (r : List ℕ) × (a ≡ r ++ b)
shorter_end [] a q b e le = (q, e)
shorter_end (x ∷ p) a [] b e le = absurd (let n = ap length e in let m = length-append p a in omega arith)
shorter_end (x ∷ p) a (y ∷ q) b e le = shorter_end p a q b (cc) le

-- the start sequence's first bytes, one more
first_more : (j : ℕ) → j ≤ 7 → (c : ℕ) × (take (suc j) start_seq ≡ take j start_seq ++ c ∷ [])
first_more zero le = (0x1b, refl)
first_more (suc zero) le = (0x1b, refl)
first_more (suc (suc zero)) le = (0x1b, refl)
first_more (suc (suc (suc zero))) le = (0x1b, refl)
first_more (suc (suc (suc (suc zero)))) le = (0x01, refl)
first_more (suc (suc (suc (suc (suc zero))))) le = (0x01, refl)
first_more (suc (suc (suc (suc (suc (suc zero)))))) le = (0x01, refl)
first_more (suc (suc (suc (suc (suc (suc (suc zero))))))) le = (0x01, refl)
first_more (suc (suc (suc (suc (suc (suc (suc (suc j)))))))) le = absurd (omega arith)

-- what ends with one more of them ended with as many before the byte, which is the next
record EndedBefore (j : ℕ) (h : List ℕ) (b : ℕ) : Type 0 where
  ended : EndsInFirst j h
  next : take j start_seq ++ b ∷ [] ≡ take (suc j) start_seq

ended_before : (j : ℕ) (h : List ℕ) (b : ℕ) → j ≤ 7 → EndsInFirst (suc j) (h ++ b ∷ []) → EndedBefore j h b
ended_before j h b le e =
    let (c, more) = first_more j le in
    let q : List ℕ = e.before in
    let s = snoc_same h (q ++ take j start_seq) b c (e.is ∙ rw (more) (sym (append_assoc q (take j start_seq) (c ∷ [])))) in
    record { ended = record { before = q; is = s.0 }; next = rw s.1 (sym more) }

ends_shorter : (k : ℕ) (h : List ℕ) (b : ℕ) → k ≤ 8 → EndsInFirst k (h ++ b ∷ []) → EndsInFirst k (take (most_matched h) start_seq ++ b ∷ [])
ends_shorter zero h b le e = record { before = take (most_matched h) start_seq ++ b ∷ []; is = sym (append-nil _) }
ends_shorter (suc j) h b le e =
    let was = ended_before j h b (omega arith) e in
    let n : ℕ = most_matched h in
    let at_least : j ≤ n = most_least h j (omega arith) was.ended in
    let all = most_ends h in
    let (r, is) = shorter_end all.before (take n start_seq) was.ended.before (take j start_seq) (sym all.is ∙ was.ended.is) (rw (first_long n (most_eight h), first_long j (omega arith)) at_least) in
    record { before = r; is = ap (λ (l : List ℕ). l ++ b ∷ []) is ∙ append_assoc r (take j start_seq) (b ∷ []) ∙ ap (λ (l : List ℕ). r ++ l) was.next }

ends_longer : (k : ℕ) (h : List ℕ) (b : ℕ) → EndsInFirst k (take (most_matched h) start_seq ++ b ∷ []) → EndsInFirst k (h ++ b ∷ [])
ends_longer k h b e =
    let all = most_ends h in
    let p : List ℕ = all.before in
    record {
      before = p ++ e.before;
      is = ap (λ (l : List ℕ). l ++ b ∷ []) all.is ∙ append_assoc p (take (most_matched h) start_seq) (b ∷ []) ∙ ap (λ (l : List ℕ). p ++ l) e.is ∙ sym (append_assoc p e.before (take k start_seq));
    }

-- the law of the step
pub most_step : (h : List ℕ) (b : ℕ) → most_matched (take (most_matched h) start_seq ++ b ∷ []) ≡ most_matched (h ++ b ∷ [])
most_step h b =
    let l : List ℕ = take (most_matched h) start_seq ++ b ∷ [] in
    let g : List ℕ = h ++ b ∷ [] in
    let up = most_least g (most_matched l) (most_eight l) (ends_longer (most_matched l) h b (most_ends l)) in
    let down = most_least l (most_matched g) (most_eight g) (ends_shorter (most_matched g) h b (most_eight g) (most_ends g)) in
    omega arith

-- ---- a whole start sequence

-- none in no bytes
pub most_nil : 0 ≡ most_matched []
most_nil = let short = most_short [] in omega arith

pub none_in_nil : HasStart [] → ⊥
none_in_nil e =
    let n = ap length e.is ∙ length-append e.before (start_seq ++ e.behind) in
    omega arith

pub matched_start : (h : List ℕ) → most_matched h ≡ 8 → EndsInStart h
matched_start h e =
    let all = most_ends h in
    record { before = all.before; is = all.is ∙ rw e }

pub start_matched : (h : List ℕ) → EndsInStart h → most_matched h ≡ 8
start_matched h e =
    let most = most_eight h in
    let least = most_least h 8 (omega arith) (record { before = e.before; is = e.is }) in
    omega arith

pub ends_has : {h : List ℕ} → EndsInStart h → HasStart h
ends_has e = record { before = e.before; behind = []; is = e.is ∙ rw (append-nil start_seq) }

pub has_more : {h : List ℕ} (l : List ℕ) → HasStart h → HasStart (h ++ l)
has_more l e = record { before = e.before; behind = e.behind ++ l; is = rw (e.is, append_assoc e.before (start_seq ++ e.behind) l, append_assoc start_seq e.behind l) }

last_of_lem : (x : ℕ) (l : List ℕ) → (i : List ℕ) × (z : ℕ) × (x ∷ l ≡ i ++ z ∷ [])
last_of_lem x [] = ([], x, refl)
last_of_lem x (y ∷ l) =
    let (i, z, e) = last_of_lem y l in
    (x ∷ i, z, ap (λ (k : List ℕ). x ∷ k) e)

-- one that lies in h and a byte more and not in h ends with that byte
pub start_last : (h : List ℕ) (b : ℕ) → (HasStart h → ⊥) → HasStart (h ++ b ∷ []) → EndsInStart (h ++ b ∷ [])
start_last h b none e = by_behind e.before e.behind e.is
  where
    by_behind : (p q : List ℕ) → h ++ b ∷ [] ≡ p ++ (start_seq ++ q) → EndsInStart (h ++ b ∷ [])
    by_behind p [] is = record { before = p; is = is ∙ rw (append-nil start_seq) }
    by_behind p (x ∷ q) is =
        let (i, z, last) = last_of_lem x q in
        let s = snoc_same h (p ++ (start_seq ++ i)) b z (is ∙ rw (last, append_assoc p (start_seq ++ i) (z ∷ []), append_assoc start_seq i (z ∷ []))) in
        absurd (none (record { before = p; behind = i; is = s.0 }))
