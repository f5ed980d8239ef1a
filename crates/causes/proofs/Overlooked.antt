-- A start that a search in the first way passed over stands directly behind some first bytes of a start, so that its bytes do not begin with one.
use mathlib.Core.Path.{◌≡◌, refl, ap, sym, ◌∙◌}
use mathlib.Core.Bool.{true, false, false≢true}
use mathlib.Core.List.{List, [], ◌∷◌, ◌++◌, append_assoc}
use Prim.Native.Nat.{ℕ, zero, suc, ◌+◌, ◌≤◌, ◌<◌}
use native.Mathlib.Omega.{arith}
use lib.ListN.{length, drop, take, get_or, length-append, take-append-drop, get_or-append}
use lib.Seq.{drop_at, take_at, drop-append-le, take-append-le, take-append_seam, get_or_at, take-take}
use Rattle.frame.specs.Frame.{start_seq}
use Rattle.frame.proofs.Cases.{by_le}
use Rattle.decoder.specs.Push.{starts}
use Rattle.since.specs.Since.{Misses, none_passed, miss}
use Rattle.since.proofs.Lists.{empty, matched_long}
use Rattle.losses.specs.Loss.{begins_in_start}
use Rattle.causes.specs.Hidden.{BehindFirstBytes}
use Rattle.losses.proofs.Starts.{never_true, begins_true}

-- ---- what stands before a start

pub starts_at_lem : (n : ℕ) → n ≤ 7 → starts n (get_or start_seq n 0) ≡ true
starts_at_lem zero le = refl
starts_at_lem (suc zero) le = refl
starts_at_lem (suc (suc zero)) le = refl
starts_at_lem (suc (suc (suc zero))) le = refl
starts_at_lem (suc (suc (suc (suc zero)))) le = refl
starts_at_lem (suc (suc (suc (suc (suc zero))))) le = refl
starts_at_lem (suc (suc (suc (suc (suc (suc zero)))))) le = refl
starts_at_lem (suc (suc (suc (suc (suc (suc (suc zero))))))) le = refl
starts_at_lem (suc (suc (suc (suc (suc (suc (suc (suc n)))))))) le = absurd (omega arith)

regroup : (t : List ℕ) (b : ℕ) (l u : List ℕ) → (t ++ (b ∷ l)) ++ u ≡ (t ++ b ∷ []) ++ (l ++ u)
regroup t b l u = simp append_assoc

ahead : (t : List ℕ) (b : ℕ) (l u : List ℕ) → (t ++ (b ∷ l)) ++ u ≡ t ++ (b ∷ (l ++ u))
ahead t b l u = append_assoc t (b ∷ l) u

-- one block, take n start_seq and b, where the start behind a lies over it
module _ (n b : ℕ) (l u a z : List ℕ) (le : n ≤ 7) (f : starts n b ≡ false) (e : (take n start_seq ++ (b ∷ l)) ++ u ≡ a ++ (start_seq ++ z)) where
  -- it does not begin with the block
  not_first : a ≡ [] → ⊥
  not_first none' =
      let here : take n start_seq ++ (b ∷ (l ++ u)) ≡ start_seq ++ z = sym (ahead (take n start_seq) b l u) ∙ e ∙ rw none' in
      let left : get_or (take n start_seq ++ (b ∷ (l ++ u))) n 0 ≡ b = get_or_at (take n start_seq) b (l ++ u) 0 n (matched_long n le) in
      let right : get_or (start_seq ++ z) n 0 ≡ get_or start_seq n 0 = get_or-append start_seq z 0 n (omega arith) in
      let is : b ≡ get_or start_seq n 0 = sym left ∙ ap (λ (k : List ℕ). get_or k n 0) here ∙ right in
      false≢true (sym f ∙ rw is (starts_at_lem n le))

  within : length a ≤ n → BehindFirstBytes a
  within short =
      let is : a ≡ take (length a) start_seq =
      sym (take-append_seam a (start_seq ++ z)) ∙ ap (take (length a)) (sym e ∙ ahead (take n start_seq) b l u)
      ∙ take-append-le (length a) (take n start_seq) (b ∷ (l ++ u)) (rw (matched_long n le) short) ∙ take-take (length a) n start_seq short in
      record {
        n = length a;
        some = by_le {A = ℕ} (λ v. 1 ≤ length a) 1 (length a) 0 0 (λ g. g) (λ g. absurd (not_first (empty a (omega arith))));
        most = omega arith;
        further = [];
        passed = none_passed;
        earlier = is;
      }

  behind_it : n < length a → l ++ u ≡ drop (suc n) a ++ (start_seq ++ z)
  behind_it long =
      let size : length (take n start_seq ++ b ∷ []) ≡ suc n = simp (length-append, matched_long n le) (omega arith) in
      sym (drop_at (take n start_seq ++ b ∷ []) (l ++ u) (suc n) size) ∙ ap (drop (suc n)) (sym (regroup (take n start_seq) b l u) ∙ e) ∙ drop-append-le (suc n) a (start_seq ++ z) long

  first_block : n < length a → take (suc n) a ≡ take n start_seq ++ b ∷ []
  first_block long =
      let size : length (take n start_seq ++ b ∷ []) ≡ suc n = simp (length-append, matched_long n le) (omega arith) in
      sym (take-append-le (suc n) a (start_seq ++ z) long) ∙ ap (take (suc n)) (sym e ∙ regroup (take n start_seq) b l u) ∙ take_at (take n start_seq ++ b ∷ []) (l ++ u) (suc n) size

  further_on : n < length a → BehindFirstBytes (drop (suc n) a) → BehindFirstBytes a
  further_on long r = record {
    n = r.n;
    some = r.some;
    most = r.most;
    further = take n start_seq ++ (b ∷ r.further);
    passed = miss n b le f r.passed;
    earlier = sym (take-append-drop (suc n) a) ∙ rw (first_block long, r.earlier) (sym (regroup (take n start_seq) b r.further (take r.n start_seq)));
  }

pub before_start : {x : List ℕ} → Misses x → (k : ℕ) → k ≤ 7 → (a z : List ℕ) → x ++ take k start_seq ≡ a ++ (start_seq ++ z) → BehindFirstBytes a
before_start none_passed k le a z e =
    let n : length (take k start_seq) ≡ length a + (8 + length z) = ap length e ∙ simp length-append (omega arith) in
    absurd (let m : length (take k start_seq) ≡ k = matched_long k le in omega arith)
before_start (miss n b {l} lk f rest) k le a z e =
    by_le {A = ℕ} (λ v. BehindFirstBytes a) (length a) n 0 0
    (λ short. within n b l (take k start_seq) a z lk f e short)
    (λ long. further_on n b l (take k start_seq) a z lk f e long
    (before_start rest k le (drop (suc n) a) z (behind_it n b l (take k start_seq) a z lk f e long)))

-- ---- the bytes of a search

never_empty : BehindFirstBytes [] → ⊥
never_empty r =
    let n : 0 ≡ length (r.further ++ take r.n start_seq) = ap length r.earlier in
    let m : length (take r.n start_seq) ≡ r.n = matched_long r.n r.most in
    let i = r.some in
    let k : 0 ≡ length r.further + length (take r.n start_seq) = n ∙ simp length-append in
    omega arith

-- no bytes of a search in the first way begin with a start
pub search_not : {x : List ℕ} → Misses x → (k : ℕ) → k ≤ 7 → begins_in_start (x ++ take k start_seq) ≡ false
search_not {x} m k le =
    never_true (begins_in_start (x ++ take k start_seq)) (λ t. never_empty (before_start m k le [] (drop 8 (x ++ take k start_seq)) (begins_true (x ++ take k start_seq) t)))
