-- Stretches of bytes that are no 1b, stored piece by piece.
use Prim.Native.Nat.{ℕ, zero, suc, ◌+◌, ◌-◌, ◌*◌, ◌/◌, ◌<◌, ◌≤◌}
use mathlib.Core.List.{List, [], ◌∷◌}
use mathlib.Core.Path.{◌≡◌, refl, sym, ap, ◌∙◌, subst}
use native.Mathlib.Omega.{arith}
use native.Mathlib.Nat.{zero-mul, suc-mul}
use borrow.Rule.Slice.PartMut.{put_mid}
use lib.ListN.{length, set, drop, take, get_or, length-drop, length-take}
use lib.Seq.{sets, take-add, length-take-le, get_or-drop}
use Rattle.std.proofs.lemmas.List.{drop-drop, get_or-take, take-take}
use Rattle.std.specs.Prelude.{slice_index, ◌≢◌}
use Rattle.std.specs.Simd.{first_chunks}
use Rattle.frame.proofs.Cases.{by_le}
use Rattle.refusals.proofs.Places.{from_place}
use Rattle.encoder.specs.Parts.{Stored, NoneEscapes}
use Rattle.encoder.proofs.Stores.{stored_then, stored_mid}

-- the first i bytes of p are no 1b, and stand from o on in m', which was m
abbrev pub PutPlain : List ℕ → List ℕ → ℕ → List ℕ → ℕ → Type 0
PutPlain m' m o p i = NoneEscapes i p × Stored m' (o + i) m o (take i p)

pub passed_none : (m p : List ℕ) (o : ℕ) → PutPlain m m o p 0
passed_none m p o = (λ j h. absurd (omega (arith, h)), (refl, refl))

none_then : (p : List ℕ) (i k : ℕ) → NoneEscapes i p → NoneEscapes k (drop i p) → NoneEscapes (i + k) p
none_then p i k a b j h =
    by_le {A = ℕ} (λ u. slice_index p j ≢ 0x1b) i j 0 0
    (λ w.
    let e : i + (j - i) ≡ j = omega arith in
    subst (λ (x : ℕ). slice_index p x ≢ 0x1b) e (subst (λ (x : ℕ). x ≢ 0x1b) (get_or-drop i p (j - i) 0) (b (j - i) (omega (arith, h)))))
    (λ w. a j w)

-- k more
pub passed_then : (m m' m'' p : List ℕ) (o i k : ℕ) → i + k ≤ length p → PutPlain m' m o p i → NoneEscapes k (drop i p) → m'' ≡ sets m' (o + i) (take k (drop i p)) → PutPlain m'' m o p (i + k)
passed_then m m' m'' p o i k h a b e =
    let l = length-take-le k (drop i p) (omega (arith, length-drop i p)) in (
      none_then p i k a.0 b,
      subst (λ (x : List ℕ). Stored m'' (o + (i + k)) m o x) (sym (take-add i k p))
          (stored_then m m' m'' o (o + i) (o + (i + k)) (take i p) (take k (drop i p)) a.1 (e, omega (arith, l))),
    )

-- one byte more
pub passed_one : (m m' p : List ℕ) (o i x : ℕ) → i < length p → x ≡ get_or p i 0 → x ≢ 0x1b → PutPlain m' m o p i → PutPlain (set m' (o + i) x) m o p (i + 1)
passed_one m m' p o i x h z ne a =
    let d : drop i p ≡ x ∷ drop (i + 1) p = from_place p i h ∙ ap (λ (y : ℕ). y ∷ drop (i + 1) p) (sym z) in
    passed_then m m' (set m' (o + i) x) p o i 1 (omega (arith, h)) a
    (λ j w. let e : 0 ≡ j = omega arith in subst (λ (y : ℕ). slice_index (drop i p) y ≢ 0x1b) e (rw d ne))
    (rw d refl)

-- the r-th of the k chunks of n bytes that s begins with
chunk_at : (n k r : ℕ) (s : List ℕ) → r < k → get_or (first_chunks n k s) r [] ≡ take n (drop (r * n) s)
chunk_at n zero r s h = absurd (omega (arith, h))
chunk_at n (suc k) zero s h = rw zero-mul
chunk_at n (suc k) (suc r) s h =
    let e : n + r * n ≡ r * n + n = omega arith in
    rw (suc-mul r n) (chunk_at n k r (drop n s) (omega arith) ∙ ap (take n) (drop-drop (r * n) n s ∙ ap (λ (x : ℕ). drop x s) e))

-- four bytes more
pub passed_four : (m m' p y : List ℕ) (o r k z : ℕ) (fours : List (List ℕ)) → fours ≡ first_chunks 4 (length p / 4) p → r < length p / 4 → ((j : ℕ) → j < 4 → get_or (get_or fours r []) j 0 ≢ 0x1b)
    → y ≡ get_or fours r [] → k ≡ 4 → z ≡ 4 * (r + 1) → o + length p ≤ length m' → PutPlain m' m o p (4 * r) → PutPlain (put_mid (o + 4 * r) k m' y) m o p z
passed_four m m' p y o r k z fours f h ne e size next room a =
    let here : get_or fours r [] ≡ take 4 (drop (4 * r) p) = ap (λ (c : List (List ℕ)). get_or c r []) f ∙ chunk_at 4 (length p / 4) r p h ∙ ap (λ (x : ℕ). take 4 (drop x p)) (omega arith) in
    let fit : 4 * r + 4 ≤ length p = omega (arith, h) in
    let l : length (take 4 (drop (4 * r) p)) ≡ 4 = length-take-le 4 (drop (4 * r) p) (omega (arith, length-drop (4 * r) p)) in
    let n : 4 * r + 4 ≡ z = omega (arith, next) in
    subst (λ (x : ℕ). PutPlain (put_mid (o + 4 * r) k m' y) m o p x) n
    (passed_then m m' _ p o (4 * r) 4 fit a
    (λ j w. subst (λ (x : ℕ). x ≢ 0x1b) (ap (λ (c : List ℕ). get_or c j 0) here ∙ get_or-take 4 (drop (4 * r) p) j 0 w) (ne j w))
    (stored_mid m' (take 4 (drop (4 * r) p)) y (o + 4 * r) k (omega (arith, l, fit, room)) (e ∙ here) (l ∙ sym size)))

-- what went over of the first n bytes of p
pub passed_first : (m m' p : List ℕ) (o n k : ℕ) → (k ≤ length (take n p)) × NoneEscapes k (take n p) × Stored m' (o + k) m o (take k (take n p)) → (k ≤ length p) × PutPlain m' m o p k
passed_first m m' p o n k a =
    let l = length-take n p in
    let few : k ≤ n = omega (arith, a.0, l) in (
      omega (arith, a.0, l),
      (
        λ j h. subst (λ (x : ℕ). x ≢ 0x1b) (get_or-take n p j 0 (omega (arith, h, few))) (a.1 j h),
        subst (λ (x : List ℕ). Stored m' (o + k) m o x) (take-take k n p few) a.2,
      ),
    )

-- and of what stands behind the first i
pub passed_part : (m m' m'' p q : List ℕ) (o i k : ℕ) → q ≡ drop i p → (i ≤ length p) × PutPlain m' m o p i → (k ≤ length q) × NoneEscapes k q × Stored m'' (o + i + k) m' (o + i) (take k q) → (i + k ≤ length p) × PutPlain m'' m o p (i + k)
passed_part m m' m'' p q o i k e a b =
    let t = subst (λ (q : List ℕ). (k ≤ length q) × NoneEscapes k q × Stored m'' (o + i + k) m' (o + i) (take k q)) e b in
    let fit : i + k ≤ length p = omega (arith, a.0, t.0, length-drop i p) in
    (fit, passed_then m m' m'' p o i k fit a.1 t.1 t.2.0)
