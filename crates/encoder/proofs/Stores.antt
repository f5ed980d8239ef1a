-- Laws of what is stored: lists one after the other, and the escaped payload byte by byte (`Writes`).
use Prim.Native.Nat.{ℕ, zero, suc, ◌+◌, ◌-◌, ◌/◌, ◌%◌, ◌^◌, ◌<◌, ◌≤◌}
use mir.Syntax.{w16}
use Rattle.std.specs.Int.{to_le_bytes}
use mathlib.Core.List.{List, [], ◌∷◌, ◌++◌}
use mathlib.Core.Path.{◌≡◌, refl, sym, ap, ◌∙◌, subst}
use native.Mathlib.Omega.{arith}
use native.Mathlib.Nat.{add-zero}
use native.Mathlib.Numerals.{add-one}
use borrow.Author.Tests.{ne_eqb}
use lib.ListN.{length, set, drop, take, get_or, replicate, length-append, length-replicate, length-drop, drop_of_length-le}
use lib.Seq.{sets, sets-eq, take_at, take_all, length-take-le}
use borrow.Rule.Slice.PartMut.{put_mid}
use Rattle.std.proofs.lemmas.Slice.{put_mid-paste}
use Rattle.std.proofs.lemmas.List.{drop-drop}
use Rattle.frame.specs.Frame.{esc_seq, start_seq, run_with, four_more, escaped, missing, closed, frame_of}
use Rattle.frame.proofs.Escapes.{escaped_other, escaped_nil}
use Rattle.refusals.proofs.Places.{from_place}
use Rattle.frame.proofs.Frames.{escaped_cons, frame_parts, length_closed}
use Rattle.crc_x25.specs.Crc.{crc_of}
use Rattle.encoder.specs.Encoder.{end_of}
use Rattle.encoder.specs.Parts.{Stored, Writes, NoneEscapes, run_after}

-- the element at i, then the rest
pub one_more : (m : List ℕ) (o x : ℕ) (xs : List ℕ) → sets (set m o x) (o + 1) xs ≡ sets m o (x ∷ xs)
one_more m o x xs = rw add-one

-- one list behind the other
pub sets_append : (m : List ℕ) (o : ℕ) (xs ys : List ℕ) → sets m o (xs ++ ys) ≡ sets (sets m o xs) (o + length xs) ys
sets_append m o [] ys = rw (add-zero o)
sets_append m o (x ∷ xs) ys =
    let e : suc o + length xs ≡ o + suc (length xs) = omega arith in
    sets_append (set m o x) (suc o) xs ys ∙ ap (λ (k : ℕ). sets (sets (set m o x) (suc o) xs) k ys) e

-- a list is copied into a part of its length
pub stored_mid : (m bytes ys : List ℕ) (o k : ℕ) → o + length bytes ≤ length m → ys ≡ bytes → length bytes ≡ k → put_mid o k m ys ≡ sets m o bytes
stored_mid m bytes ys o k h e f =
    put_mid-paste o k m ys bytes (length bytes) e f refl
    ∙ ap (λ (t : List ℕ). take o m ++ t ++ drop (o + length bytes) m) (take_all (length bytes) bytes (omega arith))
    ∙ sym (sets-eq bytes m o h)

some_run : (k n : ℕ) → run_after (suc k) n ≡ 0
some_run k n =
    let h : suc k ≡ 0 → ⊥ = λ e. absurd (omega arith) in
    simp (ne_eqb (suc k) 0 h)

no_run : (k : ℕ) → run_after k 0 ≡ 0
no_run zero = refl
no_run (suc k) = some_run k 0

-- k bytes that are no 1b stay as they are
plain_first : (k n : ℕ) (p : List ℕ) → k ≤ length p → NoneEscapes k p → escaped n p ≡ take k p ++ escaped (run_after k n) (drop k p)
plain_first zero n p h a = refl
plain_first (suc k) n [] h a = absurd (omega arith)
plain_first (suc k) n (b ∷ p) h a =
    escaped_other n b p (a 0 (omega arith))
    ∙ ap (λ (l : List ℕ). b ∷ l) (plain_first k 0 p (omega arith) (λ j f. a (suc j) (omega arith)) ∙ ap (λ (r : ℕ). take k p ++ escaped r (drop k p)) (no_run k ∙ sym (some_run k n)))

pub escaped_long : (n : ℕ) (p : List ℕ) → length p ≤ length (escaped n p)
unfolding escaped
escaped_long n [] = omega arith
escaped_long n (b ∷ p) = let l = length-append (four_more n b) (escaped (run_with n b) p) in omega (arith, l, escaped_long (run_with n b) p)

-- a byte with what follows it
escaped_on : (n : ℕ) (p : List ℕ) (i : ℕ) → i < length p → escaped n (drop i p) ≡ (get_or p i 0 ∷ four_more n (get_or p i 0)) ++ escaped (run_with n (get_or p i 0)) (drop (i + 1) p)
escaped_on n p i h = ap (escaped n) (from_place p i h) ∙ escaped_cons n (get_or p i 0) (drop (i + 1) p)

pub byte_room : (p : List ℕ) (o n i N : ℕ) → i < length p → o + length (escaped n (drop i p)) ≤ N → o + length (get_or p i 0 ∷ four_more n (get_or p i 0)) ≤ N
byte_room p o n i N h w =
    let b = get_or p i 0 in
    let rest = escaped (run_with n b) (drop (i + 1) p) in
    let l : length (escaped n (drop i p)) ≡ length (b ∷ four_more n b) + length rest = ap length (escaped_on n p i h) ∙ length-append (b ∷ four_more n b) rest in
    omega (arith, l)

pub byte_more : (m m₀ p : List ℕ) (o n i o₀ n₀ i₀ : ℕ) → i < length p → Writes m o n i m₀ o₀ n₀ i₀ p
    → Writes (sets m o (get_or p i 0 ∷ four_more n (get_or p i 0))) (o + length (get_or p i 0 ∷ four_more n (get_or p i 0))) (run_with n (get_or p i 0)) (i + 1) m₀ o₀ n₀ i₀ p
byte_more m m₀ p o n i o₀ n₀ i₀ h w =
    let b = get_or p i 0 in
    let rest = escaped (run_with n b) (drop (i + 1) p) in
    let t : escaped n (drop i p) ≡ (b ∷ four_more n b) ++ rest = escaped_on n p i h in
    let l : length (escaped n (drop i p)) ≡ length (b ∷ four_more n b) + length rest = ap length t ∙ length-append (b ∷ four_more n b) rest in
    (sym (sets_append m o (b ∷ four_more n b) rest) ∙ ap (sets m o) (sym t) ∙ w.0, omega (arith, l, w.1))

pub all_done : (m : List ℕ) (o n i : ℕ) (p : List ℕ) → length p ≤ i → (sets m o (escaped n (drop i p)) ≡ m) × (o + length (escaped n (drop i p)) ≡ o)
all_done m o n i p h = rw (drop_of_length-le p h, escaped_nil n) (refl, add-zero o)

-- what is lent from i on
pub lent_from : (p : List ℕ) (i : ℕ) → take (length p - i) (drop i p) ≡ drop i p
lent_from p i = take_all _ _ (omega (arith, length-drop i p))

-- behind a run of plain bytes, and behind one byte more
plain_done_from : (m m' m₀ p : List ℕ) (o k n n' i o₀ n₀ i₀ : ℕ) → k ≤ length (drop i p) → NoneEscapes k (drop i p) → Stored m' (o + k) m o (take k (drop i p)) → n' ≡ run_after k n
    → Writes m o n i m₀ o₀ n₀ i₀ p → Writes m' (o + k) n' (i + k) m₀ o₀ n₀ i₀ p
plain_done_from m m' m₀ p o k n n' i o₀ n₀ i₀ h a s e w =
    let first = take k (drop i p) in
    let rest = escaped (run_after k n) (drop (i + k) p) in
    let t : escaped n (drop i p) ≡ first ++ rest = plain_first k n (drop i p) h a ∙ ap (λ (l : List ℕ). first ++ escaped (run_after k n) l) (drop-drop k i p) in
    let l : length (escaped n (drop i p)) ≡ k + length rest = ap length t ∙ length-append first rest ∙ ap (λ (x : ℕ). x + length rest) (length-take-le k (drop i p) h) in
    rw e (
      ap (λ (x : List ℕ). sets x (o + k) rest) s.0 ∙ ap (λ (x : ℕ). sets (sets m o first) x rest) s.1 ∙ sym (sets_append m o first rest) ∙ sym (ap (sets m o) t) ∙ w.0,
      omega (arith, l, w.1),
    )

pub plain_done : (m m' m₀ p q : List ℕ) (o k n n' i o₀ n₀ i₀ : ℕ) → q ≡ drop i p → (k ≤ length q) × NoneEscapes k q × Stored m' (o + k) m o (take k q) → n' ≡ run_after k n
    → Writes m o n i m₀ o₀ n₀ i₀ p → Writes m' (o + k) n' (i + k) m₀ o₀ n₀ i₀ p
plain_done m m' m₀ p q o k n n' i o₀ n₀ i₀ z s e w =
    let t = subst (λ (q : List ℕ). (k ≤ length q) × NoneEscapes k q × Stored m' (o + k) m o (take k q)) z s in
    plain_done_from m m' m₀ p o k n n' i o₀ n₀ i₀ t.0 t.1 t.2 e w

pub byte_done : (m m' m₀ p : List ℕ) (o o' n n' i o₀ n₀ i₀ : ℕ) → i < length p → Stored m' o' m o (get_or p i 0 ∷ four_more n (get_or p i 0)) → n' ≡ run_with n (get_or p i 0)
    → Writes m o n i m₀ o₀ n₀ i₀ p → Writes m' o' n' (i + 1) m₀ o₀ n₀ i₀ p
byte_done m m' m₀ p o o' n n' i o₀ n₀ i₀ h q e w =
    rw e (subst (λ (x : List ℕ). Writes x o' (run_with n (get_or p i 0)) (i + 1) m₀ o₀ n₀ i₀ p) (sym q.0)
    (subst (λ (x : ℕ). Writes (sets m o (get_or p i 0 ∷ four_more n (get_or p i 0))) x (run_with n (get_or p i 0)) (i + 1) m₀ o₀ n₀ i₀ p) (sym q.1)
    (byte_more m m₀ p o n i o₀ n₀ i₀ h w)))

-- one list behind the other, with the places
pub stored_then : (m m' m'' : List ℕ) (o r r' : ℕ) (xs ys : List ℕ) → Stored m' r m o xs → Stored m'' r' m' r ys → Stored m'' r' m o (xs ++ ys)
stored_then m m' m'' o r r' xs ys a b = (
  b.0 ∙ ap (λ (x : List ℕ). sets x r ys) a.0 ∙ ap (λ (k : ℕ). sets (sets m o xs) k ys) a.1 ∙ sym (sets_append m o xs ys),
  simp length-append (omega (arith, a.1, b.1)),
)

-- what was stored from the first place on is read back
pub stored_take : (m m' : List ℕ) (r : ℕ) (xs : List ℕ) → Stored m' r m 0 xs → length xs ≤ length m → take r m' ≡ xs
stored_take m m' r xs a h =
    let f : 0 + length xs ≤ length m = omega arith in
    let e : length xs ≡ r = omega (arith, a.1) in
    rw (a.0, sets-eq xs m 0 f) (take_at xs (drop (0 + length xs) m) r e)

-- zero bytes cut from three
pub zeros_take : (pad : ℕ) → pad ≤ 3 → take {A = ℕ} pad (0x00 ∷ 0x00 ∷ 0x00 ∷ []) ≡ replicate pad 0x00
zeros_take zero h = refl
zeros_take (suc zero) h = refl
zeros_take (suc (suc zero)) h = refl
zeros_take (suc (suc (suc zero))) h = refl
zeros_take (suc (suc (suc (suc pad)))) h = absurd (omega arith)

pub zeros_length : (pad : ℕ) → pad ≤ 3 → length (take {A = ℕ} pad (0x00 ∷ 0x00 ∷ 0x00 ∷ [])) ≡ pad
zeros_length pad h = ap length (zeros_take pad h) ∙ length-replicate pad 0x00

pub stored_end : (m m₁ m₂ m₃ : List ℕ) (o r₁ r₂ r₃ pad : ℕ) → pad ≤ 3
    → Stored m₁ r₁ m o (take {A = ℕ} pad (0x00 ∷ 0x00 ∷ 0x00 ∷ [])) → Stored m₂ r₂ m₁ r₁ esc_seq → Stored m₃ r₃ m₂ r₂ (0x1a ∷ pad ∷ []) → Stored m₃ r₃ m o (end_of pad)
stored_end m m₁ m₂ m₃ o r₁ r₂ r₃ pad h a b c =
    let z = subst (λ (l : List ℕ). Stored m₁ r₁ m o l) (zeros_take pad h) a in
    stored_then m m₂ m₃ o r₂ r₃ (replicate pad 0x00 ++ esc_seq) (0x1a ∷ pad ∷ []) (stored_then m m₁ m₂ o r₁ r₂ (replicate pad 0x00) esc_seq z b) c

-- a CRC, low byte first
pub crc_low_first : (n : ℕ) → n < 2 ^ 16 → to_le_bytes w16 n ≡ n % 256 ∷ n / 256 ∷ []
crc_low_first n h = let e : n / 256 % 256 ≡ n / 256 = omega arith in rw e

-- bytes, then the CRC over them
stored_closed : (m m₁ m₂ body : List ℕ) (r₁ r₂ crc : ℕ) → length body ≤ length m
    → Stored m₁ r₁ m 0 body → crc ≡ crc_of (take r₁ m₁) → Stored m₂ r₂ m₁ r₁ (crc % 256 ∷ crc / 256 ∷ []) → Stored m₂ r₂ m 0 (closed body)
unfolding closed
stored_closed m m₁ m₂ body r₁ r₂ crc h a e b =
    let f : crc ≡ crc_of body = e ∙ ap crc_of (stored_take m m₁ r₁ body a h) in
    stored_then m m₁ m₂ 0 r₁ r₂ body _ a (subst (λ (x : ℕ). Stored m₂ r₂ m₁ r₁ (x % 256 ∷ x / 256 ∷ [])) f b)

-- a whole frame: its parts one after the other, and the CRC over them
pub stored_frame : (m m₁ m₂ m₃ m₄ P : List ℕ) (r₁ r₂ r₃ r₄ crc : ℕ) → length (frame_of P) ≤ length m
    → Stored m₁ r₁ m 0 start_seq → Stored m₂ r₂ m₁ r₁ (escaped 0 P) → Stored m₃ r₃ m₂ r₂ (end_of (missing (length P)))
    → crc ≡ crc_of (take r₃ m₃) → Stored m₄ r₄ m₃ r₃ (crc % 256 ∷ crc / 256 ∷ []) → Stored m₄ r₄ m 0 (frame_of P)
stored_frame m m₁ m₂ m₃ m₄ P r₁ r₂ r₃ r₄ crc h a b c e d =
    let body = start_seq ++ escaped 0 P ++ end_of (missing (length P)) in
    let s : Stored m₃ r₃ m 0 body = stored_then m m₂ m₃ 0 r₂ r₃ (start_seq ++ escaped 0 P) (end_of (missing (length P))) (stored_then m m₁ m₂ 0 r₁ r₂ start_seq (escaped 0 P) a b) c in
    let l : length (frame_of P) ≡ length body + 2 = ap length (frame_parts P) ∙ length_closed body in
    subst (λ (x : List ℕ). Stored m₄ r₄ m 0 x) (sym (frame_parts P)) (stored_closed m m₃ m₄ body r₃ r₄ crc (omega (arith, l)) s e d)

-- a byte is counted, with what follows it
pub counted_more : (p : List ℕ) (len n i k n' : ℕ) → i < length p → k ≡ length (get_or p i 0 ∷ four_more n (get_or p i 0)) → n' ≡ run_with n (get_or p i 0)
    → len + k + length (escaped n' (drop (i + 1) p)) ≡ len + length (escaped n (drop i p))
counted_more p len n i k n' h e f =
    let b = get_or p i 0 in
    let rest = escaped (run_with n b) (drop (i + 1) p) in
    let l : length (escaped n (drop i p)) ≡ length (b ∷ four_more n b) + length rest = ap length (escaped_on n p i h) ∙ length-append (b ∷ four_more n b) rest in
    rw f (omega (arith, l, e))

pub counted_room : (p : List ℕ) (len n i k : ℕ) → i < length p → k ≡ length (get_or p i 0 ∷ four_more n (get_or p i 0)) → len + k ≤ len + length (escaped n (drop i p))
counted_room p len n i k h e = omega (arith, counted_more p len n i k (run_with n (get_or p i 0)) h e refl)

pub length_end : (pad : ℕ) → length (end_of pad) ≡ pad + 6
length_end pad = simp (length-append, length-replicate) (omega arith)
