-- Laws of numbers of 1 to 8 bytes, once over the number of bytes.
use mathlib.Core.Path.{◌≡◌, refl}
use mathlib.Core.List.{List, [], ◌∷◌, ◌++◌}
use mathlib.Core.Bool.{Bool, true, false, cond}
use Prim.Native.Nat.{ℕ, zero, suc, ◌+◌, ◌*◌, ◌/◌, ◌-◌, ◌^◌, ◌≤◌, ◌<◌}
use native.Mathlib.Nat.{zero-add, mul-one, mul_assoc, mul_comm, mul-le-mul_right, mul-le-mul_left, pow-succ', one-le-pow, lt_of_lt_of_le, pow-le-pow_right}
use native.Mathlib.Numerals.{add-one}
use native.Mathlib.Omega.{arith}
use lib.ListN.{length, get_or, take, drop}
use lib.Seq.{take-suc, get_or-drop}
use lib.Dec.{ltb, leb, lit<}
use lib.Signed.{mag}
use lib.IntN.{ℤ, pos, negsuc, ◌-ℤ◌}
use mir.Syntax.{Width, w8, w64}
use mir.Val.{to_z, of_z, Fits, SFits}
use mir.ValLaws.{to_z_pos, to_z-neg, to_z-of_z}
use borrow.Author.Tests.{leb-true, ltb-true, ltb-false, lt-ltb, le-ltb}
use Rattle.refusals.specs.Read.{got, then, span_at}
use Rattle.refusals.specs.declared.Span.{Span}
use Rattle.refusals.proofs.Read.{Ok, ok_at, ok_got, ok_then, ok_guard, Ahead, byte_ok, span_ok, and_left, and_right}
use Rattle.refusals.proofs.Rest.{Rest, Gets, gets_then, gets_got, span_gets}
use Rattle.tlf.specs.declared.TypeLengthField.{TypeLengthField}
use Rattle.tlf.proofs.Lengths.{tlf_ok}
use Rattle.numbers.specs.Numbers.{number, bytes_at_claim, Raw, is_number, fits_width, raw_from, raw_at, unsigned_at, signed_of, signed_at, bool_from, bool_at}

pub neg_one_sub : (k : ℕ) → negsuc 0 -ℤ pos k ≡ negsuc k
neg_one_sub zero = refl
neg_one_sub (suc j) = rw zero-add

number_snoc : (high b : ℕ) (xs : List ℕ) → number high (xs ++ (b ∷ [])) ≡ number high xs * 256 + b
unfolding number
number_snoc high b [] = refl
number_snoc high b (x ∷ xs) = number_snoc (high * 256 + x) b xs

-- one byte more
pub number_next : (s : List ℕ) (at i : ℕ) → i < length (drop at s)
    → number 0 (take (i + 1) (drop at s)) ≡ number 0 (take i (drop at s)) * 256 + get_or s (at + i) 0
number_next s at i h = rw (add-one, take-suc (drop at s) i 0 h, number_snoc, get_or-drop)

pub number_on : (s : List ℕ) (i : ℕ) → i < length s → number 0 (take (i + 1) s) ≡ number 0 (take i s) * 256 + get_or s i 0
number_on s i h = rw (add-one, take-suc s i 0 h, number_snoc)

-- every element is a byte
abbrev pub Bytes : List ℕ → Type 0
Bytes xs = (j : ℕ) → Fits w8 (get_or xs j 0)

number_below : (high n : ℕ) (xs : List ℕ) → Bytes xs → number high (take n xs) < (high + 1) * 256 ^ n
unfolding number
number_below high zero xs h = rw mul-one (omega arith)
number_below high (suc n) [] h = omega (arith, mul-le-mul_left (high + 1) (one-le-pow (suc n) 256 (lit< tt)), mul-one (high + 1))
number_below high (suc n) (b ∷ xs) h =
    rw (pow-succ', ← mul_assoc)
    (lt_of_lt_of_le (number_below (high * 256 + b) n xs (λ j. h (suc j)))
    (mul-le-mul_right (256 ^ n) (omega (arith, (h 0).fits))))

pub number_small : (s : List ℕ) (at n : ℕ) → Bytes s → number 0 (take n (drop at s)) < 256 ^ n
number_small s at n h =
    omega (arith, number_below 0 n (drop at s) (λ j. rw get_or-drop (h (at + j))), mul_comm 1 (256 ^ n), mul-one (256 ^ n))

pub pow_up : (n m : ℕ) → n ≤ m → 256 ^ n ≤ 256 ^ m
pow_up n m h = pow-le-pow_right (lit< tt) h

-- the largest number of n bytes, cut from that of eight
pub ones_are : (n : ℕ) → 1 ≤ n → n ≤ 8 → 0xffffffffffffffff / 2 ^ (64 - 8 * n) ≡ 256 ^ n - 1
ones_are zero h k = absurd (omega arith)
ones_are (suc zero) h k = refl
ones_are (suc (suc zero)) h k = refl
ones_are (suc (suc (suc zero))) h k = refl
ones_are (suc (suc (suc (suc zero)))) h k = refl
ones_are (suc (suc (suc (suc (suc zero))))) h k = refl
ones_are (suc (suc (suc (suc (suc (suc zero)))))) h k = refl
ones_are (suc (suc (suc (suc (suc (suc (suc zero))))))) h k = refl
ones_are (suc (suc (suc (suc (suc (suc (suc (suc zero)))))))) h k = refl
ones_are (suc (suc (suc (suc (suc (suc (suc (suc (suc n))))))))) h k = absurd (omega arith)

pub bytes_ok : (s : List ℕ) (at n : ℕ) → Bytes s → Ok (λ v next. (v < 256 ^ n) × (next ≡ at + n) × (next ≤ length s)) (bytes_at_claim s at n)
unfolding bytes_at_claim
bytes_ok s at n h =
    ok_then _ _ (span_ok s at n) (λ p next i. ok_got _ _ (rw (i.start_is, i.len_is) (number_small s at n h), i.next_is, i.within))

-- a reading of n bytes as a number, where there are so many
pub raw_got : (s : List ℕ) (at n : ℕ) {p : Span} {e : ℕ} → got p e ≡ span_at s at n → got (record { len = n; value = number 0 (take n (drop at s)) }) e ≡ raw_from s at n
unfolding raw_from bytes_at_claim then
raw_got s at n h = let i = ok_at h (span_ok s at n) in rw (← h, i.start_is, i.len_is)

-- a length that fits a width
pub fits_low : (signed : Bool) (width : ℕ) (t : TypeLengthField) → fits_width signed width t ≡ true → 1 ≤ t.len
fits_low signed width t e = leb-true 1 t.len (and_left _ (leb t.len width) (and_right (is_number signed t.ty) _ e))

pub fits_high : (signed : Bool) (width : ℕ) (t : TypeLengthField) → fits_width signed width t ≡ true → t.len ≤ width
fits_high signed width t e = leb-true t.len width (and_right (leb 1 t.len) _ (and_right (is_number signed t.ty) _ e))

-- what is known of a number that was read
pub record RawOk (width : ℕ) (r : Raw) : Type 0 where
  pub low : 1 ≤ r.len
  pub high : r.len ≤ width
  pub small : r.value < 256 ^ r.len

pub raw_ok : (signed : Bool) (width : ℕ) (s : List ℕ) (at : ℕ) → Bytes s → Ok (λ r n. RawOk width r × Ahead s at n) (raw_at signed width s at)
unfolding raw_at raw_from
raw_ok signed width s at h =
    ok_then _ _ (tlf_ok s at) (λ t m a. ok_guard _ _ _ (λ e.
    ok_then _ _ (bytes_ok s m t.len h) (λ v end b.
    let i = b.1 in
    let j = b.2 in
    ok_got _ _ (
      record { low = fits_low signed width t e; high = fits_high signed width t e; small = b.0 },
      record { ahead = omega arith; within = j },
    ))))

-- a number of a width's bytes is below the width's bound
pub raw_lt : {width : ℕ} {r : Raw} → RawOk width r → r.value < 256 ^ width
raw_lt {width} {r} ok = lt_of_lt_of_le ok.small (pow_up r.len width ok.high)

sign_at : (len v : ℕ) (b : Bool) → ltb (2 * v) (256 ^ len) ≡ b → 1 ≤ len → v < 256 ^ len
    → mag (cond b (pos v) (negsuc (256 ^ len - 1 - v))) < 256 ^ len / 2
sign_at zero v b e h k = absurd (omega arith)
sign_at (suc n) v true e h k = omega (arith, ltb-true (2 * v) _ e, pow-succ' 256 n, one-le-pow n 256 (lit< tt))
sign_at (suc n) v false e h k = omega (arith, ltb-false (2 * v) _ e, pow-succ' 256 n)

-- a signed number of a width's bytes is within the width's bounds
pub sign_lt : {width : ℕ} {r : Raw} → RawOk width r → mag (signed_of r.len r.value) < 256 ^ width / 2
unfolding signed_of
sign_lt {width} {r} ok =
    omega (arith, sign_at r.len r.value _ refl ok.low ok.small, pow_up r.len width ok.high)

-- a signed number that fits a narrower width goes there unchanged
pub narrow : (w : Width) (z : ℤ) → SFits w64 z → SFits w z → to_z w (of_z w (to_z w64 (of_z w64 z))) ≡ z
narrow w z h k = rw (to_z-of_z w64 z h, to_z-of_z w z k)

-- what a reading of each kind finds: a value in range, and a place ahead
pub unsigned_ok : (width : ℕ) (s : List ℕ) (at : ℕ) → Bytes s → Ok (λ v n. (v < 256 ^ width) × Ahead s at n) (unsigned_at width s at)
unfolding unsigned_at
unsigned_ok width s at h = ok_then _ _ (raw_ok false width s at h) (λ r n q. ok_got _ _ (raw_lt q.0, q.1))

pub signed_ok : (width : ℕ) (s : List ℕ) (at : ℕ) → Bytes s → Ok (λ z n. (mag z < 256 ^ width / 2) × Ahead s at n) (signed_at width s at)
unfolding signed_at
signed_ok width s at h = ok_then _ _ (raw_ok true width s at h) (λ r n q. ok_got _ _ (sign_lt q.0, q.1))

pub bool_ok : (s : List ℕ) (at : ℕ) → Ok (λ b n. Ahead s at n) (bool_at s at)
unfolding bool_at bool_from
bool_ok s at =
    ok_then _ _ (tlf_ok s at) (λ t m a. ok_guard _ _ _ (λ e. ok_then _ _ (byte_ok s m) (λ b n q.
    let i = q.2 in
    ok_got _ _ (record { ahead = omega arith; within = i.within }))))

-- the bytes x at a place are read as their number
pub bytes_gets : (x : List ℕ) (n : ℕ) {s : List ℕ} {p : ℕ} (l : List ℕ) → length x ≡ n → Rest s p (x ++ l) → Gets (λ (v : ℕ). v ≡ number 0 x) s l (bytes_at_claim s p n)
unfolding bytes_at_claim
bytes_gets x n l e h = gets_then _ _ (span_gets x n l e h) (λ a m q k. gets_got (rw q) k)

-- one byte's bits, read as a signed number
one_at : (b : ℕ) (t : Bool) → ltb b 128 ≡ t → b < 256 → to_z w8 b ≡ signed_of 1 b
unfolding signed_of
one_at b true e h = rw (to_z_pos w8 b (ltb-true b 128 e), lt-ltb (2 * b) 256 (omega (arith, ltb-true b 128 e)))
one_at b false e h =
    let k : 128 ≤ b = ltb-false b 128 e in
    let z : 256 - suc (255 - b) ≡ b = omega arith in
    rw (le-ltb (2 * b) 256 (omega arith)) (rw z at (to_z-neg w8 (255 - b) (omega arith)))

pub one_signed : (b : ℕ) → b < 256 → to_z w8 b ≡ signed_of 1 b
one_signed b h = one_at b (ltb b 128) refl h
