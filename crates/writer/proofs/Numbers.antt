-- Length fields and numbers as the code makes them, high digit first.
use mathlib.Core.Path.{◌≡◌, refl, sym, ap, ◌∙◌}
use mathlib.Core.List.{List, [], ◌∷◌, ◌++◌}
use mathlib.Core.Bool.{Bool, true, false, cond, not}
use mathlib.Core.Option.{Option, some, none}
use Prim.Native.Nat.{ℕ, zero, suc, ◌+◌, ◌*◌, ◌/◌, ◌%◌, ◌^◌, ◌-◌, ◌≤◌, ◌<◌}
use native.Mathlib.Nat.{div-eq_of_lt, lt-div-mul-add, zero-mul, pow-suc, lt_of_not-le}
use native.Mathlib.Decide.{dec_le}
use native.Mathlib.Omega.{arith}
use native.Mathlib.Numerals.{add-one}
use lib.ListN.{length}
use mir.Val.{bool_byte}
use lib.IntN.{ℤ, pos, negsuc}
use lib.Signed.{mag}
use lib.Pow.{pow-add}
use lib.Dec.{ltb, leb, eqb}
use borrow.Author.Tests.{ne_eqb, lt-ltb, le-ltb, le-leb, lt-leb, ltb-true}
use Rattle.byte_count.specs.Count.{first_that, unsigned_count}
use Rattle.byte_count.proofs.Bytes.{count_least}
use Rattle.tlf.specs.Written.{ty_number, total, more_bit, length_bytes, typed}
use Rattle.tlf.specs.declared.Ty.{Ty}
use Rattle.tlf.specs.declared.Ty.TheVariants.{OctetString, Boolean, Integer, Unsigned, ListOf}
use Rattle.value.specs.Values.{Status}
use Rattle.streaming.specs.Meaning.{each, status_means}
use Rattle.writer.specs.Fields.{write_optional, write_status, length_count, write_tlf, in_bytes, signed_count, low_bytes, write_unsigned, write_signed, write_octets, write_present}

pub pow_256 : (k : ℕ) → 2 ^ (8 * k) ≡ 256 ^ k
pow_256 zero = refl
pow_256 (suc k) =
    let e : 8 * suc k ≡ 8 * k + 8 = omega arith in
    rw (e, pow-suc 256 k, pow-add 2 (8 * k) 8, pow_256 k)

pub pow_16 : (k : ℕ) → 2 ^ (4 * k) ≡ 16 ^ k
pow_16 zero = refl
pow_16 (suc k) =
    let e : 4 * suc k ≡ 4 * k + 4 = omega arith in
    rw (e, pow-suc 16 k, pow-add 2 (4 * k) 4, pow_16 k)

-- the next byte of a number
pub next_byte : (k v : ℕ) → 1 ≤ k → in_bytes k v ≡ (v / 256 ^ (k - 1) % 256) ∷ in_bytes (k - 1) v
unfolding in_bytes
next_byte zero v h = absurd (omega arith)
next_byte (suc k) v h = let e : suc k - 1 ≡ k = omega arith in rw e

-- the next length byte
pub next_length : (k v : ℕ) → 1 ≤ k → length_bytes k v ≡ (more_bit (k - 1) + v / 16 ^ (k - 1) % 16) ∷ length_bytes (k - 1) v
unfolding length_bytes
next_length zero v h = absurd (omega arith)
next_length (suc k) v h = let e : suc k - 1 ≡ k = omega arith in rw e

-- a quotient is 0 below the divisor alone
pub over_is : (v m : ℕ) → 1 ≤ m → not (eqb (v / m) 0) ≡ leb m v
over_is v m p = at v m p (dec_le m v)
  where
    at : (v m : ℕ) → 1 ≤ m → Dec (m ≤ v) → not (eqb (v / m) 0) ≡ leb m v
    at v m p (yes q) = rw (ne_eqb (v / m) 0 (λ e. omega (arith, lt-div-mul-add {a = v} {b = m} p, zero-mul m, ap (λ (x : ℕ). x * m) e)), le-leb m v q)
    at v m p (no q) = let k : v < m = lt_of_not-le q in rw (div-eq_of_lt k, lt-leb m v k)

pub first_pass : (n : ℕ) (p : ℕ → Bool) → n ≤ 16 → p n ≡ false → first_that (17 - n) n p ≡ first_that (17 - (n + 1)) (n + 1) p
unfolding first_that
first_pass n p h f =
    let e : 17 - n ≡ suc (17 - (n + 1)) = omega arith in
    rw (e, f, add-one n)

pub first_stop : (n : ℕ) (p : ℕ → Bool) → n ≤ 16 → p n ≡ true → first_that (17 - n) n p ≡ n
unfolding first_that
first_stop n p h t =
    let e : 17 - n ≡ suc (17 - (n + 1)) = omega arith in
    rw (e, t)

pub total_le : (ty : Ty) (len n : ℕ) → total ty len n ≤ len + n
total_le OctetString len n = omega arith
total_le Boolean len n = omega arith
total_le Integer len n = omega arith
total_le Unsigned len n = omega arith
total_le ListOf len n = omega arith

-- one length byte is enough
pub short_tlf : (ty : Ty) (len : ℕ) → total ty len 1 < 16 → write_tlf ty len ≡ (16 * ty_number ty + total ty len 1) ∷ []
unfolding write_tlf length_count first_that typed length_bytes
short_tlf ty len h = rw (lt-ltb (total ty len 1) 16 h) (ap (λ (x : ℕ). x ∷ []) (omega arith))

typed_one : (ty : Ty) (n v : ℕ) → 1 ≤ n → typed ty n v ≡ (more_bit (n - 1) + 16 * ty_number ty + v / 16 ^ (n - 1) % 16) ∷ length_bytes (n - 1) v
unfolding typed
typed_one ty zero v h = absurd (omega arith)
typed_one ty (suc k) v h = let e : suc k - 1 ≡ k = omega arith in rw e

pub tlf_is : (ty : Ty) (len n : ℕ) → n ≡ length_count ty len → 1 ≤ n
    → write_tlf ty len ≡ (more_bit (n - 1) + 16 * ty_number ty + total ty len n / 16 ^ (n - 1) % 16) ∷ length_bytes (n - 1) (total ty len n)
unfolding write_tlf
tlf_is ty len n e h = rw (← e) (typed_one ty n (total ty len n) h)

-- a number of 64 bits has at most eight bytes, so one length byte
pub count_range : (v : ℕ) → v < 2 ^ 64 → (1 ≤ unsigned_count v) × (unsigned_count v ≤ 8)
count_range v h = let c = count_least v (omega arith) in (c.from, omega (arith, c.below))

pub unsigned_is : (v : ℕ) → v < 2 ^ 64 → write_unsigned v ≡ (0x61 + unsigned_count v) ∷ in_bytes (unsigned_count v) v
unfolding write_unsigned
unsigned_is v h =
    let r = count_range v h in
    rw (short_tlf Unsigned (unsigned_count v) (omega (arith, r.1))) (ap (λ (x : ℕ). x ∷ in_bytes (unsigned_count v) v) (omega arith))

-- the sign wants one bit more: as many bytes as twice the magnitude
half : (m n : ℕ) → 1 ≤ n → ltb (2 * m) (256 ^ n) ≡ ltb m (256 ^ n / 2)
half m zero h = absurd (omega arith)
half m (suc n) h = by (dec_le (256 ^ suc n / 2) m)
  where
    even : 256 ^ suc n ≡ 2 * (256 ^ suc n / 2)
    even = omega (arith, pow-suc 256 n)

    by : Dec (256 ^ suc n / 2 ≤ m) → ltb (2 * m) (256 ^ suc n) ≡ ltb m (256 ^ suc n / 2)
    by (yes q) = le-ltb (2 * m) (256 ^ suc n) (omega (arith, even)) ∙ sym (le-ltb m (256 ^ suc n / 2) q)
    by (no q) = lt-ltb (2 * m) (256 ^ suc n) (omega (arith, even, lt_of_not-le q)) ∙ sym (lt-ltb m (256 ^ suc n / 2) (lt_of_not-le q))

first_same : (k n : ℕ) (p q : ℕ → Bool) → 1 ≤ n → ((m : ℕ) → 1 ≤ m → p m ≡ q m) → first_that k n p ≡ first_that k n q
unfolding first_that
first_same zero n p q h e = refl
first_same (suc k) n p q h e = rw (e n h, first_same k (suc n) p q (omega arith) e)

pub signed_twice : (z : ℤ) → signed_count z ≡ unsigned_count (2 * mag z)
unfolding signed_count unsigned_count
signed_twice z = first_same 8 1 (λ n. ltb (mag z) (256 ^ n / 2)) (λ n. ltb (2 * mag z) (256 ^ n)) (omega arith) (λ m h. sym (half (mag z) m h))

-- so many bytes hold the number with its sign
pub signed_range : (z : ℤ) → mag z < 2 ^ 63 → (1 ≤ unsigned_count (2 * mag z)) × (unsigned_count (2 * mag z) ≤ 8) × (mag z < 256 ^ unsigned_count (2 * mag z) / 2)
signed_range z h =
    let c = count_least (2 * mag z) (omega arith) in
    (c.from, omega (arith, c.below), ltb-true _ _ (sym (half (mag z) (unsigned_count (2 * mag z)) c.from) ∙ c.holds))

pub signed_is : (z : ℤ) (n : ℕ) → n ≡ signed_count z → mag z < 2 ^ 63 → write_signed z ≡ (0x51 + n) ∷ in_bytes n (low_bytes n z)
unfolding write_signed
signed_is z n e h =
    let r = signed_range z h in
    let m = e ∙ signed_twice z in
    rw (← e, short_tlf Integer n (omega (arith, m, r.1))) (ap (λ (x : ℕ). x ∷ in_bytes n (low_bytes n z)) (omega arith))

-- a list's head of one byte
pub list_head_claim : (n : ℕ) → n < 16 → write_tlf ListOf n ≡ (112 + n) ∷ []
list_head_claim n h = short_tlf ListOf n h

-- an optional string that is present
pub present_none : (x : List ℕ) → length x ≡ 0 → (0x80 ∷ []) ++ (0x02 ∷ []) ≡ write_present x
unfolding write_present
present_none [] h = refl
present_none (b ∷ x) h = absurd (omega arith)

pub present_some : (x : List ℕ) → (length x ≡ 0 → ⊥) → write_octets x ≡ write_present x
unfolding write_present
present_some [] h = absurd (h refl)
present_some (b ∷ x) h = refl

pub bool_is : (b : Bool) → bool_byte b ≡ cond b 1 0
bool_is true = refl
bool_is false = refl

-- the width of a status does not count
pub width_forgotten : (m : Option Status) → write_optional write_status m ≡ write_optional write_status (each status_means m)
unfolding write_optional write_status
width_forgotten none = refl
width_forgotten (some x) = refl

-- a number of one byte
pub unsigned_short : (v : ℕ) → v < 256 → (0x62 ∷ []) ++ (v ∷ []) ≡ write_unsigned v
unfolding unsigned_count first_that in_bytes
unsigned_short v h =
    let e : v / 1 % 256 ≡ v = omega arith in
    sym (unsigned_is v (omega arith) ∙ rw (lt-ltb v 256 h, e))

pub low_byte : (z : ℤ) → mag z < 128 → low_bytes 1 z < 256
unfolding low_bytes
low_byte (pos v) h = omega (arith, h)
low_byte (negsuc k) h = omega arith

pub signed_short : (z : ℤ) → mag z < 128 → (0x52 ∷ []) ++ (low_bytes 1 z ∷ []) ≡ write_signed z
unfolding signed_count first_that in_bytes
signed_short z h =
    let one : signed_count z ≡ 1 = rw (lt-ltb (mag z) 128 h) in
    let r = low_byte z h in
    let e : low_bytes 1 z / 1 % 256 ≡ low_bytes 1 z = omega (arith, r) in
    sym (signed_is z 1 (sym one) (omega arith) ∙ rw e)
