-- Bits and bytes: the fewest bytes that hold a number, from the number of its bits.
use mathlib.Core.Path.{◌≡◌, refl}
use Prim.Native.Nat.{ℕ, zero, suc, ◌+◌, ◌*◌, ◌-◌, ◌/◌, ◌^◌, ◌≤◌, ◌<◌}
use native.Mathlib.Nat.{lt_of_lt_of_le, lt_of_not-le, pow-suc}
use native.Mathlib.Omega.{arith}
use native.Mathlib.Decide.{dec_le}
use lib.Pow.{pow_mono, pow-add}
use lib.Dec.{ltb}
use borrow.Author.Tests.{ltb-true, lt-ltb}
use Rattle.std.specs.Prelude.{max}
use Rattle.std.specs.Int.{div_ceil}
use lib.Count.{count_leading_zeros, leading_length}
use Rattle.byte_count.specs.Count.{unsigned_count}
use Rattle.byte_count.proofs.Least.{Least, first_that_is}

pub bytes_bits : (n : ℕ) → 256 ^ n ≡ 2 ^ (8 * n)
bytes_bits zero = refl
bytes_bits (suc n) =
    let e : 8 * suc n ≡ 8 * n + 8 = omega arith in
    rw (e, pow-suc 256 n, pow-add 2 (8 * n) 8, bytes_bits n)

-- whatever eight bytes hold, the count is the least
pub count_least : (v : ℕ) → v < 256 ^ 8 → Least (λ n. ltb v (256 ^ n)) 1 9 (unsigned_count v)
unfolding unsigned_count
count_least v h = first_that_is 8 1 (λ n. ltb v (256 ^ n)) 8 (omega arith) (omega arith) (lt-ltb v (256 ^ 8) h)

-- n bytes hold v and no fewer do: then n is the count
count_is : (v n : ℕ) → v < 256 ^ 8 → 1 ≤ n → v < 256 ^ n → ((m : ℕ) → 1 ≤ m → v < 256 ^ m → n ≤ m) → n ≡ unsigned_count v
count_is v n big low holds least =
    let c = count_least v big in
    omega (arith, c.least n low (lt-ltb v (256 ^ n) holds), least (unsigned_count v) c.from (ltb-true _ _ c.holds))

-- x has m bits: then it wants (m + 7) / 8 bytes
bits_count : (x m : ℕ) → x < 256 ^ 8 → x < 2 ^ m → 2 ^ m ≤ 2 * x + 1 → 1 ≤ m → (m + 7) / 8 ≡ unsigned_count x
bits_count x m big h l p =
    count_is x ((m + 7) / 8) big (omega arith) (rw bytes_bits (lt_of_lt_of_le h (pow_mono (omega arith)))) (λ k q b. le_of x m k l b (dec_le m (8 * k)))
  where
    le_of : (x m k : ℕ) → 2 ^ m ≤ 2 * x + 1 → x < 256 ^ k → Dec (m ≤ 8 * k) → (m + 7) / 8 ≤ k
    le_of x m k l b (yes q) = omega arith
    le_of x m k l b (no q) =
        let h : suc (8 * k) ≤ m = lt_of_not-le q in
        absurd (omega (arith, bytes_bits k, pow-suc 2 (8 * k), pow_mono h))

-- from the leading zero bits of 64: rounded up, at least one
pub leading_count : (x : ℕ) → x < 2 ^ 64 → max (div_ceil (64 - count_leading_zeros 64 x) 8) 1 ≡ unsigned_count x
leading_count x h = go (leading_length 64 x h)
  where
    go : (m : ℕ) × (count_leading_zeros 64 x + m ≡ 64) × (x < 2 ^ m) × (2 ^ m ≤ 2 * x + 1) → max (div_ceil (64 - count_leading_zeros 64 x) 8) 1 ≡ unsigned_count x
    go (zero, e, l, g) =
        let z : 64 - count_leading_zeros 64 x ≡ 0 = omega arith in
        rw z (count_is x 1 (omega arith) (omega arith) (omega arith) (λ m p q. p))
    go (suc m, e, l, g) =
        let z : 64 - count_leading_zeros 64 x ≡ suc m = omega arith in
        let c = bits_count x (suc m) (omega (arith, h)) l g (omega arith) in
        rw z (omega (arith, c))
