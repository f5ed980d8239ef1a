-- Laws of the register: over two lists one after the other, by place, and its range; the published check value.
use Prim.Native.Nat.{ℕ, zero, suc, ◌+◌, ◌/◌, ◌%◌, ◌^◌, ◌≤◌, ◌<◌}
use mathlib.Core.List.{List, [], ◌∷◌, ◌++◌}
use mathlib.Core.Bool.{Bool, true, false, cond}
use mathlib.Core.Path.{◌≡◌, refl}
use native.Mathlib.Numerals.{add-one}
use native.Mathlib.Omega.{arith}
use lib.ListN.{length, get_or, drop, drop_of_length-le}
use lib.Seq.{drop-cons}
use lib.Bits.{bit_xor, xor_lt}
use lib.Dec.{eqb}
use Rattle.crc_x25.specs.Crc.{reflect, polynomial, start, bit_step, bit_steps, byte_step, register, final_xor, crc_of}

-- the published check value: of "123456789"
pub check_value : crc_of (0x31 ∷ 0x32 ∷ 0x33 ∷ 0x34 ∷ 0x35 ∷ 0x36 ∷ 0x37 ∷ 0x38 ∷ 0x39 ∷ []) ≡ 0x906e
unfolding reflect polynomial bit_step bit_steps byte_step register final_xor crc_of
check_value = refl

pub polynomial_is : polynomial ≡ 0x8408
unfolding reflect polynomial
polynomial_is = refl

-- over two lists, one after the other
pub register_append : (r : ℕ) (s t : List ℕ) → register r (s ++ t) ≡ register (register r s) t
unfolding register
register_append r [] t = refl
register_append r (b ∷ s) t = register_append (byte_step r b) s t

-- one byte, and none
pub register_one : (r b : ℕ) → register r (b ∷ []) ≡ byte_step r b
unfolding register
register_one r b = refl

pub register_none : (r : ℕ) → register r [] ≡ r
unfolding register
register_none r = refl

-- the byte at i, then the rest
pub register_next : (r : ℕ) (s : List ℕ) (i : ℕ) → i < length s → register (byte_step r (get_or s i 0)) (drop (i + 1) s) ≡ register r (drop i s)
unfolding register
register_next r s i h = rw (add-one, drop-cons s i 0)

pub register_done : (r : ℕ) (s : List ℕ) (i : ℕ) → length s ≤ i → register r (drop i s) ≡ r
unfolding register
register_done r s i h = rw drop_of_length-le

either_bit : (p : Bool) (a b : ℕ) → a < 2 ^ 16 → b < 2 ^ 16 → cond p a b < 2 ^ 16
either_bit true a b h k = h
either_bit false a b h k = k

bits_fit : (n r : ℕ) → r < 2 ^ 16 → bit_steps n r < 2 ^ 16
unfolding bit_steps bit_step
bits_fit zero r h = h
bits_fit (suc n) r h =
    let half : r / 2 < 2 ^ 16 = omega arith in
    bits_fit n _ (either_bit (eqb (r % 2) 1) _ _ (xor_lt 16 (r / 2) polynomial half (rw polynomial_is (omega arith))) half)

-- the register keeps to sixteen bits
pub byte_fits : (r b : ℕ) → r < 2 ^ 16 → b < 2 ^ 8 → byte_step r b < 2 ^ 16
unfolding byte_step
byte_fits r b h k = bits_fit 8 (bit_xor r b) (xor_lt 16 r b h (omega (arith, k)))

pub register_fits : (r : ℕ) (s : List ℕ) → r < 2 ^ 16 → ((i : ℕ) → get_or s i 0 < 2 ^ 8) → register r s < 2 ^ 16
unfolding register
register_fits r [] h k = h
register_fits r (b ∷ s) h k = register_fits (byte_step r b) s (byte_fits r b h (k 0)) (λ i. k (suc i))

pub crc_fits : (s : List ℕ) → ((i : ℕ) → get_or s i 0 < 2 ^ 8) → crc_of s < 2 ^ 16
unfolding crc_of final_xor
crc_fits s k = xor_lt 16 _ 0xffff (register_fits start s (omega arith) k) (omega arith)

-- the CRC is what the register is closed with
pub crc_is : (s : List ℕ) → crc_of s ≡ final_xor (register start s)
unfolding crc_of
crc_is s = refl
