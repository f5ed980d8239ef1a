-- rule: CRC X25, public name CRC-16/IBM-SDLC, bit by bit from its public parameters.
use Rattle.std.specs.Prelude.{ℕ, zero, suc, ◌+◌, ◌*◌, ◌/◌, ◌%◌, ◌^◌, List, [], ◌∷◌, cond, eqb}
use Rattle.std.specs.Int.Bits.{bit_xor}

-- the n low bits of v, in the other order
unfoldable pub reflect : ℕ → ℕ → ℕ
reflect zero v = 0
reflect (suc n) v = v % 2 * 2 ^ n + reflect n (v / 2)

-- polynomial 1021 hex, bits reflected
unfoldable pub polynomial : ℕ
polynomial = reflect 16 0x1021

-- start ffff
abbrev pub start : ℕ
start = 0xffff

-- one bit of the register, lowest first
unfoldable pub bit_step : ℕ → ℕ
bit_step r = cond (eqb (r % 2) 1) (bit_xor (r / 2) polynomial) (r / 2)

unfoldable pub bit_steps : ℕ → ℕ → ℕ
bit_steps zero r = r
bit_steps (suc n) r = bit_steps n (bit_step r)

-- the register after one byte
unfoldable pub byte_step : ℕ → ℕ → ℕ
byte_step r b = bit_steps 8 (bit_xor r b)

-- the register after a list of bytes
unfoldable pub register : ℕ → List ℕ → ℕ
register r [] = r
register r (b ∷ bs) = register (byte_step r b) bs

-- final xor ffff
unfoldable pub final_xor : ℕ → ℕ
final_xor r = bit_xor r 0xffff

unfoldable pub crc_of : List ℕ → ℕ
crc_of bs = final_xor (register start bs)
