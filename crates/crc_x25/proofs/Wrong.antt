-- What the contracts rule out: each wrong reading of docs/WRONG-READINGS.md that is told here is an outcome that the definition does not allow, at a small input.
use mathlib.Core.Path.{◌≡◌, ◌∙◌}
use mathlib.Core.List.{[], ◌∷◌}
use Prim.Native.Nat.{ℕ}
use native.Mathlib.Omega.{arith}
use Rattle.crc_x25.specs.Crc.{reflect, polynomial, bit_step, bit_steps, byte_step, register, final_xor, crc_of}
use Rattle.crc_x25.proofs.Laws.{check_value}

-- "123456789" by polynomial 8005: not its CRC
crc_wrong_polynomial : 0xb4c8 ≡ crc_of (0x31 ∷ 0x32 ∷ 0x33 ∷ 0x34 ∷ 0x35 ∷ 0x36 ∷ 0x37 ∷ 0x38 ∷ 0x39 ∷ []) → ⊥
crc_wrong_polynomial h = let n : ◌≡◌ {A = ℕ} 0xb4c8 0x906e = h ∙ check_value in omega (arith, n)

-- by 1021 as it is printed, its bits not reflected
crc_not_reflected : 0xe245 ≡ crc_of (0x31 ∷ 0x32 ∷ 0x33 ∷ 0x34 ∷ 0x35 ∷ 0x36 ∷ 0x37 ∷ 0x38 ∷ 0x39 ∷ []) → ⊥
crc_not_reflected h = let n : ◌≡◌ {A = ℕ} 0xe245 0x906e = h ∙ check_value in omega (arith, n)

-- "1234" brought in as one number, its first byte highest
four_bytes_highest_first : 0x0e12 ≡ crc_of (0x31 ∷ 0x32 ∷ 0x33 ∷ 0x34 ∷ []) → ⊥
unfolding reflect polynomial bit_step bit_steps byte_step register final_xor crc_of
four_bytes_highest_first h = let n : ◌≡◌ {A = ℕ} 0x0e12 0x74ec = h in omega (arith, n)

-- "12345678" the same way, in a turn of eight bytes
eight_bytes_highest_first : 0x8d76 ≡ crc_of (0x31 ∷ 0x32 ∷ 0x33 ∷ 0x34 ∷ 0x35 ∷ 0x36 ∷ 0x37 ∷ 0x38 ∷ []) → ⊥
unfolding reflect polynomial bit_step bit_steps byte_step register final_xor crc_of
eight_bytes_highest_first h = let n : ◌≡◌ {A = ℕ} 0x8d76 0x086a = h in omega (arith, n)
