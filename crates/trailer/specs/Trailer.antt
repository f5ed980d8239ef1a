-- rule: a message's trailer, its CRC and its end byte.
use Rattle.std.specs.Prelude.{ℕ, ◌+◌, ◌-◌, ◌*◌, ◌/◌, ◌%◌, List, take, drop, eqb}
use Rattle.refusals.specs.Read.{Read, got, then, guard, crc_mismatch, wrong_end, byte_at}
use Rattle.numbers.specs.Numbers.{unsigned_at}
use Rattle.crc_x25.specs.Crc.{crc_of}

-- the end byte of a message is 00
unfoldable pub message_end_at : List ℕ → ℕ → Read (Unit {0})
message_end_at s at =
    then (byte_at s at) λ b next.
    guard (eqb b 0x00) (wrong_end at)
    (got tt next)

-- the two bytes of a number, swapped
abbrev pub swapped : ℕ → ℕ
swapped x = x % 256 * 256 + x / 256

-- the CRC of the input's bytes from `start` up to `at`
unfoldable pub crc_from : List ℕ → ℕ → ℕ → ℕ
crc_from s start at = crc_of (take (at - start) (drop start s))

-- the CRC covers the message, which begins at `start`, up to its own length byte, which stands at `at`;
-- it is compared, bytes swapped, after the end byte is judged: 15 before 14
unfoldable pub trailer_at : List ℕ → ℕ → ℕ → Read (Unit {0})
trailer_at s start at =
    then (unsigned_at 2 s at) λ crc n₁.
    then (message_end_at s n₁) λ end n₂. guard (eqb crc (swapped (crc_from s start at))) (crc_mismatch at) (got tt n₂)
