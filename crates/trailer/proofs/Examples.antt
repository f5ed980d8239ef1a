-- The trailer of a close response, right and wrong, of the definition: 15 before 14, and the CRC up to its own length byte.
use mathlib.Core.Path.{◌≡◌, refl}
use mathlib.Core.List.{List, [], ◌∷◌}
use Prim.Native.Nat.{ℕ}
use Rattle.crc_x25.specs.Crc.{reflect, polynomial, bit_step, bit_steps, byte_step, register, final_xor, crc_of}
use Rattle.refusals.specs.Read.{got, refused, then, guard, need, crc_mismatch, wrong_end, byte_at, span_at}
use Rattle.tlf.specs.Lengths.{tlf_at, length_from, less_own}
use Rattle.numbers.specs.Numbers.{number, bytes_at_claim, raw_from, raw_at, unsigned_at}
use Rattle.trailer.specs.Trailer.{message_end_at, crc_from, trailer_at}

-- a close response whose CRC's two bytes and end byte are these
abbrev pub closing : ℕ → ℕ → ℕ → List ℕ
closing high low end = 0x76 ∷ 0x03 ∷ 0xdd ∷ 0x43 ∷ 0x62 ∷ 0x00 ∷ 0x62 ∷ 0x00 ∷ 0x72 ∷ 0x63 ∷ 0x02 ∷ 0x01 ∷ 0x71 ∷ 0x01 ∷ 0x63 ∷ high ∷ low ∷ end ∷ []

pub record TrailerExamples : Type 0 where
  pub right : trailer_at (closing 0x0f 0x5b 0x00) 0 14 ≡ got tt 18
  pub both_wrong : trailer_at (closing 0x5b 0x0f 0x01) 0 14 ≡ refused (wrong_end 17)
  pub end_wrong : trailer_at (closing 0x0f 0x5b 0x01) 0 14 ≡ refused (wrong_end 17)
  pub crc_wrong : trailer_at (closing 0x5b 0x0f 0x00) 0 14 ≡ refused (crc_mismatch 14)

pub trailer_examples : TrailerExamples
unfolding then guard need byte_at span_at tlf_at length_from less_own number bytes_at_claim raw_from raw_at unsigned_at message_end_at reflect polynomial bit_step bit_steps byte_step register final_xor crc_of crc_from trailer_at
trailer_examples = record { right = refl; both_wrong = refl; end_wrong = refl; crc_wrong = refl }
