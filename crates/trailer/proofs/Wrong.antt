-- What the contracts rule out: each wrong reading of docs/WRONG-READINGS.md that is told here is an outcome that the definition does not allow, at a small input.
use mathlib.Core.Path.{◌≡◌, ap, ◌∙◌}
use Prim.Native.Nat.{ℕ}
use native.Mathlib.Omega.{arith}
use Rattle.crc_x25.specs.Crc.{reflect, polynomial, bit_step, bit_steps, byte_step, register, final_xor, crc_of}
use Rattle.std.specs.Prelude.{Ok, Err}
use Rattle.refusals.specs.Read.{then, guard, need, byte_at, span_at}
use Rattle.refusals.specs.declared.ParseError.TheVariants.{CrcMismatch}
use Rattle.refusals.proofs.Codes.{refusal_number, refusal_place}
use Rattle.tlf.specs.Lengths.{tlf_at, length_from, less_own}
use Rattle.numbers.specs.Numbers.{number, bytes_at_claim, raw_from, raw_at, unsigned_at}
use Rattle.tlf.specs.Answers.{place_read}
use Rattle.trailer.specs.Trailer.{message_end_at, crc_from, trailer_at}
use Rattle.trailer.proofs.Examples.{closing, trailer_examples}

-- a wrong CRC is named at its first length byte, not at the message's
crc_mismatch_named_at_the_message : place_read (Err (record { error = CrcMismatch; place = 0 })) ≡ trailer_at (closing 0x5b 0x0f 0x00) 0 14 → ⊥
crc_mismatch_named_at_the_message h = let n : ◌≡◌ {A = ℕ} 0 14 = ap refusal_place (h ∙ trailer_examples.crc_wrong) in omega (arith, n)

-- CRC and end byte both wrong: 15, not 14
end_byte_judged_after_the_crc : place_read (Err (record { error = CrcMismatch; place = 14 })) ≡ trailer_at (closing 0x5b 0x0f 0x01) 0 14 → ⊥
end_byte_judged_after_the_crc h = let n : ◌≡◌ {A = ℕ} 14 15 = ap refusal_number (h ∙ trailer_examples.both_wrong) in omega (arith, n)

-- 49 59 is the CRC up to and with its length byte: not accepted
crc_over_its_own_length_byte : place_read (Ok 18) ≡ trailer_at (closing 0x49 0x59 0x00) 0 14 → ⊥
unfolding then guard need byte_at span_at tlf_at length_from less_own number bytes_at_claim raw_from raw_at unsigned_at message_end_at reflect polynomial bit_step bit_steps byte_step register final_xor crc_of crc_from trailer_at
crc_over_its_own_length_byte h = let n : ◌≡◌ {A = ℕ} 0 14 = ap refusal_number h in omega (arith, n)
