-- Messages, lengths and numbers as they are written, by computing.
use mathlib.Core.Path.{refl}
use Rattle.crc_x25.specs.Crc.{reflect, polynomial, bit_step, bit_steps, byte_step, register, final_xor}
use Rattle.tlf.specs.Written.{length_bytes, typed}
use Rattle.byte_count.specs.Count.{first_that, unsigned_count}
use Rattle.writer.specs.Fields.{length_count, write_tlf, in_bytes, signed_count, low_bytes, write_unsigned, write_signed, write_bool, write_octets, write_optional, write_present, write_time, write_status, write_value, write_entry}
use Rattle.writer.specs.Messages.{open_bytes, close_bytes, list_start_bytes, list_end_bytes, write_body, write_start, write_trailer}
use Rattle.written.specs.Messages.{write_entries, write_end, write_content, write_message}
use Rattle.written.specs.Bench.{WrittenBench}

pub written_bench : WrittenBench
unfolding first_that length_count length_bytes typed write_tlf in_bytes unsigned_count signed_count low_bytes write_unsigned write_signed write_bool write_octets write_optional write_present write_time write_status write_value write_entry open_bytes close_bytes list_start_bytes list_end_bytes write_body write_start write_entries write_end write_content write_trailer write_message reflect polynomial bit_step bit_steps byte_step register final_xor
written_bench = record { string_14 = refl; string_15 = refl; string_253 = refl; string_254 = refl; string_4092 = refl; string_4093 = refl; string_65531 = refl; string_65532 = refl; list_15 = refl; list_16 = refl; list_255 = refl; list_256 = refl; number_0 = refl; number_255 = refl; number_256 = refl; signed_127 = refl; signed_128 = refl; signed_minus_128 = refl; signed_minus_129 = refl; greatest = refl; least = refl; closes = refl; signature_empty = refl; crc_of_one_byte = refl; crc_of_zero = refl; opens = refl; opens_empty = refl; list_of_none = refl; list_of_three = refl; fourteen = refl; fifteen = refl; list_of_one = refl }
