-- The page's vectors, computed.
use mathlib.Core.Path.{refl}
use Rattle.crc_x25.specs.Crc.{reflect, polynomial, bit_step, bit_steps, byte_step, register, final_xor, crc_of}
use Rattle.refusals.specs.Read.{then, guard, need, many, byte_at, span_at}
use Rattle.tlf.specs.Lengths.{tlf_at, length_from, less_own, list_of_at}
use Rattle.numbers.specs.Numbers.{number, bytes_at_claim, raw_from, raw_at, unsigned_at, signed_of, signed_at, bool_from, bool_at}
use Rattle.octet_string.specs.Strings.{octets_at}
use Rattle.octet_string.specs.Optional.{absent_at, optional}
use Rattle.value.specs.Values.{time_at, status_of, status_at, signed_value, unsigned_value, list_type_at, value_of_claim, value_at}
use Rattle.common.specs.Fields.{open_at, close_at, entry_at}
use Rattle.message.specs.Messages.{list_start_at, list_end_at, content_at, body_at, start_at}
use Rattle.trailer.specs.Trailer.{message_end_at, crc_from, trailer_at}
use Rattle.whole.specs.Whole.{row_at, inside_at, whole_at, flat, fill_to, read_to}
use Rattle.one_call.specs.Readers.{our_whole_reader}
use Rattle.one_call.specs.Bench.{WholeBench}

pub whole_bench : WholeBench our_whole_reader
unfolding then guard need many byte_at span_at tlf_at length_from less_own list_of_at number bytes_at_claim raw_from raw_at unsigned_at signed_of signed_at bool_from bool_at octets_at absent_at optional time_at status_of status_at signed_value unsigned_value list_type_at value_of_claim value_at open_at close_at entry_at message_end_at list_start_at list_end_at content_at body_at start_at reflect polynomial bit_step bit_steps byte_step register final_xor crc_of crc_from trailer_at row_at inside_at whole_at flat fill_to read_to
whole_bench =
    record {
      two = refl;
      more_room = refl;
      less_room = refl;
      no_room_and_more = refl;
      more_bytes = refl;
      cut = refl;
      other_crc_claim = refl;
      other_end_claim = refl;
      both_other = refl;
      other_entry = refl;
      empty = refl;
      opens = refl;
      in_a_payload = refl;
      broken_behind = refl;
      at_the_end_claim = refl;
      beyond_the_end = refl;
      no_type = refl;
      of_none = refl;
      huge = refl;
      other_tag = refl;
    }
