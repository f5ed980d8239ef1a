-- The definitions, run on the vectors.
use mathlib.Core.Path.{refl}
use Rattle.crc_x25.specs.Crc.{reflect, polynomial, bit_step, bit_steps, byte_step, register, final_xor, crc_of}
use Rattle.refusals.specs.Read.{then, guard, need, many, byte_at, span_at}
use Rattle.tlf.specs.Lengths.{tlf_at, length_from, less_own, list_of_at}
use Rattle.numbers.specs.Numbers.{number, bytes_at_claim, raw_from, raw_at, unsigned_at, signed_of, signed_at, bool_from, bool_at}
use Rattle.octet_string.specs.Strings.{octets_at}
use Rattle.octet_string.specs.Optional.{absent_at, optional}
use Rattle.value.specs.Values.{time_at, status_of, status_at, signed_value, unsigned_value, list_type_at, value_of_claim, value_at}
use Rattle.common.specs.Fields.{open_at, close_at, entry_at}
use Rattle.message.specs.Messages.{list_start_at, list_end_at, content_at, body_at, start_at}
use Rattle.trailer.specs.Trailer.{message_end_at, crc_from, trailer_at}
use Rattle.whole.specs.Whole.{row_at, inside_at, whole_at, flat, fill_to, read_to}
use Rattle.frame.specs.Frame.{same}
use Rattle.octet_string.specs.Strings.{span_within, part_of}
use Rattle.name_order.specs.Order.{lower}
use Rattle.index.specs.Index.{before, insert, sorted, sorted_to, index_of, index_to, row_within, every, rising, is_table, first_with, has_name, look_up_in}
use Rattle.by_name.specs.Indexes.{our_indexer, our_finder}
use Rattle.by_name.specs.Bench.{IndexBench, LookupBench}

pub index_bench : IndexBench our_indexer
unfolding then guard need many byte_at span_at tlf_at length_from less_own list_of_at number bytes_at_claim raw_from raw_at unsigned_at signed_of signed_at bool_from bool_at octets_at absent_at optional time_at status_of status_at signed_value unsigned_value list_type_at value_of_claim value_at open_at close_at entry_at message_end_at list_start_at list_end_at content_at body_at start_at reflect polynomial bit_step bit_steps byte_step register final_xor crc_of crc_from trailer_at row_at inside_at whole_at flat fill_to read_to lower span_within part_of before insert sorted sorted_to index_of index_to
index_bench = record { six = refl; more_room = refl; less_room = refl; closes = refl; empty = refl; other_end_claim = refl }

pub lookup_bench : LookupBench our_finder
unfolding same span_within part_of lower before row_within every rising is_table first_with has_name look_up_in
lookup_bench =
    record {
      first_b = refl;
      no_name = refl;
      two_bytes = refl;
      longer = refl;
      no_rows = refl;
      part_of_a_row = refl;
      out_of_order = refl;
      twice = refl;
      by_place_claim = refl;
      by_place_not = refl;
      entry_outside = refl;
      name_outside = refl;
      wraps = refl;
      no_entries_claim = refl;
      of_nothing = refl;
    }
