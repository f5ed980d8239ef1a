-- What the claims rule out: each writer of docs/WRONG-READINGS.md that is told here falls, by one of the parts of FallWriters.
use Rattle.written.specs.Writers.{WritesBack, ReadsAlone, PutsExactly, TakesWhatFits, Counts, RefusesInOrder}
use Rattle.written.specs.Fakes.{counts_what_follows, counts_one_byte, counts_the_list, empty_is_absent, absent_is_zero, in_full_width, forgets_sign_bit, writes_bare_times, time_as_value, crc_as_it_is, crc_in_two, ends_with_one, adds_more, ends_early, ends_twice, room_before_number, room_before_spans, number_first, end_is_beyond, has_no_room, fills_up, writes_none, drops_the_rest, crc_of_the_last, bad_span_empty, writes_only_short, skips_late_entries, turns_the_last}
use Rattle.written.proofs.Fakes.{fall_writers}

fake_written_length_counts_what_follows : WritesBack counts_what_follows → ⊥
fake_written_length_counts_what_follows = fall_writers.what_follows

fake_two_length_bytes_one_counted : WritesBack counts_one_byte → ⊥
fake_two_length_bytes_one_counted = fall_writers.one_byte

fake_list_length_counts_itself : WritesBack counts_the_list → ⊥
fake_list_length_counts_itself = fall_writers.the_list

fake_present_and_empty_is_absent : WritesBack empty_is_absent → ⊥
fake_present_and_empty_is_absent = fall_writers.empty_absent

fake_absent_is_00 : WritesBack absent_is_zero → ⊥
fake_absent_is_00 = fall_writers.absent_zero

fake_numbers_in_full_width : TakesWhatFits in_full_width → ⊥
fake_numbers_in_full_width = fall_writers.full_width

fake_sign_bit_forgotten : WritesBack forgets_sign_bit → ⊥
fake_sign_bit_forgotten = fall_writers.sign_bit

fake_bare_time_written : PutsExactly writes_bare_times → ⊥
fake_bare_time_written = fall_writers.bare_times

fake_list_time_as_time : WritesBack time_as_value → ⊥
fake_list_time_as_time = fall_writers.time_value_claim

fake_crc_not_swapped_when_written : WritesBack crc_as_it_is → ⊥
fake_crc_not_swapped_when_written = fall_writers.as_it_is

fake_crc_always_two_bytes : TakesWhatFits crc_in_two → ⊥
fake_crc_always_two_bytes = fall_writers.in_two_claim

fake_end_byte_01_written : WritesBack ends_with_one → ⊥
fake_end_byte_01_written = fall_writers.with_one

fake_entry_beyond_the_number : Counts adds_more → ⊥
fake_entry_beyond_the_number = fall_writers.more

fake_end_before_the_number : Counts ends_early → ⊥
fake_end_before_the_number = fall_writers.early

fake_end_may_come_twice : Counts ends_twice → ⊥
fake_end_may_come_twice = fall_writers.twice

fake_room_before_number : RefusesInOrder room_before_number → ⊥
fake_room_before_number = fall_writers.room_first_claim

fake_room_before_spans : RefusesInOrder room_before_spans → ⊥
fake_room_before_spans = fall_writers.room_before_spans_claim

fake_bad_span_is_empty : RefusesInOrder bad_span_empty → ⊥
fake_bad_span_is_empty = fall_writers.span_empty

fake_number_before_place : RefusesInOrder number_first → ⊥
fake_number_before_place = fall_writers.number_first_claim

fake_place_at_the_end_is_beyond : RefusesInOrder end_is_beyond → ⊥
fake_place_at_the_end_is_beyond = fall_writers.end_beyond

fake_writer_refuses_everything : TakesWhatFits has_no_room → ⊥
fake_writer_refuses_everything = fall_writers.no_room_claim

fake_written_up_to_the_end : RefusesInOrder fills_up → ⊥
fake_written_up_to_the_end = fall_writers.fills

fake_writer_writes_nothing : WritesBack writes_none → ⊥
fake_writer_writes_nothing = fall_writers.writes_none_claim

fake_rest_of_the_output_dropped : WritesBack drops_the_rest → ⊥
fake_rest_of_the_output_dropped = fall_writers.drops

fake_crc_of_the_last_part : WritesBack crc_of_the_last → ⊥
fake_crc_of_the_last_part = fall_writers.the_last

fake_long_output_not_written : ReadsAlone writes_only_short → ⊥
fake_long_output_not_written = fall_writers.only_short

fake_entry_near_the_end_not_written : PutsExactly skips_late_entries → ⊥
fake_entry_near_the_end_not_written = fall_writers.late_entry

fake_start_touches_the_last_byte : PutsExactly turns_the_last → ⊥
fake_start_touches_the_last_byte = fall_writers.last_byte_claim
