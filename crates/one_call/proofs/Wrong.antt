-- What the claims rule out: each reader of docs/WRONG-READINGS.md that is told here is wrong in one way, and a claim is false of it.
use Rattle.one_call.specs.Readers.{AcceptsExactly, RefusesAlike, RoomLast, LeavesTable, RestNotRead, JudgesFirst}
use Rattle.one_call.specs.Fakes.{room_in_numbers, half_row_is_room, room_before_reading, filled_as_far_as_it_goes, no_room_is_three, one_row_at_most, fills_before_the_trailer, trailer_not_judged, crc_from_the_input, next_message_judged, more_bytes_refused, without_its_list_byte, end_for_length, last_row_first, rows_from_the_message, end_dropped, clears_the_rest, ends_before_its_end, empty_is_nothing, faults_untold, places_from_the_message, other_kinds_refused, place_not_judged, long_input_cut}
use Rattle.one_call.proofs.Fakes.{fall_whole_readers}

fake_room_in_numbers : AcceptsExactly room_in_numbers → ⊥
fake_room_in_numbers = fall_whole_readers.in_numbers

fake_half_row_is_room : AcceptsExactly half_row_is_room → ⊥
fake_half_row_is_room = fall_whole_readers.half_row

fake_room_before_reading : RoomLast room_before_reading → ⊥
fake_room_before_reading = fall_whole_readers.room_first_claim

fake_rows_stored_as_far_as_they_go : LeavesTable filled_as_far_as_it_goes → ⊥
fake_rows_stored_as_far_as_they_go = fall_whole_readers.as_far_as_it_goes

fake_no_room_is_three : RoomLast no_room_is_three → ⊥
fake_no_room_is_three = fall_whole_readers.three

fake_one_row_of_any_table : RoomLast one_row_at_most → ⊥
fake_one_row_of_any_table = fall_whole_readers.one_row

fake_rows_filled_before_the_trailer : LeavesTable fills_before_the_trailer → ⊥
fake_rows_filled_before_the_trailer = fall_whole_readers.filled_early

fake_trailer_not_judged : AcceptsExactly trailer_not_judged → ⊥
fake_trailer_not_judged = fall_whole_readers.no_trailer

fake_crc_from_the_input_s_start : AcceptsExactly crc_from_the_input → ⊥
fake_crc_from_the_input_s_start = fall_whole_readers.crc_from_the_input_claim

fake_next_message_judged_too : RestNotRead next_message_judged → ⊥
fake_next_message_judged_too = fall_whole_readers.next_judged

fake_more_bytes_refused : RestNotRead more_bytes_refused → ⊥
fake_more_bytes_refused = fall_whole_readers.more_bytes

fake_row_behind_its_list_byte : AcceptsExactly without_its_list_byte → ⊥
fake_row_behind_its_list_byte = fall_whole_readers.no_list_byte

fake_end_in_place_of_a_length : AcceptsExactly end_for_length → ⊥
fake_end_in_place_of_a_length = fall_whole_readers.end_for_length_claim

fake_last_row_first : AcceptsExactly last_row_first → ⊥
fake_last_row_first = fall_whole_readers.last_first

fake_rows_from_the_message : AcceptsExactly rows_from_the_message → ⊥
fake_rows_from_the_message = fall_whole_readers.rows_from_the_message_claim

fake_list_end_dropped : AcceptsExactly end_dropped → ⊥
fake_list_end_dropped = fall_whole_readers.end_dropped_claim

fake_rest_of_the_table_cleared : AcceptsExactly clears_the_rest → ⊥
fake_rest_of_the_table_cleared = fall_whole_readers.rest_cleared

fake_message_ends_before_its_end_byte : AcceptsExactly ends_before_its_end → ⊥
fake_message_ends_before_its_end_byte = fall_whole_readers.end_too_early

fake_empty_input_is_no_message : RefusesAlike empty_is_nothing → ⊥
fake_empty_input_is_no_message = fall_whole_readers.nothing_at_the_end

fake_refusal_without_a_place : RefusesAlike faults_untold → ⊥
fake_refusal_without_a_place = fall_whole_readers.untold

fake_places_from_the_message : RefusesAlike places_from_the_message → ⊥
fake_places_from_the_message = fall_whole_readers.from_the_message_claim

fake_kinds_without_entries_refused : AcceptsExactly other_kinds_refused → ⊥
fake_kinds_without_entries_refused = fall_whole_readers.other_kinds

fake_place_beyond_is_ten : JudgesFirst place_not_judged → ⊥
fake_place_beyond_is_ten = fall_whole_readers.place_not_judged_claim

fake_long_input_cut_off : JudgesFirst long_input_cut → ⊥
fake_long_input_cut_off = fall_whole_readers.long_cut
