-- What the claims rule out: each fake of docs/WRONG-READINGS.md falls, by one of the parts of Fall, FallHosts, FallLarger or FallLibraries; and claims that are false of ours, by the parts of NotOurs and FallLarger.
use Rattle.encoder.specs.Encode.{encode_to}
use Rattle.decoder.specs.Push.{first_way, second_way}
use Rattle.marks.specs.Decoders.{ours}
use Rattle.marks.specs.Mark2.{Soundness, OurSearch}
use Rattle.marks.specs.Mark3.{Mark3}
use Rattle.marks.specs.Hides.{Hides}
use Rattle.marks.specs.Chunks.{our_slicer, Chunks}
use Rattle.marks.specs.Larger.{Larger, LargerBySlices, LargerAsked}
use Rattle.marks.specs.Second.{Begins, SearchesAgain, HearsBehindNoise, OurSeeks, OurBegun}
use Rattle.marks.specs.Ways.{our_way, KeepsWay, RefusesUnknown}
use Rattle.marks.specs.Packed.{RoundTrip, Exactly, PacksWhatPushes, PacksInOrder, ActsAlike, HandsAlike, Serves, LeavesRefused}
use Rattle.marks.specs.Encoders.{our_encoder, SameBytes}
use Rattle.marks.specs.Events.{ReaderGives, GoesOn, reader_with, ListsEntries, SaysWhere}
use Rattle.marks.specs.Fakes.{refuses_all, constant, idle, invents, once, stale, hasty, forgiving, first_only, counts_eight, deaf, forgets_way, serves_any_way, swallows, takes_none, withholds, shrugs, forgetful, blames_the_message, says_it_again, writes_nothing, finished_at_once, without_events, no_entries}
use Rattle.marks.specs.FakeHosts.{unpacks_nothing, packs_constants, packs_any, unpacks_any, only_answers, says_nothing_ever, hands_nothing, clears_refused, grows_output, clears_rest}
use Rattle.marks.proofs.Fakes.{not_ours, fall}
use Rattle.marks.specs.Library.{HearsNew, HearsDecoder, HearsEncode, HearsEncoder, HearsReader, HearsWriter, HearsWhole, HearsIndex, HearsWalk, HearsLosses}
use Rattle.marks.specs.FakeLibraries.{denies_new, keeps_values, hands_buffer, pays_always, leaves_last, forgets_slice, encodes_nothing, forgets_count, loses_place, loses_sign, loses_kind, forgets_place, leaves_numbers, mistakes_words, places_at_zero, next_untold, end_left, index_place_lost, index_clears, rows_left, none_is_zeros, name_left, row_cleared, walk_place_lost, walk_bytes_left, item_type_lost, item_of_any_length, causes_counted, losses_from_zero, losses_swapped, forgets_watch}
use Rattle.marks.specs.FakeLarger.{stores_less, second_stores_less, larger_hands_nothing, hands_the_buffer, reset_counts_room, finalize_counts_room, hesitates, looks_ahead, denies_larger, ForAnyTwo, AcrossWays, FullAnswerToo, HearsAsMany}
use Rattle.marks.proofs.FakeHosts.{fall_hosts}
use Rattle.marks.proofs.FakeLarger.{fall_larger}
use Rattle.marks.proofs.FakeLibraries.{fall_libraries}

fake_refuses_everything : Mark3 refuses_all encode_to → ⊥
fake_refuses_everything = fall.refuses_mark3

fake_push_does_nothing : Mark3 idle encode_to → ⊥
fake_push_does_nothing = fall.idle_mark3

fake_one_constant_payload : Soundness constant → ⊥
fake_one_constant_payload = fall.constant_mark2

fake_empty_after_the_first_frame : Mark3 once encode_to → ⊥
fake_empty_after_the_first_frame = fall.once_mark3

fake_invented_discard_count : Mark3 invents encode_to → ⊥
fake_invented_discard_count = fall.invents_mark3

fake_encode_writes_nothing : Mark3 ours writes_nothing → ⊥
fake_encode_writes_nothing = fall.writes_nothing_mark3

fake_encoder_does_nothing : SameBytes finished_at_once encode_to → ⊥
fake_encoder_does_nothing = fall.finished_at_once_claim

fake_reader_without_events : ReaderGives without_events → ⊥
fake_reader_without_events = fall.silent_events

fake_list_start_and_no_entries : ListsEntries no_entries → ⊥
fake_list_start_and_no_entries = fall.no_entries_lists

fake_payload_where_none_stands : Soundness stale → ⊥
fake_payload_where_none_stands = fall.stale_mark2

fake_encode_gives_other_bytes : SameBytes our_encoder writes_nothing → ⊥
fake_encode_gives_other_bytes = fall.writes_nothing_bytes

fake_stray_1b_forgiven : Hides first_way forgiving OurSearch → ⊥
fake_stray_1b_forgiven = fall.forgiving_hides

fake_slice_swallows_events : Chunks swallows → ⊥
fake_slice_swallows_events = fall.swallows_chunks

fake_slice_takes_no_byte : Chunks takes_none → ⊥
fake_slice_takes_no_byte = fall.takes_none_chunks

fake_reader_shrugs_at_bad_numbers : GoesOn shrugs reader_with → ⊥
fake_reader_shrugs_at_bad_numbers = fall.shrugs_goes_on

fake_payload_at_once : Soundness hasty → ⊥
fake_payload_at_once = fall.hasty_mark2

fake_slice_withholds_its_payload : Chunks withholds → ⊥
fake_slice_withholds_its_payload = fall.withholds_chunks

fake_reader_forgets_what_is_pending : GoesOn forgetful reader_with → ⊥
fake_reader_forgets_what_is_pending = fall.forgetful_goes_on

fake_reader_blames_the_message : SaysWhere blames_the_message → ⊥
fake_reader_blames_the_message = fall.blames_where

fake_refusal_said_again : SaysWhere says_it_again → ⊥
fake_refusal_said_again = fall.again_where

second_way_is_the_first : Begins first_only OurSeeks OurBegun → ⊥
second_way_is_the_first = fall.first_only_begins

eight_start_bytes_are_noise : Begins counts_eight OurSeeks OurBegun → ⊥
eight_start_bytes_are_noise = fall.counts_eight_begins

a_start_in_the_noise_is_harmless : HearsBehindNoise (λ l. Unit {0}) ours encode_to OurSeeks → ⊥
a_start_in_the_noise_is_harmless = not_ours.hears_anywhere

a_stray_1b_hides_in_the_second_way : Hides second_way ours OurSearch → ⊥
a_stray_1b_hides_in_the_second_way = not_ours.hides_second

fake_deaf_behind_an_escape : SearchesAgain deaf OurSeeks → ⊥
fake_deaf_behind_an_escape = fall.deaf_again

fake_way_forgotten : KeepsWay forgets_way our_way → ⊥
fake_way_forgotten = fall.forgets_keeps

fake_any_way_is_served : RefusesUnknown serves_any_way our_way → ⊥
fake_any_way_is_served = fall.serves_any_refuses

fake_unpack_refuses_everything : RoundTrip unpacks_nothing → ⊥
fake_unpack_refuses_everything = fall_hosts.unpacks_nothing_claim

fake_pack_writes_constants : RoundTrip packs_constants → ⊥
fake_pack_writes_constants = fall_hosts.packs_constants_claim

fake_packs_bad_records : PacksWhatPushes packs_any → ⊥
fake_packs_bad_records = fall_hosts.packs_any_claim

fake_unpacks_any_bytes : Exactly unpacks_any → ⊥
fake_unpacks_any_bytes = fall_hosts.unpacks_any_claim

fake_packed_push_only_answers : ActsAlike only_answers → ⊥
fake_packed_push_only_answers = fall_hosts.only_answers_claim

fake_packed_push_never_refuses : Serves says_nothing_ever → ⊥
fake_packed_push_never_refuses = fall_hosts.says_nothing

fake_packed_payload_withheld : HandsAlike hands_nothing → ⊥
fake_packed_payload_withheld = fall_hosts.hands_nothing_claim

fake_rest_of_the_array_cleared : RoundTrip clears_rest → ⊥
fake_rest_of_the_array_cleared = fall_hosts.clears_rest_claim

fake_output_grows : PacksInOrder grows_output → ⊥
fake_output_grows = fall_hosts.grows_output_claim

fake_refused_output_cleared : LeavesRefused clears_refused → ⊥
fake_refused_output_cleared = fall_hosts.clears_refused_claim

fake_new_decoder_denied : HearsNew denies_new → ⊥
fake_new_decoder_denied = fall_libraries.denies_new_claim

fake_finalize_leaves_the_values : HearsDecoder keeps_values → ⊥
fake_finalize_leaves_the_values = fall_libraries.keeps_values_claim

fake_payload_is_the_whole_buffer : HearsDecoder hands_buffer → ⊥
fake_payload_is_the_whole_buffer = fall_libraries.hands_buffer_claim

fake_payload_always_stands : HearsDecoder pays_always → ⊥
fake_payload_always_stands = fall_libraries.pays_always_claim

fake_slice_leaves_its_last_byte : HearsDecoder leaves_last → ⊥
fake_slice_leaves_its_last_byte = fall_libraries.leaves_last_claim

fake_slice_leaves_the_decoder_as_it_was : HearsDecoder forgets_slice → ⊥
fake_slice_leaves_the_decoder_as_it_was = fall_libraries.slice_forgets

fake_good_encode_writes_nothing : HearsEncode encodes_nothing → ⊥
fake_good_encode_writes_nothing = fall_libraries.encodes_nothing_claim

fake_encoder_keeps_its_numbers : HearsEncoder forgets_count → ⊥
fake_encoder_keeps_its_numbers = fall_libraries.forgets_count_claim

fake_refusal_without_its_place : HearsReader loses_place → ⊥
fake_refusal_without_its_place = fall_libraries.loses_place_claim

fake_scaler_without_its_sign : HearsReader loses_sign → ⊥
fake_scaler_without_its_sign = fall_libraries.loses_sign_claim

fake_entry_without_its_kind : HearsReader loses_kind → ⊥
fake_entry_without_its_kind = fall_libraries.loses_kind_claim

fake_writer_stays_where_it_was : HearsWriter forgets_place → ⊥
fake_writer_stays_where_it_was = fall_libraries.forgets_place_claim

fake_ended_writer_keeps_its_register : HearsWriter leaves_numbers → ⊥
fake_ended_writer_keeps_its_register = fall_libraries.leaves_numbers_claim

fake_no_event_is_a_wrong_number : HearsWriter mistakes_words → ⊥
fake_no_event_is_a_wrong_number = fall_libraries.mistakes_words_claim

fake_message_refused_at_zero : HearsWhole places_at_zero → ⊥
fake_message_refused_at_zero = fall_libraries.places_at_zero_claim

fake_next_place_not_told : HearsWhole next_untold → ⊥
fake_next_place_not_told = fall_libraries.next_untold_claim

fake_unused_words_left : HearsWhole end_left → ⊥
fake_unused_words_left = fall_libraries.end_left_claim

fake_index_refused_without_a_place : HearsIndex index_place_lost → ⊥
fake_index_refused_without_a_place = fall_libraries.index_place_lost_claim

fake_refused_index_clears_the_table : HearsIndex index_clears → ⊥
fake_refused_index_clears_the_table = fall_libraries.index_clears_claim

fake_rows_of_a_refused_index : HearsIndex rows_left → ⊥
fake_rows_of_a_refused_index = fall_libraries.rows_left_claim

fake_none_is_a_row_of_zeros : HearsIndex none_is_zeros → ⊥
fake_none_is_a_row_of_zeros = fall_libraries.none_is_zeros_claim

fake_found_row_without_its_name : HearsIndex name_left → ⊥
fake_found_row_without_its_name = fall_libraries.name_left_claim

fake_row_cleared_where_none_is_found : HearsIndex row_cleared → ⊥
fake_row_cleared_where_none_is_found = fall_libraries.row_cleared_claim

fake_larger_buffer_stores_less : Larger stores_less.machine → ⊥
fake_larger_buffer_stores_less = fall_larger.stores_less_claim

fake_second_way_stores_less : Larger second_stores_less → ⊥
fake_second_way_stores_less = fall_larger.second_stores_less_claim

fake_larger_buffer_hands_nothing : Larger larger_hands_nothing.machine → ⊥
fake_larger_buffer_hands_nothing = fall_larger.larger_hands_nothing_claim

fake_buffer_handed_back : Larger hands_the_buffer → ⊥
fake_buffer_handed_back = fall_larger.hands_the_buffer_claim

fake_reset_counts_the_room : Larger reset_counts_room → ⊥
fake_reset_counts_the_room = fall_larger.reset_counts_room_claim

fake_finalize_counts_the_room : Larger finalize_counts_room → ⊥
fake_finalize_counts_the_room = fall_larger.finalize_counts_room_claim

fake_larger_buffer_takes_single_bytes : LargerBySlices hesitates → ⊥
fake_larger_buffer_takes_single_bytes = fall_larger.hesitates_slices

fake_slice_refused_at_its_first_byte : LargerBySlices looks_ahead → ⊥
fake_slice_refused_at_its_first_byte = fall_larger.looks_ahead_slices

fake_larger_payload_denied : LargerAsked our_slicer denies_larger → ⊥
fake_larger_payload_denied = fall_larger.denies_larger_claim

larger_with_the_full_answer : FullAnswerToo ours → ⊥
larger_with_the_full_answer = fall_larger.full_answer_too

larger_for_any_two : ForAnyTwo ours → ⊥
larger_for_any_two = fall_larger.for_any_two

larger_across_ways : AcrossWays ours → ⊥
larger_across_ways = fall_larger.across_ways

larger_hears_as_many_frames : HearsAsMany ours → ⊥
larger_hears_as_many_frames = fall_larger.hears_as_many

fake_walk_refused_without_a_place : HearsWalk walk_place_lost → ⊥
fake_walk_refused_without_a_place = fall_libraries.walk_place_lost_claim

fake_bytes_told_of_a_refused_walk : HearsWalk walk_bytes_left → ⊥
fake_bytes_told_of_a_refused_walk = fall_libraries.walk_bytes_left_claim

fake_every_leaf_is_a_string : HearsWalk item_type_lost → ⊥
fake_every_leaf_is_a_string = fall_libraries.item_type_lost_claim

fake_item_of_a_long_input : HearsWalk item_of_any_length → ⊥
fake_item_of_a_long_input = fall_libraries.item_of_any_length_claim

fake_causes_counted_in_place_of_bits : HearsLosses causes_counted → ⊥
fake_causes_counted_in_place_of_bits = fall_libraries.causes_counted_claim

fake_lost_bytes_counted_from_zero : HearsLosses losses_from_zero → ⊥
fake_lost_bytes_counted_from_zero = fall_libraries.losses_from_zero_claim

fake_last_byte_told_first : HearsLosses losses_swapped → ⊥
fake_last_byte_told_first = fall_libraries.losses_swapped_claim

fake_watch_stays_as_it_was : HearsLosses forgets_watch → ⊥
fake_watch_stays_as_it_was = fall_libraries.forgets_watch_claim
