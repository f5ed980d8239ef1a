-- What the claims rule out: each index of docs/WRONG-READINGS.md that is told here is wrong in one way, and a claim is false of it.
use Rattle.by_name.specs.Indexes.{our_indexer, our_finder, GoodIndexer, JudgesTables, FindsFirst}
use Rattle.by_name.specs.Fakes.{a_row_for_each_name, all_rows_sorted, by_place_alone, empty_input_is_ten, empty_table_refused, entry_not_judged, equal_rows_in_order, greatest_first, in_message_order, index_as_far_as_it_goes, judged_up_to_the_name, last_of_a_name_first, last_of_equal_names, look_in_first_part, name_is_a_prefix, name_not_judged, one_row_a_name, order_by_name_alone, order_not_judged, part_of_a_row_ignored, prefix_is_the_name, rows_must_be_entries, shorter_first, signed_bytes, start_plus_length_wraps, table_before_length, unsound_is_none}
use Rattle.by_name.proofs.Fakes.{fall_indexes}

fake_index_in_message_order : GoodIndexer in_message_order → ⊥
fake_index_in_message_order = fall_indexes.message_order

fake_greatest_name_first : GoodIndexer greatest_first → ⊥
fake_greatest_name_first = fall_indexes.greatest_first_claim

fake_index_with_shorter_names_first : GoodIndexer shorter_first → ⊥
fake_index_with_shorter_names_first = fall_indexes.shorter_first_claim

fake_index_with_signed_bytes : GoodIndexer signed_bytes → ⊥
fake_index_with_signed_bytes = fall_indexes.signed

fake_last_of_a_name_first : GoodIndexer last_of_a_name_first → ⊥
fake_last_of_a_name_first = fall_indexes.last_of_a_name

fake_order_by_place_alone : GoodIndexer by_place_alone → ⊥
fake_order_by_place_alone = fall_indexes.place_alone

fake_one_row_for_each_name : GoodIndexer a_row_for_each_name → ⊥
fake_one_row_for_each_name = fall_indexes.each_name

fake_rows_behind_sorted_in : GoodIndexer all_rows_sorted → ⊥
fake_rows_behind_sorted_in = fall_indexes.rest_sorted

fake_index_as_far_as_it_goes : GoodIndexer index_as_far_as_it_goes → ⊥
fake_index_as_far_as_it_goes = fall_indexes.as_far_as_it_goes

fake_last_of_equal_names : JudgesTables last_of_equal_names → ⊥
fake_last_of_equal_names = fall_indexes.last_found

fake_beginning_of_the_name_is_found : JudgesTables prefix_is_the_name → ⊥
fake_beginning_of_the_name_is_found = fall_indexes.prefix

fake_longer_name_is_found : JudgesTables name_is_a_prefix → ⊥
fake_longer_name_is_found = fall_indexes.a_prefix

fake_equal_rows_in_order : JudgesTables equal_rows_in_order → ⊥
fake_equal_rows_in_order = fall_indexes.equal_rows

fake_order_by_name_alone : JudgesTables order_by_name_alone → ⊥
fake_order_by_name_alone = fall_indexes.name_alone

fake_one_row_a_name : JudgesTables one_row_a_name → ⊥
fake_one_row_a_name = fall_indexes.one_a_name

fake_order_not_judged : JudgesTables order_not_judged → ⊥
fake_order_not_judged = fall_indexes.no_order

fake_entry_span_not_judged : JudgesTables entry_not_judged → ⊥
fake_entry_span_not_judged = fall_indexes.entry_outside

fake_name_span_not_judged : JudgesTables name_not_judged → ⊥
fake_name_span_not_judged = fall_indexes.name_outside

fake_start_plus_length_wraps : JudgesTables start_plus_length_wraps → ⊥
fake_start_plus_length_wraps = fall_indexes.wraps

fake_part_of_a_row_ignored : JudgesTables part_of_a_row_ignored → ⊥
fake_part_of_a_row_ignored = fall_indexes.part_of_a_row

fake_judged_up_to_the_name : JudgesTables judged_up_to_the_name → ⊥
fake_judged_up_to_the_name = fall_indexes.up_to_the_name_claim

fake_empty_table_refused : JudgesTables empty_table_refused → ⊥
fake_empty_table_refused = fall_indexes.no_rows

fake_rows_must_be_entries : JudgesTables rows_must_be_entries → ⊥
fake_rows_must_be_entries = fall_indexes.entries_only

fake_unsound_table_has_none : JudgesTables unsound_is_none → ⊥
fake_unsound_table_has_none = fall_indexes.none_for_sixteen

fake_table_judged_before_the_length : JudgesTables table_before_length → ⊥
fake_table_judged_before_the_length = fall_indexes.sixteen_first

fake_lookup_in_the_first_part : JudgesTables look_in_first_part → ⊥
fake_lookup_in_the_first_part = fall_indexes.long_cut

fake_lookup_in_an_empty_input_is_ten : JudgesTables empty_input_is_ten → ⊥
fake_lookup_in_an_empty_input_is_ten = fall_indexes.ten

fake_index_in_message_order_looked_up : FindsFirst in_message_order our_finder → ⊥
fake_index_in_message_order_looked_up = fall_indexes.message_order_found

fake_last_of_equal_names_in_an_index : FindsFirst our_indexer last_of_equal_names → ⊥
fake_last_of_equal_names_in_an_index = fall_indexes.last_found_in_index

fake_beginning_found_in_an_index : FindsFirst our_indexer prefix_is_the_name → ⊥
fake_beginning_found_in_an_index = fall_indexes.prefix_found_in_index
