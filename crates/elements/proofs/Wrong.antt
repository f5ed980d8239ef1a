-- What the claims rule out: each walk and each reader of items of docs/WRONG-READINGS.md that is told here is wrong in one way, and a claim is false of it.
use Rattle.elements.specs.Walkers.{MeasuresExactly, RefusesExactly, NineFirst, EndsWithMessages}
use Rattle.elements.specs.ItemReaders.{ReadsItems}
use Rattle.elements.specs.Sights.{SeesElements}
use Rattle.elements.specs.Fakes.{end_mark_is_no_leaf, mark_closes_its_list, list_is_a_leaf, none_is_a_leaf, empty_is_no_leaf, end_mark_is_one, two_bytes_mark, no_mark_alone, seventeen_open, fifteen_open, deep_behind_its_length, none_never_deep, leaves_too_deep, deep_before_its_length, deep_behind_its_elements, depth_not_given_back, list_one_short, leaf_without_content, one_taken_off, first_element_again, leaves_of_the_last, content_is_judged, behind_only, rest_refused, places_from_element, names_the_element, limit_one_more, any_length, beyond_is_bad, none_at_the_end, walk_refuses_all, content_with_its_length, lists_passed_over, content_left, mark_is_a_string}
use Rattle.elements.proofs.Fakes.{fall_walkers}

fake_end_mark_is_no_leaf : MeasuresExactly end_mark_is_no_leaf → ⊥
fake_end_mark_is_no_leaf = fall_walkers.mark_no_leaf

fake_end_mark_closes_its_list : MeasuresExactly mark_closes_its_list → ⊥
fake_end_mark_closes_its_list = fall_walkers.closes_its_list

fake_list_counted_as_a_leaf : MeasuresExactly list_is_a_leaf → ⊥
fake_list_counted_as_a_leaf = fall_walkers.list_a_leaf

fake_list_of_none_is_a_leaf : MeasuresExactly none_is_a_leaf → ⊥
fake_list_of_none_is_a_leaf = fall_walkers.none_a_leaf

fake_absent_is_no_leaf : MeasuresExactly empty_is_no_leaf → ⊥
fake_absent_is_no_leaf = fall_walkers.empty_no_leaf

fake_end_mark_is_one : MeasuresExactly end_mark_is_one → ⊥
fake_end_mark_is_one = fall_walkers.mark_is_one

fake_end_mark_in_two_bytes : RefusesExactly two_bytes_mark → ⊥
fake_end_mark_in_two_bytes = fall_walkers.mark_in_two

fake_end_mark_only_in_lists : MeasuresExactly no_mark_alone → ⊥
fake_end_mark_only_in_lists = fall_walkers.no_mark_alone_claim

fake_seventeen_lists_open : RefusesExactly seventeen_open → ⊥
fake_seventeen_lists_open = fall_walkers.seventeen

fake_fifteen_may_be_open : MeasuresExactly fifteen_open → ⊥
fake_fifteen_may_be_open = fall_walkers.fifteen

fake_too_deep_named_behind_its_length : RefusesExactly deep_behind_its_length → ⊥
fake_too_deep_named_behind_its_length = fall_walkers.deep_behind

fake_list_of_none_never_too_deep : RefusesExactly none_never_deep → ⊥
fake_list_of_none_never_too_deep = fall_walkers.none_never_deep_claim

fake_leaf_may_be_too_deep : MeasuresExactly leaves_too_deep → ⊥
fake_leaf_may_be_too_deep = fall_walkers.leaves_deep

fake_too_deep_before_its_length : RefusesExactly deep_before_its_length → ⊥
fake_too_deep_before_its_length = fall_walkers.deep_before

fake_too_deep_behind_its_elements : RefusesExactly deep_behind_its_elements → ⊥
fake_too_deep_behind_its_elements = fall_walkers.deep_behind_elements

fake_depth_not_given_back : MeasuresExactly depth_not_given_back → ⊥
fake_depth_not_given_back = fall_walkers.not_given_back

fake_list_number_counts_the_list : MeasuresExactly list_one_short → ⊥
fake_list_number_counts_the_list = fall_walkers.one_short

fake_leaf_without_its_content : MeasuresExactly leaf_without_content → ⊥
fake_leaf_without_its_content = fall_walkers.no_content_claim

fake_walk_takes_one_length_byte_off : MeasuresExactly one_taken_off → ⊥
fake_walk_takes_one_length_byte_off = fall_walkers.one_off_claim

fake_list_reads_its_first_element_again : MeasuresExactly first_element_again → ⊥
fake_list_reads_its_first_element_again = fall_walkers.again

fake_leaves_of_the_last_element : MeasuresExactly leaves_of_the_last → ⊥
fake_leaves_of_the_last_element = fall_walkers.of_the_last

fake_content_is_judged : MeasuresExactly content_is_judged → ⊥
fake_content_is_judged = fall_walkers.judged_content

fake_bytes_counted_from_the_input_s_start : MeasuresExactly behind_only → ⊥
fake_bytes_counted_from_the_input_s_start = fall_walkers.place_for_bytes

fake_bytes_behind_the_element_refused : MeasuresExactly rest_refused → ⊥
fake_bytes_behind_the_element_refused = fall_walkers.rest_refused_claim

fake_walk_places_from_the_element : RefusesExactly places_from_element → ⊥
fake_walk_places_from_the_element = fall_walkers.from_the_element

fake_walk_names_the_outermost_element : RefusesExactly names_the_element → ⊥
fake_walk_names_the_outermost_element = fall_walkers.the_element

fake_walk_one_byte_too_long : NineFirst limit_one_more → ⊥
fake_walk_one_byte_too_long = fall_walkers.one_more

fake_walk_of_any_length : NineFirst any_length → ⊥
fake_walk_of_any_length = fall_walkers.any_length_claim

fake_walk_beyond_is_a_bad_state : RefusesExactly beyond_is_bad → ⊥
fake_walk_beyond_is_a_bad_state = fall_walkers.beyond_bad

fake_walk_takes_nothing_at_the_end : RefusesExactly none_at_the_end → ⊥
fake_walk_takes_nothing_at_the_end = fall_walkers.none_at_the_end_claim

fake_walk_refuses_everything : EndsWithMessages walk_refuses_all → ⊥
fake_walk_refuses_everything = fall_walkers.all_refused

fake_content_with_its_length_bytes : ReadsItems content_with_its_length → ⊥
fake_content_with_its_length_bytes = fall_walkers.with_its_length_claim

fake_item_next_is_behind_the_list : ReadsItems lists_passed_over → ⊥
fake_item_next_is_behind_the_list = fall_walkers.passed_over

fake_content_that_is_cut_is_the_content : ReadsItems content_left → ⊥
fake_content_that_is_cut_is_the_content = fall_walkers.content_left_claim

fake_end_mark_is_an_empty_string : ReadsItems mark_is_a_string → ⊥
fake_end_mark_is_an_empty_string = fall_walkers.a_string

fake_sees_content_with_its_length_bytes : SeesElements content_with_its_length → ⊥
fake_sees_content_with_its_length_bytes = fall_walkers.other_sights
