-- What the claims rule out: each tool and each watcher of docs/WRONG-READINGS.md that is told here is wrong in one way, and a claim is false of it.
use Rattle.causes.specs.Tools.{RefusesWayFirst, RefusesTooLarge, AccountsExactly, LeavesPushes}
use Rattle.causes.specs.Watchers.{WatchesAsCalled, RefusesAtSlices}
use Rattle.causes.specs.Fakes.{hidden_in_the_new_start, hidden_in_the_second_way, frames_are_hidden, cut_told_as_noise, unfinished_told_as_cut, unfinished_told_as_noise, room_told_as_unfinished, always_noise, cause_of_the_new_state, first_cause_only, crc_always_named, pads_over_three_only, pads_of_the_piece, aligned_without_pads, frame_from_its_ninth_byte, last_with_the_new_start, bytes_from_zero, payload_not_passed, places_from_the_call, call_added_twice, end_less_eight, escape_without_its_four, pieces_merged, noise_byte_by_byte, end_forgotten, empty_piece_at_the_end, kept_told_as_lost, room_not_told, always_whole, refuses_all_calls, past_the_end_refused, skips_a_byte, from_the_first_byte, first_way_only, second_way_only, own_buffer, capacity_before_way, any_way_is_taken, any_length_lent, lent_one_more, buffer_cleared, buffer_kept, reads_to_the_end, look_not_cleared, places_from_the_slice, cut_start_not_seen, rest_of_the_slice_taken, watcher_forgets_the_end, payload_wiped, watcher_of_any_way}
use Rattle.causes.proofs.Fakes.{fall_tools}

fake_hidden_in_the_new_start : AccountsExactly hidden_in_the_new_start → ⊥
fake_hidden_in_the_new_start = fall_tools.new_start_hidden

fake_hidden_in_the_second_way : AccountsExactly hidden_in_the_second_way → ⊥
fake_hidden_in_the_second_way = fall_tools.second_way_hidden

fake_cut_frame_is_a_hidden_start : AccountsExactly frames_are_hidden → ⊥
fake_cut_frame_is_a_hidden_start = fall_tools.frames_hidden

fake_cut_told_as_noise : AccountsExactly cut_told_as_noise → ⊥
fake_cut_told_as_noise = fall_tools.cut_noise

fake_unfinished_told_as_cut : AccountsExactly unfinished_told_as_cut → ⊥
fake_unfinished_told_as_cut = fall_tools.unfinished_cut

fake_unfinished_told_as_noise : AccountsExactly unfinished_told_as_noise → ⊥
fake_unfinished_told_as_noise = fall_tools.unfinished_noise

fake_no_room_told_as_unfinished : AccountsExactly room_told_as_unfinished → ⊥
fake_no_room_told_as_unfinished = fall_tools.room_unfinished

fake_always_says_noise : AccountsExactly always_noise → ⊥
fake_always_says_noise = fall_tools.always_noise_claim

fake_cause_of_the_state_behind_the_event : AccountsExactly cause_of_the_new_state → ⊥
fake_cause_of_the_state_behind_the_event = fall_tools.new_state

fake_first_cause_only : AccountsExactly first_cause_only → ⊥
fake_first_cause_only = fall_tools.first_cause

fake_crc_named_with_every_end : AccountsExactly crc_always_named → ⊥
fake_crc_named_with_every_end = fall_tools.always_crc

fake_pads_over_three_only : AccountsExactly pads_over_three_only → ⊥
fake_pads_over_three_only = fall_tools.over_three_claim

fake_pads_against_the_piece_s_length : AccountsExactly pads_of_the_piece → ⊥
fake_pads_against_the_piece_s_length = fall_tools.pads_of_piece

fake_misaligned_by_the_payload : AccountsExactly aligned_without_pads → ⊥
fake_misaligned_by_the_payload = fall_tools.aligned_payload

fake_frame_from_its_ninth_byte : AccountsExactly frame_from_its_ninth_byte → ⊥
fake_frame_from_its_ninth_byte = fall_tools.ninth_byte

fake_piece_ends_with_the_new_start : AccountsExactly last_with_the_new_start → ⊥
fake_piece_ends_with_the_new_start = fall_tools.with_new_start

fake_tool_counts_from_zero : AccountsExactly bytes_from_zero → ⊥
fake_tool_counts_from_zero = fall_tools.from_zero

fake_piece_begins_before_the_payload_s_end : AccountsExactly payload_not_passed → ⊥
fake_piece_begins_before_the_payload_s_end = fall_tools.not_passed

fake_lost_places_from_the_call : AccountsExactly places_from_the_call → ⊥
fake_lost_places_from_the_call = fall_tools.from_the_call

fake_place_of_the_call_added_twice : AccountsExactly call_added_twice → ⊥
fake_place_of_the_call_added_twice = fall_tools.added_twice

fake_piece_at_the_end_less_eight : AccountsExactly end_less_eight → ⊥
fake_piece_at_the_end_less_eight = fall_tools.less_eight_claim

fake_escape_without_its_four_bytes : AccountsExactly escape_without_its_four → ⊥
fake_escape_without_its_four_bytes = fall_tools.without_four

fake_losses_that_touch_are_one : AccountsExactly pieces_merged → ⊥
fake_losses_that_touch_are_one = fall_tools.merged

fake_a_loss_for_each_byte_of_noise : AccountsExactly noise_byte_by_byte → ⊥
fake_a_loss_for_each_byte_of_noise = fall_tools.byte_by_byte

fake_loss_at_the_end_forgotten : AccountsExactly end_forgotten → ⊥
fake_loss_at_the_end_forgotten = fall_tools.end_forgotten_claim

fake_empty_piece_at_the_end : AccountsExactly empty_piece_at_the_end → ⊥
fake_empty_piece_at_the_end = fall_tools.empty_piece

fake_kept_frame_told_as_lost : AccountsExactly kept_told_as_lost → ⊥
fake_kept_frame_told_as_lost = fall_tools.kept_lost

fake_no_room_is_no_loss : AccountsExactly room_not_told → ⊥
fake_no_room_is_no_loss = fall_tools.room_not_told_claim

fake_nothing_is_ever_lost : AccountsExactly always_whole → ⊥
fake_nothing_is_ever_lost = fall_tools.always_whole_claim

fake_refuses_every_recording : AccountsExactly refuses_all_calls → ⊥
fake_refuses_every_recording = fall_tools.refuses_all_claim

fake_place_past_the_end_refused : AccountsExactly past_the_end_refused → ⊥
fake_place_past_the_end_refused = fall_tools.past_end

fake_next_call_skips_a_byte : AccountsExactly skips_a_byte → ⊥
fake_next_call_skips_a_byte = fall_tools.skips

fake_every_call_from_the_first_byte : AccountsExactly from_the_first_byte → ⊥
fake_every_call_from_the_first_byte = fall_tools.from_first

fake_losses_in_the_first_way_only : AccountsExactly first_way_only → ⊥
fake_losses_in_the_first_way_only = fall_tools.first_way_claim

fake_losses_in_the_second_way_only : AccountsExactly second_way_only → ⊥
fake_losses_in_the_second_way_only = fall_tools.second_way_claim

fake_capacity_is_eight : AccountsExactly own_buffer → ⊥
fake_capacity_is_eight = fall_tools.own_buffer_claim

fake_capacity_before_way : RefusesWayFirst capacity_before_way → ⊥
fake_capacity_before_way = fall_tools.capacity_first

fake_any_way_of_searching : RefusesWayFirst any_way_is_taken → ⊥
fake_any_way_of_searching = fall_tools.any_way

fake_lost_with_a_buffer_of_any_length : RefusesTooLarge any_length_lent → ⊥
fake_lost_with_a_buffer_of_any_length = fall_tools.any_lent

fake_lost_with_a_buffer_one_byte_too_long : RefusesTooLarge lent_one_more → ⊥
fake_lost_with_a_buffer_one_byte_too_long = fall_tools.one_more_lent_claim

fake_lost_buffer_cleared : LeavesPushes buffer_cleared → ⊥
fake_lost_buffer_cleared = fall_tools.cleared

fake_lost_buffer_unchanged : LeavesPushes buffer_kept → ⊥
fake_lost_buffer_unchanged = fall_tools.kept_buffer

fake_reads_on_behind_the_loss : LeavesPushes reads_to_the_end → ⊥
fake_reads_on_behind_the_loss = fall_tools.reads_on

fake_look_not_cleared : WatchesAsCalled look_not_cleared → ⊥
fake_look_not_cleared = fall_tools.look_kept

fake_places_from_the_slice : WatchesAsCalled places_from_the_slice → ⊥
fake_places_from_the_slice = fall_tools.from_the_slice

fake_start_cut_by_two_slices_not_seen : WatchesAsCalled cut_start_not_seen → ⊥
fake_start_cut_by_two_slices_not_seen = fall_tools.cut_start

fake_rest_of_the_slice_taken : WatchesAsCalled rest_of_the_slice_taken → ⊥
fake_rest_of_the_slice_taken = fall_tools.rest_taken

fake_watcher_forgets_the_end : WatchesAsCalled watcher_forgets_the_end → ⊥
fake_watcher_forgets_the_end = fall_tools.forgets_end

fake_payload_wiped_before_it_is_read : WatchesAsCalled payload_wiped → ⊥
fake_payload_wiped_before_it_is_read = fall_tools.payload_wiped_claim

fake_watcher_of_any_way : RefusesAtSlices watcher_of_any_way → ⊥
fake_watcher_of_any_way = fall_tools.watcher_any_way
