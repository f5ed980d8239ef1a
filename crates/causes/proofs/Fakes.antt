-- A claim is false of each wrong tool and each wrong watcher.
use mathlib.Core.Path.{◌≡◌, refl, sym, ap, ◌∙◌}
use mathlib.Core.Bool.{Bool, true, false, cond, ◌&&◌, ◌||◌}
use mathlib.Core.List.{List, [], ◌∷◌, ◌++◌}
use Prim.Native.Nat.{ℕ, zero, suc, ◌+◌, ◌-◌, ◌*◌, ◌^◌, ◌<◌}
use native.Mathlib.Omega.{arith}
use lib.ListN.{length, take, drop, get_or, replicate, length-replicate}
use lib.Seq.{take-length}
use lib.Dec.{eqb, leb, ltb}
use borrow.Author.Tests.{le-ltb, lt-ltb, ltb-true, leb-true, eqb-false}
use Rattle.refusals.specs.Numbers.{limit}
use Rattle.crc_x25.specs.Crc.{reflect, polynomial, bit_step, bit_steps, byte_step, register, final_xor}
use Rattle.frame.specs.Frame.{start_seq, esc_seq, same}
use Rattle.frame.proofs.Cases.{by_eq}
use Rattle.search.specs.Search.{greatest, most_matched}
use Rattle.decoder.specs.Push.{in_way, searching, store, finish, judge, step, finalized}
use Rattle.decoder.specs.Record.{DecoderAnswer, nothing, payload, count, refusal, After, flag, new_record, unknown_way, wrote, bad_decoder, wrong_buffer, pushed, push_record, finalize_record}
use Rattle.decoder.specs.Run.{KnownWay, is_first, is_second, act, behind}
use Rattle.decoder.specs.declared.Decoder.{Decoder}
use Rattle.since.specs.Since.{AllBytes}
use Rattle.decoder_slice.specs.Slice.{says_nothing}
use Rattle.losses.specs.Loss.{has_start, wrong_pads, cause_of, piece_of, loss_at, LossSaid, lost_is, none_lost, loss_refused, LossAfter, loss_after, is_refusal, hands_out, next_behind, next_loss}
use Rattle.losses.specs.Watch.{watch_behind, WatchSaid, quietly, kept_over, lost_over, watch_refused, WatchAfter, watch_after, moved_on, sight_at, bad_watch, watches_from, watch_slice, watch_end}
use Rattle.losses.specs.declared.Cause.{Cause}
use Rattle.losses.specs.declared.Cause.TheVariants.{Noise, Unfinished, Hidden, Cut, UnknownEscape, NoRoom, Invalid}
use Rattle.losses.specs.declared.Loss.{Loss}
use Rattle.losses.specs.declared.Watch.{Watch}
use Rattle.causes.specs.Tools.{Tool, RefusesWayFirst, RefusesTooLarge, AccountsExactly, LeavesPushes, pushed_for, buffer_behind}
use Rattle.causes.specs.Calls.{Calls, calls_over, calls_again, losses_among}
use Rattle.causes.specs.Watchers.{SliceSeen, Watcher, Watches, watches_over, watches_quiet, watches_kept, watches_lost, joined, WatchesAsCalled, RefusesAtSlices}
use Rattle.causes.specs.Bench.{end_saying, frame_kept, lost_for}
use Rattle.causes.specs.Fakes.{both_checked, our_loss_rules, loss_behind_by, loss_by, judged_by, says_misaligned, leaves_instead, our_watch_rules, watches_by, watch_slice_by, hidden_in_the_new_start, hidden_in_the_second_way, frames_are_hidden, cut_told_as_noise, unfinished_told_as_cut, unfinished_told_as_noise, room_told_as_unfinished, always_noise, cause_of_the_new_state, first_cause_only, crc_always_named, pads_over_three_only, pads_of_the_piece, aligned_without_pads, frame_from_its_ninth_byte, last_with_the_new_start, bytes_from_zero, payload_not_passed, places_from_the_call, call_added_twice, end_less_eight, escape_without_its_four, pieces_merged, noise_byte_by_byte, end_forgotten, empty_piece_at_the_end, kept_told_as_lost, room_not_told, always_whole, refuses_all_calls, past_the_end_refused, skips_a_byte, from_the_first_byte, first_way_only, second_way_only, own_buffer, capacity_before_way, any_way_is_taken, any_length_lent, lent_one_more, buffer_cleared, buffer_kept, reads_to_the_end, look_not_cleared, places_from_the_slice, cut_start_not_seen, rest_of_the_slice_taken, watcher_forgets_the_end, payload_wiped, watcher_of_any_way, FallTools}
use Rattle.causes.proofs.Tools.{only_said}

-- ---- ours

ours_behind : (bytes : List ℕ) (d : Decoder) (m : List ℕ) (begun : ℕ) (h : List ℕ) → loss_behind_by our_loss_rules d m begun h bytes ≡ next_behind d m begun h bytes
unfolding loss_behind_by next_behind
ours_behind [] d m begun h = refl
ours_behind (b ∷ bytes) d m begun h =
    let a : After = push_record d m b in
    let g : List ℕ = h ++ b ∷ [] in
    let told : LossAfter → LossAfter → LossAfter =
    λ p q. cond (is_refusal a.answer) (loss_after (lost_is (loss_at false a.answer begun h (piece_of a.answer g))) a.memory) (cond (hands_out a.answer) p q) in
    (λ i. told (ours_behind bytes a.decoder a.memory (begun + length g) [] i) (ours_behind bytes a.decoder a.memory begun g i))

ours_loses : (recording : List ℕ) (way : ℕ) (m : List ℕ) (from : ℕ) → loss_by both_checked our_loss_rules recording way m from ≡ next_loss recording way m from
unfolding next_loss
ours_loses recording way m from =
    ap (λ (a : LossAfter). cond (unknown_way way) (loss_after (loss_refused 4) m) (cond (ltb limit (length m)) (loss_after (loss_refused 5) m) a)) (ours_behind (drop from recording) (new_record (in_way way (length m))) m from [])

judges_ours : (at_end running hides : Bool) (long : ℕ) (a : DecoderAnswer) → judged_by says_misaligned wrong_pads at_end running hides long a ≡ cause_of at_end running hides long a
unfolding cause_of
judges_ours at_end running hides long nothing = refl
judges_ours at_end running hides long (payload bytes) = refl
judges_ours at_end running hides long (count k) = refl
judges_ours at_end running hides long (refusal k v) =
    by_eq (λ c. c ≡ cause_of at_end running hides long (refusal k v)) k 8 _ _ (λ e. sym (ap (λ (j : ℕ). cause_of at_end running hides long (refusal j v)) e)) (λ n. refl)

leaves_ours : (recording : List ℕ) (way : ℕ) (m : List ℕ) (from : ℕ) → leaves_instead (λ r w n f. (next_loss r w n f).memory) recording way m from ≡ next_loss recording way m from
unfolding next_loss
leaves_ours recording way m from = by (unknown_way way) (ltb limit (length m)) (next_behind (new_record (in_way way (length m))) m from [] (drop from recording))
  where
    by : (t u : Bool) (a : LossAfter)
        → let all : LossAfter = cond t (loss_after (loss_refused 4) m) (cond u (loss_after (loss_refused 5) m) a) in
        cond t (loss_after (loss_refused 4) m) (cond u (loss_after (loss_refused 5) m) (loss_after all.said all.memory)) ≡ all
    by true u a = refl
    by false true a = refl
    by false false a = refl

-- ---- what ours says at an input, and another doesn't

-- bytes, by a test that computes
abbrev all_under : List ℕ → Bool
all_under [] = true
all_under (x ∷ l) = ltb x 256 && all_under l

all_under_lem : (l : List ℕ) → all_under l ≡ true → AllBytes l
all_under_lem [] e = tt
all_under_lem (x ∷ l) e = by (ltb x 256) refl e (λ f. all_under_lem l f)
  where
    by : (t : Bool) → ltb x 256 ≡ t → t && all_under l ≡ true → (all_under l ≡ true → AllBytes l) → (x < 256) × AllBytes l
    by true is more on = (ltb-true x 256 is, on more)
    by false is more on = absurd (let z : ◌≡◌ {A = ℕ} 0 1 = ap flag more in omega (arith, z))

-- an answer as a number: different numbers are different answers
abbrev cause_no : Cause → ℕ
cause_no Noise = 1
cause_no Unfinished = 2
cause_no Hidden = 3
cause_no Cut = 4
cause_no UnknownEscape = 5
cause_no NoRoom = 6
cause_no (Invalid crc misaligned pads) = 7 + flag crc + 2 * flag misaligned + 4 * flag pads

abbrev said_as_number : LossSaid → ℕ
said_as_number (lost_is l) = cause_no l.cause + 100 * l.first + 10000 * l.last
said_as_number none_lost = 0
said_as_number (loss_refused n) = 1000000 + n

accounts_fall : (T : Tool) (recording : List ℕ) (way : ℕ) (m : List ℕ) (from : ℕ) (theirs our : LossSaid) → KnownWay way → all_under recording ≡ true → leb (length m) limit ≡ true → (T recording way m from).said ≡ theirs
    → (next_loss recording way m from).said ≡ our → eqb (said_as_number theirs) (said_as_number our) ≡ false → AccountsExactly T → ⊥
accounts_fall T recording way m from theirs our known fine le e f n good =
    eqb-false (said_as_number theirs) (said_as_number our) n (ap said_as_number (sym e ∙ only_said T good recording way m from (all_under_lem recording fine) known (leb-true (length m) limit le) ∙ f))

pushes_fall : (T : Tool) (recording : List ℕ) (way : ℕ) (m : List ℕ) (from : ℕ) → KnownWay way → all_under recording ≡ true → leb (length m) limit ≡ true
    → eqb (get_or (T recording way m from).memory 0 0) (get_or (buffer_behind way m (take (pushed_for (length (drop from recording)) from (T recording way m from).said) (drop from recording))) 0 0) ≡ false → LeavesPushes T → ⊥
pushes_fall T recording way m from known fine le n good =
    eqb-false _ _ n (ap (λ (l : List ℕ). get_or l 0 0) (good recording way m from (all_under_lem recording fine) known (leb-true (length m) limit le)))

-- ---- hidden starts, causes, places, pieces, calls

falls_new_start_hidden : AccountsExactly hidden_in_the_new_start → ⊥
unfolding reflect polynomial bit_step bit_steps byte_step register final_xor same greatest most_matched searching store finish judge step finalized wrote bad_decoder wrong_buffer pushed push_record finalize_record has_start cause_of next_behind next_loss loss_behind_by
falls_new_start_hidden = accounts_fall hidden_in_the_new_start (0x00 ∷ start_seq) 1 [] 0 (lost_is (lost_for Hidden 1 1)) (lost_is (lost_for Noise 1 1)) (is_first refl) refl refl refl refl refl

falls_second_way_hidden : AccountsExactly hidden_in_the_second_way → ⊥
unfolding reflect polynomial bit_step bit_steps byte_step register final_xor same greatest most_matched searching store finish judge step finalized wrote bad_decoder wrong_buffer pushed push_record finalize_record has_start cause_of next_behind next_loss loss_behind_by
falls_second_way_hidden = accounts_fall hidden_in_the_second_way (0x00 ∷ start_seq) 2 [] 0 (lost_is (lost_for Hidden 1 1)) (lost_is (lost_for Noise 1 1)) (is_second refl) refl refl refl refl refl

falls_frames_hidden : AccountsExactly frames_are_hidden → ⊥
unfolding reflect polynomial bit_step bit_steps byte_step register final_xor same greatest most_matched searching store finish judge step finalized wrote bad_decoder wrong_buffer pushed push_record finalize_record has_start cause_of next_behind next_loss loss_behind_by
falls_frames_hidden = accounts_fall frames_are_hidden start_seq 1 [] 0 (lost_is (lost_for Hidden 1 8)) (lost_is (lost_for Unfinished 1 8)) (is_first refl) refl refl refl refl refl

falls_cut_noise : AccountsExactly cut_told_as_noise → ⊥
unfolding reflect polynomial bit_step bit_steps byte_step register final_xor same greatest most_matched searching store finish judge step finalized wrote bad_decoder wrong_buffer pushed push_record finalize_record has_start cause_of next_behind next_loss loss_behind_by
falls_cut_noise = accounts_fall cut_told_as_noise (start_seq ++ start_seq) 1 (replicate 4 0) 0 (lost_is (lost_for Noise 1 8)) (lost_is (lost_for Cut 1 8)) (is_first refl) refl refl refl refl refl

falls_unfinished_cut : AccountsExactly unfinished_told_as_cut → ⊥
unfolding reflect polynomial bit_step bit_steps byte_step register final_xor same greatest most_matched searching store finish judge step finalized wrote bad_decoder wrong_buffer pushed push_record finalize_record has_start cause_of next_behind next_loss loss_behind_by
falls_unfinished_cut = accounts_fall unfinished_told_as_cut start_seq 1 [] 0 (lost_is (lost_for Cut 1 8)) (lost_is (lost_for Unfinished 1 8)) (is_first refl) refl refl refl refl refl

falls_unfinished_noise : AccountsExactly unfinished_told_as_noise → ⊥
unfolding reflect polynomial bit_step bit_steps byte_step register final_xor same greatest most_matched searching store finish judge step finalized wrote bad_decoder wrong_buffer pushed push_record finalize_record has_start cause_of next_behind next_loss loss_behind_by
falls_unfinished_noise = accounts_fall unfinished_told_as_noise start_seq 1 [] 0 (lost_is (lost_for Noise 1 8)) (lost_is (lost_for Unfinished 1 8)) (is_first refl) refl refl refl refl refl

falls_room_unfinished : AccountsExactly room_told_as_unfinished → ⊥
unfolding reflect polynomial bit_step bit_steps byte_step register final_xor same greatest most_matched searching store finish judge step finalized wrote bad_decoder wrong_buffer pushed push_record finalize_record has_start cause_of next_behind next_loss loss_behind_by
falls_room_unfinished = accounts_fall room_told_as_unfinished (start_seq ++ 0x00 ∷ []) 1 [] 0 (lost_is (lost_for Unfinished 1 9)) (lost_is (lost_for NoRoom 1 9)) (is_first refl) refl refl refl refl refl

falls_always_noise : AccountsExactly always_noise → ⊥
unfolding reflect polynomial bit_step bit_steps byte_step register final_xor same greatest most_matched searching store finish judge step finalized wrote bad_decoder wrong_buffer pushed push_record finalize_record has_start cause_of next_behind next_loss loss_behind_by
falls_always_noise = accounts_fall always_noise (0x1b ∷ frame_kept) 1 (replicate 8 0) 0 (lost_is (lost_for Noise 1 21)) (lost_is (lost_for Hidden 1 21)) (is_first refl) refl refl refl refl refl

falls_new_state : AccountsExactly cause_of_the_new_state → ⊥
unfolding reflect polynomial bit_step bit_steps byte_step register final_xor same greatest most_matched searching store finish judge step finalized wrote bad_decoder wrong_buffer pushed push_record finalize_record has_start cause_of next_behind next_loss loss_behind_by
falls_new_state = accounts_fall cause_of_the_new_state (0x00 ∷ start_seq) 1 [] 0 (lost_is (lost_for Cut 1 1)) (lost_is (lost_for Noise 1 1)) (is_first refl) refl refl refl refl refl

falls_first_cause : AccountsExactly first_cause_only → ⊥
unfolding reflect polynomial bit_step bit_steps byte_step register final_xor same greatest most_matched searching store finish judge step finalized wrote bad_decoder wrong_buffer pushed push_record finalize_record has_start cause_of next_behind next_loss loss_behind_by
falls_first_cause = accounts_fall first_cause_only (start_seq ++ end_saying 0x01 0x00 0x00) 1 (replicate 4 0) 0 (lost_is (lost_for (Invalid true false false) 1 16)) (lost_is (lost_for (Invalid true false true) 1 16)) (is_first refl) refl refl refl refl refl

falls_always_crc : AccountsExactly crc_always_named → ⊥
unfolding reflect polynomial bit_step bit_steps byte_step register final_xor same greatest most_matched searching store finish judge step finalized wrote bad_decoder wrong_buffer pushed push_record finalize_record has_start cause_of next_behind next_loss loss_behind_by
falls_always_crc = accounts_fall crc_always_named (start_seq ++ end_saying 0x01 0x4f 0xf4) 1 (replicate 4 0) 0 (lost_is (lost_for (Invalid true false true) 1 16)) (lost_is (lost_for (Invalid false false true) 1 16)) (is_first refl) refl refl refl refl refl

falls_over_three : AccountsExactly pads_over_three_only → ⊥
unfolding reflect polynomial bit_step bit_steps byte_step register final_xor same greatest most_matched searching store finish judge step finalized wrote bad_decoder wrong_buffer pushed push_record finalize_record has_start cause_of next_behind next_loss loss_behind_by
falls_over_three = accounts_fall pads_over_three_only (start_seq ++ end_saying 0x01 0x4f 0xf4) 1 (replicate 4 0) 0 (lost_is (lost_for (Invalid false false false) 1 16)) (lost_is (lost_for (Invalid false false true) 1 16)) (is_first refl) refl refl refl refl refl

falls_pads_of_piece : AccountsExactly pads_of_the_piece → ⊥
unfolding reflect polynomial bit_step bit_steps byte_step register final_xor same greatest most_matched searching store finish judge step finalized wrote bad_decoder wrong_buffer pushed push_record finalize_record has_start cause_of next_behind next_loss loss_behind_by
falls_pads_of_piece = accounts_fall pads_of_the_piece (start_seq ++ end_saying 0x01 0x4f 0xf4) 1 (replicate 4 0) 0 (lost_is (lost_for (Invalid false false false) 1 16)) (lost_is (lost_for (Invalid false false true) 1 16)) (is_first refl) refl refl refl refl refl

falls_aligned_payload : AccountsExactly aligned_without_pads → ⊥
unfolding reflect polynomial bit_step bit_steps byte_step register final_xor same greatest most_matched searching store finish judge step finalized wrote bad_decoder wrong_buffer pushed push_record finalize_record has_start cause_of next_behind next_loss loss_behind_by
falls_aligned_payload = accounts_fall aligned_without_pads (start_seq ++ end_saying 0x01 0x4f 0xf4) 1 (replicate 4 0) 0 (lost_is (lost_for (Invalid false true true) 1 16)) (lost_is (lost_for (Invalid false false true) 1 16)) (is_first refl) refl refl refl refl refl

falls_ninth_byte : AccountsExactly frame_from_its_ninth_byte → ⊥
unfolding reflect polynomial bit_step bit_steps byte_step register final_xor same greatest most_matched searching store finish judge step finalized wrote bad_decoder wrong_buffer pushed push_record finalize_record has_start cause_of next_behind next_loss loss_behind_by
falls_ninth_byte = accounts_fall frame_from_its_ninth_byte (start_seq ++ 0x12 ∷ []) 1 (replicate 4 0) 0 (lost_is (lost_for Unfinished 9 9)) (lost_is (lost_for Unfinished 1 9)) (is_first refl) refl refl refl refl refl

falls_with_new_start : AccountsExactly last_with_the_new_start → ⊥
unfolding reflect polynomial bit_step bit_steps byte_step register final_xor same greatest most_matched searching store finish judge step finalized wrote bad_decoder wrong_buffer pushed push_record finalize_record has_start cause_of next_behind next_loss loss_behind_by
falls_with_new_start = accounts_fall last_with_the_new_start (0x00 ∷ start_seq) 1 [] 0 (lost_is (lost_for Noise 1 9)) (lost_is (lost_for Noise 1 1)) (is_first refl) refl refl refl refl refl

falls_from_zero : AccountsExactly bytes_from_zero → ⊥
unfolding reflect polynomial bit_step bit_steps byte_step register final_xor same greatest most_matched searching store finish judge step finalized wrote bad_decoder wrong_buffer pushed push_record finalize_record has_start cause_of next_behind next_loss loss_behind_by
falls_from_zero = accounts_fall bytes_from_zero (0x00 ∷ []) 1 [] 0 (lost_is (lost_for Noise 0 0)) (lost_is (lost_for Noise 1 1)) (is_first refl) refl refl refl refl refl

falls_not_passed : AccountsExactly payload_not_passed → ⊥
unfolding reflect polynomial bit_step bit_steps byte_step register final_xor same greatest most_matched searching store finish judge step finalized wrote bad_decoder wrong_buffer pushed push_record finalize_record has_start cause_of next_behind next_loss loss_behind_by
falls_not_passed = accounts_fall payload_not_passed (start_seq ++ end_saying 0x00 0xc6 0xe5 ++ 0x00 ∷ []) 1 (replicate 4 0) 0 (lost_is (lost_for Noise 1 1)) (lost_is (lost_for Noise 17 17)) (is_first refl) refl refl refl refl refl

falls_from_the_call : AccountsExactly places_from_the_call → ⊥
unfolding reflect polynomial bit_step bit_steps byte_step register final_xor same greatest most_matched searching store finish judge step finalized wrote bad_decoder wrong_buffer pushed push_record finalize_record has_start cause_of next_behind next_loss loss_behind_by
falls_from_the_call = accounts_fall places_from_the_call (start_seq ++ 0x00 ∷ 0x00 ∷ []) 1 [] 9 (lost_is (lost_for Noise 1 1)) (lost_is (lost_for Noise 10 10)) (is_first refl) refl refl refl refl refl

falls_added_twice : AccountsExactly call_added_twice → ⊥
unfolding reflect polynomial bit_step bit_steps byte_step register final_xor same greatest most_matched searching store finish judge step finalized wrote bad_decoder wrong_buffer pushed push_record finalize_record has_start cause_of next_behind next_loss loss_behind_by
falls_added_twice = accounts_fall call_added_twice (start_seq ++ 0x00 ∷ 0x00 ∷ []) 1 [] 9 (lost_is (lost_for Noise 19 19)) (lost_is (lost_for Noise 10 10)) (is_first refl) refl refl refl refl refl

falls_less_eight : AccountsExactly end_less_eight → ⊥
unfolding reflect polynomial bit_step bit_steps byte_step register final_xor same greatest most_matched searching store finish judge step finalized wrote bad_decoder wrong_buffer pushed push_record finalize_record has_start cause_of next_behind next_loss loss_behind_by
falls_less_eight = accounts_fall end_less_eight (start_seq ++ 0x12 ∷ []) 1 (replicate 4 0) 0 (lost_is (lost_for Unfinished 1 1)) (lost_is (lost_for Unfinished 1 9)) (is_first refl) refl refl refl refl refl

falls_without_four : AccountsExactly escape_without_its_four → ⊥
unfolding reflect polynomial bit_step bit_steps byte_step register final_xor same greatest most_matched searching store finish judge step finalized wrote bad_decoder wrong_buffer pushed push_record finalize_record has_start cause_of next_behind next_loss loss_behind_by
falls_without_four = accounts_fall escape_without_its_four (start_seq ++ esc_seq ++ 0x02 ∷ 0x00 ∷ 0x00 ∷ 0x00 ∷ []) 1 (replicate 4 0) 0 (lost_is (lost_for UnknownEscape 1 12)) (lost_is (lost_for UnknownEscape 1 16)) (is_first refl) refl refl refl refl refl

falls_merged : AccountsExactly pieces_merged → ⊥
unfolding reflect polynomial bit_step bit_steps byte_step register final_xor same greatest most_matched searching store finish judge step finalized wrote bad_decoder wrong_buffer pushed push_record finalize_record has_start cause_of next_behind next_loss loss_behind_by
falls_merged = accounts_fall pieces_merged (start_seq ++ 0x00 ∷ 0x00 ∷ []) 1 [] 0 (lost_is (lost_for NoRoom 1 10)) (lost_is (lost_for NoRoom 1 9)) (is_first refl) refl refl refl refl refl

falls_byte_by_byte : AccountsExactly noise_byte_by_byte → ⊥
unfolding reflect polynomial bit_step bit_steps byte_step register final_xor same greatest most_matched searching store finish judge step finalized wrote bad_decoder wrong_buffer pushed push_record finalize_record has_start cause_of next_behind next_loss loss_behind_by
falls_byte_by_byte = accounts_fall noise_byte_by_byte (0x00 ∷ 0x00 ∷ []) 1 [] 0 (lost_is (lost_for Noise 1 1)) (lost_is (lost_for Noise 1 2)) (is_first refl) refl refl refl refl refl

falls_end_forgotten : AccountsExactly end_forgotten → ⊥
unfolding reflect polynomial bit_step bit_steps byte_step register final_xor same greatest most_matched searching store finish judge step finalized wrote bad_decoder wrong_buffer pushed push_record finalize_record has_start cause_of next_behind next_loss loss_behind_by
falls_end_forgotten = accounts_fall end_forgotten (0x00 ∷ []) 1 [] 0 none_lost (lost_is (lost_for Noise 1 1)) (is_first refl) refl refl refl refl refl

falls_empty_piece : AccountsExactly empty_piece_at_the_end → ⊥
unfolding reflect polynomial bit_step bit_steps byte_step register final_xor same greatest most_matched searching store finish judge step finalized wrote bad_decoder wrong_buffer pushed push_record finalize_record has_start cause_of next_behind next_loss loss_behind_by
falls_empty_piece = accounts_fall empty_piece_at_the_end [] 1 [] 0 (lost_is (lost_for Noise 1 0)) none_lost (is_first refl) refl refl refl refl refl

falls_kept_lost : AccountsExactly kept_told_as_lost → ⊥
unfolding reflect polynomial bit_step bit_steps byte_step register final_xor same greatest most_matched searching store finish judge step finalized wrote bad_decoder wrong_buffer pushed push_record finalize_record has_start cause_of next_behind next_loss loss_behind_by
falls_kept_lost = accounts_fall kept_told_as_lost (start_seq ++ end_saying 0x00 0xc6 0xe5) 1 (replicate 4 0) 0 (lost_is (lost_for Noise 1 16)) none_lost (is_first refl) refl refl refl refl refl

falls_room_not_told : AccountsExactly room_not_told → ⊥
unfolding reflect polynomial bit_step bit_steps byte_step register final_xor same greatest most_matched searching store finish judge step finalized wrote bad_decoder wrong_buffer pushed push_record finalize_record has_start cause_of next_behind next_loss loss_behind_by
falls_room_not_told = accounts_fall room_not_told (start_seq ++ 0x00 ∷ []) 1 [] 0 none_lost (lost_is (lost_for NoRoom 1 9)) (is_first refl) refl refl refl refl refl

falls_always_whole : AccountsExactly always_whole → ⊥
unfolding reflect polynomial bit_step bit_steps byte_step register final_xor same greatest most_matched searching store finish judge step finalized wrote bad_decoder wrong_buffer pushed push_record finalize_record has_start cause_of next_behind next_loss loss_behind_by
falls_always_whole = accounts_fall always_whole (0x00 ∷ []) 1 [] 0 none_lost (lost_is (lost_for Noise 1 1)) (is_first refl) refl refl refl refl refl

falls_refuses_all : AccountsExactly refuses_all_calls → ⊥
unfolding reflect polynomial bit_step bit_steps byte_step register final_xor same greatest most_matched searching store finish judge step finalized wrote bad_decoder wrong_buffer pushed push_record finalize_record has_start cause_of next_behind next_loss loss_behind_by
falls_refuses_all = accounts_fall refuses_all_calls [] 1 [] 0 (loss_refused 5) none_lost (is_first refl) refl refl refl refl refl

falls_past_end : AccountsExactly past_the_end_refused → ⊥
unfolding reflect polynomial bit_step bit_steps byte_step register final_xor same greatest most_matched searching store finish judge step finalized wrote bad_decoder wrong_buffer pushed push_record finalize_record has_start cause_of next_behind next_loss loss_behind_by
falls_past_end = accounts_fall past_the_end_refused [] 1 [] 1 (loss_refused 4) none_lost (is_first refl) refl refl refl refl refl

falls_skips : AccountsExactly skips_a_byte → ⊥
unfolding reflect polynomial bit_step bit_steps byte_step register final_xor same greatest most_matched searching store finish judge step finalized wrote bad_decoder wrong_buffer pushed push_record finalize_record has_start cause_of next_behind next_loss loss_behind_by
falls_skips = accounts_fall skips_a_byte (start_seq ++ 0x00 ∷ 0x00 ∷ []) 1 [] 9 none_lost (lost_is (lost_for Noise 10 10)) (is_first refl) refl refl refl refl refl

falls_from_first : AccountsExactly from_the_first_byte → ⊥
unfolding reflect polynomial bit_step bit_steps byte_step register final_xor same greatest most_matched searching store finish judge step finalized wrote bad_decoder wrong_buffer pushed push_record finalize_record has_start cause_of next_behind next_loss loss_behind_by
falls_from_first = accounts_fall from_the_first_byte (0x00 ∷ []) 1 [] 1 (lost_is (lost_for Noise 1 1)) none_lost (is_first refl) refl refl refl refl refl

falls_first_way : AccountsExactly first_way_only → ⊥
unfolding reflect polynomial bit_step bit_steps byte_step register final_xor same greatest most_matched searching store finish judge step finalized wrote bad_decoder wrong_buffer pushed push_record finalize_record has_start cause_of next_behind next_loss loss_behind_by
falls_first_way = accounts_fall first_way_only (0x1b ∷ start_seq) 2 [] 0 (lost_is (lost_for Hidden 1 9)) (lost_is (lost_for Noise 1 1)) (is_second refl) refl refl refl refl refl

falls_second_way : AccountsExactly second_way_only → ⊥
unfolding reflect polynomial bit_step bit_steps byte_step register final_xor same greatest most_matched searching store finish judge step finalized wrote bad_decoder wrong_buffer pushed push_record finalize_record has_start cause_of next_behind next_loss loss_behind_by
falls_second_way = accounts_fall second_way_only (0x1b ∷ start_seq) 1 [] 0 (lost_is (lost_for Noise 1 1)) (lost_is (lost_for Hidden 1 9)) (is_first refl) refl refl refl refl refl

falls_own_buffer : AccountsExactly own_buffer → ⊥
unfolding reflect polynomial bit_step bit_steps byte_step register final_xor same greatest most_matched searching store finish judge step finalized wrote bad_decoder wrong_buffer pushed push_record finalize_record has_start cause_of next_behind next_loss loss_behind_by
falls_own_buffer = accounts_fall own_buffer (start_seq ++ 0x00 ∷ []) 1 [] 0 (lost_is (lost_for Unfinished 1 9)) (lost_is (lost_for NoRoom 1 9)) (is_first refl) refl refl refl refl refl

-- ---- the buffer

falls_cleared : LeavesPushes buffer_cleared → ⊥
unfolding reflect polynomial bit_step bit_steps byte_step register final_xor same greatest most_matched searching store finish judge step finalized wrote bad_decoder wrong_buffer pushed push_record finalize_record has_start cause_of next_behind next_loss loss_behind_by behind act
falls_cleared = pushes_fall buffer_cleared [] 1 (0x07 ∷ []) 0 (is_first refl) refl refl refl

falls_kept_buffer : LeavesPushes buffer_kept → ⊥
unfolding reflect polynomial bit_step bit_steps byte_step register final_xor same greatest most_matched searching store finish judge step finalized wrote bad_decoder wrong_buffer pushed push_record finalize_record has_start cause_of next_behind next_loss loss_behind_by behind act
falls_kept_buffer = pushes_fall buffer_kept (start_seq ++ 0x12 ∷ []) 1 (0x00 ∷ []) 0 (is_first refl) refl refl refl

falls_reads_on : LeavesPushes reads_to_the_end → ⊥
unfolding reflect polynomial bit_step bit_steps byte_step register final_xor same greatest most_matched searching store finish judge step finalized wrote bad_decoder wrong_buffer pushed push_record finalize_record has_start cause_of next_behind next_loss loss_behind_by behind act
falls_reads_on = pushes_fall reads_to_the_end (0x00 ∷ start_seq ++ 0x12 ∷ []) 1 (0x00 ∷ []) 0 (is_first refl) refl refl refl

-- ---- what is refused

long_lent : (n : ℕ) → limit < n → limit < length (replicate {A = ℕ} n 0)
long_lent n h = let e : length (replicate {A = ℕ} n 0) ≡ n = length-replicate {A = ℕ} n 0 in omega arith

no_third_way : KnownWay 3 → ⊥
no_third_way (is_first e) = omega arith
no_third_way (is_second e) = omega arith

five_first : (m : List ℕ) → limit < length m → capacity_before_way [] 3 m 0 ≡ loss_after (loss_refused 5) m
five_first m lt = rw (lt-ltb limit (length m) lt)

falls_capacity_first : RefusesWayFirst capacity_before_way → ⊥
falls_capacity_first good = by (limit + 1) refl
  where
    by : (n : ℕ) → n ≡ limit + 1 → ⊥
    by n h =
        let z : ◌≡◌ {A = ℕ} 1000005 1000004 = ap (λ (a : LossAfter). said_as_number a.said) (sym (five_first (replicate n 0) (long_lent n (omega arith))) ∙ good [] 3 (replicate n 0) 0 no_third_way) in
        omega (arith, z)

falls_any_way : RefusesWayFirst any_way_is_taken → ⊥
unfolding loss_behind_by finalize_record bad_decoder cause_of has_start
falls_any_way good = let z : ◌≡◌ {A = ℕ} 106 1000004 = ap (λ (a : LossAfter). said_as_number a.said) (good [] 3 [] 0 no_third_way) in omega (arith, z)

-- no walk is refused
abbrev is_numbered : LossSaid → ℕ
is_numbered (lost_is l) = 0
is_numbered none_lost = 0
is_numbered (loss_refused n) = 1

told_or_none : (t : Bool) (l : Loss) (n : ℕ) → cond t (lost_is l) none_lost ≡ loss_refused n → ⊥
told_or_none true l n e = let z : ◌≡◌ {A = ℕ} 0 1 = ap is_numbered e in omega (arith, z)
told_or_none false l n e = let z : ◌≡◌ {A = ℕ} 0 1 = ap is_numbered e in omega (arith, z)

empty_walks : (m : List ℕ) → (loss_behind_by our_loss_rules (new_record (in_way 1 (length m))) m 0 [] []).said ≡ loss_refused 5 → ⊥
unfolding loss_behind_by
empty_walks m e = told_or_none (is_refusal (finalize_record (new_record (in_way 1 (length m)))).answer) _ 5 e

falls_any_lent : RefusesTooLarge any_length_lent → ⊥
falls_any_lent good = by (limit + 1) refl
  where
    by : (n : ℕ) → n ≡ limit + 1 → ⊥
    by n h = empty_walks (replicate n 0) (ap (λ (a : LossAfter). a.said) (good [] 1 (replicate n 0) 0 (is_first refl) (long_lent n (omega arith))))

one_more_walks : (m : List ℕ) → length m ≡ limit + 1 → lent_one_more [] 1 m 0 ≡ loss_behind_by our_loss_rules (new_record (in_way 1 (length m))) m 0 [] []
one_more_walks m h = rw (le-ltb (limit + 1) (length m) (omega arith))

falls_one_more_lent : RefusesTooLarge lent_one_more → ⊥
falls_one_more_lent good = by (limit + 1) refl
  where
    by : (n : ℕ) → n ≡ limit + 1 → ⊥
    by n h =
        let m : List ℕ = replicate n 0 in
        empty_walks m (ap (λ (a : LossAfter). a.said) (sym (one_more_walks m (length-replicate {A = ℕ} n 0 ∙ h)) ∙ good [] 1 m 0 (is_first refl) (long_lent n (omega arith))))

-- ---- watchers

ours_watch : (bytes : List ℕ) (n : ℕ) (w : Watch) (m : List ℕ) → watches_by our_watch_rules n w m bytes ≡ watches_from n w m bytes
unfolding watches_by watches_from
ours_watch [] n w m = refl
ours_watch (b ∷ bytes) n w m =
    let a : After = push_record w.decoder m b in
    ap (λ (x : WatchAfter). cond (says_nothing a.answer) x (watch_after (sight_at w a.answer) (watch_behind w a) (suc n) a.memory)) (ours_watch bytes (suc n) (moved_on w a.decoder b) a.memory)

ours_slices : (w : Watch) (m bytes : List ℕ) → watch_slice_by our_watch_rules w m bytes ≡ watch_slice w m bytes
unfolding watch_slice
ours_slices w m bytes =
    ap (λ (x : WatchAfter). cond (bad_watch w (length bytes) || bad_decoder w.decoder) (watch_after (watch_refused 4) w 0 m) (cond (wrong_buffer w.decoder.capacity (length m)) (watch_after (watch_refused 5) w 0 m) x)) (ours_watch bytes 0 w m)

-- the first loss that a watcher tells, within so many slices and frames
abbrev heard_by : LossSaid → LossSaid → WatchSaid → LossSaid
heard_by quiet kept quietly = quiet
heard_by quiet kept (kept_over first end) = kept
heard_by quiet kept (lost_over l) = lost_is l
heard_by quiet kept (watch_refused n) = loss_refused n

unfoldable first_heard : (W : Watcher) → ℕ → W.State → List ℕ → List (List ℕ) → LossSaid
first_heard W zero w m chunks = loss_refused 0
first_heard W (suc k) w m [] = W.end w
first_heard W (suc k) w m (c ∷ more) =
    let a : SliceSeen W.State = W.slice w m c in
    heard_by (first_heard W k a.state a.memory more) (first_heard W k a.state a.memory (drop a.taken c ∷ more)) a.said

abbrev first_among : List Loss → LossSaid
first_among [] = none_lost
first_among (l ∷ more) = lost_is l

last_heard : (s : LossSaid) → is_numbered s ≡ 0 → first_among (losses_among [] s) ≡ s
unfolding losses_among
last_heard (lost_is l) e = refl
last_heard none_lost e = refl
last_heard (loss_refused n) e = absurd (omega (arith, e))

heard_first : (W : Watcher) (k : ℕ) {way : ℕ} {m x : List ℕ} {w : W.State} {chunks : List (List ℕ)} {seen : List WatchSaid} {final : LossSaid} → Watches W way m w x chunks seen final
    → is_numbered (first_heard W k w (buffer_behind way m x) chunks) ≡ 0 → first_among (losses_among seen final) ≡ first_heard W k w (buffer_behind way m x) chunks
unfolding first_heard losses_among
heard_first W zero o e = absurd (omega (arith, e))
heard_first W (suc k) (watches_over {final = final} f) e = last_heard final (ap is_numbered (sym f) ∙ e) ∙ sym f
heard_first W (suc k) (watches_quiet {c = c} {more = more} f on) e =
    let next : SliceSeen W.State → LossSaid = λ a. heard_by (first_heard W k a.state a.memory more) (first_heard W k a.state a.memory (drop a.taken c ∷ more)) a.said in
    heard_first W k on (sym (ap (λ (a : SliceSeen W.State). is_numbered (next a)) f) ∙ e) ∙ sym (ap next f)
heard_first W (suc k) (watches_kept {c = c} {more = more} lo hi f on) e =
    let next : SliceSeen W.State → LossSaid = λ a. heard_by (first_heard W k a.state a.memory more) (first_heard W k a.state a.memory (drop a.taken c ∷ more)) a.said in
    heard_first W k on (sym (ap (λ (a : SliceSeen W.State). is_numbered (next a)) f) ∙ e) ∙ sym (ap next f)
heard_first W (suc k) (watches_lost {c = c} {more = more} lo hi at f on) e =
    let next : SliceSeen W.State → LossSaid = λ a. heard_by (first_heard W k a.state a.memory more) (first_heard W k a.state a.memory (drop a.taken c ∷ more)) a.said in
    sym (ap next f)

-- behind each slice the buffer is what the bytes that it took leave
lent_left : (W : Watcher) {way : ℕ} {m x c : List ℕ} {w : W.State} {more : List (List ℕ)} {seen : List WatchSaid} {final : LossSaid} → Watches W way m w x (c ∷ more) seen final
    → let a : SliceSeen W.State = W.slice w (buffer_behind way m x) c in a.memory ≡ buffer_behind way m (x ++ take a.taken c)
lent_left W {way} {m} {x} {c} (watches_quiet f on) =
    ap (λ (a : SliceSeen W.State). a.memory) f ∙ ap (λ (l : List ℕ). buffer_behind way m (x ++ l)) (sym (take-length c)) ∙ sym (ap (λ (a : SliceSeen W.State). buffer_behind way m (x ++ take a.taken c)) f)
lent_left W {way} {m} {x} {c} (watches_kept lo hi f on) = ap (λ (a : SliceSeen W.State). a.memory) f ∙ sym (ap (λ (a : SliceSeen W.State). buffer_behind way m (x ++ take a.taken c)) f)
lent_left W {way} {m} {x} {c} (watches_lost lo hi at f on) = ap (λ (a : SliceSeen W.State). a.memory) f ∙ sym (ap (λ (a : SliceSeen W.State). buffer_behind way m (x ++ take a.taken c)) f)

buffer_first : (way : ℕ) (m : List ℕ) → buffer_behind way m [] ≡ m
unfolding behind
buffer_first way m = refl

called_first : {recording m m' : List ℕ} {way from : ℕ} {losses : List Loss} → Calls next_loss recording way from m losses m' → first_among losses ≡ (next_loss recording way m from).said
called_first (calls_over e) = sym (ap (λ (a : LossAfter). a.said) e)
called_first (calls_again e more) = sym (ap (λ (a : LossAfter). a.said) e)

watches_fall : (W : Watcher) (way : ℕ) (m : List ℕ) (chunks : List (List ℕ)) (k : ℕ) (theirs our : LossSaid) → KnownWay way → all_under (joined chunks) ≡ true → leb (length (joined chunks)) (2 ^ 64 - 2) ≡ true → leb (length m) limit ≡ true
    → first_heard W k (W.new (length m) way) m chunks ≡ theirs → is_numbered theirs ≡ 0 → (next_loss (joined chunks) way m 0).said ≡ our → eqb (said_as_number theirs) (said_as_number our) ≡ false → WatchesAsCalled W → ⊥
watches_fall W way m chunks k theirs our known fine short le e some f n good =
    let t = good (joined chunks) way m chunks (all_under_lem (joined chunks) fine) (leb-true _ _ short) known (leb-true (length m) limit le) refl in
    let e' : first_heard W k (W.new (length m) way) (buffer_behind way m []) chunks ≡ theirs = ap (λ (b : List ℕ). first_heard W k (W.new (length m) way) b chunks) (buffer_first way m) ∙ e in
    eqb-false (said_as_number theirs) (said_as_number our) n (ap said_as_number (sym e' ∙ sym (heard_first W k t.watches (ap is_numbered e' ∙ some)) ∙ called_first t.as_called ∙ f))

falls_look_kept : WatchesAsCalled look_not_cleared → ⊥
unfolding reflect polynomial bit_step bit_steps byte_step register final_xor same greatest most_matched searching store finish judge step finalized wrote bad_decoder wrong_buffer pushed push_record finalize_record has_start cause_of next_behind next_loss loss_behind_by joined first_heard bad_watch watches_by watch_end
falls_look_kept = watches_fall look_not_cleared 1 (replicate 4 0) ((start_seq ++ end_saying 0x00 0xc6 0xe5) ∷ (0x00 ∷ []) ∷ []) 4 (lost_is (lost_for Unfinished 17 17)) (lost_is (lost_for Noise 17 17)) (is_first refl) refl refl refl refl refl refl refl

falls_from_the_slice : WatchesAsCalled places_from_the_slice → ⊥
unfolding reflect polynomial bit_step bit_steps byte_step register final_xor same greatest most_matched searching store finish judge step finalized wrote bad_decoder wrong_buffer pushed push_record finalize_record has_start cause_of next_behind next_loss loss_behind_by joined first_heard bad_watch watches_by watch_end
falls_from_the_slice = watches_fall places_from_the_slice 1 [] ((0x00 ∷ []) ∷ (0x00 ∷ []) ∷ []) 3 (lost_is (lost_for Noise 1 1)) (lost_is (lost_for Noise 1 2)) (is_first refl) refl refl refl refl refl refl refl

falls_cut_start : WatchesAsCalled cut_start_not_seen → ⊥
unfolding reflect polynomial bit_step bit_steps byte_step register final_xor same greatest most_matched searching store finish judge step finalized wrote bad_decoder wrong_buffer pushed push_record finalize_record has_start cause_of next_behind next_loss loss_behind_by joined first_heard bad_watch watches_by watch_end
falls_cut_start = watches_fall cut_start_not_seen 1 [] ((0x1b ∷ 0x1b ∷ 0x1b ∷ 0x1b ∷ 0x1b ∷ 0x01 ∷ []) ∷ (0x01 ∷ 0x01 ∷ 0x01 ∷ []) ∷ []) 3 (lost_is (lost_for Noise 1 9)) (lost_is (lost_for Hidden 1 9)) (is_first refl) refl refl refl refl refl refl refl

falls_rest_taken : WatchesAsCalled rest_of_the_slice_taken → ⊥
unfolding reflect polynomial bit_step bit_steps byte_step register final_xor same greatest most_matched searching store finish judge step finalized wrote bad_decoder wrong_buffer pushed push_record finalize_record has_start cause_of next_behind next_loss loss_behind_by joined first_heard bad_watch watches_by watch_end
falls_rest_taken = watches_fall rest_of_the_slice_taken 1 (replicate 4 0) ((start_seq ++ end_saying 0x00 0xc6 0xe5 ++ 0x00 ∷ []) ∷ []) 3 none_lost (lost_is (lost_for Noise 17 17)) (is_first refl) refl refl refl refl refl refl refl

falls_forgets_end : WatchesAsCalled watcher_forgets_the_end → ⊥
unfolding reflect polynomial bit_step bit_steps byte_step register final_xor same greatest most_matched searching store finish judge step finalized wrote bad_decoder wrong_buffer pushed push_record finalize_record has_start cause_of next_behind next_loss loss_behind_by joined first_heard bad_watch watches_by watch_end
falls_forgets_end = watches_fall watcher_forgets_the_end 1 [] ((0x00 ∷ []) ∷ []) 2 none_lost (lost_is (lost_for Noise 1 1)) (is_first refl) refl refl refl refl refl refl refl

falls_payload_wiped : WatchesAsCalled payload_wiped → ⊥
unfolding reflect polynomial bit_step bit_steps byte_step register final_xor same greatest most_matched searching store finish judge step finalized wrote bad_decoder wrong_buffer pushed push_record finalize_record has_start cause_of next_behind next_loss loss_behind_by joined first_heard bad_watch watches_by watch_end behind act watches_from watch_slice
falls_payload_wiped good =
    let c : List ℕ = start_seq ++ end_saying 0x00 0xc6 0xe5 in
    let t = good c 1 (replicate 4 0) (c ∷ []) (all_under_lem c refl) (leb-true _ _ refl) (is_first refl) (leb-true 4 limit refl) refl in
    let e = lent_left payload_wiped t.watches in
    let z : ◌≡◌ {A = ℕ} 0 0x1a = ap (λ (l : List ℕ). get_or l 0 0) e in
    omega (arith, z)

falls_watcher_way : RefusesAtSlices watcher_of_any_way → ⊥
unfolding watch_slice bad_watch bad_decoder wrong_buffer watches_from
falls_watcher_way good =
    let e = good.way_first 0 3 [] [] (λ k. elim k [ is_first f ↦ (let z : ◌≡◌ {A = ℕ} 3 1 = f in omega arith) | is_second f ↦ (let z : ◌≡◌ {A = ℕ} 3 2 = f in omega arith) ]) in
    let z : ◌≡◌ {A = ℕ} 0 1 = ap (λ (a : SliceSeen Watch). said_number a.said) e in
    omega (arith, z)
  where
    said_number : WatchSaid → ℕ
    said_number quietly = 0
    said_number (kept_over first last) = 2
    said_number (lost_over l) = 3
    said_number (watch_refused n) = 1

pub fall_tools : FallTools
fall_tools =
    record {
      ours = ours_loses;
      our_parts = (refl, refl, refl, refl, refl);
      our_judging = judges_ours;
      our_buffer = leaves_ours;
      our_slices = ours_slices;
      new_start_hidden = falls_new_start_hidden;
      second_way_hidden = falls_second_way_hidden;
      frames_hidden = falls_frames_hidden;
      cut_noise = falls_cut_noise;
      unfinished_cut = falls_unfinished_cut;
      unfinished_noise = falls_unfinished_noise;
      room_unfinished = falls_room_unfinished;
      always_noise_claim = falls_always_noise;
      new_state = falls_new_state;
      first_cause = falls_first_cause;
      always_crc = falls_always_crc;
      over_three_claim = falls_over_three;
      pads_of_piece = falls_pads_of_piece;
      aligned_payload = falls_aligned_payload;
      ninth_byte = falls_ninth_byte;
      with_new_start = falls_with_new_start;
      from_zero = falls_from_zero;
      not_passed = falls_not_passed;
      from_the_call = falls_from_the_call;
      added_twice = falls_added_twice;
      less_eight_claim = falls_less_eight;
      without_four = falls_without_four;
      merged = falls_merged;
      byte_by_byte = falls_byte_by_byte;
      end_forgotten_claim = falls_end_forgotten;
      empty_piece = falls_empty_piece;
      kept_lost = falls_kept_lost;
      room_not_told_claim = falls_room_not_told;
      always_whole_claim = falls_always_whole;
      refuses_all_claim = falls_refuses_all;
      past_end = falls_past_end;
      skips = falls_skips;
      from_first = falls_from_first;
      first_way_claim = falls_first_way;
      second_way_claim = falls_second_way;
      own_buffer_claim = falls_own_buffer;
      capacity_first = falls_capacity_first;
      any_way = falls_any_way;
      any_lent = falls_any_lent;
      one_more_lent_claim = falls_one_more_lent;
      cleared = falls_cleared;
      kept_buffer = falls_kept_buffer;
      reads_on = falls_reads_on;
      look_kept = falls_look_kept;
      from_the_slice = falls_from_the_slice;
      cut_start = falls_cut_start;
      rest_taken = falls_rest_taken;
      forgets_end = falls_forgets_end;
      payload_wiped_claim = falls_payload_wiped;
      watcher_any_way = falls_watcher_way;
    }
