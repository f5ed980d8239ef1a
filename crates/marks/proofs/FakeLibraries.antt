-- Each fake of a library falls: one small call, computed, is not what the claim says.
use mathlib.Core.Path.{◌≡◌, refl, sym, ap, ◌∙◌}
use mathlib.Core.List.{List, [], ◌∷◌}
use mathlib.Core.Option.{Option, some, none}
use Prim.Native.Nat.{ℕ, ◌<◌}
use native.Mathlib.Omega.{arith}
use lib.IntN.{ℤ, pos, negsuc}
use lib.ListN.{length, get_or, replicate, length-replicate}
use borrow.Author.Tests.{lt-ltb}
use Rattle.crc_x25.specs.Crc.{reflect, polynomial, bit_step, bit_steps, byte_step, register, final_xor, crc_of}
use Rattle.refusals.specs.declared.Span.{Span}
use Rattle.refusals.specs.Numbers.{limit}
use Rattle.refusals.specs.Read.{Read, got, refused, then, guard, need, many, byte_at, span_at}
use Rattle.frame.specs.Frame.{same, escaped, closed, frame_of}
use Rattle.encoder.specs.Encode.{EncodeAnswer, length_is, no_frame, AfterEncode, encode_to}
use Rattle.encoder.specs.Encoder.{NextAnswer, byte, finished, no_byte, fresh_encoder, step_from, bad_encoder, next_step}
use Rattle.decoder.specs.Push.{sized, searching, step, finalized}
use Rattle.decoder.specs.Record.{DecoderAnswer, nothing, payload, count, refusal, wrote, bad_decoder, wrong_buffer, has_payload, pushed, push_record, finalize_record, payload_record, ask_record}
use Rattle.decoder.specs.Run.{is_first, push, finalize, act}
use Rattle.decoder_slice.specs.Slice.{pushes_from, slice_record}
use Rattle.packed.specs.Layout.{low_first, number_at_claim, state_in, packed_bytes, packed_in, record_in}
use Rattle.packed.specs.Packed.{pack_into, unpack_of, push_packed, slice_packed, finalize_packed}
use Rattle.tlf.specs.Lengths.{tlf_at, length_from, less_own, list_of_at}
use Rattle.numbers.specs.Numbers.{number, bytes_at_claim, raw_from, raw_at, unsigned_at, signed_of, signed_at, bool_from, bool_at}
use Rattle.octet_string.specs.Strings.{octets_at, span_within, part_of}
use Rattle.octet_string.specs.Optional.{absent_at, optional}
use Rattle.value.specs.Values.{time_at, status_of, status_at, signed_value, unsigned_value, list_type_at, value_of_claim, value_at}
use Rattle.common.specs.Fields.{close_at, entry_at}
use Rattle.message.specs.Messages.{list_body, content_at, body_at, start_at}
use Rattle.trailer.specs.Trailer.{message_end_at, crc_from, trailer_at}
use Rattle.whole.specs.Whole.{inside_at, whole_at, flat, WholeSaid, whole_is, broken, refused_alone, AfterWhole, fill_to, read_to}
use Rattle.one_call.specs.Bench.{close_input}
use Rattle.streaming.specs.Next.{MessageEvent, start_event, entry_event, end_event, Said, event, no_event, failed, alone, onward, begin_at, entry_next, step_at, next_at}
use Rattle.byte_count.specs.Count.{first_that, unsigned_count}
use Rattle.tlf.specs.Written.{ty_number, length_bytes, typed}
use Rattle.writer.specs.Fields.{length_count, write_tlf, in_bytes, write_unsigned, write_octets, write_optional}
use Rattle.writer.specs.Messages.{list_start_bytes, list_end_bytes, write_body, write_start, write_trailer}
use Rattle.writer.specs.Calls.{write_refusal, WriteOutcome, to, not_written, AfterWrite, put_or, all_within, start_to, end_to}
use Rattle.writer.specs.declared.ListState.TheVariants.{Ended}
use Rattle.writer.specs.declared.ListWriter.{ListWriter}
use Rattle.words.specs.Words.{with_zeros, event_words}
use Rattle.words.specs.Back.{word_at, event_back, event_of}
use Rattle.words.proofs.Laws.{event_words_length}
use Rattle.sartrogheo.specs.Calls.{Reply, sgh_decoder_new, sgh_push_byte, sgh_push_slice, sgh_finalize}
use Rattle.sartrogheo.specs.Streams.{encoder_in, sgh_encoder_new, sgh_encoder_next, sgh_next_event}
use Rattle.sartrogheo.specs.Writes.{writer_in, sgh_write_event}
use Rattle.sartrogheo.specs.Wholes.{message_words, sgh_read_message}
use Rattle.sartrogheo.specs.Indexes.{sgh_build_index, sgh_look_up}
use Rattle.sartrogheo.specs.Walks.{sgh_read_item, sgh_walk}
use Rattle.walk.specs.Walk.{Item, end_mark, leaf, list_item, is_end_mark, item_at, take_item, walk_step, pass, WalkSaid, walk_is, walk_broken, walk_refused, walk_at}
use Rattle.sartrogheo.specs.Losses.{cause_bits, watch_in, sgh_next_loss}
use Rattle.losses.specs.Loss.{has_start, cause_of, LossSaid, lost_is, none_lost, loss_refused, LossAfter, next_behind, next_loss}
use Rattle.losses.specs.Watch.{watch_new, watches_from, bad_watch, watch_slice}
use Rattle.name_order.specs.Order.{lower}
use Rattle.index.specs.Index.{before, IndexSaid, index_is, index_broken, index_refused, AfterIndex, index_of, index_to, row_within, every, rising, is_table, first_with, has_name, FoundSaid, found_row, found_none, look_refused, look_up_in}
use Rattle.marks.specs.Encoders.{calls_of}
use Rattle.marks.specs.Events.{Numbers, says_at}
use Rattle.marks.specs.Chunks.{one_op, slice, HeardUse, heard_use, uses_say, uses_leave}
use Rattle.marks.specs.Library.{HearsNew, LentByCaller, CallerBegins, HearsDecoder, HearsEncode, HearsEncoder, HearsReader, HearsWriter, lent_at, HearsWhole, HearsIndex, item_reader_by, HearsWalk, SliceHeard, HearsLosses}
use Rattle.marks.specs.FakeLibraries.{leaves_numbers, denies_new, keeps_values, hands_buffer, pays_always, leaves_last, forgets_slice, encodes_nothing, forgets_count, loses_place, loses_sign, loses_kind, forgets_place, mistakes_words, places_at_zero, next_untold, end_left, index_place_lost, index_clears, rows_left, none_is_zeros, name_left, row_cleared, walk_place_lost, walk_bytes_left, item_type_lost, item_of_any_length, causes_counted, losses_from_zero, losses_swapped, forgets_watch, FallLibraries}
use Rattle.marks.proofs.Narrow.{zeros_bytes}

abbrev blank : LentByCaller
blank = record { bytes = replicate 28 0; values = λ i. replicate 4 0 }

caller_begins : CallerBegins (sized 8) blank (replicate 8 0)
caller_begins = record { way = is_first refl; capacity = omega arith; bytes' = refl; values' = λ i. refl; buffer = zeros_bytes 8 }

denies_new_claim : HearsNew denies_new → ⊥
denies_new_claim h = let n : ◌≡◌ {A = ℕ} 4 0 = h.made (replicate 28 0) 8 1 refl (is_first refl) (omega arith) in omega (arith, n)

-- the first value that an answer has
value_of' : DecoderAnswer → ℕ
value_of' nothing = 0
value_of' (payload bytes) = 0
value_of' (count n) = n
value_of' (refusal n values) = get_or values 0 0

-- what the use with this number says
nth_use : ℕ → List HeardUse → HeardUse
nth_use n l = get_or l n (heard_use nothing 0)

keeps_values_claim : HearsDecoder keeps_values → ⊥
unfolding uses_say act sgh_decoder_new sgh_push_byte sgh_finalize unpack_of pack_into bad_decoder packed_in packed_bytes low_first record_in number_at_claim state_in same push_packed finalize_packed push_record finalize_record finalized pushed wrong_buffer wrote step searching value_of' nth_use
keeps_values_claim h = let n : ◌≡◌ {A = ℕ} 0 1 = ap (λ (l : List HeardUse). value_of' (nth_use 1 l).answer) (h (sized 8) blank (replicate 8 0) (one_op (push 0) ∷ one_op finalize ∷ []) caller_begins ((omega arith, tt), (tt, tt))).0 in omega (arith, n)

hands_buffer_claim : HearsDecoder hands_buffer → ⊥
unfolding uses_leave payload_record has_payload bad_decoder wrong_buffer
hands_buffer_claim h = let n : ◌≡◌ {A = ℕ} 8 0 = ap length (h (sized 8) blank (replicate 8 0) [] caller_begins tt).2.bytes' in omega (arith, n)

-- of a new decoder it is 16
pays_always_claim : HearsDecoder pays_always → ⊥
unfolding uses_leave ask_record has_payload bad_decoder wrong_buffer
pays_always_claim h = let n : ◌≡◌ {A = ℕ} 0 16 = (h (sized 8) blank (replicate 8 0) [] caller_begins tt).2.number' in omega (arith, n)

leaves_last_claim : HearsDecoder leaves_last → ⊥
unfolding uses_say sgh_decoder_new sgh_push_slice unpack_of pack_into bad_decoder packed_in packed_bytes low_first record_in number_at_claim state_in same slice_packed slice_record pushes_from push_record pushed wrong_buffer wrote step searching nth_use
leaves_last_claim h = let n : ◌≡◌ {A = ℕ} 0 1 = ap (λ (l : List HeardUse). (nth_use 0 l).taken) (h (sized 8) blank (replicate 8 0) (slice (0 ∷ []) ∷ []) caller_begins (zeros_bytes 1, tt)).0 in omega (arith, n)

-- 00 by a slice, and finalize: one byte is lost
slice_forgets : HearsDecoder forgets_slice → ⊥
unfolding uses_say act sgh_decoder_new sgh_push_slice sgh_finalize unpack_of pack_into bad_decoder packed_in packed_bytes low_first record_in number_at_claim state_in same slice_packed finalize_packed slice_record pushes_from push_record finalize_record finalized pushed wrong_buffer wrote step searching value_of' nth_use
slice_forgets h = let n : ◌≡◌ {A = ℕ} 0 1 = ap (λ (l : List HeardUse). value_of' (nth_use 1 l).answer) (h (sized 8) blank (replicate 8 0) (slice (0 ∷ []) ∷ one_op finalize ∷ []) caller_begins (zeros_bytes 1, (tt, tt))).0 in omega (arith, n)

length_of : EncodeAnswer → ℕ
length_of (length_is n) = n
length_of (no_frame n) = 0

encodes_nothing_claim : HearsEncode encodes_nothing → ⊥
unfolding length_of encode_to frame_of closed escaped
encodes_nothing_claim h = let n : ◌≡◌ {A = ℕ} 0 16 = ap (λ (a : AfterEncode). length_of a.answer) (h [] (replicate 16 0)).0 in omega (arith, n)

byte_of : NextAnswer → ℕ
byte_of (byte n) = n
byte_of finished = 0
byte_of (no_byte n) = 0

forgets_count_claim : HearsEncoder forgets_count → ⊥
unfolding byte_of calls_of sgh_encoder_new sgh_encoder_next encoder_in fresh_encoder next_step bad_encoder step_from reflect polynomial bit_step bit_steps byte_step register
forgets_count_claim h = let n : ◌≡◌ {A = ℕ} 0x1b 0x01 = ap (λ (l : List NextAnswer). byte_of (get_or l 4 finished)) (h [] (λ i. 0) 5 (zeros_bytes 0)) in omega (arith, n)

place_of : Said → ℕ
place_of (failed f) = f.place
place_of (event e) = 0
place_of no_event = 0
place_of (alone n) = 0

-- 76 10: the fault stands at 1
loses_place_claim : HearsReader loses_place → ⊥
unfolding place_of says_at sgh_next_event with_zeros same then guard need byte_at span_at tlf_at length_from less_own list_of_at octets_at start_at onward begin_at step_at next_at
loses_place_claim h = let n : ◌≡◌ {A = ℕ} 0 1 = ap place_of (h (0x76 ∷ 0x10 ∷ []) (record { place = 0; start = 0; pending = 0 }) 0) in omega (arith, n)

size_of : Option ℤ → ℕ
size_of (some (pos n)) = n
size_of (some (negsuc n)) = n
size_of none = 0

scaler_of : Said → ℕ
scaler_of (event (entry_event e)) = size_of e.scaler
scaler_of (event (start_event m)) = 0
scaler_of (event (end_event e)) = 0
scaler_of no_event = 0
scaler_of (failed f) = 0
scaler_of (alone n) = 0

-- an entry with the scaler -1
abbrev entry_bytes : List ℕ
entry_bytes = 0x77 ∷ 0x02 ∷ 0x05 ∷ 0x01 ∷ 0x01 ∷ 0x01 ∷ 0x52 ∷ 0xff ∷ 0x62 ∷ 0x01 ∷ 0x01 ∷ []

abbrev at_entry : Numbers
at_entry = record { place = 0; start = 0; pending = 3 }

loses_sign_claim : HearsReader loses_sign → ⊥
unfolding size_of scaler_of says_at sgh_next_event with_zeros same then guard need byte_at span_at tlf_at length_from less_own list_of_at number bytes_at_claim raw_from raw_at unsigned_at signed_of signed_at bool_from bool_at octets_at absent_at optional time_at status_of status_at signed_value unsigned_value list_type_at value_of_claim value_at entry_at onward entry_next step_at next_at
loses_sign_claim h = let n : ◌≡◌ {A = ℕ} 255 0 = ap scaler_of (h entry_bytes at_entry 0) in omega (arith, n)

entry_count : Said → ℕ
entry_count (event (entry_event e)) = 1
entry_count (event (start_event m)) = 0
entry_count (event (end_event e)) = 0
entry_count no_event = 0
entry_count (failed f) = 0
entry_count (alone n) = 0

loses_kind_claim : HearsReader loses_kind → ⊥
unfolding entry_count says_at sgh_next_event with_zeros same then guard need byte_at span_at tlf_at length_from less_own list_of_at number bytes_at_claim raw_from raw_at unsigned_at signed_of signed_at bool_from bool_at octets_at absent_at optional time_at status_of status_at signed_value unsigned_value list_type_at value_of_claim value_at entry_at onward entry_next step_at next_at
loses_kind_claim h = let n : ◌≡◌ {A = ℕ} 0 1 = ap entry_count (h entry_bytes at_entry 0) in omega (arith, n)

-- the list's start of no strings, at a new writer
abbrev bare_start : MessageEvent Span
bare_start =
    start_event (record { transaction_id = record { start = 0; len = 0 }; group_no = 0; abort_on_error = 0; message_body = list_body (record { client_id = none; server_id = record { start = 0; len = 0 }; list_name = none; act_sensor_time = none; num_vals = 0 }) })

place_heard : AfterWrite ListWriter → ℕ
place_heard a = go a.answer
  where
    go : WriteOutcome ListWriter → ℕ
    go (to w) = w.place
    go (not_written n) = 0

forgets_place_claim : HearsWriter forgets_place → ⊥
unfolding place_heard sgh_write_event event_of event_back with_zeros same writer_in start_to write_refusal put_or write_start write_body list_start_bytes write_tlf write_unsigned write_octets write_optional length_count in_bytes all_within span_within part_of first_that unsigned_count length_bytes typed
forgets_place_claim h =
    let n : ◌≡◌ {A = ℕ} 0 16 = ap place_heard (h.writes (replicate 32 0) [] (record { place = 0; state = Ended }) bare_start tt (record { group_no = omega arith; abort_on_error = omega arith; message_body = record { act_sensor_time = tt; num_vals = omega arith } })) in
    omega (arith, n)

-- a list's end, behind which the register is still there
leaves_numbers_claim : HearsWriter leaves_numbers → ⊥
unfolding sgh_write_event event_of event_back with_zeros same writer_in end_to write_refusal put_or list_end_bytes write_optional write_trailer write_tlf write_unsigned length_count in_bytes all_within first_that unsigned_count length_bytes typed register byte_step bit_steps bit_step reflect polynomial final_xor
leaves_numbers_claim h =
    let n : ◌≡◌ {A = ℕ} 5 0 = ap (λ (l : List ℕ). word_at l 3) (h.numbers (replicate 32 0) [] (event_words (event (end_event (record { list_signature = none; act_gateway_time = none })))) (0 ∷ 1 ∷ 0 ∷ 5 ∷ []) refl) in
    omega (arith, n)

-- no words at all
mistakes_words_claim : HearsWriter mistakes_words → ⊥
mistakes_words_claim h =
    let n : ◌≡◌ {A = ℕ} 17 4 = ap (λ (r : Reply). r.number) (h.no_event_claim [] [] [] [] (λ e t q. (let z : ◌≡◌ {A = ℕ} 0 24 = ap length q ∙ event_words_length (event e) in omega (arith, z)))) in
    omega (arith, n)

-- ---- whole messages

place_heard_in : WholeSaid → ℕ
place_heard_in (whole_is start end rows next) = next
place_heard_in (broken f) = f.place
place_heard_in (refused_alone n) = 0

-- 11 at place 1: no type has these bits
places_at_zero_claim : HearsWhole places_at_zero → ⊥
unfolding place_heard_in then guard need byte_at tlf_at length_from list_of_at start_at whole_at fill_to read_to with_zeros same message_words sgh_read_message
places_at_zero_claim h = let n : ◌≡◌ {A = ℕ} 0 1 = ap (λ (a : AfterWhole). place_heard_in a.answer) (h.reads (0x10 ∷ 0x10 ∷ []) 1 []) in omega (arith, n)

next_untold_claim : HearsWhole next_untold → ⊥
unfolding place_heard_in then guard need many byte_at span_at tlf_at length_from less_own list_of_at number bytes_at_claim raw_from raw_at unsigned_at octets_at absent_at optional close_at message_end_at content_at body_at start_at reflect polynomial bit_step bit_steps byte_step register final_xor crc_of crc_from trailer_at inside_at whole_at flat fill_to read_to with_zeros same message_words sgh_read_message
next_untold_claim h = let n : ◌≡◌ {A = ℕ} 0 18 = ap (λ (a : AfterWhole). place_heard_in a.answer) (h.reads close_input 0 []) in omega (arith, n)

end_left_claim : HearsWhole end_left → ⊥
unfolding then guard need byte_at tlf_at length_from list_of_at start_at whole_at fill_to read_to with_zeros same message_words sgh_read_message
end_left_claim h = let n : ◌≡◌ {A = ℕ} 1 0 = ap (λ (l : List ℕ). word_at l 47) (h.words [] 0 []) in omega (arith, n)

-- ---- an index

place_told : IndexSaid → ℕ
place_told (index_is rows next) = next
place_told (index_broken f) = f.place
place_told (index_refused n) = 0

index_place_lost_claim : HearsIndex index_place_lost → ⊥
unfolding place_told then guard need byte_at tlf_at length_from list_of_at start_at whole_at fill_to read_to index_of index_to with_zeros same sgh_build_index
index_place_lost_claim h = let n : ◌≡◌ {A = ℕ} 0 1 = ap (λ (a : AfterIndex). place_told a.answer) (h.builds (0x10 ∷ 0x10 ∷ []) 1 []) in omega (arith, n)

index_clears_claim : HearsIndex index_clears → ⊥
unfolding then guard need byte_at tlf_at length_from list_of_at start_at whole_at fill_to read_to index_of index_to with_zeros same sgh_build_index
index_clears_claim h = let n : ◌≡◌ {A = ℕ} 0 7 = ap (λ (a : AfterIndex). get_or a.table 0 0) (h.builds [] 0 (7 ∷ [])) in omega (arith, n)

rows_left_claim : HearsIndex rows_left → ⊥
unfolding then guard need byte_at tlf_at length_from list_of_at start_at whole_at fill_to read_to index_of index_to with_zeros same sgh_build_index
rows_left_claim h = let n : ◌≡◌ {A = ℕ} 1 0 = ap (λ (l : List ℕ). word_at l 0) (h.words [] 0 []) in omega (arith, n)

answer_told : FoundSaid → ℕ
answer_told (found_row r) = r.name.start
answer_told found_none = 100
answer_told (look_refused n) = n

none_is_zeros_claim : HearsIndex none_is_zeros → ⊥
unfolding answer_told same span_within part_of lower before row_within every rising is_table first_with has_name look_up_in flat sgh_look_up
none_is_zeros_claim h = let n : ◌≡◌ {A = ℕ} 0 100 = ap answer_told (h.finds (7 ∷ 7 ∷ 7 ∷ 7 ∷ []) [] [] []) in omega (arith, n)

-- the empty name, of a row of zeros
name_left_claim : HearsIndex name_left → ⊥
unfolding answer_told same span_within part_of lower before row_within every rising is_table first_with has_name look_up_in flat sgh_look_up
name_left_claim h = let n : ◌≡◌ {A = ℕ} 7 0 = ap answer_told (h.finds (7 ∷ 7 ∷ 7 ∷ 7 ∷ []) [] (0 ∷ 0 ∷ 0 ∷ 0 ∷ []) []) in omega (arith, n)

row_cleared_claim : HearsIndex row_cleared → ⊥
unfolding same span_within part_of lower before row_within every rising is_table first_with has_name look_up_in flat sgh_look_up
row_cleared_claim h = let n : ◌≡◌ {A = ℕ} 0 7 = ap (λ (r : Reply). word_at (lent_at r 0) 0) (h.leaves (7 ∷ 7 ∷ 7 ∷ 7 ∷ []) [] [] [] (λ e. omega (arith, e))) in omega (arith, n)

-- ---- any content

place_walked : WalkSaid → ℕ
place_walked (walk_is bytes leaves) = 0
place_walked (walk_broken f) = f.place
place_walked (walk_refused n) = 0

walk_place_lost_claim : HearsWalk walk_place_lost → ⊥
unfolding place_walked then guard need byte_at span_at tlf_at length_from less_own is_end_mark item_at take_item walk_step pass walk_at sgh_walk
walk_place_lost_claim h = let n : ◌≡◌ {A = ℕ} 0 1 = ap place_walked (h.walks (0x00 ∷ 0x10 ∷ []) 1) in omega (arith, n)

walk_bytes_left_claim : HearsWalk walk_bytes_left → ⊥
unfolding then guard need byte_at span_at tlf_at length_from less_own is_end_mark item_at take_item walk_step pass walk_at sgh_walk
walk_bytes_left_claim h = let n : ◌≡◌ {A = ℕ} 1 0 = ap (λ (r : Reply). word_at (lent_at r 0) 0) (h.words (0x10 ∷ []) 0) in omega (arith, n)

type_read : Read Item → ℕ
type_read (got end_mark n) = 100
type_read (got (leaf ty content) n) = ty_number ty
type_read (got (list_item k) n) = 101
type_read (refused f) = 102

item_type_lost_claim : HearsWalk item_type_lost → ⊥
unfolding type_read then guard need byte_at span_at tlf_at length_from less_own is_end_mark item_at sgh_read_item
item_type_lost_claim h = let n : ◌≡◌ {A = ℕ} 0 6 = ap type_read (h.items (0x62 ∷ 0x05 ∷ []) 0 (omega arith)) in omega (arith, n)

marked_item : (l : List ℕ) → item_at (0x00 ∷ l) 0 ≡ got end_mark 1
unfolding is_end_mark item_at
marked_item l = rw (lt-ltb 0 (length (0x00 ∷ l)) (omega arith))

mark_heard : (l : List ℕ) → item_reader_by item_of_any_length (0x00 ∷ l) 0 ≡ got end_mark 1
mark_heard l = rw (marked_item l)

long_item : (l : List ℕ) → limit < length (0x00 ∷ l) → HearsWalk item_of_any_length → ⊥
unfolding type_read
long_item l k h = let n : ◌≡◌ {A = ℕ} 100 102 = ap type_read (sym (mark_heard l) ∙ h.long (0x00 ∷ l) 0 k) in omega (arith, n)

item_of_any_length_claim : HearsWalk item_of_any_length → ⊥
item_of_any_length_claim h = by limit refl
  where
    by : (n : ℕ) → n ≡ limit → ⊥
    by n e = long_item (replicate n 0) (omega (arith, length-replicate {A = ℕ} n 0)) h

-- ---- lost bytes

first_lost : LossAfter → ℕ
first_lost a = at a.said
  where
    at : LossSaid → ℕ
    at (lost_is l) = l.first
    at none_lost = 100
    at (loss_refused n) = 101

causes_lost : LossAfter → ℕ
causes_lost a = of a.said
  where
    of : LossSaid → ℕ
    of (lost_is l) = cause_bits l.cause
    of none_lost = 100
    of (loss_refused n) = 101

-- a start behind a 1b, in the first way: hidden, whose bit is 4
causes_counted_claim : HearsLosses causes_counted → ⊥
unfolding causes_lost next_loss next_behind has_start same cause_of wrote bad_decoder pushed push_record wrong_buffer searching step finalize_record finalized sgh_next_loss
causes_counted_claim h = let n : ◌≡◌ {A = ℕ} 0 4 = ap causes_lost (h.next (0x1b ∷ 0x1b ∷ 0x1b ∷ 0x1b ∷ 0x1b ∷ 1 ∷ 1 ∷ 1 ∷ 1 ∷ []) 1 [] 0) in omega (arith, n)

losses_from_zero_claim : HearsLosses losses_from_zero → ⊥
unfolding first_lost next_loss next_behind has_start same cause_of wrote bad_decoder pushed push_record wrong_buffer searching step finalize_record finalized sgh_next_loss
losses_from_zero_claim h = let n : ◌≡◌ {A = ℕ} 0 1 = ap first_lost (h.next (0 ∷ []) 1 [] 0) in omega (arith, n)

losses_swapped_claim : HearsLosses losses_swapped → ⊥
unfolding first_lost next_loss next_behind has_start same cause_of wrote bad_decoder pushed push_record wrong_buffer searching step finalize_record finalized sgh_next_loss
losses_swapped_claim h = let n : ◌≡◌ {A = ℕ} 2 1 = ap first_lost (h.next (0 ∷ 0 ∷ []) 1 [] 0) in omega (arith, n)

-- the bytes of a new decoder without a buffer
abbrev no_room_row : List ℕ
no_room_row = 0 ∷ 0 ∷ 1 ∷ 0 ∷ 0xff ∷ 0xff ∷ replicate 22 0

new_watch : watch_in no_room_row (replicate 4 0) ≡ some (watch_new 0 1 0)
unfolding pack_into bad_decoder packed_in packed_bytes low_first unpack_of record_in number_at_claim state_in same watch_in
new_watch = refl

forgets_watch_claim : HearsLosses forgets_watch → ⊥
unfolding wrote bad_decoder pushed push_record wrong_buffer searching step bad_watch watches_from watch_slice
forgets_watch_claim h =
    let one : SliceHeard (forgets_watch.watches_slice no_room_row (replicate 4 0) [] (0 ∷ [])) no_room_row (watch_slice (watch_new 0 1 0) [] (0 ∷ [])) = h.slices (watch_new 0 1 0) no_room_row (replicate 4 0) [] (0 ∷ []) new_watch in
    let n : ◌≡◌ {A = ℕ} 0 1 = ap (λ (x : List (List ℕ)). get_or (get_or x 1 []) 0 0) one.leaves in
    omega (arith, n)

pub fall_libraries : FallLibraries
fall_libraries =
    record {
      denies_new_claim = denies_new_claim;
      keeps_values_claim = keeps_values_claim;
      hands_buffer_claim = hands_buffer_claim;
      pays_always_claim = pays_always_claim;
      leaves_last_claim = leaves_last_claim;
      slice_forgets = slice_forgets;
      encodes_nothing_claim = encodes_nothing_claim;
      forgets_count_claim = forgets_count_claim;
      loses_place_claim = loses_place_claim;
      loses_sign_claim = loses_sign_claim;
      loses_kind_claim = loses_kind_claim;
      forgets_place_claim = forgets_place_claim;
      leaves_numbers_claim = leaves_numbers_claim;
      mistakes_words_claim = mistakes_words_claim;
      places_at_zero_claim = places_at_zero_claim;
      next_untold_claim = next_untold_claim;
      end_left_claim = end_left_claim;
      index_place_lost_claim = index_place_lost_claim;
      index_clears_claim = index_clears_claim;
      rows_left_claim = rows_left_claim;
      none_is_zeros_claim = none_is_zeros_claim;
      name_left_claim = name_left_claim;
      row_cleared_claim = row_cleared_claim;
      walk_place_lost_claim = walk_place_lost_claim;
      walk_bytes_left_claim = walk_bytes_left_claim;
      item_type_lost_claim = item_type_lost_claim;
      item_of_any_length_claim = item_of_any_length_claim;
      causes_counted_claim = causes_counted_claim;
      losses_from_zero_claim = losses_from_zero_claim;
      losses_swapped_claim = losses_swapped_claim;
      forgets_watch_claim = forgets_watch_claim;
    }
