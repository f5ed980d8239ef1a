-- What the contracts rule out: each wrong reading of docs/WRONG-READINGS.md that is told here is an outcome that the definition does not allow, at a small input.
use mathlib.Core.Path.{◌≡◌, refl, ap, sym, ◌∙◌}
use mathlib.Core.List.{List, [], ◌∷◌, ◌++◌}
use mathlib.Core.Option.{Option, some, none}
use Prim.Native.Nat.{ℕ}
use native.Mathlib.Omega.{arith}
use lib.ListN.{replicate, get_or}
use Rattle.refusals.specs.Numbers.{bad_state_no}
use Rattle.refusals.specs.Read.{Read, got, refused, then, guard, byte_at}
use Rattle.refusals.specs.declared.Span.{Span}
use Rattle.crc_x25.specs.Crc.{reflect, polynomial, bit_step, bit_steps, byte_step, register, final_xor, crc_of}
use Rattle.crc_x25.proofs.Laws.{check_value}
use Rattle.frame.specs.Frame.{same, escaped, closed, frame_of}
use Rattle.encoder.specs.Encode.{encode_to}
use Rattle.encoder.specs.Encoder.{fresh_encoder, step_from, bad_encoder, next_step}
use Rattle.decoder.specs.Push.{store, finish, judge, searching, step, finalized, reset_count}
use Rattle.decoder.specs.Record.{wrote, bad_decoder, wrong_buffer, pushed, push_record, finalize_record, reset_record, has_payload, payload_record, ask_record}
use Rattle.decoder_slice.specs.Slice.{pushes_from, slice_record}
use Rattle.packed.specs.Layout.{low_first, number_at_claim, state_in, packed_bytes, packed_in, record_in}
use Rattle.packed.specs.Packed.{pack_into, unpack_of, push_packed, slice_packed, finalize_packed, reset_packed, payload_packed, ask_packed}
use Rattle.tlf.specs.Lengths.{tlf_at, list_of_at}
use Rattle.message.specs.Messages.{MessageStart, start_at}
use Rattle.streaming.specs.Next.{MessageEvent, start_event, event, ReaderAfter, onward, pending_of, begin_at, step_at, next_at}
use Rattle.words.specs.Words.{with_zeros}
use Rattle.words.specs.Back.{event_of}
use Rattle.words.proofs.Wrong.{never_zeros}
use Rattle.writer.specs.Calls.{AfterWrite}
use Rattle.writer.specs.declared.ListWriter.{ListWriter}
use Rattle.whole.specs.Whole.{whole_at, fill_to, read_to}
use Rattle.sartrogheo.specs.Calls.{Reply, reply, sgh_decoder_new, sgh_push_byte, sgh_push_slice, sgh_payload, sgh_finalize, sgh_reset, sgh_encode}
use Rattle.sartrogheo.specs.Streams.{encoder_in, sgh_encoder_new, sgh_encoder_next, reader_no, sgh_next_event}
use Rattle.sartrogheo.specs.Writes.{writer_in, event_or, write_no, writer_behind, sgh_write_event}
use Rattle.sartrogheo.specs.Wholes.{message_words, sgh_read_message}

-- 28 zeros, eight of them, and four values that are left from a call before
abbrev blank_bytes : List ℕ
blank_bytes = replicate 28 0

abbrev zeros8 : List ℕ
zeros8 = replicate 8 0

abbrev old_values : List ℕ
old_values = 9 ∷ 9 ∷ 9 ∷ 9 ∷ []

-- a new decoder of capacity 8; one behind 00 and seven bytes of a start; one before the last byte of B1's frame, with its buffer; one behind a payload of one byte, and one 1b further
abbrev made_bytes : List ℕ
made_bytes = 0 ∷ 0 ∷ 1 ∷ 0 ∷ 0xff ∷ 0xff ∷ replicate 18 0 ++ 8 ∷ 0 ∷ 0 ∷ 0 ∷ []

abbrev seven_matched : List ℕ
seven_matched = 0 ∷ 7 ∷ 1 ∷ 0 ∷ 0xff ∷ 0xff ∷ replicate 10 0 ++ 8 ∷ 0 ∷ 0 ∷ 0 ∷ 1 ∷ 0 ∷ 0 ∷ 0 ∷ 8 ∷ 0 ∷ 0 ∷ 0 ∷ []

abbrev almost_paid : List ℕ
almost_paid = 3 ∷ 3 ∷ 1 ∷ 0 ∷ 0x87 ∷ 0xec ∷ 0 ∷ 0 ∷ 7 ∷ 0 ∷ 0 ∷ 0 ∷ 4 ∷ 0 ∷ 0 ∷ 0 ∷ 19 ∷ replicate 7 0 ++ 8 ∷ 0 ∷ 0 ∷ 0 ∷ []

abbrev almost_buffer : List ℕ
almost_buffer = 0x12 ∷ 0x34 ∷ 0x56 ∷ 0x78 ∷ 0x1a ∷ 0x00 ∷ 0xb8 ∷ 0x00 ∷ []

abbrev paid_bytes : List ℕ
paid_bytes = 4 ∷ 0 ∷ 1 ∷ 0 ∷ 0xff ∷ 0xff ∷ 0 ∷ 0 ∷ 1 ∷ replicate 15 0 ++ 8 ∷ 0 ∷ 0 ∷ 0 ∷ []

abbrev one_further : List ℕ
one_further = 0 ∷ 1 ∷ 1 ∷ 0 ∷ 0xff ∷ 0xff ∷ replicate 10 0 ++ 1 ∷ replicate 7 0 ++ 8 ∷ 0 ∷ 0 ∷ 0 ∷ []

-- an Encoder that has given all of an empty payload's frame, and a reader at its beginning
abbrev all_given : List ℕ
all_given = 4 ∷ 11 ∷ 0 ∷ 0 ∷ []

abbrev new_reader : List ℕ
new_reader = 0 ∷ 0 ∷ 0 ∷ []

-- ---- a new decoder

zero_way_is_a_default : (l : List ℕ) → reply 0 (l ∷ []) ≡ sgh_decoder_new blank_bytes 8 0 → ⊥
unfolding sgh_decoder_new pack_into bad_decoder
zero_way_is_a_default l h = let n : ◌≡◌ {A = ℕ} 0 4 = ap (λ (a : Reply). a.number) h in omega (arith, n)

large_capacity_cut_down : (l : List ℕ) → reply 0 (l ∷ []) ≡ sgh_decoder_new blank_bytes 1048577 1 → ⊥
unfolding sgh_decoder_new pack_into bad_decoder
large_capacity_cut_down l h = let n : ◌≡◌ {A = ℕ} 0 5 = ap (λ (a : Reply). a.number) h in omega (arith, n)

-- ---- a push

payload_answers_zero : (l m v : List ℕ) → reply 0 (l ∷ m ∷ v ∷ []) ≡ sgh_push_byte almost_paid almost_buffer 0x7b old_values → ⊥
unfolding sgh_push_byte pack_into bad_decoder packed_in packed_bytes low_first unpack_of record_in number_at_claim state_in same push_packed push_record pushed wrong_buffer wrote step store judge finish reflect polynomial bit_step bit_steps byte_step register final_xor
payload_answers_zero l m v h = let n : ◌≡◌ {A = ℕ} 0 100 = ap (λ (a : Reply). a.number) h in omega (arith, n)

other_values_cleared : (l m v : List ℕ) → get_or v 1 0 ≡ 0 → reply 6 (l ∷ m ∷ v ∷ []) ≡ sgh_push_byte seven_matched zeros8 0x01 old_values → ⊥
unfolding sgh_push_byte pack_into bad_decoder packed_in packed_bytes low_first unpack_of record_in number_at_claim state_in same push_packed push_record pushed wrong_buffer wrote step searching
other_values_cleared l m v wrong h = let n : ◌≡◌ {A = ℕ} 0 9 = sym wrong ∙ ap (λ (a : Reply). get_or (get_or a.lent 2 []) 1 0) h in omega (arith, n)

zeroed_decoder_is_new : (l m v : List ℕ) → reply 0 (l ∷ m ∷ v ∷ []) ≡ sgh_push_byte blank_bytes zeros8 0x1b old_values → ⊥
unfolding sgh_push_byte pack_into bad_decoder packed_in packed_bytes low_first unpack_of record_in number_at_claim state_in same push_packed
zeroed_decoder_is_new l m v h = let n : ◌≡◌ {A = ℕ} 0 4 = ap (λ (a : Reply). a.number) h in omega (arith, n)

-- ---- a push of a slice

slice_is_taken_whole : (l m v : List ℕ) → reply 6 (l ∷ m ∷ (2 ∷ []) ∷ v ∷ []) ≡ sgh_push_slice seven_matched zeros8 (0x01 ∷ 0x55 ∷ []) old_values → ⊥
unfolding sgh_push_slice pack_into bad_decoder packed_in packed_bytes low_first unpack_of record_in number_at_claim state_in same slice_packed slice_record pushes_from push_record pushed wrong_buffer wrote step searching
slice_is_taken_whole l m v h = let n : ◌≡◌ {A = ℕ} 2 1 = ap (λ (a : Reply). get_or (get_or a.lent 2 []) 0 0) h in omega (arith, n)

last_byte_not_taken : (l m v : List ℕ) → reply 6 (l ∷ m ∷ (0 ∷ []) ∷ v ∷ []) ≡ sgh_push_slice seven_matched zeros8 (0x01 ∷ 0x55 ∷ []) old_values → ⊥
unfolding sgh_push_slice pack_into bad_decoder packed_in packed_bytes low_first unpack_of record_in number_at_claim state_in same slice_packed slice_record pushes_from push_record pushed wrong_buffer wrote step searching
last_byte_not_taken l m v h = let n : ◌≡◌ {A = ℕ} 0 1 = ap (λ (a : Reply). get_or (get_or a.lent 2 []) 0 0) h in omega (arith, n)

refused_slice_is_gone : (l m v : List ℕ) → reply 4 (l ∷ m ∷ (1 ∷ []) ∷ v ∷ []) ≡ sgh_push_slice blank_bytes zeros8 (0x1b ∷ []) old_values → ⊥
unfolding sgh_push_slice pack_into bad_decoder packed_in packed_bytes low_first unpack_of record_in number_at_claim state_in same slice_packed
refused_slice_is_gone l m v h = let n : ◌≡◌ {A = ℕ} 1 0 = ap (λ (a : Reply). get_or (get_or a.lent 2 []) 0 0) h in omega (arith, n)

-- ---- the payload

length_stays_behind_a_push : reply 0 ((1 ∷ []) ∷ []) ≡ sgh_payload one_further zeros8 → ⊥
unfolding sgh_payload pack_into bad_decoder packed_in packed_bytes low_first unpack_of record_in number_at_claim state_in same payload_packed payload_record ask_packed ask_record has_payload wrong_buffer
length_stays_behind_a_push h = let n : ◌≡◌ {A = ℕ} 0 16 = ap (λ (a : Reply). a.number) h in omega (arith, n)

any_buffer_has_the_length : reply 0 ((1 ∷ []) ∷ []) ≡ sgh_payload paid_bytes (replicate 4 0) → ⊥
unfolding sgh_payload pack_into bad_decoder packed_in packed_bytes low_first unpack_of record_in number_at_claim state_in same payload_packed payload_record ask_packed ask_record has_payload wrong_buffer
any_buffer_has_the_length h = let n : ◌≡◌ {A = ℕ} 0 16 = ap (λ (a : Reply). a.number) h in omega (arith, n)

-- ---- finalize and reset

finalize_always_says_six : (l v : List ℕ) → reply 6 (l ∷ v ∷ []) ≡ sgh_finalize made_bytes old_values → ⊥
unfolding sgh_finalize pack_into bad_decoder packed_in packed_bytes low_first unpack_of record_in number_at_claim state_in same finalize_packed finalize_record finalized
finalize_always_says_six l v h = let n : ◌≡◌ {A = ℕ} 6 0 = ap (λ (a : Reply). a.number) h in omega (arith, n)

finalize_writes_a_zero : (l v : List ℕ) → get_or v 0 0 ≡ 0 → reply 0 (l ∷ v ∷ []) ≡ sgh_finalize made_bytes old_values → ⊥
unfolding sgh_finalize pack_into bad_decoder packed_in packed_bytes low_first unpack_of record_in number_at_claim state_in same finalize_packed finalize_record finalized
finalize_writes_a_zero l v wrong h = let n : ◌≡◌ {A = ℕ} 0 9 = sym wrong ∙ ap (λ (a : Reply). get_or (get_or a.lent 1 []) 0 0) h in omega (arith, n)

finalize_mends_a_bad_decoder : (l v : List ℕ) → reply 0 (l ∷ v ∷ []) ≡ sgh_finalize blank_bytes old_values → ⊥
unfolding sgh_finalize pack_into bad_decoder packed_in packed_bytes low_first unpack_of record_in number_at_claim state_in same finalize_packed
finalize_mends_a_bad_decoder l v h = let n : ◌≡◌ {A = ℕ} 0 4 = ap (λ (a : Reply). a.number) h in omega (arith, n)

reset_says_six : (l v : List ℕ) → reply 6 (l ∷ v ∷ []) ≡ sgh_reset seven_matched old_values → ⊥
unfolding sgh_reset pack_into bad_decoder packed_in packed_bytes low_first unpack_of record_in number_at_claim state_in same reset_packed reset_record reset_count
reset_says_six l v h = let n : ◌≡◌ {A = ℕ} 6 0 = ap (λ (a : Reply). a.number) h in omega (arith, n)

reset_leaves_the_values : (l : List ℕ) → reply 0 (l ∷ old_values ∷ []) ≡ sgh_reset seven_matched old_values → ⊥
unfolding sgh_reset pack_into bad_decoder packed_in packed_bytes low_first unpack_of record_in number_at_claim state_in same reset_packed reset_record reset_count
reset_leaves_the_values l h = let n : ◌≡◌ {A = ℕ} 9 8 = ap (λ (a : Reply). get_or (get_or a.lent 1 []) 0 0) h in omega (arith, n)

reset_makes_a_decoder : (l v : List ℕ) → reply 0 (l ∷ v ∷ []) ≡ sgh_reset blank_bytes old_values → ⊥
unfolding sgh_reset pack_into bad_decoder packed_in packed_bytes low_first unpack_of record_in number_at_claim state_in same reset_packed
reset_makes_a_decoder l v h = let n : ◌≡◌ {A = ℕ} 0 4 = ap (λ (a : Reply). a.number) h in omega (arith, n)

-- ---- frames

length_that_is_needed : (out : List ℕ) → reply 2 (out ∷ (16 ∷ []) ∷ []) ≡ sgh_encode [] [] → ⊥
unfolding sgh_encode encode_to frame_of closed escaped
length_that_is_needed out h = let n : ◌≡◌ {A = ℕ} 16 0 = ap (λ (a : Reply). get_or (get_or a.lent 1 []) 0 0) h in omega (arith, n)

no_room_is_three_everywhere : (out : List ℕ) (n : ℕ) → reply 3 (out ∷ (n ∷ []) ∷ []) ≡ sgh_encode [] [] → ⊥
unfolding sgh_encode encode_to frame_of closed escaped
no_room_is_three_everywhere out n h = let k : ◌≡◌ {A = ℕ} 3 2 = ap (λ (a : Reply). a.number) h in omega (arith, k)

-- ---- an Encoder

zeroed_encoder_is_new : replicate 4 0 ≡ sgh_encoder_new → ⊥
unfolding sgh_encoder_new fresh_encoder
zeroed_encoder_is_new h = let n : ◌≡◌ {A = ℕ} 0 1 = ap (λ (w : List ℕ). get_or w 0 0) h in omega (arith, n)

new_encoder_has_the_crc_s_start : 1 ∷ 0 ∷ 0 ∷ 0xffff ∷ [] ≡ sgh_encoder_new → ⊥
unfolding sgh_encoder_new fresh_encoder reflect polynomial bit_step bit_steps byte_step register
new_encoder_has_the_crc_s_start h = let n : ◌≡◌ {A = ℕ} 0xffff 0x91dc = ap (λ (w : List ℕ). get_or w 3 0) h in omega (arith, n)

finished_gives_a_zero_byte : (w : List ℕ) → reply 0 (w ∷ (0 ∷ []) ∷ []) ≡ sgh_encoder_next all_given [] 0x77 → ⊥
unfolding sgh_encoder_next encoder_in next_step bad_encoder step_from
finished_gives_a_zero_byte w h = let n : ◌≡◌ {A = ℕ} 0 101 = ap (λ (a : Reply). a.number) h in omega (arith, n)

finished_begins_anew : (w : List ℕ) (b : ℕ) → get_or w 0 0 ≡ 1 → reply 101 (w ∷ (b ∷ []) ∷ []) ≡ sgh_encoder_next all_given [] 0x77 → ⊥
unfolding sgh_encoder_next encoder_in next_step bad_encoder step_from
finished_begins_anew w b wrong h = let n : ◌≡◌ {A = ℕ} 1 4 = sym wrong ∙ ap (λ (a : Reply). get_or (get_or a.lent 0 []) 0 0) h in omega (arith, n)

-- ---- the CRC

crc_in_the_frame_s_order : 0x6e90 ≡ crc_of (0x31 ∷ 0x32 ∷ 0x33 ∷ 0x34 ∷ 0x35 ∷ 0x36 ∷ 0x37 ∷ 0x38 ∷ 0x39 ∷ []) → ⊥
crc_in_the_frame_s_order h = let n : ◌≡◌ {A = ℕ} 0x6e90 0x906e = h ∙ check_value in omega (arith, n)

crc_not_complemented : 0x6f91 ≡ crc_of (0x31 ∷ 0x32 ∷ 0x33 ∷ 0x34 ∷ 0x35 ∷ 0x36 ∷ 0x37 ∷ 0x38 ∷ 0x39 ∷ []) → ⊥
crc_not_complemented h = let n : ◌≡◌ {A = ℕ} 0x6f91 0x906e = h ∙ check_value in omega (arith, n)

-- ---- messages

end_of_input_is_ten : (r e : List ℕ) → reply 10 (r ∷ e ∷ []) ≡ sgh_next_event [] new_reader → ⊥
unfolding sgh_next_event next_at step_at begin_at
end_of_input_is_ten r e h = let n : ◌≡◌ {A = ℕ} 10 101 = ap (λ (a : Reply). a.number) h in omega (arith, n)

event_stays_at_the_end : (r e : List ℕ) → get_or e 0 0 ≡ 3 → reply 101 (r ∷ e ∷ []) ≡ sgh_next_event [] new_reader → ⊥
unfolding sgh_next_event next_at step_at begin_at with_zeros
event_stays_at_the_end r e wrong h = let n : ◌≡◌ {A = ℕ} 3 0 = sym wrong ∙ ap (λ (a : Reply). get_or (get_or a.lent 1 []) 0 0) h in omega (arith, n)

-- 00 00: the first 00 is refused with 11, and the second is dropped
reader_goes_on_behind_a_refusal : (r e : List ℕ) → get_or r 0 0 ≡ 1 → reply 11 (r ∷ e ∷ []) ≡ sgh_next_event (0x00 ∷ 0x00 ∷ []) new_reader → ⊥
unfolding sgh_next_event next_at step_at begin_at onward
reader_goes_on_behind_a_refusal r e wrong h = read (start_at (0x00 ∷ 0x00 ∷ []) 0) (ap (λ (a : Reply). a.number) h) (sym wrong ∙ ap (λ (a : Reply). get_or (get_or a.lent 0 []) 0 0) h)
  where
    begins : MessageStart Span → ℕ → ReaderAfter
    begins m n = record { answer = event (start_event m); place = n; start = 0; pending = pending_of m.message_body }

    read : (x : Read (MessageStart Span)) → 11 ≡ reader_no (onward 2 0 0 x begins).answer → 1 ≡ (onward 2 0 0 x begins).place → ⊥
    read (got m n) a b = omega (arith, a)
    read (refused f) a b = omega (arith, b)

-- ---- messages that are written

-- zeros are the words of no event: 4, and all is left
no_event_is_four : (out strings w : List ℕ) → sgh_write_event out strings (with_zeros 24 (0 ∷ [])) w ≡ reply bad_state_no (out ∷ w ∷ [])
unfolding sgh_write_event
no_event_is_four out strings w = by (event_of (with_zeros 24 (0 ∷ []))) refl
  where
    by : (e : Option (MessageEvent Span)) → e ≡ event_of (with_zeros 24 (0 ∷ []))
        → (let a : AfterWrite ListWriter = event_or out strings e (writer_in w) in reply (write_no a.answer) (a.output ∷ writer_behind a.answer w ∷ [])) ≡ reply bad_state_no (out ∷ w ∷ [])
    by (some e) h = absurd (never_zeros e h)
    by none h = refl

zeroed_event_is_written : (o w : List ℕ) → reply 0 (o ∷ w ∷ []) ≡ sgh_write_event [] [] (with_zeros 24 (0 ∷ [])) (0 ∷ 0 ∷ 0 ∷ 0 ∷ []) → ⊥
zeroed_event_is_written o w h = let n : ◌≡◌ {A = ℕ} 0 4 = ap (λ (a : Reply). a.number) (h ∙ no_event_is_four [] [] (0 ∷ 0 ∷ 0 ∷ 0 ∷ [])) in omega (arith, n)

refused_event_ends_the_list : (o w : List ℕ) → get_or w 1 0 ≡ 0 → reply 4 (o ∷ w ∷ []) ≡ sgh_write_event [] [] (with_zeros 24 (0 ∷ [])) (5 ∷ 1 ∷ 2 ∷ 3 ∷ []) → ⊥
refused_event_ends_the_list o w wrong h =
    let n : ◌≡◌ {A = ℕ} 0 1 = sym wrong ∙ ap (λ (a : Reply). get_or (get_or a.lent 1 []) 1 0) (h ∙ no_event_is_four [] [] (5 ∷ 1 ∷ 2 ∷ 3 ∷ [])) in
    omega (arith, n)

-- ---- whole messages

empty_message_is_finished : (t m : List ℕ) → reply 101 (t ∷ m ∷ []) ≡ sgh_read_message [] 0 [] → ⊥
unfolding sgh_read_message read_to fill_to whole_at start_at list_of_at tlf_at then guard byte_at
empty_message_is_finished t m h = let n : ◌≡◌ {A = ℕ} 101 10 = ap (λ (a : Reply). a.number) h in omega (arith, n)

place_beyond_the_input_is_ten : (t m : List ℕ) → reply 10 (t ∷ m ∷ []) ≡ sgh_read_message [] 1 [] → ⊥
unfolding sgh_read_message read_to
place_beyond_the_input_is_ten t m h = let n : ◌≡◌ {A = ℕ} 10 4 = ap (λ (a : Reply). a.number) h in omega (arith, n)

-- four numbers that are left from a message before
refused_message_clears_the_table : (t m : List ℕ) → get_or t 0 0 ≡ 0 → reply 10 (t ∷ m ∷ []) ≡ sgh_read_message [] 0 old_values → ⊥
unfolding sgh_read_message read_to fill_to whole_at start_at list_of_at tlf_at then guard byte_at
refused_message_clears_the_table t m wrong h = let n : ◌≡◌ {A = ℕ} 0 9 = sym wrong ∙ ap (λ (a : Reply). get_or (get_or a.lent 0 []) 0 0) h in omega (arith, n)

refused_message_is_zeros : (t m : List ℕ) → get_or m 0 0 ≡ 0 → reply 10 (t ∷ m ∷ []) ≡ sgh_read_message [] 0 [] → ⊥
unfolding sgh_read_message read_to fill_to whole_at start_at list_of_at tlf_at then guard byte_at message_words with_zeros
refused_message_is_zeros t m wrong h = let n : ◌≡◌ {A = ℕ} 0 4 = sym wrong ∙ ap (λ (a : Reply). get_or (get_or a.lent 1 []) 0 0) h in omega (arith, n)
