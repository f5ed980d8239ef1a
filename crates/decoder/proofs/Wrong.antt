-- What the contracts rule out: each wrong reading of docs/WRONG-READINGS.md that is told here is an outcome that the definition does not allow, at a small input.
use mathlib.Core.Path.{◌≡◌, refl, ap, sym, ◌∙◌}
use mathlib.Core.Bool.{true, false, false≢true}
use mathlib.Core.List.{List, [], ◌∷◌}
use Rattle.std.specs.Prelude.{Ok, Err}
use Prim.Native.Nat.{ℕ}
use native.Mathlib.Omega.{arith}
use lib.ListN.{replicate, get_or}
use Rattle.crc_x25.specs.Crc.{reflect, polynomial, bit_step, bit_steps, byte_step, register, final_xor}
use Rattle.frame.specs.Frame.{same}
use Rattle.decoder.specs.Push.{in_way, sized, begun, search, escape, done, starts, searching, store, judge, finish, step, finalized, reset_count}
use Rattle.decoder.specs.Record.{Event, DecoderAnswer, nothing, payload, count, refusal, After, Left, after_push, after_finalize, after_reset, answer_asked, wrote, bad_decoder, wrong_buffer, new_record, record_with, record_of, recounted, pushed, push_record, finalize_record, reset_record, has_payload, payload_record, ask_record}
use Rattle.decoder.specs.declared.DecodeState.{DecodeState}
use Rattle.decoder.specs.declared.DecodeState.TheVariants.{LookingForMessageStart, ParsingNormal, ParsingEscChars, ParsingEscPayload, Done}
use Rattle.decoder.specs.declared.Decoder.{Decoder}
use Rattle.decoder.specs.declared.DecodeErr.TheVariants.{DiscardedBytes, WrongBuffer}
use Rattle.decided.specs.Part.{LentPart, part_at}

-- the number of a refusal, and its first value
number_of : DecoderAnswer → ℕ
number_of nothing = 0
number_of (payload bytes) = 0
number_of (count n) = 0
number_of (refusal k values) = k

first_value : DecoderAnswer → ℕ
first_value nothing = 0
first_value (payload bytes) = 0
first_value (count n) = n
first_value (refusal k values) = get_or values 0 0

noise_of : DecodeState → ℕ
noise_of (LookingForMessageStart n noise) = noise
noise_of ParsingNormal = 0
noise_of (ParsingEscChars n) = 0
noise_of (ParsingEscPayload k) = 0
noise_of Done = 0

-- asked for its payload, a new decoder has none: 16
search_taken_as_payload : answer_asked (Ok tt) ≡ ask_record (new_record (sized 8)) (replicate 8 0) → ⊥
unfolding ask_record has_payload bad_decoder wrong_buffer number_of
search_taken_as_payload h = let n : ◌≡◌ {A = ℕ} 0 16 = ap number_of h in omega (arith, n)

-- the payload 12 stands in a buffer of eight: one of nine has none
other_buffer_has_payload : answer_asked (Ok tt) ≡ ask_record (record_of (sized 8) (done (0x12 ∷ []))) (0x12 ∷ replicate 8 0) → ⊥
unfolding ask_record has_payload bad_decoder wrong_buffer number_of
other_buffer_has_payload h = let n : ◌≡◌ {A = ℕ} 0 16 = ap number_of h in omega (arith, n)

-- 02 00 00 stand behind an escape, and 05 follows: whatever is answered, it is stored
abbrev escaping : Decoder
escaping = record_of (sized 8) (escape 3 (record { stored = 0x02 ∷ 0x00 ∷ 0x00 ∷ []; reg = 0; idx = 0; raw = 15 }))

refused_escape_not_stored : (d : Decoder) (e : Event) → after_push (record { decoder = d; event = e }) (0x02 ∷ replicate 7 0) ≡ push_record escaping (0x02 ∷ replicate 7 0) 0x05 → ⊥
unfolding push_record pushed bad_decoder wrong_buffer wrote
refused_escape_not_stored d e h = let b : ◌≡◌ {A = ℕ} 0x00 0x05 = ap (λ (a : After). get_or a.memory 3 0) h in omega (arith, b)

-- a new decoder has no noise
fresh_with_noise : record_of (sized 8) (search 0 1 0) ≡ new_record (sized 8) → ⊥
unfolding noise_of
fresh_with_noise h = let n : ◌≡◌ {A = ℕ} 1 0 = ap (λ (d : Decoder). noise_of d.state) h in omega (arith, n)

-- a byte of noise and a matched one, then finalize: 2, and no other number
finalize_wrong_count : (k : ℕ) (d : Decoder) → (k ≡ 2 → ⊥) → after_finalize (record { decoder = d; event = Err (DiscardedBytes k) }) ≡ finalize_record (record_of (sized 8) (search 1 1 2)) → ⊥
unfolding finalize_record bad_decoder finalized first_value
finalize_wrong_count k d other h = other (ap (λ (l : Left). first_value l.answer) h)

-- 1b is matched, and 00 follows: both are noise
noise_without_matched : (e : Event) (m : List ℕ) → after_push (record { decoder = record_of (sized 8) (search 0 1 2); event = e }) m ≡ push_record (record_of (sized 8) (search 1 0 1)) (replicate 8 0) 0x00 → ⊥
unfolding push_record pushed bad_decoder wrong_buffer step searching noise_of
noise_without_matched e m h = let n : ◌≡◌ {A = ℕ} 1 2 = ap (λ (a : After). noise_of a.decoder.state) h in omega (arith, n)

-- at the eighth start byte the raw length is 8
raw_not_restarted : (d : Decoder) (e : Event) (m : List ℕ) → d.raw_msg_len ≡ 0 → after_push (record { decoder = d; event = e }) m ≡ push_record (record_of (sized 8) (search 7 0 7)) (replicate 8 0) 0x01 → ⊥
unfolding push_record pushed bad_decoder wrong_buffer step searching
raw_not_restarted d e m is h = let n : ◌≡◌ {A = ℕ} d.raw_msg_len 8 = ap (λ (a : After). a.decoder.raw_msg_len) h in omega (arith, n, is)

-- ---- BadState, clause by clause: capacity 8; fill, raw length, CRC register, CRC index, state

-- nine bytes stored where eight have room
fill_over_capacity_is_good : false ≡ bad_decoder (record_with (sized 8) 9 8 0 0 ParsingNormal) → ⊥
unfolding bad_decoder
fill_over_capacity_is_good h = false≢true h

-- the CRC has gone over five bytes where four are stored
crc_index_over_fill_is_good : false ≡ bad_decoder (record_with (sized 8) 4 8 0 5 ParsingNormal) → ⊥
unfolding bad_decoder
crc_index_over_fill_is_good h = false≢true h

-- a search has stored nothing
search_with_fill_is_good : false ≡ bad_decoder (record_with (sized 8) 1 0 0 0 (LookingForMessageStart 0 0)) → ⊥
unfolding bad_decoder
search_with_fill_is_good h = false≢true h

-- at eight start bytes the frame has begun
eight_matched_is_good : false ≡ bad_decoder (record_with (sized 8) 0 8 0 0 (LookingForMessageStart 8 0)) → ⊥
unfolding bad_decoder
eight_matched_is_good h = false≢true h

-- with none waiting the state is another one
none_waiting_is_good : false ≡ bad_decoder (record_with (sized 8) 0 8 0 0 (ParsingEscChars 0)) → ⊥
unfolding bad_decoder
none_waiting_is_good h = false≢true h

-- the fourth 1b opens an escape
four_waiting_is_good : false ≡ bad_decoder (record_with (sized 8) 0 12 0 0 (ParsingEscChars 4)) → ⊥
unfolding bad_decoder
four_waiting_is_good h = false≢true h

-- behind the fourth byte the escape is judged
four_escaped_is_good : false ≡ bad_decoder (record_with (sized 8) 8 20 0 4 (ParsingEscPayload 4)) → ⊥
unfolding bad_decoder
four_escaped_is_good h = false≢true h

-- the bytes behind an escape are stored, and the CRC has not gone over them
escape_count_over_fill_is_good : false ≡ bad_decoder (record_with (sized 8) 5 20 0 3 (ParsingEscPayload 3)) → ⊥
unfolding bad_decoder
escape_count_over_fill_is_good h = false≢true h

-- a frame has its eight start bytes behind it
raw_seven_in_a_frame_is_good : false ≡ bad_decoder (record_with (sized 8) 0 7 0 0 ParsingNormal) → ⊥
unfolding bad_decoder
raw_seven_in_a_frame_is_good h = false≢true h

-- with 1b waiting too
raw_seven_while_waiting_is_good : false ≡ bad_decoder (record_with (sized 8) 0 7 0 0 (ParsingEscChars 1)) → ⊥
unfolding bad_decoder
raw_seven_while_waiting_is_good h = false≢true h

-- and behind an escape
raw_seven_in_an_escape_is_good : false ≡ bad_decoder (record_with (sized 8) 0 7 0 0 (ParsingEscPayload 0)) → ⊥
unfolding bad_decoder
raw_seven_in_an_escape_is_good h = false≢true h

-- eight bytes stored where eight have room, the CRC gone over all of them, raw length 8: each is the last that is good
full_buffer_is_bad : true ≡ bad_decoder (record_with (sized 8) 8 8 0 8 ParsingNormal) → ⊥
unfolding bad_decoder
full_buffer_is_bad h = false≢true (sym h)

-- seven are matched before the eighth
seven_matched_is_bad : true ≡ bad_decoder (record_with (sized 8) 0 7 0 0 (LookingForMessageStart 7 0)) → ⊥
unfolding bad_decoder
seven_matched_is_bad h = false≢true (sym h)

-- three wait before the fourth
three_waiting_is_bad : true ≡ bad_decoder (record_with (sized 8) 0 11 0 0 (ParsingEscChars 3)) → ⊥
unfolding bad_decoder
three_waiting_is_bad h = false≢true (sym h)

-- three are stored before the fourth, behind all that the CRC has gone over
three_escaped_is_bad : true ≡ bad_decoder (record_with (sized 8) 3 15 0 0 (ParsingEscPayload 3)) → ⊥
unfolding bad_decoder
three_escaped_is_bad h = false≢true (sym h)

-- ---- WrongBuffer: both tests, and the limit

-- nine bytes lent to a decoder of eight
other_length_is_right : false ≡ wrong_buffer 8 9 → ⊥
unfolding wrong_buffer
other_length_is_right h = false≢true h

-- a byte over the limit, lent as recorded
buffer_over_the_limit_is_right : false ≡ wrong_buffer 1048577 1048577 → ⊥
unfolding wrong_buffer
buffer_over_the_limit_is_right h = false≢true h

-- the limit itself
buffer_at_the_limit_is_wrong : true ≡ wrong_buffer 1048576 1048576 → ⊥
unfolding wrong_buffer
buffer_at_the_limit_is_wrong h = false≢true (sym h)

-- a bad record, capacity 8 and fill 9, with seven bytes lent: 4, not 5
wrong_buffer_before_bad_state : (d : Decoder) (m : List ℕ) → after_push (record { decoder = d; event = Err WrongBuffer }) m ≡ push_record (record_with (sized 8) 9 8 0 0 ParsingNormal) (replicate 7 0) 0x00 → ⊥
unfolding push_record bad_decoder number_of
wrong_buffer_before_bad_state d m h = let n : ◌≡◌ {A = ℕ} 5 4 = ap (λ (a : After). number_of a.answer) h in omega (arith, n)

-- ---- one byte, one record

-- behind four 1b the next start byte is 01
fifth_1b_matches : true ≡ starts 4 0x1b → ⊥
fifth_1b_matches h = false≢true (sym h)

-- and before that it is 1b
first_01_matches : true ≡ starts 0 0x01 → ⊥
first_01_matches h = false≢true (sym h)

-- a new decoder has the capacity that it was made with
new_with_room_to_spare : new_record (sized 9) ≡ new_record (sized 8) → ⊥
new_with_room_to_spare h = let n : ◌≡◌ {A = ℕ} 9 8 = ap (λ (d : Decoder). d.capacity) h in omega (arith, n)

-- a record with another fill has it, and keeps its CRC register
recounted_keeps_the_fill : (d : Decoder) → d.fill ≡ 0 → d ≡ recounted (new_record (sized 8)) 1 8 ParsingNormal → ⊥
recounted_keeps_the_fill d e h = let n : ◌≡◌ {A = ℕ} d.fill 1 = ap (λ (x : Decoder). x.fill) h in omega (arith, n, e)

recounted_begins_the_crc_again : record_with (sized 8) 1 8 0xffff 0 ParsingNormal ≡ recounted (record_with (sized 8) 0 8 0x1234 0 ParsingNormal) 1 8 ParsingNormal → ⊥
recounted_begins_the_crc_again h = let n : ◌≡◌ {A = ℕ} 0xffff 0x1234 = ap (λ (d : Decoder). d.crc) h in omega (arith, n)

-- a count that has stopped stays
noise_wraps : (e : Event) (m : List ℕ) → after_push (record { decoder = record_of (sized 8) (search 0 0 1); event = e }) m ≡ push_record (record_of (sized 8) (search 0 4294967295 0)) (replicate 8 0) 0x00 → ⊥
unfolding push_record pushed bad_decoder wrong_buffer step searching noise_of
noise_wraps e m h = let n : ◌≡◌ {A = ℕ} 0 4294967295 = ap (λ (a : After). noise_of a.decoder.state) h in omega (arith, n)

-- ---- the part that is handed back

-- it begins where the buffer begins, whatever record and bytes there are
payload_from_elsewhere : (p : LentPart) (d : Decoder) (l : List ℕ) → part_at p 2 l ≡ part_at p 0 (payload_record d p.bytes) → ⊥
payload_from_elsewhere p d l h = let n = ap (λ (x : LentPart). x.place) h in omega (arith, n)

-- behind the payload 12 it is not empty
payload_always_empty : (p : LentPart) → p.bytes ≡ 0x12 ∷ replicate 7 0 → part_at p 0 [] ≡ part_at p 0 (payload_record (record_of (sized 8) (done (0x12 ∷ []))) p.bytes) → ⊥
unfolding payload_record has_payload bad_decoder wrong_buffer
payload_always_empty p is h =
    let e = ap (λ (x : LentPart). get_or x.bytes 0 0) h in
    let n : ◌≡◌ {A = ℕ} 0 0x12 = e ∙ ap (λ (m : List ℕ). get_or (payload_record (record_of (sized 8) (done (0x12 ∷ []))) m) 0 0) is in
    omega (arith, n)

-- ---- room

-- 12 34 56 78 1a 00 b8 are stored, all of B1's frame but its last byte, 7b; its register stands behind the start, the payload and the escape
abbrev last_byte : ℕ → Decoder
last_byte capacity = record_of (sized capacity) (escape 3 (record { stored = 0x12 ∷ 0x34 ∷ 0x56 ∷ 0x78 ∷ 0x1a ∷ 0x00 ∷ 0xb8 ∷ []; reg = 0xec87; idx = 4; raw = 19 }))

-- with capacity 8 it is the payload
pub with_room_lem : (push_record (last_byte 8) (0x12 ∷ 0x34 ∷ 0x56 ∷ 0x78 ∷ 0x1a ∷ 0x00 ∷ 0xb8 ∷ 0xff ∷ []) 0x7b).answer ≡ payload (0x12 ∷ 0x34 ∷ 0x56 ∷ 0x78 ∷ [])
unfolding push_record pushed bad_decoder wrong_buffer step store same judge finish reflect polynomial bit_step bit_steps byte_step register final_xor
with_room_lem = refl

-- with capacity 7 there is no room for 7b
capacity_on_payload_alone : (d : Decoder) (m : List ℕ) → after_push (record { decoder = d; event = Ok true }) m ≡ push_record (last_byte 7) (0x12 ∷ 0x34 ∷ 0x56 ∷ 0x78 ∷ 0x1a ∷ 0x00 ∷ 0xb8 ∷ []) 0x7b → ⊥
unfolding push_record pushed bad_decoder wrong_buffer step store number_of
capacity_on_payload_alone d m h = let n : ◌≡◌ {A = ℕ} 0 3 = ap (λ (a : After). number_of a.answer) h in omega (arith, n)

-- ---- finalize and reset

-- a bad record is 4 here too
finalize_of_a_bad_record : (n : ℕ) (d : Decoder) → after_finalize (record { decoder = d; event = Err (DiscardedBytes n) }) ≡ finalize_record (record_with (sized 8) 9 8 0 0 ParsingNormal) → ⊥
unfolding finalize_record bad_decoder number_of
finalize_of_a_bad_record n d h = let k : ◌≡◌ {A = ℕ} 6 4 = ap (λ (l : Left). number_of l.answer) h in omega (arith, k)

-- behind a byte of noise, what is left is fresh
finalize_leaves_noise : (e : Event) → after_finalize (record { decoder = record_of (sized 8) (search 0 1 0); event = e }) ≡ finalize_record (record_of (sized 8) (search 0 1 1)) → ⊥
unfolding finalize_record bad_decoder noise_of
finalize_leaves_noise e h = let n : ◌≡◌ {A = ℕ} 1 0 = ap (λ (l : Left). noise_of l.decoder.state) h in omega (arith, n)

reset_leaves_noise : (n : ℕ) → after_reset (record { decoder = record_of (sized 8) (search 0 1 0); count = n }) ≡ reset_record (record_of (sized 8) (search 0 1 1)) → ⊥
unfolding reset_record noise_of
reset_leaves_noise n h = let k : ◌≡◌ {A = ℕ} 1 0 = ap (λ (l : Left). noise_of l.decoder.state) h in omega (arith, k)

-- behind a payload 0 bytes are lost, whatever the raw length
reset_counts_behind_a_payload : (d : Decoder) → after_reset (record { decoder = d; count = 5 }) ≡ reset_record (record_with (sized 8) 1 5 0xffff 0 Done) → ⊥
unfolding reset_record reset_count first_value
reset_counts_behind_a_payload d h = let n : ◌≡◌ {A = ℕ} 5 0 = ap (λ (l : Left). first_value l.answer) h in omega (arith, n)

-- the raw length stops too
raw_wraps : (d : Decoder) (e : Event) (m : List ℕ) → d.raw_msg_len ≡ 0 → after_push (record { decoder = d; event = e }) m ≡ push_record (record_of (sized 8) (search 0 1 4294967295)) (replicate 8 0) 0x00 → ⊥
unfolding push_record pushed bad_decoder wrong_buffer step searching
raw_wraps d e m is h = let n : ◌≡◌ {A = ℕ} d.raw_msg_len 4294967295 = ap (λ (a : After). a.decoder.raw_msg_len) h in omega (arith, n, is)

-- ---- the way of searching

-- ways 0 and 3 are unknown
unknown_way_is_taken : false ≡ bad_decoder (new_record (in_way 3 8)) → ⊥
unfolding bad_decoder
unknown_way_is_taken h = false≢true h

way_zero_is_good : false ≡ bad_decoder (new_record (in_way 0 8)) → ⊥
unfolding bad_decoder
way_zero_is_good h = false≢true h

second_way_is_bad : true ≡ bad_decoder (new_record (in_way 2 8)) → ⊥
unfolding bad_decoder
second_way_is_bad h = false≢true (sym h)

-- inside a frame of way 3 a plain byte is refused, as any other is
short_way_takes_any_way : (d : Decoder) (m : List ℕ) → after_push (record { decoder = d; event = Ok false }) m ≡ push_record (record_of (in_way 3 8) begun) (replicate 8 0) 0x12 → ⊥
unfolding push_record bad_decoder number_of
short_way_takes_any_way d m h = let n : ◌≡◌ {A = ℕ} 0 4 = ap (λ (a : After). number_of a.answer) h in omega (arith, n)

-- behind reset, finalize and a refusal the second way is the second
way_not_kept : (n : ℕ) → after_reset (record { decoder = new_record (sized 8); count = n }) ≡ reset_record (new_record (in_way 2 8)) → ⊥
unfolding reset_record
way_not_kept n h = let w : ◌≡◌ {A = ℕ} 1 2 = ap (λ (l : Left). l.decoder.way) h in omega (arith, w)

finalize_forgets_the_way : (e : Event) → after_finalize (record { decoder = new_record (sized 8); event = e }) ≡ finalize_record (new_record (in_way 2 8)) → ⊥
unfolding finalize_record bad_decoder
finalize_forgets_the_way e h = let w : ◌≡◌ {A = ℕ} 1 2 = ap (λ (l : Left). l.decoder.way) h in omega (arith, w)

refusal_forgets_the_way : (e : Event) (m : List ℕ) → after_push (record { decoder = new_record (sized 0); event = e }) m ≡ push_record (record_of (in_way 2 0) begun) [] 0x12 → ⊥
unfolding push_record pushed bad_decoder wrong_buffer step store
refusal_forgets_the_way e m h = let w : ◌≡◌ {A = ℕ} 1 2 = ap (λ (a : After). a.decoder.way) h in omega (arith, w)

-- a decoder made in the second way is no other, and in an unknown one it is not made in the first
with_way_makes_the_first : new_record (in_way 1 8) ≡ new_record (in_way 2 8) → ⊥
with_way_makes_the_first h = let w : ◌≡◌ {A = ℕ} 1 2 = ap (λ (d : Decoder). d.way) h in omega (arith, w)

with_way_mends_an_unknown_one : new_record (in_way 1 8) ≡ new_record (in_way 3 8) → ⊥
with_way_mends_an_unknown_one h = let w : ◌≡◌ {A = ℕ} 1 3 = ap (λ (d : Decoder). d.way) h in omega (arith, w)
