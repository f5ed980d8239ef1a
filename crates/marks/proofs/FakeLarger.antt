-- Each fake falls from which a larger buffer takes something away, and so does each claim on larger buffers that is false of ours: one small run, computed.
use mathlib.Core.Path.{◌≡◌, refl, ap, sym, ◌∙◌}
use mathlib.Core.List.{List, [], ◌∷◌, ◌++◌, map}
use Prim.Native.Nat.{ℕ, ◌≤◌}
use native.Mathlib.Omega.{arith}
use lib.ListN.{length, take, drop, get_or, replicate, length-replicate}
use Rattle.crc_x25.specs.Crc.{reflect, polynomial, bit_step, bit_steps, byte_step, register, final_xor, crc_of}
use Rattle.frame.specs.Frame.{start_seq, same}
use Rattle.search.specs.Search.{greatest, most_matched}
use Rattle.decoder.specs.Push.{second_way, in_way, sized, searching, store, finish, judge, step, finalized, reset_count}
use Rattle.decoder.specs.Record.{nothing, payload, wrote, bad_decoder, wrong_buffer, pushed, push_record, finalize_record, reset_record, has_payload, payload_record, ask_record}
use Rattle.decoder.specs.Run.{is_first, push, finalize, reset, act}
use Rattle.decoder.specs.declared.Setup.{Setup}
use Rattle.decoder_slice.specs.Slice.{pushes_from, slice_record}
use Rattle.marks.specs.Decoders.{ours, answers, left_behind}
use Rattle.marks.specs.Chunks.{our_slicer, Use, one_op, slice, HeardUse, heard_use, uses_say, uses_leave}
use Rattle.marks.specs.Larger.{before_first, before_full, OwnBuffer, new_says, Larger, LargerBySlices, LargerAsked, done_in, said_in, new_says_each, LargerCutAnyhow}
use Rattle.marks.specs.Bench.{payload1, frame1}
use Rattle.marks.specs.FakeLarger.{stores_less, second_stores_less, larger_hands_nothing, hands_the_buffer, reset_counts_room, finalize_counts_room, hesitates, looks_ahead, denies_larger, ForAnyTwo, AcrossWays, with_full, FullAnswerToo, payloads_among, HearsAsMany, FallLarger}
use Rattle.marks.specs.Fakes.{last_of, swallows}
use Rattle.marks.proofs.Fakes.{answer_code, code_at}

abbrev zeroed : ℕ → List ℕ
zeroed n = replicate n 0x00

own : (C : Setup) → C.capacity ≤ 1048576 → OwnBuffer C (zeroed C.capacity)
own C le = record { long = length-replicate C.capacity 0x00; within = le }

abbrev own7 : OwnBuffer (sized 7) (zeroed 7)
own7 = own (sized 7) (omega arith)

abbrev own8 : OwnBuffer (sized 8) (zeroed 8)
own8 = own (sized 8) (omega arith)

abbrev own9 : OwnBuffer (sized 9) (zeroed 9)
own9 = own (sized 9) (omega arith)

seven_say : before_full (new_says ours (sized 7) (zeroed 7) (map push frame1)) ≡ replicate 19 nothing
unfolding answers before_first reflect polynomial bit_step bit_steps byte_step register final_xor crc_of searching store same finish judge step wrote bad_decoder wrong_buffer pushed push_record act
seven_say = refl

eight_say : before_full (new_says ours (sized 8) (zeroed 8) (map push frame1)) ≡ replicate 19 nothing ++ payload payload1 ∷ []
unfolding answers before_first reflect polynomial bit_step bit_steps byte_step register final_xor crc_of searching store same finish judge step wrote bad_decoder wrong_buffer pushed push_record act
eight_say = refl

-- a start and nine bytes of data
nine_bytes : List ℕ
nine_bytes = start_seq ++ (0x01 ∷ 0x02 ∷ 0x03 ∷ 0x04 ∷ 0x05 ∷ 0x06 ∷ 0x07 ∷ 0x08 ∷ 0x09 ∷ [])

-- ---- fakes

-- B1's frame: with eight bytes its payload is the twentieth answer, with nine that is OutOfMemory
stores_less_claim : Larger stores_less.machine → ⊥
unfolding answers before_first reflect polynomial bit_step bit_steps byte_step register final_xor crc_of searching store same finish judge step wrote bad_decoder wrong_buffer pushed push_record act
stores_less_claim h =
    let z : ◌≡◌ {A = ℕ} 19 20 = ap length (h (sized 8) (sized 9) (zeroed 8) (zeroed 9) own8 own9 refl (omega arith) (map push frame1)).says in
    omega arith

stores_less_slices : LargerBySlices stores_less → ⊥
unfolding uses_say pushes_from slice_record before_first reflect polynomial bit_step bit_steps byte_step register final_xor crc_of searching store same finish judge step wrote bad_decoder wrong_buffer pushed push_record act
stores_less_slices h =
    let z : ◌≡◌ {A = ℕ} 0 1 = ap length (h (sized 8) (sized 9) (zeroed 8) (zeroed 9) own8 own9 refl (omega arith) (slice frame1 ∷ [])).says in
    omega arith

-- B1's frame in one slice, and in two
in_two : List Use
in_two = slice (take 8 frame1) ∷ slice (drop 8 frame1) ∷ []

stores_less_cut : LargerCutAnyhow stores_less → ⊥
unfolding in_two done_in said_in uses_say pushes_from slice_record before_first reflect polynomial bit_step bit_steps byte_step register final_xor crc_of searching store same finish judge step wrote bad_decoder wrong_buffer pushed push_record
stores_less_cut h =
    let z : ◌≡◌ {A = ℕ} 19 20 = ap length (h (sized 8) (sized 9) (zeroed 8) (zeroed 9) own8 own9 (is_first refl) refl (omega arith) (slice frame1 ∷ []) in_two refl).says in
    omega arith

second_stores_less_claim : Larger second_stores_less → ⊥
unfolding answers before_first reflect polynomial bit_step bit_steps byte_step register final_xor crc_of most_matched greatest searching store same finish judge step wrote bad_decoder wrong_buffer pushed push_record act
second_stores_less_claim h =
    let z : ◌≡◌ {A = ℕ} 19 20 = ap length (h (in_way second_way 8) (in_way second_way 9) (zeroed 8) (zeroed 9) (own (in_way second_way 8) (omega arith)) (own (in_way second_way 9) (omega arith)) refl (omega arith) (map push frame1)).says in
    omega arith

-- behind B1's frame
larger_hands_nothing_claim : Larger larger_hands_nothing.machine → ⊥
unfolding answers left_behind before_first reflect polynomial bit_step bit_steps byte_step register final_xor crc_of searching store same finish judge step wrote bad_decoder wrong_buffer pushed push_record act has_payload payload_record
larger_hands_nothing_claim h =
    let z : ◌≡◌ {A = ℕ} 0 4 = ap length ((h (sized 8) (sized 9) (zeroed 8) (zeroed 9) own8 own9 refl (omega arith) (map push frame1)).hands refl) in
    omega arith

larger_hands_nothing_slices : LargerBySlices larger_hands_nothing → ⊥
unfolding uses_say uses_leave pushes_from slice_record before_first reflect polynomial bit_step bit_steps byte_step register final_xor crc_of searching store same finish judge step wrote bad_decoder wrong_buffer pushed push_record has_payload payload_record
larger_hands_nothing_slices h =
    let z : ◌≡◌ {A = ℕ} 0 4 = ap length ((h (sized 8) (sized 9) (zeroed 8) (zeroed 9) own8 own9 refl (omega arith) (slice frame1 ∷ [])).hands refl) in
    omega arith

larger_hands_nothing_cut : LargerCutAnyhow larger_hands_nothing → ⊥
unfolding in_two done_in said_in uses_say uses_leave pushes_from slice_record before_first reflect polynomial bit_step bit_steps byte_step register final_xor crc_of searching store same finish judge step wrote bad_decoder wrong_buffer pushed push_record has_payload payload_record
larger_hands_nothing_cut h =
    let e : new_says_each larger_hands_nothing (sized 8) (zeroed 8) (slice frame1 ∷ []) ≡ replicate 19 nothing ++ payload payload1 ∷ [] = refl in
    let none : before_full (replicate 19 nothing ++ payload payload1 ∷ []) ≡ replicate 19 nothing ++ payload payload1 ∷ [] = refl in
    let z : ◌≡◌ {A = ℕ} 0 4 = ap length ((h (sized 8) (sized 9) (zeroed 8) (zeroed 9) own8 own9 (is_first refl) refl (omega arith) (slice frame1 ∷ []) in_two refl).hands (ap before_full e ∙ none ∙ sym e)) in
    omega arith

denies_larger_claim : LargerAsked our_slicer denies_larger → ⊥
unfolding answer_code uses_say uses_leave pushes_from slice_record before_first reflect polynomial bit_step bit_steps byte_step register final_xor crc_of searching store same finish judge step wrote bad_decoder wrong_buffer pushed push_record has_payload ask_record
denies_larger_claim h =
    let z : ◌≡◌ {A = ℕ} 3000 0 = ap answer_code (h (sized 8) (sized 9) (zeroed 8) (zeroed 9) own8 own9 refl (omega arith) (slice frame1 ∷ []) refl) in
    omega arith

-- of two new decoders of eight bytes that stand in different buffers
hands_the_buffer_claim : Larger hands_the_buffer → ⊥
unfolding answers left_behind before_first bad_decoder wrong_buffer has_payload
hands_the_buffer_claim h =
    let other : OwnBuffer (sized 8) (replicate 8 0x2a) = record { long = refl; within = omega arith } in
    let z : ◌≡◌ {A = ℕ} 0x2a 0x00 = ap (λ (l : List ℕ). get_or l 0 0) ((h (sized 8) (sized 8) (zeroed 8) (replicate 8 0x2a) own8 other refl (omega arith) []).hands refl) in
    omega arith

-- a reset of new decoders, and finalize behind a zero byte
reset_counts_room_claim : Larger reset_counts_room → ⊥
unfolding code_at answer_code answers before_first act reset_record reset_count
reset_counts_room_claim h =
    let z : ◌≡◌ {A = ℕ} 2009 2008 = ap (code_at 0) (h (sized 8) (sized 9) (zeroed 8) (zeroed 9) own8 own9 refl (omega arith) (reset ∷ [])).says in
    omega arith

finalize_counts_room_claim : Larger finalize_counts_room → ⊥
unfolding code_at answer_code answers before_first searching same step finalized wrote bad_decoder wrong_buffer pushed push_record finalize_record act
finalize_counts_room_claim h =
    let z : ◌≡◌ {A = ℕ} 3010 3009 = ap (code_at 1) (h (sized 8) (sized 9) (zeroed 8) (zeroed 9) own8 own9 refl (omega arith) (push 0x00 ∷ finalize ∷ [])).says in
    omega arith

-- of a slice of two bytes
hesitates_slices : LargerBySlices hesitates → ⊥
unfolding uses_say pushes_from slice_record before_first searching same step wrote bad_decoder wrong_buffer pushed push_record
hesitates_slices h =
    let z : ◌≡◌ {A = ℕ} 1 2 = ap (λ (l : List HeardUse). (get_or l 0 (heard_use nothing 0)).taken) (h (sized 8) (sized 9) (zeroed 8) (zeroed 9) own8 own9 refl (omega arith) (slice (0x00 ∷ 0x00 ∷ []) ∷ [])).says in
    omega arith

-- a start and nine bytes in one slice: with eight bytes of room the last is OutOfMemory
looks_ahead_slices : LargerBySlices looks_ahead → ⊥
unfolding nine_bytes uses_say pushes_from slice_record before_first reflect polynomial bit_step bit_steps byte_step register searching store same finish judge step wrote bad_decoder wrong_buffer pushed push_record
looks_ahead_slices h =
    let z : 17 ≤ 1 = (h (sized 8) (sized 9) (zeroed 8) (zeroed 9) own8 own9 refl (omega arith) (slice nine_bytes ∷ [])).takes in
    omega arith

-- B1's frame and a byte, of two decoders of eight bytes: by single bytes the payload is the twentieth answer, in one slice it is not heard
swallows_cut : LargerCutAnyhow swallows → ⊥
unfolding code_at answer_code done_in said_in uses_say last_of before_first reflect polynomial bit_step bit_steps byte_step register final_xor crc_of searching store same finish judge step wrote bad_decoder wrong_buffer pushed push_record act
swallows_cut h =
    let z : ◌≡◌ {A = ℕ} 0 1018 = ap (code_at 19) (h (sized 8) (sized 8) (zeroed 8) (zeroed 8) own8 own8 (is_first refl) refl (omega arith) (map one_op (map push (frame1 ++ 0x00 ∷ []))) (slice (frame1 ++ 0x00 ∷ []) ∷ []) refl).says in
    omega arith

-- ---- claims

for_any_two : ForAnyTwo ours → ⊥
unfolding answers before_first reflect polynomial bit_step bit_steps byte_step register final_xor crc_of searching store same finish judge step wrote bad_decoder wrong_buffer pushed push_record act
for_any_two h =
    let z : ◌≡◌ {A = ℕ} 19 20 = ap length (h (sized 8) (sized 7) (zeroed 8) (zeroed 7) own8 own7 refl (map push frame1)).says in
    omega arith

-- a stray 1b before B1's frame: the second way hears it, the first doesn't
across_ways : AcrossWays ours → ⊥
unfolding code_at answer_code answers before_first most_matched greatest reflect polynomial bit_step bit_steps byte_step register final_xor crc_of searching store same finish judge step wrote bad_decoder wrong_buffer pushed push_record act
across_ways h =
    let z : ◌≡◌ {A = ℕ} 0 1018 = ap (code_at 20) (h (in_way second_way 8) (sized 8) (zeroed 8) (zeroed 8) (own (in_way second_way 8) (omega arith)) own8 (omega arith) (map push (0x1b ∷ frame1))).says in
    omega arith

-- at B1's last byte the smaller one is full, the larger one has the payload
full_answer_too : FullAnswerToo ours → ⊥
unfolding code_at answer_code answers with_full reflect polynomial bit_step bit_steps byte_step register final_xor crc_of searching store same finish judge step wrote bad_decoder wrong_buffer pushed push_record act
full_answer_too h =
    let z : ◌≡◌ {A = ℕ} 1018 3000 = ap (code_at 19) (h (sized 7) (sized 8) (zeroed 7) (zeroed 8) own7 own8 refl (omega arith) (map push frame1)) in
    omega arith

-- the nine bytes, which nothing ends, then B1's frame: with eight bytes of room the ninth is OutOfMemory and the frame is found; with nine its start finds no room for the four bytes behind an escape
hears_as_many : HearsAsMany ours → ⊥
unfolding nine_bytes payloads_among answers reflect polynomial bit_step bit_steps byte_step register final_xor crc_of searching store same finish judge step wrote bad_decoder wrong_buffer pushed push_record act
hears_as_many h =
    let z : 1 ≤ 0 = h (sized 8) (sized 9) (zeroed 8) (zeroed 9) own8 own9 refl (omega arith) (map push (nine_bytes ++ frame1)) in
    omega arith

pub fall_larger : FallLarger
fall_larger =
    record {
      seven_say = seven_say;
      eight_say = eight_say;
      stores_less_claim = stores_less_claim;
      stores_less_slices = stores_less_slices;
      stores_less_cut = stores_less_cut;
      second_stores_less_claim = second_stores_less_claim;
      larger_hands_nothing_claim = larger_hands_nothing_claim;
      larger_hands_nothing_slices = larger_hands_nothing_slices;
      larger_hands_nothing_cut = larger_hands_nothing_cut;
      hands_the_buffer_claim = hands_the_buffer_claim;
      reset_counts_room_claim = reset_counts_room_claim;
      finalize_counts_room_claim = finalize_counts_room_claim;
      hesitates_slices = hesitates_slices;
      looks_ahead_slices = looks_ahead_slices;
      denies_larger_claim = denies_larger_claim;
      swallows_cut = swallows_cut;
      for_any_two = for_any_two;
      across_ways = across_ways;
      full_answer_too = full_answer_too;
      hears_as_many = hears_as_many;
    }
