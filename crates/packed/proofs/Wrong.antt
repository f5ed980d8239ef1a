-- What the contracts rule out: each wrong reading of docs/WRONG-READINGS.md that is told here is an outcome that the definition does not allow, at a small input.
use mathlib.Core.Path.{◌≡◌, ap, sym, ◌∙◌}
use mathlib.Core.Bool.{true}
use mathlib.Core.List.{List, [], ◌∷◌, ◌++◌}
use Prim.Native.Nat.{ℕ}
use native.Mathlib.Omega.{arith}
use lib.ListN.{length, replicate, get_or}
use Rattle.decided.specs.Part.{LentPart, part_at}
use Rattle.frame.specs.Frame.{same}
use Rattle.decoder.specs.Push.{sized, in_way, search, searching, step, finalized, reset_count}
use Rattle.decoder.specs.Record.{Event, DecoderAnswer, nothing, payload, count, refusal, flag, answer_asked, wrote, bad_decoder, wrong_buffer, has_payload, record_with, new_record, record_of, pushed, push_record, finalize_record, reset_record, payload_record, ask_record}
use Rattle.decoder.specs.declared.DecodeState.TheVariants.{Done}
use Rattle.decoder.specs.declared.Decoder.{Decoder}
use Rattle.decoder.specs.declared.DecodeErr.TheVariants.{BadState, WrongBuffer}
use Rattle.decoder_slice.specs.Slice.{pushes_from, slice_record}
use Rattle.in_place.specs.declared.Taken.{Taken}
use Rattle.packed.specs.Layout.{low_first, number_at_claim, state_in, packed_bytes, packed_in, record_in}
use Rattle.packed.specs.Packed.{Filled, filled, pack_into, Unpacked, holds, no_record, unpacked_as, unpack_of, KeptBytes, kept_push, push_packed, Tried, tried, plain_packed, KeptSlice, kept_slice, slice_packed, KeptLeft, kept_event, finalize_packed, kept_reset, reset_packed, payload_packed, ask_packed}
use Rattle.packed.specs.declared.BadState.{BadState as NoRecord}
use Rattle.packed.specs.declared.PackError.TheVariants as P
use Rattle.std.specs.Prelude.{Ok, Err}

-- a new decoder of capacity 8, in the first way and in the second; a search of the second way behind 00 1b 1b; one behind a payload whose unused counts aren't 0
abbrev new_one : Decoder
new_one = new_record (sized 8)

abbrev second8 : Decoder
second8 = new_record (in_way 2 8)

abbrev seeking_two : Decoder
seeking_two = record_of (in_way 2 8) (search 2 1 3)

abbrev unused_left : Decoder
unused_left = record_with (sized 8) 4 7 0x1234 2 Done

-- a capacity over the limit, and a fill over that besides
abbrev over_limit : Decoder
over_limit = new_record (sized 1048577)

abbrev over_filled : Decoder
over_filled = record_with (sized 1048577) 1048578 0 0xffff 0 Done

-- outputs of 28 bytes and more, and a buffer
abbrev output28 : List ℕ
output28 = replicate 28 0xee

abbrev output30 : List ℕ
output30 = replicate 30 0xee

abbrev memory8 : List ℕ
memory8 = replicate 8 0

-- the bytes of the new decoder, of the search, of one where a frame has begun, and of one behind a payload of one byte
abbrev new_row : List ℕ
new_row = 0 ∷ 0 ∷ 1 ∷ 0 ∷ 0xff ∷ 0xff ∷ replicate 18 0 ++ 8 ∷ 0 ∷ 0 ∷ 0 ∷ []

abbrev seeking_row : List ℕ
seeking_row = 0 ∷ 2 ∷ 2 ∷ 0 ∷ 0xff ∷ 0xff ∷ replicate 10 0 ++ 3 ∷ 0 ∷ 0 ∷ 0 ∷ 1 ∷ 0 ∷ 0 ∷ 0 ∷ 8 ∷ 0 ∷ 0 ∷ 0 ∷ []

abbrev begun_row : List ℕ
begun_row = 1 ∷ 0 ∷ 1 ∷ 0 ∷ 0xdc ∷ 0x91 ∷ replicate 10 0 ++ 8 ∷ replicate 7 0 ++ 8 ∷ 0 ∷ 0 ∷ 0 ∷ []

abbrev paid_row : List ℕ
paid_row = 4 ∷ 0 ∷ 1 ∷ 0 ∷ 0xff ∷ 0xff ∷ 0 ∷ 0 ∷ 1 ∷ replicate 15 0 ++ 8 ∷ 0 ∷ 0 ∷ 0 ∷ []

-- what a refusal's number is, and what a count says
no_of : DecoderAnswer → ℕ
no_of nothing = 0
no_of (payload bytes) = 0
no_of (count n) = n
no_of (refusal n values) = n

-- 1 for a record, else the refusal's number
held_of : Unpacked → ℕ
held_of (holds d) = 1
held_of (no_record n) = n

-- ---- packing

kinds_from_one : (m : List ℕ) → get_or m 0 0 ≡ 1 → filled (Ok tt) m ≡ pack_into new_one output28 → ⊥
unfolding pack_into bad_decoder packed_in packed_bytes low_first
kinds_from_one m k h = let b : ◌≡◌ {A = ℕ} (get_or m 0 0) 0 = ap (λ (f : Filled). get_or f.output 0 0) h in omega (arith, k, b)

way_left_out : (m : List ℕ) → get_or m 2 0 ≡ 1 → filled (Ok tt) m ≡ pack_into second8 output28 → ⊥
unfolding pack_into bad_decoder packed_in packed_bytes low_first
way_left_out m k h = let b : ◌≡◌ {A = ℕ} (get_or m 2 0) 2 = ap (λ (f : Filled). get_or f.output 2 0) h in omega (arith, k, b)

noise_and_raw_swapped : (m : List ℕ) → get_or m 16 0 ≡ 1 → get_or m 20 0 ≡ 3 → filled (Ok tt) m ≡ pack_into seeking_two output28 → ⊥
unfolding pack_into bad_decoder packed_in packed_bytes low_first
noise_and_raw_swapped m k l h = let b : ◌≡◌ {A = ℕ} (get_or m 16 0) 3 = ap (λ (f : Filled). get_or f.output 16 0) h in omega (arith, k, b)

unused_counts_kept : (m : List ℕ) → get_or m 12 0 ≡ 2 → get_or m 16 0 ≡ 7 → filled (Ok tt) m ≡ pack_into unused_left output28 → ⊥
unfolding pack_into bad_decoder packed_in packed_bytes low_first
unused_counts_kept m k l h = let b : ◌≡◌ {A = ℕ} (get_or m 12 0) 0 = ap (λ (f : Filled). get_or f.output 12 0) h in omega (arith, k, b)

room_before_capacity : (m : List ℕ) → filled (Err P.OutputTooShort) m ≡ pack_into over_limit [] → ⊥
unfolding pack_into bad_decoder packed_in packed_bytes low_first no_of
room_before_capacity m h = let n : ◌≡◌ {A = ℕ} 18 5 = ap (λ (f : Filled). no_of f.answer) h in omega (arith, n)

capacity_before_state : (m : List ℕ) → filled (Err P.WrongBuffer) m ≡ pack_into over_filled output28 → ⊥
unfolding pack_into bad_decoder packed_in packed_bytes low_first no_of
capacity_before_state m h = let n : ◌≡◌ {A = ℕ} 5 4 = ap (λ (f : Filled). no_of f.answer) h in omega (arith, n)

rest_of_output_cleared : (m : List ℕ) → get_or m 28 0 ≡ 0 → filled (Ok tt) m ≡ pack_into new_one output30 → ⊥
unfolding pack_into bad_decoder packed_in packed_bytes low_first
rest_of_output_cleared m k h = let b : ◌≡◌ {A = ℕ} (get_or m 28 0) 0xee = ap (λ (f : Filled). get_or f.output 28 0) h in omega (arith, k, b)

-- ---- unpacking

zeros_not_looked_at : (d : Decoder) → unpacked_as (Ok d) ≡ unpack_of (0 ∷ 2 ∷ 2 ∷ 0 ∷ 0xff ∷ 0xff ∷ 0 ∷ 1 ∷ replicate 8 0 ++ 3 ∷ 0 ∷ 0 ∷ 0 ∷ 1 ∷ 0 ∷ 0 ∷ 0 ∷ 8 ∷ 0 ∷ 0 ∷ 0 ∷ []) → ⊥
unfolding pack_into bad_decoder packed_in packed_bytes low_first unpack_of record_in number_at_claim state_in same held_of
zeros_not_looked_at d h = let n : ◌≡◌ {A = ℕ} 1 4 = ap held_of h in omega (arith, n)

longer_bytes_refused : (b : NoRecord) → unpacked_as (Err b) ≡ unpack_of (new_row ++ 0xee ∷ []) → ⊥
unfolding pack_into bad_decoder packed_in packed_bytes low_first unpack_of record_in number_at_claim state_in same held_of
longer_bytes_refused b h = let n : ◌≡◌ {A = ℕ} 4 1 = ap held_of h in omega (arith, n)

zeros_are_a_new_decoder : (d : Decoder) → unpacked_as (Ok d) ≡ unpack_of (replicate 28 0) → ⊥
unfolding pack_into bad_decoder packed_in packed_bytes low_first unpack_of record_in number_at_claim state_in same held_of
zeros_are_a_new_decoder d h = let n : ◌≡◌ {A = ℕ} 1 4 = ap held_of h in omega (arith, n)

-- ---- the push

packed_push_keeps_the_bytes : (e : Event) (m : List ℕ) → kept_push e new_row m ≡ push_packed new_row memory8 0x1b → ⊥
unfolding pack_into bad_decoder packed_in packed_bytes low_first unpack_of record_in number_at_claim state_in same push_packed push_record pushed wrong_buffer wrote step searching
packed_push_keeps_the_bytes e m h = let raw : ◌≡◌ {A = ℕ} 0 1 = ap (λ (k : KeptBytes). get_or k.bytes 16 0) h in omega (arith, raw)

packed_push_judges_the_buffer_first : (l m : List ℕ) → kept_push (Err WrongBuffer) l m ≡ push_packed (replicate 28 0) memory8 0x1b → ⊥
unfolding pack_into bad_decoder packed_in packed_bytes low_first unpack_of record_in number_at_claim state_in same push_packed push_record pushed wrong_buffer wrote step searching no_of
packed_push_judges_the_buffer_first l m h = let n : ◌≡◌ {A = ℕ} 5 4 = ap (λ (k : KeptBytes). no_of k.answer) h in omega (arith, n)

-- ---- the push that has a short way

plain_push_stores_a_1b : (l m : List ℕ) → tried true l m ≡ plain_packed begun_row memory8 0x1b → ⊥
unfolding pack_into bad_decoder packed_in packed_bytes low_first unpack_of record_in number_at_claim state_in same plain_packed
plain_push_stores_a_1b l m h = let n : ◌≡◌ {A = ℕ} 1 0 = ap (λ (t : Tried). flag t.did) h in omega (arith, n)

plain_push_takes_noise : (l m : List ℕ) → tried true l m ≡ plain_packed new_row memory8 0x55 → ⊥
unfolding pack_into bad_decoder packed_in packed_bytes low_first unpack_of record_in number_at_claim state_in same plain_packed
plain_push_takes_noise l m h = let n : ◌≡◌ {A = ℕ} 1 0 = ap (λ (t : Tried). flag t.did) h in omega (arith, n)

-- ---- the push of a slice

packed_slice_keeps_the_bytes : (t : Taken) (m : List ℕ) → kept_slice t new_row m ≡ slice_packed new_row memory8 (0x1b ∷ []) → ⊥
unfolding pack_into bad_decoder packed_in packed_bytes low_first unpack_of record_in number_at_claim state_in same push_packed push_record pushed wrong_buffer wrote step searching slice_packed slice_record pushes_from
packed_slice_keeps_the_bytes t m h = let raw : ◌≡◌ {A = ℕ} 0 1 = ap (λ (k : KeptSlice). get_or k.bytes 16 0) h in omega (arith, raw)

refused_bytes_take_a_byte : (l m : List ℕ) → kept_slice (record { event = Err BadState; taken = 1 }) l m ≡ slice_packed [] [] (0x1b ∷ []) → ⊥
unfolding pack_into bad_decoder packed_in packed_bytes low_first unpack_of record_in number_at_claim state_in same push_packed push_record pushed wrong_buffer wrote step searching slice_packed slice_record pushes_from
refused_bytes_take_a_byte l m h = let n : ◌≡◌ {A = ℕ} 1 0 = ap (λ (k : KeptSlice). k.taken) h in omega (arith, n)

-- ---- finalize and reset

packed_finalize_keeps_the_bytes : (e : Event) → kept_event e seeking_row ≡ finalize_packed seeking_row → ⊥
unfolding pack_into bad_decoder packed_in packed_bytes low_first unpack_of record_in number_at_claim state_in same finalize_packed finalize_record finalized
packed_finalize_keeps_the_bytes e h = let raw : ◌≡◌ {A = ℕ} 3 0 = ap (λ (k : KeptLeft). get_or k.bytes 16 0) h in omega (arith, raw)

packed_finalize_forgets_the_way : (e : Event) (l : List ℕ) → get_or l 2 0 ≡ 1 → kept_event e l ≡ finalize_packed seeking_row → ⊥
unfolding pack_into bad_decoder packed_in packed_bytes low_first unpack_of record_in number_at_claim state_in same finalize_packed finalize_record finalized
packed_finalize_forgets_the_way e l k h = let b : ◌≡◌ {A = ℕ} (get_or l 2 0) 2 = ap (λ (k : KeptLeft). get_or k.bytes 2 0) h in omega (arith, k, b)

packed_reset_takes_any_bytes : (l : List ℕ) → kept_reset (Ok 0) l ≡ reset_packed (replicate 28 0) → ⊥
unfolding pack_into bad_decoder packed_in packed_bytes low_first unpack_of record_in number_at_claim state_in same reset_packed reset_record reset_count no_of
packed_reset_takes_any_bytes l h = let n : ◌≡◌ {A = ℕ} 0 4 = ap (λ (k : KeptLeft). no_of k.answer) h in omega (arith, n)

packed_reset_counts_noise_alone : (l : List ℕ) → kept_reset (Ok 1) l ≡ reset_packed seeking_row → ⊥
unfolding pack_into bad_decoder packed_in packed_bytes low_first unpack_of record_in number_at_claim state_in same reset_packed reset_record reset_count no_of
packed_reset_counts_noise_alone l h = let n : ◌≡◌ {A = ℕ} 1 3 = ap (λ (k : KeptLeft). no_of k.answer) h in omega (arith, n)

-- ---- the payload

whole_buffer_is_the_payload : (p : LentPart) → p.bytes ≡ memory8 → part_at p 0 p.bytes ≡ part_at p 0 (payload_packed paid_row p.bytes) → ⊥
unfolding pack_into bad_decoder packed_in packed_bytes low_first unpack_of record_in number_at_claim state_in same payload_packed payload_record has_payload wrong_buffer
whole_buffer_is_the_payload p is h =
    let e = ap (λ (x : LentPart). length x.bytes) h in
    let n : ◌≡◌ {A = ℕ} 8 1 = ap length (sym is) ∙ e ∙ ap (λ (m : List ℕ). length (payload_packed paid_row m)) is in
    omega (arith, n)

refused_bytes_hand_out_the_buffer : (p : LentPart) → p.bytes ≡ memory8 → part_at p 0 p.bytes ≡ part_at p 0 (payload_packed [] p.bytes) → ⊥
unfolding pack_into bad_decoder packed_in packed_bytes low_first unpack_of record_in number_at_claim state_in same payload_packed payload_record has_payload wrong_buffer
refused_bytes_hand_out_the_buffer p is h =
    let e = ap (λ (x : LentPart). length x.bytes) h in
    let n : ◌≡◌ {A = ℕ} 8 0 = ap length (sym is) ∙ e ∙ ap (λ (m : List ℕ). length (payload_packed [] m)) is in
    omega (arith, n)

payload_stands_in_a_search : answer_asked (Ok tt) ≡ ask_packed new_row memory8 → ⊥
unfolding pack_into bad_decoder packed_in packed_bytes low_first unpack_of record_in number_at_claim state_in same ask_packed ask_record has_payload wrong_buffer no_of
payload_stands_in_a_search h = let n : ◌≡◌ {A = ℕ} 0 16 = ap no_of h in omega (arith, n)

refused_bytes_have_a_payload : answer_asked (Ok tt) ≡ ask_packed [] memory8 → ⊥
unfolding pack_into bad_decoder packed_in packed_bytes low_first unpack_of record_in number_at_claim state_in same ask_packed ask_record has_payload wrong_buffer no_of
refused_bytes_have_a_payload h = let n : ◌≡◌ {A = ℕ} 0 16 = ap no_of h in omega (arith, n)
