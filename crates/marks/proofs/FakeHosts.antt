-- Each fake of a host falls: one small call, computed, is not what the claim says.
use mathlib.Core.Path.{◌≡◌, refl, ap}
use mathlib.Core.List.{List, [], ◌∷◌, ◌++◌}
use Prim.Native.Nat.{ℕ}
use native.Mathlib.Omega.{arith}
use lib.ListN.{length, get_or, replicate}
use Rattle.frame.specs.Frame.{same}
use Rattle.decoder.specs.Push.{sized, in_way, done, searching, step, reset_count}
use Rattle.decoder.specs.Record.{DecoderAnswer, nothing, payload, count, refusal, wrote, bad_decoder, wrong_buffer, has_payload, new_record, record_of, pushed, push_record, reset_record, payload_record}
use Rattle.decoder.specs.Run.{is_first, push, reset, act}
use Rattle.decoder.specs.declared.Decoder.{Decoder}
use Rattle.decoder_slice.specs.Slice.{pushes_from, slice_record}
use Rattle.packed.specs.Layout.{Narrow, low_first, number_at_claim, state_in, packed_bytes, packed_in, record_in}
use Rattle.packed.specs.Packed.{Filled, Unpacked, holds, no_record, pack_into, unpack_of, push_packed, reset_packed}
use Rattle.marks.specs.Decoders.{Gave, answers}
use Rattle.marks.specs.Packed.{RoundTrip, Exactly, PacksWhatPushes, PacksInOrder, ActsAlike, SlicesAlike, HandsAlike, Serves, LeavesRefused, AnswersAlike}
use Rattle.marks.specs.FakeHosts.{unpacks_nothing, packs_constants, new_bytes, packs_any, unpacks_any, only_answers, says_nothing_ever, hands_nothing, clears_refused, grows_output, room_first, clears_rest, refuses_longer, resets_any, FallHosts}
use Rattle.marks.proofs.Narrow.{zeros_bytes, new_narrow}

abbrev host_new : Decoder
host_new = new_record (sized 8)

abbrev zeros28 : List ℕ
zeros28 = replicate 28 0

abbrev eight_bytes : List ℕ
eight_bytes = replicate 8 0

-- behind a payload of one byte
abbrev paid_byte : Decoder
paid_byte = record_of (sized 8) (done (0 ∷ []))

paid_byte_narrow : Narrow paid_byte
paid_byte_narrow = record { crc = omega arith; raw = omega arith; noise = omega arith }

-- a number for an answer, and for what was unpacked
code_of : DecoderAnswer → ℕ
code_of nothing = 100
code_of (payload bytes) = 101
code_of (count n) = 200
code_of (refusal n values) = n

capacity_of : Unpacked → ℕ
capacity_of (holds d) = d.capacity
capacity_of (no_record n) = 0

second_of : List DecoderAnswer → ℕ
second_of [] = 0
second_of (a ∷ []) = 0
second_of (a ∷ nothing ∷ more) = 0
second_of (a ∷ payload bytes ∷ more) = 0
second_of (a ∷ count n ∷ more) = n
second_of (a ∷ refusal n values ∷ more) = 0

unpacks_nothing_claim : RoundTrip unpacks_nothing → ⊥
unfolding pack_into bad_decoder capacity_of
unpacks_nothing_claim h = let n : ◌≡◌ {A = ℕ} 0 8 = ap capacity_of (h host_new zeros28 (new_narrow (sized 8)) refl).0 in omega (arith, n)

packs_constants_claim : RoundTrip packs_constants → ⊥
unfolding unpack_of pack_into bad_decoder packed_in packed_bytes low_first record_in number_at_claim state_in same capacity_of
packs_constants_claim h = let n : ◌≡◌ {A = ℕ} 8 9 = ap capacity_of (h (new_record (sized 9)) zeros28 (new_narrow (sized 9)) refl).0 in omega (arith, n)

packs_any_claim : PacksWhatPushes packs_any → ⊥
unfolding push_record bad_decoder code_of
packs_any_claim h = let n : ◌≡◌ {A = ℕ} 100 4 = ap code_of ((h (new_record (in_way 3 8)) zeros28 eight_bytes 0).1 refl) in omega (arith, n)

unpacks_any_claim : Exactly unpacks_any → ⊥
unfolding pack_into bad_decoder record_in number_at_claim state_in code_of
unpacks_any_claim h = let n : ◌≡◌ {A = ℕ} 4 100 = ap (λ (f : Filled). code_of f.answer) (h.gives [] (record_in []) (λ i. omega arith) refl).1 in omega (arith, n)

only_answers_claim : ActsAlike only_answers → ⊥
unfolding pack_into bad_decoder packed_in packed_bytes low_first act push_record pushed wrong_buffer wrote step searching
only_answers_claim h = let n : ◌≡◌ {A = ℕ} 1 0 = ap (λ (f : Filled). get_or f.output 16 0) (h host_new zeros28 eight_bytes (push 0) (new_narrow (sized 8)) refl).2 in omega (arith, n)

only_answers_slice : SlicesAlike only_answers → ⊥
unfolding pack_into bad_decoder packed_in packed_bytes low_first slice_record pushes_from push_record pushed wrong_buffer wrote step searching
only_answers_slice h = let n : ◌≡◌ {A = ℕ} 1 0 = ap (λ (f : Filled). get_or f.output 16 0) (h host_new zeros28 eight_bytes (0 ∷ []) (new_narrow (sized 8)) refl).3 in omega (arith, n)

only_answers_run : AnswersAlike only_answers → ⊥
unfolding answers act unpack_of pack_into bad_decoder packed_in packed_bytes low_first record_in number_at_claim state_in same push_packed reset_packed push_record reset_record reset_count pushed wrong_buffer wrote step searching second_of
only_answers_run h = let n : ◌≡◌ {A = ℕ} 0 1 = ap second_of (h (sized 8) eight_bytes (push 0 ∷ reset ∷ []) (is_first refl) (omega arith) (zeros_bytes 8) (omega arith, tt)).0 in omega (arith, n)

says_nothing_lem : Serves says_nothing_ever → ⊥
unfolding unpack_of pack_into bad_decoder packed_in packed_bytes low_first record_in number_at_claim state_in same code_of
says_nothing_lem h =
    let n : ◌≡◌ {A = ℕ} 100 5 = ap (λ (g : Gave (List ℕ)). code_of g.answer) ((h new_bytes [] host_new 0 refl).2 (λ e. let z : ◌≡◌ {A = ℕ} 0 8 = e in omega (arith, z))) in
    omega (arith, n)

hands_nothing_claim : HandsAlike hands_nothing → ⊥
unfolding pack_into bad_decoder payload_record has_payload wrong_buffer
hands_nothing_claim h = let n : ◌≡◌ {A = ℕ} 0 1 = ap length (h paid_byte zeros28 eight_bytes paid_byte_narrow refl).0 in omega (arith, n)

clears_refused_claim : LeavesRefused clears_refused → ⊥
clears_refused_claim h =
    let n : ◌≡◌ {A = ℕ} 0 1 = ap (λ (l : List ℕ). get_or l 0 0) (h.output host_new (1 ∷ []) (λ e. let z : ◌≡◌ {A = ℕ} 0 1 = cc in omega arith)) in
    omega (arith, n)

grows_output_claim : PacksInOrder grows_output → ⊥
unfolding bad_decoder packed_in packed_bytes low_first
grows_output_claim h = let n : ◌≡◌ {A = ℕ} 28 0 = h.as_long host_new [] in omega (arith, n)

room_first_claim : PacksInOrder room_first → ⊥
unfolding bad_decoder code_of
room_first_claim h = let n : ◌≡◌ {A = ℕ} 18 5 = ap code_of (h.over (new_record (sized 1048577)) [] refl (omega arith)) in omega (arith, n)

clears_rest_claim : RoundTrip clears_rest → ⊥
unfolding pack_into bad_decoder packed_in packed_bytes low_first
clears_rest_claim h = let n : ◌≡◌ {A = ℕ} 0 1 = ap (λ (l : List ℕ). get_or l 0 0) (h host_new (zeros28 ++ 1 ∷ []) (new_narrow (sized 8)) refl).1 in omega (arith, n)

refuses_longer_claim : Exactly refuses_longer → ⊥
unfolding pack_into bad_decoder packed_in packed_bytes low_first capacity_of
refuses_longer_claim h = let n : ◌≡◌ {A = ℕ} 0 8 = ap capacity_of (h.takes (new_bytes ++ 0 ∷ []) zeros28 host_new (new_narrow (sized 8)) refl refl) in omega (arith, n)

resets_any_claim : LeavesRefused resets_any → ⊥
unfolding unpack_of pack_into bad_decoder packed_in packed_bytes low_first record_in number_at_claim state_in same code_of
resets_any_claim h = let n : ◌≡◌ {A = ℕ} 200 4 = ap (λ (g : Gave (List ℕ)). code_of g.answer) (h.bytes zeros28 [] reset 4 refl) in omega (arith, n)

pub fall_hosts : FallHosts
fall_hosts =
    record {
      unpacks_nothing_claim = unpacks_nothing_claim;
      packs_constants_claim = packs_constants_claim;
      packs_any_claim = packs_any_claim;
      unpacks_any_claim = unpacks_any_claim;
      only_answers_claim = only_answers_claim;
      only_answers_slice = only_answers_slice;
      only_answers_run = only_answers_run;
      says_nothing = says_nothing_lem;
      hands_nothing_claim = hands_nothing_claim;
      clears_refused_claim = clears_refused_claim;
      grows_output_claim = grows_output_claim;
      room_first_claim = room_first_claim;
      clears_rest_claim = clears_rest_claim;
      refuses_longer_claim = refuses_longer_claim;
      resets_any_claim = resets_any_claim;
    }
