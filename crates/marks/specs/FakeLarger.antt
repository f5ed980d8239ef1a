-- check: fakes from which a larger buffer takes something away, and claims on larger buffers that are false of ours.
use Rattle.std.specs.Prelude.{◌≡◌, cond, List, [], ◌∷◌, ◌++◌, map, ℕ, suc, ◌+◌, ◌≤◌, length, take, drop, replicate, eqb, ltb}
use Rattle.refusals.specs.Numbers.{decoder_out_of_memory_no, bad_span_no}
use Rattle.decoder.specs.Push.{second_way, sized, in_way}
use Rattle.decoder.specs.Record.{DecoderAnswer, nothing, payload, count, refusal, has_payload, ask_record}
use Rattle.decoder.specs.Run.{Op, push, finalize, reset}
use Rattle.decoder.specs.declared.Decoder.{Decoder}
use Rattle.decoder.specs.declared.Setup.{Setup}
use Rattle.marks.specs.Decoders.{Gave, Machine, ours}
use Rattle.marks.specs.Chunks.{GaveSlice, Slicer, our_slicer}
use Rattle.marks.specs.Larger.{is_full, before_full, BeginsWith, OwnBuffer, new_says, LosesNothing, Larger, LargerBySlices, LargerAsked, LargerCutAnyhow}
use Rattle.marks.specs.Bench.{payload1, frame1}
use Rattle.marks.specs.Fakes.{swallows}

-- ---- fakes

-- of a buffer of more than eight bytes seven are used, one less than of a buffer of eight
abbrev pub used_of : ℕ → ℕ
used_of size = cond (ltb 8 size) 7 size

-- the larger buffer stores one byte less; the bytes of the buffer behind those that are used stay
abbrev pub stores_less : Slicer Decoder
stores_less =
    record {
      machine = record {
        new = λ C. ours.new (in_way C.way (used_of C.capacity));
        act = λ d m o.
            let a = ours.act d (take d.capacity m) o in
            record { answer = a.answer; decoder = a.decoder; memory = a.memory ++ drop d.capacity m };
        payload_of = λ d m. ours.payload_of d (take d.capacity m);
      };
      push_slice = λ d m bytes.
          let t = our_slicer.push_slice d (take d.capacity m) bytes in
          record { answer = t.answer; taken = t.taken; decoder = t.decoder; memory = t.memory ++ drop d.capacity m };
    }

-- ours, but of a buffer of more than eight bytes no payload is handed back
abbrev pub larger_hands_nothing : Slicer Decoder
larger_hands_nothing =
    record {
      machine = record { new = ours.new; act = ours.act; payload_of = λ d m. cond (ltb 8 d.capacity) [] (ours.payload_of d m) };
      push_slice = our_slicer.push_slice;
    }

-- what it answers: so many more at reset's count, and at a refusal with one number, which only DiscardedBytes has
abbrev pub counted_up : ℕ → DecoderAnswer → DecoderAnswer
counted_up extra nothing = nothing
counted_up extra (payload bytes) = payload bytes
counted_up extra (count k) = count (extra + k)
counted_up extra (refusal k []) = refusal k []
counted_up extra (refusal k (v ∷ [])) = refusal k ((extra + v) ∷ [])
counted_up extra (refusal k (v ∷ more ∷ values)) = refusal k (v ∷ more ∷ values)

abbrev pub with_room : Gave Decoder → List ℕ → Gave Decoder
with_room a m = record { answer = counted_up (length m) a.answer; decoder = a.decoder; memory = a.memory }

abbrev pub room_at_reset : Decoder → List ℕ → Op → Gave Decoder
room_at_reset d m (push b) = ours.act d m (push b)
room_at_reset d m finalize = ours.act d m finalize
room_at_reset d m reset = with_room (ours.act d m reset) m

abbrev pub room_at_finalize : Decoder → List ℕ → Op → Gave Decoder
room_at_finalize d m (push b) = ours.act d m (push b)
room_at_finalize d m finalize = with_room (ours.act d m finalize) m
room_at_finalize d m reset = ours.act d m reset

-- ours, but reset counts the bytes of the buffer, too; and one whose finalize does
abbrev pub reset_counts_room : Machine Decoder
reset_counts_room = record { new = ours.new; act = room_at_reset; payload_of = ours.payload_of }

abbrev pub finalize_counts_room : Machine Decoder
finalize_counts_room = record { new = ours.new; act = room_at_finalize; payload_of = ours.payload_of }

-- right in the first way; in the second the larger buffer stores one byte less
abbrev pub second_stores_less : Machine Decoder
second_stores_less = record { new = λ C. cond (eqb C.way second_way) (stores_less.machine.new C) (ours.new C); act = stores_less.machine.act; payload_of = stores_less.machine.payload_of }

-- ours, but where no payload stands the buffer is handed back, whatever is in it
abbrev pub hands_the_buffer : Machine Decoder
hands_the_buffer = record { new = ours.new; act = ours.act; payload_of = λ d m. cond (has_payload d m) (ours.payload_of d m) m }

-- ours, but with a buffer of more than eight bytes it takes one byte of a slice
abbrev pub hesitates : Slicer Decoder
hesitates = record { machine = ours; push_slice = λ d m bytes. our_slicer.push_slice d m (cond (ltb 8 d.capacity) (take 1 bytes) bytes) }

-- what it gives of a slice: where it would leave more than eight bytes stored, OutOfMemory at its first byte
abbrev pub ahead_refused : GaveSlice Decoder → Decoder → List ℕ → GaveSlice Decoder
ahead_refused t d m = cond (ltb 8 t.decoder.fill) (record { answer = refusal decoder_out_of_memory_no []; taken = 1; decoder = d; memory = m }) t

-- ours, but it looks at a slice before it takes it
abbrev pub looks_ahead : Slicer Decoder
looks_ahead = record { machine = ours; push_slice = λ d m bytes. ahead_refused (our_slicer.push_slice d m bytes) d m }

-- what it says where it is asked for the payload: none stands in a buffer of more than eight bytes
abbrev pub denies_larger : Decoder → List ℕ → DecoderAnswer
denies_larger d m = cond (ltb 8 d.capacity) (refusal bad_span_no []) (ask_record d m)

-- ---- what is not claimed

-- of any two capacities
abbrev pub ForAnyTwo : {S : Type 0} → Machine S → Type 0
ForAnyTwo M = (C D : Setup) (m n : List ℕ) → OwnBuffer C m → OwnBuffer D n → C.way ≡ D.way → (os : List Op) → LosesNothing M C D m n os

-- of two ways of searching
abbrev pub AcrossWays : {S : Type 0} → Machine S → Type 0
AcrossWays M = (C D : Setup) (m n : List ℕ) → OwnBuffer C m → OwnBuffer D n → C.capacity ≤ D.capacity → (os : List Op) → LosesNothing M C D m n os

-- the answers up to the first OutOfMemory, and with it
unfoldable pub with_full : List DecoderAnswer → List DecoderAnswer
with_full [] = []
with_full (a ∷ more) = a ∷ cond (is_full a) [] (with_full more)

-- that answer is the same, too
abbrev pub FullAnswerToo : {S : Type 0} → Machine S → Type 0
FullAnswerToo M = (C D : Setup) (m n : List ℕ) → OwnBuffer C m → OwnBuffer D n → C.way ≡ D.way → C.capacity ≤ D.capacity → (os : List Op) → BeginsWith (new_says M D n os) (with_full (new_says M C m os))

-- how many payloads there are among the answers
unfoldable pub payloads_among : List DecoderAnswer → ℕ
payloads_among [] = 0
payloads_among (nothing ∷ more) = payloads_among more
payloads_among (payload bytes ∷ more) = suc (payloads_among more)
payloads_among (count k ∷ more) = payloads_among more
payloads_among (refusal k values ∷ more) = payloads_among more

-- the larger one hears as many frames, also behind the smaller one's first OutOfMemory
abbrev pub HearsAsMany : {S : Type 0} → Machine S → Type 0
HearsAsMany M = (C D : Setup) (m n : List ℕ) → OwnBuffer C m → OwnBuffer D n → C.way ≡ D.way → C.capacity ≤ D.capacity → (os : List Op) → payloads_among (new_says M C m os) ≤ payloads_among (new_says M D n os)

-- each of the fakes falls, and by slices too where they are given, and each of these claims is false of ours. B1's frame with seven bytes of room: nothing before its last byte, which is OutOfMemory; with eight, its payload there
pub record FallLarger : Type 0 where
  pub seven_say : before_full (new_says ours (sized 7) (replicate 7 0x00) (map push frame1)) ≡ replicate 19 nothing
  pub eight_say : before_full (new_says ours (sized 8) (replicate 8 0x00) (map push frame1)) ≡ replicate 19 nothing ++ payload payload1 ∷ []
  pub stores_less_claim : Larger stores_less.machine → ⊥
  pub stores_less_slices : LargerBySlices stores_less → ⊥
  pub stores_less_cut : LargerCutAnyhow stores_less → ⊥
  pub second_stores_less_claim : Larger second_stores_less → ⊥
  pub larger_hands_nothing_claim : Larger larger_hands_nothing.machine → ⊥
  pub larger_hands_nothing_slices : LargerBySlices larger_hands_nothing → ⊥
  pub larger_hands_nothing_cut : LargerCutAnyhow larger_hands_nothing → ⊥
  pub hands_the_buffer_claim : Larger hands_the_buffer → ⊥
  pub reset_counts_room_claim : Larger reset_counts_room → ⊥
  pub finalize_counts_room_claim : Larger finalize_counts_room → ⊥
  pub hesitates_slices : LargerBySlices hesitates → ⊥
  pub looks_ahead_slices : LargerBySlices looks_ahead → ⊥
  pub denies_larger_claim : LargerAsked our_slicer denies_larger → ⊥
  pub swallows_cut : LargerCutAnyhow swallows → ⊥
  pub for_any_two : ForAnyTwo ours → ⊥
  pub across_ways : AcrossWays ours → ⊥
  pub full_answer_too : FullAnswerToo ours → ⊥
  pub hears_as_many : HearsAsMany ours → ⊥
