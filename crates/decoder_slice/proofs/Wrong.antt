-- What the contract rules out: each wrong reading of docs/WRONG-READINGS.md that is told here is an outcome that the definition does not allow, at a small input.
use mathlib.Core.Path.{◌≡◌, ap}
use mathlib.Core.List.{List, [], ◌∷◌}
use Rattle.std.specs.Prelude.{false, Ok, Err}
use Prim.Native.Nat.{ℕ}
use native.Mathlib.Omega.{arith}
use lib.ListN.{replicate}
use Rattle.frame.specs.Frame.{start_seq, same}
use Rattle.search.specs.Search.{most_matched, greatest}
use Rattle.decoder.specs.Push.{in_way, second_way, sized, searching, step}
use Rattle.decoder.specs.Record.{DecoderAnswer, nothing, payload, count, refusal, wrote, bad_decoder, wrong_buffer, new_record, pushed, push_record}
use Rattle.decoder.specs.declared.Decoder.{Decoder}
use Rattle.decoder.specs.declared.DecodeErr.TheVariants.{BadState}
use Rattle.decoder_slice.specs.Slice.{Took, after_slice, pushes_from, slice_record}

-- the number of a refusal
refused_slice : DecoderAnswer → ℕ
refused_slice nothing = 0
refused_slice (payload bytes) = 0
refused_slice (count n) = 0
refused_slice (refusal k values) = k

-- seven bytes lent to a decoder of eight: 5, not 4
wrong_buffer_as_bad_state : (d : Decoder) (taken : ℕ) (m : List ℕ) → after_slice (record { decoder = d; event = Err BadState; taken = taken }) m ≡ slice_record (new_record (sized 8)) (replicate 7 0) [] → ⊥
unfolding slice_record bad_decoder wrong_buffer refused_slice
wrong_buffer_as_bad_state d taken m h = let n : ◌≡◌ {A = ℕ} 4 5 = ap (λ (t : Took). refused_slice t.answer) h in omega (arith, n)

-- a stray 1b and a start sequence in the second way: 6 for one byte of noise, not silence as where the first way's stretch, with its fives, runs in both
slice_fives_in_both_ways : (d : Decoder) (taken : ℕ) (m : List ℕ) → after_slice (record { decoder = d; event = Ok false; taken = taken }) m ≡ slice_record (new_record (in_way second_way 8)) (replicate 8 0) (0x1b ∷ start_seq) → ⊥
unfolding slice_record pushes_from push_record pushed bad_decoder wrong_buffer wrote step searching most_matched greatest same refused_slice
slice_fives_in_both_ways d taken m h = let n : ◌≡◌ {A = ℕ} 0 6 = ap (λ (t : Took). refused_slice t.answer) h in omega (arith, n)

-- a broken start and a whole one: 6 for five bytes of noise, not silence as where the byte that breaks a start begins none
slice_second_way_keeps_none : (d : Decoder) (taken : ℕ) (m : List ℕ) → after_slice (record { decoder = d; event = Ok false; taken = taken }) m ≡ slice_record (new_record (in_way second_way 8)) (replicate 8 0) (0x1b ∷ 0x1b ∷ 0x1b ∷ 0x1b ∷ 0x01 ∷ start_seq) → ⊥
unfolding slice_record pushes_from push_record pushed bad_decoder wrong_buffer wrote step searching most_matched greatest same refused_slice
slice_second_way_keeps_none d taken m h = let n : ◌≡◌ {A = ℕ} 0 6 = ap (λ (t : Took). refused_slice t.answer) h in omega (arith, n)
