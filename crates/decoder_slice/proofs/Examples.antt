-- Some slices, computed over the definition that the contract cites: the first event and the bytes taken.
use mathlib.Core.Path.{◌≡◌, refl}
use mathlib.Core.List.{List, [], ◌∷◌, ◌++◌, map}
use Prim.Native.Nat.{ℕ}
use lib.ListN.{replicate, drop}
use Rattle.crc_x25.specs.Crc.{reflect, polynomial, bit_step, bit_steps, byte_step, register, final_xor}
use Rattle.frame.specs.Frame.{same}
use Rattle.search.specs.Search.{most_matched, greatest}
use Rattle.decoder.specs.declared.Setup.{Setup}
use Rattle.decoder.specs.Push.{in_way, second_way, sized, searching, store, finish, judge, step}
use Rattle.decoder.specs.Record.{DecoderAnswer, nothing, payload, refusal, wrote, bad_decoder, wrong_buffer, pushed, push_record, new_record}
use Rattle.decoder.proofs.Examples.{sample_frame}
use Rattle.decoder_slice.specs.Slice.{Took, pushes_from, slice_record}

pub record SliceRow : Type 0 where
  pub recorded : Setup
  pub lent : ℕ
  pub bytes : List ℕ
  pub answer : DecoderAnswer
  pub taken : ℕ

abbrev slice_row : Setup → ℕ → List ℕ → DecoderAnswer → ℕ → SliceRow
slice_row C L bs a n = record { recorded = C; lent = L; bytes = bs; answer = a; taken = n }

abbrev pub slice_rows : List SliceRow
slice_rows =
    -- a byte behind a frame isn't taken
    slice_row (sized 8) 8 (sample_frame ++ 0x55 ∷ []) (payload (0x12 ∷ 0x34 ∷ 0x56 ∷ 0x78 ∷ [])) 20
    -- no byte, and a buffer that isn't the recorded one
    ∷ slice_row (sized 8) 8 [] nothing 0
    ∷ slice_row (sized 8) 7 sample_frame (refusal 5 []) 0
    ∷ slice_row (sized 8) 7 [] (refusal 5 []) 0
    -- a stray 1b before a frame: the first way passes the frame over, and the second hears it behind one byte of noise
    ∷ slice_row (sized 8) 8 (0x1b ∷ sample_frame) nothing 21
    ∷ slice_row (in_way second_way 8) 8 (0x1b ∷ sample_frame) (refusal 6 (1 ∷ [])) 9
    -- behind four 1b any further ones, and a 1b behind some 01
    ∷ slice_row (in_way second_way 8) 8 (replicate 9 0x1b ++ 0x01 ∷ 0x01 ∷ sample_frame) (refusal 6 (11 ∷ [])) 19
    ∷ slice_row (in_way second_way 8) 8 (0x1b ∷ 0x55 ∷ 0x01 ∷ 0x1b ∷ []) nothing 4
    ∷ []

abbrev slice_said : Took → SliceRow → SliceRow
slice_said t r = slice_row r.recorded r.lent r.bytes t.answer t.taken

pub slice_examples : map (λ (r : SliceRow). slice_said (slice_record (new_record r.recorded) (replicate r.lent 0) r.bytes) r) slice_rows ≡ slice_rows
unfolding slice_record pushes_from push_record pushed bad_decoder wrong_buffer wrote step searching most_matched greatest store same judge finish reflect polynomial bit_step bit_steps byte_step register final_xor
slice_examples = refl

-- the stray 1b and the frame in two slices, each from where the other stopped: the payload comes with the last byte
abbrev pub stray_took : Took
stray_took = slice_record (new_record (in_way second_way 8)) (replicate 8 0) (0x1b ∷ sample_frame)

pub slice_goes_on_lem : slice_said (slice_record stray_took.decoder stray_took.memory (drop stray_took.taken (0x1b ∷ sample_frame))) (slice_row (in_way second_way 8) 8 [] nothing 0)
    ≡ slice_row (in_way second_way 8) 8 [] (payload (0x12 ∷ 0x34 ∷ 0x56 ∷ 0x78 ∷ [])) 12
unfolding slice_record pushes_from push_record pushed bad_decoder wrong_buffer wrote step searching most_matched greatest store same judge finish reflect polynomial bit_step bit_steps byte_step register final_xor
slice_goes_on_lem = refl
