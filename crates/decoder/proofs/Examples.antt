-- The vectors of transport.rs's comments, a 1b tail and reset, computed over the definitions that the contracts cite. The bench sheet stands in crate marks.
use mathlib.Core.Path.{◌≡◌, refl}
use mathlib.Core.List.{List, [], ◌∷◌, ◌++◌, map}
use Prim.Native.Nat.{ℕ, suc}
use lib.ListN.{replicate}
use Rattle.crc_x25.specs.Crc.{reflect, polynomial, bit_step, bit_steps, byte_step, register, final_xor}
use Rattle.frame.specs.Frame.{start_seq, esc_seq, same}
use Rattle.decoder.specs.Push.{sized, search, searching, store, finish, judge, step, finalized, reset_count}
use Rattle.decoder.specs.Record.{DecoderAnswer, nothing, payload, count, refusal, wrote, bad_decoder, wrong_buffer, pushed, push_record, finalize_record, reset_record, left, record_of, new_record}
use Rattle.decoder.specs.Run.{Op, push, finalize, reset, act, run}

-- what is not nothing, with the number of the operation
pub record SaidAt : Type 0 where
  pub at : ℕ
  pub answer : DecoderAnswer

abbrev pub said_at : ℕ → DecoderAnswer → SaidAt
said_at n a = record { at = n; answer = a }

abbrev pub heard : ℕ → List DecoderAnswer → List SaidAt
heard n [] = []
heard n (nothing ∷ more) = heard (suc n) more
heard n (payload bytes ∷ more) = said_at n (payload bytes) ∷ heard (suc n) more
heard n (count k ∷ more) = said_at n (count k) ∷ heard (suc n) more
heard n (refusal k values ∷ more) = said_at n (refusal k values) ∷ heard (suc n) more

-- the bytes, then finalize
abbrev pub pushes : List ℕ → List Op
pushes bytes = map push bytes ++ finalize ∷ []

pub record DecoderRow : Type 0 where
  pub capacity : ℕ
  pub operations : List Op
  pub answers : List SaidAt

abbrev pub decoder_row : ℕ → List Op → List SaidAt → DecoderRow
decoder_row C os said_at = record { capacity = C; operations = os; answers = said_at }

-- the frame of 12345678
abbrev pub sample_frame : List ℕ
sample_frame = start_seq ++ 0x12 ∷ 0x34 ∷ 0x56 ∷ 0x78 ∷ esc_seq ++ 0x1a ∷ 0x00 ∷ 0xb8 ∷ 0x7b ∷ []

abbrev paid : DecoderAnswer
paid = payload (0x12 ∷ 0x34 ∷ 0x56 ∷ 0x78 ∷ [])

abbrev other_frame : List ℕ
other_frame = start_seq ++ 0x13 ∷ 0x24 ∷ 0x35 ∷ 0x46 ∷ esc_seq ++ 0x1a ∷ 0x00 ∷ 0xb1 ∷ 0xa1 ∷ []

abbrev pub decoder_rows : List DecoderRow
decoder_rows =
    -- the comments of transport.rs: one frame at a capacity of 20, two frames at 10
    decoder_row 20 (pushes sample_frame) (said_at 20 paid ∷ [])
    ∷ decoder_row 10 (pushes (sample_frame ++ other_frame)) (said_at 20 paid ∷ said_at 40 (payload (0x13 ∷ 0x24 ∷ 0x35 ∷ 0x46 ∷ [])) ∷ [])
    -- a 1b tail isn't the escape: 010203 1b, then the end sequence
    ∷ decoder_row 8 (pushes (start_seq ++ 0x01 ∷ 0x02 ∷ 0x03 ∷ 0x1b ∷ esc_seq ++ 0x1a ∷ 0x00 ∷ 0x32 ∷ 0xd4 ∷ []))
    (said_at 20 (payload (0x01 ∷ 0x02 ∷ 0x03 ∷ 0x1b ∷ [])) ∷ [])
    -- reset, then a frame behind a stray 1b
    ∷ decoder_row 8 (reset ∷ pushes (0x1b ∷ sample_frame)) (said_at 1 (count 0) ∷ said_at 23 (refusal 6 (21 ∷ [])) ∷ [])
    ∷ decoder_row 8 (map push (0x00 ∷ start_seq) ++ reset ∷ pushes sample_frame) (said_at 9 (refusal 6 (1 ∷ [])) ∷ said_at 10 (count 8) ∷ said_at 30 paid ∷ [])
    ∷ []

pub push_examples : map (λ (r : DecoderRow). heard 1 (run (new_record (sized r.capacity)) (replicate r.capacity 0) r.operations)) decoder_rows ≡ map (λ (r : DecoderRow). r.answers) decoder_rows
unfolding run act push_record pushed finalize_record reset_record bad_decoder wrong_buffer wrote step searching store same judge finish finalized reset_count reflect polynomial bit_step bit_steps byte_step register final_xor
push_examples = refl

-- a record that no call leaves: nothing matched, no noise, raw length 5. finalize looks at the two counts alone, as the Rust does, and is silent
pub finalizes_by_two_counts : finalize_record (record_of (sized 8) (search 0 0 5)) ≡ left nothing (new_record (sized 8))
unfolding finalize_record bad_decoder finalized
finalizes_by_two_counts = refl
