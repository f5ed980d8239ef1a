-- check: mark 1 of crate in_place. Its contracts allow one outcome for each input, and its views lose nothing. Each crate has such a file.
use Rattle.std.specs.Prelude.{◌≡◌, List, ℕ, Option, Result}
use Rattle.encoder.specs.Encoder.{step_of, next_step}
use Rattle.encoder.specs.declared.EncoderError.{EncoderError}
use Rattle.encoder.specs.declared.Encoder.{Encoder}
use Rattle.encoder.specs.declared.Given.{Given}
use Rattle.decoder.specs.Record.{Event, after_push, after_finalize, after_reset, push_record, finalize_record, reset_record}
use Rattle.decoder.specs.declared.Decoder.{Decoder}
use Rattle.decoder.specs.declared.Pushed.{Pushed}
use Rattle.decoder.specs.declared.Finalized.{Finalized}
use Rattle.decoder.specs.declared.AfterReset.{AfterReset}
use Rattle.decided.specs.One.{One, With, Beside, Injective}
use Rattle.decoder_slice.specs.Slice.{after_slice, slice_record}
use Rattle.decoder_slice.specs.declared.Sliced.{Sliced}
use Rattle.in_place.specs.declared.Taken.{Taken}

-- every view that a contract cites, of the answer together with the record that is lent, and with the lent memory
pub record Views : Type 0 where
  pub pushed_in_place : Injective (λ (r : With (Beside Event Decoder)). after_push (record { decoder = r.answer.lent; event = r.answer.answer }) r.memory)
  pub finalized_in_place : Injective (λ (r : Beside Event Decoder). after_finalize (record { decoder = r.lent; event = r.answer }))
  pub was_reset_in_place : Injective (λ (r : Beside ℕ Decoder). after_reset (record { decoder = r.lent; count = r.answer }))
  pub next_in_place : Injective (λ (r : Beside (Result (Option ℕ) EncoderError) Encoder). step_of (record { answer = r.answer; encoder = r.lent }))
  pub sliced_in_place : Injective
      (λ (r : With (Beside Taken Decoder)).
      after_slice (record { decoder = r.answer.lent; event = r.answer.answer.event; taken = r.answer.answer.taken }) r.memory)

-- every public function: over its parameters, what its `ensures` allows. d and e are the records at the call
pub record Decided : Type 0 where
  pub push : (d : Decoder) (buf : List ℕ) (b : ℕ)
      → One (λ (r : With (Beside Event Decoder)). after_push (record { decoder = r.answer.lent; event = r.answer.answer }) r.memory ≡ push_record d buf b)
  pub finalize : (d : Decoder) → One (λ (r : Beside Event Decoder). after_finalize (record { decoder = r.lent; event = r.answer }) ≡ finalize_record d)
  pub reset : (d : Decoder) → One (λ (r : Beside ℕ Decoder). after_reset (record { decoder = r.lent; count = r.answer }) ≡ reset_record d)
  pub push_lent : (d : Decoder) (buf : List ℕ) (b : ℕ) → One (λ (r : With Pushed). after_push r.answer r.memory ≡ push_record d buf b)
  pub finalize_lent : (d : Decoder) → One (λ (r : Finalized). after_finalize r ≡ finalize_record d)
  pub reset_lent : (d : Decoder) → One (λ (r : AfterReset). after_reset r ≡ reset_record d)
  pub next : (e : Encoder) (payload : List ℕ)
      → One (λ (r : Beside (Result (Option ℕ) EncoderError) Encoder). step_of (record { answer = r.answer; encoder = r.lent }) ≡ next_step e payload)
  pub next_lent : (e : Encoder) (payload : List ℕ) → One (λ (r : Given). step_of r ≡ next_step e payload)
  pub push_slice_claim : (d : Decoder) (buf chunk : List ℕ)
      → One (λ (r : With (Beside Taken Decoder)).
      after_slice (record { decoder = r.answer.lent; event = r.answer.answer.event; taken = r.answer.answer.taken }) r.memory ≡ slice_record d buf chunk)
  pub push_slice_lent : (d : Decoder) (buf chunk : List ℕ) → One (λ (r : With Sliced). after_slice r.answer r.memory ≡ slice_record d buf chunk)
