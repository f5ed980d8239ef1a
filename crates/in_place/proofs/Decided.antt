-- Each view can be undone, so a contract allows one outcome for each input.
use mathlib.Core.Path.{◌≡◌}
use Prim.Native.Nat.{ℕ}
use Rattle.std.specs.Prelude.{Option, Result}
use Rattle.encoder.specs.Encoder.{step_of}
use Rattle.encoder.specs.declared.EncoderError.{EncoderError}
use Rattle.encoder.specs.declared.Given.{Given}
use Rattle.encoder.specs.declared.Encoder.{Encoder}
use Rattle.decoder.specs.Record.{Event, after_push, after_finalize, after_reset}
use Rattle.decoder.specs.declared.Decoder.{Decoder}
use Rattle.decoder.specs.declared.Pushed.{Pushed}
use Rattle.decoder.specs.declared.Finalized.{Finalized}
use Rattle.decoder.specs.declared.AfterReset.{AfterReset}
use Rattle.decoder.proofs.Answers.{one_push, finalize_one, reset_one}
use Rattle.decided.specs.One.{With, Beside, Injective}
use Rattle.decided.proofs.Laws.{injective}
use Rattle.decoder.proofs.Decided.{views as decoderViews}
use Rattle.encoder.proofs.Decided.{next_one, views as encoderViews}
use Rattle.in_place.specs.Decided.{Views, Decided}
use Rattle.decoder_slice.specs.Slice.{after_slice}
use Rattle.decoder_slice.specs.declared.Sliced.{Sliced}
use Rattle.in_place.specs.declared.Taken.{Taken}
use Rattle.decoder_slice.proofs.Decided.{slice_both, views as sliceViews}
use Rattle.in_place.specs.Decided.{Views, Decided}

-- what the function by value gives where the one in place leaves this record beside its answer
as_pushed : Beside Event Decoder → Pushed
as_pushed r = record { decoder = r.lent; event = r.answer }

push_in_place : Injective (λ (r : With (Beside Event Decoder)). after_push (record { decoder = r.answer.lent; event = r.answer.answer }) r.memory)
unfolding as_pushed
push_in_place r r' h =
    let p = one_push (as_pushed r.answer) (as_pushed r'.answer) r.memory r'.memory h in
    λ i. record { answer = record { answer = (p.0 i).event; lent = (p.0 i).decoder }; memory = p.1 i }

finalize_in_place : Injective (λ (r : Beside Event Decoder). after_finalize (record { decoder = r.lent; event = r.answer }))
finalize_in_place r r' h =
    let p : ◌≡◌ {A = Finalized} (record { decoder = r.lent; event = r.answer }) (record { decoder = r'.lent; event = r'.answer }) = finalize_one _ _ h in
    λ i. record { answer = (p i).event; lent = (p i).decoder }

reset_in_place : Injective (λ (r : Beside ℕ Decoder). after_reset (record { decoder = r.lent; count = r.answer }))
reset_in_place r r' h =
    let p : ◌≡◌ {A = AfterReset} (record { decoder = r.lent; count = r.answer }) (record { decoder = r'.lent; count = r'.answer }) = reset_one _ _ h in
    λ i. record { answer = (p i).count; lent = (p i).decoder }

next_in_place : Injective (λ (r : Beside (Result (Option ℕ) EncoderError) Encoder). step_of (record { answer = r.answer; encoder = r.lent }))
next_in_place r r' h =
    let p : ◌≡◌ {A = Given} (record { answer = r.answer; encoder = r.lent }) (record { answer = r'.answer; encoder = r'.lent }) = next_one _ _ h in
    λ i. record { answer = (p i).answer; lent = (p i).encoder }

-- what the function by value gives where the one in place leaves this record beside its answer
as_sliced : With (Beside Taken Decoder) → With Sliced
as_sliced r = record { answer = record { decoder = r.answer.lent; event = r.answer.answer.event; taken = r.answer.answer.taken }; memory = r.memory }

slice_in_place : Injective
    (λ (r : With (Beside Taken Decoder)).
    after_slice (record { decoder = r.answer.lent; event = r.answer.answer.event; taken = r.answer.answer.taken }) r.memory)
unfolding as_sliced
slice_in_place r r' h =
    let p = slice_both (as_sliced r) (as_sliced r') h in
    λ i. record {
      answer = record { answer = record { event = (p i).answer.event; taken = (p i).answer.taken }; lent = (p i).answer.decoder };
      memory = (p i).memory;
    }

pub views : Views
views =
    record {
      pushed_in_place = push_in_place;
      finalized_in_place = finalize_in_place;
      was_reset_in_place = reset_in_place;
      next_in_place = next_in_place;
      sliced_in_place = slice_in_place;
    }

pub decided : Decided
decided =
    record {
      push =
          λ d buf b. injective
          (λ (r : With (Beside Event Decoder)). after_push (record { decoder = r.answer.lent; event = r.answer.answer }) r.memory)
          views.pushed_in_place _;
      finalize = λ d. injective (λ (r : Beside Event Decoder). after_finalize (record { decoder = r.lent; event = r.answer })) views.finalized_in_place _;
      reset = λ d. injective (λ (r : Beside ℕ Decoder). after_reset (record { decoder = r.lent; count = r.answer })) views.was_reset_in_place _;
      push_lent = λ d buf b. injective (λ (r : With Pushed). after_push r.answer r.memory) decoderViews.pushed _;
      finalize_lent = λ d. injective after_finalize decoderViews.finalized _;
      reset_lent = λ d. injective after_reset decoderViews.was_reset _;
      next = λ e payload. injective (λ (r : Beside (Result (Option ℕ) EncoderError) Encoder). step_of (record { answer = r.answer; encoder = r.lent })) views.next_in_place _;
      next_lent = λ e payload. injective step_of encoderViews.next _;
      push_slice_claim =
          λ d buf chunk. injective
          (λ (r : With (Beside Taken Decoder)).
          after_slice (record { decoder = r.answer.lent; event = r.answer.answer.event; taken = r.answer.answer.taken }) r.memory)
          views.sliced_in_place _;
      push_slice_lent = λ d buf chunk. injective (λ (r : With Sliced). after_slice r.answer r.memory) sliceViews.sliced _;
    }
