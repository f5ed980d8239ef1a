-- Each view can be undone, so a contract allows one outcome for each input.
use mathlib.Core.Path.{◌≡◌}
use Rattle.decoder.specs.Record.{after_push, after_finalize, after_reset, answer_asked}
use Rattle.decoder.specs.declared.Pushed.{Pushed}
use Rattle.decoder.proofs.Answers.{one_push, finalize_one, reset_one, ask_one}
use Rattle.decided.specs.One.{With}
use Rattle.decided.proofs.Laws.{one_outcome, injective}
use Rattle.decoder.specs.Decided.{Views, Decided}

push_both : (r r' : With Pushed) → after_push r.answer r.memory ≡ after_push r'.answer r'.memory → r ≡ r'
push_both r r' h =
    let p = one_push r.answer r'.answer r.memory r'.memory h in
    λ i. record { answer = p.0 i; memory = p.1 i }

pub views : Views
views =
    record {
      pushed = push_both;
      finalized = finalize_one;
      was_reset = reset_one;
      asked = ask_one;
    }

pub decided : Decided
decided =
    record {
      new = λ capacity. one_outcome _;
      with_way = λ capacity way. one_outcome _;
      recounted = λ d fill raw s. one_outcome _;
      matching = λ n b. one_outcome _;
      bad_decoder_claim = λ d. one_outcome _;
      wrong_buffer_claim = λ recorded lent. one_outcome _;
      push_byte_claim = λ self buf b. injective (λ (r : With Pushed). after_push r.answer r.memory) views.pushed _;
      push_any = λ d buf b. injective (λ (r : With Pushed). after_push r.answer r.memory) views.pushed _;
      finalize = λ self. injective after_finalize views.finalized _;
      reset = λ self. injective after_reset views.was_reset _;
      ask_payload = λ self buf. injective answer_asked views.asked _;
      payload = λ self buf. one_outcome _;
    }
