-- The view can be undone, so a contract allows one outcome for each input.
use Rattle.refusals.proofs.Undone.{opt_once}
use Rattle.streaming.specs.Answers.{parse_event}
use Rattle.streaming.proofs.Decided.{parse_event_from, parse_event_back}
use Rattle.decided.proofs.Laws.{injective, one_outcome, undone}
use Rattle.words.specs.Answers.{opt_event}
use Rattle.words.specs.Decided.{Views, Decided}

pub views : Views
views =
    record {
      event = opt_once parse_event (undone parse_event parse_event_from parse_event_back);
    }

pub decided : Decided
decided =
    record {
      event_words_claim = λ answer. one_outcome _;
      event_of_claim = λ words. injective opt_event views.event _;
    }
