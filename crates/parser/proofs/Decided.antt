-- Each view can be undone, so a contract allows one outcome for each input.
use mathlib.Core.Path.{◌≡◌, ap}
use Rattle.streaming.specs.Answers.{said, reader_after}
use Rattle.std.specs.Prelude.{Option, Result}
use Rattle.streaming.specs.declared.ParseEvent.{ParseEvent}
use Rattle.streaming.specs.declared.ReadError.{ReadError}
use Rattle.parser.specs.Reader.{Called, after_next}
use Rattle.parser.specs.declared.Parser.{Parser}
use Rattle.decided.specs.One.{Beside, Injective}
use Rattle.decided.proofs.Laws.{one_outcome, injective, undone}
use Rattle.streaming.proofs.Decided.{answer_from, said_back, views as streamingViews}
use Rattle.parser.specs.Decided.{Views, Decided}

pub event_in_place_one : Injective (λ (r : Beside (Result (Option ParseEvent) ReadError) Parser). after_next r.answer r.lent)
event_in_place_one r r' h =
    let a : r.answer ≡ r'.answer = undone said answer_from said_back _ _ (ap (λ (x : Called). x.said) h) in
    λ i. record { answer = a i; lent = (h i).reader }

pub views : Views
views =
    record {
      event_in_place = event_in_place_one;
    }

pub decided : Decided
decided =
    record {
      new = λ input. one_outcome _;
      next = λ self. injective (λ (r : Beside (Result (Option ParseEvent) ReadError) Parser). after_next r.answer r.lent) views.event_in_place _;
      next_from = λ input at start pending. injective reader_after streamingViews.event _;
    }
