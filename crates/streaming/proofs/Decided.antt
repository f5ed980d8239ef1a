-- Each view can be undone, so a contract allows one outcome for each input.
use mathlib.Core.Path.{◌≡◌, refl, ap}
use mathlib.Core.Bool.{cond}
use lib.Dec.{eqb}
use Rattle.std.specs.Prelude.{Result, Ok, Err, Option, Some, None}
use Rattle.refusals.specs.Numbers.{input_too_long_no}
use Rattle.refusals.specs.declared.Span.{Span}
use Rattle.streaming.specs.Next as N
use Rattle.streaming.specs.Next.{start_event, entry_event, end_event, Said, event, no_event, failed, alone, ReaderAfter}
use Rattle.streaming.specs.Answers.{parse_event, said, reader_after}
use Rattle.streaming.specs.declared.ParseEvent.{ParseEvent}
use Rattle.streaming.specs.declared.ParseEvent.TheVariants as EventC
use Rattle.streaming.specs.declared.ReadError.{ReadError}
use Rattle.streaming.specs.declared.ReadError.TheVariants.{Refused, InputTooLong, BadState}
use Rattle.decided.specs.One.{Injective}
use Rattle.decided.proofs.Laws.{injective, undone}
use Rattle.refusals.proofs.Undone.{fault_from, fault_back}
use Rattle.common.proofs.Decided.{entry_from, entry_back_lem}
use Rattle.message.proofs.Decided.{list_end_from, list_end_back, start_from, start_back_lem}
use Rattle.streaming.specs.Decided.{Views, Decided}

pub parse_event_from : N.MessageEvent Span → ParseEvent
parse_event_from (start_event m) = EventC.MessageStart (start_from m)
parse_event_from (entry_event e) = EventC.ListEntry (entry_from e)
parse_event_from (end_event e) = EventC.GetListResponseEnd (list_end_from e)

pub parse_event_back : (x : ParseEvent) → parse_event_from (parse_event x) ≡ x
unfolding parse_event_from
parse_event_back (EventC.MessageStart x) = ap EventC.MessageStart (start_back_lem x)
parse_event_back (EventC.GetListResponseEnd x) = ap EventC.GetListResponseEnd (list_end_back x)
parse_event_back (EventC.ListEntry x) = ap EventC.ListEntry (entry_back_lem x)

-- 9 and 4 stand at no place, every other refusal is a reading's
pub answer_from : Said → Result (Option ParseEvent) ReadError
answer_from (event e) = Ok (Some (parse_event_from e))
answer_from no_event = Ok None
answer_from (failed f) = Err (Refused (fault_from f))
answer_from (alone n) = Err (cond (eqb n input_too_long_no) InputTooLong BadState)

pub said_back : (r : Result (Option ParseEvent) ReadError) → answer_from (said r) ≡ r
unfolding answer_from
said_back (Ok (Some e)) = ap (λ x. Ok (Some x)) (parse_event_back e)
said_back (Ok None) = refl
said_back (Err (Refused f)) = ap (λ x. Err (Refused x)) (fault_back f)
said_back (Err InputTooLong) = refl
said_back (Err BadState) = refl

pub event_one : Injective reader_after
event_one r r' h =
    let a : r.answer ≡ r'.answer = undone said answer_from said_back _ _ (ap (λ (x : ReaderAfter). x.answer) h) in
    λ i. record { answer = a i; reader = record { place = (h i).place; start = (h i).start; pending = (h i).pending } }

pub views : Views
views =
    record {
      event = event_one;
    }

pub decided : Decided
decided =
    record {
      parse_next = λ self input. injective reader_after views.event _;
    }
