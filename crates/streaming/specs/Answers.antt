-- view: document 01's number and values for each answer of the reader.
use Rattle.std.specs.Prelude.{Result, Ok, Err, Option, Some, None}
use Rattle.refusals.specs.Numbers.{bad_state_no, input_too_long_no}
use Rattle.refusals.specs.Answers.{fault_of}
use Rattle.refusals.specs.declared.Span.{Span}
use Rattle.common.specs.Answers.{list_entry}
use Rattle.message.specs.Answers.{message_start, list_end}
use Rattle.streaming.specs.Next.{MessageEvent, start_event, entry_event, end_event, Said, event, no_event, failed, alone, ReaderAfter}
use Rattle.streaming.specs.declared.ParseEvent.{ParseEvent}
use Rattle.streaming.specs.declared.ParseEvent.TheVariants as EventC
use Rattle.streaming.specs.declared.ReadError.{ReadError}
use Rattle.streaming.specs.declared.ReadError.TheVariants.{Refused, InputTooLong, BadState}
use Rattle.streaming.specs.declared.Next.{Next}

abbrev pub parse_event : ParseEvent → MessageEvent Span
parse_event (EventC.MessageStart x) = start_event (message_start x)
parse_event (EventC.GetListResponseEnd x) = end_event (list_end x)
parse_event (EventC.ListEntry x) = entry_event (list_entry x)

abbrev pub said : Result (Option ParseEvent) ReadError → Said
said (Ok (Some e)) = event (parse_event e)
said (Ok None) = no_event
said (Err (Refused f)) = failed (fault_of f)
said (Err InputTooLong) = alone input_too_long_no
said (Err BadState) = alone bad_state_no

abbrev pub reader_after : Next → ReaderAfter
reader_after r = record { answer = said r.answer; place = r.reader.place; start = r.reader.start; pending = r.reader.pending }
