-- view: what the answer says.
use Rattle.std.specs.Prelude as P
use Rattle.std.proofs.Math.Option.{Option}
use Rattle.refusals.specs.Answers.{opt_of}
use Rattle.refusals.specs.declared.Span.{Span}
use Rattle.streaming.specs.Next.{MessageEvent}
use Rattle.streaming.specs.Answers.{parse_event}
use Rattle.streaming.specs.declared.ParseEvent.{ParseEvent}

abbrev pub opt_event : P.Option ParseEvent → Option (MessageEvent Span)
opt_event = opt_of parse_event
