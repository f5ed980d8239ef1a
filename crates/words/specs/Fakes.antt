-- check: ways back that are none, and which claim is false of each.
use Rattle.std.specs.Prelude.{◌^◌, cond}
use Rattle.std.proofs.Math.Option.{some, none}
use Rattle.refusals.specs.declared.Span.{Span}
use Rattle.frame.specs.Frame.{same}
use Rattle.streaming.specs.Next.{MessageEvent, end_event, event}
use Rattle.words.specs.Words.{event_words}
use Rattle.words.specs.Back.{event_back}
use Rattle.words.specs.Claims.{WayBack, TakesEvents, TakesOnlyTheirs, GivesTyped}

abbrev pub reads_none : WayBack
reads_none w = none

-- does not look at the words again
abbrev pub reads_any : WayBack
reads_any w = some (event_back w)

-- a list's end at a time of 33 bits
abbrev pub late_end : MessageEvent Span
late_end = end_event (record { list_signature = none; act_gateway_time = some (2 ^ 32) })

abbrev pub reads_late : WayBack
reads_late w = cond (same (event_words (event late_end)) w) (some late_end) none

pub record BackFakes : Type 0 where
  pub reads_none_claim : TakesEvents reads_none → ⊥
  pub reads_any_claim : TakesOnlyTheirs reads_any → ⊥
  pub reads_late_claim : GivesTyped reads_late → ⊥
