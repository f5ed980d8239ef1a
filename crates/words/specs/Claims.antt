-- claim: every event whose numbers are within their types is read back from its words, and no other words are taken.
use Rattle.std.specs.Prelude.{ℕ, ◌/◌, ◌^◌, ◌<◌, ◌≡◌, List}
use Rattle.std.proofs.Math.Option.{Option, some, none}
use Rattle.std.specs.Int.Signed.{mag}
use Rattle.refusals.specs.declared.Span.{Span}
use Rattle.value.specs.Values.{narrowest, Status, Value, truth, bytes, signed, unsigned, list_time}
use Rattle.common.specs.Fields.{OpenResponse, ListEntry}
use Rattle.message.specs.Messages.{ListStart, Body, open_body, close_body, list_body, MessageStart}
use Rattle.streaming.specs.Next.{MessageEvent, start_event, entry_event, end_event, event}
use Rattle.words.specs.Words.{event_words}
use Rattle.words.specs.Back.{event_of}

-- ---- numbers within their types

-- of a field that is there
abbrev pub IfThere : {A : Type 0} → (A → Type 0) → Option A → Type 0
IfThere P none = Unit {0}
IfThere P (some a) = P a

abbrev pub OfBytes : ℕ → ℕ → Type 0
OfBytes width n = n < 256 ^ width

-- 1, 2, 4 and 8
abbrev pub IsWidth : ℕ → Type 0
IsWidth width = narrowest width ≡ width

abbrev pub StatusInType : Status → Type 0
StatusInType x = IsWidth x.width × OfBytes x.width x.number

abbrev pub ValueInType : Value Span → Type 0
ValueInType (truth b) = Unit {0}
ValueInType (bytes s) = Unit {0}
ValueInType (signed width z) = IsWidth width × (mag z < 256 ^ width / 2)
ValueInType (unsigned width n) = IsWidth width × OfBytes width n
ValueInType (list_time n) = OfBytes 4 n

pub record OpenInTypes (b : OpenResponse Span) : Type 0 where
  pub ref_time : IfThere (OfBytes 4) b.ref_time
  pub sml_version : IfThere (OfBytes 1) b.sml_version

pub record ListInTypes (b : ListStart Span) : Type 0 where
  pub act_sensor_time : IfThere (OfBytes 4) b.act_sensor_time
  pub num_vals : OfBytes 4 b.num_vals

abbrev pub BodyInTypes : Body Span → Type 0
BodyInTypes (open_body b) = OpenInTypes b
BodyInTypes (close_body b) = Unit {0}
BodyInTypes (list_body b) = ListInTypes b

pub record StartInTypes (m : MessageStart Span) : Type 0 where
  pub group_no : OfBytes 1 m.group_no
  pub abort_on_error : OfBytes 1 m.abort_on_error
  pub message_body : BodyInTypes m.message_body

pub record EntryInTypes (e : ListEntry Span) : Type 0 where
  pub status : IfThere StatusInType e.status
  pub val_time : IfThere (OfBytes 4) e.val_time
  pub unit : IfThere (OfBytes 1) e.unit
  pub scaler : IfThere (λ z. mag z < 256 ^ 1 / 2) e.scaler
  pub value : ValueInType e.value

abbrev pub EventInTypes : MessageEvent Span → Type 0
EventInTypes (start_event m) = StartInTypes m
EventInTypes (entry_event e) = EntryInTypes e
EventInTypes (end_event e) = IfThere (OfBytes 4) e.act_gateway_time

-- ---- any way back

abbrev pub WayBack : Type 0
WayBack = List ℕ → Option (MessageEvent Span)

abbrev pub TakesEvents : WayBack → Type 0
TakesEvents of = (e : MessageEvent Span) → EventInTypes e → of (event_words (event e)) ≡ some e

abbrev pub TakesOnlyTheirs : WayBack → Type 0
TakesOnlyTheirs of = (w : List ℕ) (e : MessageEvent Span) → of w ≡ some e → w ≡ event_words (event e)

abbrev pub GivesTyped : WayBack → Type 0
GivesTyped of = (w : List ℕ) (e : MessageEvent Span) → of w ≡ some e → EventInTypes e

-- all that is claimed of ours
pub record BackClaims : Type 0 where
  pub events : TakesEvents event_of
  pub theirs : TakesOnlyTheirs event_of
  pub typed : GivesTyped event_of
