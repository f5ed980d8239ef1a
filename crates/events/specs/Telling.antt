-- claim: how the answers of the calls tell what a whole message says.
use Rattle.std.specs.Prelude.{ℕ, ◌<◌, ◌≡◌, Bool, true, false, List, [], ◌∷◌}
use Rattle.std.proofs.Math.Option.{Option, some, none}
use Rattle.refusals.specs.Read.{Read, got, refused, Refusal}
use Rattle.refusals.specs.declared.Span.{Span}
use Rattle.common.specs.Fields.{ListEntry}
use Rattle.message.specs.Messages.{ListEnd}
use Rattle.streaming.specs.Next.{MessageEvent, start_event, entry_event, end_event, Said, event, no_event, failed, alone}
use Rattle.events.specs.Message.{Message}
use Rattle.events.specs.Events.{Answers, says_first}

-- several events, and then the rest
unfoldable pub says_all : List (MessageEvent Span) → Answers → Answers
says_all [] a = a
says_all (e ∷ es) a = says_first e (says_all es a)

-- the events of entries, and behind them those of `es`
unfoldable pub entry_events : List (ListEntry Span) → List (MessageEvent Span) → List (MessageEvent Span)
entry_events [] es = es
entry_events (x ∷ xs) es = entry_event x ∷ entry_events xs es

abbrev pub end_events : Option (ListEnd Span) → List (MessageEvent Span)
end_events (some e) = end_event e ∷ []
end_events none = []

-- the events of a message: its start, its entries, its end
unfoldable pub message_events : Message Span → List (MessageEvent Span)
message_events m = start_event m.start ∷ entry_events m.content.entries (end_events m.content.end)

abbrev pub is_refused : Said → Bool
is_refused (event e) = false
is_refused no_event = false
is_refused (failed f) = true
is_refused (alone n) = true

-- the first answer that is a refusal, if it stands at a place
unfoldable pub first_refusal : List Said → Option Refusal
first_refusal [] = none
first_refusal (event e ∷ xs) = first_refusal xs
first_refusal (no_event ∷ xs) = first_refusal xs
first_refusal (failed f ∷ xs) = some f
first_refusal (alone n ∷ xs) = none

-- the answers tell what a reading says: its events and what follows, or its refusal
abbrev pub Telling : {A : Type 0} → (A → List (MessageEvent Span)) → Read A → Answers → (ℕ → Answers) → Type 0
Telling events (got x n) a k = a ≡ says_all (events x) (k n)
Telling events (refused f) a k = first_refusal a.first ≡ some f

pub record Tells {A : Type 0} (events : A → List (MessageEvent Span)) (r : Read A) (a : Answers) (k : ℕ → Answers) : Type 0 where
  pub tells : Telling events r a k

-- of the answers `says`, counted from 0, that of call k is the refusal f, and none before it is a refusal
pub record RefusesFirst (says : ℕ → Said) (f : Refusal) : Type 0 where
  pub k : ℕ
  pub refuses : says k ≡ failed f
  pub before : (j : ℕ) → j < k → is_refused (says j) ≡ false
