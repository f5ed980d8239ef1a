-- claim: a written message, wherever it stands, is read as a message of its meaning, and the next place is the one behind it.
use Rattle.std.specs.Prelude.{ℕ, zero, suc, ◌+◌, ◌≤◌, ◌≡◌, List, [], ◌∷◌, ◌++◌, map, length}
use Rattle.std.proofs.Math.Option.{Option, some, none}
use Rattle.refusals.specs.Read.{got}
use Rattle.refusals.specs.declared.Span.{Span}
use Rattle.common.specs.Fields.{ListEntry}
use Rattle.message.specs.Messages.{ListEnd}
use Rattle.streaming.specs.Next.{MessageEvent, start_event, entry_event, end_event, Said, event}
use Rattle.events.specs.Message.{Message, message_at}
use Rattle.streaming.specs.Meaning.{meaning}
use Rattle.events.specs.Calls.{call}
use Rattle.written.specs.Messages.{write_message, message_means}
use Rattle.written.specs.Fits.{MessageFits}

-- behind the bytes pre, and whatever l follows
pub record ReadBack (m : Message (List ℕ)) (pre l : List ℕ) : Type 0 where
  pub found : Message Span
  pub is : message_at (pre ++ (write_message m ++ l)) (length pre) ≡ got found (length pre + length (write_message m))
  pub means : message_means (pre ++ (write_message m ++ l)) found ≡ m

-- the events of a message: its start, its entries, its end
unfoldable pub entries_told : List (ListEntry (List ℕ)) → List (MessageEvent (List ℕ)) → List (MessageEvent (List ℕ))
entries_told [] es = es
entries_told (x ∷ xs) es = entry_event x ∷ entries_told xs es

abbrev pub end_told : Option (ListEnd (List ℕ)) → List (MessageEvent (List ℕ))
end_told (some e) = end_event e ∷ []
end_told none = []

unfoldable pub message_told : Message (List ℕ) → List (MessageEvent (List ℕ))
message_told m = start_event m.start ∷ entries_told m.content.entries (end_told m.content.end)

-- the answers of calls: these events first, and then the answers f
unfoldable pub first_then : List (MessageEvent Span) → (ℕ → Said) → ℕ → Said
first_then [] f k = f k
first_then (e ∷ es) f zero = event e
first_then (e ∷ es) f (suc k) = first_then es f k

-- a reader that stands at a place before a message gives events of these meanings, and then answers as one that stands at the other place; `start` and `other` are the message starts that the two remember
pub record ToldTo (s : List ℕ) (place next : ℕ) (told : List (MessageEvent (List ℕ))) : Type 0 where
  pub events : List (MessageEvent Span)
  pub mean : map (meaning s) events ≡ told
  pub calls : (start other : ℕ) → start ≤ place → other ≤ next → (k : ℕ) → call k s place start 0 ≡ first_then events (λ j. call j s next other 0) k

-- messages one behind the other
unfoldable pub write_messages : List (Message (List ℕ)) → List ℕ
write_messages [] = []
write_messages (m ∷ ms) = write_message m ++ write_messages ms

unfoldable pub messages_told : List (Message (List ℕ)) → List (MessageEvent (List ℕ))
messages_told [] = []
messages_told (m ∷ ms) = message_told m ++ messages_told ms

abbrev pub MessagesFit : List (Message (List ℕ)) → Type 0
MessagesFit [] = Unit {0}
MessagesFit (m ∷ ms) = MessageFits m × MessagesFit ms
