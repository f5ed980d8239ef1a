-- claim: what every reader of whole messages must do. It accepts exactly where the event reader runs to a message's end and the table has room, with the same fields; its refusals are the event reader's, but 20, which comes last, and 10 where the input has ended; and they leave the table.
use Rattle.std.specs.Prelude.{ℕ, ◌+◌, ◌*◌, ◌/◌, ◌≤◌, ◌<◌, ◌≡◌, List, [], ◌∷◌, ◌++◌, map, length, take, drop}
use Rattle.std.proofs.Math.Option.{Option}
use Rattle.refusals.specs.Numbers.{bad_state_no, input_too_long_no, too_many_entries_no, limit}
use Rattle.refusals.specs.Read.{got, Refusal, eof}
use Rattle.refusals.specs.declared.Span.{Span}
use Rattle.common.specs.Fields.{ListEntry, entry_at}
use Rattle.message.specs.Messages.{MessageStart, ListEnd, start_at}
use Rattle.streaming.specs.Next.{Said, event, no_event}
use Rattle.whole.specs.Whole.{EntryRow, whole_is, broken, refused_alone, AfterWhole, read_to, Fair, rows_of}
use Rattle.whole.specs.Answers.{after_whole}
use Rattle.events.specs.Message.{Message, message_at}
use Rattle.events.specs.Events.{nth}
use Rattle.events.specs.Telling.{message_events, RefusesFirst}
use Rattle.events.specs.Calls.{call}
use Rattle.places.specs.Stands.{Broke}

-- of an input, a place and a table: what a call says, and what the table holds then
abbrev pub WholeReader : Type 0
WholeReader = List ℕ → ℕ → List ℕ → AfterWhole

-- by the definition that the contract of read_message cites
abbrev pub our_whole_reader : WholeReader
our_whole_reader = read_to

-- ---- the event reader

-- what call k says, counted from 0, of an event reader that stands at a place between messages
abbrev pub call_at : List ℕ → ℕ → ℕ → Said
call_at s at k = call k s at at 0

-- it runs to the end of the message m: lent the input's first `next` bytes alone, it gives the events of m, and then no event. (Lent more, the call that judges the CRC goes on to the next message's start.)
pub record RunsTo (s : List ℕ) (at next : ℕ) (m : Message Span) : Type 0 where
  pub within : next ≤ length s
  pub gives : (k : ℕ) → call_at (take next s) at k ≡ nth (map event (message_events m)) no_event k

-- ---- the table

-- a row of the entry e: the place of its name, and where the entry is read again, both within the input
pub record RowIs (s : List ℕ) (r : EntryRow) (e : ListEntry Span) : Type 0 where
  pub name_is : r.name ≡ e.obj_name
  pub name_within : r.name.start + r.name.len ≤ length s
  pub entry_is : entry_at s r.entry.start ≡ got e (r.entry.start + r.entry.len)
  pub entry_within : r.entry.start + r.entry.len ≤ length s

-- a row for each entry, in their order
abbrev pub RowsAre : List ℕ → List EntryRow → List (ListEntry Span) → Type 0
RowsAre s [] [] = Unit {0}
RowsAre s (r ∷ rs) (e ∷ es) = RowIs s r e × RowsAre s rs es
RowsAre s [] (e ∷ es) = ⊥
RowsAre s (r ∷ rs) [] = ⊥

-- entries from p up to q, without a gap
abbrev pub Chained : ℕ → List EntryRow → ℕ → Type 0
Chained p [] q = p ≡ q
Chained p (r ∷ rs) q = (r.entry.start ≡ p) × Chained (p + r.entry.len) rs q

-- ---- a call

pub record AcceptedWhole (a : AfterWhole) : Type 0 where
  pub start : MessageStart Span
  pub end : Option (ListEnd Span)
  pub rows : ℕ
  pub next : ℕ
  pub is : a.answer ≡ whole_is start end rows next

-- what an accepted call says of the input, and what it leaves of the table t: u
pub record ReadAs (s : List ℕ) (at : ℕ) (t u : List ℕ) (start : MessageStart Span) (end : Option (ListEnd Span)) (rows next : ℕ) : Type 0 where
  pub whole : Message Span
  pub runs : RunsTo s at next whole
  -- lent the whole input too, the event reader gives these events, and then says what one says that begins behind the message
  pub events : (k : ℕ) → k < length (message_events whole) → call_at s at k ≡ nth (map event (message_events whole)) no_event k
  pub goes_on_claim : (k : ℕ) → call_at s at (length (message_events whole) + k) ≡ call_at s next k
  pub start_is : whole.start ≡ start
  pub end_is : whole.content.end ≡ end
  pub count : length whole.content.entries ≡ rows
  pub room : 4 * rows ≤ length t
  pub rows_are : RowsAre s (rows_of rows u) whole.content.entries
  -- the entries stand behind the start, one behind the other, and before the message's end
  pub first_entry : ℕ
  pub last_ends : ℕ
  pub begun : start_at s at ≡ got start first_entry
  pub chained : Chained first_entry (rows_of rows u) last_ends
  pub ended : last_ends < next
  pub rest : drop (4 * rows) u ≡ drop (4 * rows) t
  pub same_length : length u ≡ length t

-- accepted exactly if the event reader runs to the message's end and the table has room, and the fields are those of its events
pub record AcceptsExactly (R : WholeReader) : Type 0 where
  pub if : (s : List ℕ) (at : ℕ) (t : List ℕ) (next : ℕ) (m : Message Span) → Fair s at → RunsTo s at next m → 4 * length m.content.entries ≤ length t
      → (R s at t).answer ≡ whole_is m.start m.content.end (length m.content.entries) next
  pub only_if : (s : List ℕ) (at : ℕ) (t : List ℕ) (start : MessageStart Span) (end : Option (ListEnd Span)) (rows next : ℕ) → Fair s at
      → (R s at t).answer ≡ whole_is start end rows next → ReadAs s at t (R s at t).table start end rows next

-- refused at some place
pub record Broken (a : AfterWhole) : Type 0 where
  pub refusal : Refusal
  pub is : a.answer ≡ broken refusal

-- the first refusal is the event reader's, place included, and names where the message broke; there is one wherever the event reader runs to no message's end; an empty input is 10
pub record RefusesAlike (R : WholeReader) : Type 0 where
  pub first : (s : List ℕ) (at : ℕ) (t : List ℕ) (f : Refusal) → Fair s at → at < length s → (R s at t).answer ≡ broken f → RefusesFirst (call_at s at) f
  pub stands : (s : List ℕ) (at : ℕ) (t : List ℕ) (f : Refusal) → Fair s at → (R s at t).answer ≡ broken f → Broke (λ u. message_at u at) s at at f
  pub must : (s : List ℕ) (at : ℕ) (t : List ℕ) → Fair s at → ((next : ℕ) (m : Message Span) → RunsTo s at next m → ⊥) → Broken (R s at t)
  pub empty : (s t : List ℕ) → length s ≤ limit → (R s (length s) t).answer ≡ broken (eof (length s))

-- accepted with some table
pub record WithRoom (R : WholeReader) (s : List ℕ) (at : ℕ) : Type 0 where
  pub table : List ℕ
  pub accepted : AcceptedWhole (R s at table)

-- 20 exactly where it would be accepted with more room; never with a row for every eight bytes of the input, of which an entry has as many at least
pub record RoomLast (R : WholeReader) : Type 0 where
  pub if : (s : List ℕ) (at : ℕ) (t : List ℕ) → WithRoom R s at → (AcceptedWhole (R s at t) → ⊥) → (R s at t).answer ≡ refused_alone too_many_entries_no
  pub only_if : (s : List ℕ) (at : ℕ) (t : List ℕ) → (R s at t).answer ≡ refused_alone too_many_entries_no → WithRoom R s at
  pub enough : (s : List ℕ) (at : ℕ) (t : List ℕ) → 4 * (length s / 8) ≤ length t → (R s at t).answer ≡ refused_alone too_many_entries_no → ⊥

-- every refusal leaves the table
abbrev pub LeavesTable : WholeReader → Type 0
LeavesTable R = (s : List ℕ) (at : ℕ) (t : List ℕ) → (AcceptedWhole (R s at t) → ⊥) → (R s at t).table ≡ t

-- what follows an accepted message is not read: other bytes, or none, change nothing. (What follows one that is refused with 20 is not read either, by RoomLast.)
abbrev pub RestNotRead : WholeReader → Type 0
RestNotRead R = (s : List ℕ) (at : ℕ) (t : List ℕ) (start : MessageStart Span) (end : Option (ListEnd Span)) (rows next : ℕ) → Fair s at → (R s at t).answer ≡ whole_is start end rows next
    → (l : List ℕ) → length (take next s ++ l) ≤ limit → R (take next s ++ l) at t ≡ R s at t

-- 9 of the whole input comes first, then 4 for a place beyond it
pub record JudgesFirst (R : WholeReader) : Type 0 where
  pub long : (s : List ℕ) (at : ℕ) (t : List ℕ) → limit < length s → R s at t ≡ after_whole (refused_alone input_too_long_no) t
  pub beyond : (s : List ℕ) (at : ℕ) (t : List ℕ) → length s ≤ limit → length s < at → R s at t ≡ after_whole (refused_alone bad_state_no) t

pub record GoodWholeReader (R : WholeReader) : Type 0 where
  pub accepts : AcceptsExactly R
  pub refuses : RefusesAlike R
  pub room_last : RoomLast R
  pub leaves : LeavesTable R
  pub rest : RestNotRead R
  pub judges : JudgesFirst R

-- two readers that do the same
abbrev pub SameWhole : WholeReader → WholeReader → Type 0
SameWhole Q R = (s : List ℕ) (at : ℕ) (t : List ℕ) → Q s at t ≡ R s at t

-- the claims leave nothing open: who keeps them answers as ours does, and leaves the same table, on every input
abbrev pub OnlyOurs : Type 0
OnlyOurs = (R : WholeReader) → GoodWholeReader R → SameWhole R our_whole_reader
