-- rule: what the library's call that writes an event answers in plain numbers, and what it leaves in all that it is lent.
use Rattle.std.specs.Prelude.{cond, ◌&&◌, List, [], ◌∷◌, ℕ, ◌^◌, get_or, eqb, ltb}
use Rattle.std.proofs.Math.Option.{Option, some, none}
use Rattle.refusals.specs.Numbers.{bad_state_no}
use Rattle.refusals.specs.declared.Span.{Span}
use Rattle.message.specs.Messages.{Body, open_body, close_body, list_body, MessageStart}
use Rattle.streaming.specs.Next.{MessageEvent, start_event, entry_event, end_event}
use Rattle.writer.specs.Calls.{WriteOutcome, to, not_written, AfterWrite, whole_to, start_to, entry_to, end_to}
use Rattle.writer.specs.declared.Head.{Head}
use Rattle.writer.specs.declared.ListState.{ListState}
use Rattle.writer.specs.declared.ListState.TheVariants.{Entries, Ended}
use Rattle.writer.specs.declared.ListWriter.{ListWriter}
use Rattle.words.specs.Back.{event_of}
use Rattle.sartrogheo.specs.Calls.{good_no, Reply, reply}

-- ---- a writer in four numbers: its place, 1 where a list's entries are to come, how many are, the CRC register. A place and three zeros are a new one

abbrev pub state_words : ListState → List ℕ
state_words (Entries left crc) = 1 ∷ left ∷ crc ∷ []
state_words Ended = 0 ∷ 0 ∷ 0 ∷ []

abbrev pub writer_words : ListWriter → List ℕ
writer_words w = w.place ∷ state_words w.state

abbrev pub writer_at : ℕ → ListState → ListWriter
writer_at place state = record { place = place; state = state }

-- none where the state is over 1, the count over 32 bits or the register over 16, or an ended one has either
abbrev pub writer_of : ℕ → ℕ → ℕ → ℕ → Option ListWriter
writer_of place state left crc =
    cond (eqb state 1) (cond (ltb left (2 ^ 32) && ltb crc (2 ^ 16)) (some (writer_at place (Entries left crc))) none)
    (cond (eqb state 0 && (eqb left 0 && eqb crc 0)) (some (writer_at place Ended)) none)

unfoldable pub writer_in : List ℕ → Option ListWriter
writer_in w = writer_of (get_or w 0 0) (get_or w 1 0) (get_or w 2 0) (get_or w 3 0)

-- ---- an event

-- behind a whole message the writer is ended
abbrev pub ended_behind : WriteOutcome ℕ → WriteOutcome ListWriter
ended_behind (to place) = to (writer_at place Ended)
ended_behind (not_written n) = not_written n

abbrev pub ended_after : AfterWrite ℕ → AfterWrite ListWriter
ended_after a = record { answer = ended_behind a.answer; output = a.output }

abbrev pub head_fields : MessageStart Span → Head
head_fields m = record { transaction_id = m.transaction_id; group_no = m.group_no; abort_on_error = m.abort_on_error }

-- a message's start at a place: an open and a close are whole
abbrev pub message_to : List ℕ → ℕ → List ℕ → Head → Body Span → AfterWrite ListWriter
message_to out at strings head (open_body b) = ended_after (whole_to out at strings head (open_body b))
message_to out at strings head (close_body b) = ended_after (whole_to out at strings head (close_body b))
message_to out at strings head (list_body b) = start_to out at strings head b

abbrev pub event_to : List ℕ → ListWriter → List ℕ → MessageEvent Span → AfterWrite ListWriter
event_to out w strings (start_event m) = message_to out w.place strings (head_fields m) m.message_body
event_to out w strings (entry_event e) = entry_to out w strings e
event_to out w strings (end_event e) = end_to out w strings e

-- 4 comes first, for words that no event has and for numbers that are no writer
abbrev pub event_or : List ℕ → List ℕ → Option (MessageEvent Span) → Option ListWriter → AfterWrite ListWriter
event_or out strings (some e) (some w) = event_to out w strings e
event_or out strings (some e) none = record { answer = not_written bad_state_no; output = out }
event_or out strings none w = record { answer = not_written bad_state_no; output = out }

abbrev pub write_no : WriteOutcome ListWriter → ℕ
write_no (to w) = good_no
write_no (not_written n) = n

-- a refusal leaves the writer
abbrev pub writer_behind : WriteOutcome ListWriter → List ℕ → List ℕ
writer_behind (to v) w = writer_words v
writer_behind (not_written n) w = w

unfoldable pub sgh_write_event : List ℕ → List ℕ → List ℕ → List ℕ → Reply
sgh_write_event out strings e w =
    let a : AfterWrite ListWriter = event_or out strings (event_of e) (writer_in w) in
    reply (write_no a.answer) (a.output ∷ writer_behind a.answer w ∷ [])
