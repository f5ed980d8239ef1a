-- rule: what the library's call that reads a whole message answers in plain numbers, and what it leaves in all that it is lent.
use Rattle.std.specs.Prelude.{List, [], ◌∷◌, ◌++◌, ℕ}
use Rattle.std.proofs.Math.Option.{Option, some, none}
use Rattle.refusals.specs.declared.Span.{Span}
use Rattle.message.specs.Messages.{ListEnd}
use Rattle.streaming.specs.Next.{start_event, end_event, Said, event, no_event, failed, alone}
use Rattle.words.specs.Words.{event_words}
use Rattle.whole.specs.Whole.{WholeSaid, whole_is, broken, refused_alone, AfterWhole, read_to}
use Rattle.sartrogheo.specs.Calls.{Reply, reply}
use Rattle.sartrogheo.specs.Streams.{reader_no}

-- ---- a message in 50 numbers: the 24 words of its start, the 24 of its end, how many rows it has, the place behind it

-- the start, or why there is none
abbrev pub start_said : WholeSaid → Said
start_said (whole_is start end rows next) = event (start_event start)
start_said (broken f) = failed f
start_said (refused_alone n) = alone n

-- the words of no event are zeros
abbrev pub list_end_said : Option (ListEnd Span) → Said
list_end_said (some e) = event (end_event e)
list_end_said none = no_event

abbrev pub end_said : WholeSaid → Said
end_said (whole_is start end rows next) = list_end_said end
end_said (broken f) = no_event
end_said (refused_alone n) = no_event

abbrev pub rows_said : WholeSaid → ℕ
rows_said (whole_is start end rows next) = rows
rows_said (broken f) = 0
rows_said (refused_alone n) = 0

abbrev pub next_said : WholeSaid → ℕ
next_said (whole_is start end rows next) = next
next_said (broken f) = 0
next_said (refused_alone n) = 0

unfoldable pub message_words : WholeSaid → List ℕ
message_words r = event_words (start_said r) ++ (event_words (end_said r) ++ (rows_said r ∷ next_said r ∷ []))

unfoldable pub sgh_read_message : List ℕ → ℕ → List ℕ → Reply
sgh_read_message input at table =
    let a : AfterWhole = read_to input at table in
    reply (reader_no (start_said a.answer)) (a.table ∷ message_words a.answer ∷ [])
