-- claim: message events. Repeated calls of a reader, whichever reader it is, give the events that the tables define; a list start with n is followed by n entries and the end, or by a refusal; and a refusal says where it broke.
use Rattle.std.specs.Prelude.{◌≡◌, List, ℕ, zero, suc, ◌<◌, length}
use Rattle.std.specs.Borrow.{Bor}
use Rattle.refusals.specs.Read.{Refusal, eof}
use Rattle.refusals.specs.declared.Span.{Span}
use Rattle.common.specs.Fields.{ListEntry}
use Rattle.message.specs.Messages.{MessageStart, ListStart, ListEnd, list_body}
use Rattle.streaming.specs.Next.{start_event, entry_event, end_event, Said, event, failed, ReaderAfter, next_at}
use Rattle.parser.specs.Reader.{reader_of, called_next}
use Rattle.parser.specs.declared.Parser.{Parser}
use Rattle.events.specs.Events.{answer, events_of, answers_from}
use Rattle.places.specs.Calls.{CallBroke, Why}

-- what a call gave: what it says (an event, no event or a refusal), and the reader for the next call
pub record Told (S : Type 0) : Type 0 where
  pub said : Said
  pub reader : S

-- a reader that keeps an S, of an input that is lent as an I: the bytes of such an input, a new reader of it, and what a call gives
pub record Reader (I S : Type 0) : Type 0 where
  pub bytes : I → List ℕ
  pub new : I → S
  pub next : I → S → Told S

-- ---- ours

-- the three numbers that Reader::parse_next is called with: the place in the input, where the message there began, and what of it is pending
pub record Numbers : Type 0 where
  pub place : ℕ
  pub start : ℕ
  pub pending : ℕ

-- what the definition of a call leaves of them, as such a call
abbrev pub told : ReaderAfter → Told Numbers
told a = record { said = a.answer; reader = record { place = a.place; start = a.start; pending = a.pending } }

-- by the definition that the contracts of Reader::parse_next and next_from cite: the first call has 0, 0, 0, each later one the numbers that the one before gave
abbrev pub our_reader : Reader (List ℕ) Numbers
our_reader =
    record {
      bytes = λ s. s;
      new = λ s. record { place = 0; start = 0; pending = 0 };
      next = λ s r. told (next_at s r.place r.start r.pending);
    }

-- by the definitions that the contracts of Parser::new and Parser::next cite: the reader holds its input, a reference whose content is `now` of it, and a call gets nothing else
abbrev pub our_parser : Reader (Bor (List ℕ)) Parser
our_parser = record { bytes = (λ x. x.now); new = reader_of; next = λ i p. record { said = (called_next p).said; reader = (called_next p).reader } }

-- ---- in use

-- what call k says, counted from 0, of the reader r
unfoldable pub says_at : {I S : Type 0} → Reader I S → I → S → ℕ → Said
says_at R i r zero = (R.next i r).said
says_at R i r (suc k) = says_at R i (R.next i r).reader k

-- what call k says of a new reader
abbrev pub hears : {I S : Type 0} → Reader I S → I → ℕ → Said
hears R i k = says_at R i (R.new i) k

-- For every input and every k, call k says what the message rules say. `events_of` (crate events) is made of their tables alone and knows of no reader: the answers of the first calls, and that of every later one
abbrev pub ReaderGives : {I S : Type 0} → Reader I S → Type 0
ReaderGives {I} R = (i : I) (k : ℕ) → hears R i k ≡ answer (events_of (R.bytes i)) k

-- From any three numbers on, those of a reader that has read a part, or that no call leaves (`from` makes the reader of an input with them): for every k, call k says what the message rules say from there, and 4 for ever where the numbers are not sound
abbrev pub GoesOn : {I S : Type 0} → Reader I S → (I → Numbers → S) → Type 0
GoesOn {I} R from = (i : I) (n : Numbers) (k : ℕ) → says_at R i (from i n) k ≡ answer (answers_from (R.bytes i) n.place n.start n.pending) k

-- ours, with these numbers
abbrev pub reader_with : List ℕ → Numbers → Numbers
reader_with s n = n

abbrev pub parser_with : Bor (List ℕ) → Numbers → Parser
parser_with i n = record { input = i; reader = record { place = n.place; start = n.start; pending = n.pending } }

-- the calls from k on say n entries and then the end, or a refusal before that
pub data Follows (says : ℕ → Said) : ℕ → ℕ → Type 0 where
  refuses : {n k : ℕ} (f : Refusal) → says k ≡ failed f → Follows says n k
  lists : {n k : ℕ} (e : ListEntry Span) → says k ≡ event (entry_event e) → Follows says n (suc k) → Follows says (suc n) k
  closes : {k : ℕ} (e : ListEnd Span) → says k ≡ event (end_event e) → Follows says 0 k

-- For every input: where call k says the start of a list response with n entries, the calls behind it say n entries and the end, or a refusal
abbrev pub ListsEntries : {I S : Type 0} → Reader I S → Type 0
ListsEntries {I} R =
    (i : I) (k : ℕ) (m : MessageStart Span) (b : ListStart Span) → hears R i k ≡ event (start_event m) → m.message_body ≡ list_body b
    → Follows (hears R i) b.num_vals (suc k)

-- For every input: a call that says a refusal with a place is the first that does, the message that it is in broke there, and the calls behind it say 10 at the input's length, or no event where that message's start was refused (crate places); or a call before it was refused, and it is 10 at the input's length
abbrev pub SaysWhere : {I S : Type 0} → Reader I S → Type 0
SaysWhere {I} R = (i : I) (k : ℕ) (f : Refusal) → hears R i k ≡ failed f → Why (R.bytes i) (hears R i) k f

-- From any three numbers on: where the next call says a refusal with a place, the reading that the numbers ask for broke there
abbrev pub CallSaysWhere : {I S : Type 0} → Reader I S → (I → Numbers → S) → Type 0
CallSaysWhere {I} R from = (i : I) (n : Numbers) (f : Refusal) → says_at R i (from i n) 0 ≡ failed f → CallBroke (R.bytes i) n.place n.start n.pending f

-- From any three numbers on: a refusal with a place behind another is 10, at the input's length
abbrev pub TenAgain : {I S : Type 0} → Reader I S → (I → Numbers → S) → Type 0
TenAgain {I} R from = (i : I) (n : Numbers) (j k : ℕ) (g f : Refusal) → j < k → says_at R i (from i n) j ≡ failed g → says_at R i (from i n) k ≡ failed f → f ≡ eof (length (R.bytes i))
