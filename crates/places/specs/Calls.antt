-- claim: where a call of the message reader broke, and what the calls behind it say.
use Rattle.std.specs.Prelude.{ℕ, suc, ◌<◌, ◌≡◌, List, length}
use Rattle.refusals.specs.Read.{got, refused, Refusal, eof}
use Rattle.refusals.specs.declared.Span.{Span}
use Rattle.common.specs.Fields.{entry_at}
use Rattle.message.specs.Messages.{MessageStart, start_at, list_end_at}
use Rattle.trailer.specs.Trailer.{trailer_at}
use Rattle.streaming.specs.Next.{Said, no_event, failed}
use Rattle.events.specs.Message.{Message, message_at}
use Rattle.places.specs.Stands.{Broke}

-- ---- one call, of a reader with any three numbers: at, start and what is pending

pub data CallBroke (s : List ℕ) (at start : ℕ) : ℕ → Refusal → Type 0 where
  -- between messages: in a message's start
  in_start : (f : Refusal) → at < length s → Broke (λ t. start_at t at) s at at f → CallBroke s at start 0 f
  -- at the trailer: in it, or in the start of the message behind it
  in_trailer : (f : Refusal) → Broke (λ t. trailer_at t start at) s at start f → CallBroke s at start 1 f
  in_next_start : (f : Refusal) (n : ℕ) → trailer_at s start at ≡ got tt n → n < length s → Broke (λ t. start_at t n) s n n f → CallBroke s at start 1 f
  -- at a list's end, and at an entry
  in_list_end : (f : Refusal) → Broke (λ t. list_end_at t at) s at start f → CallBroke s at start 2 f
  in_entry : (f : Refusal) (left : ℕ) → Broke (λ t. entry_at t at) s at start f → CallBroke s at start (suc (suc (suc left))) f

-- ---- a whole input

-- a message may begin at p: at the input's start, or behind a message that was accepted
pub data BeginsAt (s : List ℕ) : ℕ → Type 0 where
  at_first : BeginsAt s 0
  after_message : (p n : ℕ) (m : Message Span) → BeginsAt s p → message_at s p ≡ got m n → BeginsAt s n

-- the first refusal of an input: the message that begins at `start`, within it, broke at the refusal's place
pub record FirstBroke (s : List ℕ) (f : Refusal) : Type 0 where
  pub start : ℕ
  pub within : start < length s
  pub begins : BeginsAt s start
  pub broke : Broke (λ t. message_at t start) s start start f

-- what every call behind that one says: no event where the message's start is refused, and 10 at the input's length where that start was read
pub data Afterwards (s : List ℕ) (start : ℕ) (f : Refusal) : Said → Type 0 where
  at_its_start : start_at s start ≡ refused f → Afterwards s start f no_event
  inside_it : (m : MessageStart Span) (n : ℕ) → start_at s start ≡ got m n → Afterwards s start f (failed (eof (length s)))

-- why call k says f
pub data Why (s : List ℕ) (says : ℕ → Said) (k : ℕ) (f : Refusal) : Type 0 where
  -- no call before it was refused, and every call behind it says `later`
  the_first : says k ≡ failed f → ((j : ℕ) (g : Refusal) → j < k → says j ≡ failed g → ⊥) → (b : FirstBroke s f)
      → (later : Said) → Afterwards s b.start f later → ((j : ℕ) → k < j → says j ≡ later) → Why s says k f
  -- a call before it was refused: it is 10, at the input's length
  repeated : says k ≡ failed f → (j : ℕ) (g : Refusal) → j < k → says j ≡ failed g → f ≡ eof (length s) → Why s says k f
