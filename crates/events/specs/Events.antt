-- rule: all that the calls answer on a whole input, message by message, entry by entry.
use Rattle.std.specs.Prelude.{ℕ, zero, suc, List, [], ◌∷◌, cond, length, ltb, leb}
use Rattle.refusals.specs.Numbers.{bad_state_no, input_too_long_no, limit}
use Rattle.refusals.specs.Read.{Read, got, refused, eof}
use Rattle.refusals.specs.declared.Span.{Span}
use Rattle.common.specs.Fields.{entry_at}
use Rattle.message.specs.Messages.{Body, open_body, close_body, list_body, start_at, list_end_at}
use Rattle.trailer.specs.Trailer.{trailer_at}
use Rattle.streaming.specs.Next.{MessageEvent, start_event, entry_event, end_event, Said, event, no_event, failed, alone, is_sound}

-- the answers of the first calls, and that of every later one
pub record Answers : Type 0 where
  pub first : List Said
  pub later : Said

-- the answer of call k, counted from 0
unfoldable pub nth : List Said → Said → ℕ → Said
nth [] later k = later
nth (x ∷ xs) later zero = x
nth (x ∷ xs) later (suc k) = nth xs later k

unfoldable pub answer : Answers → ℕ → Said
answer a k = nth a.first a.later k

-- one event, and then the rest
unfoldable pub says_first : MessageEvent Span → Answers → Answers
says_first e a = record { first = event e ∷ a.first; later = a.later }

abbrev pub no_more : Answers
no_more = record { first = []; later = no_event }

-- at a message start: after a refusal, no event
unfoldable pub at_start_claim : {A : Type 0} → Read A → (A → ℕ → Answers) → Answers
at_start_claim (got a n) k = k a n
at_start_claim (refused f) k = record { first = failed f ∷ []; later = no_event }

-- inside a message: after a refusal every later call answers 10
unfoldable pub inside : {A : Type 0} → ℕ → Read A → (A → ℕ → Answers) → Answers
inside end (got a n) k = k a n
inside end (refused f) k = record { first = failed f ∷ []; later = failed (eof end) }

-- as many entries as the list's head says, each an event
unfoldable pub entries_from : ℕ → List ℕ → ℕ → (ℕ → Answers) → Answers
entries_from zero s at k = k at
entries_from (suc left) s at k = inside (length s) (entry_at s at) λ e n. says_first (entry_event e) (entries_from left s n k)

-- what follows a message's start, up to the trailer
unfoldable pub content_from : Body Span → List ℕ → ℕ → (ℕ → Answers) → Answers
content_from (open_body b) s at k = k at
content_from (close_body b) s at k = k at
content_from (list_body b) s at k =
    entries_from b.num_vals s at λ n.
    inside (length s) (list_end_at s n) λ e m.
    says_first (end_event e) (k m)

-- at most `many` messages from a place on; the trailer has no event
unfoldable pub messages_from : ℕ → List ℕ → ℕ → Answers
messages_from zero s at = no_more
messages_from (suc many) s at =
    cond (leb (length s) at) no_more
    (at_start_claim (start_at s at) λ m n₁.
    says_first (start_event m)
    (content_from m.message_body s n₁ λ n₂.
    inside (length s) (trailer_at s at n₂) λ trailer n₃.
    messages_from many s n₃))

-- a message has at least a byte, so that no input has more messages than bytes; an input that is too long is refused for ever
unfoldable pub events_of : List ℕ → Answers
events_of s =
    cond (ltb limit (length s)) (record { first = []; later = alone input_too_long_no })
    (messages_from (suc (length s)) s 0)

-- ---- a reader that has read a part

-- one answer for ever
abbrev pub for_ever : Said → Answers
for_ever x = record { first = []; later = x }

-- at the trailer of the message that began at `start`
unfoldable pub trailer_from : List ℕ → ℕ → ℕ → Answers
trailer_from s start at = inside (length s) (trailer_at s start at) λ trailer n. messages_from (suc (length s)) s n

-- what a sound reader has before it: nothing pending, a message's start; 1, the trailer; else the entries that are left, the list's end and the trailer
unfoldable pub rest_from : List ℕ → ℕ → ℕ → ℕ → Answers
rest_from s at start zero = messages_from (suc (length s)) s at
rest_from s at start (suc zero) = trailer_from s start at
rest_from s at start (suc (suc left)) =
    entries_from left s at λ n.
    inside (length s) (list_end_at s n) λ e m.
    says_first (end_event e) (trailer_from s start m)

-- of any three numbers: 9 and 4 are said for ever
unfoldable pub answers_from : List ℕ → ℕ → ℕ → ℕ → Answers
answers_from s at start pending =
    cond (ltb limit (length s)) (for_ever (alone input_too_long_no))
    (cond (is_sound (length s) at start pending) (rest_from s at start pending) (for_ever (alone bad_state_no)))
