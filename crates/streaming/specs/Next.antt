-- rule: the next event of a message input, and the three numbers that a reader keeps.
use Rattle.std.specs.Prelude.{ℕ, zero, suc, ◌+◌, List, Bool, cond, ◌&&◌, length, ltb, leb}
use Rattle.refusals.specs.Numbers.{bad_state_no, input_too_long_no, limit}
use Rattle.refusals.specs.Read.{Read, got, refused, Refusal}
use Rattle.refusals.specs.declared.Span.{Span}
use Rattle.common.specs.Fields.{ListEntry, entry_at}
use Rattle.message.specs.Messages.{MessageStart, ListEnd, Body, open_body, close_body, list_body, start_at, list_end_at}
use Rattle.trailer.specs.Trailer.{trailer_at}

-- strings are of type T: a part of the input where they are read, or the bytes themselves
pub data MessageEvent (T : Type 0) : Type 0 where
  start_event : MessageStart T → MessageEvent T
  entry_event : ListEntry T → MessageEvent T
  end_event : ListEnd T → MessageEvent T

-- what a call says; `alone` is the number of a refusal that stands at no place of the input
pub data Said : Type 0 where
  event : MessageEvent Span → Said
  no_event : Said
  failed : Refusal → Said
  alone : ℕ → Said

-- what a call says, and the reader's three numbers behind it
pub record ReaderAfter : Type 0 where
  pub answer : Said
  pub place : ℕ
  pub start : ℕ
  pub pending : ℕ

-- a refusal drops the rest of the input, and keeps `start` and `pending`; else it goes on with what was read
unfoldable pub onward : {A : Type 0} → ℕ → ℕ → ℕ → Read A → (A → ℕ → ReaderAfter) → ReaderAfter
onward end start pending (got a n) k = k a n
onward end start pending (refused f) k = record { answer = failed f; place = end; start = start; pending = pending }

-- what is pending behind a message's start: the trailer, and of a list the entries and the end
abbrev pub pending_of : {T : Type 0} → Body T → ℕ
pending_of (open_body b) = 1
pending_of (close_body b) = 1
pending_of (list_body b) = b.num_vals + 2

-- between messages: no event where the input is empty, else a message's start; refused there, nothing is pending
unfoldable pub begin_at : List ℕ → ℕ → ℕ → ReaderAfter
begin_at s at start =
    cond (leb (length s) at) (record { answer = no_event; place = at; start = start; pending = 0 })
    (onward (length s) at 0 (start_at s at) λ m n. record { answer = event (start_event m); place = n; start = at; pending = pending_of m.message_body })

-- the trailer has no event: the next message's start follows in the same call
unfoldable pub trailer_next : List ℕ → ℕ → ℕ → ReaderAfter
trailer_next s at start = onward (length s) start 1 (trailer_at s start at) λ done n. begin_at s n start

unfoldable pub end_next : List ℕ → ℕ → ℕ → ReaderAfter
end_next s at start = onward (length s) start 2 (list_end_at s at) λ e n. record { answer = event (end_event e); place = n; start = start; pending = 1 }

-- an entry, behind which `left` are pending
unfoldable pub entry_next : List ℕ → ℕ → ℕ → ℕ → ReaderAfter
entry_next s at start left =
    onward (length s) start (suc left) (entry_at s at) λ e n. record { answer = event (entry_event e); place = n; start = start; pending = left }

-- pending: 0 between messages, 1 at the trailer, 2 at a list's end, more at an entry
unfoldable pub step_at : List ℕ → ℕ → ℕ → ℕ → ReaderAfter
step_at s at start zero = begin_at s at start
step_at s at start (suc zero) = trailer_next s at start
step_at s at start (suc (suc zero)) = end_next s at start
step_at s at start (suc (suc (suc k))) = entry_next s at start (suc (suc k))

-- not BadState: the place within the input, the message start not beyond it, at most 4,294,967,297 pending
abbrev pub is_sound : ℕ → ℕ → ℕ → ℕ → Bool
is_sound end at start pending = leb at end && (leb start at && leb pending 4294967297)

-- 9, 4, then the step; both leave the reader unchanged
unfoldable pub next_at : List ℕ → ℕ → ℕ → ℕ → ReaderAfter
next_at s at start pending =
    cond (ltb limit (length s)) (record { answer = alone input_too_long_no; place = at; start = start; pending = pending })
    (cond (is_sound (length s) at start pending) (step_at s at start pending)
    (record { answer = alone bad_state_no; place = at; start = start; pending = pending }))
