-- claim: a whole message, from its first byte to its end byte.
use Rattle.std.specs.Prelude.{ℕ, List, []}
use Rattle.std.proofs.Math.Option.{Option, some, none}
use Rattle.refusals.specs.Read.{Read, got, then, many}
use Rattle.refusals.specs.declared.Span.{Span}
use Rattle.common.specs.Fields.{ListEntry, entry_at}
use Rattle.message.specs.Messages.{MessageStart, ListEnd, Body, open_body, close_body, list_body, start_at, list_end_at}
use Rattle.trailer.specs.Trailer.{trailer_at}

-- what stands between a message's start and its trailer: of a list response the entries and the end
pub record Content (T : Type 0) : Type 0 where
  pub entries : List (ListEntry T)
  pub end : Option (ListEnd T)

pub record Message (T : Type 0) : Type 0 where
  pub start : MessageStart T
  pub content : Content T

-- as many entries as the list's head says, one behind the other
abbrev pub entries_at : ℕ → List ℕ → ℕ → Read (List (ListEntry Span))
entries_at n s at = many n (entry_at s) at

unfoldable pub content_of : Body Span → List ℕ → ℕ → Read (Content Span)
content_of (open_body b) s at = got (record { entries = []; end = none }) at
content_of (close_body b) s at = got (record { entries = []; end = none }) at
content_of (list_body b) s at =
    then (entries_at b.num_vals s at) λ entries n.
    then (list_end_at s n) λ end m.
    got (record { entries = entries; end = some end }) m

-- the message at a place, and the place behind its end byte
unfoldable pub message_at : List ℕ → ℕ → Read (Message Span)
message_at s at =
    then (start_at s at) λ start n₁.
    then (content_of start.message_body s n₁) λ content n₂.
    then (trailer_at s at n₂) λ trailer n₃.
    got (record { start = start; content = content }) n₃
