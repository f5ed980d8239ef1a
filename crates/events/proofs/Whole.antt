-- A whole message and the calls: where message_at finds a message, the calls give its events and go on behind it; where it refuses, it refuses as the first refusing call does.
use mathlib.Core.Path.{◌≡◌, refl, ap, ◌∙◌}
use mathlib.Core.List.{List, [], ◌∷◌}
use mathlib.Core.Option.{some}
use Prim.Native.Nat.{ℕ, zero, suc, ◌<◌}
use lib.ListN.{length}
use borrow.Author.Tests.{lt-leb}
use Rattle.refusals.specs.Read.{Read, got, refused, then, many}
use Rattle.refusals.specs.declared.Span.{Span}
use Rattle.common.specs.Fields.{ListEntry, entry_at}
use Rattle.message.specs.Messages.{ListEnd, Body, open_body, close_body, list_body, MessageStart, start_at}
use Rattle.trailer.specs.Trailer.{trailer_at}
use Rattle.streaming.specs.Next.{MessageEvent, start_event, entry_event, end_event}
use Rattle.events.specs.Message.{Content, entries_at, content_of, message_at}
use Rattle.events.specs.Events.{Answers, says_first, at_start_claim, inside, entries_from, content_from, messages_from}
use Rattle.events.specs.Telling.{says_all, entry_events, end_events, message_events, first_refusal, Tells}

entry_more : (e : ListEntry Span) (r : Read (List (ListEntry Span))) (a : Answers) (k : ℕ → Answers) → Tells (λ xs. entry_events xs []) r a k
    → Tells (λ xs. entry_events xs []) (then r λ es m. got (e ∷ es) m) (says_first (entry_event e) a) k
unfolding then entry_events says_all first_refusal says_first
entry_more e (got es m) a k h = record { tells = ap (says_first (entry_event e)) h.tells }
entry_more e (refused f) a k h = record { tells = h.tells }

entry_first : (end : ℕ) (r : Read (ListEntry Span)) (q : ℕ → Read (List (ListEntry Span))) (a : ℕ → Answers) (k : ℕ → Answers)
    → ((n : ℕ) → Tells (λ xs. entry_events xs []) (q n) (a n) k)
    → Tells (λ xs. entry_events xs []) (then r λ e n. then (q n) λ es m. got (e ∷ es) m) (inside end r λ e n. says_first (entry_event e) (a n)) k
unfolding then inside first_refusal
entry_first end (got e n) q a k h = entry_more e (q n) (a n) k (h n)
entry_first end (refused f) q a k h = record { tells = refl }

entries_tell : (n : ℕ) (s : List ℕ) (at : ℕ) (k : ℕ → Answers) → Tells (λ xs. entry_events xs []) (entries_at n s at) (entries_from n s at k) k
unfolding many entries_from entry_events says_all
entries_tell zero s at k = record { tells = refl }
entries_tell (suc n) s at k = entry_first (length s) (entry_at s at) _ _ k (λ m. entries_tell n s m k)

-- events before a refusal do not hide it
past_events : (es : List (MessageEvent Span)) (a : Answers) → first_refusal (says_all es a).first ≡ first_refusal a.first
unfolding says_all says_first first_refusal
past_events [] a = refl
past_events (e ∷ es) a = past_events es a

end_last : (xs : List (ListEntry Span)) (e : ListEnd Span) (a : Answers) → says_all (entry_events xs []) (says_first (end_event e) a) ≡ says_all (entry_events xs (end_event e ∷ [])) a
unfolding says_all entry_events
end_last [] e a = refl
end_last (x ∷ xs) e a = ap (says_first (entry_event x)) (end_last xs e a)

abbrev content_events : Content Span → List (MessageEvent Span)
content_events c = entry_events c.entries (end_events c.end)

end_tells : (end : ℕ) (es : List (ListEntry Span)) (r : Read (ListEnd Span)) (a : Answers) (k : ℕ → Answers)
    → a ≡ says_all (entry_events es []) (inside end r λ e m. says_first (end_event e) (k m))
    → Tells content_events (then r λ e m. got (record { entries = es; end = some e }) m) a k
unfolding then inside first_refusal
end_tells end es (got e m) a k h = record { tells = h ∙ end_last es e (k m) }
end_tells end es (refused f) a k h = record { tells = ap (λ (x : Answers). first_refusal x.first) h ∙ past_events (entry_events es []) _ }

list_tells : (end : ℕ) (r : Read (List (ListEntry Span))) (q : ℕ → Read (ListEnd Span)) (a : Answers) (k : ℕ → Answers)
    → Tells (λ xs. entry_events xs []) r a (λ n. inside end (q n) λ e m. says_first (end_event e) (k m))
    → Tells content_events (then r λ es n. then (q n) λ e m. got (record { entries = es; end = some e }) m) a k
unfolding then
list_tells end (got es n) q a k h = end_tells end es (q n) a k h.tells
list_tells end (refused f) q a k h = record { tells = h.tells }

content_tells : (b : Body Span) (s : List ℕ) (at : ℕ) (k : ℕ → Answers) → Tells content_events (content_of b s at) (content_from b s at k) k
unfolding content_of content_from entry_events says_all
content_tells (open_body b) s at k = record { tells = refl }
content_tells (close_body b) s at k = record { tells = refl }
content_tells (list_body b) s at k = list_tells (length s) (entries_at b.num_vals s at) _ _ k (entries_tell b.num_vals s at _)

trailer_tells : (end : ℕ) (m : MessageStart Span) (c : Content Span) (r : Read (Unit {0})) (a : Answers) (k : ℕ → Answers)
    → a ≡ says_all (content_events c) (inside end r λ t n. k n)
    → Tells message_events (then r λ t n. got (record { start = m; content = c }) n) (says_first (start_event m) a) k
unfolding then inside message_events says_all says_first first_refusal
trailer_tells end m c (got t n) a k h = record { tells = ap (says_first (start_event m)) h }
trailer_tells end m c (refused f) a k h = record { tells = ap (λ (x : Answers). first_refusal x.first) h ∙ past_events (content_events c) _ }

rest_tells : (end : ℕ) (m : MessageStart Span) (r : Read (Content Span)) (q : ℕ → Read (Unit {0})) (a : Answers) (k : ℕ → Answers)
    → Tells content_events r a (λ n. inside end (q n) λ t i. k i)
    → Tells message_events (then r λ c n. then (q n) λ t i. got (record { start = m; content = c }) i) (says_first (start_event m) a) k
unfolding then says_first first_refusal
rest_tells end m (got c n) q a k h = trailer_tells end m c (q n) a k h.tells
rest_tells end m (refused f) q a k h = record { tells = h.tells }

start_tells : (end : ℕ) (r : Read (MessageStart Span)) (q : MessageStart Span → ℕ → Read (Content Span)) (t : ℕ → Read (Unit {0})) (a : MessageStart Span → ℕ → Answers) (k : ℕ → Answers)
    → ((m : MessageStart Span) (n : ℕ) → Tells content_events (q m n) (a m n) (λ i. inside end (t i) λ u j. k j))
    → Tells message_events (then r λ m n. then (q m n) λ c i. then (t i) λ u j. got (record { start = m; content = c }) j) (at_start_claim r λ m n. says_first (start_event m) (a m n)) k
unfolding then at_start_claim first_refusal
start_tells end (got m n) q t a k h = rest_tells end m (q m n) t (a m n) k (h m n)
start_tells end (refused f) q t a k h = record { tells = refl }

-- message_at and the answers from a message's first byte on: its events and then the answers behind it, or its refusal as the first
pub message_tells : (many : ℕ) (s : List ℕ) (at : ℕ) → at < length s → Tells message_events (message_at s at) (messages_from (suc many) s at) (messages_from many s)
unfolding message_at messages_from
message_tells many s at h =
    rw (lt-leb (length s) at h)
    (start_tells (length s) (start_at s at) (λ m n. content_of m.message_body s n) (λ i. trailer_at s at i) _ (messages_from many s) (λ m n. content_tells m.message_body s n _))
