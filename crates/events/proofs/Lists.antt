-- A list response with n entries gives n entries and its end, and nothing between, or a refusal before that.
use mathlib.Core.List.{List, [], ◌∷◌}
use Prim.Native.Nat.{ℕ, zero, suc}
use lib.ListN.{length}
use Rattle.refusals.specs.Read.{Read, got, refused, Refusal}
use Rattle.refusals.specs.declared.Span.{Span}
use Rattle.common.specs.Fields.{ListEntry, entry_at}
use Rattle.message.specs.Messages.{ListStart, ListEnd, list_body, list_end_at}
use Rattle.streaming.specs.Next.{entry_event, end_event, Said, failed}
use Rattle.events.specs.Events.{Answers, says_first, inside, entries_from, content_from}

pub data Listing : ℕ → Answers → Type 0 where
  stops : {n : ℕ} (f : Refusal) (x : Said) → Listing n (record { first = failed f ∷ []; later = x })
  lists_one : {n : ℕ} (e : ListEntry Span) {a : Answers} → Listing n a → Listing (suc n) (says_first (entry_event e) a)
  at_end : (e : ListEnd Span) (a : Answers) → Listing 0 (says_first (end_event e) a)

end_lists : (end : ℕ) (r : Read (ListEnd Span)) (k : ℕ → Answers) → Listing 0 (inside end r λ e m. says_first (end_event e) (k m))
unfolding inside
end_lists end (got e m) k = at_end e (k m)
end_lists end (refused f) k = stops f _

entry_lists : (n end : ℕ) (r : Read (ListEntry Span)) (k : ℕ → Answers) → ((m : ℕ) → Listing n (k m)) → Listing (suc n) (inside end r λ e m. says_first (entry_event e) (k m))
unfolding inside
entry_lists n end (got e m) k h = lists_one e (h m)
entry_lists n end (refused f) k h = stops f _

entries_list : (n : ℕ) (s : List ℕ) (at : ℕ) (k : ℕ → Answers) → ((m : ℕ) → Listing 0 (k m)) → Listing n (entries_from n s at k)
unfolding entries_from
entries_list zero s at k h = h at
entries_list (suc n) s at k h = entry_lists n (length s) (entry_at s at) _ (λ m. entries_list n s m k h)

-- what follows the start of a list response that says n entries
pub list_content_lem : (b : ListStart Span) (s : List ℕ) (at : ℕ) (k : ℕ → Answers) → Listing b.num_vals (content_from (list_body b) s at k)
unfolding content_from
list_content_lem b s at k = entries_list b.num_vals s at _ (λ m. end_lists (length s) (list_end_at s m) k)
