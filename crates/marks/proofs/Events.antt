-- Repeated calls give the events of the tables, and so a list start is followed by its entries and end, or by a refusal.
use mathlib.Core.Path.{◌≡◌, refl, sym, ap, ◌∙◌}
use mathlib.Core.List.{List, [], ◌∷◌}
use mathlib.Core.Bool.{Bool, true, false, false≢true}
use Prim.Native.Nat.{ℕ, zero, suc}
use lib.ListN.{length}
use lib.Dec.{ltb, leb}
use denote.Ref.{Bor}
use Rattle.frame.proofs.Cases.{by_test}
use Rattle.refusals.specs.Numbers.{input_too_long_no, limit}
use Rattle.refusals.specs.Read.{Read, got, refused, Refusal, eof}
use Rattle.refusals.specs.declared.Span.{Span}
use Rattle.common.specs.Fields.{entry_at}
use Rattle.message.specs.Messages.{MessageStart, ListStart, Body, open_body, close_body, list_body, start_at, list_end_at}
use Rattle.trailer.specs.Trailer.{trailer_at}
use Rattle.streaming.specs.Next.{next_at, MessageEvent, start_event, entry_event, end_event, Said, event, no_event, failed, alone}
use Rattle.events.specs.Events.{Answers, nth, answer, says_first, at_start_claim, inside, entries_from, content_from, messages_from, events_of}
use Rattle.events.specs.Calls.{call}
use Rattle.events.proofs.Calls.{calls_from, calls_are_events}
use Rattle.events.proofs.Lists.{Listing, stops, lists_one, at_end, list_content_lem}
use Rattle.places.specs.Calls.{Why, the_first, repeated}
use Rattle.places.proofs.Calls.{call_broke, events_why, ten_again}
use Rattle.marks.specs.Events as E
use Rattle.marks.specs.Events.{Reader, our_reader, our_parser, says_at, hears, ReaderGives, GoesOn, reader_with, parser_with, Follows, refuses, closes, ListsEntries, SaysWhere, CallSaysWhere, TenAgain}

-- ---- our two readers are the calls of crate events

reader_calls : (s : List ℕ) (at start pending k : ℕ) → says_at our_reader s (record { place = at; start = start; pending = pending }) k ≡ call k s at start pending
unfolding says_at call
reader_calls s at start pending zero = refl
reader_calls s at start pending (suc k) =
    let n = next_at s at start pending in
    reader_calls s n.place n.start n.pending k

parser_calls : (i : Bor (List ℕ)) (at start pending k : ℕ)
    → says_at our_parser i (record { input = i; reader = record { place = at; start = start; pending = pending } }) k ≡ call k i.now at start pending
unfolding says_at call
parser_calls i at start pending zero = refl
parser_calls i at start pending (suc k) =
    let n = next_at i.now at start pending in
    parser_calls i n.place n.start n.pending k

pub reader_gives : ReaderGives our_reader
reader_gives s k = reader_calls s 0 0 0 k ∙ calls_are_events s k

pub parser_gives : ReaderGives our_parser
parser_gives i k = parser_calls i 0 0 0 k ∙ calls_are_events i.now k

pub reader_goes_on : GoesOn our_reader reader_with
reader_goes_on s n k = reader_calls s n.place n.start n.pending k ∙ calls_from s n.place n.start n.pending k

pub parser_goes_on : GoesOn our_parser parser_with
parser_goes_on i n k = parser_calls i n.place n.start n.pending k ∙ calls_from i.now n.place n.start n.pending k

-- ---- lists, in what the tables say

-- what is said one call later
follows_later : (a : Answers) (e : MessageEvent Span) {n k : ℕ} → Follows (answer a) n k → Follows (answer (says_first e a)) n (suc k)
unfolding answer says_first nth
follows_later a e (refuses f h) = refuses f h
follows_later a e (E.lists x h more) = E.lists x h (follows_later a e more)
follows_later a e (closes x h) = closes x h

-- entries and the end, from the first answer on
listing_follows : {n : ℕ} {a : Answers} → Listing n a → Follows (answer a) n 0
unfolding answer says_first nth
listing_follows (stops f x) = refuses f refl
listing_follows (lists_one e {a = a} more) = E.lists e refl (follows_later a (entry_event e) (listing_follows more))
listing_follows (at_end e a) = closes e refl

-- every list start in the answers is followed so
pub record Listed (a : Answers) : Type 0 where
  pub listed' : (k : ℕ) (m : MessageStart Span) (b : ListStart Span) → answer a k ≡ event (start_event m) → m.message_body ≡ list_body b → Follows (answer a) b.num_vals (suc k)

-- a message start that an answer is
is_start : Said → Bool
is_start (event (start_event m)) = true
is_start (event (entry_event e)) = false
is_start (event (end_event e)) = false
is_start no_event = false
is_start (failed f) = false
is_start (alone n) = false

-- the start that an answer is, or else m
start_in : MessageStart Span → Said → MessageStart Span
start_in m (event (start_event x)) = x
start_in m (event (entry_event e)) = m
start_in m (event (end_event e)) = m
start_in m no_event = m
start_in m (failed f) = m
start_in m (alone n) = m

no_start : {x : Said} {m : MessageStart Span} {P : Type 0} → is_start x ≡ false → x ≡ event (start_event m) → P
unfolding is_start
no_start h e = absurd (false≢true (sym h ∙ ap is_start e))

listed_then : (x y : Said) → is_start x ≡ false → is_start y ≡ false → Listed (record { first = x ∷ []; later = y })
unfolding answer nth
listed_then x y h g = record { listed' = by }
  where
    by : (k : ℕ) (m : MessageStart Span) (b : ListStart Span) → answer (record { first = x ∷ []; later = y }) k ≡ event (start_event m) → m.message_body ≡ list_body b
        → Follows (answer (record { first = x ∷ []; later = y })) b.num_vals (suc k)
    by zero m b e f = no_start h e
    by (suc k) m b e f = no_start g e

listed_ever : (y : Said) → is_start y ≡ false → Listed (record { first = []; later = y })
unfolding answer nth
listed_ever y g = record { listed' = λ k m b e f. no_start g e }

listed_says : (v : MessageEvent Span) (a : Answers) → is_start (event v) ≡ false → Listed a → Listed (says_first v a)
unfolding answer nth says_first
listed_says v a h g = record { listed' = by }
  where
    by : (k : ℕ) (m : MessageStart Span) (b : ListStart Span) → answer (says_first v a) k ≡ event (start_event m) → m.message_body ≡ list_body b → Follows (answer (says_first v a)) b.num_vals (suc k)
    by zero m b e f = no_start h e
    by (suc k) m b e f = follows_later a v (g.listed' k m b e f)

listed_starts : (x : MessageStart Span) (a : Answers) → ((b : ListStart Span) → x.message_body ≡ list_body b → Follows (answer a) b.num_vals 0) → Listed a → Listed (says_first (start_event x) a)
unfolding answer nth says_first start_in
listed_starts x a h g = record { listed' = by }
  where
    by : (k : ℕ) (m : MessageStart Span) (b : ListStart Span) → answer (says_first (start_event x) a) k ≡ event (start_event m) → m.message_body ≡ list_body b → Follows (answer (says_first (start_event x) a)) b.num_vals (suc k)
    by zero m b e f = follows_later a (start_event x) (h b (ap (λ (s : Said). (start_in x s).message_body) e ∙ f))
    by (suc k) m b e f = follows_later a (start_event x) (g.listed' k m b e f)

listed_inside : {A : Type 0} (end : ℕ) (r : Read A) (k : A → ℕ → Answers) → ((x : A) (n : ℕ) → Listed (k x n)) → Listed (inside end r k)
unfolding inside is_start
listed_inside end (got x n) k h = h x n
listed_inside end (refused f) k h = listed_then (failed f) (failed (eof end)) refl refl

listed_at_start : {A : Type 0} (r : Read A) (k : A → ℕ → Answers) → ((x : A) (n : ℕ) → Listed (k x n)) → Listed (at_start_claim r k)
unfolding at_start_claim is_start
listed_at_start (got x n) k h = h x n
listed_at_start (refused f) k h = listed_then (failed f) no_event refl refl

listed_entries : (c : ℕ) (s : List ℕ) (at : ℕ) (k : ℕ → Answers) → ((n : ℕ) → Listed (k n)) → Listed (entries_from c s at k)
unfolding entries_from is_start
listed_entries zero s at k h = h at
listed_entries (suc c) s at k h = listed_inside (length s) (entry_at s at) _ (λ e n. listed_says (entry_event e) _ refl (listed_entries c s n k h))

listed_content : (b : Body Span) (s : List ℕ) (at : ℕ) (k : ℕ → Answers) → ((n : ℕ) → Listed (k n)) → Listed (content_from b s at k)
unfolding content_from is_start
listed_content (open_body b) s at k h = h at
listed_content (close_body b) s at k h = h at
listed_content (list_body b) s at k h = listed_entries b.num_vals s at _ (λ n. listed_inside (length s) (list_end_at s n) _ (λ e m. listed_says (end_event e) _ refl (h m)))

listed_messages : (many : ℕ) (s : List ℕ) (at : ℕ) → Listed (messages_from many s at)
unfolding messages_from is_start
listed_messages zero s at = listed_ever no_event refl
listed_messages (suc many) s at =
    by_test Listed (leb (length s) at) _ _ (λ e. listed_ever no_event refl)
    (λ e. listed_at_start (start_at s at) _
    (λ m n. listed_starts m _ (λ b f. rw f (listing_follows (list_content_lem b s n _)))
    (listed_content m.message_body s n _ (λ n₂. listed_inside (length s) (trailer_at s at n₂) _ (λ t n₃. listed_messages many s n₃)))))

tables_list : (s : List ℕ) → Listed (events_of s)
unfolding events_of is_start
tables_list s = by_test Listed (ltb limit (length s)) _ _ (λ e. listed_ever (alone input_too_long_no) refl) (λ e. listed_messages (suc (length s)) s 0)

-- ---- and so of every reader that says what they say

follows_alike : {f g : ℕ → Said} {n k : ℕ} → ((j : ℕ) → f j ≡ g j) → Follows g n k → Follows f n k
follows_alike h (refuses x e) = refuses x (h _ ∙ e)
follows_alike h (E.lists x e more) = E.lists x (h _ ∙ e) (follows_alike h more)
follows_alike h (closes x e) = closes x (h _ ∙ e)

lists_entries : {I S : Type 0} (R : Reader I S) → ReaderGives R → ListsEntries R
lists_entries R h i k m b e f = follows_alike (h i) ((tables_list (R.bytes i)).listed' k m b (sym (h i k) ∙ e) f)

pub reader_lists : ListsEntries our_reader
reader_lists = lists_entries our_reader reader_gives

pub parser_lists : ListsEntries our_parser
parser_lists = lists_entries our_parser parser_gives

-- ---- where it broke

why_as : {s : List ℕ} (says said : ℕ → Said) (k : ℕ) (f : Refusal) → ((j : ℕ) → says j ≡ said j) → Why s said k f → Why s says k f
why_as says said k f e (the_first y h b z a v) = the_first (e k ∙ y) (λ j g i x. h j g i (sym (e j) ∙ x)) b z a (λ j i. e j ∙ v j i)
why_as says said k f e (repeated y j g i x q) = repeated (e k ∙ y) j g i (e j ∙ x) q

-- a reader that gives the events of the tables says where it broke
gives_where : {I S : Type 0} (R : Reader I S) → ReaderGives R → SaysWhere R
gives_where R h i k f e = why_as (hears R i) (answer (events_of (R.bytes i))) k f (h i) (events_why (R.bytes i) k f (sym (h i k) ∙ e))

pub reader_says_where : SaysWhere our_reader
reader_says_where = gives_where our_reader reader_gives

pub parser_says_where : SaysWhere our_parser
parser_says_where = gives_where our_parser parser_gives

pub reader_call_says_where : CallSaysWhere our_reader reader_with
unfolding call
reader_call_says_where s n f e = call_broke s n.place n.start n.pending f (sym (reader_calls s n.place n.start n.pending 0) ∙ e)

pub parser_call_says_where : CallSaysWhere our_parser parser_with
unfolding call
parser_call_says_where i n f e = call_broke i.now n.place n.start n.pending f (sym (parser_calls i n.place n.start n.pending 0) ∙ e)

goes_on_ten : {I S : Type 0} (R : Reader I S) (from : I → E.Numbers → S) → GoesOn R from → TenAgain R from
goes_on_ten R from h i n j k g f l x e = ten_again (R.bytes i) n.place n.start n.pending j k g f l (sym (h i n j) ∙ x) (sym (h i n k) ∙ e)

pub reader_ten_again : TenAgain our_reader reader_with
reader_ten_again = goes_on_ten our_reader reader_with reader_goes_on

pub parser_ten_again : TenAgain our_parser parser_with
parser_ten_again = goes_on_ten our_parser parser_with parser_goes_on
