-- Where a call broke: of one call from any three numbers, and of all calls on a whole input.
use mathlib.Core.Path.{◌≡◌, refl, sym, ap, subst}
use mathlib.Core.Bool.{Bool, true, false, cond}
use mathlib.Core.List.{List, [], ◌∷◌}
use mathlib.Core.Option.{some}
use Prim.Native.Nat.{ℕ, zero, suc, ◌≤◌, ◌<◌}
use native.Mathlib.Omega.{arith}
use lib.ListN.{length}
use lib.Dec.{ltb, leb}
use borrow.Author.Tests.{leb-true, leb-false}
use Rattle.refusals.specs.Numbers.{bad_state_no, input_too_long_no, limit}
use Rattle.refusals.specs.Read.{Read, got, refused, Refusal, then, many, eof}
use Rattle.refusals.specs.declared.Span.{Span}
use Rattle.refusals.proofs.Read.{ok_at, and_left}
use Rattle.common.specs.Fields.{ListEntry, entry_at}
use Rattle.message.specs.Messages.{MessageStart, Body, open_body, close_body, list_body, start_at, list_end_at}
use Rattle.trailer.specs.Trailer.{trailer_at}
use Rattle.trailer.proofs.Trailer.{trailer_found}
use Rattle.streaming.specs.Next.{MessageEvent, start_event, entry_event, end_event, Said, event, no_event, failed, alone, ReaderAfter, onward, pending_of, begin_at, trailer_next, end_next, entry_next, step_at, is_sound, next_at}
use Rattle.events.specs.Message.{Content, Message, content_of, message_at}
use Rattle.events.specs.Events.{Answers, nth, answer, says_first, no_more, at_start_claim, inside, entries_from, content_from, messages_from, events_of, for_ever, trailer_from, rest_from, answers_from}
use Rattle.places.specs.Stands.{Broke}
use Rattle.places.specs.Calls.{CallBroke, in_start, in_trailer, in_next_start, in_list_end, in_entry, BeginsAt, at_first, after_message, FirstBroke, Afterwards, at_its_start, inside_it, Why, the_first, repeated}
use Rattle.places.proofs.Locates.{Locates, locates_broke}
use Rattle.places.proofs.Records.{locates_entry, locates_list_end, locates_start}
use Rattle.places.proofs.Trailer.{locates_trailer}
use Rattle.places.proofs.Readers.{locates_message}

-- ---- one call

-- a call that says f: its reading was refused so, or what follows it says so
data Failed {A : Type 0} (r : Read A) (k : A → ℕ → ReaderAfter) (f : Refusal) : Type 0 where
  itself : r ≡ refused f → Failed r k f
  onwards : (a : A) (n : ℕ) → r ≡ got a n → (k a n).answer ≡ failed f → Failed r k f

failed_by : {A : Type 0} (end start pending : ℕ) (r : Read A) (k : A → ℕ → ReaderAfter) (f : Refusal) → (onward end start pending r k).answer ≡ failed f → Failed r k f
unfolding onward
failed_by end start pending (got a n) k f e = onwards a n refl e
failed_by end start pending (refused g) k f e = let same : g ≡ f = cc in itself (ap refused same)

no_event_failed : (x : MessageEvent Span) (f : Refusal) → event x ≡ failed f → ⊥
no_event_failed x f e = let z : ◌≡◌ {A = ℕ} 0 1 = cc in absurd (omega (arith, z))

nothing_failed : (f : Refusal) → no_event ≡ failed f → ⊥
nothing_failed f e = let z : ◌≡◌ {A = ℕ} 0 1 = cc in absurd (omega (arith, z))

number_failed : (n : ℕ) (f : Refusal) → alone n ≡ failed f → ⊥
number_failed n f e = let z : ◌≡◌ {A = ℕ} 0 1 = cc in absurd (omega (arith, z))

-- a reading whose success is an event
read_broke : {A : Type 0} {read : List ℕ → Read A} (s : List ℕ) (at m : ℕ) (f : Refusal) (k : A → ℕ → ReaderAfter) → Locates read at m → at ≤ length s
    → ((a : A) (n : ℕ) → (k a n).answer ≡ failed f → ⊥) → Failed (read s) k f → Broke read s at m f
read_broke s at m f k j h never (itself e) = locates_broke j s f h e
read_broke s at m f k j h never (onwards a n e x) = absurd (never a n x)

-- a message's start within the input
record StartBroke (s : List ℕ) (at : ℕ) (f : Refusal) : Type 0 where
  pub within : at < length s
  pub broke : Broke (λ t. start_at t at) s at at f

begin_broke : (s : List ℕ) (at start : ℕ) (f : Refusal) → (begin_at s at start).answer ≡ failed f → StartBroke s at f
unfolding begin_at
begin_broke s at start f e = by (leb (length s) at) refl e
  where
    Next : MessageStart Span → ℕ → ReaderAfter
    Next m n = record { answer = event (start_event m); place = n; start = at; pending = pending_of m.message_body }

    by : (b : Bool) → leb (length s) at ≡ b → (cond b (record { answer = no_event; place = at; start = start; pending = 0 }) (onward (length s) at 0 (start_at s at) Next)).answer ≡ failed f → StartBroke s at f
    by true k x = absurd (nothing_failed f x)
    by false k x =
        let h = leb-false (length s) at k in
        record { within = h; broke = read_broke s at at f Next (locates_start at at) (omega arith) (λ a n y. no_event_failed _ f y) (failed_by (length s) at 0 (start_at s at) Next f x) }

trailer_broke : (s : List ℕ) (at start : ℕ) (f : Refusal) → at ≤ length s → Failed (trailer_at s start at) (λ done n. begin_at s n start) f → CallBroke s at start 1 f
trailer_broke s at start f h (itself e) = in_trailer f (locates_broke (locates_trailer start at) s f h e)
trailer_broke s at start f h (onwards a n e x) = let b = begin_broke s n start f x in in_next_start f n e b.within b.broke

step_broke : (s : List ℕ) (at start pending : ℕ) (f : Refusal) → at ≤ length s → (step_at s at start pending).answer ≡ failed f → CallBroke s at start pending f
unfolding step_at trailer_next end_next entry_next
step_broke s at start zero f h e = let b = begin_broke s at start f e in in_start f b.within b.broke
step_broke s at start (suc zero) f h e = trailer_broke s at start f h (failed_by (length s) start 1 (trailer_at s start at) _ f e)
step_broke s at start (suc (suc zero)) f h e =
    in_list_end f (read_broke s at start f _ (locates_list_end at start) h (λ a n y. no_event_failed _ f y) (failed_by (length s) start 2 (list_end_at s at) _ f e))
step_broke s at start (suc (suc (suc left))) f h e =
    in_entry f left (read_broke s at start f _ (locates_entry at start) h (λ a n y. no_event_failed _ f y) (failed_by (length s) start (suc (suc (suc left))) (entry_at s at) _ f e))

-- one call, from any three numbers
pub call_broke : (s : List ℕ) (at start pending : ℕ) (f : Refusal) → (next_at s at start pending).answer ≡ failed f → CallBroke s at start pending f
unfolding next_at
call_broke s at start pending f e = by (ltb limit (length s)) (is_sound (length s) at start pending) refl e
  where
    by : (b c : Bool) → is_sound (length s) at start pending ≡ c
        → (cond b (record { answer = alone input_too_long_no; place = at; start = start; pending = pending })
        (cond c (step_at s at start pending) (record { answer = alone bad_state_no; place = at; start = start; pending = pending }))).answer ≡ failed f
        → CallBroke s at start pending f
    by true c q x = absurd (number_failed _ f x)
    by false true q x = step_broke s at start pending f (leb-true at (length s) (and_left (leb at (length s)) _ q)) x
    by false false q x = absurd (number_failed _ f x)

-- ---- all calls

-- answers that end with a refusal, or with none: P is known of the refusal and of what every call behind it says
abbrev EndsSo : (Refusal → Said → Type 0) → List Said → Said → Type 0
EndsSo P [] z = (f : Refusal) → z ≡ failed f → ⊥
EndsSo P (event e ∷ xs) z = EndsSo P xs z
EndsSo P (no_event ∷ xs) z = EndsSo P xs z
EndsSo P (alone n ∷ xs) z = EndsSo P xs z
EndsSo P (failed f ∷ xs) z = P f z × (xs ≡ [])

record Ending (P : Refusal → Said → Type 0) (a : Answers) : Type 0 where
  pub ends : EndsSo P a.first a.later

ending_says : {P : Refusal → Said → Type 0} (e : MessageEvent Span) (a : Answers) → Ending P a → Ending P (says_first e a)
unfolding says_first
ending_says e a h = record { ends = h.ends }

ending_inside : {A : Type 0} {P : Refusal → Said → Type 0} (end : ℕ) (r : Read A) (k : A → ℕ → Answers) → ((f : Refusal) → r ≡ refused f → P f (failed (eof end)))
    → ((a : A) (n : ℕ) → r ≡ got a n → Ending P (k a n)) → Ending P (inside end r k)
unfolding inside
ending_inside end (got a n) k p h = h a n refl
ending_inside end (refused f) k p h = record { ends = (p f refl, refl) }

ending_start : {A : Type 0} {P : Refusal → Said → Type 0} (r : Read A) (k : A → ℕ → Answers) → ((f : Refusal) → r ≡ refused f → P f no_event)
    → ((a : A) (n : ℕ) → r ≡ got a n → Ending P (k a n)) → Ending P (at_start_claim r k)
unfolding at_start_claim
ending_start (got a n) k p h = h a n refl
ending_start (refused f) k p h = record { ends = (p f refl, refl) }

ending_entries : {P : Refusal → Said → Type 0} (left : ℕ) (s : List ℕ) (at : ℕ) (k : ℕ → Answers) → ((f : Refusal) → many left (entry_at s) at ≡ refused f → P f (failed (eof (length s))))
    → ((l : List (ListEntry Span)) (n : ℕ) → many left (entry_at s) at ≡ got l n → Ending P (k n)) → Ending P (entries_from left s at k)
unfolding entries_from many then
ending_entries zero s at k p h = h [] at refl
ending_entries (suc left) s at k p h =
    ending_inside (length s) (entry_at s at) _ (λ f e. p f (rw e)) (λ e n q.
    ending_says (entry_event e) _ (ending_entries left s n k (λ f x. p f (rw (q, x))) (λ l m x. h (e ∷ l) m (rw (q, x)))))

ending_content : {P : Refusal → Said → Type 0} (b : Body Span) (s : List ℕ) (at : ℕ) (k : ℕ → Answers) → ((f : Refusal) → content_of b s at ≡ refused f → P f (failed (eof (length s))))
    → ((c : Content Span) (n : ℕ) → content_of b s at ≡ got c n → Ending P (k n)) → Ending P (content_from b s at k)
unfolding content_from content_of then
ending_content (open_body b) s at k p h = h _ at refl
ending_content (close_body b) s at k p h = h _ at refl
ending_content (list_body b) s at k p h =
    ending_entries b.num_vals s at _ (λ f e. p f (rw e)) (λ l n e.
    ending_inside (length s) (list_end_at s n) _ (λ f x. p f (rw (e, x))) (λ x m q.
    ending_says (end_event x) _ (h (record { entries = l; end = some x }) m (rw (e, q)))))

-- what is known of a refusal of the message at a place: in its start, or behind that
record Refusals (P : Refusal → Said → Type 0) (s : List ℕ) (at : ℕ) : Type 0 where
  pub in_start_lem : (f : Refusal) → start_at s at ≡ refused f → message_at s at ≡ refused f → P f no_event
  pub inside_it_lem : (f : Refusal) (m : MessageStart Span) (n : ℕ) → start_at s at ≡ got m n → message_at s at ≡ refused f → P f (failed (eof (length s)))

-- a message, and the answers behind it
ending_message : {P : Refusal → Said → Type 0} (s : List ℕ) (at : ℕ) (k : ℕ → Answers) → Refusals P s at
    → ((m : Message Span) (n : ℕ) → message_at s at ≡ got m n → n ≤ length s → Ending P (k n))
    → Ending P (at_start_claim (start_at s at) λ m n₁. says_first (start_event m) (content_from m.message_body s n₁ λ n₂. inside (length s) (trailer_at s at n₂) λ trailer n₃. k n₃))
unfolding message_at then
ending_message s at k p more =
    ending_start (start_at s at) _ (λ f e. p.in_start_lem f e (rw e)) (λ m n₁ e₁.
    ending_says (start_event m) _ (ending_content m.message_body s n₁ _ (λ f e. p.inside_it_lem f m n₁ e₁ (rw (e₁, e))) (λ c n₂ e₂.
    ending_inside (length s) (trailer_at s at n₂) _ (λ f e. p.inside_it_lem f m n₁ e₁ (rw (e₁, e₂, e))) (λ trailer n₃ e₃.
    let v = ok_at (sym e₃) (trailer_found s at n₂) in
    let x = v.1 in
    more (record { start = m; content = c }) n₃ (rw (e₁, e₂, e₃)) x.within))))

-- messages from a place of which Q is known
ending_messages : {P : Refusal → Said → Type 0} (Q : ℕ → Type 0) (s : List ℕ) → ((at : ℕ) → Q at → at < length s → Refusals P s at)
    → ((at n : ℕ) (m : Message Span) → Q at → message_at s at ≡ got m n → Q n) → (more at : ℕ) → Q at → Ending P (messages_from more s at)
unfolding messages_from
ending_messages Q s p step zero at w = record { ends = λ f e. nothing_failed f e }
ending_messages {P} Q s p step (suc more) at w = by (leb (length s) at) refl (λ h. ending_message s at (messages_from more s) (p at w h) (λ m n e i. ending_messages Q s p step more n (step at n m w e)))
  where
    rest : Answers
    rest = at_start_claim (start_at s at) λ m n₁. says_first (start_event m) (content_from m.message_body s n₁ λ n₂. inside (length s) (trailer_at s at n₂) λ trailer n₃. messages_from more s n₃)

    by : (b : Bool) → leb (length s) at ≡ b → (at < length s → Ending P rest) → Ending P (cond b no_more rest)
    by true e x = record { ends = λ f e. nothing_failed f e }
    by false e x = x (leb-false (length s) at e)

-- ---- a whole input

-- where the message at the input's start is refused, no other begins
pub only_first : (s : List ℕ) → ((m : Message Span) (n : ℕ) → message_at s 0 ≡ got m n → ⊥) → (p : ℕ) → BeginsAt s p → p ≡ 0
only_first s h p at_first = refl
only_first s h p (after_message q n m b e) = absurd (h m n (subst (λ (k : ℕ). message_at s k ≡ got m n) (only_first s h q b) e))

-- between messages a call breaks in a message's start
pub broke_in_start : {s : List ℕ} {at start pending : ℕ} {f : Refusal} → CallBroke s at start pending f → pending ≡ 0 → Broke (λ t. start_at t at) s at at f
broke_in_start (in_start f w b) e = b
broke_in_start (in_trailer f b) e = absurd (omega (arith, e))
broke_in_start (in_next_start f n x w b) e = absurd (omega (arith, e))
broke_in_start (in_list_end f b) e = absurd (omega (arith, e))
broke_in_start (in_entry f left b) e = absurd (omega (arith, e))

-- an input's first refusal, and what is said behind it
record FirstSays (s : List ℕ) (f : Refusal) (z : Said) : Type 0 where
  pub broken : FirstBroke s f
  pub after : Afterwards s broken.start f z

first_refusals : (s : List ℕ) (at : ℕ) → BeginsAt s at → at < length s → Refusals (FirstSays s) s at
first_refusals s at w h =
    record {
      in_start_lem = λ f e x. record { broken = broken f x; after = at_its_start e };
      inside_it_lem = λ f m n e x. record { broken = broken f x; after = inside_it m n e };
    }
  where
    broken : (f : Refusal) → message_at s at ≡ refused f → FirstBroke s f
    broken f e = record { start = at; within = h; begins = w; broke = locates_broke (locates_message at) s f (omega arith) e }

ending_events : (s : List ℕ) → Ending (FirstSays s) (events_of s)
unfolding events_of
ending_events s = by (ltb limit (length s)) (ending_messages (BeginsAt s) s (first_refusals s) (λ at n m w e. after_message at n m w e) (suc (length s)) 0 at_first)
  where
    by : (b : Bool) → Ending (FirstSays s) (messages_from (suc (length s)) s 0) → Ending (FirstSays s) (cond b (record { first = []; later = alone input_too_long_no }) (messages_from (suc (length s)) s 0))
    by true x = record { ends = λ f e. number_failed _ f e }
    by false x = x

after_ten : {s : List ℕ} {start : ℕ} {g : Refusal} {z : Said} (f : Refusal) → Afterwards s start g z → z ≡ failed f → f ≡ eof (length s)
after_ten f (at_its_start h) e = absurd (nothing_failed f e)
after_ten {s = s} f (inside_it m n h) e = let same : eof (length s) ≡ f = cc in sym same

-- a call later
why_later : {s : List ℕ} (l : List Said) (z : Said) (x : Said) {k : ℕ} {f : Refusal} → ((g : Refusal) → x ≡ failed g → ⊥) → Why s (nth l z) k f → Why s (nth (x ∷ l) z) (suc k) f
unfolding nth
why_later l z x {k} n (the_first i h b y a v) = the_first i past b y a behind
  where
    past : (j : ℕ) (g : Refusal) → j < suc k → nth (x ∷ l) z j ≡ failed g → ⊥
    past zero g i e = n g e
    past (suc j) g i e = h j g (omega arith) e

    behind : (j : ℕ) → suc k < j → nth (x ∷ l) z j ≡ y
    behind zero i = absurd (omega arith)
    behind (suc j) i = v j (omega arith)
why_later l z x n (repeated i j g h e q) = repeated i (suc j) g (omega arith) e q

ends_why : (s : List ℕ) (l : List Said) (z : Said) → EndsSo (FirstSays s) l z → (k : ℕ) (f : Refusal) → nth l z k ≡ failed f → Why s (nth l z) k f
unfolding nth
ends_why s [] z h k f e = absurd (h f e)
ends_why s (event x ∷ l) z h zero f e = absurd (no_event_failed x f e)
ends_why s (event x ∷ l) z h (suc k) f e = why_later l z (event x) (λ g i. no_event_failed x g i) (ends_why s l z h k f e)
ends_why s (no_event ∷ l) z h zero f e = absurd (nothing_failed f e)
ends_why s (no_event ∷ l) z h (suc k) f e = why_later l z no_event (λ g i. nothing_failed g i) (ends_why s l z h k f e)
ends_why s (alone n ∷ l) z h zero f e = absurd (number_failed n f e)
ends_why s (alone n ∷ l) z h (suc k) f e = why_later l z (alone n) (λ g i. number_failed n g i) (ends_why s l z h k f e)
ends_why s (failed x ∷ l) z h zero f e =
    let same : x ≡ f = cc in
    let w : FirstSays s f z = subst (λ (g : Refusal). FirstSays s g z) same h.0 in
    the_first e (λ j g i y. absurd (omega arith)) w.broken z w.after behind
  where
    behind : (j : ℕ) → 0 < j → nth (failed x ∷ l) z j ≡ z
    behind zero i = absurd (omega arith)
    behind (suc j) i = ap (λ (r : List Said). nth r z j) h.1
ends_why s (failed x ∷ l) z h (suc k) f e =
    let w = h.0 in
    repeated e 0 x (omega arith) refl (after_ten f w.after (subst (λ (r : List Said). nth r z k ≡ failed f) h.1 e))

-- why a call on a whole input says a refusal
pub events_why : (s : List ℕ) (k : ℕ) (f : Refusal) → answer (events_of s) k ≡ failed f → Why s (answer (events_of s)) k f
unfolding answer
events_why s k f e = ends_why s (events_of s).first (events_of s).later (ending_events s).ends k f e

-- ---- from any three numbers on: a refusal behind another is 10 at the input's length

TenNext : List ℕ → Refusal → Said → Type 0
TenNext s f z = (g : Refusal) → z ≡ failed g → g ≡ eof (length s)

ten_next : (s : List ℕ) (f : Refusal) → TenNext s f (failed (eof (length s)))
unfolding TenNext
ten_next s f g e = let same : eof (length s) ≡ g = cc in sym same

ten_messages : (more : ℕ) (s : List ℕ) (at : ℕ) → Ending (TenNext s) (messages_from more s at)
unfolding TenNext
ten_messages more s at =
    ending_messages (λ p. Unit {0}) s (λ p w h. record { in_start_lem = λ f e x g y. absurd (nothing_failed g y); inside_it_lem = λ f m n e x. ten_next s f }) (λ p n m w e. tt) more at tt

ten_trailer : (s : List ℕ) (start at : ℕ) → Ending (TenNext s) (trailer_from s start at)
unfolding trailer_from
ten_trailer s start at = ending_inside (length s) (trailer_at s start at) _ (λ f e. ten_next s f) (λ trailer n e. ten_messages (suc (length s)) s n)

ten_rest : (s : List ℕ) (at start pending : ℕ) → Ending (TenNext s) (rest_from s at start pending)
unfolding rest_from
ten_rest s at start zero = ten_messages (suc (length s)) s at
ten_rest s at start (suc zero) = ten_trailer s start at
ten_rest s at start (suc (suc left)) =
    ending_entries left s at _ (λ f e. ten_next s f) (λ l n e.
    ending_inside (length s) (list_end_at s n) _ (λ f x. ten_next s f) (λ x m q.
    ending_says (end_event x) _ (ten_trailer s start m)))

ten_answers : (s : List ℕ) (at start pending : ℕ) → Ending (TenNext s) (answers_from s at start pending)
unfolding answers_from
ten_answers s at start pending = by (ltb limit (length s)) (is_sound (length s) at start pending)
  where
    by : (b c : Bool) → Ending (TenNext s) (cond b (for_ever (alone input_too_long_no)) (cond c (rest_from s at start pending) (for_ever (alone bad_state_no))))
    by true c = record { ends = λ f e. number_failed _ f e }
    by false true = ten_rest s at start pending
    by false false = record { ends = λ f e. number_failed _ f e }

ends_ten : (s : List ℕ) (l : List Said) (z : Said) → EndsSo (TenNext s) l z → (j k : ℕ) (g f : Refusal) → j < k → nth l z j ≡ failed g → nth l z k ≡ failed f → f ≡ eof (length s)
unfolding nth TenNext
ends_ten s [] z h j k g f i x e = absurd (h f e)
ends_ten s (y ∷ l) z h j zero g f i x e = absurd (omega arith)
ends_ten s (event y ∷ l) z h zero (suc k) g f i x e = absurd (no_event_failed y g x)
ends_ten s (event y ∷ l) z h (suc j) (suc k) g f i x e = ends_ten s l z h j k g f (omega arith) x e
ends_ten s (no_event ∷ l) z h zero (suc k) g f i x e = absurd (nothing_failed g x)
ends_ten s (no_event ∷ l) z h (suc j) (suc k) g f i x e = ends_ten s l z h j k g f (omega arith) x e
ends_ten s (alone n ∷ l) z h zero (suc k) g f i x e = absurd (number_failed n g x)
ends_ten s (alone n ∷ l) z h (suc j) (suc k) g f i x e = ends_ten s l z h j k g f (omega arith) x e
ends_ten s (failed y ∷ l) z h j (suc k) g f i x e = h.0 f (subst (λ (r : List Said). nth r z k ≡ failed f) h.1 e)

pub ten_again : (s : List ℕ) (at start pending j k : ℕ) (g f : Refusal) → j < k → answer (answers_from s at start pending) j ≡ failed g → answer (answers_from s at start pending) k ≡ failed f → f ≡ eof (length s)
unfolding answer
ten_again s at start pending j k g f i x e = ends_ten s (answers_from s at start pending).first (answers_from s at start pending).later (ten_answers s at start pending).ends j k g f i x e
