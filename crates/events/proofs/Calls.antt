-- The theorem: repeated calls of the next event, from any three numbers on, give exactly the answers that the tables say. The reader has no other behaviour.
use mathlib.Core.Path.{◌≡◌, refl, sym, ap, ◌∙◌}
use mathlib.Core.List.{List, [], ◌∷◌}
use mathlib.Core.Bool.{Bool, true, false}
use Prim.Native.Nat.{ℕ, zero, suc, ◌+◌, ◌-◌, ◌≤◌, ◌<◌}
use native.Mathlib.Omega.{arith}
use lib.ListN.{length}
use lib.Dec.{ltb, leb}
use borrow.Author.Tests.{le-ltb, le-leb, leb-true, ltb-false}
use Rattle.refusals.specs.Numbers.{bad_state_no, input_too_long_no, limit}
use Rattle.refusals.specs.Read.{Read, got, refused, eof}
use Rattle.refusals.specs.declared.Span.{Span}
use Rattle.refusals.proofs.Read.{Ok, and_left, and_right}
use Rattle.refusals.proofs.Found.{Found}
use Rattle.common.specs.Fields.{entry_at}
use Rattle.common.proofs.Fields.{entry_found}
use Rattle.message.specs.Messages.{Body, open_body, close_body, list_body, MessageStart, start_at, list_end_at}
use Rattle.message.proofs.Messages.{BodyWithin, StartWithin, start_found_lem, list_end_found}
use Rattle.trailer.specs.Trailer.{trailer_at}
use Rattle.trailer.proofs.Trailer.{trailer_found}
use Rattle.streaming.specs.Next.{MessageEvent, start_event, entry_event, end_event, Said, event, no_event, failed, alone, ReaderAfter, onward, pending_of, begin_at, trailer_next, end_next, entry_next, step_at, is_sound, next_at}
use Rattle.events.specs.Events.{Answers, nth, answer, says_first, at_start_claim, inside, entries_from, content_from, messages_from, events_of, for_ever, trailer_from, rest_from, answers_from}
use Rattle.events.specs.Calls.{call}
use Rattle.common.proofs.Ends.{entry_end}
use Rattle.message.proofs.Ends.{list_end_end}
use Rattle.trailer.proofs.Ends.{trailer_end}

-- a reader whose numbers are sound
pub record SoundReader (s : List ℕ) (at start pending : ℕ) : Type 0 where
  pub short : length s ≤ limit
  pub inside_input : at ≤ length s
  pub begun : start ≤ at
  pub few : pending ≤ 4294967297

-- a sound reader steps
pub sound_next : (s : List ℕ) (at start pending : ℕ) → SoundReader s at start pending → next_at s at start pending ≡ step_at s at start pending
unfolding next_at
sound_next s at start pending h =
    rw (le-ltb limit (length s) h.short, le-leb at (length s) h.inside_input, le-leb start at h.begun, le-leb pending 4294967297 h.few)

-- the numbers of a reader that is refused with neither 9 nor 4 are sound
sound_is : (s : List ℕ) (at start pending : ℕ) → ltb limit (length s) ≡ false → is_sound (length s) at start pending ≡ true → SoundReader s at start pending
sound_is s at start pending e g =
    let b = and_right (leb at (length s)) _ g in
    record {
      short = ltb-false limit (length s) e;
      inside_input = leb-true at (length s) (and_left (leb at (length s)) _ g);
      begun = leb-true start at (and_left (leb start at) _ b);
      few = leb-true pending 4294967297 (and_right (leb start at) _ b);
    }

-- every call answers as `a` says
pub record CallGives (s : List ℕ) (at start pending : ℕ) (a : Answers) : Type 0 where
  pub gives : (k : ℕ) → call k s at start pending ≡ answer a k

gives_event : {s : List ℕ} {at start pending : ℕ} (e : MessageEvent Span) (place start' pending' : ℕ) (a : Answers)
    → next_at s at start pending ≡ record { answer = event e; place = place; start = start'; pending = pending' }
    → CallGives s place start' pending' a → CallGives s at start pending (says_first e a)
unfolding call answer nth says_first
gives_event {s} {at} {start} {pending} e place start' pending' a h g = record { gives = by }
  where
    by : (k : ℕ) → call k s at start pending ≡ answer (says_first e a) k
    by zero = ap (λ (r : ReaderAfter). r.answer) h
    by (suc k) = ap (λ (r : ReaderAfter). call k s r.place r.start r.pending) h ∙ g.gives k

-- the same answer for ever
gives_ever : {s : List ℕ} {at start pending : ℕ} (x : Said) → next_at s at start pending ≡ record { answer = x; place = at; start = start; pending = pending }
    → CallGives s at start pending (record { first = []; later = x })
unfolding call answer nth
gives_ever {s} {at} {start} {pending} x h = record { gives = by }
  where
    by : (k : ℕ) → call k s at start pending ≡ answer (record { first = []; later = x }) k
    by zero = ap (λ (r : ReaderAfter). r.answer) h
    by (suc k) = ap (λ (r : ReaderAfter). call k s r.place r.start r.pending) h ∙ by k

-- a refusal, and then the same answer for ever
gives_then : {s : List ℕ} {at start pending : ℕ} (x y : Said) (place start' pending' : ℕ)
    → next_at s at start pending ≡ record { answer = x; place = place; start = start'; pending = pending' }
    → next_at s place start' pending' ≡ record { answer = y; place = place; start = start'; pending = pending' }
    → CallGives s at start pending (record { first = x ∷ []; later = y })
unfolding call answer nth
gives_then {s} {at} {start} {pending} x y place start' pending' h g = record { gives = by }
  where
    ever : CallGives s place start' pending' (record { first = []; later = y })
    ever = gives_ever y g

    by : (k : ℕ) → call k s at start pending ≡ answer (record { first = x ∷ []; later = y }) k
    by zero = ap (λ (r : ReaderAfter). r.answer) h
    by (suc k) = ap (λ (r : ReaderAfter). call k s r.place r.start r.pending) h ∙ ever.gives k

-- two readers that answer alike go on alike
gives_same : {s : List ℕ} {at start pending place start' pending' : ℕ} {a : Answers} → next_at s at start pending ≡ next_at s place start' pending'
    → CallGives s place start' pending' a → CallGives s at start pending a
unfolding call
gives_same {s} {at} {start} {pending} {place} {start'} {pending'} {a} h g = record { gives = by }
  where
    by : (k : ℕ) → call k s at start pending ≡ answer a k
    by zero = ap (λ (r : ReaderAfter). r.answer) h ∙ g.gives zero
    by (suc k) = ap (λ (r : ReaderAfter). call k s r.place r.start r.pending) h ∙ g.gives (suc k)

-- the refused reader inside a message: 10 for ever
end_ever : (s : List ℕ) (start pending : ℕ) → SoundReader s (length s) start pending → 1 ≤ pending
    → next_at s (length s) start pending ≡ record { answer = failed (eof (length s)); place = length s; start = start; pending = pending }
unfolding step_at trailer_next end_next entry_next onward
end_ever s start zero h p = absurd (omega arith)
end_ever s start (suc zero) h p = rw (sound_next s (length s) start (suc zero) h, trailer_end s start (length s) (omega arith))
end_ever s start (suc (suc zero)) h p = rw (sound_next s (length s) start (suc (suc zero)) h, list_end_end s (length s) (omega arith))
end_ever s start (suc (suc (suc k))) h p = rw (sound_next s (length s) start (suc (suc (suc k))) h, entry_end s (length s) (omega arith))

-- the refused reader at a message start, and every reader where the input ends between messages: no event for ever
begin_ever : (s : List ℕ) (at start : ℕ) → SoundReader s at start 0 → length s ≤ at → next_at s at start 0 ≡ record { answer = no_event; place = at; start = start; pending = 0 }
unfolding step_at begin_at
begin_ever s at start h p = rw (sound_next s at start 0 h, le-leb (length s) at p)

-- a step inside a message: what was read goes on, a refusal stays
inside_gives : {A : Type 0} {P : A → Type 0} {s : List ℕ} {at start pending : ℕ} (r : Read A) (k : A → ℕ → ReaderAfter) (a : A → ℕ → Answers) → Ok (Found P s at) r
    → SoundReader s at start pending → 1 ≤ pending
    → next_at s at start pending ≡ onward (length s) start pending r k
    → ((x : A) (n : ℕ) → P x → at < n → n ≤ length s → next_at s at start pending ≡ k x n → CallGives s at start pending (a x n))
    → CallGives s at start pending (inside (length s) r a)
unfolding onward inside
inside_gives (got x n) k a o h p e f = let w = o.holds in let v = w.1 in f x n w.0 v.ahead v.within e
inside_gives {s = s} {at = at} {start = start} {pending = pending} (refused x) k a o h p e f =
    let b = h.inside_input in
    let c = h.begun in
    gives_then (failed x) (failed (eof (length s))) (length s) start pending e
    (end_ever s start pending (record { short = h.short; inside_input = omega arith; begun = omega arith; few = h.few }) p)

entries_give : (n : ℕ) {s : List ℕ} {at start : ℕ} (k : ℕ → Answers) → SoundReader s at start (suc (suc n))
    → ((m : ℕ) → at ≤ m → m ≤ length s → CallGives s m start (suc (suc zero)) (k m)) → CallGives s at start (suc (suc n)) (entries_from n s at k)
unfolding entries_from step_at entry_next
entries_give zero {s} {at} {start} k h g = g at (omega arith) h.inside_input
entries_give (suc n) {s} {at} {start} k h g =
    inside_gives (entry_at s at) _ _ (entry_found s at) h (omega arith) (sound_next s at start (suc (suc (suc n))) h)
    (λ e m w p q x. let b = h.begun in let f = h.few in
    gives_event (entry_event e) m start (suc (suc n)) _ x
    (entries_give n k (record { short = h.short; inside_input = q; begun = omega arith; few = omega arith }) (λ i j l. g i (omega arith) l)))

list_end_gives : {s : List ℕ} {at start : ℕ} (k : ℕ → Answers) → SoundReader s at start (suc (suc zero))
    → ((m : ℕ) → at ≤ m → m ≤ length s → CallGives s m start (suc zero) (k m))
    → CallGives s at start (suc (suc zero)) (inside (length s) (list_end_at s at) λ e m. says_first (end_event e) (k m))
unfolding step_at end_next
list_end_gives {s} {at} {start} k h g =
    inside_gives (list_end_at s at) _ _ (list_end_found s at) h (omega arith) (sound_next s at start (suc (suc zero)) h)
    (λ e m w p q x. gives_event (end_event e) m start (suc zero) _ x (g m (omega arith) q))

trailer_gives : {s : List ℕ} {at start : ℕ} (k : ℕ → Answers) → SoundReader s at start (suc zero)
    → ((m : ℕ) → at < m → m ≤ length s → CallGives s m start zero (k m))
    → CallGives s at start (suc zero) (inside (length s) (trailer_at s start at) λ trailer m. k m)
unfolding step_at trailer_next
trailer_gives {s} {at} {start} k h g =
    inside_gives (trailer_at s start at) _ _ (trailer_found s start at) h (omega arith) (sound_next s at start (suc zero) h)
    (λ e m w p q x. let b = h.begun in
    gives_same (x ∙ sym (sound_next s m start zero (record { short = h.short; inside_input = q; begun = omega arith; few = omega arith }))) (g m p q))

content_gives : (b : Body Span) {s : List ℕ} {at start : ℕ} (k : ℕ → Answers) → length s ≤ limit → at ≤ length s → start ≤ at → BodyWithin s b
    → ((m : ℕ) → at ≤ m → m ≤ length s → CallGives s m start (suc zero) (k m)) → CallGives s at start (pending_of b) (content_from b s at k)
unfolding content_from
content_gives (open_body b) k l p q w g = g _ (omega arith) p
content_gives (close_body b) k l p q w g = g _ (omega arith) p
content_gives (list_body b) {s} {at} {start} k l p q w g =
    let c = w.num_vals in
    let e : b.num_vals + 2 ≡ suc (suc b.num_vals) = omega arith in
    rw e
    (entries_give b.num_vals _ (record { short = l; inside_input = p; begun = q; few = omega arith })
    (λ m i j. list_end_gives _ (record { short = l; inside_input = j; begun = omega arith; few = omega arith }) (λ m' i' j'. g m' (omega arith) j')))

start_gives : {s : List ℕ} {at start : ℕ} (r : Read (MessageStart Span)) (a : MessageStart Span → ℕ → Answers) → Ok (Found (StartWithin s) s at) r → SoundReader s at start 0
    → next_at s at start 0 ≡ (onward (length s) at 0 r λ m n. record { answer = event (start_event m); place = n; start = at; pending = pending_of m.message_body })
    → ((m : MessageStart Span) (n : ℕ) → StartWithin s m → at < n → n ≤ length s → CallGives s n at (pending_of m.message_body) (a m n))
    → CallGives s at start 0 (at_start_claim r λ m n. says_first (start_event m) (a m n))
unfolding onward at_start_claim
start_gives (got m n) a o h e f = let w = o.holds in let v = w.1 in gives_event (start_event m) n _ _ (a m n) e (f m n w.0 v.ahead v.within)
start_gives {s} {at} {start} (refused x) a o h e f =
    gives_then (failed x) no_event (length s) at 0 e
    (begin_ever s (length s) at (record { short = h.short; inside_input = omega arith; begun = h.inside_input; few = omega arith }) (omega arith))

pub messages_give : (many : ℕ) {s : List ℕ} (at start : ℕ) → SoundReader s at start 0 → length s - at < many → CallGives s at start 0 (messages_from many s at)
unfolding messages_from step_at begin_at
messages_give zero at start h m = absurd (omega arith)
messages_give (suc many) {s} at start h m = by (leb (length s) at) refl (λ n₃ g l. messages_give many n₃ at g l)
  where
    by : (t : Bool) → leb (length s) at ≡ t → ((n : ℕ) → SoundReader s n at 0 → length s - n < many → CallGives s n at 0 (messages_from many s n))
        → CallGives s at start 0 (messages_from (suc many) s at)
    by true e next = rw e (gives_ever no_event (begin_ever s at start h (leb-true (length s) at e)))
    by false e next =
        rw e
        (start_gives (start_at s at) _ (start_found_lem s at) h (sound_next s at start 0 h ∙ rw e refl)
        (λ x n w p q.
        content_gives x.message_body _ h.short q (omega arith) w.message_body
        (λ n₂ i j. trailer_gives _ (record { short = h.short; inside_input = j; begun = omega arith; few = omega arith })
        (λ n₃ i₃ j₃. next n₃ (record { short = h.short; inside_input = j₃; begun = omega arith; few = omega arith }) (omega arith)))))

trailer_from_lem : (s : List ℕ) (at start : ℕ) → SoundReader s at start (suc zero) → CallGives s at start (suc zero) (trailer_from s start at)
unfolding trailer_from
trailer_from_lem s at start h =
    let b = h.begun in
    trailer_gives _ h (λ n p q. messages_give (suc (length s)) n start (record { short = h.short; inside_input = q; begun = omega arith; few = omega arith }) (omega arith))

-- what every later call answers, of a sound reader
rest_gives : (s : List ℕ) (at start pending : ℕ) → SoundReader s at start pending → CallGives s at start pending (rest_from s at start pending)
unfolding rest_from
rest_gives s at start zero h = messages_give (suc (length s)) at start h (omega arith)
rest_gives s at start (suc zero) h = trailer_from_lem s at start h
rest_gives s at start (suc (suc left)) h =
    let b = h.begun in
    entries_give left _ h
    (λ m i j. list_end_gives _ (record { short = h.short; inside_input = j; begun = omega arith; few = omega arith })
    (λ n p q. trailer_from_lem s n start (record { short = h.short; inside_input = q; begun = omega arith; few = omega arith })))

-- repeated calls give exactly what the tables say, for ever, of any three numbers
pub calls_from : (s : List ℕ) (at start pending k : ℕ) → call k s at start pending ≡ answer (answers_from s at start pending) k
unfolding answers_from next_at
calls_from s at start pending k =
    by (ltb limit (length s)) (is_sound (length s) at start pending) refl refl
  where
    by : (t u : Bool) → ltb limit (length s) ≡ t → is_sound (length s) at start pending ≡ u → call k s at start pending ≡ answer (answers_from s at start pending) k
    by true u e g = rw e ((ever e).gives k)
      where
        ever : ltb limit (length s) ≡ true → CallGives s at start pending (for_ever (alone input_too_long_no))
        ever i = gives_ever (alone input_too_long_no) (rw i)
    by false true e g = rw (e, g) ((rest_gives s at start pending (sound_is s at start pending e g)).gives k)
    by false false e g = rw (e, g) (ever.gives k)
      where
        ever : CallGives s at start pending (for_ever (alone bad_state_no))
        ever = gives_ever (alone bad_state_no) (rw (e, g))

-- from (0, 0, 0) on they are those of the whole input
pub events_from_lem : (s : List ℕ) → answers_from s 0 0 0 ≡ events_of s
unfolding answers_from events_of rest_from
events_from_lem s = rw (le-leb 0 (length s) (omega arith))

pub calls_are_events : (s : List ℕ) (k : ℕ) → call k s 0 0 0 ≡ answer (events_of s) k
calls_are_events s k = calls_from s 0 0 0 k ∙ ap (λ (a : Answers). answer a k) (events_from_lem s)
