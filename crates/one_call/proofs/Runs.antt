-- The event reader runs to a message's end exactly where message_at finds the message.
use mathlib.Core.Path.{◌≡◌, refl, sym, ap, ◌∙◌, subst}
use mathlib.Core.Bool.{Bool, true, false, cond}
use mathlib.Core.List.{List, [], ◌∷◌, map}
use mathlib.Core.Option.{Option, some, none}
use Prim.Native.Nat.{ℕ, zero, suc, ◌+◌, ◌≤◌, ◌<◌}
use native.Mathlib.Omega.{arith}
use lib.ListN.{length, take}
use lib.Dec.{ltb, leb}
use lib.Seq.{length-take-le, take-take}
use borrow.Author.Tests.{ltb-true, ltb-false, le-leb, lt-leb}
use Rattle.refusals.specs.Numbers.{limit}
use Rattle.refusals.specs.Read.{Read, got, refused, Refusal}
use Rattle.refusals.specs.declared.Span.{Span}
use Rattle.common.specs.Fields.{ListEntry}
use Rattle.message.specs.Messages.{MessageStart, ListEnd, start_at}
use Rattle.streaming.specs.Next.{MessageEvent, start_event, entry_event, end_event, Said, event, no_event, failed, alone, ReaderAfter, is_sound, begin_at, step_at, next_at}
use Rattle.events.specs.Message.{Message, message_at}
use Rattle.events.specs.Events.{Answers, nth, answer, says_first, no_more, at_start_claim, messages_from}
use Rattle.events.specs.Telling.{says_all, entry_events, end_events, message_events, is_refused, Tells}
use Rattle.events.specs.Calls.{call}
use Rattle.events.proofs.Calls.{SoundReader, messages_give}
use Rattle.events.proofs.Whole.{message_tells}
use Rattle.events.proofs.Refuses.{message_refuses}
use Rattle.places.specs.Stands.{SameBefore}
use Rattle.places.proofs.Before.{same_cut}
use Rattle.places.proofs.Readers.{locates_message}
use Rattle.places.proofs.Locates.{locates_taken}
use Rattle.whole.specs.Whole.{Fair}
use Rattle.one_call.specs.Readers.{call_at, RunsTo}

-- ---- what calls give

-- behind the input's end no message begins
none_behind : (j : ℕ) (s : List ℕ) (n : ℕ) → length s ≤ n → messages_from j s n ≡ no_more
unfolding messages_from
none_behind zero s n h = refl
none_behind (suc j) s n h = rw (le-leb (length s) n h)

-- of events that are said first, the k-th, and what is said behind them
first_told : (es : List (MessageEvent Span)) (a : Answers) (k : ℕ) → k < length es → answer (says_all es a) k ≡ nth (map event es) no_event k
unfolding answer nth says_all says_first
first_told [] a k h = absurd (omega arith)
first_told (e ∷ es) a zero h = refl
first_told (e ∷ es) a (suc k) h = first_told es a k (omega arith)

behind_told : (es : List (MessageEvent Span)) (a : Answers) (k : ℕ) → answer (says_all es a) (length es + k) ≡ answer a k
unfolding answer nth says_all says_first
behind_told [] a k = ap (λ (i : ℕ). nth a.first a.later i) (omega arith)
behind_told (e ∷ es) a k = let i : suc (length es) + k ≡ suc (length es + k) = omega arith in ap (λ (j : ℕ). nth (event e ∷ (says_all es a).first) (says_all es a).later j) i ∙ behind_told es a k

events_only : (es : List (MessageEvent Span)) (k : ℕ) → answer (says_all es no_more) k ≡ nth (map event es) no_event k
unfolding answer nth says_all says_first
events_only [] k = refl
events_only (e ∷ es) zero = refl
events_only (e ∷ es) (suc k) = events_only es k

sound_at_lem : (s : List ℕ) (at : ℕ) → Fair s at → SoundReader s at at 0
sound_at_lem s at h = record { short = h.short; inside_input = h.inside; begun = omega arith; few = omega arith }

-- where message_at finds a message, the calls give its events and go on behind it
pub calls_tell : (s : List ℕ) (at : ℕ) (m : Message Span) (n : ℕ) → Fair s at → at < length s → message_at s at ≡ got m n
    → (k : ℕ) → call_at s at k ≡ answer (says_all (message_events m) (messages_from (length s) s n)) k
calls_tell s at m n h lt e k =
    let t : Tells message_events (got m n) (messages_from (suc (length s)) s at) (messages_from (length s) s) =
    subst (λ (r : Read (Message Span)). Tells message_events r (messages_from (suc (length s)) s at) (messages_from (length s) s)) e (message_tells (length s) s at lt) in
    let g = messages_give (suc (length s)) at at (sound_at_lem s at h) (omega arith) in
    g.gives k ∙ ap (λ (a : Answers). answer a k) t.tells

-- ---- from a message to a run

-- a message that was found stands in the bytes up to the next place, and in every input that has them
pub message_cut : (s : List ℕ) (at : ℕ) (m : Message Span) (n : ℕ) → at ≤ length s → message_at s at ≡ got m n → message_at (take n s) at ≡ got m n
message_cut s at m n h e =
    let w = locates_taken (locates_message at) s m n h e in
    let l = w.looked in
    l.alike (take n s) (same_cut s {m = n} {n = n} (omega arith)) ∙ e

pub runs_to : (s : List ℕ) (at : ℕ) (m : Message Span) (n : ℕ) → Fair s at → at < n → n ≤ length s → message_at s at ≡ got m n → RunsTo s at n m
runs_to s at m n h lt w e =
    let l = length-take-le n s w in
    let short : length s ≤ limit = h.short in
    let fair : Fair (take n s) at = record { short = omega arith; inside = omega arith } in
    record {
      within = w;
      gives = λ k.
          calls_tell (take n s) at m n fair (omega arith) (message_cut s at m n h.inside e) k
          ∙ ap (λ (a : Answers). answer (says_all (message_events m) a) k) (none_behind (length (take n s)) (take n s) n (omega arith))
          ∙ events_only (message_events m) k;
    }

-- lent the whole input, the calls give the message's events, and then what one says that begins behind it
pub events_given : (s : List ℕ) (at : ℕ) (m : Message Span) (n : ℕ) → Fair s at → at < length s → message_at s at ≡ got m n
    → (k : ℕ) → k < length (message_events m) → call_at s at k ≡ nth (map event (message_events m)) no_event k
events_given s at m n h lt e k i = calls_tell s at m n h lt e k ∙ first_told (message_events m) (messages_from (length s) s n) k i

pub goes_behind : (s : List ℕ) (at : ℕ) (m : Message Span) (n : ℕ) → Fair s at → at < n → n ≤ length s → message_at s at ≡ got m n → (k : ℕ) → call_at s at (length (message_events m) + k) ≡ call_at s n k
goes_behind s at m n h lt w e k =
    calls_tell s at m n h (omega arith) e (length (message_events m) + k)
    ∙ behind_told (message_events m) (messages_from (length s) s n) k
    ∙ sym ((messages_give (length s) n n (sound_at_lem s n (record { short = h.short; inside = w })) (omega arith)).gives k)

-- ---- from a run to a message

-- what an answer is: 0 no event, 1 a refusal, 2 a start, 3 an entry, 4 an end
abbrev event_kind : Said → ℕ
event_kind no_event = 0
event_kind (failed f) = 1
event_kind (alone n) = 1
event_kind (event (start_event m)) = 2
event_kind (event (entry_event e)) = 3
event_kind (event (end_event e)) = 4

abbrev start_or : MessageStart Span → Said → MessageStart Span
start_or d no_event = d
start_or d (failed f) = d
start_or d (alone n) = d
start_or d (event (start_event m)) = m
start_or d (event (entry_event e)) = d
start_or d (event (end_event e)) = d

abbrev entry_or : ListEntry Span → Said → ListEntry Span
entry_or d no_event = d
entry_or d (failed f) = d
entry_or d (alone n) = d
entry_or d (event (start_event m)) = d
entry_or d (event (entry_event e)) = e
entry_or d (event (end_event e)) = d

abbrev end_or : ListEnd Span → Said → ListEnd Span
end_or d no_event = d
end_or d (failed f) = d
end_or d (alone n) = d
end_or d (event (start_event m)) = d
end_or d (event (entry_event e)) = d
end_or d (event (end_event e)) = e

abbrev pub failed_or : Refusal → Said → Refusal
failed_or d (event e) = d
failed_or d no_event = d
failed_or d (failed f) = f
failed_or d (alone n) = d

-- no entry and no end comes first
record BeginsAnew (a : Answers) : Type 0 where
  pub anew : event_kind (answer a 0) ≤ 2

start_anew : (s : List ℕ) (x : Read (MessageStart Span)) (k : MessageStart Span → ℕ → Answers) → BeginsAnew (at_start_claim x λ m n. says_first (start_event m) (k m n))
unfolding at_start_claim says_first answer nth
start_anew s (got m n) k = record { anew = omega arith }
start_anew s (refused f) k = record { anew = omega arith }

none_anew : BeginsAnew no_more
unfolding answer nth
none_anew = record { anew = omega arith }

cond_anew : (b : Bool) (a : Answers) → BeginsAnew a → BeginsAnew (cond b no_more a)
cond_anew true a h = none_anew
cond_anew false a h = h

messages_anew : (j : ℕ) (s : List ℕ) (n : ℕ) → BeginsAnew (messages_from j s n)
unfolding messages_from
messages_anew zero s n = none_anew
messages_anew (suc j) s n = cond_anew (leb (length s) n) _ (start_anew s (start_at s n) _)

some_first : (x : Read (MessageStart Span)) (k : MessageStart Span → ℕ → Answers) → 0 < event_kind (answer (at_start_claim x λ m n. says_first (start_event m) (k m n)) 0)
unfolding at_start_claim says_first answer nth
some_first (got m n) k = omega arith
some_first (refused f) k = omega arith

-- where a part of the input is left, a call says something
some_said : (j : ℕ) (s : List ℕ) (n : ℕ) → n < length s → 0 < event_kind (answer (messages_from (suc j) s n) 0)
unfolding messages_from
some_said j s n h = rw (lt-leb (length s) n h) (some_first (start_at s n) _)

all_read : (j : ℕ) (s : List ℕ) (n : ℕ) → answer (messages_from (suc j) s n) 0 ≡ no_event → length s ≤ n
all_read j s n e = by (ltb n (length s)) refl
  where
    by : (b : Bool) → ltb n (length s) ≡ b → length s ≤ n
    by true q = let z : event_kind (answer (messages_from (suc j) s n) 0) ≡ 0 = ap event_kind e in absurd (omega (arith, z, some_said j s n (ltb-true n (length s) q)))
    by false q = ltb-false n (length s) q

-- events of entries and an end that are all that is said are those that are told, and behind them nothing is
record SameTold (xs ys : List (ListEntry Span)) (d e : Option (ListEnd Span)) (a : Answers) : Type 0 where
  pub entries : xs ≡ ys
  pub end : d ≡ e
  pub over : answer a 0 ≡ no_event

content_told : (xs ys : List (ListEntry Span)) (d e : Option (ListEnd Span)) (a : Answers) → BeginsAnew a
    → ((k : ℕ) → nth (map event (entry_events xs (end_events d))) no_event k ≡ answer (says_all (entry_events ys (end_events e)) a) k) → SameTold xs ys d e a
unfolding answer nth says_all says_first entry_events
content_told [] [] (some d) (some e) a h g = record { entries = refl; end = ap some (ap (end_or d) (g 0)); over = sym (g 1) }
content_told [] [] (some d) none a h g = let z : ◌≡◌ {A = ℕ} 4 (event_kind (nth a.first a.later 0)) = ap event_kind (g 0) in let w = h.anew in absurd (omega arith)
content_told [] [] none (some e) a h g = let z : ◌≡◌ {A = ℕ} 0 4 = ap event_kind (g 0) in absurd (omega arith)
content_told [] [] none none a h g = record { entries = refl; end = refl; over = sym (g 0) }
content_told (x ∷ xs) (y ∷ ys) d e a h g =
    let r = content_told xs ys d e a h (λ k. g (suc k)) in
    let first : x ≡ y = ap (entry_or x) (g 0) in
    record { entries = ap (λ (z : ListEntry Span). z ∷ xs) first ∙ ap (λ (l : List (ListEntry Span)). y ∷ l) r.entries; end = r.end; over = r.over }
content_told (x ∷ xs) [] d (some e) a h g = let z : ◌≡◌ {A = ℕ} 3 4 = ap event_kind (g 0) in absurd (omega arith)
content_told (x ∷ xs) [] d none a h g = let z : ◌≡◌ {A = ℕ} 3 (event_kind (nth a.first a.later 0)) = ap event_kind (g 0) in let w = h.anew in absurd (omega arith)
content_told [] (y ∷ ys) (some d) e a h g = let z : ◌≡◌ {A = ℕ} 4 3 = ap event_kind (g 0) in absurd (omega arith)
content_told [] (y ∷ ys) none e a h g = let z : ◌≡◌ {A = ℕ} 0 3 = ap event_kind (g 0) in absurd (omega arith)

record SameMessage (m x : Message Span) (a : Answers) : Type 0 where
  pub same : m ≡ x
  pub over : answer a 0 ≡ no_event

run_told : (m x : Message Span) (a : Answers) → BeginsAnew a → ((k : ℕ) → nth (map event (message_events m)) no_event k ≡ answer (says_all (message_events x) a) k) → SameMessage m x a
unfolding message_events says_all says_first answer nth
run_told m x a h g =
    let r = content_told m.content.entries x.content.entries m.content.end x.content.end a h (λ k. g (suc k)) in
    let start : m.start ≡ x.start = ap (start_or m.start) (g 0) in
    record { same = λ i. record { start = start i; content = record { entries = r.entries i; end = r.end i } }; over = r.over }

-- ---- an event is never a refusal, and no call beyond the input gives one

pub no_confusion : true ≡ false → ⊥
no_confusion e = let z : ◌≡◌ {A = ℕ} 1 0 = ap (λ (b : Bool). cond b 1 0) e in omega (arith, z)

pub events_never_refused : (es : List (MessageEvent Span)) (k : ℕ) → is_refused (nth (map event es) no_event k) ≡ false
unfolding nth
events_never_refused [] k = refl
events_never_refused (e ∷ es) zero = refl
events_never_refused (e ∷ es) (suc k) = events_never_refused es k

none_of_three : (p q : Bool) (a b c : ReaderAfter) → event_kind a.answer ≤ 1 → event_kind b.answer ≤ 1 → event_kind c.answer ≤ 1 → event_kind (cond p a (cond q b c)).answer ≤ 1
none_of_three true q a b c x y z = x
none_of_three false true a b c x y z = y
none_of_three false false a b c x y z = z

none_begins : (s : List ℕ) (at : ℕ) → length s ≤ at → begin_at s at at ≡ record { answer = no_event; place = at; start = at; pending = 0 }
unfolding begin_at
none_begins s at h = rw (le-leb (length s) at h)

no_start : (s : List ℕ) (at : ℕ) → length s ≤ at → event_kind (call_at s at 0) ≤ 1
unfolding call next_at step_at
no_start s at h = none_of_three (ltb limit (length s)) (is_sound (length s) at at 0) _ _ _ (omega arith) (omega (arith, ap (λ (a : ReaderAfter). event_kind a.answer) (none_begins s at h))) (omega arith)

start_first : (m : Message Span) → event_kind (nth (map event (message_events m)) no_event 0) ≡ 2
unfolding message_events nth
start_first m = refl

-- the message that a run is of, and its end, are what message_at finds
pub run_found : (s : List ℕ) (at n : ℕ) (m : Message Span) → Fair s at → RunsTo s at n m → message_at s at ≡ got m n
run_found s at n m h r = inside_cut (ltb at (length (take n s))) refl
  where
    short : length (take n s) ≡ n
    short = length-take-le n s r.within

    fair : at < length (take n s) → Fair (take n s) at
    fair lt = let p = h.short in let q = r.within in record { short = omega (arith, short); inside = omega arith }

    by : (j : ℕ) → length (take n s) ≡ suc j → at < length (take n s) → (x : Read (Message Span)) → message_at (take n s) at ≡ x → message_at s at ≡ got m n
    by j l lt (got x k) e =
        let w = locates_taken (locates_message at) (take n s) x k (omega arith) e in
        let i = w.high in
        let looked = w.looked in
        let same : SameBefore k (take n s) s = record { bytes = sym (take-take k n s (omega (arith, short))) } in
        let told = run_told m x (messages_from (length (take n s)) (take n s) k) (messages_anew (length (take n s)) (take n s) k) (λ i. sym (r.gives i) ∙ calls_tell (take n s) at x k (fair lt) lt e i) in
        let le = all_read j (take n s) k (ap (λ (i : ℕ). answer (messages_from i (take n s) k) 0) (sym l) ∙ told.over) in
        let end : k ≡ n = omega (arith, short) in
        looked.alike s same ∙ e ∙ ap (λ (y : Message Span). got y k) (sym told.same) ∙ ap (λ (i : ℕ). got m i) end
    by j l lt (refused f) e =
        let q = message_refuses (take n s) at at f (sound_at_lem (take n s) at (fair lt)) lt e in
        let z : ◌≡◌ {A = Bool} true false = sym (ap is_refused q.refuses) ∙ ap is_refused (r.gives q.k) ∙ events_never_refused (message_events m) q.k in
        absurd (no_confusion z)

    some_bytes : (j : ℕ) → length (take n s) ≡ j → at < length (take n s) → message_at s at ≡ got m n
    some_bytes zero l lt = absurd (omega arith)
    some_bytes (suc j) l lt = by j l lt (message_at (take n s) at) refl

    inside_cut : (b : Bool) → ltb at (length (take n s)) ≡ b → message_at s at ≡ got m n
    inside_cut true e = some_bytes (length (take n s)) refl (ltb-true at (length (take n s)) e)
    inside_cut false e =
        let le = ltb-false at (length (take n s)) e in
        let z = ap event_kind (r.gives 0) ∙ start_first m in
        absurd (omega (arith, z, no_start (take n s) at le))
