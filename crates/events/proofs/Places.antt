-- Laws of the next event: places never fall and lie within the input, a sound reader stays sound, an entry's two places, strings within the input.
use mathlib.Core.Path.{◌≡◌, refl, sym, ap, ◌∙◌}
use mathlib.Core.List.{List}
use mathlib.Core.Bool.{Bool, true, false, cond}
use Prim.Native.Nat.{ℕ, zero, suc, ◌≤◌, ◌<◌}
use native.Mathlib.Omega.{arith}
use lib.ListN.{length}
use lib.Dec.{leb}
use Rattle.refusals.specs.Read.{Read, got, refused}
use Rattle.refusals.specs.declared.Span.{Span}
use Rattle.refusals.proofs.Read.{Ok}
use Rattle.refusals.proofs.Found.{Found}
use Rattle.common.specs.Fields.{ListEntry, entry_at}
use Rattle.common.proofs.Fields.{EntryWithin, entry_found}
use Rattle.message.specs.Messages.{Body, open_body, close_body, list_body, start_at, list_end_at}
use Rattle.message.proofs.Messages.{ListEndWithin, BodyWithin, StartWithin, start_found_lem, list_end_found}
use Rattle.trailer.specs.Trailer.{trailer_at}
use Rattle.trailer.proofs.Trailer.{trailer_found}
use Rattle.streaming.specs.Next.{MessageEvent, start_event, entry_event, end_event, Said, event, no_event, failed, alone, ReaderAfter, onward, pending_of, begin_at, trailer_next, end_next, entry_next, step_at, next_at}
use Rattle.events.proofs.Calls.{SoundReader, sound_next}

-- every string of an event lies within the input
abbrev pub EventWithin : List ℕ → MessageEvent Span → Type 0
EventWithin s (start_event m) = StartWithin s m
EventWithin s (entry_event e) = EntryWithin s e
EventWithin s (end_event e) = ListEndWithin s e

-- what an answer says of the place: an event has taken at least a byte
abbrev pub SaidWithin : List ℕ → ℕ → ℕ → Said → Type 0
SaidWithin s at place (event e) = EventWithin s e × (at < place)
SaidWithin s at place no_event = Unit {0}
SaidWithin s at place (failed f) = Unit {0}
SaidWithin s at place (alone n) = Unit {0}

-- behind a call: the place has not fallen and lies within the input, the reader is sound again, and an event's strings lie within the input
pub record Kept (s : List ℕ) (at : ℕ) (r : ReaderAfter) : Type 0 where
  pub low : at ≤ r.place
  pub high : r.place ≤ length s
  pub begun : r.start ≤ r.place
  pub few : r.pending ≤ 4294967297
  pub strings : SaidWithin s at r.place r.answer

few_pending : (s : List ℕ) (b : Body Span) → BodyWithin s b → pending_of b ≤ 4294967297
few_pending s (open_body b) h = omega arith
few_pending s (close_body b) h = omega arith
few_pending s (list_body b) h = let c = h.num_vals in omega arith

kept_on : {A : Type 0} {P : A → Type 0} {s : List ℕ} {at m : ℕ} (start pending : ℕ) (r : Read A) (k : A → ℕ → ReaderAfter) → Ok (Found P s m) r
    → at ≤ length s → start ≤ length s → pending ≤ 4294967297 → ((a : A) (n : ℕ) → P a → m < n → n ≤ length s → Kept s at (k a n)) → Kept s at (onward (length s) start pending r k)
unfolding onward
kept_on start pending (got a n) k h p q o f = let w = h.holds in let v = w.1 in f a n w.0 v.ahead v.within
kept_on {s = s} {at = at} start pending (refused x) k h p q o f = record { low = p; high = omega arith; begun = q; few = o; strings = tt }

begin_kept : (s : List ℕ) (old at start : ℕ) → old ≤ at → at ≤ length s → start ≤ at → Kept s old (begin_at s at start)
unfolding begin_at
begin_kept s old at start o p q = by (leb (length s) at)
  where
    by : (t : Bool) → Kept s old (cond t (record { answer = no_event; place = at; start = start; pending = 0 })
        (onward (length s) at 0 (start_at s at) λ m n. record { answer = event (start_event m); place = n; start = at; pending = pending_of m.message_body }))
    by true = record { low = o; high = p; begun = q; few = omega arith; strings = tt }
    by false =
        kept_on at 0 _ _ (start_found_lem s at) (omega arith) p (omega arith)
        (λ m n h i j. record { low = omega arith; high = j; begun = omega arith; few = few_pending s m.message_body h.message_body; strings = (h, omega arith) })

step_kept : (s : List ℕ) (at start pending : ℕ) → SoundReader s at start pending → Kept s at (step_at s at start pending)
unfolding step_at trailer_next end_next entry_next
step_kept s at start zero h = begin_kept s at at start (omega arith) h.inside_input h.begun
step_kept s at start (suc zero) h =
    let p = h.inside_input in
    let q = h.begun in
    kept_on start 1 _ _ (trailer_found s start at) p (omega arith) (omega arith)
    (λ d n w i j. begin_kept s at n start (omega arith) j (omega arith))
step_kept s at start (suc (suc zero)) h =
    let p = h.inside_input in
    let q = h.begun in
    kept_on start 2 _ _ (list_end_found s at) p (omega arith) (omega arith)
    (λ e n w i j. record { low = omega arith; high = j; begun = omega arith; few = omega arith; strings = (w, i) })
step_kept s at start (suc (suc (suc k))) h =
    let p = h.inside_input in
    let q = h.begun in
    let o = h.few in
    kept_on start (suc (suc (suc k))) _ _ (entry_found s at) p (omega arith) o
    (λ e n w i j. record { low = omega arith; high = j; begun = omega arith; few = omega arith; strings = (w, i) })

-- of a sound reader
pub next_kept : (s : List ℕ) (at start pending : ℕ) → SoundReader s at start pending → Kept s at (next_at s at start pending)
next_kept s at start pending h = rw (sound_next s at start pending h) (step_kept s at start pending h)

-- a sound reader stays sound
pub next_sound : (s : List ℕ) (at start pending : ℕ) → SoundReader s at start pending
    → SoundReader s (next_at s at start pending).place (next_at s at start pending).start (next_at s at start pending).pending
next_sound s at start pending h =
    let k = next_kept s at start pending h in
    record { short = h.short; inside_input = k.high; begun = k.begun; few = k.few }

-- at an entry: the old place is the entry's first byte, the new one is behind its last
pub record AtEntry (s : List ℕ) (at : ℕ) (r : ReaderAfter) : Type 0 where
  pub spans : (e : ListEntry Span) → r.answer ≡ event (entry_event e) → entry_at s at ≡ got e r.place

abbrev is_entry : Said → ℕ
is_entry (event (start_event m)) = 0
is_entry (event (entry_event e)) = 1
is_entry (event (end_event e)) = 0
is_entry no_event = 0
is_entry (failed f) = 0
is_entry (alone n) = 0

abbrev the_entry : ListEntry Span → Said → ListEntry Span
the_entry d (event (start_event m)) = d
the_entry d (event (entry_event e)) = e
the_entry d (event (end_event e)) = d
the_entry d no_event = d
the_entry d (failed f) = d
the_entry d (alone n) = d

no_entry : {s : List ℕ} {at : ℕ} {r : ReaderAfter} → is_entry r.answer ≡ 0 → AtEntry s at r
no_entry {r = r} h = record { spans = λ e p. let z : ◌≡◌ {A = ℕ} 1 0 = sym (ap is_entry p) ∙ h in absurd (omega arith) }

no_entry_on : {A : Type 0} {s : List ℕ} {at : ℕ} (end start pending : ℕ) (r : Read A) (k : A → ℕ → ReaderAfter) → ((a : A) (n : ℕ) → AtEntry s at (k a n)) → AtEntry s at (onward end start pending r k)
unfolding onward
no_entry_on end start pending (got a n) k f = f a n
no_entry_on end start pending (refused x) k f = no_entry refl

begin_no_entry : (s : List ℕ) (old at start : ℕ) → AtEntry s old (begin_at s at start)
unfolding begin_at
begin_no_entry s old at start = by (leb (length s) at)
  where
    by : (t : Bool) → AtEntry s old (cond t (record { answer = no_event; place = at; start = start; pending = 0 })
        (onward (length s) at 0 (start_at s at) λ m n. record { answer = event (start_event m); place = n; start = at; pending = pending_of m.message_body }))
    by true = no_entry refl
    by false = no_entry_on _ _ _ (start_at s at) _ (λ m n. no_entry refl)

entry_on : {s : List ℕ} {at : ℕ} (end start pending left : ℕ) (r : Read (ListEntry Span)) → entry_at s at ≡ r
    → AtEntry s at (onward end start pending r λ e n. record { answer = event (entry_event e); place = n; start = start; pending = left })
unfolding onward
entry_on end start pending left (got e n) h = record { spans = λ e' p. h ∙ ap (λ (x : ListEntry Span). got x n) (ap (the_entry e) p) }
entry_on end start pending left (refused f) h = no_entry refl

step_entry : (s : List ℕ) (at start pending : ℕ) → AtEntry s at (step_at s at start pending)
unfolding step_at trailer_next end_next entry_next
step_entry s at start zero = begin_no_entry s at at start
step_entry s at start (suc zero) = no_entry_on _ _ _ (trailer_at s start at) _ (λ d n. begin_no_entry s at n start)
step_entry s at start (suc (suc zero)) = no_entry_on _ _ _ (list_end_at s at) _ (λ e n. no_entry refl)
step_entry s at start (suc (suc (suc k))) = entry_on _ _ _ _ (entry_at s at) refl

pub next_entry : (s : List ℕ) (at start pending : ℕ) → SoundReader s at start pending → AtEntry s at (next_at s at start pending)
next_entry s at start pending h = rw (sound_next s at start pending h) (step_entry s at start pending)
