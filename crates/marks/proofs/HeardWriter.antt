-- What a caller of the library hears of writing is what our writer says: an event's words and a writer's numbers are read back, and a refusal's number is none of an answer's.
use mathlib.Core.Path.{◌≡◌, refl, sym, ap, ◌∙◌}
use mathlib.Core.Bool.{Bool, true, false, cond, not, ◌&&◌}
use mathlib.Core.List.{List, [], ◌∷◌}
use mathlib.Core.Option.{Option, some, none}
use Prim.Native.Nat.{ℕ, ◌-◌, ◌^◌}
use native.Mathlib.Omega.{arith}
use lib.ListN.{length}
use lib.Dec.{eqb, ltb}
use borrow.Author.Tests.{eqb-true, ltb-true, lt-ltb}
use Rattle.refusals.specs.Numbers.{bad_state_no, wrong_number_no, bad_span_no, output_too_short_no}
use Rattle.refusals.specs.declared.Span.{Span}
use Rattle.message.specs.Messages.{Body, open_body, close_body, list_body}
use Rattle.streaming.specs.Next.{MessageEvent, start_event, entry_event, end_event, event}
use Rattle.writer.specs.Calls.{write_refusal, WriteOutcome, to, not_written, AfterWrite, put_or, whole_to, start_to, entry_to, end_to}
use Rattle.writer.specs.declared.Head.{Head}
use Rattle.writer.specs.declared.ListState.{ListState}
use Rattle.writer.specs.declared.ListState.TheVariants.{Entries, Ended}
use Rattle.writer.specs.declared.ListWriter.{ListWriter}
use Rattle.written.specs.Calls.{our_writer}
use Rattle.words.specs.Words.{event_words}
use Rattle.words.specs.Back.{event_of}
use Rattle.words.specs.Claims.{EventInTypes}
use Rattle.words.proofs.Back.{back_claims}
use Rattle.sartrogheo.specs.Calls.{good_no, reply}
use Rattle.sartrogheo.specs.Writes.{writer_words, writer_at, writer_of, writer_in, ended_behind, ended_after, head_fields, message_to, event_to, event_or, write_no, writer_behind, sgh_write_event}
use Rattle.marks.specs.Library.{our_library, lent_at, InFourNumbers, message_by, event_by, writer_heard, heard_write, HearsWriter}

-- ---- a refusal leaves the output, and its number is not 0

abbrev RefusesWith : {A : Type 0} → List ℕ → List ℕ → WriteOutcome A → Type 0
RefusesWith out output (to a) = Unit {0}
RefusesWith out output (not_written n) = (eqb n 0 ≡ false) × (output ≡ out)

abbrev Refuses : {A : Type 0} → List ℕ → AfterWrite A → Type 0
Refuses out a = RefusesWith out a.output a.answer

module _ {A : Type 0} (out : List ℕ) (at : ℕ) (b : List ℕ) (a : A) where
  RefusesBy : Option ℕ → Type 0
  RefusesBy o = Refuses out (put_or o out at b a)

  one_refuses : (n : ℕ) → eqb n 0 ≡ false → RefusesBy (some n)
  unfolding RefusesBy put_or
  one_refuses n h = (h, refl)

  none_refuses : RefusesBy none
  unfolding RefusesBy put_or
  none_refuses = tt

  each_refuses : (beyond due good short : Bool) → RefusesBy (cond beyond (some bad_state_no) (cond (not due) (some wrong_number_no) (cond (not good) (some bad_span_no) (cond short (some output_too_short_no) none))))
  each_refuses true due good short = one_refuses 4 refl
  each_refuses false false good short = one_refuses 17 refl
  each_refuses false true false short = one_refuses 16 refl
  each_refuses false true true true = one_refuses 18 refl
  each_refuses false true true false = none_refuses

  put_refuses : (due good : Bool) → Refuses out (put_or (write_refusal out at due good b) out at b a)
  unfolding RefusesBy write_refusal
  put_refuses due good = each_refuses (ltb (length out) at) due good (ltb (length out - at) (length b))

ended_refuses : (out : List ℕ) (a : AfterWrite ℕ) → Refuses out a → Refuses out (ended_after a)
ended_refuses out a h = go a.answer h
  where
    go : (r : WriteOutcome ℕ) → RefusesWith out a.output r → RefusesWith out a.output (ended_behind r)
    go (to place) h = tt
    go (not_written n) h = h

whole_refuses : (out : List ℕ) (at : ℕ) (strings : List ℕ) (head : Head) (b : Body Span) → Refuses out (whole_to out at strings head b)
unfolding whole_to
whole_refuses out at strings head b = put_refuses out at _ _ _ _

start_write_refuses : (out : List ℕ) (at : ℕ) (strings : List ℕ) (head : Head) (b : Body Span) → Refuses out (message_to out at strings head b)
unfolding start_to
start_write_refuses out at strings head (open_body b) = ended_refuses out (whole_to out at strings head (open_body b)) (whole_refuses out at strings head (open_body b))
start_write_refuses out at strings head (close_body b) = ended_refuses out (whole_to out at strings head (close_body b)) (whole_refuses out at strings head (close_body b))
start_write_refuses out at strings head (list_body b) = put_refuses out at _ _ _ _

event_refuses : (out : List ℕ) (w : ListWriter) (strings : List ℕ) (e : MessageEvent Span) → Refuses out (event_to out w strings e)
unfolding entry_to end_to
event_refuses out w strings (start_event m) = start_write_refuses out w.place strings _ m.message_body
event_refuses out w strings (entry_event e) = put_refuses out w.place _ _ _ _
event_refuses out w strings (end_event e) = put_refuses out w.place _ _ _ _

or_refuses : (out strings : List ℕ) (e : Option (MessageEvent Span)) (w : Option ListWriter) → Refuses out (event_or out strings e w)
or_refuses out strings (some e) (some w) = event_refuses out w strings e
or_refuses out strings (some e) none = (refl, refl)
or_refuses out strings none w = (refl, refl)

-- ---- a writer's numbers

words_say : (v : ListWriter) → writer_heard (writer_words v) ≡ v
words_say v = go v.place v.state
  where
    go : (place : ℕ) (s : ListState) → writer_heard (writer_words (writer_at place s)) ≡ writer_at place s
    go place (Entries left crc) = refl
    go place Ended = refl

writer_back : (v : ListWriter) → InFourNumbers v.state → writer_in (writer_words v) ≡ some v
unfolding writer_in
writer_back v h = go v.place v.state h
  where
    go : (place : ℕ) (s : ListState) → InFourNumbers s → writer_in (writer_words (writer_at place s)) ≡ some (writer_at place s)
    go place (Entries left crc) h = rw (lt-ltb left (2 ^ 32) h.0, lt-ltb crc (2 ^ 16) h.1)
    go place Ended h = refl

-- what is heard of an outcome is the outcome
heard_outcome : (out w : List ℕ) (a : AfterWrite ListWriter) → Refuses out a → heard_write (reply (write_no a.answer) (a.output ∷ writer_behind a.answer w ∷ [])) ≡ a
heard_outcome out w a h = go a.answer h
  where
    go : (r : WriteOutcome ListWriter) → RefusesWith out a.output r → heard_write (reply (write_no r) (a.output ∷ writer_behind r w ∷ [])) ≡ record { answer = r; output = a.output }
    go (to v) h = rw (words_say v)
    go (not_written n) h = rw h.0

-- the five calls are those of the definition
by_ours : (out : List ℕ) (w : ListWriter) (strings : List ℕ) (e : MessageEvent Span) → event_to out w strings e ≡ event_by our_writer out w strings e
by_ours out w strings (start_event m) = go m.message_body
  where
    go : (b : Body Span) → message_to out w.place strings (head_fields m) b ≡ message_by our_writer out w.place strings (head_fields m) b
    go (open_body b) = refl
    go (close_body b) = refl
    go (list_body b) = refl
by_ours out w strings (entry_event e) = refl
by_ours out w strings (end_event e) = refl

writes : (out strings : List ℕ) (w : ListWriter) (e : MessageEvent Span) → InFourNumbers w.state → EventInTypes e → heard_write (sgh_write_event out strings (event_words (event e)) (writer_words w)) ≡ event_by our_writer out w strings e
unfolding sgh_write_event
writes out strings w e g h =
    rw (back_claims.events e h, writer_back w g) (heard_outcome out (writer_words w) (event_to out w strings e) (event_refuses out w strings e) ∙ by_ours out w strings e)

-- ---- what is none

or_none : {A : Type 0} (o : Option A) → ((a : A) → o ≡ some a → ⊥) → o ≡ none
or_none (some a) f = absurd (f a refl)
or_none none f = refl

no_event_claim : (out strings words w : List ℕ) → ((e : MessageEvent Span) → EventInTypes e → words ≡ event_words (event e) → ⊥) → sgh_write_event out strings words w ≡ reply 4 (out ∷ w ∷ [])
unfolding sgh_write_event
no_event_claim out strings words w f = rw (or_none (event_of words) (λ e h. f e (back_claims.typed words e h) (back_claims.theirs words e h)))

writer_theirs : (place state left crc : ℕ) (v : ListWriter) → writer_of place state left crc ≡ some v → InFourNumbers v.state × (place ∷ state ∷ left ∷ crc ∷ [] ≡ writer_words v)
writer_theirs place state left crc v = by_entries (eqb state 1) (ltb left (2 ^ 32)) (ltb crc (2 ^ 16)) (eqb state 0) (eqb left 0) (eqb crc 0) refl refl refl refl refl refl
  where
    by_entries : (s l c s₀ l₀ c₀ : Bool) → s ≡ eqb state 1 → l ≡ ltb left (2 ^ 32) → c ≡ ltb crc (2 ^ 16) → s₀ ≡ eqb state 0 → l₀ ≡ eqb left 0 → c₀ ≡ eqb crc 0
        → cond s (cond (l && c) (some (writer_at place (Entries left crc))) none) (cond (s₀ && (l₀ && c₀)) (some (writer_at place Ended)) none) ≡ some v → InFourNumbers v.state × (place ∷ state ∷ left ∷ crc ∷ [] ≡ writer_words v)
    by_entries true true true s₀ l₀ c₀ p q r p₀ q₀ r₀ h =
        let e : writer_at place (Entries left crc) ≡ v = cc in
        rw (← e, eqb-true state 1 (sym p)) ((ltb-true left (2 ^ 32) (sym q), ltb-true crc (2 ^ 16) (sym r)), refl)
    by_entries true true false s₀ l₀ c₀ p q r p₀ q₀ r₀ h = let z : ◌≡◌ {A = ℕ} 0 1 = cc in absurd (omega arith)
    by_entries true false c s₀ l₀ c₀ p q r p₀ q₀ r₀ h = let z : ◌≡◌ {A = ℕ} 0 1 = cc in absurd (omega arith)
    by_entries false l c true true true p q r p₀ q₀ r₀ h =
        let e : writer_at place Ended ≡ v = cc in
        rw (← e, eqb-true state 0 (sym p₀), eqb-true left 0 (sym q₀), eqb-true crc 0 (sym r₀)) (tt, refl)
    by_entries false l c true true false p q r p₀ q₀ r₀ h = let z : ◌≡◌ {A = ℕ} 0 1 = cc in absurd (omega arith)
    by_entries false l c true false c₀ p q r p₀ q₀ r₀ h = let z : ◌≡◌ {A = ℕ} 0 1 = cc in absurd (omega arith)
    by_entries false l c false l₀ c₀ p q r p₀ q₀ r₀ h = let z : ◌≡◌ {A = ℕ} 0 1 = cc in absurd (omega arith)

or_no_writer : (out strings : List ℕ) (e : Option (MessageEvent Span)) → event_or out strings e none ≡ record { answer = not_written 4; output = out }
or_no_writer out strings (some e) = refl
or_no_writer out strings none = refl

no_writer : (out strings words : List ℕ) (place state left crc : ℕ) → let w : List ℕ = place ∷ state ∷ left ∷ crc ∷ [] in
    ((v : ListWriter) → InFourNumbers v.state → w ≡ writer_words v → ⊥) → sgh_write_event out strings words w ≡ reply 4 (out ∷ w ∷ [])
unfolding sgh_write_event writer_in
no_writer out strings words place state left crc f =
    rw (or_none (writer_of place state left crc) (λ v h. (let t = writer_theirs place state left crc v h in f v t.0 t.1)), or_no_writer out strings (event_of words))

leaves_both : (out strings words w : List ℕ) → ((sgh_write_event out strings words w).number ≡ good_no → ⊥) → sgh_write_event out strings words w ≡ reply (sgh_write_event out strings words w).number (out ∷ w ∷ [])
unfolding sgh_write_event
leaves_both out strings words w f = go (event_or out strings (event_of words) (writer_in w)).answer (or_refuses out strings (event_of words) (writer_in w)) f
  where
    go : (r : WriteOutcome ListWriter) → RefusesWith out (event_or out strings (event_of words) (writer_in w)).output r → (write_no r ≡ good_no → ⊥)
        → reply (write_no r) ((event_or out strings (event_of words) (writer_in w)).output ∷ writer_behind r w ∷ []) ≡ reply (write_no r) (out ∷ w ∷ [])
    go (to v) h f = absurd (f refl)
    go (not_written n) h f = rw h.1

-- behind an accepted call the four numbers are those of the writer that they say
say_all : (out strings words w : List ℕ) → (sgh_write_event out strings words w).number ≡ good_no → lent_at (sgh_write_event out strings words w) 1 ≡ writer_words (writer_heard (lent_at (sgh_write_event out strings words w) 1))
unfolding sgh_write_event
say_all out strings words w f = go (event_or out strings (event_of words) (writer_in w)).answer (or_refuses out strings (event_of words) (writer_in w)) f
  where
    go : (r : WriteOutcome ListWriter) → RefusesWith out (event_or out strings (event_of words) (writer_in w)).output r → write_no r ≡ good_no → writer_behind r w ≡ writer_words (writer_heard (writer_behind r w))
    go (to v) h f = sym (ap writer_words (words_say v))
    go (not_written n) h f = let z : ◌≡◌ {A = ℕ} 0 1 = cc in absurd (omega arith)

pub hears_writer : HearsWriter our_library
hears_writer =
    record {
      writes = writes;
      numbers = say_all;
      no_event_claim = no_event_claim;
      no_writer = no_writer;
      leaves = leaves_both;
    }
