-- The calls of a list: accepted ones leave exactly the whole message, and they are accepted where it fits.
use mathlib.Core.Path.{◌≡◌, refl, sym, ap}
use mathlib.Core.List.{List, [], ◌∷◌, ◌++◌, map, append_assoc, append-nil}
use mathlib.Core.Bool.{Bool, true, false, cond, not}
use mathlib.Core.Option.{Option, some, none}
use Prim.Native.Nat.{ℕ, suc, ◌+◌, ◌-◌, ◌≤◌}
use native.Mathlib.Omega.{arith}
use lib.ListN.{length, length-append}
use lib.Dec.{ltb, eqb}
use borrow.Author.Tests.{ltb-true, ltb-false, eqb-true, le-ltb, lt-ltb, eq-eqb}
use Rattle.refusals.specs.Numbers.{bad_state_no, wrong_number_no, bad_span_no, output_too_short_no}
use Rattle.refusals.specs.declared.Span.{Span}
use Rattle.common.specs.Fields.{ListEntry}
use Rattle.message.specs.Messages.{ListStart, ListEnd, Body, list_body}
use Rattle.streaming.specs.Next.{start_event, entry_event, end_event}
use Rattle.streaming.specs.Meaning.{entry_means, list_end_means, start_means, strings_of}
use Rattle.crc_x25.specs.Crc as Crc
use Rattle.crc_x25.proofs.Laws.{register_append}
use Rattle.writer.specs.Fields.{write_entry}
use Rattle.writer.specs.Messages.{write_start, list_end_bytes, write_trailer}
use Rattle.writer.specs.Calls.{put_in, write_refusal, WriteOutcome, to, not_written, AfterWrite, put_or, all_within, start_with, whole_to, start_to, entry_to, end_to}
use Rattle.writer.specs.declared.Head.{Head}
use Rattle.writer.specs.declared.ListState.TheVariants.{Entries, Ended}
use Rattle.writer.specs.declared.ListWriter.{ListWriter}
use Rattle.writer.proofs.Puts.{put_then, put_length}
use Rattle.written.specs.Messages.{write_entries, write_end, write_content, write_message, message_means}
use Rattle.written.specs.Calls.{our_writer, then_call, entries_to, begun_to, list_to, lone_message, whole_list}
use Rattle.written.specs.Writers.{Accepting, Accepted, TakenWith, AllGood, FirstTrue}

call_holds : {A : Type 0} {P Q : A → List ℕ → Type 0} (a : WriteOutcome A) (o : List ℕ) (k : A → List ℕ → AfterWrite A) → Accepting P a o → ((w : A) (o : List ℕ) → P w o → Accepted Q (k w o))
    → Accepted Q (then_call (record { answer = a; output = o }) k)
unfolding then_call
call_holds (to w) o k h f = f w o h
call_holds (not_written n) o k h f = record { holds = tt }

pub then_accepted : {A : Type 0} {P Q : A → List ℕ → Type 0} (l : AfterWrite A) (k : A → List ℕ → AfterWrite A) → Accepted P l → ((w : A) (o : List ℕ) → P w o → Accepted Q (k w o)) → Accepted Q (then_call l k)
then_accepted l k h f = call_holds l.answer l.output k h.holds f

accept_at : {A : Type 0} {P Q : A → List ℕ → Type 0} (a : WriteOutcome A) (o : List ℕ) → ((w : A) (o : List ℕ) → P w o → Q w o) → Accepting P a o → Accepting Q a o
accept_at (to w) o f h = f w o h
accept_at (not_written n) o f h = tt

pub accept_weak : {A : Type 0} {P Q : A → List ℕ → Type 0} {l : AfterWrite A} → ((w : A) (o : List ℕ) → P w o → Q w o) → Accepted P l → Accepted Q l
accept_weak {l = l} f h = record { holds = accept_at l.answer l.output f h.holds }

pub put_holds : {A : Type 0} {P : A → List ℕ → Type 0} (r : Option ℕ) (out : List ℕ) (at : ℕ) (b : List ℕ) (a : A) → (r ≡ none → P a (put_in out at b)) → Accepted P (put_or r out at b a)
unfolding put_or
put_holds (some n) out at b a h = record { holds = tt }
put_holds none out at b a h = record { holds = h refl }

-- what an accepted call has passed
pub record PassedAll (out : List ℕ) (at : ℕ) (due : Bool) (b : List ℕ) : Type 0 where
  pub right : due ≡ true
  pub room : at + length b ≤ length out

not_some : {A : Type 0} (n : ℕ) → some n ≡ none → A
not_some n e = let z : ◌≡◌ {A = ℕ} 0 1 = ap (λ (m : Option ℕ). is m) (sym e) in absurd (omega arith)
  where
    is : Option ℕ → ℕ
    is (some n) = 1
    is none = 0

passed_by : (out : List ℕ) (at : ℕ) (b : List ℕ) (p due good q : Bool) → ltb (length out) at ≡ p → ltb (length out - at) (length b) ≡ q
    → ◌≡◌ {A = Option ℕ} (cond p (some bad_state_no) (cond (not due) (some wrong_number_no) (cond (not good) (some bad_span_no) (cond q (some output_too_short_no) none)))) none → PassedAll out at due b
passed_by out at b true due good q h k e = not_some bad_state_no e
passed_by out at b false false good q h k e = not_some wrong_number_no e
passed_by out at b false true false q h k e = not_some bad_span_no e
passed_by out at b false true true true h k e = not_some output_too_short_no e
passed_by out at b false true true false h k e = record { right = refl; room = omega (arith, ltb-false (length out) at h, ltb-false (length out - at) (length b) k) }

pub passed_all : (out : List ℕ) (at : ℕ) (due good : Bool) (b : List ℕ) → write_refusal out at due good b ≡ none → PassedAll out at due b
unfolding write_refusal
passed_all out at due good b e = passed_by out at b (ltb (length out) at) due good (ltb (length out - at) (length b)) refl refl e

pub free : (out : List ℕ) (at : ℕ) (b : List ℕ) → at + length b ≤ length out → write_refusal out at true true b ≡ none
unfolding write_refusal
free out at b h = rw (le-ltb (length out) at (omega arith), le-ltb (length out - at) (length b) (omega arith))

pub put_taken : {A : Type 0} (r : Option ℕ) (out : List ℕ) (at : ℕ) (b : List ℕ) (a : A) → r ≡ none → TakenWith (λ w o. (w ≡ a) × (o ≡ put_in out at b)) (put_or r out at b a)
unfolding put_or
put_taken (some n) out at b a e = not_some n e
put_taken none out at b a e = record { writer = a; output = put_in out at b; is = refl; has = (refl, refl) }

pub taken_weak : {A : Type 0} {P Q : A → List ℕ → Type 0} {l : AfterWrite A} → ((w : A) (o : List ℕ) → P w o → Q w o) → TakenWith P l → TakenWith Q l
taken_weak f h = record { writer = h.writer; output = h.output; is = h.is; has = f h.writer h.output h.has }

-- the first of the four that is true, with the output as it was; and none where none is
pub first_true : {A : Type 0} (out : List ℕ) (at : ℕ) (due good : Bool) (b : List ℕ) (a : A) → FirstTrue out at due good b (put_or (write_refusal out at due good b) out at b a)
unfolding write_refusal put_or
first_true out at due good b a =
    record {
      beyond = λ h. rw (lt-ltb (length out) at h);
      not_due = λ h d. rw (le-ltb (length out) at h, d);
      bad_span = λ h d g. rw (le-ltb (length out) at h, d, g);
      no_room_claim = λ h d g k. rw (le-ltb (length out) at h, d, g, lt-ltb (length out - at) (length b) (omega arith));
      else = λ d g h.
          record { writer = a; output = put_in out at b; is = rw (le-ltb (length out) at (omega arith), d, g, le-ltb (length out - at) (length b) (omega arith)); has = tt };
    }

-- behind the bytes b of a list's message, of which `left` entries are still to come
pub record StandsBehind (out : List ℕ) (at : ℕ) (b : List ℕ) (left : ℕ) (w : ListWriter) (o : List ℕ) : Type 0 where
  pub place : w.place ≡ at + length b
  pub state : w.state ≡ Entries left (Crc.register Crc.start b)
  pub bytes : o ≡ put_in out at b
  pub room : at + length b ≤ length out

start_stands : (out : List ℕ) (at : ℕ) (strings : List ℕ) (head : Head) (list : ListStart Span)
    → Accepted (StandsBehind out at (write_start (start_means strings (start_with head (list_body list)))) list.num_vals) (start_to out at strings head list)
unfolding start_to
start_stands out at strings head list = put_holds _ out at _ _ (λ e. let p = passed_all out at true _ _ e in record { place = refl; state = refl; bytes = refl; room = p.room })

entry_stands : (out : List ℕ) (at : ℕ) (b : List ℕ) (left : ℕ) (w : ListWriter) (o strings : List ℕ) (e : ListEntry Span) → StandsBehind out at b left w o
    → Accepted (λ v p. (1 ≤ left) × StandsBehind out at (b ++ write_entry (entry_means strings e)) (left - 1) v p) (entry_to o w strings e)
unfolding entry_to
entry_stands out at b left w o strings e s =
    let c = write_entry (entry_means strings e) in
    let n = length-append b c in
    let long = put_length out at b s.room in
    rw (s.place, s.state, s.bytes)
    (put_holds _ (put_in out at b) (at + length b) c _ (λ q.
    let p = passed_all (put_in out at b) (at + length b) (ltb 0 left) _ c q in (
      omega (arith, ltb-true 0 left p.right),
      record { place = omega (arith, n); state = ap (Entries (left - 1)) (sym (register_append Crc.start b c)); bytes = put_then out at b c s.room; room = omega (arith, n, p.room, long) },
    )))

entries_stand : (es : List (ListEntry Span)) (out : List ℕ) (at : ℕ) (b : List ℕ) (left : ℕ) (w : ListWriter) (o strings : List ℕ) → StandsBehind out at b left w o
    → Accepted (λ v p. (length es ≤ left) × StandsBehind out at (b ++ write_entries (map (entry_means strings) es)) (left - length es) v p) (entries_to our_writer o w strings es)
unfolding entries_to write_entries
entries_stand [] out at b left w o strings s =
    let z : left - 0 ≡ left = omega arith in
    record { holds = (omega arith, rw (append-nil b, z) s) }
entries_stand (e ∷ es) out at b left w o strings s =
    let c = write_entry (entry_means strings e) in
    then_accepted _ _ (entry_stands out at b left w o strings e s) (λ v p q.
    accept_weak (λ u r k.
    let i : left - 1 - length es ≡ left - suc (length es) = omega arith in
    (omega (arith, q.0, k.0), rw (← append_assoc b c (write_entries (map (entry_means strings) es)), ← i) k.1))
    (entries_stand es out at (b ++ c) (left - 1) v p strings q.1))

-- the bytes of a start and entries
abbrev pub begun_bytes : List ℕ → Head → ListStart Span → List (ListEntry Span) → List ℕ
begun_bytes strings head list es = write_start (start_means strings (start_with head (list_body list))) ++ write_entries (map (entry_means strings) es)

-- behind an accepted start that announces n and k accepted entries n - k are left
pub begun_stands : (out : List ℕ) (at : ℕ) (strings : List ℕ) (head : Head) (list : ListStart Span) (es : List (ListEntry Span))
    → Accepted (λ w o. (length es ≤ list.num_vals) × StandsBehind out at (begun_bytes strings head list es) (list.num_vals - length es) w o) (begun_to our_writer out at strings head list es)
unfolding begun_to
begun_stands out at strings head list es =
    then_accepted _ _ (start_stands out at strings head list) (λ w o s. entries_stand es out at (write_start (start_means strings (start_with head (list_body list)))) list.num_vals w o strings s)

-- a whole list is written: as many entries as announced, and exactly this message
pub record WholeWritten (out : List ℕ) (at : ℕ) (b : List ℕ) (many : Type 0) (w : ListWriter) (o : List ℕ) : Type 0 where
  pub announced : many
  pub place : w.place ≡ at + length b
  pub bytes : o ≡ put_in out at b
  pub state : w.state ≡ Ended
  pub room : at + length b ≤ length out

end_stands : (out : List ℕ) (at : ℕ) (b : List ℕ) (left : ℕ) (w : ListWriter) (o strings : List ℕ) (x : ListEnd Span) → StandsBehind out at b left w o
    → Accepted (WholeWritten out at (b ++ (list_end_bytes (list_end_means strings x) ++ write_trailer (Crc.register (Crc.register Crc.start b) (list_end_bytes (list_end_means strings x))))) (left ≡ 0)) (end_to o w strings x)
unfolding end_to
end_stands out at b left w o strings x s =
    let d = list_end_bytes (list_end_means strings x) in
    let c = d ++ write_trailer (Crc.register (Crc.register Crc.start b) d) in
    rw (s.place, s.state, s.bytes)
    (put_holds _ (put_in out at b) (at + length b) c _ (λ q.
    let p = passed_all (put_in out at b) (at + length b) (eqb left 0) _ c q in
    record { announced = eqb-true left 0 p.right; place = omega (arith, length-append b c); bytes = put_then out at b c s.room; state = refl; room = omega (arith, length-append b c, p.room, put_length out at b s.room) }))

-- the bytes of the calls, one behind the other, are those of the message
calls_message : (strings : List ℕ) (head : Head) (list : ListStart Span) (es : List (ListEntry Span)) (x : ListEnd Span)
    → let b = begun_bytes strings head list es in
    let d = list_end_bytes (list_end_means strings x) in
    b ++ (d ++ write_trailer (Crc.register (Crc.register Crc.start b) d)) ≡ write_message (message_means strings (whole_list head list es x))
unfolding write_message write_content write_end
calls_message strings head list es x =
    let a = write_start (start_means strings (start_with head (list_body list))) in
    let c = write_entries (map (entry_means strings) es) in
    let d = list_end_bytes (list_end_means strings x) in
    rw (← register_append Crc.start (a ++ c) d, ← append_assoc (a ++ c) d, append_assoc a c d)

-- a start, entries and an end, all accepted, leave exactly the whole message, and the entries were as many as announced
pub list_calls : (out : List ℕ) (at : ℕ) (strings : List ℕ) (head : Head) (list : ListStart Span) (es : List (ListEntry Span)) (x : ListEnd Span)
    → Accepted (WholeWritten out at (write_message (message_means strings (whole_list head list es x))) (list.num_vals ≡ length es)) (list_to our_writer out at strings head list es x)
unfolding list_to
list_calls out at strings head list es x =
    then_accepted _ _ (begun_stands out at strings head list es) (λ v p q.
    accept_weak
    (λ u r k.
    rw (← calls_message strings head list es x)
    (record { announced = omega (arith, q.0, k.announced); place = k.place; bytes = k.bytes; state = k.state; room = k.room }))
    (end_stands out at (begun_bytes strings head list es) (list.num_vals - length es) v p strings x q.1))

-- an accepted call of which something holds wherever it is accepted
taken_accepted : {A : Type 0} {P Q : A → List ℕ → Type 0} (l : AfterWrite A) → TakenWith Q l → Accepted P l → TakenWith P l
taken_accepted {A} {P} l t h = record { writer = t.writer; output = t.output; is = t.is; has = let k : Accepted P (record { answer = to t.writer; output = t.output }) = rw t.is at h in k.holds }

then_taken : {A : Type 0} {P Q : A → List ℕ → Type 0} (l : AfterWrite A) (k : A → List ℕ → AfterWrite A) → TakenWith P l → ((w : A) (o : List ℕ) → P w o → TakenWith Q (k w o)) → TakenWith Q (then_call l k)
unfolding then_call
then_taken l k h f = rw h.is (f h.writer h.output h.has)

start_taken : (out : List ℕ) (at : ℕ) (strings : List ℕ) (head : Head) (list : ListStart Span) → all_within strings (strings_of (start_event (start_with head (list_body list)))) ≡ true
    → at + length (write_start (start_means strings (start_with head (list_body list)))) ≤ length out
    → TakenWith (StandsBehind out at (write_start (start_means strings (start_with head (list_body list)))) list.num_vals) (start_to out at strings head list)
unfolding start_to
start_taken out at strings head list g h = taken_accepted _ (put_taken _ out at _ _ (rw g (free out at _ h))) (start_stands out at strings head list)

entry_taken : (out : List ℕ) (at : ℕ) (b : List ℕ) (left : ℕ) (w : ListWriter) (o strings : List ℕ) (e : ListEntry Span) → StandsBehind out at b left w o
    → all_within strings (strings_of (entry_event e)) ≡ true → 1 ≤ left → at + length (b ++ write_entry (entry_means strings e)) ≤ length out
    → TakenWith (λ v p. (1 ≤ left) × StandsBehind out at (b ++ write_entry (entry_means strings e)) (left - 1) v p) (entry_to o w strings e)
unfolding entry_to
entry_taken out at b left w o strings e s g i h =
    let c = write_entry (entry_means strings e) in
    taken_accepted _
    (put_taken _ o w.place c _ (rw (s.place, s.state, s.bytes, lt-ltb 0 left i, g) (free (put_in out at b) (at + length b) c (omega (arith, h, length-append b c, put_length out at b s.room)))))
    (entry_stands out at b left w o strings e s)

end_taken : (out : List ℕ) (at : ℕ) (b : List ℕ) (left : ℕ) (w : ListWriter) (o strings : List ℕ) (x : ListEnd Span) → StandsBehind out at b left w o → left ≡ 0
    → all_within strings (strings_of (end_event x)) ≡ true
    → let d = list_end_bytes (list_end_means strings x) in
    let c = d ++ write_trailer (Crc.register (Crc.register Crc.start b) d) in
    at + length (b ++ c) ≤ length out → TakenWith (WholeWritten out at (b ++ c) (left ≡ 0)) (end_to o w strings x)
unfolding end_to
end_taken out at b left w o strings x s z g h =
    let d = list_end_bytes (list_end_means strings x) in
    let c = d ++ write_trailer (Crc.register (Crc.register Crc.start b) d) in
    taken_accepted _
    (put_taken _ o w.place _ _ (rw (s.place, s.state, s.bytes, eq-eqb left 0 z, g) (free (put_in out at b) (at + length b) c (omega (arith, h, length-append b c, put_length out at b s.room)))))
    (end_stands out at b left w o strings x s)

entries_taken : (es : List (ListEntry Span)) (out : List ℕ) (at : ℕ) (b : List ℕ) (left : ℕ) (w : ListWriter) (o strings : List ℕ) → StandsBehind out at b left w o
    → AllGood strings es → length es ≤ left → at + length (b ++ write_entries (map (entry_means strings) es)) ≤ length out
    → TakenWith (StandsBehind out at (b ++ write_entries (map (entry_means strings) es)) (left - length es)) (entries_to our_writer o w strings es)
unfolding entries_to write_entries
entries_taken [] out at b left w o strings s g i h =
    let z : left - 0 ≡ left = omega arith in
    record { writer = w; output = o; is = refl; has = rw (append-nil b, z) s }
entries_taken (e ∷ es) out at b left w o strings s g i h =
    let c = write_entry (entry_means strings e) in
    let r = write_entries (map (entry_means strings) es) in
    let z : left - 1 - length es ≡ left - suc (length es) = omega arith in
    let k : at + length (b ++ c ++ r) ≤ length out = rw (append_assoc b c r) h in
    then_taken _ _ (entry_taken out at b left w o strings e s g.0 (omega arith) (omega (arith, k, length-append (b ++ c) r))) (λ v p q.
    taken_weak (λ u t j. rw (← append_assoc b c r, ← z) j)
    (entries_taken es out at (b ++ c) (left - 1) v p strings q.1 g.1 (omega arith) k))

begun_taken : (out : List ℕ) (at : ℕ) (strings : List ℕ) (head : Head) (list : ListStart Span) (es : List (ListEntry Span))
    → all_within strings (strings_of (start_event (start_with head (list_body list)))) ≡ true → AllGood strings es → length es ≤ list.num_vals
    → at + length (begun_bytes strings head list es) ≤ length out
    → TakenWith (StandsBehind out at (begun_bytes strings head list es) (list.num_vals - length es)) (begun_to our_writer out at strings head list es)
unfolding begun_to
begun_taken out at strings head list es g₁ g₂ n h =
    let a = write_start (start_means strings (start_with head (list_body list))) in
    then_taken _ _ (start_taken out at strings head list g₁ (omega (arith, h, length-append a (write_entries (map (entry_means strings) es))))) (λ w o s.
    entries_taken es out at a list.num_vals w o strings s g₂ n h)

-- where the spans are good, the entries as many as announced and the whole message fits behind the place, every call is accepted
pub list_accepted : (out : List ℕ) (at : ℕ) (strings : List ℕ) (head : Head) (list : ListStart Span) (es : List (ListEntry Span)) (x : ListEnd Span)
    → all_within strings (strings_of (start_event (start_with head (list_body list)))) ≡ true → AllGood strings es → all_within strings (strings_of (end_event x)) ≡ true → list.num_vals ≡ length es
    → at + length (write_message (message_means strings (whole_list head list es x))) ≤ length out
    → TakenWith (WholeWritten out at (write_message (message_means strings (whole_list head list es x))) (list.num_vals ≡ length es)) (list_to our_writer out at strings head list es x)
unfolding list_to
list_accepted out at strings head list es x g₁ g₂ g₃ n h =
    let b = begun_bytes strings head list es in
    let d = list_end_bytes (list_end_means strings x) in
    let c = d ++ write_trailer (Crc.register (Crc.register Crc.start b) d) in
    let k : at + length (b ++ c) ≤ length out = rw (calls_message strings head list es x) h in
    let i : at + length b ≤ length out = omega (arith, k, length-append b c) in
    then_taken _ _ (begun_taken out at strings head list es g₁ g₂ (omega arith) i) (λ v p q.
    taken_weak (λ u r j. rw (← calls_message strings head list es x) (record { announced = n; place = j.place; bytes = j.bytes; state = j.state; room = j.room }))
    (end_taken out at b (list.num_vals - length es) v p strings x q (omega arith) g₃ k))

lone_bytes : (strings : List ℕ) (head : Head) (body : Body Span)
    → let a = write_start (start_means strings (start_with head body)) in a ++ write_trailer (Crc.register Crc.start a) ≡ write_message (message_means strings (lone_message head body))
unfolding write_message write_content write_entries write_end
lone_bytes strings head body = rw (append-nil (write_start (start_means strings (start_with head body))))

-- an open or a close in one call: refused or exactly the message
pub whole_call : (out : List ℕ) (at : ℕ) (strings : List ℕ) (head : Head) (body : Body Span)
    → let b = write_message (message_means strings (lone_message head body)) in
    whole_to out at strings head body ≡ put_or (write_refusal out at true (all_within strings (strings_of (start_event (start_with head body)))) b) out at b (at + length b)
unfolding whole_to
whole_call out at strings head body = rw (lone_bytes strings head body)
