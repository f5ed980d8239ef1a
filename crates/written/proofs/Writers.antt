-- Ours does what every writer of messages must.
use mathlib.Core.Path.{◌≡◌, refl, sym, ap, ◌∙◌}
use mathlib.Core.List.{List, [], ◌∷◌, ◌++◌, map, append_assoc, append-nil}
use mathlib.Core.Bool.{Bool, true, false, cond, not}
use mathlib.Core.Option.{some, none}
use Prim.Native.Nat.{ℕ, suc, ◌+◌, ◌-◌, ◌≤◌, ◌<◌}
use native.Mathlib.Omega.{arith}
use native.Mathlib.Decide.{dec_le}
use lib.ListN.{length, take, drop, length-append}
use lib.Seq.{length-take-le, take_at, drop_at, drop-append_seam}
use lib.Dec.{ltb, eqb}
use borrow.Author.Tests.{ltb-false, le-ltb, ne_eqb, eq-eqb}
use Rattle.refusals.specs.Numbers.{bad_state_no, wrong_number_no, bad_span_no, output_too_short_no}
use Rattle.refusals.specs.Read.{got}
use Rattle.refusals.specs.declared.Span.{Span}
use Rattle.common.specs.Fields.{ListEntry}
use Rattle.message.specs.Messages.{ListStart, ListEnd, Body, open_body, close_body, list_body}
use Rattle.streaming.specs.Next.{start_event}
use Rattle.streaming.specs.Meaning.{entry_means, list_end_means, start_means, strings_of}
use Rattle.writer.specs.Calls.{put_in, write_refusal, WriteOutcome, to, not_written, AfterWrite, put_or, entry_due, end_due, all_within, start_with, whole_to, start_to, entry_to, end_to}
use Rattle.writer.specs.declared.Head.{Head}
use Rattle.writer.specs.declared.ListState.{ListState}
use Rattle.writer.specs.declared.ListState.TheVariants.{Entries}
use Rattle.writer.specs.declared.ListWriter.{ListWriter}
use Rattle.writer.proofs.Puts.{put_length}
use Rattle.events.specs.Message.{Message, message_at}
use Rattle.written.specs.Messages.{write_message, message_means}
use Rattle.written.specs.Fits.{StartFits, EntriesFit, ListEndFits, MessageFits}
use Rattle.written.specs.Calls.{Writer, our_writer, begun_to, list_to, lone_message, whole_list}
use Rattle.written.specs.Writers.{Accepted, RefusedWith, ExactlyIf, Back, WritesBack, ReadAlone, AloneFrom, ReadsAlone, PutsExactly, TakesWhatFits, Counts, FirstTrue, RefusesInOrder, GoodWriter}
use Rattle.written.proofs.Round.{message_back}
use Rattle.written.proofs.Calls.{then_accepted, accept_weak, put_holds, passed_all, taken_weak, first_true, StandsBehind, begun_stands, WholeWritten, list_calls, list_accepted, whole_call}

at_place : (s : List ℕ) {p q : ℕ} (n : ℕ) {x : Message Span} → p ≡ q → message_at s p ≡ got x (p + n) → message_at s q ≡ got x (q + n)
at_place s n e h = rw e at h

put_before : (out : List ℕ) (at : ℕ) (b : List ℕ) → at + length b ≤ length out → take at (put_in out at b) ≡ take at out
unfolding put_in
put_before out at b room = take_at (take at out) (b ++ drop (at + length b) out) at (length-take-le at out (omega arith))

put_behind : (out : List ℕ) (at : ℕ) (b : List ℕ) → at + length b ≤ length out → drop (at + length b) (put_in out at b) ≡ drop (at + length b) out
unfolding put_in
put_behind out at b room =
    let a = take at out in
    let d = drop (at + length b) out in
    let n : at + length b ≡ length (a ++ b) = omega (arith, length-append a b, length-take-le at out (omega arith)) in
    ap (λ (i : ℕ). drop i (a ++ (b ++ d))) n ∙ ap (λ (x : List ℕ). drop (length (a ++ b)) x) (sym (append_assoc a b d)) ∙ drop-append_seam (a ++ b) d

-- in an output of at most 1,048,576 bytes
pub put_here : (out : List ℕ) (at : ℕ) (m : Message (List ℕ)) → MessageFits m → length out ≤ 1048576 → at + length (write_message m) ≤ length out
    → Back m out at (at + length (write_message m)) (put_in out at (write_message m))
unfolding put_in
put_here out at m f h room =
    let b = write_message m in
    let n : length (take at out) ≡ at = length-take-le at out (omega arith) in
    let r = message_back m (take at out) (drop (at + length b) out) f (omega (arith, put_length out at b room)) in
    record { found = r.found; is = at_place _ (length b) n r.is; means = r.means; before = put_before out at b room; behind = put_behind out at b room; same_length = put_length out at b room }

put_back : (out : List ℕ) (at : ℕ) (m : Message (List ℕ)) (next : ℕ) (o : List ℕ) → MessageFits m → length out ≤ 1048576 → at + length (write_message m) ≤ length out
    → next ≡ at + length (write_message m) → o ≡ put_in out at (write_message m) → Back m out at next o
put_back out at m next o f h room place bytes = rw (place, bytes) (put_here out at m f h room)

pub map_length : {A B : Type 0} (f : A → B) (xs : List A) → length (map f xs) ≡ length xs
map_length f [] = refl
map_length f (x ∷ xs) = ap suc (map_length f xs)

-- what accepted calls wrote stands at the place where the start was written, and ends where the writer stands
pub calls_back : (out : List ℕ) (at : ℕ) (strings : List ℕ) (head : Head) (list : ListStart Span) (es : List (ListEntry Span)) (x : ListEnd Span)
    → StartFits (start_means strings (start_with head (list_body list))) → EntriesFit (map (entry_means strings) es) → ListEndFits (list_end_means strings x) → length out ≤ 1048576
    → Accepted (λ w o. Back (message_means strings (whole_list head list es x)) out at w.place o) (list_to our_writer out at strings head list es x)
calls_back out at strings head list es x f g i h =
    accept_weak
    (λ w o k.
    put_back out at (message_means strings (whole_list head list es x)) w.place o (record { start = f; content = (k.announced ∙ sym (map_length (entry_means strings) es), g, i) }) h k.room k.place k.bytes)
    (list_calls out at strings head list es x)

-- the same of an open or a close
whole_back : (out : List ℕ) (at : ℕ) (strings : List ℕ) (head : Head) (body : Body Span) → MessageFits (message_means strings (lone_message head body)) → length out ≤ 1048576
    → Accepted (λ next o. Back (message_means strings (lone_message head body)) out at next o) (whole_to out at strings head body)
whole_back out at strings head body f h =
    let m = message_means strings (lone_message head body) in
    rw (whole_call out at strings head body)
    (put_holds _ out at (write_message m) _ (λ e. let p = passed_all out at true _ _ e in put_here out at m f h p.room))

pub writes_back : WritesBack our_writer
writes_back =
    record {
      opens = λ out at strings head x f h. whole_back out at strings head (open_body x) (record { start = f; content = (refl, refl) }) h;
      closes = λ out at strings head x f h. whole_back out at strings head (close_body x) (record { start = f; content = (refl, refl) }) h;
      lists = calls_back;
    }

whole_puts : (out : List ℕ) (at : ℕ) (strings : List ℕ) (head : Head) (body : Body Span)
    → let b = write_message (message_means strings (lone_message head body)) in Accepted (λ next o. (next ≡ at + length b) × (o ≡ put_in out at b)) (whole_to out at strings head body)
whole_puts out at strings head body = rw (whole_call out at strings head body) (put_holds _ out at _ _ (λ e. (refl, refl)))

pub puts_exactly : PutsExactly our_writer
unfolding start_to entry_to end_to
puts_exactly =
    record {
      opens = λ out at strings head x. whole_puts out at strings head (open_body x);
      closes = λ out at strings head x. whole_puts out at strings head (close_body x);
      lists = λ out at strings head list es x. accept_weak (λ w o k. (k.place, k.bytes, k.announced)) (list_calls out at strings head list es x);
      starts = λ out at strings head list. put_holds _ out at _ _ (λ q. (refl, refl));
      adds = λ out w strings e. put_holds _ out w.place _ _ (λ q. (refl, refl));
      ends = λ out w strings x. put_holds _ out w.place _ _ (λ q. (refl, refl));
    }

whole_first : (out : List ℕ) (at : ℕ) (strings : List ℕ) (head : Head) (body : Body Span)
    → FirstTrue out at true (all_within strings (strings_of (start_event (start_with head body)))) (write_message (message_means strings (lone_message head body))) (whole_to out at strings head body)
whole_first out at strings head body = rw (whole_call out at strings head body) (first_true out at true _ _ _)

pub takes_what_fits : TakesWhatFits our_writer
takes_what_fits =
    record {
      opens = λ out at strings head x g h. let f = whole_first out at strings head (open_body x) in f.else refl g h;
      closes = λ out at strings head x g h. let f = whole_first out at strings head (close_body x) in f.else refl g h;
      lists = λ out at strings head list es x g₁ g₂ g₃ n h. taken_weak (λ w o k. tt) (list_accepted out at strings head list es x g₁ g₂ g₃ n h);
    }

pub refuses_in_order : RefusesInOrder our_writer
unfolding start_to entry_to end_to
refuses_in_order =
    record {
      opens = λ out at strings head x. whole_first out at strings head (open_body x);
      closes = λ out at strings head x. whole_first out at strings head (close_body x);
      starts = λ out at strings head list. first_true out at true _ _ _;
      adds = λ out w strings e. first_true out w.place (entry_due w.state) _ _ _;
      ends = λ out w strings x. first_true out w.place (end_due w.state) _ _ _;
    }

-- the part that was put at a place within the output
part_there : (out : List ℕ) (at : ℕ) (b : List ℕ) → at ≤ length out → take (at + length b - at) (drop at (put_in out at b)) ≡ b
unfolding put_in
part_there out at b h =
    let e : length b ≡ at + length b - at = omega arith in
    rw (drop_at (take at out) (b ++ drop (at + length b) out) at (length-take-le at out h)) (take_at b _ _ e)

-- nothing before it and nothing behind
message_alone : (m : Message (List ℕ)) → MessageFits m → length (write_message m) ≤ 1048576 → ReadAlone m (write_message m)
message_alone m f h =
    let r = message_back m [] [] f (omega (arith, h, ap length (append-nil (write_message m)))) in
    from (write_message m ++ []) (write_message m) r.found _ (append-nil (write_message m)) (omega arith) r.is r.means
  where
    from : (s b : List ℕ) (x : Message Span) (n : ℕ) → s ≡ b → n ≡ length b → message_at s 0 ≡ got x n → message_means s x ≡ m → ReadAlone m b
    from s b x n e l p q = record { found = x; is = rw (e, l) at p; means = rw e at q }

alone_there : (out : List ℕ) (at : ℕ) (m : Message (List ℕ)) (next : ℕ) (o : List ℕ) → MessageFits m → at ≤ length out → next ≡ at + length (write_message m) → o ≡ put_in out at (write_message m) → AloneFrom m at next o
alone_there out at m next o f h place bytes small =
    let e : take (next - at) (drop at o) ≡ write_message m = rw (place, bytes) (part_there out at (write_message m) h) in
    rw e (message_alone m f (omega (arith, place, small)))

refused_any : {A : Type 0} {P : A → List ℕ → Type 0} {n : ℕ} {out : List ℕ} {l : AfterWrite A} → RefusedWith n out l → Accepted P l
refused_any e = rw e (record { holds = tt })

-- a place beyond the output is refused, so what is accepted begins within
begins_within : {A : Type 0} {P : A → List ℕ → Type 0} {l : AfterWrite A} (out : List ℕ) (at : ℕ) → (length out < at → Accepted P l) → (at ≤ length out → Accepted P l) → Accepted P l
begins_within {A} {P} {l} out at f g = by (dec_le at (length out))
  where
    by : Dec (at ≤ length out) → Accepted P l
    by (yes h) = g h
    by (no h) = f (omega arith)

list_beyond : {P : ListWriter → List ℕ → Type 0} (W : Writer) → RefusesInOrder W → (out : List ℕ) (at : ℕ) (strings : List ℕ) (head : Head) (list : ListStart Span) (es : List (ListEntry Span)) (x : ListEnd Span) → length out < at
    → Accepted P (list_to W out at strings head list es x)
unfolding list_to begun_to
list_beyond W order out at strings head list es x h =
    let q = order.starts out at strings head list in
    let never : Accepted (λ w o. ⊥) (W.starts out at strings head list) = refused_any (q.beyond h) in
    then_accepted _ _ (then_accepted {Q = λ w o. ⊥} _ _ never (λ w o z. absurd z)) (λ w o z. absurd z)

-- of any writer that puts exactly the bytes, and refuses a place beyond the output
pub reads_alone : (W : Writer) → PutsExactly W → RefusesInOrder W → ReadsAlone W
reads_alone W exactly order =
    record {
      opens = λ out at strings head x f.
          let q = order.opens out at strings head x in
          begins_within out at (λ h. refused_any (q.beyond h)) (λ h. accept_weak (λ next o k. alone_there out at _ next o (record { start = f; content = (refl, refl) }) h k.0 k.1) (exactly.opens out at strings head x));
      closes = λ out at strings head x f.
          let q = order.closes out at strings head x in
          begins_within out at (λ h. refused_any (q.beyond h)) (λ h. accept_weak (λ next o k. alone_there out at _ next o (record { start = f; content = (refl, refl) }) h k.0 k.1) (exactly.closes out at strings head x));
      lists = λ out at strings head list es x f g i.
          begins_within out at (λ h. list_beyond W order out at strings head list es x h) (λ h.
          accept_weak (λ w o k. alone_there out at _ w.place o (record { start = f; content = (k.2 ∙ sym (map_length (entry_means strings) es), g, i) }) h k.0 k.1) (exactly.lists out at strings head list es x));
    }

abbrev pub outcome_no : {A : Type 0} → WriteOutcome A → ℕ
outcome_no (to w) = 0
outcome_no (not_written n) = n

abbrev pub call_no : {A : Type 0} → AfterWrite A → ℕ
call_no l = outcome_no l.answer

due_by : {A : Type 0} (out : List ℕ) (at : ℕ) (b : List ℕ) (a : A) (p due good q : Bool)
    → RefusedWith wrong_number_no out (put_or (cond p (some bad_state_no) (cond (not due) (some wrong_number_no) (cond (not good) (some bad_span_no) (cond q (some output_too_short_no) none)))) out at b a) → due ≡ false
unfolding put_or
due_by out at b a p false good q e = refl
due_by out at b a true true good q e = absurd (omega (arith, ap call_no e))
due_by out at b a false true false q e = absurd (omega (arith, ap call_no e))
due_by out at b a false true true true e = absurd (omega (arith, ap call_no e))
due_by out at b a false true true false e = absurd (omega (arith, ap call_no e))

-- one that is due is never 17
not_due_17 : {A : Type 0} (out : List ℕ) (at : ℕ) (due good : Bool) (b : List ℕ) (a : A) → RefusedWith wrong_number_no out (put_or (write_refusal out at due good b) out at b a) → due ≡ false
unfolding write_refusal
not_due_17 out at due good b a e = due_by out at b a (ltb (length out) at) due good (ltb (length out - at) (length b)) e

entry_17 : (o : List ℕ) (w : ListWriter) (more : List ℕ) (e : ListEntry Span) → w.place ≤ length o → ExactlyIf (RefusedWith wrong_number_no o (entry_to o w more e)) (entry_due w.state ≡ false)
unfolding entry_to
entry_17 o w more e h = record { if = λ d. let f = first_true o w.place (entry_due w.state) _ _ _ in f.not_due h d; only_if = λ q. not_due_17 o w.place (entry_due w.state) _ _ _ q }

end_17 : (o : List ℕ) (w : ListWriter) (more : List ℕ) (x : ListEnd Span) → w.place ≤ length o → ExactlyIf (RefusedWith wrong_number_no o (end_to o w more x)) (end_due w.state ≡ false)
unfolding end_to
end_17 o w more x h = record { if = λ d. let f = first_true o w.place (end_due w.state) _ _ _ in f.not_due h d; only_if = λ q. not_due_17 o w.place (end_due w.state) _ _ _ q }

both_ways : {P Q R : Type 0} → ExactlyIf P Q → (R → Q) → (Q → R) → ExactlyIf P R
both_ways k f g = record { if = λ r. k.if (f r); only_if = λ p. g (k.only_if p) }

behind_within : {out : List ℕ} {at : ℕ} {b : List ℕ} {left : ℕ} {w : ListWriter} {o : List ℕ} → StandsBehind out at b left w o → w.place ≤ length o
behind_within {out} {at} {b} {left} {w} {o} s = omega (arith, s.place, s.room, ap length s.bytes, put_length out at b s.room)

written_within : {out : List ℕ} {at : ℕ} {b : List ℕ} {many : Type 0} {w : ListWriter} {o : List ℕ} → WholeWritten out at b many w o → w.place ≤ length o
written_within {out} {at} {b} {many} {w} {o} s = omega (arith, s.place, s.room, ap length s.bytes, put_length out at b s.room)

none_due : (left crc k n : ℕ) (st : ListState) → st ≡ Entries left crc → left ≡ n - k → k ≤ n → ExactlyIf (entry_due st ≡ false) (k ≡ n)
none_due left crc k n st e l h =
    record { if = λ q. rw e (le-ltb 0 left (omega arith)); only_if = λ d. let z : ltb 0 left ≡ false = rw e at d in omega (arith, ltb-false 0 left z) }

some_due : (left crc k n : ℕ) (st : ListState) → st ≡ Entries left crc → left ≡ n - k → k ≤ n → ExactlyIf (end_due st ≡ false) (k < n)
some_due left crc k n st e l h =
    record { if = λ q. rw e (ne_eqb left 0 (λ z. omega arith)); only_if = λ d. let z : eqb left 0 ≡ false = rw e at d in from left k n l h z (dec_le n k) }
  where
    from : (left k n : ℕ) → left ≡ n - k → k ≤ n → eqb left 0 ≡ false → Dec (n ≤ k) → k < n
    from left k n l h z (yes q) = let t : eqb left 0 ≡ true = eq-eqb left 0 (omega arith) in absurd (let x : ◌≡◌ {A = ℕ} 0 1 = cc in omega arith)
    from left k n l h z (no q) = omega arith

pub counts_entries : Counts our_writer
counts_entries =
    record {
      entries = λ out at strings head list es more e.
          accept_weak (λ w o q. let s = q.1 in let d = none_due _ _ (length es) list.num_vals w.state s.state refl q.0 in both_ways (entry_17 o w more e (behind_within s)) d.if d.only_if)
          (begun_stands out at strings head list es);
      ends = λ out at strings head list es more x.
          accept_weak (λ w o q. let s = q.1 in let d = some_due _ _ (length es) list.num_vals w.state s.state refl q.0 in both_ways (end_17 o w more x (behind_within s)) d.if d.only_if)
          (begun_stands out at strings head list es);
      behind = λ out at strings head list es x more e y.
          accept_weak (λ w o s. let a = entry_17 o w more e (written_within s) in let b = end_17 o w more y (written_within s) in (a.if (ap entry_due s.state), b.if (ap end_due s.state)))
          (list_calls out at strings head list es x);
    }

pub good_writer : GoodWriter our_writer
good_writer = record { back = writes_back; alone = reads_alone our_writer puts_exactly refuses_in_order; exactly = puts_exactly; takes = takes_what_fits; counts = counts_entries; order = refuses_in_order }
