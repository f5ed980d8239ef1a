-- Ours is a good reader of whole messages.
use mathlib.Core.Path.{◌≡◌, refl, sym, ap, ◌∙◌}
use mathlib.Core.List.{List, ◌++◌}
use mathlib.Core.Option.{Option}
use Prim.Native.Nat.{ℕ, ◌*◌, ◌/◌, ◌≤◌, ◌<◌}
use native.Mathlib.Omega.{arith}
use lib.ListN.{length, take, drop, length-append}
use lib.Seq.{length-take-le, take_at}
use borrow.Author.Tests.{le-ltb, lt-ltb}
use Rattle.refusals.specs.Numbers.{bad_state_no, input_too_long_no, too_many_entries_no, limit}
use Rattle.refusals.specs.Read.{Read, got, refused, Refusal, eof}
use Rattle.refusals.specs.declared.Span.{Span}
use Rattle.tlf.proofs.Ends.{tlf_end}
use Rattle.message.specs.Messages.{MessageStart, ListEnd}
use Rattle.whole.specs.Whole.{WholeMessage, whole_at, flat, whole_is, broken, refused_alone, AfterWhole, fill_to, read_to, Fair}
use Rattle.whole.specs.Answers.{after_whole}
use Rattle.whole.proofs.Outcomes.{WholeOutcome, too_long, place_beyond, broken_at, table_full, taken_whole, whole_outcome, not_broken, not_refused_alone, never_broken, same_number, same_refusal, says_so, rows_back, rest_stays, length_stays}
use Rattle.events.specs.Message.{Message, message_at}
use Rattle.events.proofs.Refuses.{message_refuses}
use Rattle.places.specs.Stands.{SameBefore}
use Rattle.places.proofs.Locates.{locates_taken, locates_broke}
use Rattle.places.proofs.Readers.{locates_message, readers}
use Rattle.one_call.specs.Readers.{our_whole_reader, RunsTo, AcceptedWhole, ReadAs, AcceptsExactly, Broken, RefusesAlike, WithRoom, RoomLast, GoodWholeReader}
use Rattle.one_call.proofs.Messages.{whole_alike, held_whole, locates_whole_message}
use Rattle.one_call.proofs.Sizes.{rows_long}
use Rattle.one_call.proofs.Runs.{runs_to, events_given, goes_behind, run_found}
use Rattle.one_call.proofs.Outcomes.{rows_count, next_read, got_or, never_both, lost_whole, lost_message, accepts, room_made}

-- ---- accepted exactly

takes : (s : List ℕ) (at : ℕ) (t : List ℕ) (next : ℕ) (m : Message Span) → Fair s at → RunsTo s at next m → 4 * length m.content.entries ≤ length t
    → (read_to s at t).answer ≡ whole_is m.start m.content.end (length m.content.entries) next
takes s at t next m h r room = by (whole_at s at) refl
  where
    found : message_at s at ≡ got m next
    found = run_found s at next m h r

    by : (x : Read WholeMessage) → whole_at s at ≡ x → (read_to s at t).answer ≡ whole_is m.start m.content.end (length m.content.entries) next
    by (got w n) e =
        let k = held_whole s at w n e in
        let q : got m next ≡ got k.message n = sym found ∙ k.is in
        let same : k.message ≡ m = sym (ap (got_or m) q) in
        let start : w.start ≡ m.start = sym k.start_is ∙ ap (λ (x : Message Span). x.start) same in
        let end : w.end ≡ m.content.end = sym k.end_is ∙ ap (λ (x : Message Span). x.content.end) same in
        let count : length w.rows ≡ length m.content.entries = rows_count s w.rows k.message.content.entries k.rows_are ∙ ap (λ (x : Message Span). length x.content.entries) same in
        let next_is : n ≡ next = sym (ap next_read q) in
        accepts s at t w n h e (omega arith) ∙ (λ i. whole_is (start i) (end i) (count i) (next_is i))
    by (refused f) e = absurd (never_both (sym found ∙ lost_message f (whole_alike s at) e))

-- what was found is what the answer says
read_as : (s : List ℕ) (at : ℕ) (t : List ℕ) (w : WholeMessage) (n : ℕ) → Fair s at → whole_at s at ≡ got w n → 4 * length w.rows ≤ length t
    → ReadAs s at t (flat w.rows ++ drop (4 * length w.rows) t) w.start w.end (length w.rows) n
read_as s at t w n h e room =
    let k = held_whole s at w n e in
    let ahead = k.ahead in
    let within = k.within in
    record {
      whole = k.message;
      runs = runs_to s at k.message n h ahead within k.is;
      events = events_given s at k.message n h (omega arith) k.is;
      goes_on_claim = goes_behind s at k.message n h ahead within k.is;
      start_is = k.start_is;
      end_is = k.end_is;
      count = sym (rows_count s w.rows k.message.content.entries k.rows_are);
      room = room;
      rows_are = rw (rows_back w.rows (drop (4 * length w.rows) t)) k.rows_are;
      first_entry = k.first_entry;
      last_ends = k.last_ends;
      begun = k.begun;
      chained = rw (rows_back w.rows (drop (4 * length w.rows) t)) k.chained;
      ended = k.ended;
      rest = rest_stays w.rows t;
      same_length = length_stays w.rows t room;
    }

only_takes : (s : List ℕ) (at : ℕ) (t : List ℕ) (a : AfterWhole) → WholeOutcome s at t a → (start : MessageStart Span) (end : Option (ListEnd Span)) (rows next : ℕ) → a.answer ≡ whole_is start end rows next
    → ReadAs s at t a.table start end rows next
only_takes s at t a (too_long h) start end rows next e = absurd (not_refused_alone e)
only_takes s at t a (place_beyond h k) start end rows next e = absurd (not_refused_alone e)
only_takes s at t a (broken_at h f q) start end rows next e = absurd (not_broken e)
only_takes s at t a (table_full h w n q l) start end rows next e = absurd (not_refused_alone e)
only_takes s at t a (taken_whole h w n q l) start end rows next e =
    let r = read_as s at t w n h q l in
    let y = says_so {w = w} e in
    rw (← y.start_is, ← y.end_is, ← y.rows_is, ← y.next_is) r

ours_exactly : AcceptsExactly our_whole_reader
ours_exactly = record { if = takes; only_if = λ s at t start end rows next h e. only_takes s at t (read_to s at t) (whole_outcome s at t) start end rows next e }

-- ---- refused alike

lost_at : (s : List ℕ) (at : ℕ) (t : List ℕ) (a : AfterWhole) → WholeOutcome s at t a → (f : Refusal) → a.answer ≡ broken f → message_at s at ≡ refused f
lost_at s at t a (too_long h) f e = absurd (never_broken e)
lost_at s at t a (place_beyond h k) f e = absurd (never_broken e)
lost_at s at t a (broken_at h g q) f e = lost_message f (whole_alike s at) (q ∙ ap refused (same_refusal e))
lost_at s at t a (table_full h w n q l) f e = absurd (never_broken e)
lost_at s at t a (taken_whole h w n q l) f e = absurd (not_broken (sym e))

fair_reads : (s : List ℕ) (at : ℕ) (t : List ℕ) → Fair s at → read_to s at t ≡ fill_to (whole_at s at) t
unfolding read_to
fair_reads s at t h = rw (le-ltb limit (length s) h.short, le-ltb (length s) at h.inside)

broken_by : (s : List ℕ) (at : ℕ) (t : List ℕ) (f : Refusal) → Fair s at → whole_at s at ≡ refused f → (read_to s at t).answer ≡ broken f
unfolding fill_to
broken_by s at t f h e = rw (fair_reads s at t h, e)

must_break : (s : List ℕ) (at : ℕ) (t : List ℕ) → Fair s at → ((next : ℕ) (m : Message Span) → RunsTo s at next m → ⊥) → Broken (read_to s at t)
must_break s at t h none_is = by (whole_at s at) refl
  where
    by : (x : Read WholeMessage) → whole_at s at ≡ x → Broken (read_to s at t)
    by (got w n) e = let k = held_whole s at w n e in absurd (none_is n k.message (runs_to s at k.message n h k.ahead k.within k.is))
    by (refused f) e = record { refusal = f; is = broken_by s at t f h e }

ours_alike : RefusesAlike our_whole_reader
ours_alike =
    record {
      first = λ s at t f h lt e.
          message_refuses s at at f (record { short = h.short; inside_input = h.inside; begun = omega arith; few = omega arith }) lt (lost_at s at t (read_to s at t) (whole_outcome s at t) f e);
      stands = λ s at t f h e. locates_broke (locates_message at) s f h.inside (lost_at s at t (read_to s at t) (whole_outcome s at t) f e);
      must = must_break;
      empty = λ s t h.
          broken_by s (length s) t (eof (length s)) (record { short = h; inside = omega arith })
          (lost_whole (eof (length s)) (whole_alike s (length s)) ((readers.message (length s)).passed s (eof (length s)) (tlf_end s (length s) (omega arith))));
    }

-- ---- room

-- a message that can be read, with whatever table
record Readable (s : List ℕ) (at : ℕ) : Type 0 where
  pub fair : Fair s at
  pub whole : WholeMessage
  pub next : ℕ
  pub is : whole_at s at ≡ got whole next

readable : (s : List ℕ) (at : ℕ) (t : List ℕ) (a : AfterWhole) → WholeOutcome s at t a → AcceptedWhole a → Readable s at
readable s at t a (too_long h) k = absurd (not_refused_alone k.is)
readable s at t a (place_beyond h i) k = absurd (not_refused_alone k.is)
readable s at t a (broken_at h f q) k = absurd (not_broken k.is)
readable s at t a (table_full h w n q l) k = absurd (not_refused_alone k.is)
readable s at t a (taken_whole h w n q l) k = record { fair = h; whole = w; next = n; is = q }

room_if : (s : List ℕ) (at : ℕ) (t : List ℕ) (a : AfterWhole) → Readable s at → WholeOutcome s at t a → (AcceptedWhole a → ⊥) → a.answer ≡ refused_alone too_many_entries_no
room_if s at t a r (too_long h) none_is = let f = r.fair in let p = f.short in absurd (omega arith)
room_if s at t a r (place_beyond h i) none_is = let f = r.fair in let p = f.inside in absurd (omega arith)
room_if s at t a r (broken_at h f q) none_is = absurd (never_both (sym r.is ∙ q))
room_if s at t a r (table_full h w n q l) none_is = refl
room_if s at t a r (taken_whole h w n q l) none_is = absurd (none_is (record { start = w.start; end = w.end; rows = length w.rows; next = n; is = refl }))

room_only : (s : List ℕ) (at : ℕ) (t : List ℕ) (a : AfterWhole) → WholeOutcome s at t a → a.answer ≡ refused_alone too_many_entries_no → WithRoom our_whole_reader s at
room_only s at t a (too_long h) e = let z = same_number e in absurd (omega (arith, z))
room_only s at t a (place_beyond h k) e = let z = same_number e in absurd (omega (arith, z))
room_only s at t a (broken_at h f q) e = absurd (never_broken (sym e))
room_only s at t a (table_full h w n q l) e = room_made s at w n h q
room_only s at t a (taken_whole h w n q l) e = absurd (not_refused_alone (sym e))

never_full : (s : List ℕ) (at : ℕ) (t : List ℕ) (a : AfterWhole) → WholeOutcome s at t a → 4 * (length s / 8) ≤ length t → a.answer ≡ refused_alone too_many_entries_no → ⊥
never_full s at t a (too_long h) room e = let z = same_number e in omega (arith, z)
never_full s at t a (place_beyond h k) room e = let z = same_number e in omega (arith, z)
never_full s at t a (broken_at h f q) room e = never_broken (sym e)
never_full s at t a (table_full h w n q l) room e =
    let k = held_whole s at w n q in
    let long = rows_long s k.first_entry k.last_ends w.rows k.message.content.entries k.chained k.rows_are in
    omega (arith, l, room, long, k.ended, k.within)
never_full s at t a (taken_whole h w n q l) room e = not_refused_alone (sym e)

ours_last : RoomLast our_whole_reader
ours_last =
    record {
      if = λ s at t w none_is. room_if s at t (read_to s at t) (readable s at w.table (read_to s at w.table) (whole_outcome s at w.table) w.accepted) (whole_outcome s at t) none_is;
      only_if = λ s at t e. room_only s at t (read_to s at t) (whole_outcome s at t) e;
      enough = λ s at t room e. never_full s at t (read_to s at t) (whole_outcome s at t) room e;
    }

-- ---- the table, and what follows

leaves_it : (s : List ℕ) (at : ℕ) (t : List ℕ) (a : AfterWhole) → WholeOutcome s at t a → (AcceptedWhole a → ⊥) → a.table ≡ t
leaves_it s at t a (too_long h) none_is = refl
leaves_it s at t a (place_beyond h k) none_is = refl
leaves_it s at t a (broken_at h f q) none_is = refl
leaves_it s at t a (table_full h w n q l) none_is = refl
leaves_it s at t a (taken_whole h w n q l) none_is = absurd (none_is (record { start = w.start; end = w.end; rows = length w.rows; next = n; is = refl }))

not_read : (s : List ℕ) (at : ℕ) (t : List ℕ) (a : AfterWhole) → WholeOutcome s at t a → (start : MessageStart Span) (end : Option (ListEnd Span)) (rows next : ℕ) → Fair s at → a.answer ≡ whole_is start end rows next
    → (l : List ℕ) → length (take next s ++ l) ≤ limit → read_to (take next s ++ l) at t ≡ read_to s at t
not_read s at t a (too_long h) start end rows next _ e l short = absurd (not_refused_alone e)
not_read s at t a (place_beyond h k) start end rows next _ e l short = absurd (not_refused_alone e)
not_read s at t a (broken_at h f q) start end rows next _ e l short = absurd (not_broken e)
not_read s at t a (table_full h w n q k) start end rows next _ e l short = absurd (not_refused_alone e)
not_read s at t a (taken_whole h w n q k) start end rows next _ e l short =
    let y = says_so {w = w} e in
    let v = locates_taken (locates_whole_message at) s w n h.inside q in
    let i = v.low in
    let j = v.high in
    let g = v.looked in
    let next_is = y.next_is in
    let cut = length-take-le next s (omega (arith, next_is)) in
    let same : SameBefore n s (take next s ++ l) = record { bytes = rw next_is (take_at (take next s) l next cut) } in
    let fair : Fair (take next s ++ l) at = record { short = short; inside = omega (arith, next_is, cut, length-append (take next s) l) } in
    fair_reads (take next s ++ l) at t fair ∙ ap (λ (r : Read WholeMessage). fill_to r t) (g.alike (take next s ++ l) same) ∙ sym (fair_reads s at t h)

long_first : (s : List ℕ) (at : ℕ) (t : List ℕ) → limit < length s → read_to s at t ≡ after_whole (refused_alone input_too_long_no) t
unfolding read_to
long_first s at t h = rw (lt-ltb limit (length s) h)

beyond_then : (s : List ℕ) (at : ℕ) (t : List ℕ) → length s ≤ limit → length s < at → read_to s at t ≡ after_whole (refused_alone bad_state_no) t
unfolding read_to
beyond_then s at t h k = rw (le-ltb limit (length s) h, lt-ltb (length s) at k)

pub ours_good : GoodWholeReader our_whole_reader
ours_good =
    record {
      accepts = ours_exactly;
      refuses = ours_alike;
      room_last = ours_last;
      leaves = λ s at t none_is. leaves_it s at t (read_to s at t) (whole_outcome s at t) none_is;
      rest = λ s at t start end rows next h e l short. not_read s at t (read_to s at t) (whole_outcome s at t) start end rows next h e l short;
      judges = record { long = long_first; beyond = beyond_then };
    }
