-- What the contracts rule out: each wrong reading of docs/WRONG-READINGS.md that is told here is an outcome that the definition does not allow, at a small input.
use mathlib.Core.Path.{◌≡◌, ap}
use mathlib.Core.List.{List, [], ◌∷◌}
use Prim.Native.Nat.{ℕ, ◌<◌}
use native.Mathlib.Omega.{arith}
use lib.ListN.{length}
use borrow.Author.Tests.{lt-ltb}
use Rattle.refusals.specs.Numbers.{limit}
use Rattle.refusals.specs.Read.{then, guard, need, byte_at}
use Rattle.tlf.specs.Lengths.{tlf_at, length_from, less_own, list_of_at}
use Rattle.common.specs.Fields.{entry_at}
use Rattle.message.specs.Messages.{start_at}
use Rattle.trailer.proofs.Ends.{trailer_end}
use Rattle.streaming.specs.Next.{Said, event, no_event, failed, alone, ReaderAfter, onward, begin_at, trailer_next, entry_next, step_at, next_at}
use Rattle.streaming.specs.Answers.{reader_after}
use Rattle.streaming.specs.declared.Next.{Next}

-- the number of a refusal; 100 for an event, 101 for none
said_no : Said → ℕ
said_no (event e) = 100
said_no no_event = 101
said_no (failed f) = f.number
said_no (alone n) = n

-- ---- BadState, clause by clause

-- place 1 of no input
place_beyond_the_input_is_good : (r : Next) → said_no (reader_after r).answer ≡ 101 → reader_after r ≡ next_at [] 1 0 0 → ⊥
unfolding next_at said_no
place_beyond_the_input_is_good r e h = let n : ◌≡◌ {A = ℕ} (said_no (reader_after r).answer) 4 = ap (λ (a : ReaderAfter). said_no a.answer) h in omega (arith, n, e)

-- a message that begins at 1, read at 0
start_beyond_the_place_is_good : (r : Next) → said_no (reader_after r).answer ≡ 11 → reader_after r ≡ next_at (0x00 ∷ []) 0 1 0 → ⊥
unfolding next_at said_no
start_beyond_the_place_is_good r e h = let n : ◌≡◌ {A = ℕ} (said_no (reader_after r).answer) 4 = ap (λ (a : ReaderAfter). said_no a.answer) h in omega (arith, n, e)

-- more pending than the longest list has, with its end and trailer
pending_over_its_limit_is_good : (r : Next) → said_no (reader_after r).answer ≡ 10 → reader_after r ≡ next_at [] 0 0 4294967298 → ⊥
unfolding next_at said_no
pending_over_its_limit_is_good r e h = let n : ◌≡◌ {A = ℕ} (said_no (reader_after r).answer) 4 = ap (λ (a : ReaderAfter). said_no a.answer) h in omega (arith, n, e)

-- as many as it has
pending_at_its_limit_is_bad : (r : Next) → said_no (reader_after r).answer ≡ 4 → reader_after r ≡ next_at [] 0 0 4294967297 → ⊥
unfolding next_at step_at entry_next onward entry_at list_of_at tlf_at byte_at then guard said_no
pending_at_its_limit_is_bad r e h = let n : ◌≡◌ {A = ℕ} (said_no (reader_after r).answer) 10 = ap (λ (a : ReaderAfter). said_no a.answer) h in omega (arith, n, e)

-- ---- lengths

-- an input that is too long is 9, whatever the numbers are
bad_state_before_too_long : (r : Next) (s : List ℕ) (at start pending : ℕ) → limit < length s → said_no (reader_after r).answer ≡ 4 → reader_after r ≡ next_at s at start pending → ⊥
unfolding next_at said_no
bad_state_before_too_long r s at start pending long e h =
    let n : ◌≡◌ {A = ℕ} (said_no (reader_after r).answer) 9 = rw (lt-ltb limit (length s) long) at (ap (λ (a : ReaderAfter). said_no a.answer) h) in
    omega (arith, n, e)

-- and none is read
long_input_read : (r : Next) (s : List ℕ) → limit < length s → said_no (reader_after r).answer ≡ 11 → reader_after r ≡ next_at s 0 0 0 → ⊥
unfolding next_at said_no
long_input_read r s long e h =
    let n : ◌≡◌ {A = ℕ} (said_no (reader_after r).answer) 9 = rw (lt-ltb limit (length s) long) at (ap (λ (a : ReaderAfter). said_no a.answer) h) in
    omega (arith, n, e)

-- one of the limit is: at its end there is no event
input_at_the_limit_refused : (r : Next) (s : List ℕ) → length s ≡ limit → said_no (reader_after r).answer ≡ 9 → reader_after r ≡ next_at s 1048576 0 0 → ⊥
unfolding next_at step_at begin_at said_no
input_at_the_limit_refused r s is e h =
    let n : ◌≡◌ {A = ℕ} (said_no (reader_after r).answer) 101 = rw is at (ap (λ (a : ReaderAfter). said_no a.answer) h) in
    omega (arith, n, e)

-- ---- behind a refusal

-- 00 00: the first 00 is refused, and the second is not read either
rest_not_dropped : (r : Next) → r.reader.place ≡ 1 → reader_after r ≡ next_at (0x00 ∷ 0x00 ∷ []) 0 0 0 → ⊥
unfolding next_at step_at begin_at onward start_at list_of_at tlf_at byte_at then guard need length_from less_own
rest_not_dropped r e h = let n : ◌≡◌ {A = ℕ} r.reader.place 2 = ap (λ (a : ReaderAfter). a.place) h in omega (arith, n, e)

-- refused at the trailer, the message is not over: every later call is 10
refusal_inside_ends_the_message : (r : Next) → r.reader.pending ≡ 0 → reader_after r ≡ next_at [] 0 0 1 → ⊥
unfolding next_at step_at trailer_next onward
refusal_inside_ends_the_message r e h =
    let n : ◌≡◌ {A = ℕ} r.reader.pending 1 = rw (trailer_end [] 0 0 (omega arith)) at (ap (λ (a : ReaderAfter). a.pending) h) in
    omega (arith, n, e)
