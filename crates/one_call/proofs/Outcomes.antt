-- What was found, and a call that is accepted.
use mathlib.Core.Path.{◌≡◌, refl, ap}
use mathlib.Core.List.{List, [], ◌∷◌}
use Prim.Native.Nat.{ℕ, suc, ◌*◌, ◌/◌, ◌≤◌}
use native.Mathlib.Omega.{arith}
use lib.ListN.{length, replicate, length-replicate}
use borrow.Author.Tests.{le-ltb}
use Rattle.refusals.specs.Numbers.{limit}
use Rattle.refusals.specs.Read.{Read, got, refused, Refusal}
use Rattle.refusals.specs.declared.Span.{Span}
use Rattle.common.specs.Fields.{ListEntry}
use Rattle.whole.specs.Whole.{EntryRow, WholeMessage, whole_at, whole_is, fill_to, read_to, Fair}
use Rattle.events.specs.Message.{Message}
use Rattle.places.proofs.Seen.{is_got}
use Rattle.one_call.specs.Readers.{RowsAre, WithRoom, our_whole_reader}
use Rattle.one_call.proofs.Messages.{WholeAlike, both_held, both_lost}

-- ---- what was found

pub rows_count : (s : List ℕ) (rows : List EntryRow) (es : List (ListEntry Span)) → RowsAre s rows es → length rows ≡ length es
rows_count s [] [] h = refl
rows_count s (r ∷ rows) (e ∷ es) h = ap suc (rows_count s rows es h.1)
rows_count s [] (e ∷ es) h = absurd h
rows_count s (r ∷ rows) [] h = absurd h

abbrev pub next_read : {A : Type 0} → Read A → ℕ
next_read (got a n) = n
next_read (refused f) = 0

abbrev pub got_or : {A : Type 0} → A → Read A → A
got_or d (got a n) = a
got_or d (refused f) = d

pub never_both : {A : Type 0} {a : A} {n : ℕ} {f : Refusal} → got a n ≡ refused f → ⊥
never_both e = let z : ◌≡◌ {A = ℕ} 1 0 = ap is_got e in omega (arith, z)

abbrev pub fault_or : {A : Type 0} → Refusal → Read A → Refusal
fault_or d (got a n) = d
fault_or d (refused f) = f

-- they refuse alike
pub lost_whole : {s : List ℕ} {at : ℕ} {r : Read WholeMessage} {x : Read (Message Span)} (f : Refusal) → WholeAlike s at r x → x ≡ refused f → r ≡ refused f
lost_whole f (both_held start rows es end first last next h p c o a i) e = absurd (never_both e)
lost_whole f (both_lost g) e = ap refused (ap (fault_or g) e)

pub lost_message : {s : List ℕ} {at : ℕ} {r : Read WholeMessage} {x : Read (Message Span)} (f : Refusal) → WholeAlike s at r x → r ≡ refused f → x ≡ refused f
lost_message f (both_held start rows es end first last next h p c o a i) e = absurd (never_both e)
lost_message f (both_lost g) e = ap refused (ap (fault_or g) e)

-- ---- a call that is accepted

pub accepts : (s : List ℕ) (at : ℕ) (t : List ℕ) (w : WholeMessage) (n : ℕ) → Fair s at → whole_at s at ≡ got w n → 4 * length w.rows ≤ length t
    → (read_to s at t).answer ≡ whole_is w.start w.end (length w.rows) n
unfolding read_to fill_to
accepts s at t w n h e room = rw (le-ltb limit (length s) h.short, le-ltb (length s) at h.inside, e, le-ltb (length t / 4) (length w.rows) (omega arith))

pub room_made : (s : List ℕ) (at : ℕ) (w : WholeMessage) (n : ℕ) → Fair s at → whole_at s at ≡ got w n → WithRoom our_whole_reader s at
room_made s at w n h e =
    let t : List ℕ = replicate (4 * length w.rows) 0 in
    record { table = t; accepted = record { start = w.start; end = w.end; rows = length w.rows; next = n; is = accepts s at t w n h e (omega (arith, length-replicate {A = ℕ} (4 * length w.rows) 0)) } }
