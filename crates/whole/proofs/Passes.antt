-- The two passes find what the definition says: the first refuses where it does, and the rows of the second are its rows.
use mathlib.Core.Path.{◌≡◌, refl, sym, ◌∙◌}
use mathlib.Core.Bool.{Bool, true, false, cond}
use mathlib.Core.List.{List, [], ◌∷◌, ◌++◌}
use mathlib.Core.Option.{Option, some, none}
use Prim.Native.Nat.{ℕ, zero, suc, ◌-◌, ◌*◌, ◌/◌, ◌≤◌}
use native.Mathlib.Omega.{arith}
use borrow.Author.Tests.{ltb-false}
use lib.ListN.{length, drop}
use lib.Dec.{ltb}
use Rattle.refusals.specs.Numbers.{too_many_entries_no}
use Rattle.refusals.specs.Read.{Read, got, refused, Refusal, then, many}
use Rattle.refusals.specs.declared.Span.{Span}
use Rattle.refusals.proofs.Read.{Ok}
use Rattle.common.specs.Fields.{ListEntry, entry_at}
use Rattle.message.specs.Messages.{MessageStart, ListStart, ListEnd, Body, open_body, close_body, list_body, start_at, list_end_at}
use Rattle.trailer.specs.Trailer.{trailer_at}
use Rattle.whole.specs.Whole.{EntryRow, row_at, rows_at, WholeMessage, inside_at, whole_at, flat, whole_is, broken, refused_alone, AfterWhole, fill_to}
use Rattle.whole.specs.Cut.{entries_of, past_entries, list_end_behind, end_at, PassedMessage, pass_at, store_rows}
use Rattle.whole.proofs.Rows.{RowsStored, no_rows, rows_stored, rows_first}

-- ---- past the entries

past_one : (at : ℕ) (r : Read (ListEntry Span)) (p : ℕ → Read (Unit {0})) (q : ℕ → Read (List EntryRow)) → ((n : ℕ) → p n ≡ then (q n) λ rows m. got (tt {0}) m)
    → then r (λ e next. p next) ≡ then (then (then r λ e next. got (record { name = e.obj_name; entry = record { start = at; len = next - at } }) next) λ row next. then (q next) λ more end. got (row ∷ more) end) λ rows m. got (tt {0}) m
unfolding then
past_one at (refused f) p q h = refl
past_one at (got e next) p q h = h next ∙ again (q next)
  where
    again : (x : Read (List EntryRow)) → then x (λ rows m. got (tt {0}) m) ≡ then (then x λ more end. got (record { name = e.obj_name; entry = record { start = at; len = next - at } } ∷ more) end) λ rows m. got (tt {0}) m
    again (got rows m) = refl
    again (refused f) = refl

past_none : (at : ℕ) → ◌≡◌ {A = Read (Unit {0})} (got (tt {0}) at) (then {A = List EntryRow} (got [] at) λ rows m. got (tt {0}) m)
unfolding then
past_none at = refl

past_is : (n : ℕ) (s : List ℕ) (at : ℕ) → past_entries n s at ≡ then (rows_at n s at) λ rows m. got (tt {0}) m
unfolding past_entries many row_at
past_is zero s at = past_none at
past_is (suc n) s at = past_one at (entry_at s at) (past_entries n s) (rows_at n s) (past_is n s)

-- ---- behind the start

-- what the first pass finds there, and what the definition does
data InsidePass (start : MessageStart Span) (b : Body Span) (s : List ℕ) (behind : ℕ) : Read (Option (ListEnd Span)) → Read WholeMessage → Type 0 where
  held_inside : (end : Option (ListEnd Span)) (rows : List EntryRow) (next : ℕ) → RowsStored (entries_of b) s behind rows → InsidePass start b s behind (got end next) (got (record { start = start; rows = rows; end = end }) next)
  lost_inside : (f : Refusal) → InsidePass start b s behind (refused f) (refused f)

list_inside : (start : MessageStart Span) (b : ListStart Span) (s : List ℕ) (behind : ℕ) (r : Read (List EntryRow)) → Ok (λ rows m. RowsStored b.num_vals s behind rows) r
    → InsidePass start (list_body b) s behind (then (then r λ rows m. got (tt {0}) m) λ past n. then (list_end_at s n) λ end m. got (some end) m)
    (then r λ rows n. then (list_end_at s n) λ end m. got (record { start = start; rows = rows; end = some end }) m)
unfolding then
list_inside start b s behind (refused f) h = lost_inside f
list_inside start b s behind (got rows n) h = by (list_end_at s n)
  where
    by : (x : Read (ListEnd Span)) → InsidePass start (list_body b) s behind (then x λ end m. got (some end) m) (then x λ end m. got (record { start = start; rows = rows; end = some end }) m)
    by (got end m) = held_inside (some end) rows m h.holds
    by (refused f) = lost_inside f

inside_is : (start : MessageStart Span) (b : Body Span) (s : List ℕ) (behind : ℕ) → InsidePass start b s behind (end_at b s behind) (inside_at start b s behind)
unfolding end_at list_end_behind inside_at
inside_is start (open_body b) s behind = held_inside none [] behind (no_rows s behind)
inside_is start (close_body b) s behind = held_inside none [] behind (no_rows s behind)
inside_is start (list_body b) s behind = rw (past_is b.num_vals s behind) (list_inside start b s behind _ (rows_stored b.num_vals s behind))

-- ---- the message

pub data WholePass (s : List ℕ) : Read PassedMessage → Read WholeMessage → Type 0 where
  held_passed : (start : MessageStart Span) (behind : ℕ) (end : Option (ListEnd Span)) (rows : List EntryRow) (next : ℕ) → RowsStored (entries_of start.message_body) s behind rows
      → WholePass s (got (record { start = start; behind = behind; end = end }) next) (got (record { start = start; rows = rows; end = end }) next)
  lost_passed : (f : Refusal) → WholePass s (refused f) (refused f)

trailer_passes : (s : List ℕ) (at : ℕ) (start : MessageStart Span) (behind : ℕ) {r : Read (Option (ListEnd Span))} {w : Read WholeMessage} → InsidePass start start.message_body s behind r w
    → WholePass s (then r λ end n. then (trailer_at s at n) λ trailer m. got (record { start = start; behind = behind; end = end }) m) (then w λ x n. then (trailer_at s at n) λ trailer m. got x m)
unfolding then
trailer_passes s at start behind (lost_inside f) = lost_passed f
trailer_passes s at start behind (held_inside end rows n h) = by (trailer_at s at n)
  where
    by : (x : Read (Unit {0})) → WholePass s (then x λ trailer m. got (record { start = start; behind = behind; end = end }) m) (then x λ trailer m. got (record { start = start; rows = rows; end = end }) m)
    by (got u m) = held_passed start behind end rows m h
    by (refused f) = lost_passed f

start_passes : (s : List ℕ) (at : ℕ) (x : Read (MessageStart Span))
    → WholePass s (then x λ start n₁. then (end_at start.message_body s n₁) λ end n₂. then (trailer_at s at n₂) λ trailer n₃. got (record { start = start; behind = n₁; end = end }) n₃)
    (then x λ start n₁. then (inside_at start start.message_body s n₁) λ w n₂. then (trailer_at s at n₂) λ trailer n₃. got w n₃)
unfolding then
start_passes s at (got start n) = trailer_passes s at start n (inside_is start start.message_body s n)
start_passes s at (refused f) = lost_passed f

pub pass_is : (s : List ℕ) (at : ℕ) → WholePass s (pass_at s at) (whole_at s at)
unfolding pass_at whole_at
pass_is s at = start_passes s at (start_at s at)

-- ---- the answer

-- the answer out of the first pass, and the table by the second
unfoldable pub fill_from : Read PassedMessage → List ℕ → List ℕ → AfterWhole
fill_from (refused f) s t = record { answer = broken f; table = t }
fill_from (got p next) s t =
    let n = entries_of p.start.message_body in
    cond (ltb (length t / 4) n) (record { answer = refused_alone too_many_entries_no; table = t })
    (record { answer = whole_is p.start p.end n next; table = store_rows n s p.behind 0 t })

fill_passes : (s t : List ℕ) {p : Read PassedMessage} {w : Read WholeMessage} → WholePass s p w → fill_from p s t ≡ fill_to w t
unfolding fill_from fill_to
fill_passes s t (lost_passed f) = refl
fill_passes s t (held_passed start behind end rows next h) = rw (← h.count) (by (ltb (length t / 4) (length rows)) refl)
  where
    by : (x : Bool) → ltb (length t / 4) (length rows) ≡ x
        → ◌≡◌ {A = AfterWhole} (cond x (record { answer = refused_alone too_many_entries_no; table = t }) (record { answer = whole_is start end (length rows) next; table = store_rows (length rows) s behind 0 t }))
        (cond x (record { answer = refused_alone too_many_entries_no; table = t }) (record { answer = whole_is start end (length rows) next; table = flat rows ++ drop (4 * length rows) t }))
    by true e = refl
    by false e =
        let room : length rows ≤ length t / 4 = ltb-false _ _ e in
        let m = (rw (← h.count) at (h.stored 0 t)) ∙ rows_first t rows (omega arith) in
        λ i. record { answer = whole_is start end (length rows) next; table = m i }

pub fill_is : (s : List ℕ) (at : ℕ) (t : List ℕ) → fill_to (whole_at s at) t ≡ fill_from (pass_at s at) s t
fill_is s at t = sym (fill_passes s t (pass_is s at))
