-- What the loops keep: past so many entries, or rows stored so far, what is left to do makes the whole.
use mathlib.Core.Path.{◌≡◌, ap, ◌∙◌}
use mathlib.Core.List.{List, [], ◌∷◌}
use Prim.Native.Nat.{ℕ, suc, ◌+◌, ◌-◌, ◌*◌, ◌≤◌, ◌<◌}
use native.Mathlib.Omega.{arith}
use lib.ListN.{length}
use lib.Seq.{length-sets}
use Rattle.refusals.specs.Read.{got, refused, Refusal, then}
use Rattle.refusals.specs.declared.Span.{Span}
use Rattle.refusals.proofs.Read.{ok_at}
use Rattle.common.specs.Fields.{ListEntry, entry_at}
use Rattle.common.proofs.Fields.{entry_found}
use Rattle.whole.specs.Whole.{EntryRow, row_at}
use Rattle.whole.specs.Cut.{past_entries, put_row, or_leave, store_rows}

-- ---- past the entries

pub past_next : (n i : ℕ) (s : List ℕ) (at : ℕ) (e : ListEntry Span) (next : ℕ) → i < n → got e next ≡ entry_at s at → past_entries (n - (i + 1)) s next ≡ past_entries (n - i) s at
unfolding past_entries then
past_next n i s at e next h q = let m : n - i ≡ suc (n - (i + 1)) = omega arith in rw (m, ← q)

pub past_refused : (n i : ℕ) (s : List ℕ) (at : ℕ) (f : Refusal) → i < n → refused f ≡ entry_at s at → refused f ≡ past_entries (n - i) s at
unfolding past_entries then
past_refused n i s at f h q = let m : n - i ≡ suc (n - (i + 1)) = omega arith in rw (m, ← q)

pub past_all : (n i : ℕ) (s : List ℕ) (at : ℕ) → n ≤ i → got tt at ≡ past_entries (n - i) s at
unfolding past_entries
past_all n i s at h = let m : n - i ≡ 0 = omega arith in rw m

-- ---- rows

-- an entry's row
abbrev pub row_of : ℕ → ListEntry Span → ℕ → EntryRow
row_of at e next = record { name = e.obj_name; entry = record { start = at; len = next - at } }

-- u is the table with that row
pub row_put_length : (t u : List ℕ) (i : ℕ) (r : EntryRow) → u ≡ put_row t i r → length u ≡ length t
row_put_length t u i r q = ap length q ∙ length-sets t (4 * i) (r.name.start ∷ r.name.len ∷ r.entry.start ∷ r.entry.len ∷ [])

pub store_next : (n i : ℕ) (s : List ℕ) (at : ℕ) (t u : List ℕ) (e : ListEntry Span) (next : ℕ) → i < n → got e next ≡ entry_at s at → u ≡ put_row t i (row_of at e next)
    → store_rows (n - (i + 1)) s next (i + 1) u ≡ store_rows (n - i) s at i t
unfolding store_rows row_at then or_leave
store_next n i s at t u e next h q w = let m : n - i ≡ suc (n - (i + 1)) = omega arith in rw (m, ← q, w)

pub store_refused : (n i : ℕ) (s : List ℕ) (at : ℕ) (t : List ℕ) (f : Refusal) → i < n → refused f ≡ entry_at s at → t ≡ store_rows (n - i) s at i t
unfolding store_rows row_at then or_leave
store_refused n i s at t f h q = let m : n - i ≡ suc (n - (i + 1)) = omega arith in rw (m, ← q)

pub store_all : (n i : ℕ) (s : List ℕ) (at : ℕ) (t : List ℕ) → n ≤ i → t ≡ store_rows (n - i) s at i t
unfolding store_rows
store_all n i s at t h = let m : n - i ≡ 0 = omega arith in rw m

-- where an entry and its name stand
pub record EntryStands (s : List ℕ) (at : ℕ) (name : Span) (next : ℕ) : Type 0 where
  pub name_ends : name.start + name.len ≤ length s
  pub ahead : at < next
  pub within : next ≤ length s

pub entry_lies : (s : List ℕ) (at : ℕ) (e : ListEntry Span) (next : ℕ) → got e next ≡ entry_at s at → EntryStands s at e.obj_name next
entry_lies s at e next q =
    let h = ok_at q (entry_found s at) in
    let w = h.0 in
    let n = w.obj_name in
    let a = h.1 in
    record { name_ends = n.ends; ahead = a.ahead; within = a.within }
