-- rule: a whole message in one call, by document 02's Q-13: its start, the rows of its entries, its end; what the call answers, and what it leaves in the table.
use Rattle.std.specs.Prelude.{ℕ, zero, suc, ◌-◌, ◌*◌, ◌/◌, ◌≤◌, List, [], ◌∷◌, ◌++◌, cond, length, get_or, drop, ltb}
use Rattle.std.proofs.Math.Option.{Option, some, none}
use Rattle.refusals.specs.Numbers.{bad_state_no, input_too_long_no, too_many_entries_no, limit}
use Rattle.refusals.specs.Read.{Read, got, refused, Refusal, then, many}
use Rattle.refusals.specs.declared.Span.{Span}
use Rattle.common.specs.Fields.{entry_at}
use Rattle.message.specs.Messages.{MessageStart, ListEnd, Body, open_body, close_body, list_body, start_at, list_end_at}
use Rattle.trailer.specs.Trailer.{trailer_at}

-- an entry's row: where its name stands, and where the entry does, from its own first length byte on
pub record EntryRow : Type 0 where
  pub name : Span
  pub entry : Span

unfoldable pub row_at : List ℕ → ℕ → Read EntryRow
row_at s at =
    then (entry_at s at) λ e next.
    got (record { name = e.obj_name; entry = record { start = at; len = next - at } }) next

-- as many as the list's head says, one behind the other
abbrev pub rows_at : ℕ → List ℕ → ℕ → Read (List EntryRow)
rows_at n s at = many n (row_at s) at

pub record WholeMessage : Type 0 where
  pub start : MessageStart Span
  pub rows : List EntryRow
  pub end : Option (ListEnd Span)

-- behind the start: of a list the entries and the end, else nothing
unfoldable pub inside_at : MessageStart Span → Body Span → List ℕ → ℕ → Read WholeMessage
inside_at start (open_body b) s at = got (record { start = start; rows = []; end = none }) at
inside_at start (close_body b) s at = got (record { start = start; rows = []; end = none }) at
inside_at start (list_body b) s at =
    then (rows_at b.num_vals s at) λ rows n.
    then (list_end_at s n) λ end m.
    got (record { start = start; rows = rows; end = some end }) m

-- the message at a place, and the place behind its end byte
unfoldable pub whole_at : List ℕ → ℕ → Read WholeMessage
whole_at s at =
    then (start_at s at) λ start n₁.
    then (inside_at start start.message_body s n₁) λ whole n₂.
    then (trailer_at s at n₂) λ trailer n₃.
    got whole n₃

-- rows as the table's numbers, four a row
unfoldable pub flat : List EntryRow → List ℕ
flat [] = []
flat (r ∷ rs) = r.name.start ∷ r.name.len ∷ r.entry.start ∷ r.entry.len ∷ flat rs

-- a table's first row, and its first n rows
abbrev pub first_row : List ℕ → EntryRow
first_row t = record { name = record { start = get_or t 0 0; len = get_or t 1 0 }; entry = record { start = get_or t 2 0; len = get_or t 3 0 } }

abbrev pub rows_of : ℕ → List ℕ → List EntryRow
rows_of zero t = []
rows_of (suc n) t = first_row t ∷ rows_of n (drop 4 t)

-- what a call says: the start, of a list the end, how many rows stand in the table and the place behind the message; a refusal at a place of the input; or one at none
pub data WholeSaid : Type 0 where
  whole_is : MessageStart Span → Option (ListEnd Span) → ℕ → ℕ → WholeSaid
  broken : Refusal → WholeSaid
  refused_alone : ℕ → WholeSaid

-- what a call says, and what the table holds behind it
pub record AfterWhole : Type 0 where
  pub answer : WholeSaid
  pub table : List ℕ

-- 20 where the table has fewer whole rows than the message; what stands behind the rows stays, and a refusal leaves all
unfoldable pub fill_to : Read WholeMessage → List ℕ → AfterWhole
fill_to (refused f) t = record { answer = broken f; table = t }
fill_to (got w next) t =
    cond (ltb (length t / 4) (length w.rows)) (record { answer = refused_alone too_many_entries_no; table = t })
    (record { answer = whole_is w.start w.end (length w.rows) next; table = flat w.rows ++ drop (4 * length w.rows) t })

-- 9, then 4 for a place beyond the input, then the reading
unfoldable pub read_to : List ℕ → ℕ → List ℕ → AfterWhole
read_to s at t =
    cond (ltb limit (length s)) (record { answer = refused_alone input_too_long_no; table = t })
    (cond (ltb (length s) at) (record { answer = refused_alone bad_state_no; table = t })
    (fill_to (whole_at s at) t))

-- an input and a place that are refused neither with 9 nor with 4. (A short message runs to its end in a longer input too, and the answer is 9.)
pub record Fair (s : List ℕ) (at : ℕ) : Type 0 where
  pub short : length s ≤ limit
  pub inside : at ≤ length s
