-- A row that a table's numbers hold.
use mathlib.Core.Path.{◌≡◌, sym}
use mathlib.Core.List.{List}
use Prim.Native.Nat.{ℕ}
use native.Mathlib.Omega.{arith}
use Rattle.whole.specs.Whole.{EntryRow}
use Rattle.index.specs.Index.{found_row, look_up_in}
use Rattle.index.proofs.Tables.{look_outcome, found_lies}
use Rattle.sartrogheo.specs.Cut.{RowIsSmall}

-- what is found stands in an input of at most 1,048,576 bytes
pub row_small : (s t name : List ℕ) (r : EntryRow) → found_row r ≡ look_up_in s t name → RowIsSmall r
row_small s t name r e =
    let w = found_lies s t name r (look_up_in s t name) (look_outcome s t name) (sym e) in
    record { name = omega (arith, w.name_ends, w.short); entry = omega (arith, w.entry_ends, w.short) }
