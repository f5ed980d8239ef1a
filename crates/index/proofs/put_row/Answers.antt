use Prim.Native.Nat.{suc, ◌+◌, ◌*◌}
use mathlib.Core.Path.{◌≡◌}
use native.Mathlib.Omega.{arith}
use lib.ListN.{length-set}
use Rattle.index.specs.Rows.{row_from, four_row}
use Rattle.index.proofs.put_row.Goals as goal

pub bounds-table-at-2 : goal.bounds-table-at-2
bounds-table-at-2 c = simp length-set (omega arith)

pub bounds-table-at-3 : goal.bounds-table-at-3
bounds-table-at-3 c = simp length-set (omega arith)

pub returns : goal.returns
unfolding four_row row_from
returns c =
    let p = 4 * c.args.i in
    let a : p + 1 ≡ suc p = omega arith in
    let b : p + 2 ≡ suc (suc p) = omega arith in
    let d : p + 3 ≡ suc (suc (suc p)) = omega arith in
    rw (a, b, d)
