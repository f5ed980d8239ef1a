use native.Mathlib.Omega.{arith}
use Rattle.index.proofs.Few.{few_of}
use Rattle.index.proofs.Rows.{table_sorted, kept_then}
use Rattle.index.proofs.sort_rows.Goals as goal

pub settle-requires : goal.settle-requires
settle-requires c =
    let a = c.requires in
    let e = c.make_heap.ensures in
    (a.0, omega (arith, a.1, e.2.long), omega (arith, e.0 32 a.0, c.in_order.ensures.1, a.0, a.3), e.1)

pub returns : goal.returns
returns c =
    let a = c.requires in
    let m = c.make_heap.ensures in
    let e = c.settle.ensures in
    (table_sorted _ _ _ _ a.1 a.2 (kept_then e.2 m.2) e.1, few_of _ _ _ _ _ c.in_order.ensures.1 m.0 e.0)
