use Prim.Native.Nat.{◌+◌, ◌≤◌}
use Rattle.index.specs.Index.{before}
use Rattle.index.specs.Rows.{nth_row}
use Rattle.index.specs.Heap.{Done}
use Rattle.index.proofs.in_order.Given as goal

abbrev pub invariant-loop-i : goal.invariant-loop-i
invariant-loop-i l = (l.i ≤ l.n + 1) × (l.spent + 1 ≤ l.initial.spent + l.i) × Done (before l.input) 1 l.i (nth_row l.table)
