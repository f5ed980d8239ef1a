use Prim.Native.Nat.{◌-◌}
use mathlib.Core.Path.{◌≡◌}
use lib.ListN.{length}
use Rattle.whole.specs.Cut.{store_rows}
use Rattle.whole.proofs.store_rows.Given as goal

abbrev pub invariant-loop-i : goal.invariant-loop-i
invariant-loop-i l = (length l.table ≡ length l.initial.table) × (store_rows (l.n - l.i) l.input l.place l.i l.table ≡ store_rows l.n l.input l.at 0 l.initial.table)
