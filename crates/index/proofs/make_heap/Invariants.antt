use Prim.Native.Nat.{◌/◌}
use Rattle.index.proofs.Few.{TurnsLeft}
use Rattle.index.proofs.Steps.{Heaping}
use Rattle.index.proofs.make_heap.Given as goal

abbrev pub invariant-loop-lo : goal.invariant-loop-lo
invariant-loop-lo l = Heaping l.input l.initial.table l.n l.table l.lo × TurnsLeft l.n (l.n / 2) l.initial.spent l.spent l.lo
