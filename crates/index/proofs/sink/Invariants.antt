use Prim.Native.Nat.{◌-◌}
use Rattle.index.proofs.Few.{Deep}
use Rattle.index.proofs.Steps.{Sinking}
use Rattle.index.proofs.sink.Given as goal

abbrev pub invariant-loop-c : goal.invariant-loop-c
invariant-loop-c l = Sinking l.input l.initial.table l.at l.end l.table l.i l.c × Deep l.i l.initial.spent l.spent

abbrev pub decreases-loop-c : goal.decreases-loop-c
decreases-loop-c l = l.end - l.i
