use Rattle.index.proofs.Few.{TurnsLeft}
use Rattle.index.proofs.Steps.{Settling}
use Rattle.index.proofs.settle.Given as goal

abbrev pub invariant-loop-end : goal.invariant-loop-end
invariant-loop-end l = Settling l.input l.initial.table l.n l.table l.end × TurnsLeft l.n l.n l.initial.spent l.spent l.end
