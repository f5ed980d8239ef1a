use Rattle.encoder.proofs.Stretches.{PutPlain}
use Rattle.encoder.proofs.put_ones.Given as goal

abbrev pub invariant-loop-i : goal.invariant-loop-i
invariant-loop-i l = PutPlain l.out l.initial.out l.at l.rest l.i
