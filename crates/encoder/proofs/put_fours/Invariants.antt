use Prim.Native.Nat.{◌*◌}
use Rattle.encoder.proofs.Stretches.{PutPlain}
use Rattle.encoder.proofs.put_fours.Given as goal

abbrev pub invariant-loop-i : goal.invariant-loop-i
invariant-loop-i l = PutPlain l.out l.initial.out l.at l.rest (4 * l.i)
