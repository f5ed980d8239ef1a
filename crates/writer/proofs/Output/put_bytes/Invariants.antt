use Rattle.writer.specs.Fields.{in_bytes}
use Rattle.writer.proofs.Puts.{Still}
use Rattle.writer.proofs.Output.put_bytes.Given as goal

abbrev pub invariant-loop-k : goal.invariant-loop-k
invariant-loop-k l = Still l.initial.self (in_bytes l.n l.v) l.self (in_bytes l.k l.v)
