use Rattle.tlf.specs.Written.{length_bytes}
use Rattle.writer.proofs.Puts.{Still}
use Rattle.writer.proofs.Output.put_length.Given as goal

abbrev pub invariant-loop-k : goal.invariant-loop-k
invariant-loop-k l = Still l.initial.self (length_bytes l.n l.v) l.self (length_bytes l.k l.v)
