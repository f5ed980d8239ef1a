use Prim.Native.Nat.{◌-◌}
use mathlib.Core.Path.{◌≡◌}
use lib.ListN.{length}
use Rattle.common.specs.Answers.{list_entry}
use Rattle.bench.specs.Bench.{first_writer, written_times}
use Rattle.bench.proofs.Writes.{WithRest}
use Rattle.bench.proofs.write_again.Given as goal

abbrev pub invariant-loop-n : goal.invariant-loop-n
invariant-loop-n l = (length l.out ≡ length l.initial.out) × WithRest l.n (written_times (l.count - l.n) l.out l.w l.input (list_entry l.entry)) (written_times l.count l.initial.out (first_writer l.count) l.input (list_entry l.entry))
