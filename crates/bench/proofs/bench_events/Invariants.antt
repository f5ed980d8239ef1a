use mathlib.Core.Path.{◌≡◌}
use Prim.Native.Nat.{◌-◌, ◌+◌}
use lib.ListN.{length}
use Rattle.bench.specs.Bench.{events_from, events}
use Rattle.bench.proofs.bench_events.Given as goal

abbrev pub invariant-loop-n : goal.invariant-loop-n
invariant-loop-n l = l.n + events_from (length l.input - l.n) l.input l.reader.place l.reader.start l.reader.pending ≡ events l.input
