use mathlib.Core.Path.{◌≡◌}
use Prim.Native.Nat.{◌≤◌, ◌+◌, ◌*◌}
use lib.ListN.{length, drop}
use Rattle.frame.specs.Frame.{frame_of}
use Rattle.bench.specs.Bench.{sum}
use Rattle.bench.proofs.Streams.{LeftToGive}
use Rattle.bench.proofs.sum_given.Given as goal

abbrev pub invariant-loop : goal.invariant-loop
invariant-loop l = (l.counter ≤ length (frame_of l.payload)) × (l.total ≤ 255 * l.counter) × LeftToGive l.e l.payload (drop l.counter (frame_of l.payload)) × (l.total + sum (drop l.counter (frame_of l.payload)) ≡ sum (frame_of l.payload))
