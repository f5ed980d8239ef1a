use mathlib.Core.Path.{◌≡◌}
use Prim.Native.Nat.{◌≤◌, ◌-◌}
use lib.ListN.{length, drop}
use Rattle.bench.specs.Bench.{payloads_from}
use Rattle.bench.proofs.push_slices.Given as goal

abbrev pub invariant-loop-i : goal.invariant-loop-i
invariant-loop-i l = (l.i ≤ length l.src) × (l.n ≤ l.i) × (length l.buf ≡ length l.initial.buf) × (payloads_from l.n l.at l.buf (drop l.i l.src) ≡ payloads_from l.initial.n l.initial.at l.initial.buf l.src)

abbrev pub decreases-loop-i : goal.decreases-loop-i
decreases-loop-i l = length l.src - l.i
