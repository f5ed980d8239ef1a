use Prim.Native.Nat.{◌+◌, ◌-◌, ◌≤◌}
use mathlib.Core.Path.{◌≡◌}
use lib.ListN.{length}
use Rattle.frame.specs.Frame.{escaped}
use Rattle.encoder.specs.Parts.{Writes}
use Rattle.encoder.proofs.put_escaped.Given as goal

abbrev pub invariant-loop-i : goal.invariant-loop-i
invariant-loop-i l = (l.i ≤ length l.payload) × (l.n ≤ 3) × (length l.out ≡ length l.initial.out) × (l.at + length (escaped 0 l.payload) ≤ length l.initial.out) × Writes l.out l.o l.n l.i l.initial.out l.at 0 0 l.payload

abbrev pub decreases-loop-i : goal.decreases-loop-i
decreases-loop-i l = length l.payload - l.i
