use mathlib.Core.Path.{◌≡◌}
use Prim.Native.Nat.{◌≤◌, ◌-◌}
use lib.ListN.{length, drop}
use Rattle.smlcat.specs.Fed.{fed}
use Rattle.smlcat.proofs.drive.Given as goal

abbrev pub invariant-loop-i : goal.invariant-loop-i
invariant-loop-i g l = (l.i ≤ length l.chunk) × (fed l.at l.buf (drop l.i l.chunk) ≡ fed l.initial.at l.initial.buf l.chunk)

abbrev pub decreases-loop-i : goal.decreases-loop-i
decreases-loop-i g l = length l.chunk - l.i
