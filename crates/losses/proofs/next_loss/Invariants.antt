use Prim.Native.Nat.{◌-◌, ◌≤◌}
use mathlib.Core.Path.{◌≡◌}
use lib.ListN.{length}
use Rattle.losses.proofs.Calls as calls
use Rattle.losses.proofs.next_loss.Given as goal

abbrev pub invariant-loop-at : goal.invariant-loop-at
invariant-loop-at l = (l.at ≤ length l.recording) × (length l.buf ≡ length l.initial.buf) × calls.Going l.recording l.way l.initial.buf l.from l.w l.buf l.at

abbrev pub decreases-loop-at : goal.decreases-loop-at
decreases-loop-at l = length l.recording - l.at
