use Prim.Native.Nat.{◌+◌, ◌<◌, ◌^◌}
use mathlib.Core.Path.{◌≡◌}
use lib.ListN.{drop}
use Rattle.losses.specs.Watch.{look}
use Rattle.losses.specs.Cut.{looked_over}
use Rattle.losses.proofs.look_over.Given as goal

abbrev pub invariant-loop-i : goal.invariant-loop-i
invariant-loop-i l = (l.matched < 2 ^ 8) × (looked_over (look l.matched 0) (l.n + l.i) (drop l.i l.bytes) ≡ looked_over (look l.initial.matched 0) l.n l.bytes)
