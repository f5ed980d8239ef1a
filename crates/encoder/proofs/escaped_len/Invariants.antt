use Prim.Native.Nat.{◌+◌, ◌≤◌}
use mathlib.Core.Path.{◌≡◌}
use lib.ListN.{length, drop}
use Rattle.frame.specs.Frame.{escaped}
use Rattle.encoder.proofs.escaped_len.Given as goal

abbrev pub invariant-loop-b : goal.invariant-loop-b
invariant-loop-b l = (l.n ≤ 3) × (l.len + length (escaped l.n (drop l.b-index l.payload)) ≡ length (escaped 0 l.payload))
