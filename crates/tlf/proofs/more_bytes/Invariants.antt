use mathlib.Core.Path.{◌≡◌}
use Prim.Native.Nat.{◌-◌}
use lib.ListN.{length, drop}
use Rattle.tlf.specs.Lengths.{length_from}
use Rattle.tlf.proofs.more_bytes.Given as goal

abbrev pub invariant-loop-has_more_bytes : goal.invariant-loop-has_more_bytes
invariant-loop-has_more_bytes l = length_from (length l.input) l.start (drop l.next l.input) l.next l.has_more_bytes l.len ≡ length_from (length l.input) l.start (drop l.at l.input) l.at l.more l.first

abbrev pub decreases-loop-has_more_bytes : goal.decreases-loop-has_more_bytes
decreases-loop-has_more_bytes l = length l.input - l.next
