use Prim.Native.Nat.{◌*◌}
use mathlib.Core.Path.{◌≡◌}
use Rattle.crc_x25.specs.Crc.{bit_steps}
use Rattle.crc_x25.proofs.eight_at_once.Given as goal

abbrev pub invariant-loop : goal.invariant-loop
invariant-loop l = l.r ≡ bit_steps (8 * l.counter) l.initial.r
