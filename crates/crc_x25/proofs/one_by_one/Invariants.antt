use mathlib.Core.Path.{◌≡◌}
use lib.ListN.{take}
use Rattle.crc_x25.specs.Crc.{register}
use Rattle.crc_x25.proofs.one_by_one.Given as goal

abbrev pub invariant-loop-b : goal.invariant-loop-b
invariant-loop-b l = l.r ≡ register l.reg (take l.b-index l.s)
