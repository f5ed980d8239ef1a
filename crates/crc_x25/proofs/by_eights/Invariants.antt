use mathlib.Core.Path.{◌≡◌}
use lib.ListN.{take}
use Rattle.std.specs.List.{concat}
use Rattle.crc_x25.specs.Crc.{register}
use Rattle.crc_x25.proofs.by_eights.Given as goal

abbrev pub invariant-loop-eight : goal.invariant-loop-eight
invariant-loop-eight l = l.r ≡ register l.reg (concat (take l.eight-index l.eights))
