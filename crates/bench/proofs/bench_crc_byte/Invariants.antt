use mathlib.Core.Path.{◌≡◌}
use lib.ListN.{take}
use Rattle.crc_x25.specs.Crc.{start, register}
use Rattle.bench.proofs.bench_crc_byte.Given as goal

abbrev pub invariant-loop-b : goal.invariant-loop-b
invariant-loop-b l = l.reg ≡ register start (take l.b-index l.src)
