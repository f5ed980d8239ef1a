use mathlib.Core.Path.{◌≡◌}
use lib.ListN.{take}
use Rattle.numbers.specs.Numbers.{number}
use Rattle.numbers.proofs.from_be_bytes.Given as goal

abbrev pub invariant-loop-b : goal.invariant-loop-b
invariant-loop-b l = l.value ≡ number 0 (take l.b-index l.bytes)
