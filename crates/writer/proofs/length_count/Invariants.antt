use Prim.Native.Nat.{◌-◌, ◌^◌}
use mathlib.Core.Path.{◌≡◌}
use lib.Dec.{ltb}
use Rattle.byte_count.specs.Count.{first_that}
use Rattle.tlf.specs.Written.{total}
use Rattle.writer.specs.Fields.{length_count}
use Rattle.writer.proofs.length_count.Given as goal

abbrev pub invariant-loop-n : goal.invariant-loop-n
invariant-loop-n l = first_that (17 - l.n) l.n (λ m. ltb (total l.ty l.len m) (16 ^ m)) ≡ length_count l.ty l.len
