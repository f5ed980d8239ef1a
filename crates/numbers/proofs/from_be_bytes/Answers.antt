use mathlib.Core.Path.{refl}
use Prim.Native.Nat.{◌<◌, ◌^◌}
use native.Mathlib.Omega.{arith}
use native.Mathlib.Nat.{lt_of_lt_of_le}
use Rattle.numbers.specs.Numbers.{number}
use Rattle.numbers.proofs.Numbers.{number_on, number_small, pow_up}
use Rattle.numbers.proofs.from_be_bytes.Goals as goal

pub loop-b-init : goal.loop-b-init
unfolding number
loop-b-init c = refl

pub overflow_mul-value : goal.overflow_mul-value
overflow_mul-value c =
    let l = c.loop-b in
    let room : l.value < 256 ^ 7 = rw l.invariant (lt_of_lt_of_le (number_small c.args.bytes.now 0 l.b-index c.type_inv.bytes) (pow_up l.b-index 7 (omega (arith, c.requires)))) in
    omega (arith, room)

pub overflow_add-value : goal.overflow_add-value
overflow_add-value c =
    let l = c.loop-b in
    let room : l.value < 256 ^ 7 = rw l.invariant (lt_of_lt_of_le (number_small c.args.bytes.now 0 l.b-index c.type_inv.bytes) (pow_up l.b-index 7 (omega (arith, c.requires)))) in
    omega (arith, room, c.type_inv.bytes l.b-index)

pub loop-b-preserved : goal.loop-b-preserved
loop-b-preserved c =
    let l = c.loop-b in
    rw (number_on c.args.bytes.now l.b-index c.loop-b-test.true, ← l.invariant)
