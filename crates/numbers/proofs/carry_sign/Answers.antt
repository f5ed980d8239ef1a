use Prim.Native.Nat.{ℕ, ◌*◌, ◌/◌, ◌-◌, ◌<◌, ◌^◌}
use borrow.Author.Tests.{lt-ltb, le-ltb}
use native.Mathlib.Omega.{arith}
use native.Mathlib.Nat.{one-le-pow}
use lib.Dec.{lit<}
use lib.IntN.{negsuc}
use mir.Syntax.{w64}
use mir.ValLaws.{to_z_pos, to_z-of_z}
use Rattle.numbers.specs.Numbers.{signed_of}
use Rattle.numbers.proofs.Numbers.{neg_one_sub, ones_are, pow_up}
use Rattle.numbers.proofs.carry_sign.Goals as goal

pub overflow_cast-result : goal.overflow_cast-result
overflow_cast-result c =
    let a = c.args in
    let e = ones_are a.len c.requires.0 c.requires.1 in
    record { sfits = omega (arith, pow_up a.len 8 c.requires.1, c.if-value-ones.true) }

pub overflow_sub-result : goal.overflow_sub-result
overflow_sub-result c = rw (ones_are c.args.len c.requires.0 c.requires.1) (omega (arith, c.requires.2))

pub overflow_cast-result-else-value-ones : goal.overflow_cast-result-else-value-ones
overflow_cast-result-else-value-ones c =
    let rest : ℕ =
    0xffffffffffffffff / 2 ^ (64 - 8 * c.args.len) - c.args.value in
    let below : rest < 2 ^ 63 =
    let a = c.args in
    let e = ones_are a.len c.requires.0 c.requires.1 in
    omega (arith, pow_up a.len 8 c.requires.1, c.if-value-ones.false) in
    record { sfits = below }

pub overflow_sub-result-else-value-ones : goal.overflow_sub-result-else-value-ones
overflow_sub-result-else-value-ones c =
    let rest : ℕ =
    0xffffffffffffffff / 2 ^ (64 - 8 * c.args.len) - c.args.value in
    let below : rest < 2 ^ 63 =
    let a = c.args in
    let e = ones_are a.len c.requires.0 c.requires.1 in
    omega (arith, pow_up a.len 8 c.requires.1, c.if-value-ones.false) in
    rw (to_z_pos w64 (rest) (below), neg_one_sub) (record { sfits = below })

pub returns-then-value-ones : goal.returns-then-value-ones
unfolding signed_of
returns-then-value-ones c =
    let a = c.args in
    let e = ones_are a.len c.requires.0 c.requires.1 in
    rw (to_z_pos w64 a.value (omega (arith, pow_up a.len 8 c.requires.1, c.if-value-ones.true)), lt-ltb (2 * a.value) (256 ^ a.len) (omega (arith, c.if-value-ones.true, one-le-pow a.len 256 (lit< tt))))

pub returns-else-value-ones : goal.returns-else-value-ones
unfolding signed_of
returns-else-value-ones c =
    let rest : ℕ =
    0xffffffffffffffff / 2 ^ (64 - 8 * c.args.len) - c.args.value in
    let below : rest < 2 ^ 63 =
    let a = c.args in
    let e = ones_are a.len c.requires.0 c.requires.1 in
    omega (arith, pow_up a.len 8 c.requires.1, c.if-value-ones.false) in
    let a = c.args in
    let e = ones_are a.len c.requires.0 c.requires.1 in
    rw (to_z_pos w64 (rest) (below), neg_one_sub, to_z-of_z w64 (negsuc (rest)) (record { sfits = below }), e, le-ltb (2 * a.value) (256 ^ a.len) (omega (arith, c.if-value-ones.false)))
