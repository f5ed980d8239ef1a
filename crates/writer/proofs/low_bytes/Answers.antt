use Rattle.writer.proofs.Signs.{low_below, low_not_below}
use Rattle.numbers.proofs.Numbers.{ones_are}
use mir.ValLaws.{to_z-of_z}
use mir.Val.{SFits}
use mir.Syntax.{w64}
use lib.Signed.{lt_z}
use lib.IntN.{pos}
use native.Mathlib.Omega.{arith}
use mathlib.Core.Bool.{true, false}
use mathlib.Core.Path.{◌≡◌}
use Rattle.writer.proofs.low_bytes.Goals as goal

pub overflow_sub-result-then-z-lt0 : goal.overflow_sub-result-then-z-lt0
overflow_sub-result-then-z-lt0 c =
    let a = c.args in
    let p = c.requires in
    rw (ones_are a.n p.0 p.1) (omega (arith, rw (to_z-of_z w64 a.z c.ranges.z) at c.magnitude.ensures, p.2))

pub returns-then-z-lt0 : goal.returns-then-z-lt0
returns-then-z-lt0 c =
    let a = c.args in
    let s : SFits w64 a.z = c.ranges.z in
    let h : lt_z a.z (pos 0) ≡ true = rw (to_z-of_z w64 a.z s) at c.if-z-lt0.true in
    rw (ones_are a.n c.requires.0 c.requires.1, rw (to_z-of_z w64 a.z s) at c.magnitude.ensures) (low_below a.n a.z h)

pub returns-else-z-lt0 : goal.returns-else-z-lt0
returns-else-z-lt0 c =
    let a = c.args in
    let s : SFits w64 a.z = c.ranges.z in
    let h : lt_z a.z (pos 0) ≡ false = rw (to_z-of_z w64 a.z s) at c.if-z-lt0.false in
    rw (to_z-of_z w64 a.z s) (low_not_below a.n a.z h)
