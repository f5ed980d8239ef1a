use Rattle.writer.proofs.Numbers.{signed_is, low_byte, signed_short}
use Rattle.writer.proofs.Puts.{adds_as, adds_then}
use mir.Syntax.{w64}
use mir.ValLaws.{to_z-of_z}
use native.Mathlib.Omega.{arith}
use mathlib.Core.Path.{sym}
use Rattle.writer.proofs.Output.put_signed.Goals as goal

pub overflow_cast-low_bytes : goal.overflow_cast-low_bytes
overflow_cast-low_bytes c =
    let back = to_z-of_z w64 c.args.z c.ranges.z in
    record { fits = omega (arith, rw back at c.low_bytes.ensures, low_byte c.args.z (rw (c.magnitude.ensures, back) at c.if-magnitude-lt128.true)) }

pub returns-then-magnitude-lt128 : goal.returns-then-magnitude-lt128
returns-then-magnitude-lt128 c =
    let back = to_z-of_z w64 c.args.z c.ranges.z in
    adds_as (signed_short c.args.z (rw (c.magnitude.ensures, back) at c.if-magnitude-lt128.true))
    (adds_then _ _ c.put_next.ensures (rw (c.low_bytes.ensures, back) at c.put_next-then-magnitude-lt128.ensures))

pub returns : goal.returns
returns c =
    let z = c.args.z in
    let back = to_z-of_z w64 z c.ranges.z in
    adds_as (sym (signed_is z _ (rw back at c.signed_count-n.ensures.0) c.ranges.z.sfits))
    (adds_then _ _ c.put_next-2.ensures (rw (c.low_bytes-2.ensures, back) at c.put_bytes.ensures))
