use Prim.Native.Nat.{◌+◌}
use lib.ListN.{get_or}
use native.Mathlib.Omega.{arith}
use mir.Syntax.{w8, w64}
use mir.Val.{SFits}
use mir.ValLaws.{to_z-of_z, of_z-to_z}
use Rattle.refusals.proofs.Read.{ok_at}
use Rattle.numbers.proofs.Numbers.{one_signed, signed_ok, narrow}
use Rattle.numbers.proofs.Short.{signed_one}
use Rattle.numbers.proofs.I8SmlParse.parse.Goals as goal

pub returns-then-is_short : goal.returns-then-is_short
returns-then-is_short c =
    let h = c.is_short.ensures c.if-is_short.true in
    let b = c.type_inv.input (c.args.at + 1) in
    rw (c.cast_signed.ensures, of_z-to_z w8 (get_or c.args.input.now (c.args.at + 1) 0) b, one_signed (get_or c.args.input.now (c.args.at + 1) 0) (omega (arith, b))) (signed_one _ _ h.0 h.1)

pub overflow_cast-result : goal.overflow_cast-result
overflow_cast-result c =
    let small = (ok_at c.in_ok-value.ensures (signed_ok 1 _ _ c.type_inv.input)).0 in
    let fits : SFits w8 c.in_ok-value.value = record { sfits = small } in
    rw (to_z-of_z w64 c.in_ok-value.value (record { sfits = omega (arith, small) })) fits

pub returns : goal.returns
returns c =
    let small = (ok_at c.in_ok-value.ensures (signed_ok 1 _ _ c.type_inv.input)).0 in
    rw (narrow w8 c.in_ok-value.value (record { sfits = omega (arith, small) }) (record { sfits = small })) c.in_ok-value.ensures
