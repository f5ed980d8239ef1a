use native.Mathlib.Omega.{arith}
use mir.Syntax.{w16, w64}
use mir.Val.{SFits}
use mir.ValLaws.{to_z-of_z}
use Rattle.refusals.proofs.Read.{ok_at}
use Rattle.numbers.proofs.Numbers.{signed_ok, narrow}
use Rattle.numbers.proofs.I16SmlParse.parse.Goals as goal

pub overflow_cast-result : goal.overflow_cast-result
overflow_cast-result c =
    let small = (ok_at c.in_ok-value.ensures (signed_ok 2 _ _ c.type_inv.input)).0 in
    let fits : SFits w16 c.in_ok-value.value = record { sfits = small } in
    rw (to_z-of_z w64 c.in_ok-value.value (record { sfits = omega (arith, small) })) fits

pub returns : goal.returns
returns c =
    let small = (ok_at c.in_ok-value.ensures (signed_ok 2 _ _ c.type_inv.input)).0 in
    rw (narrow w16 c.in_ok-value.value (record { sfits = omega (arith, small) }) (record { sfits = small })) c.in_ok-value.ensures
