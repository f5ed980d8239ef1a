use mir.Syntax.{w64}
use mir.ValLaws.{to_z-of_z}
use Rattle.refusals.proofs.Read.{ok_at}
use Rattle.numbers.proofs.Numbers.{signed_ok}
use Rattle.value.proofs.signed_value.Goals as goal

pub signed_with-requires : goal.signed_with-requires
signed_with-requires c =
    let small = (ok_at c.in_ok-number.ensures (signed_ok 8 _ _ c.type_inv.input)).0 in
    let found = rw c.requires at c.in_ok-number.ensures in
    rw (c.width_of.ensures, to_z-of_z w64 c.in_ok-number.number (record { sfits = small })) (ok_at found (signed_ok _ _ _ c.type_inv.input)).0
