use Rattle.refusals.proofs.Read.{ok_at}
use Rattle.numbers.proofs.Numbers.{unsigned_ok}
use Rattle.value.proofs.unsigned_value.Goals as goal

pub unsigned_with-requires : goal.unsigned_with-requires
unsigned_with-requires c =
    let found = rw c.requires at c.in_ok-number.ensures in
    rw c.width_of.ensures (ok_at found (unsigned_ok _ _ _ c.type_inv.input)).0
