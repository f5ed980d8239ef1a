use Rattle.refusals.proofs.Read.{ok_at}
use Rattle.numbers.proofs.Numbers.{unsigned_ok}
use Rattle.value.proofs.status_of.Goals as goal

pub status_with-requires : goal.status_with-requires
status_with-requires c =
    let found = rw c.requires at c.in_ok-value.ensures in
    rw c.width_of.ensures (ok_at found (unsigned_ok _ _ _ c.type_inv.input)).0
