use Rattle.sartrogheo.proofs.Told.{plain_told}
use Rattle.sartrogheo.proofs.sgh_push_byte.Goals as goal

pub returns-then-push_plain : goal.returns-then-push_plain
returns-then-push_plain c = plain_told _ _ _ _ _ _ _ c.push_plain.ensures c.if-push_plain.true
