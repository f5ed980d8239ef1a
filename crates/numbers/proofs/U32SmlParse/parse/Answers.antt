use Rattle.refusals.proofs.Read.{ok_at}
use Rattle.numbers.proofs.Numbers.{unsigned_ok}
use Rattle.numbers.proofs.U32SmlParse.parse.Goals as goal

pub overflow_cast-result : goal.overflow_cast-result
overflow_cast-result c = record { fits = (ok_at c.in_ok-value.ensures (unsigned_ok 4 _ _ c.type_inv.input)).0 }
