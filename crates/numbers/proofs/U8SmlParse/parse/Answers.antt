use Rattle.refusals.proofs.Read.{ok_at}
use Rattle.numbers.proofs.Numbers.{unsigned_ok}
use Rattle.numbers.proofs.Short.{unsigned_one}
use Rattle.numbers.proofs.U8SmlParse.parse.Goals as goal

pub returns-then-is_short : goal.returns-then-is_short
returns-then-is_short c = let h = c.is_short.ensures c.if-is_short.true in unsigned_one _ _ h.0 h.1

pub overflow_cast-result : goal.overflow_cast-result
overflow_cast-result c = record { fits = (ok_at c.in_ok-value.ensures (unsigned_ok 1 _ _ c.type_inv.input)).0 }
