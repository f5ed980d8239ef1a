use native.Mathlib.Omega.{arith}
use Rattle.std.proofs.lemmas.Result.{err_from_is_err_and}
use Rattle.index.proofs.Built.{message_filled, filled_distinct, built, built_refused}
use Rattle.index.proofs.build_index.Goals as goal

pub sort_rows-requires : goal.sort_rows-requires
sort_rows-requires c =
    let h = message_filled _ _ _ _ _ _ _ _ c.in_ok-message.ensures in
    (h.few, h.room, filled_distinct h, omega arith)

pub returns-in_err-message : goal.returns-in_err-message
returns-in_err-message c =
    let q = err_from_is_err_and c.from_residual.result c.from_residual.ensures.1 in
    rw (q.1, q.2) (built_refused _ _ _ _ _ c.in_err-message.ensures)

pub returns : goal.returns
returns c = built _ _ _ _ _ _ _ _ _ c.in_ok-message.ensures c.sort_rows.ensures.0
