use Rattle.common.specs.Answers.{close_response}
use Rattle.writer.proofs.Starts.{close_start_is}
use Rattle.writer.proofs.Puts.{adds_as, adds_then}
use Rattle.writer.proofs.CloseResponseWholeBody.put_start.Goals as goal

pub returns : goal.returns
returns c =
    let a = c.args in
    adds_as (close_start_is a.strings.now a.head (close_response a.self))
    (adds_then _ _ c.put_head.ensures c.put_close.ensures)
