use Rattle.common.specs.Answers.{open_response}
use Rattle.writer.proofs.Starts.{open_start_is}
use Rattle.writer.proofs.Puts.{adds_as, adds_then}
use Rattle.writer.proofs.OpenResponseWholeBody.put_start.Goals as goal

pub returns : goal.returns
returns c =
    let a = c.args in
    adds_as (open_start_is a.strings.now a.head (open_response a.self))
    (adds_then _ _ c.put_head.ensures c.put_open.ensures)
