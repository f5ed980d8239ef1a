use Rattle.message.specs.Answers.{list_start}
use Rattle.writer.proofs.Starts.{list_start_is}
use Rattle.writer.proofs.Puts.{adds_as, adds_then}
use Rattle.writer.proofs.Output.put_list_start.Goals as goal

pub returns : goal.returns
returns c =
    let a = c.args in
    adds_as (list_start_is a.strings.now a.head (list_start a.x))
    (adds_then _ _ c.put_head.ensures c.put_list.ensures)
