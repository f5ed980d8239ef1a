use Rattle.common.specs.Answers.{open_response}
use Rattle.writer.proofs.Calls.{open_register}
use Rattle.writer.proofs.OpenResponseWholeBody.sum_start.Goals as goal

pub returns : goal.returns
returns c = open_register c.args.strings.now c.args.head (open_response c.args.self) c.sum_head.ensures c.sum_open.ensures
