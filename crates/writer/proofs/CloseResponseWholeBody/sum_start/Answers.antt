use Rattle.common.specs.Answers.{close_response}
use Rattle.writer.proofs.Calls.{close_register}
use Rattle.writer.proofs.CloseResponseWholeBody.sum_start.Goals as goal

pub returns : goal.returns
returns c = close_register c.args.strings.now c.args.head (close_response c.args.self) c.sum_head.ensures c.sum_close.ensures
