use Rattle.writer.specs.Messages.{list_end_bytes}
use Rattle.writer.proofs.Puts.{adds_then}
use Rattle.writer.proofs.Output.put_list_end.Goals as goal

pub returns : goal.returns
unfolding list_end_bytes
returns c = adds_then _ _ c.put_opt_octets.ensures c.put.ensures
