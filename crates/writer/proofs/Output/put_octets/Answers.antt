use Rattle.writer.specs.Fields.{write_octets}
use Rattle.writer.proofs.Sums.{handed_bytes}
use Rattle.writer.proofs.Puts.{adds_then}
use Rattle.writer.proofs.Output.put_octets.Goals as goal

pub returns : goal.returns
unfolding write_octets
returns c = let part = handed_bytes c.octet_str-part.ensures in adds_then _ _ (rw part at c.put_tlf.ensures) (rw part at c.put_part.ensures)
