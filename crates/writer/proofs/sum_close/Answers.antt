use Rattle.writer.proofs.Sums.{sum_close}
use Rattle.writer.proofs.sum_close.Goals as goal

pub returns : goal.returns
returns c = rw (c.sum_opt_octets.ensures, c.update_byte.ensures) (sum_close _ _)
