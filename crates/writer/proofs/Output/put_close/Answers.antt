use Rattle.writer.specs.Messages.{close_bytes}
use Rattle.writer.proofs.Numbers.{list_head_claim}
use Rattle.writer.proofs.Puts.{adds_as, adds_then}
use native.Mathlib.Omega.{arith}
use mathlib.Core.Path.{sym}
use Rattle.writer.proofs.Output.put_close.Goals as goal

pub returns : goal.returns
unfolding close_bytes
returns c = (adds_then _ _ (adds_as (sym (list_head_claim 1 (omega arith))) c.put_next.ensures) c.put_opt_octets.ensures)
