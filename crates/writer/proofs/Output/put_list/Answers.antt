use Rattle.writer.specs.Messages.{list_start_bytes}
use Rattle.writer.proofs.Numbers.{list_head_claim}
use Rattle.writer.proofs.Puts.{adds_as, adds_then}
use native.Mathlib.Omega.{arith}
use mathlib.Core.Path.{sym}
use Rattle.writer.proofs.Output.put_list.Goals as goal

pub returns : goal.returns
unfolding list_start_bytes
returns c = (adds_then _ _ (adds_then _ _ (adds_then _ _ (adds_then _ _ (adds_then _ _ (adds_as (sym (list_head_claim 7 (omega arith))) c.put_next.ensures) c.put_opt_octets.ensures) c.put_octets.ensures) c.put_opt_octets-2.ensures) c.put.ensures) c.put_tlf.ensures)
