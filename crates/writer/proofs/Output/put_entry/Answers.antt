use Rattle.writer.specs.Fields.{write_entry}
use Rattle.writer.proofs.Numbers.{list_head_claim, width_forgotten}
use Rattle.writer.proofs.Puts.{adds_as, adds_then}
use native.Mathlib.Omega.{arith}
use mathlib.Core.Path.{sym}
use Rattle.writer.proofs.Output.put_entry.Goals as goal

pub returns : goal.returns
unfolding write_entry
returns c = (adds_then _ _ (adds_then _ _ (adds_then _ _ (adds_then _ _ (adds_then _ _ (adds_then _ _ (adds_then _ _ (adds_as (sym (list_head_claim 7 (omega arith))) c.put_next.ensures) c.put_octets.ensures) (adds_as (width_forgotten _) c.put.ensures)) c.put-2.ensures) c.put-3.ensures) c.put-4.ensures) c.put_value.ensures) c.put_opt_octets.ensures)
