use Rattle.writer.specs.Fields.{write_time}
use Rattle.writer.proofs.Numbers.{list_head_claim}
use Rattle.writer.proofs.Puts.{adds_as, adds_then}
use native.Mathlib.Omega.{arith}
use mathlib.Core.Path.{sym}
use Rattle.writer.proofs.Output.put_time.Goals as goal

pub returns : goal.returns
unfolding write_time
returns c = (adds_then _ _ (adds_then _ _ (adds_as (sym (list_head_claim 2 (omega arith))) c.put_next.ensures) c.put_unsigned.ensures) c.put_unsigned-2.ensures)
