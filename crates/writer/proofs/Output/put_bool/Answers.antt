use Rattle.tlf.specs.declared.Ty.TheVariants.{Boolean}
use Rattle.writer.proofs.Numbers.{short_tlf, bool_is}
use Rattle.writer.specs.Fields.{write_bool}
use Rattle.writer.proofs.Puts.{adds_as, adds_then}
use native.Mathlib.Omega.{arith}
use mathlib.Core.Path.{sym}
use Rattle.writer.proofs.Output.put_bool.Goals as goal

pub returns : goal.returns
unfolding write_bool
returns c = adds_then _ _ (adds_as (sym (short_tlf Boolean 1 (omega arith))) c.put_next.ensures) (rw (bool_is c.args.b) at c.put_next-2.ensures)
