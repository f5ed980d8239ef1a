use Rattle.writer.proofs.Numbers.{short_tlf}
use Rattle.writer.proofs.Puts.{adds_as}
use mathlib.Core.Path.{sym}
use Rattle.writer.proofs.Output.put_tlf.Goals as goal

pub returns-then-own-lt16 : goal.returns-then-own-lt16
returns-then-own-lt16 c =
    let a = c.args in
    let s = c.total-own.ensures in
    adds_as (sym (short_tlf a.ty a.len (rw s at c.if-own-lt16.true))) (rw (c.ty_number.ensures, s) at c.put_next.ensures)
