use Rattle.writer.proofs.Numbers.{tlf_is}
use Rattle.writer.proofs.Puts.{adds_as, adds_then}
use mathlib.Core.Path.{sym}
use Rattle.writer.proofs.Output.put_long_tlf.Goals as goal

pub returns : goal.returns
returns c =
    let a = c.args in
    let n = c.length_count-n.ensures in
    adds_as (sym (tlf_is a.ty a.len _ n.0 n.1))
    (adds_then _ _
    (rw (c.more_bit.ensures, c.ty_number.ensures, c.nibble.ensures.0, c.total-v.ensures) at c.put_next.ensures)
    (rw c.total-v.ensures at c.put_length.ensures))
