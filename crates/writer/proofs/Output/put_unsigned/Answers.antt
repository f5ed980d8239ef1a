use Rattle.writer.proofs.Numbers.{unsigned_is, unsigned_short}
use Rattle.writer.proofs.Puts.{adds_as, adds_then}
use mathlib.Core.Path.{sym}
use Rattle.writer.proofs.Output.put_unsigned.Goals as goal

pub returns-then-v-lt256 : goal.returns-then-v-lt256
returns-then-v-lt256 c = adds_as (unsigned_short _ c.if-v-lt256.true) (adds_then _ _ c.put_next.ensures c.put_next-then-v-lt256.ensures)

pub returns : goal.returns
returns c =
    let n = c.byte_count-n.ensures in
    adds_as (sym (unsigned_is c.args.v c.ranges.v.fits))
    (adds_then _ _ (rw n at c.put_next-2.ensures) (rw n at c.put_bytes.ensures))
