use mathlib.Core.Path.{refl}
use native.Mathlib.Omega.{arith}
use Rattle.writer.proofs.Sums.{head_numbers_stand, sum_head}
use Rattle.writer.proofs.sum_head.Goals as goal

pub sum_from-requires : goal.sum_from-requires
sum_from-requires c = let s = head_numbers_stand _ _ _ refl refl c.put_unsigned.ensures c.put_unsigned-2.ensures c.put_next.ensures c.put_unsigned-3.ensures in (omega arith, s.inside)

pub returns : goal.returns
returns c =
    let a = c.args in
    let s = head_numbers_stand _ _ _ refl refl c.put_unsigned.ensures c.put_unsigned-2.ensures c.put_next.ensures c.put_unsigned-3.ensures in
    rw (c.sum_from.ensures, s.part, c.sum_octets-r1.ensures, c.update_byte-r0.ensures, c.digest.ensures) (sum_head a.strings.now a.head a.tag)
