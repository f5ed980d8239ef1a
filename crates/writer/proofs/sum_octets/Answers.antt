use mathlib.Core.Path.{refl}
use native.Mathlib.Omega.{arith}
use Rattle.writer.proofs.Sums.{handed_bytes, length_stands, sum_octets}
use Rattle.writer.proofs.sum_octets.Goals as goal

pub sum_from-requires : goal.sum_from-requires
sum_from-requires c = let s = length_stands _ _ refl refl c.put_tlf.ensures in (omega arith, s.inside)

pub returns : goal.returns
returns c =
    let s = length_stands _ _ refl refl c.put_tlf.ensures in
    rw (c.update.ensures, c.sum_from.ensures, s.part, handed_bytes c.octet_str-part.ensures) (sum_octets _ _)
