use mathlib.Core.Path.{refl}
use native.Mathlib.Omega.{arith}
use Rattle.writer.proofs.Sums.{time_stands, sum_list_end}
use Rattle.writer.proofs.sum_list_end.Goals as goal

pub sum_from-requires : goal.sum_from-requires
sum_from-requires c = let s = time_stands _ refl refl c.put.ensures in (omega arith, s.inside)

pub returns : goal.returns
returns c =
    let s = time_stands _ refl refl c.put.ensures in
    rw (c.sum_from.ensures, s.part, c.sum_opt_octets-r.ensures) (sum_list_end _ _)
