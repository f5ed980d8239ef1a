use mathlib.Core.Path.{refl}
use native.Mathlib.Omega.{arith}
use Rattle.common.specs.Answers.{open_response}
use Rattle.streaming.specs.Meaning.{open_means}
use Rattle.writer.proofs.Sums.{open_numbers_stand, sum_open}
use Rattle.writer.proofs.sum_open.Goals as goal

pub sum_from-requires : goal.sum_from-requires
sum_from-requires c = let s = open_numbers_stand (open_means c.args.strings.now (open_response c.args.x)) refl refl c.put.ensures c.put-2.ensures in (omega arith, s.inside)

pub returns : goal.returns
returns c =
    let x = open_means c.args.strings.now (open_response c.args.x) in
    let s = open_numbers_stand x refl refl c.put.ensures c.put-2.ensures in
    rw (
      c.sum_from.ensures,
      s.part,
      c.sum_octets-r4.ensures,
      c.sum_octets-r3.ensures,
      c.sum_opt_octets-r2.ensures,
      c.sum_opt_octets-r1.ensures,
      c.update_byte-r0.ensures,
    )
    (sum_open c.args.crc x)
