use mathlib.Core.Path.{refl, sym, ◌∙◌}
use Prim.Native.Nat.{◌^◌, ◌<◌}
use native.Mathlib.Omega.{arith}
use lib.ListN.{length}
use borrow.Author.Rules.{rules}
use Rattle.crc_x25.specs.Crc.{start}
use Rattle.writer.specs.Calls.{whole_to}
use Rattle.writer.proofs.Puts.{was_put}
use Rattle.writer.proofs.Calls.{refuses_place, refuses_span, refuses_room, accepts_put, run_short, run_fits, with_trailer}
use Rattle.writer.proofs.write_whole.Goals as goal

pub returns-then-out-at : goal.returns-then-out-at
unfolding whole_to
returns-then-out-at g c = refuses_place _ _ _ _ _ _ c.if-out-at.true

pub returns-then-not-is_within : goal.returns-then-not-is_within
unfolding whole_to
returns-then-not-is_within g c = refuses_span _ _ _ _ _ _ c.if-out-at.false refl (sym c.is_within.ensures ∙ c.if-not-is_within.true)

pub returns-then-out-tried : goal.returns-then-out-tried
unfolding whole_to
returns-then-out-tried g c =
    let a = c.args in
    let run = with_trailer start _ c.sum_start-crc.ensures c.put_start.ensures c.put_trailer.ensures in
    refuses_room _ _ _ _ _ _ c.if-out-at.false refl (sym c.is_within.ensures ∙ c.if-not-is_within.false) (run_short _ _ run (omega (arith, c.ranges.at.fits)) (omega arith) c.if-out-tried.true)

pub returns : goal.returns
unfolding whole_to
returns g c =
    let a = c.args in
    let run = with_trailer start _ c.sum_start-crc.ensures c.put_start.ensures c.put_trailer.ensures in
    let small : length a.out.now < 2 ^ 63 = omega (arith, c.well_formed) in
    let room = run_fits _ (length a.out.now) run (omega (arith, c.ranges.at.fits)) small c.if-out-tried.false in
    let there = was_put _ (with_trailer start _ c.sum_start-crc.ensures c.put_start-2.ensures c.put_trailer-2.ensures) room small in
    accepts_put _ _ _ _ _ _ _ _ refl (sym c.is_within.ensures ∙ c.if-not-is_within.false) room there.place (let b = there.bytes in search rules)
