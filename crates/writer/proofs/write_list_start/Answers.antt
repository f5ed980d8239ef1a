use mathlib.Core.Path.{refl, sym, ◌∙◌}
use Prim.Native.Nat.{◌^◌, ◌<◌}
use native.Mathlib.Omega.{arith}
use lib.ListN.{length}
use borrow.Author.Rules.{rules}
use Rattle.writer.specs.Calls.{start_to}
use Rattle.writer.proofs.Puts.{was_put}
use Rattle.writer.proofs.Calls.{refuses_place, refuses_span, refuses_room, accepts_put, run_short, run_fits}
use Rattle.writer.proofs.write_list_start.Goals as goal

pub returns-then-out-at : goal.returns-then-out-at
unfolding start_to
returns-then-out-at c = refuses_place _ _ _ _ _ _ c.if-out-at.true

pub returns-then-not-list_within : goal.returns-then-not-list_within
unfolding start_to
returns-then-not-list_within c = refuses_span _ _ _ _ _ _ c.if-out-at.false refl (sym c.list_within.ensures ∙ c.if-not-list_within.true)

pub returns-then-out-tried : goal.returns-then-out-tried
unfolding start_to
returns-then-out-tried c =
    refuses_room _ _ _ _ _ _ c.if-out-at.false refl (sym c.list_within.ensures ∙ c.if-not-list_within.false) (run_short _ _ c.put_list_start.ensures (omega (arith, c.ranges.at.fits)) (omega arith) c.if-out-tried.true)

pub sum_from-crc-requires : goal.sum_from-crc-requires
sum_from-crc-requires c =
    let small : length c.args.out.now < 2 ^ 63 = omega (arith, c.well_formed) in
    let there = was_put _ c.put_list_start-2.ensures (run_fits _ _ c.put_list_start.ensures (omega (arith, c.ranges.at.fits)) small c.if-out-tried.false) small in
    (omega (arith, there.place), there.inside)

pub returns : goal.returns
unfolding start_to
returns c =
    let small : length c.args.out.now < 2 ^ 63 = omega (arith, c.well_formed) in
    let there = was_put _ c.put_list_start-2.ensures (run_fits _ _ c.put_list_start.ensures (omega (arith, c.ranges.at.fits)) small c.if-out-tried.false) small in
    let crc = rw (c.digest.ensures, there.part) at c.sum_from-crc.ensures in
    accepts_put _ _ _ _ _ _ _ _ refl (sym c.list_within.ensures ∙ c.if-not-list_within.false) there.room (rw (there.place, crc)) (let b = there.bytes in search rules)
