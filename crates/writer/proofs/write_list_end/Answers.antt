use mathlib.Core.Path.{refl, sym, ◌∙◌}
use Prim.Native.Nat.{◌^◌, ◌<◌}
use native.Mathlib.Omega.{arith}
use lib.ListN.{length}
use borrow.Author.Rules.{rules}
use Rattle.writer.specs.Calls.{end_to}
use Rattle.writer.proofs.Puts.{was_put}
use Rattle.writer.proofs.Calls.{refuses_place, refuses_due, refuses_span, refuses_room, accepts_put, run_short, run_fits, with_trailer, end_not_due, end_due_claim}
use Rattle.writer.proofs.write_list_end.Goals as goal

pub returns-then-out-place : goal.returns-then-out-place
unfolding end_to
returns-then-out-place c = refuses_place _ _ _ _ _ _ c.if-out-place.true

pub returns-in_default : goal.returns-in_default
unfolding end_to
returns-in_default c = rw c.in_default.is (refuses_due _ _ _ _ _ _ c.if-out-place.false refl)

pub returns-then-left-gt0 : goal.returns-then-left-gt0
unfolding end_to
returns-then-left-gt0 c = rw c.in-Entries.is (refuses_due _ _ _ _ _ _ c.if-out-place.false (end_not_due _ c.if-left-gt0.true))

pub returns-then-not-opt_within : goal.returns-then-not-opt_within
unfolding end_to
returns-then-not-opt_within c = rw c.in-Entries.is (refuses_span _ _ _ _ _ _ c.if-out-place.false (end_due_claim _ c.if-left-gt0.false) (sym c.opt_within.ensures ∙ c.if-not-opt_within.true))

pub returns-then-out-tried : goal.returns-then-out-tried
unfolding end_to
returns-then-out-tried c =
    let run = with_trailer _ _ c.sum_list_end-sum.ensures c.put_list_end.ensures c.put_trailer.ensures in
    rw c.in-Entries.is
    (refuses_room _ _ _ _ _ _ c.if-out-place.false (end_due_claim _ c.if-left-gt0.false) (sym c.opt_within.ensures ∙ c.if-not-opt_within.false) (run_short _ _ run (omega (arith, c.well_formed)) (omega (arith, c.well_formed)) c.if-out-tried.true))

pub returns : goal.returns
unfolding end_to
returns c =
    let sum = c.sum_list_end-sum.ensures in
    let run = with_trailer _ _ sum c.put_list_end.ensures c.put_trailer.ensures in
    let small : length c.args.out.now < 2 ^ 63 = omega (arith, c.well_formed) in
    let room = run_fits _ (length c.args.out.now) run (omega (arith, c.well_formed)) small c.if-out-tried.false in
    let there = was_put _ (with_trailer _ _ sum c.put_list_end-2.ensures c.put_trailer-2.ensures) room small in
    rw c.in-Entries.is
    (accepts_put _ _ _ _ _ _ _ _ (end_due_claim _ c.if-left-gt0.false) (sym c.opt_within.ensures ∙ c.if-not-opt_within.false) room (rw there.place) (let b = there.bytes in search rules))
