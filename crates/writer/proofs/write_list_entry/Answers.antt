use mathlib.Core.Path.{refl, sym, ◌∙◌}
use Prim.Native.Nat.{◌^◌, ◌<◌}
use native.Mathlib.Omega.{arith}
use lib.ListN.{length}
use borrow.Author.Rules.{rules}
use borrow.Author.Tests.{leb-true, leb-false}
use Rattle.writer.specs.Calls.{entry_to}
use Rattle.writer.proofs.Puts.{was_put}
use Rattle.writer.proofs.Calls.{refuses_place, refuses_due, refuses_span, refuses_room, accepts_put, entry_not_due, entry_due_claim}
use Rattle.writer.proofs.write_list_entry.Goals as goal

pub returns-then-out-place : goal.returns-then-out-place
unfolding entry_to
returns-then-out-place c = refuses_place _ _ _ _ _ _ c.if-out-place.true

pub returns-in_default : goal.returns-in_default
unfolding entry_to
returns-in_default c = rw c.in_default.is (refuses_due _ _ _ _ _ _ c.if-out-place.false refl)

pub returns-then-left-eq0 : goal.returns-then-left-eq0
unfolding entry_to
returns-then-left-eq0 c = rw c.in-Entries.is (refuses_due _ _ _ _ _ _ c.if-out-place.false (entry_not_due _ c.if-left-eq0.true))

pub returns-then-not-entry_within : goal.returns-then-not-entry_within
unfolding entry_to
returns-then-not-entry_within c = rw c.in-Entries.is (refuses_span _ _ _ _ _ _ c.if-out-place.false (entry_due_claim _ c.if-left-eq0.false) (sym c.entry_within.ensures ∙ c.if-not-entry_within.true))

pub returns-then-not-entry_fits : goal.returns-then-not-entry_fits
unfolding entry_to
returns-then-not-entry_fits c =
    rw c.in-Entries.is
    (refuses_room _ _ _ _ _ _ c.if-out-place.false (entry_due_claim _ c.if-left-eq0.false) (sym c.entry_within.ensures ∙ c.if-not-entry_within.false) (leb-false _ _ (sym c.entry_fits.ensures ∙ c.if-not-entry_fits.true)))

pub sum_from-crc-requires : goal.sum_from-crc-requires
sum_from-crc-requires c =
    let small : length c.args.out.now < 2 ^ 63 = omega (arith, c.well_formed) in
    let there = was_put _ c.put_entry.ensures (leb-true _ _ (sym c.entry_fits.ensures ∙ c.if-not-entry_fits.false)) small in
    (omega (arith, there.place), there.inside)

pub returns : goal.returns
unfolding entry_to
returns c =
    let small : length c.args.out.now < 2 ^ 63 = omega (arith, c.well_formed) in
    let there = was_put _ c.put_entry.ensures (leb-true _ _ (sym c.entry_fits.ensures ∙ c.if-not-entry_fits.false)) small in
    let crc = rw there.part at c.sum_from-crc.ensures in
    rw c.in-Entries.is
    (accepts_put _ _ _ _ _ _ _ _ (entry_due_claim _ c.if-left-eq0.false) (sym c.entry_within.ensures ∙ c.if-not-entry_within.false) there.room (rw (there.place, crc)) (let b = there.bytes in search rules))
