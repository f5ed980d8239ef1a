use borrow.Author.Rules.{rules}
use mathlib.Core.Path.{◌≡◌}
use native.Mathlib.Omega.{arith}
use Rattle.std.specs.Prelude.{Some, None, Ok, Err}
use Rattle.losses.specs.declared.Seen.TheVariants.{Kept, Lost}
use Rattle.losses.proofs.Calls as calls
use Rattle.losses.proofs.next_loss.Goals as goal

pub loop-at-init : goal.loop-at-init
loop-at-init c =
    let a = c.args in
    (search rules, search rules, calls.going_new a.recording.now a.way a.buf.now a.from c.watch_from-w.result (cc) (cc) c.watch_from-w.ensures)

pub overflow_add-at : goal.overflow_add-at
overflow_add-at c =
    let l = c.loop-at in
    let g = calls.going_on _ _ _ _ _ _ _ l.invariant.2 (omega (arith, c.well_formed)) c.loop-at-test.true _ _ c.watch_slice-r.ensures in
    omega (arith, c.well_formed)

pub returns-in_err-l : goal.returns-in_err-l
returns-in_err-l c =
    let l = c.loop-at in
    let g = calls.going_on _ _ _ _ _ _ _ l.invariant.2 (omega (arith, c.well_formed)) c.loop-at-test.true _ _ c.watch_slice-r.ensures in
    let seen : c.watch_slice-r.result.seen ≡ Err c.in_err-l.field-0.0 = cc in
    calls.refused_never_goes _ _ _ _ _ _ _ _ (rw seen at g.by)

pub returns-in-Some-Lost : goal.returns-in-Some-Lost
returns-in-Some-Lost c =
    let l = c.loop-at in
    let g = calls.going_on _ _ _ _ _ _ _ l.invariant.2 (omega (arith, c.well_formed)) c.loop-at-test.true _ _ c.watch_slice-r.ensures in
    let seen : c.watch_slice-r.result.seen ≡ Ok (Some (Lost c.in-Some-Lost.l)) = cc in
    rw seen at g.by

pub loop-at-smaller-in-Some-Kept : goal.loop-at-smaller-in-Some-Kept
loop-at-smaller-in-Some-Kept c =
    let l = c.loop-at in
    let g = calls.going_on _ _ _ _ _ _ _ l.invariant.2 (omega (arith, c.well_formed)) c.loop-at-test.true _ _ c.watch_slice-r.ensures in
    omega arith

pub loop-at-preserved-in-Some-Kept : goal.loop-at-preserved-in-Some-Kept
loop-at-preserved-in-Some-Kept c =
    let l = c.loop-at in
    let k = c.in-Some-Kept in
    let g = calls.going_on _ _ _ _ _ _ _ l.invariant.2 (omega (arith, c.well_formed)) c.loop-at-test.true _ _ c.watch_slice-r.ensures in
    let seen : c.watch_slice-r.result.seen ≡ Ok (Some (Kept k.field-0-0 k.field-0-1)) = cc in
    (g.room, search rules, rw seen at g.by)

pub loop-at-smaller : goal.loop-at-smaller
loop-at-smaller c =
    let l = c.loop-at in
    let g = calls.going_on _ _ _ _ _ _ _ l.invariant.2 (omega (arith, c.well_formed)) c.loop-at-test.true _ _ c.watch_slice-r.ensures in
    omega arith

pub loop-at-preserved : goal.loop-at-preserved
loop-at-preserved c =
    let l = c.loop-at in
    let g = calls.going_on _ _ _ _ _ _ _ l.invariant.2 (omega (arith, c.well_formed)) c.loop-at-test.true _ _ c.watch_slice-r.ensures in
    let seen : c.watch_slice-r.result.seen ≡ Ok None = cc in
    (g.room, search rules, rw seen at g.by)

pub returns : goal.returns
returns c =
    let l = c.loop-at in
    calls.going_ends _ _ _ _ _ _ _ l.invariant.2 (omega (arith, c.well_formed)) c.loop-at-test.false l.invariant.0 _ c.watch_end.ensures
