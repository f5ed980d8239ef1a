use mathlib.Core.Path.{sym, ◌∙◌}
use Prim.Native.Nat.{◌≤◌, ◌<◌, ◌+◌, ◌^◌}
use lib.ListN.{length}
use Rattle.decoder_slice.proofs.Taken.{part_room}
use Rattle.smlcat.proofs.Laws.{fed_on, fed_stop, fed_done, stop_leaves, stopped_on}
use borrow.Author.Rules.{rules}
use Rattle.std.proofs.lemmas.Result.{err_from_is_err_and}
use Rattle.smlcat.proofs.drive.Goals as goal

pub returns-then-p-eq0-clause-ok : goal.returns-then-p-eq0-clause-ok
returns-then-p-eq0-clause-ok g c =
    let l = c.loop-i in
    let a = c.args in
    let p = c.push_slice-p in
    fed_stop l.at l.buf a.chunk.now l.i p.result _ p.ensures c.loop-i-test.true c.if-p-eq0.true ∙ l.invariant.1

pub overflow_add-i : goal.overflow_add-i
overflow_add-i g c =
    let l = c.loop-i in
    let a = c.args in
    let p = c.push_slice-p in
    let h : l.i + p.result.taken ≤ length a.chunk.now = part_room l.at l.buf a.chunk.now l.i p.result _ p.ensures c.loop-i-test.true in
    let w = c.well_formed in
    let z : length a.chunk.now < 2 ^ 64 = search rules in
    let f : l.i + p.result.taken < 2 ^ 64 = search rules in
    record { fits = f }

pub loop-i-smaller : goal.loop-i-smaller
loop-i-smaller g c =
    let l = c.loop-i in
    let a = c.args in
    let p = c.push_slice-p in
    let h : l.i + p.result.taken ≤ length a.chunk.now = part_room l.at l.buf a.chunk.now l.i p.result _ p.ensures c.loop-i-test.true in
    search rules

pub loop-i-preserved : goal.loop-i-preserved
loop-i-preserved g c =
    let l = c.loop-i in
    let a = c.args in
    let p = c.push_slice-p in
    (part_room l.at l.buf a.chunk.now l.i p.result _ p.ensures c.loop-i-test.true, fed_on l.at l.buf a.chunk.now l.i p.result _ p.ensures c.loop-i-test.true c.if-p-eq0.false ∙ l.invariant.1)

pub returns-clause-ok : goal.returns-clause-ok
returns-clause-ok g c =
    let l = c.loop-i in
    let a = c.args in
    sym (fed_done l.at l.buf a.chunk.now l.i c.loop-i-test.false) ∙ l.invariant.1

pub returns-in_err-print_event-clause-err : goal.returns-in_err-print_event-clause-err
returns-in_err-print_event-clause-err g c =
    let l = c.loop-i in
    let a = c.args in
    let p = c.push_slice-p in
    let q = err_from_is_err_and c.from_residual.result c.from_residual.ensures.1 in
    rw q.1 (stopped_on l.at a.d l.buf a.buf.now a.chunk.now p.new.buf l.i l.invariant.0 l.invariant.1 (stop_leaves l.at l.buf a.chunk.now l.i p.result _ p.ensures c.loop-i-test.true))
