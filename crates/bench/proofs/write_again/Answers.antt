use mathlib.Core.Path.{refl}
use borrow.Author.Rules.{rules}
use Rattle.common.specs.Answers.{list_entry}
use Rattle.bench.proofs.Writes.{rest_first, rest_taken, rest_refused_claim, rest_done}
use Rattle.bench.proofs.write_again.Goals as goal

pub loop-n-init : goal.loop-n-init
loop-n-init c = rw c.digest.ensures (refl, rest_first _ _ _ _ _)

pub returns-in-Err : goal.returns-in-Err
returns-in-Err c =
    let l = c.loop-n in
    let a = c.args in
    rest_refused_claim a.count l.n l.out l.w a.input.now (list_entry a.entry) _ _ _ c.loop-n-test.true c.in-Err.ensures l.invariant.1

pub loop-n-preserved : goal.loop-n-preserved
loop-n-preserved c =
    let l = c.loop-n in
    let a = c.args in
    (search rules, rest_taken a.count l.n l.out l.w a.input.now (list_entry a.entry) _ _ _ c.loop-n-test.true c.in-Ok.ensures l.invariant.1)

pub returns : goal.returns
returns c =
    let l = c.loop-n in
    let a = c.args in
    rest_done a.count l.n l.out l.w a.input.now (list_entry a.entry) _ l.auto.n-end c.loop-n-test.false l.invariant.1
