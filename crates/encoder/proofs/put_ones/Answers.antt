use Prim.Native.Nat.{ℕ}
use mathlib.Core.Path.{◌≡◌, refl, subst}
use native.Mathlib.Omega.{arith}
use lib.ListN.{length}
use Rattle.encoder.proofs.Stretches.{PutPlain, passed_none, passed_one}
use Rattle.encoder.proofs.put_ones.Goals as goal

pub loop-i-init : goal.loop-i-init
loop-i-init c = passed_none _ _ _

pub returns-then-b-eq-ESC : goal.returns-then-b-eq-ESC
returns-then-b-eq-ESC c = (omega (arith, c.loop-i-test.true), c.loop-i.invariant.0, c.loop-i.invariant.1)

pub loop-i-preserved : goal.loop-i-preserved
loop-i-preserved c =
    let a = c.args in
    passed_one a.out.now c.loop-i.out a.rest.now a.at c.loop-i.i _ (omega (arith, c.loop-i-test.true)) refl c.if-b-eq-ESC.false c.loop-i.invariant

pub returns : goal.returns
returns c =
    let n : c.loop-i.i ≡ length c.args.rest.now = omega (arith, c.loop-i-test.false, c.loop-i.auto.i-end) in
    let all = subst (λ (k : ℕ). PutPlain c.loop-i.out c.args.out.now c.args.at c.args.rest.now k) n c.loop-i.invariant in
    (omega arith, all.0, all.1)
