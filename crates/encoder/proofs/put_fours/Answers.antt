use borrow.Author.Rules.{rules}
use Prim.Native.Nat.{ℕ, ◌+◌, ◌*◌, ◌/◌, ◌<◌, ◌≤◌}
use mathlib.Core.Path.{◌≡◌, refl, subst}
use native.Mathlib.Omega.{arith}
use lib.ListN.{length, get_or}
use Rattle.std.specs.Prelude.{◌≢◌, []}
use Rattle.encoder.proofs.Stretches.{PutPlain, passed_none, passed_four}
use Rattle.encoder.proofs.put_fours.Goals as goal

pub loop-i-init : goal.loop-i-init
loop-i-init c = passed_none _ _ _

pub returns-then-contains : goal.returns-then-contains
returns-then-contains c = (omega (arith, c.loop-i-test.true, c.as_chunks.ensures.front_len), c.loop-i.invariant.0, c.loop-i.invariant.1)

pub loop-i-preserved : goal.loop-i-preserved
loop-i-preserved c =
    let a = c.args in
    let i = c.loop-i.i in
    let h : i < length a.rest.now / 4 = omega (arith, c.loop-i-test.true, c.as_chunks.ensures.front_len) in
    let ne : (j : ℕ) → j < 4 → get_or (get_or c.as_chunks.result.0.now i []) j 0 ≢ 0x1b = search rules in
    let room : a.at + length a.rest.now ≤ length c.loop-i.out = omega (arith, c.requires) in
    passed_four a.out.now c.loop-i.out a.rest.now c.copy_from_slice.new.self a.at i _ _ c.as_chunks.result.0.now c.as_chunks.ensures.front h ne c.copy_from_slice.ensures.after (omega arith) refl room c.loop-i.invariant

pub returns : goal.returns
returns c =
    let n : c.loop-i.i ≡ length c.as_chunks.result.0.now = omega arith in
    let all = subst (λ (k : ℕ). PutPlain c.loop-i.out c.args.out.now c.args.at c.args.rest.now (4 * k)) n c.loop-i.invariant in
    (omega (arith, c.as_chunks.ensures.front_len), all.0, all.1)
