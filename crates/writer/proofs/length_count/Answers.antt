use Prim.Native.Nat.{ℕ, ◌^◌, ◌≤◌, ◌<◌}
use mathlib.Core.Path.{◌≡◌, refl, sym, ◌∙◌}
use mathlib.Core.Bool.{Bool}
use native.Mathlib.Omega.{arith}
use lib.Dec.{ltb}
use borrow.Author.Tests.{leb-true, leb-false, lt-ltb, le-ltb}
use Rattle.tlf.specs.Written.{total}
use Rattle.writer.specs.Fields.{length_count}
use Rattle.writer.proofs.Numbers.{first_pass, first_stop, total_le}
use Rattle.writer.proofs.length_count.Goals as goal

pub loop-n-init : goal.loop-n-init
unfolding length_count
loop-n-init c = refl

pub loop-n-preserved : goal.loop-n-preserved
loop-n-preserved c =
    let a = c.args in
    let l = c.loop-n in
    let k : 16 ^ l.n ≤ total a.ty a.len l.n = leb-true _ _ (rw (c.over.ensures, c.total.ensures) at c.if-not-over.false) in
    let p : ℕ → Bool = λ m. ltb (total a.ty a.len m) (16 ^ m) in
    sym (first_pass l.n p (omega arith) (le-ltb (total a.ty a.len l.n) (16 ^ l.n) k)) ∙ l.invariant

pub returns-then-not-over : goal.returns-then-not-over
returns-then-not-over c =
    let a = c.args in
    let l = c.loop-n in
    let k : total a.ty a.len l.n < 16 ^ l.n = leb-false _ _ (rw (c.over.ensures, c.total.ensures) at c.if-not-over.true) in
    let p : ℕ → Bool = λ m. ltb (total a.ty a.len m) (16 ^ m) in
    (sym (first_stop l.n p (omega arith) (lt-ltb (total a.ty a.len l.n) (16 ^ l.n) k)) ∙ l.invariant, omega arith, omega arith)

pub returns : goal.returns
returns c =
    let a = c.args in
    let l = c.loop-n in
    let e : l.n ≡ 16 = omega arith in
    let p : ℕ → Bool = λ m. ltb (total a.ty a.len m) (16 ^ m) in
    (sym (first_stop 16 p (omega arith) (lt-ltb (total a.ty a.len 16) (16 ^ 16) (omega (arith, total_le a.ty a.len 16)))) ∙ rw e at l.invariant, omega arith, omega arith)
