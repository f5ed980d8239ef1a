use borrow.Author.Rules.{rules}
use Prim.Native.Nat.{◌+◌}
use mathlib.Core.Path.{◌≡◌, refl, sym, ap, ◌∙◌}
use native.Mathlib.Omega.{arith}
use lib.ListN.{length, drop}
use Rattle.frame.specs.Frame.{escaped}
use Rattle.encoder.proofs.Stores.{escaped_long, lent_from, plain_done, byte_done, byte_room, all_done}
use Rattle.encoder.proofs.put_escaped.Goals as goal

pub loop-i-init : goal.loop-i-init
loop-i-init c = (search rules, search rules, search rules, c.requires, (refl, refl))

pub put_unescaped-k-requires : goal.put_unescaped-k-requires
put_unescaped-k-requires c =
    let l = c.loop-i in
    let a = c.args in
    let p = a.payload.now in
    let e : l.o + length (escaped l.n (drop l.i p)) ≡ a.at + length (escaped 0 p) = l.invariant.4.1 in
    omega (arith, e, l.invariant.3, l.invariant.2, escaped_long l.n (drop l.i p), ap length (lent_from p l.i))

pub put_byte-o-requires : goal.put_byte-o-requires
put_byte-o-requires c =
    let l = c.loop-i in
    let a = c.args in
    let p = a.payload.now in
    let k = c.put_unescaped-k in
    let g = c.run_after-n in
    let m = k.new.out in
    let w = plain_done l.out m a.out.now p _ l.o k.result l.n g.result l.i a.at 0 0 (lent_from p l.i) k.ensures g.ensures.0 l.invariant.4 in
    let f : l.o + k.result + length (escaped g.result (drop (l.i + k.result) p)) ≡ a.at + length (escaped 0 p) = w.1 in
    let same : length m ≡ length a.out.now = search rules in
    byte_room p (l.o + k.result) g.result (l.i + k.result) (length m) c.if-i-payload.true (omega (arith, f, same, l.invariant.3))

pub loop-i-preserved-then-i-payload : goal.loop-i-preserved-then-i-payload
loop-i-preserved-then-i-payload c =
    let l = c.loop-i in
    let a = c.args in
    let p = a.payload.now in
    let k = c.put_unescaped-k in
    let g = c.run_after-n in
    let m = k.new.out in
    let w = plain_done l.out m a.out.now p _ l.o k.result l.n g.result l.i a.at 0 0 (lent_from p l.i) k.ensures g.ensures.0 l.invariant.4 in
    let q = c.put_byte-o in
    let h = c.run_with-n in (
      search rules,
      h.ensures.1,
      search rules,
      l.invariant.3,
      byte_done m q.new.out a.out.now p (l.o + k.result) q.result g.result h.result (l.i + k.result) a.at 0 0 c.if-i-payload.true q.ensures h.ensures.0 w,
    )

pub loop-i-preserved : goal.loop-i-preserved
loop-i-preserved c =
    let l = c.loop-i in
    let a = c.args in
    let p = a.payload.now in
    let k = c.put_unescaped-k in
    let g = c.run_after-n in
    let m = k.new.out in
    let w = plain_done l.out m a.out.now p _ l.o k.result l.n g.result l.i a.at 0 0 (lent_from p l.i) k.ensures g.ensures.0 l.invariant.4 in
    (search rules, g.ensures.1, search rules, l.invariant.3, w)

pub returns : goal.returns
returns c =
    let l = c.loop-i in
    let a = c.args in
    let d = all_done l.out l.o l.n l.i a.payload.now c.loop-i-test.false in
    (sym d.0 ∙ l.invariant.4.0, sym d.1 ∙ l.invariant.4.1)
