use borrow.Author.Rules.{rules}
use mathlib.Core.List.{[], ◌∷◌}
use mathlib.Core.Path.{sym, ◌∙◌}
use native.Mathlib.Omega.{arith}
use lib.ListN.{get_or}
use Rattle.lines.proofs.Laws.{hex_length, hex_more, hex_all}
use Rattle.lines.proofs.put_hex.Goals as goal

pub loop-b-preserved : goal.loop-b-preserved
loop-b-preserved c =
    let l = c.loop-b in
    let a = c.args in
    let k = c.put_byte-o in
    let i = l.b-index in
    (search rules, l.invariant.1, omega (arith, k.ensures.1, l.invariant.2, hex_length (get_or a.bytes.now i 0 ∷ [])), hex_more l.out k.new.out a.bytes.now l.o k.result i c.loop-b-test.true k.ensures ∙ l.invariant.3)

pub returns : goal.returns
returns c =
    let l = c.loop-b in
    let a = c.args in
    (sym (hex_all l.out a.bytes.now l.o l.b-index c.loop-b-test.false) ∙ l.invariant.3, omega (arith, hex_length a.bytes.now, l.invariant.2, c.loop-b-test.false))
