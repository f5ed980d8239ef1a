use mathlib.Core.Path.{sym, ◌∙◌}
use native.Mathlib.Omega.{arith}
use Rattle.name_order.proofs.Compared.{own_at, own_end, compared_so}
use Rattle.name_order.proofs.compare.Goals as goal

pub returns-then-x-i : goal.returns-then-x-i
returns-then-x-i c =
    let l = c.loop-i in
    c.cmp.ensures ∙ sym (own_at _ _ l.i (omega arith) (omega arith) c.if-x-i.true) ∙ l.invariant ∙ compared_so _ _

pub returns : goal.returns
returns c =
    let l = c.loop-i in
    c.cmp-2.ensures ∙ sym (own_end _ _ l.i (omega arith)) ∙ l.invariant ∙ compared_so _ _
