use mathlib.Core.Path.{sym, ◌∙◌}
use native.Mathlib.Omega.{arith}
use Rattle.index.proofs.Heap.{larger_none, larger_new, larger_old}
use Rattle.index.proofs.Rows.{before_order}
use borrow.Author.Rules.{rules}
use Rattle.index.proofs.larger_of.Goals as goal
use Rattle.index.proofs.larger_of.Goals.{else-j-end-via-then-j-end+else-is_before, else-j-end-via-else-j-end}

pub returns-then-is_before : goal.returns-then-is_before
returns-then-is_before c = (larger_new (before_order _) _ _ _ _ (search rules) (search rules) (sym c.is_before.ensures.0 ∙ c.if-is_before.true), omega (arith, c.is_before.ensures.1))

pub returns-else-j-end : goal.returns-else-j-end
returns-else-j-end c =
    elim c.else-j-end.branch [
      | else-j-end-via-then-j-end+else-is_before w ↦ (larger_old (before_order _) _ _ _ _ c.requires.0 (sym w.is_before.ensures.0 ∙ w.if-is_before.false), omega (arith, w.is_before.ensures.1, w.spent-is))
      | else-j-end-via-else-j-end w ↦ (larger_none (before_order _) _ _ _ _ c.requires.0 w.if-j-end.false, omega (arith, w.spent-is))
    ]
