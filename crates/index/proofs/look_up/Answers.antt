use mathlib.Core.Path.{sym, ◌∙◌}
use borrow.Author.Rules.{rules}
use Rattle.index.proofs.Sought.{turn_taken, turn_refused, turns_over, found_is, look_all}
use Rattle.index.proofs.look_up.Goals as goal

pub returns-then-not-row_is_sound : goal.returns-then-not-row_is_sound
returns-then-not-row_is_sound c =
    let w = c.loop-numbers in
    sym (turn_refused _ _ _ _ _ _ _ c.loop-numbers-test.true c.as_row-row.ensures (sym c.row_is_sound.ensures ∙ c.if-not-row_is_sound.true)) ∙ w.invariant
    ∙ look_all _ _ _ _ c.if-input-gt-LIMIT.false (search rules) c.as_chunks.ensures.front

pub loop-numbers-preserved : goal.loop-numbers-preserved
loop-numbers-preserved c =
    let w = c.loop-numbers in
    rw c.first_of-found.ensures
    (turn_taken _ _ _ _ _ _ _ c.loop-numbers-test.true c.as_row-row.ensures (sym c.row_is_sound.ensures ∙ c.if-not-row_is_sound.false) ∙ w.invariant)

pub returns : goal.returns
returns c =
    let w = c.loop-numbers in
    found_is w.found ∙ sym (turns_over _ _ _ _ _ _ c.loop-numbers-test.false) ∙ w.invariant
    ∙ look_all _ _ _ _ c.if-input-gt-LIMIT.false (search rules) c.as_chunks.ensures.front
