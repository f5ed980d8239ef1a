use mathlib.Core.Path.{◌≡◌}
use mathlib.Core.Option.{none}
use Rattle.refusals.specs.Answers.{opt_of}
use Rattle.index.specs.Index.{has_name}
use Rattle.index.specs.Answers.{entry_row}
use Rattle.index.proofs.Sought.{left_at}
use Rattle.index.proofs.look_up.Given as goal

abbrev pub invariant-loop-numbers : goal.invariant-loop-numbers
invariant-loop-numbers l =
    left_at l.input (has_name l.input l.name) (opt_of entry_row l.before) (opt_of entry_row l.found) l.rows l.numbers-index
    ≡ left_at l.input (has_name l.input l.name) none none l.rows 0
