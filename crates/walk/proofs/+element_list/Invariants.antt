use Rattle.std.proofs.Common.{◌≡◌, ◌+◌, ◌-◌, ◌*◌, ◌≤◌}
use Rattle.walk.specs.Cut.{elements_at, element_at}
use Rattle.walk.proofs.+element_list.Given as goal

abbrev pub decreases-element : goal.decreases-element
decreases-element l = 2 * l.depth

abbrev pub decreases-list : goal.decreases-list
decreases-list l = 2 * l.depth + 1

abbrev pub invariant-list-loop : goal.invariant-list-loop
invariant-list-loop l =
    (elements_at (element_at l.depth l.input) (l.count - l.counter) l.sum l.n ≡ elements_at (element_at l.depth l.input) l.count 0 l.at) × (l.sum ≤ l.n)
