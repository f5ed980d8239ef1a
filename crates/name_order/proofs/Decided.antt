-- The contract names the outcome itself.
use Rattle.decided.proofs.Laws.{one_outcome}
use Rattle.name_order.specs.Decided.{Decided}

pub decided : Decided
decided = record { compare = λ x y. one_outcome _ }
