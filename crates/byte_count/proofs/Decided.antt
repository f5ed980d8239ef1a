-- The contract names the outcome itself.
use Rattle.decided.proofs.Laws.{one_outcome}
use Rattle.byte_count.specs.Decided.{Decided}

pub decided : Decided
decided = record { byte_count = λ x. one_outcome _ }
