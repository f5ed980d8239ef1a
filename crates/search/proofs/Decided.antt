-- A contract allows one outcome for each input.
use Rattle.decided.proofs.Laws.{one_outcome}
use Rattle.search.specs.Decided.{Decided}

pub decided : Decided
decided = record { advance = λ n b. one_outcome _ }
