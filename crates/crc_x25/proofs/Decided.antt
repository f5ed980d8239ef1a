-- A contract allows one outcome for each input.
use Rattle.decided.proofs.Laws.{one_outcome}
use Rattle.crc_x25.specs.Decided.{Decided}

pub decided : Decided
decided =
    record {
      digest = one_outcome _;
      update_byte = λ reg b. one_outcome _;
      update = λ reg s. one_outcome _;
      finalize = λ reg. one_outcome _;
      checksum = λ s. one_outcome _;
    }
