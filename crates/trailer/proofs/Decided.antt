-- A contract allows one outcome for each input.
use Rattle.tlf.specs.Answers.{place_read}
use Rattle.decided.proofs.Laws.{injective}
use Rattle.tlf.proofs.Decided.{views as tlfViews}
use Rattle.trailer.specs.Decided.{Decided}

pub decided : Decided
decided =
    record {
      parse_message_end = λ input at. injective place_read tlfViews.place _;
      parse_trailer = λ input start at. injective place_read tlfViews.place _;
    }
