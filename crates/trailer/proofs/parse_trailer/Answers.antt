use native.Mathlib.Omega.{arith}
use Rattle.refusals.proofs.Read.{ok_at}
use Rattle.numbers.proofs.Ahead.{unsigned_found}
use Rattle.trailer.proofs.parse_trailer.Goals as goal

pub message_crc-requires : goal.message_crc-requires
message_crc-requires c =
    let w = (ok_at c.in_ok-crc.ensures (unsigned_found 2 _ _)).1 in
    omega (arith, w.ahead, w.within)
