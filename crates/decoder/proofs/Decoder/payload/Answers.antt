use mathlib.Core.Path.{sym, ◌∙◌}
use lib.ListN.{length}
use lib.Seq.{length-take-le}
use Rattle.decoder.proofs.Checks.{payload_room}
use Rattle.decoder.proofs.Decoder.payload.Goals as goal

pub slice_bounds-result-end : goal.slice_bounds-result-end
slice_bounds-result-end c =
    let a = c.args in
    sym (length-take-le a.self.fill a.buf.now (payload_room a.self (length a.buf.now) (sym c.payload_in.ensures ∙ c.if-payload_in.true)))
