use mathlib.Core.Path.{sym, ◌∙◌}
use native.Mathlib.Omega.{arith}
use borrow.Author.Tests.{le-leb}
use lib.ListN.{length}
use Rattle.frame.specs.Frame.{frame_of}
use Rattle.encoder.proofs.Encodes.{frame_short}
use Rattle.encoder.proofs.fits.Goals as goal

pub returns-then-len-room : goal.returns-then-len-room
returns-then-len-room c =
    let a = c.args in
    le-leb _ a.room c.if-len-room.true ∙ sym (le-leb (length (frame_of a.payload.now)) a.room (omega (arith, frame_short a.payload.now, c.if-len-room.true)))
