use mathlib.Core.Path.{sym, ◌∙◌}
use borrow.Author.Tests.{leb-true}
use Rattle.encoder.proofs.Encodes.{encode_whole}
use Rattle.encoder.proofs.encode.Goals as goal

pub returns : goal.returns
returns c =
    let a = c.args in
    let e = sym c.fits.ensures ∙ c.if-not-fits.false in
    let k = c.put_frame in
    encode_whole a.payload.now a.out.now k.new.out k.result c.if-payload-gt-LIMIT.false e (leb-true _ _ e) k.ensures
