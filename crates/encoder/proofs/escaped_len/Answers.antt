use mathlib.Core.List.{[]}
use mathlib.Core.Path.{sym, ◌∙◌}
use Rattle.encoder.proofs.Stores.{counted_more, all_done}
use Rattle.encoder.proofs.escaped_len.Goals as goal

pub loop-b-preserved : goal.loop-b-preserved
loop-b-preserved c =
    let l = c.loop-b in
    let p = c.args.payload.now in
    let k = c.run_with-n in
    (k.ensures.1, counted_more p l.len l.n l.b-index c.bytes_of-len.result k.result c.loop-b-test.true c.bytes_of-len.ensures k.ensures.0 ∙ l.invariant.1)

pub returns : goal.returns
returns c =
    let l = c.loop-b in
    sym (all_done [] l.len l.n l.b-index c.args.payload.now c.loop-b-test.false).1 ∙ l.invariant.1
