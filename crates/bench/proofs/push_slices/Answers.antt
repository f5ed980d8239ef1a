use mathlib.Core.Path.{◌∙◌}
use Rattle.bench.proofs.Pushes as pushes
use Rattle.bench.proofs.push_slices.Goals as goal

pub returns-then-p-eq0 : goal.returns-then-p-eq0
returns-then-p-eq0 c =
    let l = c.loop-i in
    let e = c.lent_to-to in
    let p = c.push_slice-p in
    pushes.slice_stop l.n l.at l.buf c.args.src.now l.i e.result p.result _ p.ensures e.ensures.0 e.ensures.1 c.if-p-eq0.true ∙ l.invariant.3
