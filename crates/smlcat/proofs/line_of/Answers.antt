use mathlib.Core.Path.{ap}
use borrow.Author.Rules.{rules}
use Rattle.decided.specs.Part.{LentPart}
use Rattle.smlcat.proofs.Lines.{line_stands}
use Rattle.smlcat.proofs.line_of.Goals as goal

pub returns : goal.returns
returns c =
    let a = c.args in
    let k = c.write_line in
    let q = c.payload in
    line_stands a.e a.d a.buf.now a.line.now k.new.out q.result.now k.result (ap (λ (x : LentPart). x.bytes) q.ensures) k.ensures c.unwrap_or.result c.unwrap_or.ensures (search rules) (search rules) (search rules)
