use borrow.Author.Rules.{rules}
use Rattle.lines.proofs.Whole.{line_put}
use Rattle.lines.proofs.write_whole.Goals as goal

pub returns : goal.returns
returns c =
    let k = c.put_text in
    line_put c.args.line.now c.args.out.now k.new.out k.result (search rules) k.ensures
