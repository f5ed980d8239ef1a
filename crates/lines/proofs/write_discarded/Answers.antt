use borrow.Author.Rules.{rules}
use Prim.Native.Nat.{◌≤◌}
use mathlib.Core.Path.{sym}
use lib.ListN.{length}
use lib.Seq.{length-take-le}
use Rattle.lines.specs.Lines.{decimal}
use Rattle.lines.proofs.Laws.{decimal_ten}
use Rattle.lines.proofs.write_discarded.Goals as goal

pub slice_bounds-write_whole-end : goal.slice_bounds-write_whole-end
slice_bounds-write_whole-end c =
    let a = c.args in
    let k = c.put_text-len in
    let d : length (decimal a.n) ≤ 10 = decimal_ten a.n in
    sym (length-take-le k.result k.new.out (search rules))
