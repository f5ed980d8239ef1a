use mathlib.Core.Path.{◌∙◌}
use native.Mathlib.Omega.{arith}
use Rattle.common.specs.Answers.{list_entry}
use Rattle.whole.proofs.Loops.{row_of, row_put_length, store_next, entry_lies}
use Rattle.whole.proofs.store_rows.Goals as goal

pub store_row-requires : goal.store_row-requires
store_row-requires c =
    let k = entry_lies c.args.input.now c.loop-i.place _ _ c.in-Ok.ensures in
    let n = k.name_ends in
    let p = k.ahead in
    let q = k.within in
    (omega arith, omega arith, omega arith, omega arith)

pub loop-i-preserved : goal.loop-i-preserved
loop-i-preserved c =
    let a = c.args in
    let l = c.loop-i in
    let w = c.store_row in
    let e = list_entry c.in-Ok.entry in
    let next = c.in-Ok.next in (
      row_put_length l.table w.new.table l.i (row_of l.place e next) w.ensures ∙ l.invariant.0,
      store_next a.n l.i a.input.now l.place l.table w.new.table e next c.loop-i-test.true c.in-Ok.ensures w.ensures ∙ l.invariant.1,
    )
