use Prim.Native.Nat.{◌+◌}
use Rattle.encoder.proofs.Stores.{lent_from}
use Rattle.encoder.proofs.Stretches.{passed_first, passed_part}
use Rattle.encoder.proofs.put_unescaped.Goals as goal

pub returns-then-k-lt16 : goal.returns-then-k-lt16
returns-then-k-lt16 c =
    let a = c.args in
    let k = c.put_ones-k in
    let first = passed_first a.out.now k.new.out a.rest.now a.at 16 k.result k.ensures in
    (first.0, first.1.0, first.1.1)

pub returns : goal.returns
returns c =
    let a = c.args in
    let p = a.rest.now in
    let k = c.put_ones-k in
    let f = c.put_fours in
    let t = c.put_ones-2 in
    let first = passed_first a.out.now k.new.out p a.at 16 k.result k.ensures in
    let long = passed_part a.out.now k.new.out f.new.out p _ a.at k.result f.result (lent_from p k.result) first f.ensures in
    let all = passed_part a.out.now f.new.out t.new.out p _ a.at (k.result + f.result) t.result (lent_from p (k.result + f.result)) long t.ensures in
    (all.0, all.1.0, all.1.1)
