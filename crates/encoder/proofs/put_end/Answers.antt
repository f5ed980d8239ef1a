use Rattle.encoder.proofs.Stores.{stored_end}
use Rattle.encoder.proofs.put_end.Goals as goal

pub returns : goal.returns
returns c =
    let a = c.args in
    let k = c.extend_from_slice-after in
    let e = c.extend_from_slice-escape in
    let q = c.extend_from_slice in
    stored_end a.out.now k.new.out e.new.out q.new.out a.at k.result e.result q.result a.pad c.requires.0 k.ensures e.ensures q.ensures
