use mathlib.Core.Path.{ap, ◌∙◌}
use lib.IntN.{ℤ, suc_ℤ}
use Rattle.encoder.specs.Encoder.{end_byte}
use Rattle.encoder.proofs.Ends.{end_read_back}
use Rattle.encoder.proofs.Steps.{ended_is}
use Rattle.encoder.proofs.Encoder.give_end.Goals as goal

pub returns : goal.returns
returns c =
    let e = c.args.self in
    let back = end_read_back c.args.n c.ranges.n in
    let p = c.num_padding_bytes-pad in
    let x = c.finalize in
    let b = c.end_byte-b in
    let z = c.next_end in
    c.give_byte.ensures
    ∙ ended_is c.args.n _ e.place e.crc p.result b.result x.result p.ensures x.ensures
    (b.ensures ∙ ap (λ (n : ℤ). end_byte n p.result x.result) back) (end_read_back z.result (record { sfits = z.type_inv }) ∙ z.ensures ∙ ap suc_ℤ back)
