use mathlib.Core.Path.{◌∙◌}
use Rattle.encoder.proofs.Ends.{end_read_back}
use Rattle.encoder.proofs.Steps.{look_byte, look_end}
use Rattle.encoder.proofs.Encoder.looking_for_escape.Goals as goal

pub returns-then-self-payload : goal.returns-then-self-payload
returns-then-self-payload c =
    let a = c.args in
    c.give_byte.ensures ∙ look_byte a.n a.self.place a.self.crc c.run_of.result c.update_byte-crc.result a.payload.now c.if-self-payload.true c.run_of.ensures c.update_byte-crc.ensures

pub returns : goal.returns
returns c =
    let a = c.args in
    let n = c.num_padding_bytes-pad in
    let f = c.first_end in
    let x = c.end_crc-crc in
    c.give_end.ensures ∙ look_end a.n a.self.place a.self.crc n.result x.result _ a.payload.now c.if-self-payload.false n.ensures (end_read_back _ (record { sfits = f.type_inv }) ∙ f.ensures) x.ensures
