use Rattle.decoder.proofs.Decoder.with_way.Goals as goal

pub returns : goal.returns
returns c = c.new_record.ensures
