use Rattle.decoder.proofs.Decoder.new.Goals as goal

pub returns : goal.returns
returns c = c.with_way.ensures
