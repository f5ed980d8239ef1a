use Rattle.decoder.proofs.Search.{known_first}
use Rattle.decoder_slice.proofs.search_more.Goals as goal

pub search_first-requires : goal.search_first-requires
search_first-requires c =
    let p = c.requires in
    (p.0, known_first c.args.d.way p.0.0 c.if-d-eq-SECOND_WAY.false, p.1)
