use Rattle.losses.proofs.Taken as taken
use Rattle.losses.proofs.watch_slice.Goals as goal

pub watched_of-requires : goal.watched_of-requires
watched_of-requires c =
    let a = c.args in
    let p = c.push_slice-s in
    taken.slice_needs a.w a.buf.now a.chunk.now (cc) (cc) (cc) p.result _ p.ensures
