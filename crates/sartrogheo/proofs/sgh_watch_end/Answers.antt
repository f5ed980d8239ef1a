use mathlib.Core.Path.{sym, ap, ◌∙◌}
use Rattle.sartrogheo.specs.Cut.{opt_watch}
use Rattle.sartrogheo.proofs.Losses.{end_can_be_packed}
use Rattle.sartrogheo.proofs.sgh_watch_end.Goals as goal

pub put_watch-requires : goal.put_watch-requires
put_watch-requires c = end_can_be_packed _ _ _ (sym (ap opt_watch c.in-Some.is) ∙ c.watch_in.ensures) c.watch_end-r.result c.watch_end-r.ensures
