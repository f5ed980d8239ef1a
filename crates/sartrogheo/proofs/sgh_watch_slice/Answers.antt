use mathlib.Core.Path.{sym, ap, ◌∙◌}
use Rattle.sartrogheo.specs.Cut.{opt_watch}
use Rattle.sartrogheo.proofs.Losses.{slice_can_be_packed}
use Rattle.sartrogheo.proofs.sgh_watch_slice.Goals as goal

pub put_watch-requires : goal.put_watch-requires
put_watch-requires c = slice_can_be_packed _ _ _ (sym (ap opt_watch c.in-Some.is) ∙ c.watch_in.ensures) c.watch_slice-r.result _ _ _ c.watch_slice-r.ensures
