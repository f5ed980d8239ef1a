use Rattle.value.proofs.Narrow.{unsigned_narrow}
use Rattle.value.proofs.StatusSmlParse.parse.Goals as goal

pub status_of-requires : goal.status_of-requires
status_of-requires c = unsigned_narrow _ _ c.in_ok-tlf.ensures
