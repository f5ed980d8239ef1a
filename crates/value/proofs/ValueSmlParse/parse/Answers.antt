use Rattle.value.proofs.Narrow.{unsigned_narrow, signed_narrow}
use Rattle.value.proofs.ValueSmlParse.parse.Goals as goal

pub signed_value-requires : goal.signed_value-requires
signed_value-requires c = signed_narrow _ _ c.in_ok-tlf.ensures

pub unsigned_value-requires : goal.unsigned_value-requires
unsigned_value-requires c = unsigned_narrow _ _ c.in_ok-tlf.ensures
