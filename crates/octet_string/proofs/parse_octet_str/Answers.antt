use Rattle.octet_string.proofs.Short.{octets_one}
use Rattle.octet_string.proofs.parse_octet_str.Goals as goal

pub returns-in-Some : goal.returns-in-Some
returns-in-Some c = let h = c.in-Some.ensures in octets_one _ _ _ h.0 h.1 h.2 h.3
