use native.Mathlib.Omega.{arith}
use Rattle.refusals.proofs.Read.{ok_at}
use Rattle.numbers.proofs.Numbers.{raw_ok}
use Rattle.numbers.proofs.parse_integer.Goals as goal

pub carry_sign-requires : goal.carry_sign-requires
carry_sign-requires g c =
    let ok = (ok_at c.in_ok-num.ensures (raw_ok _ _ _ _ c.type_inv.input)).0 in
    (ok.low, omega (arith, ok.high, c.requires), ok.small)
