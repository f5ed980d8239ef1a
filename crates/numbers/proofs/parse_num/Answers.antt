use Prim.Native.Nat.{◌+◌, ◌-◌}
use mathlib.Core.Path.{◌≡◌}
use native.Mathlib.Omega.{arith}
use Rattle.numbers.proofs.Short.{raw_one}
use Rattle.numbers.proofs.parse_num.Goals as goal

pub returns-in-Some : goal.returns-in-Some
returns-in-Some g c =
    let h = c.in-Some.ensures in
    let k : c.args.at + 1 + c.in-Some.len - (c.args.at + 1) ≡ c.in-Some.len = omega arith in
    rw (c.from_be_bytes-value.ensures, k) (raw_one _ _ _ _ _ c.requires h.0 h.1 h.2 h.3)
