use native.Mathlib.Omega.{arith}
use Rattle.packed.proofs.Again.{AsPacked, not_packing, noise_left}
use Rattle.packed.proofs.is_packing.Goals as goal

pub returns-then-kind_no-bytes : goal.returns-then-kind_no-bytes
returns-then-kind_no-bytes c =
    let a = c.args in
    not_packing a.bytes.now (λ i. omega (arith, c.type_inv.bytes i)) a.d c.requires.0 c.requires.1 (λ (p : AsPacked a.bytes.now a.d). grind arith)

pub returns : goal.returns
returns c =
    let a = c.args in
    rw (c.noise_count.ensures, c.number4.ensures)
    (noise_left a.bytes.now (λ i. omega (arith, c.type_inv.bytes i)) a.d c.requires.0 c.requires.1
    (record { kind = cc; count = cc; third = cc; sixth = cc; seventh = cc; index = cc; raw = cc }))
