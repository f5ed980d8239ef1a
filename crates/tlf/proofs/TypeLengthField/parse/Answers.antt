use native.Mathlib.Omega.{arith}
use Rattle.refusals.proofs.Read.{ok_at, byte_ok}
use Rattle.tlf.proofs.Lengths.{length_ok}
use Rattle.tlf.proofs.TypeLengthField.parse.Goals as goal

pub overflow_sub-tlf_len : goal.overflow_sub-tlf_len
overflow_sub-tlf_len c =
    let h = ok_at c.in_ok-b.ensures (byte_ok _ _) in
    let k = ok_at c.in_ok-len.ensures (length_ok _ _ _ _ _ _) in
    omega arith
