use Prim.Native.Nat.{◌+◌, ◌*◌, ◌/◌, ◌%◌}
use mathlib.Core.Path.{◌≡◌}
use native.Mathlib.Omega.{arith}
use Rattle.writer.specs.Messages.{write_trailer}
use Rattle.writer.proofs.Puts.{adds_then}
use Rattle.writer.proofs.Output.put_trailer.Goals as goal

pub returns : goal.returns
unfolding write_trailer
returns c =
    let e : c.swap_bytes.result ≡ c.finalize.result % 256 * 256 + c.finalize.result / 256 = omega arith in
    adds_then _ _ (rw (e, c.finalize.ensures) at c.put_unsigned.ensures) c.put_next.ensures
