use native.Mathlib.Omega.{arith}
use mathlib.Core.Path.{◌≡◌}
use Rattle.writer.specs.Fields.{in_bytes}
use Rattle.writer.proofs.Puts.{still_less, still_none}
use Rattle.writer.proofs.Numbers.{next_byte}
use Rattle.writer.proofs.Output.put_bytes.Goals as goal

pub loop-k-preserved : goal.loop-k-preserved
loop-k-preserved c = still_less _ (rw (next_byte c.loop-k.k c.args.v (omega arith)) at c.loop-k.invariant) (rw (c.byte_of.ensures) at c.put_next.ensures)

pub returns : goal.returns
unfolding in_bytes
returns c = let e : c.loop-k.k ≡ 0 = omega arith in still_none (rw e at c.loop-k.invariant)
