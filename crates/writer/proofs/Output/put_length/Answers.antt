use native.Mathlib.Omega.{arith}
use mathlib.Core.Path.{◌≡◌}
use Rattle.tlf.specs.Written.{length_bytes}
use Rattle.writer.proofs.Puts.{still_less, still_none}
use Rattle.writer.proofs.Numbers.{next_length}
use Rattle.writer.proofs.Output.put_length.Goals as goal

pub loop-k-preserved : goal.loop-k-preserved
loop-k-preserved c = still_less _ (rw (next_length c.loop-k.k c.args.v (omega arith)) at c.loop-k.invariant) (rw (c.more_bit.ensures, c.nibble.ensures.0) at c.put_next.ensures)

pub returns : goal.returns
unfolding length_bytes
returns c = let e : c.loop-k.k ≡ 0 = omega arith in still_none (rw e at c.loop-k.invariant)
