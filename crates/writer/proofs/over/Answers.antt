use Prim.Native.Nat.{◌^◌}
use native.Mathlib.Nat.{one-le-pow}
use lib.Dec.{lit<}
use Rattle.writer.proofs.Numbers.{pow_16, over_is}
use Rattle.writer.proofs.over.Goals as goal

pub returns-then-n-ne16 : goal.returns-then-n-ne16
returns-then-n-ne16 c = rw (pow_16 c.args.n) (over_is c.args.v (16 ^ c.args.n) (one-le-pow c.args.n 16 (lit< tt)))
