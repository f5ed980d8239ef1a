use native.Mathlib.Omega.{arith}
use Rattle.index.proofs.Heap.{top_of}
use Rattle.index.proofs.Rows.{before_order}
use Rattle.index.proofs.heap_top.Goals as goal

pub returns : goal.returns
returns c = (top_of (before_order _) c.larger_of-left.ensures.0 c.larger_of.ensures.0, omega (arith, c.larger_of-left.ensures.1, c.larger_of.ensures.1))
