use native.Mathlib.Omega.{arith}
use Rattle.index.proofs.Few.{turns_begin, turns_end}
use Rattle.index.proofs.Steps.{heap_begin, heap_before}
use Rattle.index.proofs.make_heap.Goals as goal

pub loop-lo-init : goal.loop-lo-init
loop-lo-init c = (heap_begin _ _ _, turns_begin _ _ _)

pub sink-requires : goal.sink-requires
sink-requires c =
    let i = c.loop-lo.invariant in
    let g = c.loop-lo-test.true in
    let w = heap_before g i.0 in
    let a = c.requires in
    (omega (arith, w.low, g), a.0, omega (arith, a.1, w.kept.long), omega (arith, turns_end i.1 32 a.0, a.0, a.2), w.heap)
