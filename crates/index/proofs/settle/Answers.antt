use native.Mathlib.Omega.{arith}
use Rattle.index.proofs.Few.{turns_next, turns_end}
use Rattle.index.proofs.Steps.{settle_before, settle_heap, settle_kept, settle_next}
use Rattle.index.proofs.settle.Goals as goal

pub sink-requires : goal.sink-requires
sink-requires c =
    let g = c.loop-end-test.true in
    let i = c.loop-end.invariant in
    let w = settle_before g i.0 in
    let a = c.requires in
    let e = c.exchange.ensures in
    (omega (arith, g), omega (arith, i.0.low, a.0), omega (arith, (settle_kept w (omega arith) a.1 e).long, a.1, w.low), omega (arith, turns_end i.1 32 a.0, a.0, a.2), settle_heap w (omega arith) a.1 e)

pub loop-end-preserved : goal.loop-end-preserved
loop-end-preserved c =
    let g = c.loop-end-test.true in
    let i = c.loop-end.invariant in
    let w = settle_before g i.0 in
    let a = c.requires in
    let e = c.sink.ensures in
    (settle_next w (omega arith) a.1 c.exchange.ensures e.1 e.2, turns_next (omega arith) (omega (arith, i.0.low)) i.1 e.0)
