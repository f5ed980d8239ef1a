use native.Mathlib.Omega.{arith}
use Rattle.index.proofs.Few.{deep_begin, deep_next, deep_end, deep_small}
use Rattle.index.proofs.Steps.{sink_begin, sink_down, sink_next, sink_end}
use Rattle.index.proofs.sink.Goals as goal

pub loop-c-init : goal.loop-c-init
loop-c-init c =
    let a = c.requires in
    (sink_begin a.0 a.4 c.heap_top-c.ensures.0, deep_begin _ _)

pub heap_top-c-requires-in-loop-c : goal.heap_top-c-requires-in-loop-c
heap_top-c-requires-in-loop-c c =
    let w = c.loop-c.invariant in
    let d = sink_down w.0 c.loop-c-test.true in
    let a = c.requires in
    (d.1, omega (arith, a.2, w.0.kept.long), omega (arith, deep_small w.1 w.0.here a.1, a.3, c.heap_top-c.ensures.1))

pub loop-c-preserved : goal.loop-c-preserved
loop-c-preserved c =
    let w = c.loop-c.invariant in
    let n = c.loop-c-test.true in
    (sink_next w.0 n c.requires.2 c.exchange.ensures c.heap_top-c-in-loop-c.ensures.0, deep_next w.1 (sink_down w.0 n).0 c.heap_top-c-in-loop-c.ensures.1)

pub returns : goal.returns
returns c =
    let w = c.loop-c.invariant in
    (deep_end _ c.heap_top-c.ensures.1 w.1 w.0.here, sink_end w.0 c.loop-c-test.false, w.0.kept)
