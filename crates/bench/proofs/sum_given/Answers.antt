use mathlib.Core.Path.{◌≡◌, ap, ◌∙◌}
use Rattle.std.specs.Prelude.{Ok, None}
use Prim.Native.Nat.{◌≤◌, ◌<◌, ◌+◌, ◌*◌, ◌^◌}
use native.Mathlib.Omega.{arith}
use lib.ListN.{length}
use Rattle.frame.specs.Frame.{frame_of}
use Rattle.refusals.specs.Numbers.{limit}
use Rattle.encoder.proofs.Encodes.{frame_short}
use Rattle.bench.proofs.Streams as streams
use Rattle.bench.proofs.Streams.{LeftToGive}
use borrow.Author.Rules.{rules}
use Rattle.bench.proofs.sum_given.Goals as goal

pub overflow_add-total : goal.overflow_add-total
overflow_add-total c =
    let l = c.loop in
    let a = c.args in
    let short = frame_short a.payload.now in
    let small : length a.payload.now ≤ limit = c.requires in
    let b : c.in-Ok-Some.b < 256 = search rules in
    let f : l.total + c.in-Ok-Some.b < 2 ^ 64 = omega (arith, short, small, b, l.invariant.0, l.invariant.1) in
    record { fits = f }

pub loop-preserved : goal.loop-preserved
loop-preserved c =
    let l = c.loop in
    let a = c.args in
    let g = c.next-g in
    let is = c.in-Ok-Some in
    let z = streams.byte_next l.e a.payload.now (frame_of a.payload.now) l.counter l.total g.result g.ensures l.invariant.0 l.invariant.2 l.invariant.3 is.b (is.is ∙ ap Ok (rw is.is at is.field-0-is)) in
    let b : is.b < 256 = search rules in
    let t : l.total + is.b ≤ 255 * (l.counter + 1) = omega (arith, b, l.invariant.1) in
    (z.0, t, z.1, z.2)

pub returns-in_default : goal.returns-in_default
returns-in_default c =
    let l = c.loop in
    let a = c.args in
    let g = c.next-g in
    let n : c.in_default.field-0 ≡ None = search rules in
    streams.none_given l.e a.payload.now (frame_of a.payload.now) l.counter l.total g.result g.ensures l.invariant.0 l.invariant.2 l.invariant.3 (c.in_default.is ∙ ap Ok n)

pub returns-in_default-2 : goal.returns-in_default-2
returns-in_default-2 c =
    let l = c.loop in
    let a = c.args in
    let g = c.next-g in
    streams.none_refused l.e a.payload.now (frame_of a.payload.now) l.counter l.total g.result g.ensures l.invariant.0 l.invariant.2 l.invariant.3 _ c.in_default.is

pub returns : goal.returns
returns c =
    let l = c.loop in
    let a = c.args in
    streams.sum_is_all (frame_of a.payload.now) l.counter l.total (omega (arith, frame_short a.payload.now, c.loop-test.false)) l.invariant.3
