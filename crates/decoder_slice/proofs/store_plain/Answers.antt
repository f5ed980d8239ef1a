use Prim.Native.Nat.{ℕ, ◌+◌, ◌-◌, ◌≤◌}
use mathlib.Core.Path.{◌≡◌}
use native.Mathlib.Omega.{arith}
use borrow.Author.Rules.{rules}
use lib.ListN.{length}
use Rattle.decoder.specs.declared.DecodeState.TheVariants.{ParsingNormal}
use Rattle.decoder_slice.proofs.Runs as runs
use Rattle.decoder_slice.proofs.store_plain.Goals as goal

pub returns : goal.returns
returns c =
    let a = c.args in
    let p = c.requires.0 in
    let e = c.plain_end-to.ensures in
    let most = c.min-most.ensures in
    let to = c.plain_end-to.result in
    let k : ℕ = to - a.from in
    let at : to ≡ a.from + k = omega (arith, e.0) in
    let fit : a.d.fill + k ≤ length a.buf.now = omega (arith, e.0, e.1, most, p) in
    let inside : a.from + k ≤ length a.chunk.now = omega (arith, e.0, e.1, most, c.requires) in (
      omega (arith, at, inside),
      e.0,
      runs.stored_there a.d c.moved_by.result ParsingNormal ParsingNormal a.buf.now a.chunk.now _ a.from k to at c.moved_by.ensures c.copy_part.ensures fit inside
          (runs.plain_run a.d a.buf.now a.chunk.now a.from k p.0 (omega (arith, p)) (search rules) (search rules) p.1 p.2 fit inside (λ i le lt. e.2 i le (omega (arith, at, lt)))),
    )
