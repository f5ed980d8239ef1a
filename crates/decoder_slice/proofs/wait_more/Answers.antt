use Prim.Native.Nat.{ℕ, ◌+◌, ◌-◌, ◌≤◌}
use mathlib.Core.Path.{◌≡◌}
use native.Mathlib.Omega.{arith}
use borrow.Author.Rules.{rules}
use lib.ListN.{length}
use Rattle.decoder_slice.proofs.Runs as runs
use Rattle.decoder_slice.proofs.wait_more.Goals as goal

pub returns : goal.returns
returns c =
    let a = c.args in
    let p = c.requires.0 in
    let e = c.escapes_end-to.ensures in
    let most = c.min-most.ensures in
    let to = c.escapes_end-to.result in
    let k : ℕ = to - a.from in
    let at : to ≡ a.from + k = omega (arith, e.0) in
    let inside : a.from + k ≤ length a.chunk.now = omega (arith, e.0, e.1, most, c.requires) in
    let three : a.n + k ≤ 3 = omega (arith, e.0, e.1, most, c.requires) in (
      omega (arith, at, inside),
      e.0,
      λ m h. rw (at, c.moved_by.ensures)
          (runs.wait_run a.d a.n m a.chunk.now a.from p.0 (omega (arith, p)) p.4 (search rules) (search rules) h p.2 c.requires.1 k three inside (λ i le lt. e.2 i le (omega (arith, at, lt)))),
    )
