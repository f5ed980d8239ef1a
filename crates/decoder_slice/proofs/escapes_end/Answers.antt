use borrow.Author.Rules.{rules}
use Prim.Native.Nat.{ℕ, ◌+◌}
use mathlib.Core.Path.{◌≡◌, refl}
use lib.ListN.{get_or}
use Rattle.decoder_slice.proofs.Skips as skips
use Rattle.decoder_slice.proofs.escapes_end.Goals as goal

pub loop-k-preserved : goal.loop-k-preserved
loop-k-preserved c =
    let l = c.loop-k in
    let a = c.args in
    (search rules, search rules, search rules, skips.among_next (λ (i : ℕ). get_or a.chunk.now i 0 ≡ 0x1b) a.from l.k (l.k + 1) refl l.invariant.3 c.if-chunk-k-ne-ESC.false)
