use Prim.Native.Nat.{ℕ, ◌-◌}
use mathlib.Core.Path.{◌≡◌}
use borrow.Author.Rules.{rules}
use lib.ListN.{get_or}
use Rattle.decoder_slice.proofs.Skips as skips
use Rattle.decoder_slice.proofs.plain_end.Goals as goal

pub returns : goal.returns
returns c =
    let a = c.args in
    let f = c.plain_fours in
    let o = c.plain_ones in
    let front = skips.in_part (λ (v : ℕ). v ≡ 0x1b → ⊥) a.chunk.now a.from (a.to - a.from) f.result (search rules) (search rules) f.ensures.1 in
    (search rules, search rules, skips.among_both (λ (i : ℕ). get_or a.chunk.now i 0 ≡ 0x1b → ⊥) a.from _ o.result front o.ensures.2)
