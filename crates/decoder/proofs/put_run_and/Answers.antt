use Prim.Native.Nat.{ℕ, ◌+◌}
use mathlib.Core.List.{List}
use mathlib.Core.Path.{◌≡◌, ap, ◌∙◌}
use lib.ListN.{set, replicate}
use borrow.Author.Rules.{rules}
use Rattle.decoder.proofs.Stores.{run_fill, run_and}
use Rattle.decoder.proofs.put_run_and.Goals as goal

pub returns : goal.returns
returns c =
    let a = c.args in
    let part : c.fill.new.self ≡ replicate a.n 0x1b = search rules in
    ap (λ (r : List ℕ). set r (a.at + a.n) a.b) (run_fill a.buf.now a.at a.n 0x1b _ (search rules) part) ∙ run_and a.buf.now a.at a.n 0x1b a.b
