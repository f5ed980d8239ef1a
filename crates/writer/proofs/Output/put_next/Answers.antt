use Rattle.writer.proofs.Puts.{puts_sets, puts_beyond, cap_min}
use Prim.Native.Nat.{◌+◌}
use native.Mathlib.Omega.{arith}
use mathlib.Core.List.{[], ◌∷◌}
use mathlib.Core.Path.{refl, ◌∙◌}
use Rattle.writer.proofs.Output.put_next.Goals as goal

pub returns-then-self : goal.returns-then-self
returns-then-self c =
    let w = c.args.self.now in
    record { same_output = refl; puts = λ h. puts_sets w.out.now w.at (c.args.b ∷ []) _ refl (omega arith) (omega (arith, c.well_formed)) }

pub returns : goal.returns
returns c =
    let w = c.args.self.now in
    record { same_output = refl; puts = λ h. puts_beyond w.out.now w.at (c.args.b ∷ []) _ (c.saturating_add-self.ensures ∙ cap_min (w.at + 1)) (omega arith) }
