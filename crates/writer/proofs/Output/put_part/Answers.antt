use mathlib.Core.Path.{refl, ◌∙◌}
use native.Mathlib.Omega.{arith}
use Prim.Native.Nat.{◌+◌}
use lib.ListN.{length}
use Rattle.writer.proofs.Puts.{cap_min, puts_copy, puts_beyond}
use Rattle.writer.proofs.Output.put_part.Goals.{then-end-self, else-end-self}
use Rattle.writer.proofs.Output.put_part.Goals as goal

pub returns : goal.returns
returns c =
    let w = c.args.self.now in
    let p = c.args.part.now in
    let e = c.saturating_add-end.ensures in
    elim c.if-end-self.branch [
      | then-end-self b ↦ rw b.self-is (record { same_output = refl; puts = λ h. puts_copy w.out.now w.at _ p _ _ e b.if-end-self.true b.copy_part.ensures refl (omega (arith, c.well_formed)) })
      | else-end-self b ↦ rw b.self-is (record { same_output = refl; puts = λ h. puts_beyond w.out.now w.at p _ (e ∙ cap_min (w.at + length p)) (omega (arith, e)) })
    ]
