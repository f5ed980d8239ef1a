use Prim.Native.Nat.{ℕ}
use mathlib.Core.Path.{ap, ◌∙◌}
use native.Mathlib.Omega.{arith}
use Rattle.encoder.specs.Encoder.{looked}
use Rattle.encoder.proofs.Steps.{behind_start, step_looks, fourth, behind_escape}
use Rattle.encoder.proofs.Encoder.next_from_state.Goals as goal
use Rattle.encoder.proofs.Encoder.next_from_state.Goals.{in-LookingForEscape, in-Init-2, in-Init-2-2}

pub returns-in-LookingForEscape-2 : goal.returns-in-LookingForEscape-2
returns-in-LookingForEscape-2 c =
    let e = c.args.self in
    let s = c.in-LookingForEscape in
    let u = c.update-crc in
    c.give_byte-in-LookingForEscape-2.ensures ∙ fourth e.place e.crc c.args.payload.now e.state s.run' u.result s.is (omega arith) u.ensures

pub returns : goal.returns
returns c =
    let e = c.args.self in
    let p = c.args.payload.now in
    let look = λ (n : ℕ). looked n e.place e.crc p in
    c.looking_for_escape.ensures
    ∙ elim c.match-self.branch [
      | in-LookingForEscape w ↦ ap look w.run-is ∙ step_looks e.place e.crc p e.state w.in-LookingForEscape.run' w.in-LookingForEscape.is (omega arith)
      | in-Init-2 w ↦ ap look w.run-is ∙ behind_start e.place e.crc p e.state w.in-Init.n w.in-Init.is (omega arith)
      | in-Init-2-2 w ↦ ap look w.run-is ∙ behind_escape e.place e.crc p e.state w.in-HandlingEscape.n w.in-HandlingEscape.is (omega arith)
    ]
