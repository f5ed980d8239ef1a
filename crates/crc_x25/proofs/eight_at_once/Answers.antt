use borrow.Author.Rules.{rules}
use mathlib.Core.Path.{refl}
use native.Mathlib.Omega.{arith}
use Rattle.crc_x25.specs.Crc.{bit_steps}
use Rattle.crc_x25.proofs.Fours.{eight_out}
use Rattle.crc_x25.proofs.eight_at_once.Goals as goal

pub loop-init : goal.loop-init
unfolding bit_steps
loop-init c = refl

pub returns : goal.returns
returns c =
    let l = c.loop in
    let w = c.from_le_bytes-word in
    eight_out c.args.reg l.r l.counter w.result c.args.bytes (search rules) (λ i. search rules) w.ensures (omega arith) l.invariant
