use mir.Syntax.{w64}
use mir.ValLaws.{to_z-of_z}
use Rattle.writer.proofs.Numbers.{signed_twice, signed_range}
use Rattle.byte_count.specs.Count.{unsigned_count}
use lib.Signed.{mag}
use mathlib.Core.Path.{◌≡◌, sym, ap, ◌∙◌}
use Prim.Native.Nat.{ℕ, ◌*◌}
use Rattle.writer.proofs.signed_count.Goals as goal

pub returns : goal.returns
returns c =
    let z = c.args.z in
    let e : c.byte_count.result ≡ unsigned_count (2 * mag z) = c.byte_count.ensures ∙ ap (λ (x : ℕ). unsigned_count (2 * x)) (rw (to_z-of_z w64 z c.ranges.z) at c.magnitude.ensures) in
    let r = signed_range z c.ranges.z.sfits in
    rw e (sym (signed_twice z), r.0, r.1, r.2)
