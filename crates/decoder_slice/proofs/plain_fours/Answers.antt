use Prim.Native.Nat.{ℕ, ◌/◌, ◌≤◌}
use mathlib.Core.Path.{◌≡◌}
use native.Mathlib.Omega.{arith}
use lib.ListN.{length}
use Rattle.decoder_slice.proofs.Skips as skips
use Rattle.decoder_slice.proofs.plain_fours.Goals as goal

pub returns : goal.returns
returns c =
    let s = c.args.part.now in
    let e = c.fours_before_escape.ensures in
    let few : c.fours_before_escape.result ≤ length s / 4 = omega (arith, e.0, c.as_chunks.ensures.front_len) in
    let all = skips.in_runs (λ (v : ℕ). v ≡ 0x1b → ⊥) 4 (length s / 4) s (λ x y h. omega (arith, h)) (omega arith) c.as_chunks.result.0.now c.as_chunks.ensures.front c.fours_before_escape.result few e.1 in
    (omega (arith, few), λ i le lt. all i le (omega (arith, lt)))
