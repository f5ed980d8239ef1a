use Prim.Native.Nat.{ℕ, ◌/◌, ◌-◌, ◌*◌, ◌≤◌}
use mathlib.Core.List.{List}
use mathlib.Core.Path.{◌≡◌}
use native.Mathlib.Omega.{arith}
use borrow.Author.Rules.{rules}
use lib.ListN.{length, take, drop}
use Rattle.decoder_slice.proofs.Skips as skips
use Rattle.decoder_slice.proofs.fives_end.Goals as goal

pub returns : goal.returns
returns c =
    let s = c.args.chunk.now in
    let f = c.args.from in
    let r = c.fives_of_escapes.result in
    let e = c.fives_of_escapes.ensures in
    let part : List ℕ = take (length s - f) (drop f s) in
    let size : length part ≡ length s - f = search rules in
    let few : r ≤ length part / 5 = omega (arith, e.0, c.as_chunks.ensures.front_len) in
    let all = skips.in_runs (λ (v : ℕ). v ≡ 0x1b) 5 (length part / 5) part (λ x y h. omega (arith, h)) (omega arith) c.as_chunks.result.0.now c.as_chunks.ensures.front r few e.1 in (
      omega arith,
      omega (arith, few, size, c.requires),
      omega arith,
      skips.in_part (λ (v : ℕ). v ≡ 0x1b) s f (length s - f) (5 * r) (omega (arith, few, size)) (omega (arith, c.requires)) (λ i le lt. all i le (omega (arith, lt))),
    )
