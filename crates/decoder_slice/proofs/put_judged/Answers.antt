use Prim.Native.Nat.{ℕ, ◌+◌, ◌-◌, ◌≤◌}
use mathlib.Core.Path.{◌≡◌, refl, ap, ◌∙◌}
use native.Mathlib.Omega.{arith}
use borrow.Author.Rules.{rules}
use lib.ListN.{length, take, drop}
use Rattle.decoder.specs.declared.DecodeState.TheVariants.{ParsingEscPayload}
use Rattle.decoder_slice.proofs.Runs as runs
use Rattle.decoder_slice.proofs.put_judged.Goals as goal

pub returns : goal.returns
returns c =
    let a = c.args in
    let p = c.requires.0 in
    let k = c.min-k.result in
    let most = c.min-most.ensures in
    let few = c.min-k.ensures in
    let fit : a.d.fill + k ≤ length a.buf.now = omega (arith, most, few, p) in
    let inside : a.from + k ≤ length a.chunk.now = omega (arith, most, few, c.requires) in
    let three : a.n + k ≤ 3 = omega (arith, few, c.requires) in
    let size : a.from + k - a.from ≡ k = omega arith in
    let copied : c.copy_part.new.out ≡ take k (drop a.from a.chunk.now) = c.copy_part.ensures ∙ ap (λ (n : ℕ). take n (drop a.from a.chunk.now)) size in (
      inside,
      omega arith,
      runs.stored_there a.d c.moved_by.result (ParsingEscPayload (a.n + k)) (ParsingEscPayload a.n) a.buf.now a.chunk.now _ a.from k _ refl c.moved_by.ensures copied fit inside
          (runs.judged_run a.d a.n a.buf.now a.chunk.now a.from k p.0 p.3 (search rules) (search rules) p.1 p.2 fit inside three),
    )
