use mathlib.Core.Path.{◌≡◌, refl, ap, ◌∙◌}
use mathlib.Core.List.{List}
use Prim.Native.Nat.{ℕ}
use Rattle.std.specs.Prelude.{Result, Ok, Err}
use Rattle.decoder.specs.declared.Decoder.{Decoder}
use Rattle.packed.specs.Packed.{Filled, filled, pack_into}
use Rattle.packed.specs.declared.PackError.{PackError}
use Rattle.packed.specs.declared.PackError.TheVariants.{BadState, WrongBuffer, OutputTooShort}
use Rattle.bench.proofs.bench_pack.Goals as goal

-- whatever is answered, the view has the output as it is
output-is : (r : Result (Unit {0}) PackError) (m : List ℕ) → m ≡ (filled r m).output
output-is (Ok a) m = refl
output-is (Err BadState) m = refl
output-is (Err WrongBuffer) m = refl
output-is (Err OutputTooShort) m = refl

pub returns : goal.returns
returns c =
    let a = c.args in
    let p = c.pack in
    output-is p.result p.new.out ∙ ap (λ (f : Filled). f.output) p.ensures ∙ ap (λ (d : Decoder). (pack_into d a.bytes.now).output) c.new.ensures
