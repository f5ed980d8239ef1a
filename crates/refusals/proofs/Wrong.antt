-- What the contracts rule out: each wrong reading of docs/WRONG-READINGS.md that is told here is an outcome that the definition does not allow, at a small input.
use mathlib.Core.Path.{◌≡◌, ap}
use Prim.Native.Nat.{ℕ}
use native.Mathlib.Omega.{arith}
use Rattle.refusals.specs.Read.{Refusal}
use Rattle.refusals.specs.Answers.{refusal_of, fault_of}
use Rattle.refusals.specs.declared.ParseError.TheVariants.{UnexpectedEOF, TlfMismatch}

-- an end of input at 3 is 10, not 12
fault_of_another_error : fault_of (record { error = TlfMismatch; place = 3 }) ≡ refusal_of UnexpectedEOF 3 → ⊥
fault_of_another_error h = let n : ◌≡◌ {A = ℕ} 12 10 = ap (λ (r : Refusal). r.number) h in omega (arith, n)
