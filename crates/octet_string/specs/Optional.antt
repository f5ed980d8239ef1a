-- rule: an optional field that is absent is one byte 01; else it is the field's own reading.
use Rattle.std.specs.Prelude.{ℕ, ◌+◌, List, Bool, cond, ◌&&◌, length, get_or, ltb, eqb}
use Rattle.std.proofs.Math.Option.{Option, some, none}
use Rattle.refusals.specs.Read.{Read, got, then}

unfoldable pub absent_at : List ℕ → ℕ → Bool
absent_at s at = ltb at (length s) && eqb (get_or s at 0) 0x01

unfoldable pub optional : {A : Type 0} → (List ℕ → ℕ → Read A) → List ℕ → ℕ → Read (Option A)
optional read s at =
    cond (absent_at s at) (got none (at + 1))
    (then (read s at) λ a next. got (some a) next)
