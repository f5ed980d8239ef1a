-- A part that is handed back, by its block, its place and its bytes.
use mathlib.Core.Path.{◌≡◌}
use mathlib.Core.List.{List}
use Prim.Native.Nat.{ℕ, ◌+◌}
use Rattle.decided.specs.Part.{LentPart, part_at}

pub handed_is : (r p : LentPart) (at : ℕ) (l : List ℕ) → r.block ≡ p.block → r.place ≡ p.place + at → r.bytes ≡ l → r ≡ part_at p at l
handed_is r p at l b q h i = record { block = b i; place = q i; bytes = h i }
