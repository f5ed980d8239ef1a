-- cut: bytes put into the output one after the other.
use Rattle.std.specs.Prelude.{cond, List, ◌≡◌, ◌≢◌, ℕ, ◌+◌, ◌<◌, length, drop, slice_index, eqb}
use Rattle.std.proofs.lemmas.List.Edits.{sets}
use Rattle.frame.specs.Frame.{escaped}

-- m' is m with the bytes from o on, and r is the place behind them
abbrev pub Stored : List ℕ → ℕ → List ℕ → ℕ → List ℕ → Type 0
Stored m' r m o bytes = (m' ≡ sets m o bytes) × (r ≡ o + length bytes)

-- what is left to write gives what all gives: from o on in m, the payload p from i on behind n 1b of a run gives what m₀, o₀, n₀ and i₀ gave, and ends where that ends
abbrev pub Writes : List ℕ → ℕ → ℕ → ℕ → List ℕ → ℕ → ℕ → ℕ → List ℕ → Type 0
Writes m o n i m₀ o₀ n₀ i₀ p =
    (sets m o (escaped n (drop i p)) ≡ sets m₀ o₀ (escaped n₀ (drop i₀ p)))
    × (o + length (escaped n (drop i p)) ≡ o₀ + length (escaped n₀ (drop i₀ p)))

-- the first k bytes are no 1b
abbrev pub NoneEscapes : ℕ → List ℕ → Type 0
NoneEscapes k p = (j : ℕ) → j < k → slice_index p j ≢ 0x1b

-- the run behind k bytes that are no 1b
abbrev pub run_after : ℕ → ℕ → ℕ
run_after k n = cond (eqb k 0) n 0
