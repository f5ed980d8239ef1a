-- cut: what sorting spends, one for each comparison of two rows: from a to b, where l is a number of bits that n fits.
use Rattle.std.specs.Prelude.{ℕ, ◌+◌, ◌*◌, ◌^◌, ◌<◌, ◌≤◌}

-- a row sinks in a heap of n: two comparisons a bit
abbrev pub Sunk : ℕ → ℕ → ℕ → Type 0
Sunk n a b = (l : ℕ) → n < 2 ^ l → b ≤ a + 2 * l

-- k rows do
abbrev pub Turns : ℕ → ℕ → ℕ → ℕ → Type 0
Turns n k a b = (l : ℕ) → n < 2 ^ l → b ≤ a + 2 * (l * k)

-- n rows are sorted: three comparisons for each row and bit, and one more for each row
abbrev pub Few : ℕ → ℕ → ℕ → Type 0
Few n a b = (l : ℕ) → n < 2 ^ l → b ≤ a + (3 * (l * n) + n)
