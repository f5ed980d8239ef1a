-- rule: the fewest bytes that hold a number.
use Rattle.std.specs.Prelude.{ℕ, zero, suc, ◌^◌, Bool, cond, ltb}

-- the first of the k numbers from n on that the test holds of, else the one behind them
unfoldable pub first_that : ℕ → ℕ → (ℕ → Bool) → ℕ
first_that zero n p = n
first_that (suc k) n p = cond (p n) n (first_that k (suc n) p)

-- the fewest bytes, at least one, that hold v
unfoldable pub unsigned_count : ℕ → ℕ
unsigned_count v = first_that 8 1 (λ n. ltb v (256 ^ n))
