-- rule: the second way of searching, document 02's Q-7, by the last bytes.
use Rattle.std.specs.Prelude.{Bool, cond, List, ℕ, zero, suc, ◌-◌, length, take, drop}
use Rattle.frame.specs.Frame.{start_seq, same}

-- do the bytes l end with the first k of the start sequence?
abbrev pub ends_with : ℕ → List ℕ → Bool
ends_with k l = same (drop (length l - k) l) (take k start_seq)

-- the greatest number up to k that the test holds of, or 0
unfoldable pub greatest : ℕ → (ℕ → Bool) → ℕ
greatest zero test = 0
greatest (suc k) test = cond (test (suc k)) (suc k) (greatest k test)

-- the most of the start sequence's first bytes that the bytes l end with
unfoldable pub most_matched : List ℕ → ℕ
most_matched l = greatest 8 (λ k. ends_with k l)
