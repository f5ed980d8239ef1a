-- check: mark 1 of crate byte_count. Its contract allows one outcome for each input. Each crate has such a file.
use Rattle.std.specs.Prelude.{◌≡◌, ℕ}
use Rattle.byte_count.specs.Count.{unsigned_count}
use Rattle.decided.specs.One.{One}

-- every public function: over its parameters, what its `ensures` allows
pub record Decided : Type 0 where
  pub byte_count : (x : ℕ) → One (λ (r : ℕ). r ≡ unsigned_count x)
