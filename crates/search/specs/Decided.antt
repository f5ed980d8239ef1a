-- check: mark 1 of crate search. Its contract allows one outcome for each input. Each crate has such a file.
use Rattle.std.specs.Prelude.{◌≡◌, [], ◌∷◌, ◌++◌, ℕ, take}
use Rattle.frame.specs.Frame.{start_seq}
use Rattle.search.specs.Search.{most_matched}
use Rattle.decided.specs.One.{One}

-- every public function: over its parameters, what its `ensures` allows
pub record Decided : Type 0 where
  pub advance : (n b : ℕ) → One (λ (r : ℕ). r ≡ most_matched (take n start_seq ++ b ∷ []))
