-- check: mark 1 of crate index. Its contracts allow one outcome for each input, and its views lose nothing. Each crate has such a file.
use Rattle.std.specs.Prelude.{◌≡◌, List, ℕ, Result, Option}
use Rattle.whole.specs.declared.WholeError.{WholeError}
use Rattle.index.specs.Index.{index_to, look_up_in}
use Rattle.index.specs.Answers.{indexed, after_index, found_by}
use Rattle.index.specs.declared.Indexed.{Indexed}
use Rattle.index.specs.declared.Row.{Row}
use Rattle.index.specs.declared.FindError.{FindError}
use Rattle.decided.specs.One.{One, Injective, With}

-- every view that a contract cites
pub record Views : Type 0 where
  pub index : Injective (λ (r : With (Result Indexed WholeError)). after_index (indexed r.answer) r.memory)
  pub found : Injective found_by

-- every public function: over its parameters, what its `ensures` allows. What is lent stands for what it holds at the call; the table that may be written stands beside the answer
pub record Decided : Type 0 where
  pub build_index_claim : (input : List ℕ) (at : ℕ) (table : List ℕ) → One (λ (r : With (Result Indexed WholeError)). after_index (indexed r.answer) r.memory ≡ index_to input at table)
  pub look_up : (input table name : List ℕ) → One (λ (r : Result (Option Row) FindError). found_by r ≡ look_up_in input table name)
