-- check: mark 1 of crate walk. Its contracts allow one outcome for each input, and its views lose nothing. Each crate has such a file.
use Rattle.std.specs.Prelude.{◌≡◌, List, ℕ, Result}
use Rattle.refusals.specs.declared.Fault.{Fault}
use Rattle.walk.specs.Walk.{item_at, walk_at}
use Rattle.walk.specs.Answers.{item_read, walked}
use Rattle.walk.specs.declared.Extent.{Extent}
use Rattle.walk.specs.declared.Item.{Item}
use Rattle.walk.specs.declared.WalkError.{WalkError}
use Rattle.decided.specs.One.{One, Injective}

-- every view that a contract cites
pub record Views : Type 0 where
  pub item : Injective item_read
  pub walk : Injective walked

-- every public function: over its parameters, what its `ensures` allows. A slice that is lent stands for what it holds at the call
pub record Decided : Type 0 where
  pub parse_item : (input : List ℕ) (at : ℕ) → One (λ (r : Result (Item × ℕ) Fault). item_read r ≡ item_at input at)
  pub walk : (input : List ℕ) (at : ℕ) → One (λ (r : Result Extent WalkError). walked r ≡ walk_at input at)
