-- check: mark 1 of crate name_order. Its contract allows one outcome for each input. Each crate has such a file.
use Rattle.std.specs.Prelude.{◌≡◌, List, ℕ}
use Rattle.name_order.specs.Order.{compared}
use Rattle.std.specs.declared.cmp.Ordering.{Ordering}
use Rattle.decided.specs.One.{One}

-- every public function: over its parameters, what its `ensures` allows. A slice that is lent stands for what it holds at the call
pub record Decided : Type 0 where
  pub compare : (x y : List ℕ) → One (λ (r : Ordering). r ≡ compared x y)
