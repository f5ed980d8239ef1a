-- check: mark 1 of crate whole. Its contract allows one outcome for each input, and its view loses nothing. Each crate has such a file.
use Rattle.std.specs.Prelude.{◌≡◌, List, ℕ, Result}
use Rattle.whole.specs.Whole.{read_to}
use Rattle.whole.specs.Answers.{whole_read, after_whole}
use Rattle.whole.specs.declared.WholeMessage.{WholeMessage}
use Rattle.whole.specs.declared.WholeError.{WholeError}
use Rattle.decided.specs.One.{One, Injective, With}

-- every view that a contract cites
pub record Views : Type 0 where
  pub whole : Injective (λ (r : With (Result WholeMessage WholeError)). after_whole (whole_read r.answer) r.memory)

-- every public function: over its parameters, what its `ensures` allows. What is lent stands for what it holds at the call; the table that may be written stands beside the answer
pub record Decided : Type 0 where
  pub read_message_claim : (input : List ℕ) (at : ℕ) (table : List ℕ) → One (λ (r : With (Result WholeMessage WholeError)). after_whole (whole_read r.answer) r.memory ≡ read_to input at table)
