-- check: mark 1 of crate trailer. Its contracts allow one outcome for each input. Each crate has such a file.
use Rattle.std.specs.Prelude.{◌≡◌, List, ℕ, Result}
use Rattle.tlf.specs.Answers.{place_read}
use Rattle.refusals.specs.declared.Fault.{Fault}
use Rattle.trailer.specs.Trailer.{message_end_at, trailer_at}
use Rattle.decided.specs.One.{One}

-- every public function: over its parameters, what its `ensures` allows. A slice that is lent stands for what it holds at the call
pub record Decided : Type 0 where
  pub parse_message_end : (input : List ℕ) (at : ℕ) → One (λ (r : Result ℕ Fault). place_read r ≡ message_end_at input at)
  pub parse_trailer : (input : List ℕ) (start at : ℕ) → One (λ (r : Result ℕ Fault). place_read r ≡ trailer_at input start at)
