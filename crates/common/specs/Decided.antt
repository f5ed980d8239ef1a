-- check: mark 1 of crate common. Its contracts allow one outcome for each input, and its views lose nothing. Each crate has such a file.
use Rattle.std.specs.Prelude.{◌≡◌, List, ℕ, Result}
use Rattle.refusals.specs.Answers.{reads_as}
use Rattle.refusals.specs.declared.Fault.{Fault}
use Rattle.common.specs.Fields.{open_at, close_at, entry_at}
use Rattle.common.specs.Answers.{open_response, close_response, list_entry}
use Rattle.common.specs.declared.OpenResponse.{OpenResponse}
use Rattle.common.specs.declared.CloseResponse.{CloseResponse}
use Rattle.common.specs.declared.ListEntry.{ListEntry}
use Rattle.decided.specs.One.{One, Injective}

-- every view that a contract cites
pub record Views : Type 0 where
  pub open_response_claim : Injective (reads_as open_response)
  pub close_response_claim : Injective (reads_as close_response)
  pub list_entry_claim : Injective (reads_as list_entry)

-- `parse` of every type that has it: over its parameters, what its `ensures` allows. A slice that is lent stands for what it holds at the call
pub record Decided : Type 0 where
  pub open_response_parse : (input : List ℕ) (at : ℕ) → One (λ (r : Result (OpenResponse × ℕ) Fault). reads_as open_response r ≡ open_at input at)
  pub close_response_parse : (input : List ℕ) (at : ℕ) → One (λ (r : Result (CloseResponse × ℕ) Fault). reads_as close_response r ≡ close_at input at)
  pub list_entry_parse : (input : List ℕ) (at : ℕ) → One (λ (r : Result (ListEntry × ℕ) Fault). reads_as list_entry r ≡ entry_at input at)
