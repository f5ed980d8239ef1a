-- check: mark 1 of crate message. Its contracts allow one outcome for each input, and its views lose nothing. Each crate has such a file.
use Rattle.std.specs.Prelude.{◌≡◌, List, ℕ, Result}
use Rattle.refusals.specs.Answers.{reads_as}
use Rattle.refusals.specs.declared.Fault.{Fault}
use Rattle.message.specs.Messages.{list_start_at, list_end_at, body_at, start_at}
use Rattle.message.specs.Answers.{list_start, list_end, message_body, message_start}
use Rattle.message.specs.declared.GetListResponseStart.{GetListResponseStart}
use Rattle.message.specs.declared.GetListResponseEnd.{GetListResponseEnd}
use Rattle.message.specs.declared.MessageBody.{MessageBody}
use Rattle.message.specs.declared.MessageStart.{MessageStart}
use Rattle.decided.specs.One.{One, Injective}

-- every view that a contract cites
pub record Views : Type 0 where
  pub list_start_claim : Injective (reads_as list_start)
  pub list_end_claim : Injective (reads_as list_end)
  pub message_body_claim : Injective (reads_as message_body)
  pub message_start_claim : Injective (reads_as message_start)

-- `parse` of every type that has it: over its parameters, what its `ensures` allows. A slice that is lent stands for what it holds at the call
pub record Decided : Type 0 where
  pub get_list_response_start_parse : (input : List ℕ) (at : ℕ) → One (λ (r : Result (GetListResponseStart × ℕ) Fault). reads_as list_start r ≡ list_start_at input at)
  pub get_list_response_end_parse : (input : List ℕ) (at : ℕ) → One (λ (r : Result (GetListResponseEnd × ℕ) Fault). reads_as list_end r ≡ list_end_at input at)
  pub message_body_parse : (input : List ℕ) (at : ℕ) → One (λ (r : Result (MessageBody × ℕ) Fault). reads_as message_body r ≡ body_at input at)
  pub message_start_parse : (input : List ℕ) (at : ℕ) → One (λ (r : Result (MessageStart × ℕ) Fault). reads_as message_start r ≡ start_at input at)
