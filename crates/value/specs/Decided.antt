-- check: mark 1 of crate value. Its contracts allow one outcome for each input, and its views lose nothing. Each crate has such a file.
use Rattle.std.specs.Prelude.{◌≡◌, List, ℕ, Result, Option}
use Rattle.refusals.specs.Answers.{opt_of, reads_as}
use Rattle.refusals.specs.declared.Fault.{Fault}
use Rattle.octet_string.specs.Optional.{optional}
use Rattle.value.specs.Values.{time_at, status_at, value_at}
use Rattle.value.specs.Answers.{seconds, status, value}
use Rattle.value.specs.declared.Time.{Time}
use Rattle.value.specs.declared.Status.{Status}
use Rattle.value.specs.declared.Value.{Value}
use Rattle.decided.specs.One.{One, Injective}

-- every view that a contract cites
pub record Views : Type 0 where
  pub time : Injective (reads_as seconds)
  pub status_claim : Injective (reads_as status)
  pub value_claim : Injective (reads_as value)
  pub optional_time : Injective (reads_as (opt_of seconds))
  pub optional_status : Injective (reads_as (opt_of status))

-- `parse` of every type that has it, and of the optional fields that a message has: over its parameters, what its `ensures` allows. A slice that is lent stands for what it holds at the call
pub record Decided : Type 0 where
  pub time_parse : (input : List ℕ) (at : ℕ) → One (λ (r : Result (Time × ℕ) Fault). reads_as seconds r ≡ time_at input at)
  pub option_time_parse : (input : List ℕ) (at : ℕ) → One (λ (r : Result (Option Time × ℕ) Fault). reads_as (opt_of seconds) r ≡ optional time_at input at)
  pub status_parse : (input : List ℕ) (at : ℕ) → One (λ (r : Result (Status × ℕ) Fault). reads_as status r ≡ status_at input at)
  pub option_status_parse : (input : List ℕ) (at : ℕ) → One (λ (r : Result (Option Status × ℕ) Fault). reads_as (opt_of status) r ≡ optional status_at input at)
  pub value_parse : (input : List ℕ) (at : ℕ) → One (λ (r : Result (Value × ℕ) Fault). reads_as value r ≡ value_at input at)
