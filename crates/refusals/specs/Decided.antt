-- check: mark 1 of crate refusals. Its contracts allow one outcome for each input, and its views lose nothing. Each crate has such a file.
use Rattle.std.specs.Prelude.{◌≡◌, List, ℕ, Result}
use Rattle.refusals.specs.Read.{byte_at, span_at}
use Rattle.refusals.specs.Answers.{refusal_of, fault_of, as_it_is, reads_as}
use Rattle.refusals.specs.declared.ParseError.{ParseError}
use Rattle.refusals.specs.declared.Fault.{Fault}
use Rattle.refusals.specs.declared.Span.{Span}
use Rattle.decided.specs.One.{One, Injective}

-- every view that a contract cites
pub record Views : Type 0 where
  pub fault : Injective fault_of
  pub byte : Injective (reads_as (as_it_is {A = ℕ}))
  pub span : Injective (reads_as (as_it_is {A = Span}))

-- every public function: over its parameters, what its `ensures` allows. A slice that is lent stands for what it holds at the call
pub record Decided : Type 0 where
  pub at_claim : (self : ParseError) (place : ℕ) → One (λ (r : Fault). fault_of r ≡ refusal_of self place)
  pub take_byte : (input : List ℕ) (at : ℕ) → One (λ (r : Result (ℕ × ℕ) Fault). reads_as as_it_is r ≡ byte_at input at)
  pub take_n : (input : List ℕ) (at n : ℕ) → One (λ (r : Result (Span × ℕ) Fault). reads_as as_it_is r ≡ span_at input at n)
