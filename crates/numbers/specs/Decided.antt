-- check: mark 1 of crate numbers. Its contracts allow one outcome for each input, and its views lose nothing. Each crate has such a file.
use Rattle.std.specs.Prelude.{◌≡◌, Bool, List, ℕ, ℤ, Result, Option}
use Rattle.refusals.specs.Answers.{as_it_is, opt_of, reads_as}
use Rattle.refusals.specs.declared.Fault.{Fault}
use Rattle.refusals.specs.declared.Span.{Span}
use Rattle.octet_string.specs.Optional.{optional}
use Rattle.octet_string.specs.Strings.{octets_at}
use Rattle.numbers.specs.Numbers.{unsigned_at, signed_at, bool_at}
use Rattle.decided.specs.One.{One, Injective}

-- every view that a contract cites
pub record Views : Type 0 where
  pub span : Injective (reads_as (as_it_is {A = Span}))
  pub natural : Injective (reads_as (as_it_is {A = ℕ}))
  pub integer : Injective (reads_as (as_it_is {A = ℤ}))
  pub bool : Injective (reads_as (as_it_is {A = Bool}))
  pub optional_span : Injective (reads_as (opt_of (as_it_is {A = Span})))
  pub optional_natural : Injective (reads_as (opt_of (as_it_is {A = ℕ})))
  pub optional_integer : Injective (reads_as (opt_of (as_it_is {A = ℤ})))

-- `parse` of every type that has it, and of the optional fields that a message has: over its parameters, what its `ensures` allows. A slice that is lent stands for what it holds at the call
pub record Decided : Type 0 where
  pub span_parse : (input : List ℕ) (at : ℕ) → One (λ (r : Result (Span × ℕ) Fault). reads_as as_it_is r ≡ octets_at input at)
  pub option_span_parse : (input : List ℕ) (at : ℕ) → One (λ (r : Result (Option Span × ℕ) Fault). reads_as (opt_of as_it_is) r ≡ optional octets_at input at)
  pub u8_parse : (input : List ℕ) (at : ℕ) → One (λ (r : Result (ℕ × ℕ) Fault). reads_as as_it_is r ≡ unsigned_at 1 input at)
  pub u16_parse : (input : List ℕ) (at : ℕ) → One (λ (r : Result (ℕ × ℕ) Fault). reads_as as_it_is r ≡ unsigned_at 2 input at)
  pub u32_parse : (input : List ℕ) (at : ℕ) → One (λ (r : Result (ℕ × ℕ) Fault). reads_as as_it_is r ≡ unsigned_at 4 input at)
  pub u64_parse : (input : List ℕ) (at : ℕ) → One (λ (r : Result (ℕ × ℕ) Fault). reads_as as_it_is r ≡ unsigned_at 8 input at)
  pub option_u8_parse : (input : List ℕ) (at : ℕ) → One (λ (r : Result (Option ℕ × ℕ) Fault). reads_as (opt_of as_it_is) r ≡ optional (unsigned_at 1) input at)
  pub i8_parse : (input : List ℕ) (at : ℕ) → One (λ (r : Result (ℤ × ℕ) Fault). reads_as as_it_is r ≡ signed_at 1 input at)
  pub i16_parse : (input : List ℕ) (at : ℕ) → One (λ (r : Result (ℤ × ℕ) Fault). reads_as as_it_is r ≡ signed_at 2 input at)
  pub i32_parse : (input : List ℕ) (at : ℕ) → One (λ (r : Result (ℤ × ℕ) Fault). reads_as as_it_is r ≡ signed_at 4 input at)
  pub i64_parse : (input : List ℕ) (at : ℕ) → One (λ (r : Result (ℤ × ℕ) Fault). reads_as as_it_is r ≡ signed_at 8 input at)
  pub option_i8_parse : (input : List ℕ) (at : ℕ) → One (λ (r : Result (Option ℤ × ℕ) Fault). reads_as (opt_of as_it_is) r ≡ optional (signed_at 1) input at)
  pub bool_parse : (input : List ℕ) (at : ℕ) → One (λ (r : Result (Bool × ℕ) Fault). reads_as as_it_is r ≡ bool_at input at)
