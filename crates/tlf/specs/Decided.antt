-- check: mark 1 of crate tlf. Its contracts allow one outcome for each input, and its views lose nothing. Each crate has such a file.
use Rattle.std.specs.Prelude.{◌≡◌, Bool, List, ℕ, Result}
use Rattle.refusals.specs.Answers.{as_it_is, reads_as}
use Rattle.refusals.specs.declared.Fault.{Fault}
use Rattle.tlf.specs.Answers.{place_read}
use Rattle.tlf.specs.Lengths.{is_list, is_boolean, tlf_at, is_list_of, list_of_at}
use Rattle.tlf.specs.declared.Ty.{Ty}
use Rattle.tlf.specs.declared.TypeLengthField.{TypeLengthField}
use Rattle.decided.specs.One.{One, Injective}

-- every view that a contract cites
pub record Views : Type 0 where
  pub tlf : Injective (reads_as (as_it_is {A = TypeLengthField}))
  pub place : Injective place_read

-- every public function: over its parameters, what its `ensures` allows. A slice that is lent stands for what it holds at the call
pub record Decided : Type 0 where
  pub is_list_claim : (self : Ty) → One (λ (r : Bool). r ≡ is_list self)
  pub is_boolean_claim : (self : Ty) → One (λ (r : Bool). r ≡ is_boolean self)
  pub parse : (input : List ℕ) (at : ℕ) → One (λ (r : Result (TypeLengthField × ℕ) Fault). reads_as as_it_is r ≡ tlf_at input at)
  pub is_list_of_claim : (self : TypeLengthField) (n : ℕ) → One (λ (r : Bool). r ≡ is_list_of n self)
  pub parse_list_of : (input : List ℕ) (at n : ℕ) → One (λ (r : Result ℕ Fault). place_read r ≡ list_of_at n input at)
