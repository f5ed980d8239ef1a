-- What readings of time, status and value find: a place ahead within the input, and strings within it.
use mathlib.Core.List.{List}
use Prim.Native.Nat.{ℕ}
use native.Mathlib.Omega.{arith}
use Rattle.refusals.specs.declared.Span.{Span}
use Rattle.refusals.proofs.Read.{Ok, ok_guard, ok_cond}
use Rattle.refusals.proofs.Found.{Found, Any, any, from, on, found, found_on}
use Rattle.tlf.specs.declared.Ty.{Ty}
use Rattle.tlf.specs.declared.Ty.TheVariants.{OctetString, Boolean, Integer, Unsigned, ListOf}
use Rattle.tlf.proofs.Lengths.{tlf_ok, list_of_ok}
use Rattle.numbers.proofs.Ahead.{unsigned_found, signed_found, bool_found}
use Rattle.octet_string.proofs.Within.{Within, octets_found}
use Rattle.value.specs.Values.{is_bare_time, time_at, narrowest, status_of, status_at, Value, truth, bytes, signed, unsigned, list_time, signed_value, unsigned_value, list_type_at, value_of_claim, value_at}

pub time_found : (s : List ℕ) (at : ℕ) → Ok (Found Any s at) (time_at s at)
unfolding time_at
time_found s at =
    from s at (any (tlf_ok s at)) (λ t n₀ h p₀ q₀. ok_cond (is_bare_time t) _ _ (λ e. unsigned_found 4 s at)
    (λ e. ok_guard _ _ _ (λ e₁.
    on s at n₀ (unsigned_found 1 s n₀) (omega arith) (λ tag n₁ h₁ p₁ q₁. ok_guard _ _ _ (λ e₂.
    found_on s at n₁ (omega arith) (unsigned_found 4 s n₁))))))

status_of_lem : (width : ℕ) (s : List ℕ) (at : ℕ) → Ok (Found Any s at) (status_of width s at)
unfolding status_of
status_of_lem width s at = from s at (unsigned_found width s at) (λ v n h p q. found s at _ n tt p q)

pub status_found : (s : List ℕ) (at : ℕ) → Ok (Found Any s at) (status_at s at)
unfolding status_at
status_found s at = from s at (any (tlf_ok s at)) (λ t n h p q. status_of_lem (narrowest t.len) s at)

-- a value's string lies within the input
abbrev pub ValueWithin : List ℕ → Value Span → Type 0
ValueWithin s (truth b) = Unit {0}
ValueWithin s (bytes p) = Within s p
ValueWithin s (signed w z) = Unit {0}
ValueWithin s (unsigned w v) = Unit {0}
ValueWithin s (list_time t) = Unit {0}

list_type : (s : List ℕ) (at : ℕ) → Ok (Found (ValueWithin s) s at) (list_type_at s at)
unfolding list_type_at
list_type s at =
    from s at (any (list_of_ok 2 s at)) (λ list n₀ h p₀ q₀.
    on s at n₀ (unsigned_found 1 s n₀) (omega arith) (λ tag n₁ h₁ p₁ q₁. ok_guard _ _ _ (λ e.
    on s at n₁ (time_found s n₁) (omega arith) (λ time n₂ h₂ p₂ q₂. found {P = ValueWithin s} s at (list_time time) n₂ tt p₂ q₂))))

value_of : (ty : Ty) (len : ℕ) (s : List ℕ) (at : ℕ) → Ok (Found (ValueWithin s) s at) (value_of_claim ty len s at)
unfolding value_of_claim signed_value unsigned_value
value_of OctetString len s at = from s at (octets_found s at) (λ x n h p q. found {P = ValueWithin s} s at (bytes x) n h p q)
value_of Boolean len s at = from s at (bool_found s at) (λ b n h p q. found {P = ValueWithin s} s at (truth b) n tt p q)
value_of Integer len s at = from s at (signed_found (narrowest len) s at) (λ z n h p q. found {P = ValueWithin s} s at (signed _ z) n tt p q)
value_of Unsigned len s at = from s at (unsigned_found (narrowest len) s at) (λ v n h p q. found {P = ValueWithin s} s at (unsigned _ v) n tt p q)
value_of ListOf len s at = list_type s at

pub value_found : (s : List ℕ) (at : ℕ) → Ok (Found (ValueWithin s) s at) (value_at s at)
unfolding value_at
value_found s at = from s at (any (tlf_ok s at)) (λ t n h p q. value_of t.ty t.len s at)
