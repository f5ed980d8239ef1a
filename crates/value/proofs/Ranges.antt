-- What readings of time, status and value find: numbers within their width.
use mathlib.Core.List.{List}
use Prim.Native.Nat.{ℕ, ◌/◌, ◌^◌, ◌<◌}
use lib.Signed.{mag}
use Rattle.refusals.specs.declared.Span.{Span}
use Rattle.refusals.proofs.Read.{Ok, ok_any, ok_got, ok_then, ok_guard, ok_cond, ok_weak}
use Rattle.tlf.specs.Lengths.{tlf_at, list_of_at}
use Rattle.tlf.specs.declared.Ty.{Ty}
use Rattle.tlf.specs.declared.Ty.TheVariants.{OctetString, Boolean, Integer, Unsigned, ListOf}
use Rattle.numbers.specs.Numbers.{unsigned_at, bool_at}
use Rattle.numbers.proofs.Numbers.{Bytes, unsigned_ok, signed_ok}
use Rattle.octet_string.specs.Strings.{octets_at}
use Rattle.value.specs.Values.{is_bare_time, time_at, narrowest, Status, status_of, status_at, Value, truth, bytes, signed, unsigned, list_time, signed_value, unsigned_value, list_type_at, value_of_claim, value_at}

pub time_fits : (s : List ℕ) (at : ℕ) → Bytes s → Ok (λ (t n : ℕ). t < 2 ^ 32) (time_at s at)
unfolding time_at
time_fits s at b =
    ok_then _ _ (ok_any (tlf_at s at)) (λ t n₀ e. ok_cond (is_bare_time t) _ _ (λ e₀. ok_weak (λ v n q. q.0) (unsigned_ok 4 s at b))
    (λ e₀. ok_guard _ _ _ (λ e₁.
    ok_then _ _ (ok_any (unsigned_at 1 s n₀)) (λ tag n₁ e₂. ok_guard _ _ _ (λ e₃. ok_weak (λ v n q. q.0) (unsigned_ok 4 s n₁ b))))))

pub status_fits : (s : List ℕ) (at : ℕ) → Bytes s → Ok (λ (x : Status) (n : ℕ). x.number < 256 ^ x.width) (status_at s at)
unfolding status_at status_of
status_fits s at b =
    ok_then _ _ (ok_any (tlf_at s at)) (λ t n₀ e. ok_then _ _ (unsigned_ok (narrowest t.len) s at b) (λ v n q. ok_got _ _ q.0))

-- a value's number is within its width
abbrev pub ValueFits : Value Span → Type 0
ValueFits (truth b) = Unit {0}
ValueFits (bytes p) = Unit {0}
ValueFits (signed w z) = mag z < 256 ^ w / 2
ValueFits (unsigned w v) = v < 256 ^ w
ValueFits (list_time t) = t < 2 ^ 32

list_type_fits : (s : List ℕ) (at : ℕ) → Bytes s → Ok (λ (x : Value Span) (n : ℕ). ValueFits x) (list_type_at s at)
unfolding list_type_at
list_type_fits s at b =
    ok_then _ _ (ok_any (list_of_at 2 s at)) (λ list n₀ e₀.
    ok_then _ _ (ok_any (unsigned_at 1 s n₀)) (λ tag n₁ e₁. ok_guard _ _ _ (λ e₂.
    ok_then _ _ (time_fits s n₁ b) (λ t n h. ok_got {P = λ (x : Value Span) (n : ℕ). ValueFits x} (list_time t) n h))))

value_of_fits : (ty : Ty) (len : ℕ) (s : List ℕ) (at : ℕ) → Bytes s → Ok (λ (x : Value Span) (n : ℕ). ValueFits x) (value_of_claim ty len s at)
unfolding value_of_claim signed_value unsigned_value
value_of_fits OctetString len s at b = ok_then _ _ (ok_any (octets_at s at)) (λ x n e. ok_got {P = λ (x : Value Span) (n : ℕ). ValueFits x} (bytes x) n tt)
value_of_fits Boolean len s at b = ok_then _ _ (ok_any (bool_at s at)) (λ x n e. ok_got {P = λ (x : Value Span) (n : ℕ). ValueFits x} (truth x) n tt)
value_of_fits Integer len s at b = ok_then _ _ (signed_ok (narrowest len) s at b) (λ z n q. ok_got {P = λ (x : Value Span) (n : ℕ). ValueFits x} (signed _ z) n q.0)
value_of_fits Unsigned len s at b = ok_then _ _ (unsigned_ok (narrowest len) s at b) (λ v n q. ok_got {P = λ (x : Value Span) (n : ℕ). ValueFits x} (unsigned _ v) n q.0)
value_of_fits ListOf len s at b = list_type_fits s at b

pub value_fits : (s : List ℕ) (at : ℕ) → Bytes s → Ok (λ (x : Value Span) (n : ℕ). ValueFits x) (value_at s at)
unfolding value_at
value_fits s at b = ok_then _ _ (ok_any (tlf_at s at)) (λ t n e. value_of_fits t.ty t.len s at b)
