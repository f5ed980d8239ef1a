-- What readings of open, close and list entry find: a place ahead within the input, and strings within it. One line a field.
use mathlib.Core.List.{List}
use Prim.Native.Nat.{ℕ}
use native.Mathlib.Omega.{arith}
use Rattle.refusals.specs.declared.Span.{Span}
use Rattle.refusals.proofs.Read.{Ok}
use Rattle.refusals.proofs.Found.{Found, Any, any, from, on, found}
use Rattle.tlf.proofs.Lengths.{list_of_ok}
use Rattle.numbers.specs.Numbers.{unsigned_at, signed_at}
use Rattle.numbers.proofs.Ahead.{unsigned_found, signed_found}
use Rattle.octet_string.specs.Strings.{octets_at}
use Rattle.octet_string.specs.Optional.{optional}
use Rattle.octet_string.proofs.Within.{Within, Has, octets_found, optional_found}
use Rattle.value.specs.Values.{time_at, status_at}
use Rattle.value.proofs.Values.{time_found, status_found, ValueWithin, value_found}
use Rattle.common.specs.Fields.{OpenResponse, CloseResponse, ListEntry, open_at, close_at, entry_at}

pub record OpenWithin (s : List ℕ) (x : OpenResponse Span) : Type 0 where
  pub codepage : Has (Within s) x.codepage
  pub client_id : Has (Within s) x.client_id
  pub req_file_id : Within s x.req_file_id
  pub server_id : Within s x.server_id

pub opt_octets : (s : List ℕ) (at : ℕ) → Ok (Found (Has (Within s)) s at) (optional octets_at s at)
opt_octets s at = optional_found octets_at s at (octets_found s at)

pub opt_time_claim : (s : List ℕ) (at : ℕ) → Ok (Found (Has Any) s at) (optional time_at s at)
opt_time_claim s at = optional_found {P = Any} time_at s at (time_found s at)

pub open_found : (s : List ℕ) (at : ℕ) → Ok (Found (OpenWithin s) s at) (open_at s at)
unfolding open_at
open_found s at =
    from s at (any (list_of_ok 6 s at)) (λ list n₀ h₀ p₀ q₀.
    on s at n₀ (opt_octets s n₀) (omega arith) (λ codepage n₁ h₁ p₁ q₁.
    on s at n₁ (opt_octets s n₁) (omega arith) (λ client_id n₂ h₂ p₂ q₂.
    on s at n₂ (octets_found s n₂) (omega arith) (λ req_file_id n₃ h₃ p₃ q₃.
    on s at n₃ (octets_found s n₃) (omega arith) (λ server_id n₄ h₄ p₄ q₄.
    on s at n₄ (opt_time_claim s n₄) (omega arith) (λ ref_time n₅ h₅ p₅ q₅.
    on s at n₅ (optional_found {P = Any} (unsigned_at 1) s n₅ (unsigned_found 1 s n₅)) (omega arith) (λ sml_version n₆ h₆ p₆ q₆.
    found s at _ n₆ (record { codepage = h₁; client_id = h₂; req_file_id = h₃; server_id = h₄ }) p₆ q₆)))))))

pub record CloseWithin (s : List ℕ) (x : CloseResponse Span) : Type 0 where
  pub global_signature : Has (Within s) x.global_signature

pub close_found : (s : List ℕ) (at : ℕ) → Ok (Found (CloseWithin s) s at) (close_at s at)
unfolding close_at
close_found s at =
    from s at (any (list_of_ok 1 s at)) (λ list n₀ h₀ p₀ q₀.
    on s at n₀ (opt_octets s n₀) (omega arith) (λ global_signature n₁ h₁ p₁ q₁.
    found s at _ n₁ (record { global_signature = h₁ }) p₁ q₁))

pub record EntryWithin (s : List ℕ) (x : ListEntry Span) : Type 0 where
  pub obj_name : Within s x.obj_name
  pub value : ValueWithin s x.value
  pub value_signature : Has (Within s) x.value_signature

pub entry_found : (s : List ℕ) (at : ℕ) → Ok (Found (EntryWithin s) s at) (entry_at s at)
unfolding entry_at
entry_found s at =
    from s at (any (list_of_ok 7 s at)) (λ list n₀ h₀ p₀ q₀.
    on s at n₀ (octets_found s n₀) (omega arith) (λ obj_name n₁ h₁ p₁ q₁.
    on s at n₁ (optional_found {P = Any} status_at s n₁ (status_found s n₁)) (omega arith) (λ status n₂ h₂ p₂ q₂.
    on s at n₂ (opt_time_claim s n₂) (omega arith) (λ val_time n₃ h₃ p₃ q₃.
    on s at n₃ (optional_found {P = Any} (unsigned_at 1) s n₃ (unsigned_found 1 s n₃)) (omega arith) (λ unit n₄ h₄ p₄ q₄.
    on s at n₄ (optional_found {P = Any} (signed_at 1) s n₄ (signed_found 1 s n₄)) (omega arith) (λ scaler n₅ h₅ p₅ q₅.
    on s at n₅ (value_found s n₅) (omega arith) (λ value n₆ h₆ p₆ q₆.
    on s at n₆ (opt_octets s n₆) (omega arith) (λ value_signature n₇ h₇ p₇ q₇.
    found s at _ n₇ (record { obj_name = h₁; value = h₆; value_signature = h₇ }) p₇ q₇))))))))
