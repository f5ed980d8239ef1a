-- rule: the fields of open, close and list entry, by the rules marked (S) of document 01.
use Rattle.std.specs.Prelude.{ℕ, List, ℤ}
use Rattle.std.proofs.Math.Option.{Option}
use Rattle.refusals.specs.Read.{Read, got, then}
use Rattle.refusals.specs.declared.Span.{Span}
use Rattle.tlf.specs.Lengths.{list_of_at}
use Rattle.numbers.specs.Numbers.{unsigned_at, signed_at}
use Rattle.octet_string.specs.Strings.{octets_at}
use Rattle.octet_string.specs.Optional.{optional}
use Rattle.value.specs.Values.{Status, Value, time_at, status_at, value_at}

-- strings are of type T: a part of the input where they are read, or the bytes themselves
pub record OpenResponse (T : Type 0) : Type 0 where
  pub codepage : Option T
  pub client_id : Option T
  pub req_file_id : T
  pub server_id : T
  pub ref_time : Option ℕ
  pub sml_version : Option ℕ

-- open is a list of 6
unfoldable pub open_at : List ℕ → ℕ → Read (OpenResponse Span)
open_at s at =
    then (list_of_at 6 s at) λ list n₀.
    then (optional octets_at s n₀) λ codepage n₁.
    then (optional octets_at s n₁) λ client_id n₂.
    then (octets_at s n₂) λ req_file_id n₃.
    then (octets_at s n₃) λ server_id n₄.
    then (optional time_at s n₄) λ ref_time n₅.
    then (optional (unsigned_at 1) s n₅) λ sml_version n₆.
    got (record { codepage = codepage; client_id = client_id; req_file_id = req_file_id; server_id = server_id; ref_time = ref_time; sml_version = sml_version }) n₆

pub record CloseResponse (T : Type 0) : Type 0 where
  pub global_signature : Option T

-- close is a list of 1
unfoldable pub close_at : List ℕ → ℕ → Read (CloseResponse Span)
close_at s at =
    then (list_of_at 1 s at) λ list n₀.
    then (optional octets_at s n₀) λ global_signature n₁.
    got (record { global_signature = global_signature }) n₁

pub record ListEntry (T : Type 0) : Type 0 where
  pub obj_name : T
  pub status : Option Status
  pub val_time : Option ℕ
  pub unit : Option ℕ
  pub scaler : Option ℤ
  pub value : Value T
  pub value_signature : Option T

-- ListEntry is a list of 7
unfoldable pub entry_at : List ℕ → ℕ → Read (ListEntry Span)
entry_at s at =
    then (list_of_at 7 s at) λ list n₀.
    then (octets_at s n₀) λ obj_name n₁.
    then (optional status_at s n₁) λ status n₂.
    then (optional time_at s n₂) λ val_time n₃.
    then (optional (unsigned_at 1) s n₃) λ unit n₄.
    then (optional (signed_at 1) s n₄) λ scaler n₅.
    then (value_at s n₅) λ value n₆.
    then (optional octets_at s n₆) λ value_signature n₇.
    got (record { obj_name = obj_name; status = status; val_time = val_time; unit = unit; scaler = scaler; value = value; value_signature = value_signature }) n₇
