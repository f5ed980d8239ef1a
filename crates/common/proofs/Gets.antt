-- What the bytes of open, close and list entry are read as, and what they leave: one line a field, in the order of the definition.
use mathlib.Core.List.{List, ◌++◌, append_assoc}
use mathlib.Core.Option.{Option}
use Prim.Native.Nat.{ℕ}
use lib.IntN.{ℤ}
use Rattle.refusals.specs.declared.Span.{Span}
use Rattle.refusals.proofs.Rest.{Reads, Is, gets_is, gets_then, gets_got}
use Rattle.tlf.specs.Lengths.{list_of_at}
use Rattle.numbers.specs.Numbers.{unsigned_at, signed_at}
use Rattle.octet_string.specs.Strings.{octets_at}
use Rattle.octet_string.specs.Optional.{optional}
use Rattle.value.specs.Values.{Status, Value, time_at, status_at, value_at}
use Rattle.common.specs.Fields.{OpenResponse, CloseResponse, ListEntry, open_at, close_at, entry_at}

-- each field has its own property
pub record OpenHas (P₁ P₂ : List ℕ → Option Span → Type 0) (P₃ P₄ : List ℕ → Span → Type 0) (P₅ P₆ : List ℕ → Option ℕ → Type 0) (s : List ℕ) (x : OpenResponse Span) : Type 0 where
  pub codepage : P₁ s x.codepage
  pub client_id : P₂ s x.client_id
  pub req_file_id : P₃ s x.req_file_id
  pub server_id : P₄ s x.server_id
  pub ref_time : P₅ s x.ref_time
  pub sml_version : P₆ s x.sml_version

pub open_reads : {P₁ P₂ : List ℕ → Option Span → Type 0} {P₃ P₄ : List ℕ → Span → Type 0} {P₅ P₆ : List ℕ → Option ℕ → Type 0} {b₀ b₁ b₂ b₃ b₄ b₅ b₆ : List ℕ}
    → Reads (list_of_at 6) (Is tt) b₀
    → Reads (optional octets_at) P₁ b₁
    → Reads (optional octets_at) P₂ b₂
    → Reads octets_at P₃ b₃
    → Reads octets_at P₄ b₄
    → Reads (optional time_at) P₅ b₅
    → Reads (optional (unsigned_at 1)) P₆ b₆
    → Reads open_at (OpenHas P₁ P₂ P₃ P₄ P₅ P₆) (b₀ ++ b₁ ++ b₂ ++ b₃ ++ b₄ ++ b₅ ++ b₆)
unfolding open_at
open_reads r₀ r₁ r₂ r₃ r₄ r₅ r₆ =
    record {
      reads = λ l h.
          gets_is _ _ (r₀.reads _ (simp append_assoc at h)) (λ n₀ k₀.
          gets_then _ _ (r₁.reads _ k₀) (λ a₁ n₁ h₁ k₁.
          gets_then _ _ (r₂.reads _ k₁) (λ a₂ n₂ h₂ k₂.
          gets_then _ _ (r₃.reads _ k₂) (λ a₃ n₃ h₃ k₃.
          gets_then _ _ (r₄.reads _ k₃) (λ a₄ n₄ h₄ k₄.
          gets_then _ _ (r₅.reads _ k₄) (λ a₅ n₅ h₅ k₅.
          gets_then _ _ (r₆.reads l k₅) (λ a₆ n₆ h₆ k₆.
          gets_got (record { codepage = h₁; client_id = h₂; req_file_id = h₃; server_id = h₄; ref_time = h₅; sml_version = h₆ }) k₆)))))));
    }

pub record CloseHas (P₁ : List ℕ → Option Span → Type 0) (s : List ℕ) (x : CloseResponse Span) : Type 0 where
  pub global_signature : P₁ s x.global_signature

pub close_reads : {P₁ : List ℕ → Option Span → Type 0} {b₀ b₁ : List ℕ}
    → Reads (list_of_at 1) (Is tt) b₀
    → Reads (optional octets_at) P₁ b₁
    → Reads close_at (CloseHas P₁) (b₀ ++ b₁)
unfolding close_at
close_reads r₀ r₁ =
    record {
      reads = λ l h.
          gets_is _ _ (r₀.reads _ (simp append_assoc at h)) (λ n₀ k₀.
          gets_then _ _ (r₁.reads l k₀) (λ a₁ n₁ h₁ k₁.
          gets_got (record { global_signature = h₁ }) k₁));
    }

pub record EntryHas (P₁ : List ℕ → Span → Type 0) (P₂ : List ℕ → Option Status → Type 0) (P₃ P₄ : List ℕ → Option ℕ → Type 0) (P₅ : List ℕ → Option ℤ → Type 0)
    (P₆ : List ℕ → Value Span → Type 0) (P₇ : List ℕ → Option Span → Type 0) (s : List ℕ) (x : ListEntry Span) : Type 0 where
  pub obj_name : P₁ s x.obj_name
  pub status : P₂ s x.status
  pub val_time : P₃ s x.val_time
  pub unit : P₄ s x.unit
  pub scaler : P₅ s x.scaler
  pub value : P₆ s x.value
  pub value_signature : P₇ s x.value_signature

pub entry_reads : {P₁ : List ℕ → Span → Type 0} {P₂ : List ℕ → Option Status → Type 0} {P₃ P₄ : List ℕ → Option ℕ → Type 0} {P₅ : List ℕ → Option ℤ → Type 0}
    {P₆ : List ℕ → Value Span → Type 0} {P₇ : List ℕ → Option Span → Type 0} {b₀ b₁ b₂ b₃ b₄ b₅ b₆ b₇ : List ℕ}
    → Reads (list_of_at 7) (Is tt) b₀
    → Reads octets_at P₁ b₁
    → Reads (optional status_at) P₂ b₂
    → Reads (optional time_at) P₃ b₃
    → Reads (optional (unsigned_at 1)) P₄ b₄
    → Reads (optional (signed_at 1)) P₅ b₅
    → Reads value_at P₆ b₆
    → Reads (optional octets_at) P₇ b₇
    → Reads entry_at (EntryHas P₁ P₂ P₃ P₄ P₅ P₆ P₇) (b₀ ++ b₁ ++ b₂ ++ b₃ ++ b₄ ++ b₅ ++ b₆ ++ b₇)
unfolding entry_at
entry_reads r₀ r₁ r₂ r₃ r₄ r₅ r₆ r₇ =
    record {
      reads = λ l h.
          gets_is _ _ (r₀.reads _ (simp append_assoc at h)) (λ n₀ k₀.
          gets_then _ _ (r₁.reads _ k₀) (λ a₁ n₁ h₁ k₁.
          gets_then _ _ (r₂.reads _ k₁) (λ a₂ n₂ h₂ k₂.
          gets_then _ _ (r₃.reads _ k₂) (λ a₃ n₃ h₃ k₃.
          gets_then _ _ (r₄.reads _ k₃) (λ a₄ n₄ h₄ k₄.
          gets_then _ _ (r₅.reads _ k₄) (λ a₅ n₅ h₅ k₅.
          gets_then _ _ (r₆.reads _ k₅) (λ a₆ n₆ h₆ k₆.
          gets_then _ _ (r₇.reads l k₆) (λ a₇ n₇ h₇ k₇.
          gets_got (record { obj_name = h₁; status = h₂; val_time = h₃; unit = h₄; scaler = h₅; value = h₆; value_signature = h₇ }) k₇))))))));
    }
