-- What the bytes of a message's head and of a list's end are read as, and what they leave: one line a field, in the order of the definition.
use mathlib.Core.Path.{◌≡◌, refl}
use mathlib.Core.List.{List, ◌++◌, append_assoc}
use mathlib.Core.Option.{Option}
use Prim.Native.Nat.{ℕ}
use Rattle.refusals.specs.declared.Span.{Span}
use Rattle.refusals.proofs.Rest.{Reads, Is, Made, gets_is, gets_then, gets_guard, gets_got, gets_made}
use Rattle.tlf.specs.Lengths.{tlf_at, list_of_at}
use Rattle.tlf.specs.declared.Ty.TheVariants.{ListOf}
use Rattle.numbers.specs.Numbers.{unsigned_at}
use Rattle.octet_string.specs.Strings.{octets_at}
use Rattle.octet_string.specs.Optional.{optional}
use Rattle.value.specs.Values.{time_at}
use Rattle.common.specs.Fields.{OpenResponse, CloseResponse, open_at, close_at}
use Rattle.message.specs.Messages.{ListStart, ListEnd, Body, open_body, close_body, list_body, MessageStart, list_start_at, list_end_at, content_at, body_at, start_at}

-- each field has its own property, and n entries are announced
pub record ListStartHas (P₁ : List ℕ → Option Span → Type 0) (P₂ : List ℕ → Span → Type 0) (P₃ : List ℕ → Option Span → Type 0) (P₄ : List ℕ → Option ℕ → Type 0) (n : ℕ) (s : List ℕ) (x : ListStart Span)
    : Type 0 where
  pub client_id : P₁ s x.client_id
  pub server_id : P₂ s x.server_id
  pub list_name : P₃ s x.list_name
  pub act_sensor_time : P₄ s x.act_sensor_time
  pub num_vals : x.num_vals ≡ n

pub list_start_reads : {P₁ : List ℕ → Option Span → Type 0} {P₂ : List ℕ → Span → Type 0} {P₃ : List ℕ → Option Span → Type 0} {P₄ : List ℕ → Option ℕ → Type 0} {n : ℕ} {b₀ b₁ b₂ b₃ b₄ b₅ : List ℕ}
    → Reads (list_of_at 7) (Is tt) b₀
    → Reads (optional octets_at) P₁ b₁
    → Reads octets_at P₂ b₂
    → Reads (optional octets_at) P₃ b₃
    → Reads (optional time_at) P₄ b₄
    → Reads tlf_at (Is (record { ty = ListOf; len = n })) b₅
    → Reads list_start_at (ListStartHas P₁ P₂ P₃ P₄ n) (b₀ ++ b₁ ++ b₂ ++ b₃ ++ b₄ ++ b₅)
unfolding list_start_at
list_start_reads r₀ r₁ r₂ r₃ r₄ r₅ =
    record {
      reads = λ l h.
          gets_is _ _ (r₀.reads _ (simp append_assoc at h)) (λ n₀ k₀.
          gets_then _ _ (r₁.reads _ k₀) (λ a₁ n₁ h₁ k₁.
          gets_then _ _ (r₂.reads _ k₁) (λ a₂ n₂ h₂ k₂.
          gets_then _ _ (r₃.reads _ k₂) (λ a₃ n₃ h₃ k₃.
          gets_then _ _ (r₄.reads _ k₃) (λ a₄ n₄ h₄ k₄.
          gets_is _ _ (r₅.reads l k₄) (λ n₅ k₅. gets_guard _ _ _ refl
          (gets_got (record { client_id = h₁; server_id = h₂; list_name = h₃; act_sensor_time = h₄; num_vals = refl }) k₅)))))));
    }

pub record ListEndHas (P₁ : List ℕ → Option Span → Type 0) (P₂ : List ℕ → Option ℕ → Type 0) (s : List ℕ) (x : ListEnd Span) : Type 0 where
  pub list_signature : P₁ s x.list_signature
  pub act_gateway_time : P₂ s x.act_gateway_time

pub list_end_reads : {P₁ : List ℕ → Option Span → Type 0} {P₂ : List ℕ → Option ℕ → Type 0} {b₁ b₂ : List ℕ}
    → Reads (optional octets_at) P₁ b₁
    → Reads (optional time_at) P₂ b₂
    → Reads list_end_at (ListEndHas P₁ P₂) (b₁ ++ b₂)
unfolding list_end_at
list_end_reads r₁ r₂ =
    record {
      reads = λ l h.
          gets_then _ _ (r₁.reads _ (simp append_assoc at h)) (λ a₁ n₁ h₁ k₁.
          gets_then _ _ (r₂.reads l k₁) (λ a₂ n₂ h₂ k₂.
          gets_got (record { list_signature = h₁; act_gateway_time = h₂ }) k₂));
    }

-- the content that each tag names
pub open_content_reads : (place : ℕ) {P : List ℕ → OpenResponse Span → Type 0} {b : List ℕ} → Reads open_at P b → Reads (λ s at. content_at s place 0x00000101 at) (Made open_body P) b
unfolding content_at
open_content_reads place r = record { reads = λ l h. gets_made open_body _ (r.reads l h) }

pub close_content_reads : (place : ℕ) {P : List ℕ → CloseResponse Span → Type 0} {b : List ℕ} → Reads close_at P b → Reads (λ s at. content_at s place 0x00000201 at) (Made close_body P) b
unfolding content_at
close_content_reads place r = record { reads = λ l h. gets_made close_body _ (r.reads l h) }

pub list_content_reads : (place : ℕ) {P : List ℕ → ListStart Span → Type 0} {b : List ℕ} → Reads list_start_at P b → Reads (λ s at. content_at s place 0x00000701 at) (Made list_body P) b
unfolding content_at
list_content_reads place r = record { reads = λ l h. gets_made list_body _ (r.reads l h) }

-- a body: tag and content
pub body_reads : (tag : ℕ) {P : List ℕ → Body Span → Type 0} {b₀ b₁ b₂ : List ℕ}
    → Reads (list_of_at 2) (Is tt) b₀
    → Reads (unsigned_at 4) (Is tag) b₁
    → ((place : ℕ) → Reads (λ s at. content_at s place tag at) P b₂)
    → Reads body_at P (b₀ ++ b₁ ++ b₂)
unfolding body_at
body_reads tag r₀ r₁ r₂ =
    record {
      reads = λ l h.
          gets_is _ _ (r₀.reads _ (simp append_assoc at h)) (λ n₀ k₀.
          gets_is _ _ (r₁.reads _ k₀) (λ n₁ k₁.
          let q = r₂ n₀ in q.reads l k₁));
    }

pub record StartHas (P₁ : List ℕ → Span → Type 0) (P₂ P₃ : List ℕ → ℕ → Type 0) (P₄ : List ℕ → Body Span → Type 0) (s : List ℕ) (x : MessageStart Span) : Type 0 where
  pub transaction_id : P₁ s x.transaction_id
  pub group_no : P₂ s x.group_no
  pub abort_on_error : P₃ s x.abort_on_error
  pub message_body : P₄ s x.message_body

pub start_reads : {P₁ : List ℕ → Span → Type 0} {P₂ P₃ : List ℕ → ℕ → Type 0} {P₄ : List ℕ → Body Span → Type 0} {b₀ b₁ b₂ b₃ b₄ : List ℕ}
    → Reads (list_of_at 6) (Is tt) b₀
    → Reads octets_at P₁ b₁
    → Reads (unsigned_at 1) P₂ b₂
    → Reads (unsigned_at 1) P₃ b₃
    → Reads body_at P₄ b₄
    → Reads start_at (StartHas P₁ P₂ P₃ P₄) (b₀ ++ b₁ ++ b₂ ++ b₃ ++ b₄)
unfolding start_at
start_reads r₀ r₁ r₂ r₃ r₄ =
    record {
      reads = λ l h.
          gets_is _ _ (r₀.reads _ (simp append_assoc at h)) (λ n₀ k₀.
          gets_then _ _ (r₁.reads _ k₀) (λ a₁ n₁ h₁ k₁.
          gets_then _ _ (r₂.reads _ k₁) (λ a₂ n₂ h₂ k₂.
          gets_then _ _ (r₃.reads _ k₂) (λ a₃ n₃ h₃ k₃.
          gets_then _ _ (r₄.reads l k₃) (λ a₄ n₄ h₄ k₄.
          gets_got (record { transaction_id = h₁; group_no = h₂; abort_on_error = h₃; message_body = h₄ }) k₄)))));
    }
