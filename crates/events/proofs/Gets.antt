-- What the bytes of a whole message are read as, and what they leave: start, entries, end, trailer.
use mathlib.Core.Path.{refl}
use mathlib.Core.List.{List, [], ◌++◌, append_assoc}
use mathlib.Core.Option.{Option, some, none}
use Prim.Native.Nat.{ℕ}
use Rattle.crc_x25.specs.Crc.{crc_of}
use Rattle.refusals.specs.declared.Span.{Span}
use Rattle.refusals.proofs.Rest.{Reads, Is, Made, gets_then, gets_is, gets_got}
use Rattle.numbers.specs.Numbers.{unsigned_at}
use Rattle.common.specs.Fields.{OpenResponse, CloseResponse, ListEntry}
use Rattle.message.specs.Messages.{ListStart, ListEnd, Body, open_body, close_body, list_body, MessageStart, start_at, list_end_at}
use Rattle.message.proofs.Gets.{ListStartHas}
use Rattle.trailer.specs.Trailer.{message_end_at, swapped}
use Rattle.trailer.proofs.Gets.{trailer_reads}
use Rattle.events.specs.Message.{Content, Message, entries_at, content_of, message_at}

pub record ContentHas (P : List ℕ → List (ListEntry Span) → Type 0) (Q : List ℕ → Option (ListEnd Span) → Type 0) (s : List ℕ) (x : Content Span) : Type 0 where
  pub entries : P s x.entries
  pub end : Q s x.end

-- behind the start of an open or a close response nothing stands before the trailer
pub open_rest_reads : (b : OpenResponse Span) → Reads (content_of (open_body b)) (ContentHas (Is []) (Is none)) []
unfolding content_of
open_rest_reads b = record { reads = λ l h. gets_got (record { entries = refl; end = refl }) h }

pub close_rest_reads : (b : CloseResponse Span) → Reads (content_of (close_body b)) (ContentHas (Is []) (Is none)) []
unfolding content_of
close_rest_reads b = record { reads = λ l h. gets_got (record { entries = refl; end = refl }) h }

-- behind that of a list response its entries and its end
pub list_rest_reads : {P : List ℕ → List (ListEntry Span) → Type 0} {Q : List ℕ → ListEnd Span → Type 0} (b : ListStart Span) {b₁ b₂ : List ℕ}
    → Reads (entries_at b.num_vals) P b₁
    → Reads list_end_at Q b₂
    → Reads (content_of (list_body b)) (ContentHas P (Made some Q)) (b₁ ++ b₂)
unfolding content_of
list_rest_reads b r₁ r₂ =
    record {
      reads = λ l h.
          gets_then _ _ (r₁.reads _ (simp append_assoc at h)) (λ a₁ n₁ h₁ k₁.
          gets_then _ _ (r₂.reads l k₁) (λ a₂ n₂ h₂ k₂.
          gets_got (record { entries = h₁; end = record { of = a₂; is = refl; has = h₂ } }) k₂));
    }

-- the same, by what the start says of its body
pub open_body_rest : {P : List ℕ → OpenResponse Span → Type 0} {s : List ℕ} {x : Body Span} → Made open_body P s x → Reads (content_of x) (ContentHas (Is []) (Is none)) []
open_body_rest m = rw m.is (open_rest_reads m.of)

pub close_body_rest : {P : List ℕ → CloseResponse Span → Type 0} {s : List ℕ} {x : Body Span} → Made close_body P s x → Reads (content_of x) (ContentHas (Is []) (Is none)) []
close_body_rest m = rw m.is (close_rest_reads m.of)

pub list_body_rest : {P₁ : List ℕ → Option Span → Type 0} {P₂ : List ℕ → Span → Type 0} {P₃ : List ℕ → Option Span → Type 0} {P₄ : List ℕ → Option ℕ → Type 0} {n : ℕ}
    {P : List ℕ → List (ListEntry Span) → Type 0} {Q : List ℕ → ListEnd Span → Type 0} {s : List ℕ} {x : Body Span} {b₁ b₂ : List ℕ}
    → Made list_body (ListStartHas P₁ P₂ P₃ P₄ n) s x
    → Reads (entries_at n) P b₁
    → Reads list_end_at Q b₂
    → Reads (content_of x) (ContentHas P (Made some Q)) (b₁ ++ b₂)
list_body_rest m r₁ r₂ = let f = m.has in rw m.is (list_rest_reads m.of (rw (← f.num_vals) at r₁) r₂)

pub record MessageHas (P : List ℕ → MessageStart Span → Type 0) (Q : List ℕ → Content Span → Type 0) (s : List ℕ) (x : Message Span) : Type 0 where
  pub start : P s x.start
  pub content : Q s x.content

-- a whole message: what follows its start is read by the start that was found, and its CRC is that of all bytes before the CRC's field
pub message_reads : {P : List ℕ → MessageStart Span → Type 0} {Q : List ℕ → Content Span → Type 0} (b₁ b₂ : List ℕ) {b₃ b₄ : List ℕ}
    → Reads start_at P b₁
    → ((s : List ℕ) (x : MessageStart Span) → P s x → Reads (content_of x.message_body) Q b₂)
    → Reads (unsigned_at 2) (Is (swapped (crc_of (b₁ ++ b₂)))) b₃
    → Reads message_end_at (Is tt) b₄
    → Reads message_at (MessageHas P Q) (b₁ ++ b₂ ++ (b₃ ++ b₄))
unfolding message_at
message_reads b₁ b₂ r₁ r₂ r₃ r₄ =
    record {
      reads = λ {s} l h.
          let k = rw (append_assoc (b₁ ++ b₂)) at h in
          gets_then _ _ (r₁.reads _ (rw (append_assoc b₁ b₂) at k)) (λ a₁ n₁ h₁ k₁.
          let q = r₂ s a₁ h₁ in
          gets_then _ _ (q.reads _ k₁) (λ a₂ n₂ h₂ k₂.
          gets_is _ _ (trailer_reads (b₁ ++ b₂) l r₃ r₄ k k₂) (λ n₃ k₃.
          gets_got (record { start = h₁; content = h₂ }) k₃)));
    }
