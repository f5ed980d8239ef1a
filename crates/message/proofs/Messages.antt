-- What readings of a message's head and of a list's end find: a place ahead, strings within the input, a count of 32 bits. One line a field.
use mathlib.Core.List.{List}
use Prim.Native.Nat.{ℕ, ◌^◌, ◌<◌}
use native.Mathlib.Omega.{arith}
use lib.Dec.{eqb}
use Rattle.refusals.specs.declared.Span.{Span}
use Rattle.refusals.proofs.Read.{Ok, ok_guard, ok_cond, ok_both}
use Rattle.refusals.proofs.Found.{Found, any, from, on, found, found_on}
use Rattle.tlf.specs.Lengths.{tlf_at}
use Rattle.tlf.specs.declared.TypeLengthField.{TypeLengthField}
use Rattle.tlf.proofs.Lengths.{tlf_ok, tlf_small, list_of_ok}
use Rattle.numbers.proofs.Ahead.{unsigned_found}
use Rattle.octet_string.proofs.Within.{Within, Has, octets_found}
use Rattle.common.proofs.Fields.{OpenWithin, CloseWithin, opt_octets, opt_time_claim, open_found, close_found}
use Rattle.message.specs.Messages.{ListStart, ListEnd, Body, open_body, close_body, list_body, MessageStart, list_start_at, list_end_at, content_at, body_at, start_at}

tlf_found : (s : List ℕ) (at : ℕ) → Ok (Found (λ (t : TypeLengthField). t.len < 2 ^ 32) s at) (tlf_at s at)
tlf_found s at = ok_both (tlf_small s at) (tlf_ok s at)

pub record ListStartWithin (s : List ℕ) (x : ListStart Span) : Type 0 where
  pub client_id : Has (Within s) x.client_id
  pub server_id : Within s x.server_id
  pub list_name : Has (Within s) x.list_name
  pub num_vals : x.num_vals < 2 ^ 32

pub list_start_found : (s : List ℕ) (at : ℕ) → Ok (Found (ListStartWithin s) s at) (list_start_at s at)
unfolding list_start_at
list_start_found s at =
    from s at (any (list_of_ok 7 s at)) (λ list n₀ h₀ p₀ q₀.
    on s at n₀ (opt_octets s n₀) (omega arith) (λ client_id n₁ h₁ p₁ q₁.
    on s at n₁ (octets_found s n₁) (omega arith) (λ server_id n₂ h₂ p₂ q₂.
    on s at n₂ (opt_octets s n₂) (omega arith) (λ list_name n₃ h₃ p₃ q₃.
    on s at n₃ (opt_time_claim s n₃) (omega arith) (λ act_sensor_time n₄ h₄ p₄ q₄.
    on s at n₄ (tlf_found s n₄) (omega arith) (λ entries n₅ h₅ p₅ q₅. ok_guard _ _ _ (λ e.
    found s at _ n₅ (record { client_id = h₁; server_id = h₂; list_name = h₃; num_vals = h₅ }) p₅ q₅)))))))

pub record ListEndWithin (s : List ℕ) (x : ListEnd Span) : Type 0 where
  pub list_signature : Has (Within s) x.list_signature

pub list_end_found : (s : List ℕ) (at : ℕ) → Ok (Found (ListEndWithin s) s at) (list_end_at s at)
unfolding list_end_at
list_end_found s at =
    from s at (opt_octets s at) (λ list_signature n₁ h₁ p₁ q₁.
    on s at n₁ (opt_time_claim s n₁) (omega arith) (λ act_gateway_time n₂ h₂ p₂ q₂.
    found s at _ n₂ (record { list_signature = h₁ }) p₂ q₂))

abbrev pub BodyWithin : List ℕ → Body Span → Type 0
BodyWithin s (open_body b) = OpenWithin s b
BodyWithin s (close_body b) = CloseWithin s b
BodyWithin s (list_body b) = ListStartWithin s b

content_found : (s : List ℕ) (place tag at : ℕ) → Ok (Found (BodyWithin s) s at) (content_at s place tag at)
unfolding content_at
content_found s place tag at =
    ok_cond (eqb tag 0x00000101) _ _ (λ e. from s at (open_found s at) (λ b n h p q. found {P = BodyWithin s} s at (open_body b) n h p q))
    (λ e. ok_cond (eqb tag 0x00000201) _ _ (λ e₁. from s at (close_found s at) (λ b n h p q. found {P = BodyWithin s} s at (close_body b) n h p q))
    (λ e₁. ok_cond (eqb tag 0x00000701) _ _ (λ e₂. from s at (list_start_found s at) (λ b n h p q. found {P = BodyWithin s} s at (list_body b) n h p q))
    (λ e₂. record { holds = tt })))

pub body_found : (s : List ℕ) (at : ℕ) → Ok (Found (BodyWithin s) s at) (body_at s at)
unfolding body_at
body_found s at =
    from s at (any (list_of_ok 2 s at)) (λ list n₀ h₀ p₀ q₀.
    on s at n₀ (unsigned_found 4 s n₀) (omega arith) (λ tag n₁ h₁ p₁ q₁.
    found_on s at n₁ (omega arith) (content_found s n₀ tag n₁)))

pub record StartWithin (s : List ℕ) (x : MessageStart Span) : Type 0 where
  pub transaction_id : Within s x.transaction_id
  pub message_body : BodyWithin s x.message_body

pub start_found_lem : (s : List ℕ) (at : ℕ) → Ok (Found (StartWithin s) s at) (start_at s at)
unfolding start_at
start_found_lem s at =
    from s at (any (list_of_ok 6 s at)) (λ list n₀ h₀ p₀ q₀.
    on s at n₀ (octets_found s n₀) (omega arith) (λ transaction_id n₁ h₁ p₁ q₁.
    on s at n₁ (unsigned_found 1 s n₁) (omega arith) (λ group_no n₂ h₂ p₂ q₂.
    on s at n₂ (unsigned_found 1 s n₂) (omega arith) (λ abort_on_error n₃ h₃ p₃ q₃.
    on s at n₃ (body_found s n₃) (omega arith) (λ message_body n₄ h₄ p₄ q₄.
    found s at _ n₄ (record { transaction_id = h₁; message_body = h₄ }) p₄ q₄)))))
