-- rule: a message's head and body, up to the entries of a list, and a list's end.
use Rattle.std.specs.Prelude.{ℕ, List, cond, eqb}
use Rattle.std.proofs.Math.Option.{Option}
use Rattle.refusals.specs.Read.{Read, got, refused, then, guard, mismatch, unexpected}
use Rattle.refusals.specs.declared.Span.{Span}
use Rattle.tlf.specs.Lengths.{tlf_at, is_list, list_of_at}
use Rattle.numbers.specs.Numbers.{unsigned_at}
use Rattle.octet_string.specs.Strings.{octets_at}
use Rattle.octet_string.specs.Optional.{optional}
use Rattle.value.specs.Values.{time_at}
use Rattle.common.specs.Fields.{OpenResponse, CloseResponse, open_at, close_at}

-- strings are of type T: a part of the input where they are read, or the bytes themselves
pub record ListStart (T : Type 0) : Type 0 where
  pub client_id : Option T
  pub server_id : T
  pub list_name : Option T
  pub act_sensor_time : Option ℕ
  pub num_vals : ℕ

-- a list response is a list of 7, of which the fifth is a list of entries; here it stands up to that list's head
unfoldable pub list_start_at : List ℕ → ℕ → Read (ListStart Span)
list_start_at s at =
    then (list_of_at 7 s at) λ list n₀.
    then (optional octets_at s n₀) λ client_id n₁.
    then (octets_at s n₁) λ server_id n₂.
    then (optional octets_at s n₂) λ list_name n₃.
    then (optional time_at s n₃) λ act_sensor_time n₄.
    then (tlf_at s n₄) λ entries n₅.
    guard (is_list entries.ty) (mismatch n₄)
    (got (record { client_id = client_id; server_id = server_id; list_name = list_name; act_sensor_time = act_sensor_time; num_vals = entries.len }) n₅)

pub record ListEnd (T : Type 0) : Type 0 where
  pub list_signature : Option T
  pub act_gateway_time : Option ℕ

-- the two fields behind the entries
unfoldable pub list_end_at : List ℕ → ℕ → Read (ListEnd Span)
list_end_at s at =
    then (optional octets_at s at) λ list_signature n₁.
    then (optional time_at s n₁) λ act_gateway_time n₂.
    got (record { list_signature = list_signature; act_gateway_time = act_gateway_time }) n₂

pub data Body (T : Type 0) : Type 0 where
  open_body : OpenResponse T → Body T
  close_body : CloseResponse T → Body T
  list_body : ListStart T → Body T

-- the content that a tag names; another tag, which stands at `place`, is 13
unfoldable pub content_at : List ℕ → ℕ → ℕ → ℕ → Read (Body Span)
content_at s place tag at =
    cond (eqb tag 0x00000101) (then (open_at s at) λ b next. got (open_body b) next)
    (cond (eqb tag 0x00000201) (then (close_at s at) λ b next. got (close_body b) next)
    (cond (eqb tag 0x00000701) (then (list_start_at s at) λ b next. got (list_body b) next)
    (refused (unexpected place))))

-- a body is a list of 2: u32 tag and content
unfoldable pub body_at : List ℕ → ℕ → Read (Body Span)
body_at s at =
    then (list_of_at 2 s at) λ list n₀.
    then (unsigned_at 4 s n₀) λ tag n₁.
    content_at s n₀ tag n₁

pub record MessageStart (T : Type 0) : Type 0 where
  pub transaction_id : T
  pub group_no : ℕ
  pub abort_on_error : ℕ
  pub message_body : Body T

-- a message is a list of 6: transaction id, two u8, a body; CRC and end byte are the trailer's
unfoldable pub start_at : List ℕ → ℕ → Read (MessageStart Span)
start_at s at =
    then (list_of_at 6 s at) λ list n₀.
    then (octets_at s n₀) λ transaction_id n₁.
    then (unsigned_at 1 s n₁) λ group_no n₂.
    then (unsigned_at 1 s n₂) λ abort_on_error n₃.
    then (body_at s n₃) λ message_body n₄.
    got (record { transaction_id = transaction_id; group_no = group_no; abort_on_error = abort_on_error; message_body = message_body }) n₄
