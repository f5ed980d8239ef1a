-- claim: which messages can be written and read back. Strings are bytes; numbers fit their types and stand at the widest, as a meaning has them; a list has as many entries as it announces.
use Rattle.std.specs.Prelude.{ℕ, ◌^◌, ◌/◌, ◌<◌, ◌≡◌, List, [], ◌∷◌, length, get_or}
use Rattle.std.proofs.Math.Option.{Option, some, none}
use Rattle.std.specs.Int.Signed.{mag}
use Rattle.value.specs.Values.{Status, Value, truth, bytes, signed, unsigned, list_time}
use Rattle.common.specs.Fields.{OpenResponse, CloseResponse, ListEntry}
use Rattle.message.specs.Messages.{ListStart, ListEnd, Body, open_body, close_body, list_body, MessageStart}
use Rattle.events.specs.Message.{Content, Message}

-- of a field that is there
abbrev pub Each : {A : Type 0} → (A → Type 0) → Option A → Type 0
Each Q none = Unit {0}
Each Q (some a) = Q a

pub record OnlyBytes (b : List ℕ) : Type 0 where
  pub byte : (i : ℕ) → get_or b i 0 < 2 ^ 8

pub record StatusFits (x : Status) : Type 0 where
  pub width : x.width ≡ 8
  pub number : x.number < 256 ^ 8

abbrev pub WideValueFits : Value (List ℕ) → Type 0
WideValueFits (truth b) = Unit {0}
WideValueFits (bytes x) = OnlyBytes x
WideValueFits (signed width z) = (width ≡ 8) × (mag z < 256 ^ 8 / 2)
WideValueFits (unsigned width v) = (width ≡ 8) × (v < 256 ^ 8)
WideValueFits (list_time t) = t < 256 ^ 4

pub record EntryFits (e : ListEntry (List ℕ)) : Type 0 where
  pub obj_name : OnlyBytes e.obj_name
  pub status : Each StatusFits e.status
  pub val_time : Each (λ t. t < 256 ^ 4) e.val_time
  pub unit : Each (λ v. v < 256 ^ 1) e.unit
  pub scaler : Each (λ z. mag z < 256 ^ 1 / 2) e.scaler
  pub value : WideValueFits e.value
  pub value_signature : Each OnlyBytes e.value_signature

pub record OpenFits (x : OpenResponse (List ℕ)) : Type 0 where
  pub codepage : Each OnlyBytes x.codepage
  pub client_id : Each OnlyBytes x.client_id
  pub req_file_id : OnlyBytes x.req_file_id
  pub server_id : OnlyBytes x.server_id
  pub ref_time : Each (λ t. t < 256 ^ 4) x.ref_time
  pub sml_version : Each (λ v. v < 256 ^ 1) x.sml_version

pub record CloseFits (x : CloseResponse (List ℕ)) : Type 0 where
  pub global_signature : Each OnlyBytes x.global_signature

pub record ListStartFits (x : ListStart (List ℕ)) : Type 0 where
  pub client_id : Each OnlyBytes x.client_id
  pub server_id : OnlyBytes x.server_id
  pub list_name : Each OnlyBytes x.list_name
  pub act_sensor_time : Each (λ t. t < 256 ^ 4) x.act_sensor_time

pub record ListEndFits (x : ListEnd (List ℕ)) : Type 0 where
  pub list_signature : Each OnlyBytes x.list_signature
  pub act_gateway_time : Each (λ t. t < 256 ^ 4) x.act_gateway_time

abbrev pub BodyFits : Body (List ℕ) → Type 0
BodyFits (open_body x) = OpenFits x
BodyFits (close_body x) = CloseFits x
BodyFits (list_body x) = ListStartFits x

pub record StartFits (m : MessageStart (List ℕ)) : Type 0 where
  pub transaction_id : OnlyBytes m.transaction_id
  pub group_no : m.group_no < 256 ^ 1
  pub abort_on_error : m.abort_on_error < 256 ^ 1
  pub message_body : BodyFits m.message_body

abbrev pub EntriesFit : List (ListEntry (List ℕ)) → Type 0
EntriesFit [] = Unit {0}
EntriesFit (e ∷ es) = EntryFits e × EntriesFit es

abbrev pub EndFits : Option (ListEnd (List ℕ)) → Type 0
EndFits none = ⊥
EndFits (some x) = ListEndFits x

-- an open and a close have neither entries nor end; a list has as many entries as announced, and an end
abbrev pub ContentFits : Body (List ℕ) → Content (List ℕ) → Type 0
ContentFits (open_body x) c = (c.entries ≡ []) × (c.end ≡ none)
ContentFits (close_body x) c = (c.entries ≡ []) × (c.end ≡ none)
ContentFits (list_body x) c = (x.num_vals ≡ length c.entries) × EntriesFit c.entries × EndFits c.end

pub record MessageFits (m : Message (List ℕ)) : Type 0 where
  pub start : StartFits m.start
  pub content : ContentFits m.start.message_body m.content
