-- rule: what an event means, whatever the width of its numbers and wherever its strings stand, and which strings it has.
use Rattle.std.specs.Prelude.{ℕ, List, [], ◌∷◌}
use Rattle.std.proofs.Math.Option.{Option, some, none}
use Rattle.refusals.specs.declared.Span.{Span}
use Rattle.octet_string.specs.Strings.{part_of}
use Rattle.value.specs.Values.{Status, Value, truth, bytes, signed, unsigned, list_time}
use Rattle.common.specs.Fields.{OpenResponse, CloseResponse, ListEntry}
use Rattle.message.specs.Messages.{ListStart, ListEnd, Body, open_body, close_body, list_body, MessageStart}
use Rattle.streaming.specs.Next.{MessageEvent, start_event, entry_event, end_event}

abbrev pub each : {A B : Type 0} → (A → B) → Option A → Option B
each f (some a) = some (f a)
each f none = none

-- a number's width is forgotten by taking every number at the widest
abbrev pub status_means : Status → Status
status_means x = record { width = 8; number = x.number }

abbrev pub value_means : List ℕ → Value Span → Value (List ℕ)
value_means s (truth b) = truth b
value_means s (bytes p) = bytes (part_of s p)
value_means s (signed width z) = signed 8 z
value_means s (unsigned width v) = unsigned 8 v
value_means s (list_time t) = list_time t

abbrev pub entry_means : List ℕ → ListEntry Span → ListEntry (List ℕ)
entry_means s x =
    record {
      obj_name = part_of s x.obj_name;
      status = each status_means x.status;
      val_time = x.val_time;
      unit = x.unit;
      scaler = x.scaler;
      value = value_means s x.value;
      value_signature = each (part_of s) x.value_signature;
    }

abbrev pub open_means : List ℕ → OpenResponse Span → OpenResponse (List ℕ)
open_means s x =
    record {
      codepage = each (part_of s) x.codepage;
      client_id = each (part_of s) x.client_id;
      req_file_id = part_of s x.req_file_id;
      server_id = part_of s x.server_id;
      ref_time = x.ref_time;
      sml_version = x.sml_version;
    }

abbrev pub close_means : List ℕ → CloseResponse Span → CloseResponse (List ℕ)
close_means s x = record { global_signature = each (part_of s) x.global_signature }

abbrev pub list_start_means : List ℕ → ListStart Span → ListStart (List ℕ)
list_start_means s x =
    record {
      client_id = each (part_of s) x.client_id;
      server_id = part_of s x.server_id;
      list_name = each (part_of s) x.list_name;
      act_sensor_time = x.act_sensor_time;
      num_vals = x.num_vals;
    }

abbrev pub list_end_means : List ℕ → ListEnd Span → ListEnd (List ℕ)
list_end_means s x = record { list_signature = each (part_of s) x.list_signature; act_gateway_time = x.act_gateway_time }

abbrev pub body_means : List ℕ → Body Span → Body (List ℕ)
body_means s (open_body b) = open_body (open_means s b)
body_means s (close_body b) = close_body (close_means s b)
body_means s (list_body b) = list_body (list_start_means s b)

abbrev pub start_means : List ℕ → MessageStart Span → MessageStart (List ℕ)
start_means s x =
    record {
      transaction_id = part_of s x.transaction_id;
      group_no = x.group_no;
      abort_on_error = x.abort_on_error;
      message_body = body_means s x.message_body;
    }

-- an event's strings as bytes, value and status as kind and number; `s` is the input
unfoldable pub meaning : List ℕ → MessageEvent Span → MessageEvent (List ℕ)
meaning s (start_event m) = start_event (start_means s m)
meaning s (entry_event e) = entry_event (entry_means s e)
meaning s (end_event e) = end_event (list_end_means s e)

-- a string that is there, before others
abbrev pub opt : {T : Type 0} → Option T → List T → List T
opt (some p) l = p ∷ l
opt none l = l

abbrev pub value_strings : {T : Type 0} → Value T → List T → List T
value_strings (truth b) l = l
value_strings (bytes p) l = p ∷ l
value_strings (signed w z) l = l
value_strings (unsigned w n) l = l
value_strings (list_time n) l = l

abbrev pub body_strings : {T : Type 0} → Body T → List T
body_strings (open_body b) = opt b.codepage (opt b.client_id (b.req_file_id ∷ b.server_id ∷ []))
body_strings (close_body b) = opt b.global_signature []
body_strings (list_body b) = opt b.client_id (b.server_id ∷ opt b.list_name [])

-- all strings of an event, in the order of its fields
abbrev pub strings_of : {T : Type 0} → MessageEvent T → List T
strings_of (start_event m) = m.transaction_id ∷ body_strings m.message_body
strings_of (entry_event e) = e.obj_name ∷ value_strings e.value (opt e.value_signature [])
strings_of (end_event e) = opt e.list_signature []
