-- Every record of the code has fields that fit: strings are parts of bytes, numbers are within their types.
use mathlib.Core.Path.{refl}
use mathlib.Core.List.{List}
use Prim.Native.Nat.{ℕ, ◌^◌, ◌/◌, ◌<◌}
use native.Mathlib.Omega.{arith}
use lib.IntN.{ℤ}
use lib.Signed.{mag}
use Rattle.std.specs.Prelude.{Option, Some, None}
use Rattle.refusals.specs.declared.Span.{Span}
use Rattle.octet_string.specs.Answers.{opt_span}
use Rattle.value.specs.Answers.{value, opt_u8, opt_i8, opt_time, opt_status, status}
use Rattle.value.specs.declared.Time.{Time}
use Rattle.value.specs.declared.Status as Statuses
use Rattle.value.specs.declared.Status.TheVariants as StatusC
use Rattle.value.specs.declared.Value as Values
use Rattle.value.specs.declared.Value.TheVariants as ValueC
use Rattle.common.specs.Answers.{open_response, close_response, list_entry}
use Rattle.common.specs.declared.OpenResponse as Opens
use Rattle.common.specs.declared.CloseResponse as Closes
use Rattle.common.specs.declared.ListEntry as Entries
use Rattle.message.specs.Answers.{list_start, list_end}
use Rattle.message.specs.Messages.{Body, open_body, close_body, list_body}
use Rattle.message.specs.declared.GetListResponseStart.{GetListResponseStart}
use Rattle.message.specs.declared.GetListResponseEnd.{GetListResponseEnd}
use Rattle.streaming.specs.Meaning.{each, status_means, value_means, entry_means, open_means, close_means, list_start_means, list_end_means, body_means, start_means}
use Rattle.writer.specs.Calls.{start_with}
use Rattle.writer.specs.declared.Head.{Head}
use Rattle.written.specs.Fits.{Each, OnlyBytes, StatusFits, WideValueFits, EntryFits, OpenFits, CloseFits, ListStartFits, ListEndFits, BodyFits, StartFits}
use Rattle.written.specs.Typed.{U8Typed, I8Typed, TimeTyped, StatusTyped, OptStatusTyped, ValueTyped, EntryTyped, OpenTyped, ListStartTyped, ListEndTyped, HeadTyped}
use Rattle.written.proofs.Again.{part_bytes, each_bytes}

u8_fits : (x : Option ℕ) → U8Typed x → Each (λ v. v < 256 ^ 1) (opt_u8 x)
u8_fits (Some n) h = omega arith
u8_fits None h = tt

i8_fits : (x : Option ℤ) → I8Typed x → Each (λ z. mag z < 256 ^ 1 / 2) (opt_i8 x)
i8_fits (Some z) h = omega arith
i8_fits None h = tt

opt_time_fits : (x : Option Time) → TimeTyped x → Each (λ t. t < 256 ^ 4) (opt_time x)
opt_time_fits (Some t) h = omega arith
opt_time_fits None h = tt

status_typed : (x : Statuses.Status) → StatusTyped x → StatusFits (status_means (status x))
status_typed (StatusC.Status8 n) h = record { width = refl; number = omega arith }
status_typed (StatusC.Status16 n) h = record { width = refl; number = omega arith }
status_typed (StatusC.Status32 n) h = record { width = refl; number = omega arith }
status_typed (StatusC.Status64 n) h = record { width = refl; number = omega arith }

opt_status_fits : (x : Option Statuses.Status) → OptStatusTyped x → Each StatusFits (each status_means (opt_status x))
opt_status_fits (Some x) h = status_typed x h
opt_status_fits None h = tt

module _ (s : List ℕ) (b : OnlyBytes s) where
  value_typed : (x : Values.Value) → ValueTyped x → WideValueFits (value_means s (value x))
  value_typed (ValueC.Bool t) h = tt
  value_typed (ValueC.Bytes p) h = part_bytes s p b
  value_typed (ValueC.I8 z) h = (refl, omega arith)
  value_typed (ValueC.I16 z) h = (refl, omega arith)
  value_typed (ValueC.I32 z) h = (refl, omega arith)
  value_typed (ValueC.I64 z) h = (refl, omega arith)
  value_typed (ValueC.U8 n) h = (refl, omega arith)
  value_typed (ValueC.U16 n) h = (refl, omega arith)
  value_typed (ValueC.U32 n) h = (refl, omega arith)
  value_typed (ValueC.U64 n) h = (refl, omega arith)
  value_typed (ValueC.List x) h = omega arith

  pub entry_fits : (x : Entries.ListEntry) → EntryTyped x → EntryFits (entry_means s (list_entry x))
  entry_fits x f =
      record {
        obj_name = part_bytes s x.obj_name b;
        status = opt_status_fits x.status f.status;
        val_time = opt_time_fits x.val_time f.val_time;
        unit = u8_fits x.unit f.unit;
        scaler = i8_fits x.scaler f.scaler;
        value = value_typed x.value f.value;
        value_signature = each_bytes s (opt_span x.value_signature) b;
      }

  pub open_fits : (x : Opens.OpenResponse) → OpenTyped x → OpenFits (open_means s (open_response x))
  open_fits x f =
      record {
        codepage = each_bytes s (opt_span x.codepage) b;
        client_id = each_bytes s (opt_span x.client_id) b;
        req_file_id = part_bytes s x.req_file_id b;
        server_id = part_bytes s x.server_id b;
        ref_time = opt_time_fits x.ref_time f.ref_time;
        sml_version = u8_fits x.sml_version f.sml_version;
      }

  pub close_fits : (x : Closes.CloseResponse) → CloseFits (close_means s (close_response x))
  close_fits x = record { global_signature = each_bytes s (opt_span x.global_signature) b }

  pub list_start_fits : (x : GetListResponseStart) → ListStartTyped x → ListStartFits (list_start_means s (list_start x))
  list_start_fits x f =
      record {
        client_id = each_bytes s (opt_span x.client_id) b;
        server_id = part_bytes s x.server_id b;
        list_name = each_bytes s (opt_span x.list_name) b;
        act_sensor_time = opt_time_fits x.act_sensor_time f.act_sensor_time;
      }

  pub list_end_fits : (x : GetListResponseEnd) → ListEndTyped x → ListEndFits (list_end_means s (list_end x))
  list_end_fits x f = record { list_signature = each_bytes s (opt_span x.list_signature) b; act_gateway_time = opt_time_fits x.act_gateway_time f.act_gateway_time }

  -- a head with a body that fits
  pub head_fits : (head : Head) (body : Body Span) → HeadTyped head → BodyFits (body_means s body) → StartFits (start_means s (start_with head body))
  head_fits head body f g =
      record { transaction_id = part_bytes s head.transaction_id b; group_no = omega (arith, f.group_no); abort_on_error = omega (arith, f.abort_on_error); message_body = g }

  -- so the round trip's premise never stays open: of an open, a close and a list's start
  pub open_start_fits : (head : Head) (x : Opens.OpenResponse) → HeadTyped head → OpenTyped x → StartFits (start_means s (start_with head (open_body (open_response x))))
  open_start_fits head x f g = head_fits head (open_body (open_response x)) f (open_fits x g)

  pub close_start_fits : (head : Head) (x : Closes.CloseResponse) → HeadTyped head → StartFits (start_means s (start_with head (close_body (close_response x))))
  close_start_fits head x f = head_fits head (close_body (close_response x)) f (close_fits x)

  pub list_body_fits : (head : Head) (x : GetListResponseStart) → HeadTyped head → ListStartTyped x → StartFits (start_means s (start_with head (list_body (list_start x))))
  list_body_fits head x f g = head_fits head (list_body (list_start x)) f (list_start_fits x g)
