-- view: what each answer says, field for field.
use Rattle.refusals.specs.declared.Span.{Span}
use Rattle.octet_string.specs.Answers.{opt_span}
use Rattle.value.specs.Answers.{value, opt_u8, opt_i8, opt_time, opt_status}
use Rattle.common.specs.Fields.{OpenResponse, CloseResponse, ListEntry}
use Rattle.common.specs.declared.OpenResponse as Opens
use Rattle.common.specs.declared.CloseResponse as Closes
use Rattle.common.specs.declared.ListEntry as Entries

abbrev pub open_response : Opens.OpenResponse → OpenResponse Span
open_response x =
    record {
      codepage = opt_span x.codepage;
      client_id = opt_span x.client_id;
      req_file_id = x.req_file_id;
      server_id = x.server_id;
      ref_time = opt_time x.ref_time;
      sml_version = opt_u8 x.sml_version;
    }

abbrev pub close_response : Closes.CloseResponse → CloseResponse Span
close_response x = record { global_signature = opt_span x.global_signature }

abbrev pub list_entry : Entries.ListEntry → ListEntry Span
list_entry x =
    record {
      obj_name = x.obj_name;
      status = opt_status x.status;
      val_time = opt_time x.val_time;
      unit = opt_u8 x.unit;
      scaler = opt_i8 x.scaler;
      value = value x.value;
      value_signature = opt_span x.value_signature;
    }
