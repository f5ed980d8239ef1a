-- view: what each answer says, field for field.
use Rattle.refusals.specs.declared.Span.{Span}
use Rattle.octet_string.specs.Answers.{opt_span}
use Rattle.value.specs.Answers.{opt_time}
use Rattle.common.specs.Answers.{open_response, close_response}
use Rattle.message.specs.Messages.{ListStart, ListEnd, Body, open_body, close_body, list_body, MessageStart}
use Rattle.message.specs.declared.GetListResponseStart.{GetListResponseStart}
use Rattle.message.specs.declared.GetListResponseEnd.{GetListResponseEnd}
use Rattle.message.specs.declared.MessageBody.{MessageBody}
use Rattle.message.specs.declared.MessageBody.TheVariants as BodyC
use Rattle.message.specs.declared.MessageStart as Starts

abbrev pub list_start : GetListResponseStart → ListStart Span
list_start x =
    record {
      client_id = opt_span x.client_id;
      server_id = x.server_id;
      list_name = opt_span x.list_name;
      act_sensor_time = opt_time x.act_sensor_time;
      num_vals = x.num_vals;
    }

abbrev pub list_end : GetListResponseEnd → ListEnd Span
list_end x = record { list_signature = opt_span x.list_signature; act_gateway_time = opt_time x.act_gateway_time }

abbrev pub message_body : MessageBody → Body Span
message_body (BodyC.OpenResponse x) = open_body (open_response x)
message_body (BodyC.CloseResponse x) = close_body (close_response x)
message_body (BodyC.GetListResponse x) = list_body (list_start x)

abbrev pub message_start : Starts.MessageStart → MessageStart Span
message_start x =
    record {
      transaction_id = x.transaction_id;
      group_no = x.group_no;
      abort_on_error = x.abort_on_error;
      message_body = message_body x.message_body;
    }
