-- Each view can be undone, so a contract allows one outcome for each input.
use mathlib.Core.Path.{◌≡◌, ap}
use Rattle.refusals.specs.Answers.{as_it_is, reads_as}
use Rattle.refusals.specs.declared.Span.{Span}
use Rattle.value.specs.Answers.{seconds}
use Rattle.message.specs.Messages.{ListStart, ListEnd, Body, open_body, close_body, list_body, MessageStart}
use Rattle.message.specs.Answers.{list_start, list_end, message_body, message_start}
use Rattle.message.specs.declared.GetListResponseStart.{GetListResponseStart}
use Rattle.message.specs.declared.GetListResponseEnd.{GetListResponseEnd}
use Rattle.message.specs.declared.MessageBody.{MessageBody}
use Rattle.message.specs.declared.MessageBody.TheVariants as BodyC
use Rattle.message.specs.declared.MessageStart as Starts
use Rattle.decided.specs.One.{Injective}
use Rattle.decided.proofs.Laws.{injective, undone}
use Rattle.refusals.proofs.Undone.{reads_once, field_from, field_back}
use Rattle.value.proofs.Decided.{time_from, time_back}
use Rattle.common.proofs.Decided.{opt_same_back, open_from, open_back_lem, close_from, close_back_lem}
use Rattle.message.specs.Decided.{Views, Decided}

pub list_start_from : ListStart Span → GetListResponseStart
list_start_from x =
    record {
      client_id = field_from as_it_is x.client_id;
      server_id = x.server_id;
      list_name = field_from as_it_is x.list_name;
      act_sensor_time = field_from time_from x.act_sensor_time;
      num_vals = x.num_vals;
    }

pub list_start_back : (x : GetListResponseStart) → list_start_from (list_start x) ≡ x
unfolding list_start_from
list_start_back x =
    λ i. record {
      client_id = opt_same_back x.client_id i;
      server_id = x.server_id;
      list_name = opt_same_back x.list_name i;
      act_sensor_time = field_back seconds time_from time_back x.act_sensor_time i;
      num_vals = x.num_vals;
    }

pub list_end_from : ListEnd Span → GetListResponseEnd
list_end_from x =
    record {
      list_signature = field_from as_it_is x.list_signature;
      act_gateway_time = field_from time_from x.act_gateway_time;
    }

pub list_end_back : (x : GetListResponseEnd) → list_end_from (list_end x) ≡ x
unfolding list_end_from
list_end_back x = λ i. record { list_signature = opt_same_back x.list_signature i; act_gateway_time = field_back seconds time_from time_back x.act_gateway_time i }

pub body_from : Body Span → MessageBody
body_from (open_body b) = BodyC.OpenResponse (open_from b)
body_from (close_body b) = BodyC.CloseResponse (close_from b)
body_from (list_body b) = BodyC.GetListResponse (list_start_from b)

body_back_lem : (x : MessageBody) → body_from (message_body x) ≡ x
unfolding body_from
body_back_lem (BodyC.OpenResponse x) = ap BodyC.OpenResponse (open_back_lem x)
body_back_lem (BodyC.CloseResponse x) = ap BodyC.CloseResponse (close_back_lem x)
body_back_lem (BodyC.GetListResponse x) = ap BodyC.GetListResponse (list_start_back x)

pub start_from : MessageStart Span → Starts.MessageStart
start_from x = record { transaction_id = x.transaction_id; group_no = x.group_no; abort_on_error = x.abort_on_error; message_body = body_from x.message_body }

pub start_back_lem : (x : Starts.MessageStart) → start_from (message_start x) ≡ x
unfolding start_from
start_back_lem x =
    λ i. record {
      transaction_id = x.transaction_id;
      group_no = x.group_no;
      abort_on_error = x.abort_on_error;
      message_body = body_back_lem x.message_body i;
    }

pub list_start_once : Injective list_start
list_start_once = undone list_start list_start_from list_start_back

pub list_end_once : Injective list_end
list_end_once = undone list_end list_end_from list_end_back

pub message_body_once : Injective message_body
message_body_once = undone message_body body_from body_back_lem

pub message_start_once : Injective message_start
message_start_once = undone message_start start_from start_back_lem

pub views : Views
views =
    record {
      list_start_claim = reads_once list_start list_start_once;
      list_end_claim = reads_once list_end list_end_once;
      message_body_claim = reads_once message_body message_body_once;
      message_start_claim = reads_once message_start message_start_once;
    }

pub decided : Decided
decided =
    record {
      get_list_response_start_parse = λ input at. injective (reads_as list_start) views.list_start_claim _;
      get_list_response_end_parse = λ input at. injective (reads_as list_end) views.list_end_claim _;
      message_body_parse = λ input at. injective (reads_as message_body) views.message_body_claim _;
      message_start_parse = λ input at. injective (reads_as message_start) views.message_start_claim _;
    }
