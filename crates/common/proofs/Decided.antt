-- Each view can be undone, so a contract allows one outcome for each input.
use mathlib.Core.Path.{◌≡◌, refl}
use Rattle.std.specs.Prelude as P
use Rattle.refusals.specs.Answers.{as_it_is, opt_of, reads_as}
use Rattle.refusals.specs.declared.Span.{Span}
use Rattle.value.specs.Answers.{seconds, status}
use Rattle.common.specs.Fields.{OpenResponse, CloseResponse, ListEntry}
use Rattle.common.specs.Answers.{open_response, close_response, list_entry}
use Rattle.common.specs.declared.OpenResponse as Opens
use Rattle.common.specs.declared.CloseResponse as Closes
use Rattle.common.specs.declared.ListEntry as Entries
use Rattle.decided.specs.One.{Injective}
use Rattle.decided.proofs.Laws.{injective, undone}
use Rattle.refusals.proofs.Undone.{reads_once, field_from, field_back}
use Rattle.value.proofs.Decided.{time_from, time_back, status_from, status_from_back, value_from, value_from_back}
use Rattle.common.specs.Decided.{Views, Decided}

pub opt_same_back : {A : Type 0} (f : P.Option A) → field_from as_it_is (opt_of as_it_is f) ≡ f
opt_same_back f = field_back as_it_is as_it_is (λ x. refl) f

pub open_from : OpenResponse Span → Opens.OpenResponse
open_from x =
    record {
      codepage = field_from as_it_is x.codepage;
      client_id = field_from as_it_is x.client_id;
      req_file_id = x.req_file_id;
      server_id = x.server_id;
      ref_time = field_from time_from x.ref_time;
      sml_version = field_from as_it_is x.sml_version;
    }

pub open_back_lem : (x : Opens.OpenResponse) → open_from (open_response x) ≡ x
unfolding open_from
open_back_lem x =
    λ i. record {
      codepage = opt_same_back x.codepage i;
      client_id = opt_same_back x.client_id i;
      req_file_id = x.req_file_id;
      server_id = x.server_id;
      ref_time = field_back seconds time_from time_back x.ref_time i;
      sml_version = opt_same_back x.sml_version i;
    }

pub close_from : CloseResponse Span → Closes.CloseResponse
close_from x = record { global_signature = field_from as_it_is x.global_signature }

pub close_back_lem : (x : Closes.CloseResponse) → close_from (close_response x) ≡ x
unfolding close_from
close_back_lem x = λ i. record { global_signature = opt_same_back x.global_signature i }

pub entry_from : ListEntry Span → Entries.ListEntry
entry_from x =
    record {
      obj_name = x.obj_name;
      status = field_from status_from x.status;
      val_time = field_from time_from x.val_time;
      unit = field_from as_it_is x.unit;
      scaler = field_from as_it_is x.scaler;
      value = value_from x.value;
      value_signature = field_from as_it_is x.value_signature;
    }

pub entry_back_lem : (x : Entries.ListEntry) → entry_from (list_entry x) ≡ x
unfolding entry_from
entry_back_lem x =
    λ i. record {
      obj_name = x.obj_name;
      status = field_back status status_from status_from_back x.status i;
      val_time = field_back seconds time_from time_back x.val_time i;
      unit = opt_same_back x.unit i;
      scaler = opt_same_back x.scaler i;
      value = value_from_back x.value i;
      value_signature = opt_same_back x.value_signature i;
    }

pub open_once : Injective open_response
open_once = undone open_response open_from open_back_lem

pub close_once : Injective close_response
close_once = undone close_response close_from close_back_lem

pub entry_once : Injective list_entry
entry_once = undone list_entry entry_from entry_back_lem

pub views : Views
views =
    record {
      open_response_claim = reads_once open_response open_once;
      close_response_claim = reads_once close_response close_once;
      list_entry_claim = reads_once list_entry entry_once;
    }

pub decided : Decided
decided =
    record {
      open_response_parse = λ input at. injective (reads_as open_response) views.open_response_claim _;
      close_response_parse = λ input at. injective (reads_as close_response) views.close_response_claim _;
      list_entry_parse = λ input at. injective (reads_as list_entry) views.list_entry_claim _;
    }
