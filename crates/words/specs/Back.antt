-- rule: which event 24 numbers are, the way back of Words.
use Rattle.std.specs.Prelude.{ℕ, ◌+◌, ◌-◌, ◌/◌, ◌^◌, cond, List, ℤ, pos, negsuc, get_or, ltb, eqb}
use Rattle.std.proofs.Math.Option.{Option, some, none}
use Rattle.refusals.specs.declared.Span.{Span}
use Rattle.frame.specs.Frame.{same}
use Rattle.value.specs.Values.{narrowest, Status, Value, truth, bytes, signed, unsigned, list_time}
use Rattle.common.specs.Fields.{OpenResponse, CloseResponse, ListEntry}
use Rattle.message.specs.Messages.{ListStart, ListEnd, MessageStart, Body, open_body, close_body, list_body}
use Rattle.streaming.specs.Next.{MessageEvent, start_event, entry_event, end_event, event}
use Rattle.words.specs.Words.{event_words}

-- ---- fields, each from its first word on. A number that its type has no room for, and a width that is none, are read as others, whose words are other ones

abbrev pub word_at : List ℕ → ℕ → ℕ
word_at w k = get_or w k 0

-- a number under a bound
abbrev pub bounded : ℕ → ℕ → ℕ
bounded bound n = cond (ltb n bound) n 0

-- one whose magnitude is, in two's complement of 64 bits
abbrev pub signed_bounded : ℕ → ℕ → ℤ
signed_bounded bound n = cond (ltb n bound) (pos n) (cond (ltb (2 ^ 64 - 1 - n) bound) (negsuc (2 ^ 64 - 1 - n)) (pos 0))

abbrev pub number_back : ℕ → List ℕ → ℕ → ℕ
number_back width w k = bounded (256 ^ width) (word_at w k)

abbrev pub signed_back : ℕ → List ℕ → ℕ → ℤ
signed_back width w k = signed_bounded (256 ^ width / 2) (word_at w k)

abbrev pub span_in : List ℕ → ℕ → Span
span_in w k = record { start = word_at w k; len = word_at w (k + 1) }

abbrev pub status_back : List ℕ → ℕ → Status
status_back w k = record { width = narrowest (word_at w k); number = number_back (narrowest (word_at w k)) w (k + 1) }

-- an optional field: whether it is there, and behind that the field
abbrev pub field_in : {A : Type 0} → (List ℕ → ℕ → A) → List ℕ → ℕ → Option A
field_in read w k = cond (eqb (word_at w k) 1) (some (read w (k + 1))) none

abbrev pub signed_value_back : ℕ → ℕ → Value Span
signed_value_back width n = signed (narrowest width) (signed_bounded (256 ^ narrowest width / 2) n)

abbrev pub unsigned_value_back : ℕ → ℕ → Value Span
unsigned_value_back width n = unsigned (narrowest width) (bounded (256 ^ narrowest width) n)

abbrev pub value_back : List ℕ → ℕ → Value Span
value_back w k =
    cond (eqb (word_at w k) 1) (truth (eqb (word_at w (k + 2)) 1))
    (cond (eqb (word_at w k) 2) (bytes (span_in w (k + 3)))
    (cond (eqb (word_at w k) 3) (signed_value_back (word_at w (k + 1)) (word_at w (k + 2)))
    (cond (eqb (word_at w k) 4) (unsigned_value_back (word_at w (k + 1)) (word_at w (k + 2)))
    (list_time (number_back 4 w (k + 2))))))

-- ---- events, each field in its order

abbrev pub open_back : List ℕ → OpenResponse Span
open_back w =
    record {
      codepage = field_in span_in w 6;
      client_id = field_in span_in w 9;
      req_file_id = span_in w 12;
      server_id = span_in w 14;
      ref_time = field_in (number_back 4) w 16;
      sml_version = field_in (number_back 1) w 18;
    }

abbrev pub close_back : List ℕ → CloseResponse Span
close_back w = record { global_signature = field_in span_in w 6 }

abbrev pub list_back : List ℕ → ListStart Span
list_back w =
    record {
      client_id = field_in span_in w 6;
      server_id = span_in w 9;
      list_name = field_in span_in w 11;
      act_sensor_time = field_in (number_back 4) w 14;
      num_vals = number_back 4 w 16;
    }

abbrev pub body_back : List ℕ → Body Span
body_back w = cond (eqb (word_at w 5) 1) (open_body (open_back w)) (cond (eqb (word_at w 5) 2) (close_body (close_back w)) (list_body (list_back w)))

abbrev pub start_back : List ℕ → MessageStart Span
start_back w = record { transaction_id = span_in w 1; group_no = number_back 1 w 3; abort_on_error = number_back 1 w 4; message_body = body_back w }

abbrev pub end_back : List ℕ → ListEnd Span
end_back w = record { list_signature = field_in span_in w 1; act_gateway_time = field_in (number_back 4) w 4 }

abbrev pub entry_back : List ℕ → ListEntry Span
entry_back w =
    record {
      obj_name = span_in w 1;
      status = field_in status_back w 3;
      val_time = field_in (number_back 4) w 6;
      unit = field_in (number_back 1) w 8;
      scaler = field_in (signed_back 1) w 10;
      value = value_back w 12;
      value_signature = field_in span_in w 17;
    }

unfoldable pub event_back : List ℕ → MessageEvent Span
event_back w = cond (eqb (word_at w 0) 1) (start_event (start_back w)) (cond (eqb (word_at w 0) 2) (end_event (end_back w)) (entry_event (entry_back w)))

-- the event whose words these are, every kind, flag and unused word with them
unfoldable pub event_of : List ℕ → Option (MessageEvent Span)
event_of w = cond (same (event_words (event (event_back w))) w) (some (event_back w)) none
