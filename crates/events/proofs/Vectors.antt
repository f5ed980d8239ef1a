-- Whole inputs and all that is answered on them: two meters' frames, a two-byte length in every string field in turn, refusals with their places, every kind of value.
use mathlib.Core.Path.{◌≡◌, refl}
use mathlib.Core.List.{[], ◌∷◌}
use mathlib.Core.Bool.{true}
use mathlib.Core.Option.{some, none}
use lib.IntN.{pos, negsuc}
use Rattle.crc_x25.specs.Crc.{reflect, polynomial, bit_step, bit_steps, byte_step, register, final_xor, crc_of}
use Rattle.refusals.specs.Read.{then, guard, need, eof, mismatch, unexpected, crc_mismatch, wrong_end, byte_at, span_at}
use Rattle.refusals.specs.Answers.{reserved, underflow, next_type, invalid_ty}
use Rattle.tlf.specs.Lengths.{tlf_at, length_from, less_own, list_of_at}
use Rattle.numbers.specs.Numbers.{number, bytes_at_claim, raw_from, raw_at, unsigned_at, signed_of, signed_at, bool_from, bool_at}
use Rattle.octet_string.specs.Strings.{octets_at}
use Rattle.octet_string.specs.Optional.{absent_at, optional}
use Rattle.value.specs.Values.{truth, bytes, signed, unsigned, list_time, time_at, status_of, status_at, signed_value, unsigned_value, list_type_at, value_of_claim, value_at}
use Rattle.common.specs.Fields.{open_at, close_at, entry_at}
use Rattle.message.specs.Messages.{open_body, close_body, list_body, list_start_at, list_end_at, content_at, body_at, start_at}
use Rattle.trailer.specs.Trailer.{message_end_at, crc_from, trailer_at}
use Rattle.streaming.specs.Next.{start_event, entry_event, end_event, event, no_event, failed}
use Rattle.events.specs.Events.{says_first, at_start_claim, inside, entries_from, content_from, messages_from, events_of}

-- capture 3 (captures/two-byte-length.bin) is the story: a public key whose length, 83 02, takes two bytes; capture 4 (captures/bare-times.bin) has bare times
pub record Vectors : Type 0 where
  pub capture_3 : events_of (0x76 ∷ 0x05 ∷ 0x03 ∷ 0x2b ∷ 0x18 ∷ 0x0f ∷ 0x62 ∷ 0x00 ∷ 0x62 ∷ 0x00 ∷ 0x72 ∷ 0x63 ∷ 0x01 ∷ 0x01 ∷ 0x76 ∷ 0x01 ∷ 0x01 ∷ 0x05 ∷ 0x01 ∷ 0x0e ∷ 0x5d ∷ 0x5b ∷ 0x0b ∷ 0x09 ∷ 0x01 ∷ 0x49 ∷ 0x53 ∷ 0x4b ∷ 0x00 ∷ 0x04 ∷ 0x11 ∷ 0x22 ∷ 0x33 ∷ 0x01 ∷ 0x01 ∷ 0x63 ∷ 0x95 ∷ 0x39 ∷ 0x00 ∷ 0x76 ∷ 0x05 ∷ 0x03 ∷ 0x2b ∷ 0x18 ∷ 0x10 ∷ 0x62 ∷ 0x00 ∷ 0x62 ∷ 0x00 ∷ 0x72 ∷ 0x63 ∷ 0x07 ∷ 0x01 ∷ 0x77 ∷ 0x01 ∷ 0x0b ∷ 0x09 ∷ 0x01 ∷ 0x49 ∷ 0x53 ∷ 0x4b ∷ 0x00 ∷ 0x04 ∷ 0x11 ∷ 0x22 ∷ 0x33 ∷ 0x07 ∷ 0x01 ∷ 0x00 ∷ 0x62 ∷ 0x0a ∷ 0xff ∷ 0xff ∷ 0x72 ∷ 0x62 ∷ 0x01 ∷ 0x65 ∷ 0x01 ∷ 0x28 ∷ 0xed ∷ 0x7b ∷ 0x79 ∷ 0x77 ∷ 0x07 ∷ 0x81 ∷ 0x81 ∷ 0xc7 ∷ 0x82 ∷ 0x03 ∷ 0xff ∷ 0x01 ∷ 0x01 ∷ 0x01 ∷ 0x01 ∷ 0x04 ∷ 0x49 ∷ 0x53 ∷ 0x4b ∷ 0x01 ∷ 0x77 ∷ 0x07 ∷ 0x01 ∷ 0x00 ∷ 0x00 ∷ 0x00 ∷ 0x09 ∷ 0xff ∷ 0x01 ∷ 0x01 ∷ 0x01 ∷ 0x01 ∷ 0x0b ∷ 0x09 ∷ 0x01 ∷ 0x49 ∷ 0x53 ∷ 0x4b ∷ 0x00 ∷ 0x04 ∷ 0x11 ∷ 0x22 ∷ 0x33 ∷ 0x01 ∷ 0x77 ∷ 0x07 ∷ 0x01 ∷ 0x00 ∷ 0x01 ∷ 0x08 ∷ 0x00 ∷ 0xff ∷ 0x65 ∷ 0x00 ∷ 0x00 ∷ 0x01 ∷ 0x82 ∷ 0x01 ∷ 0x62 ∷ 0x1e ∷ 0x52 ∷ 0xff ∷ 0x59 ∷ 0x00 ∷ 0x00 ∷ 0x00 ∷ 0x00 ∷ 0x02 ∷ 0xd0 ∷ 0x14 ∷ 0xdf ∷ 0x01 ∷ 0x77 ∷ 0x07 ∷ 0x01 ∷ 0x00 ∷ 0x01 ∷ 0x08 ∷ 0x01 ∷ 0xff ∷ 0x01 ∷ 0x01 ∷ 0x62 ∷ 0x1e ∷ 0x52 ∷ 0xff ∷ 0x59 ∷ 0x00 ∷ 0x00 ∷ 0x00 ∷ 0x00 ∷ 0x02 ∷ 0xd0 ∷ 0x14 ∷ 0xdf ∷ 0x01 ∷ 0x77 ∷ 0x07 ∷ 0x01 ∷ 0x00 ∷ 0x01 ∷ 0x08 ∷ 0x02 ∷ 0xff ∷ 0x01 ∷ 0x01 ∷ 0x62 ∷ 0x1e ∷ 0x52 ∷ 0xff ∷ 0x59 ∷ 0x00 ∷ 0x00 ∷ 0x00 ∷ 0x00 ∷ 0x00 ∷ 0x00 ∷ 0x00 ∷ 0x00 ∷ 0x01 ∷ 0x77 ∷ 0x07 ∷ 0x01 ∷ 0x00 ∷ 0x02 ∷ 0x08 ∷ 0x00 ∷ 0xff ∷ 0x65 ∷ 0x00 ∷ 0x00 ∷ 0x01 ∷ 0x82 ∷ 0x01 ∷ 0x62 ∷ 0x1e ∷ 0x52 ∷ 0xff ∷ 0x59 ∷ 0x00 ∷ 0x00 ∷ 0x01 ∷ 0x1f ∷ 0x71 ∷ 0xfb ∷ 0x04 ∷ 0xcb ∷ 0x01 ∷ 0x77 ∷ 0x07 ∷ 0x01 ∷ 0x00 ∷ 0x02 ∷ 0x08 ∷ 0x01 ∷ 0xff ∷ 0x01 ∷ 0x01 ∷ 0x62 ∷ 0x1e ∷ 0x52 ∷ 0xff ∷ 0x59 ∷ 0x00 ∷ 0x00 ∷ 0x00 ∷ 0x00 ∷ 0x00 ∷ 0x00 ∷ 0x00 ∷ 0x01 ∷ 0x01 ∷ 0x77 ∷ 0x07 ∷ 0x01 ∷ 0x00 ∷ 0x10 ∷ 0x07 ∷ 0x00 ∷ 0xff ∷ 0x01 ∷ 0x01 ∷ 0x62 ∷ 0x1b ∷ 0x52 ∷ 0x00 ∷ 0x55 ∷ 0xff ∷ 0xff ∷ 0xfa ∷ 0x95 ∷ 0x01 ∷ 0x77 ∷ 0x07 ∷ 0x81 ∷ 0x81 ∷ 0xc7 ∷ 0x82 ∷ 0x05 ∷ 0xff ∷ 0x01 ∷ 0x01 ∷ 0x01 ∷ 0x01 ∷ 0x83 ∷ 0x02 ∷ 0x0b ∷ 0x30 ∷ 0x55 ∷ 0x7a ∷ 0x9f ∷ 0xc4 ∷ 0xe9 ∷ 0x0e ∷ 0x33 ∷ 0x58 ∷ 0x7d ∷ 0xa2 ∷ 0xc7 ∷ 0xec ∷ 0x11 ∷ 0x36 ∷ 0x5b ∷ 0x80 ∷ 0xa5 ∷ 0xca ∷ 0xef ∷ 0x14 ∷ 0x39 ∷ 0x5e ∷ 0x83 ∷ 0xa8 ∷ 0xcd ∷ 0xf2 ∷ 0x17 ∷ 0x3c ∷ 0x61 ∷ 0x86 ∷ 0xab ∷ 0xd0 ∷ 0xf5 ∷ 0x1a ∷ 0x3f ∷ 0x64 ∷ 0x89 ∷ 0xae ∷ 0xd3 ∷ 0xf8 ∷ 0x1d ∷ 0x42 ∷ 0x67 ∷ 0x8c ∷ 0xb1 ∷ 0xd6 ∷ 0x01 ∷ 0x01 ∷ 0x01 ∷ 0x63 ∷ 0x35 ∷ 0x65 ∷ 0x00 ∷ 0x76 ∷ 0x05 ∷ 0x03 ∷ 0x2b ∷ 0x18 ∷ 0x11 ∷ 0x62 ∷ 0x00 ∷ 0x62 ∷ 0x00 ∷ 0x72 ∷ 0x63 ∷ 0x02 ∷ 0x01 ∷ 0x71 ∷ 0x01 ∷ 0x63 ∷ 0xfa ∷ 0x36 ∷ 0x00 ∷ []) ≡ record { first = event (start_event (record { transaction_id = record { start = 2; len = 4 }; group_no = 0; abort_on_error = 0; message_body = open_body (record { codepage = none; client_id = none; req_file_id = (record { start = 18; len = 4 }); server_id = (record { start = 23; len = 10 }); ref_time = none; sml_version = none }) })) ∷ event (start_event (record { transaction_id = record { start = 41; len = 4 }; group_no = 0; abort_on_error = 0; message_body = list_body (record { client_id = none; server_id = (record { start = 56; len = 10 }); list_name = (some (record { start = 67; len = 6 })); act_sensor_time = (some 19459451); num_vals = 9 }) })) ∷ event (entry_event (record { obj_name = (record { start = 84; len = 6 }); status = none; val_time = none; unit = none; scaler = none; value = (bytes (record { start = 95; len = 3 })); value_signature = none })) ∷ event (entry_event (record { obj_name = (record { start = 101; len = 6 }); status = none; val_time = none; unit = none; scaler = none; value = (bytes (record { start = 112; len = 10 })); value_signature = none })) ∷ event (entry_event (record { obj_name = (record { start = 125; len = 6 }); status = (some (record { width = 4; number = 386 })); val_time = none; unit = (some 30); scaler = (some (negsuc 0)); value = (signed 8 (pos 47191263)); value_signature = none })) ∷ event (entry_event (record { obj_name = (record { start = 153; len = 6 }); status = none; val_time = none; unit = (some 30); scaler = (some (negsuc 0)); value = (signed 8 (pos 47191263)); value_signature = none })) ∷ event (entry_event (record { obj_name = (record { start = 177; len = 6 }); status = none; val_time = none; unit = (some 30); scaler = (some (negsuc 0)); value = (signed 8 (pos 0)); value_signature = none })) ∷ event (entry_event (record { obj_name = (record { start = 201; len = 6 }); status = (some (record { width = 4; number = 386 })); val_time = none; unit = (some 30); scaler = (some (negsuc 0)); value = (signed 8 (pos 1234567890123)); value_signature = none })) ∷ event (entry_event (record { obj_name = (record { start = 229; len = 6 }); status = none; val_time = none; unit = (some 30); scaler = (some (negsuc 0)); value = (signed 8 (pos 1)); value_signature = none })) ∷ event (entry_event (record { obj_name = (record { start = 253; len = 6 }); status = none; val_time = none; unit = (some 27); scaler = (some (pos 0)); value = (signed 4 (negsuc 1386)); value_signature = none })) ∷ event (entry_event (record { obj_name = (record { start = 273; len = 6 }); status = none; val_time = none; unit = none; scaler = none; value = (bytes (record { start = 285; len = 48 })); value_signature = none })) ∷ event (end_event (record { list_signature = none; act_gateway_time = none })) ∷ event (start_event (record { transaction_id = record { start = 342; len = 4 }; group_no = 0; abort_on_error = 0; message_body = close_body (record { global_signature = none }) })) ∷ []; later = no_event }
  pub capture_4 : events_of (0x76 ∷ 0x05 ∷ 0x07 ∷ 0xc1 ∷ 0xa5 ∷ 0x01 ∷ 0x62 ∷ 0x00 ∷ 0x62 ∷ 0x00 ∷ 0x72 ∷ 0x63 ∷ 0x01 ∷ 0x01 ∷ 0x76 ∷ 0x01 ∷ 0x01 ∷ 0x05 ∷ 0x02 ∷ 0x95 ∷ 0xe1 ∷ 0xab ∷ 0x0b ∷ 0x0a ∷ 0x01 ∷ 0x48 ∷ 0x4c ∷ 0x59 ∷ 0x02 ∷ 0x00 ∷ 0x05 ∷ 0x42 ∷ 0x17 ∷ 0x65 ∷ 0x02 ∷ 0x95 ∷ 0x51 ∷ 0xaa ∷ 0x62 ∷ 0x01 ∷ 0x63 ∷ 0xd5 ∷ 0x36 ∷ 0x00 ∷ 0x76 ∷ 0x05 ∷ 0x07 ∷ 0xc1 ∷ 0xa5 ∷ 0x02 ∷ 0x62 ∷ 0x00 ∷ 0x62 ∷ 0x00 ∷ 0x72 ∷ 0x63 ∷ 0x07 ∷ 0x01 ∷ 0x77 ∷ 0x01 ∷ 0x0b ∷ 0x0a ∷ 0x01 ∷ 0x48 ∷ 0x4c ∷ 0x59 ∷ 0x02 ∷ 0x00 ∷ 0x05 ∷ 0x42 ∷ 0x17 ∷ 0x07 ∷ 0x01 ∷ 0x00 ∷ 0x62 ∷ 0x0a ∷ 0xff ∷ 0xff ∷ 0x65 ∷ 0x02 ∷ 0x95 ∷ 0x52 ∷ 0x21 ∷ 0x75 ∷ 0x77 ∷ 0x07 ∷ 0x01 ∷ 0x00 ∷ 0x60 ∷ 0x32 ∷ 0x01 ∷ 0x01 ∷ 0x01 ∷ 0x01 ∷ 0x01 ∷ 0x01 ∷ 0x04 ∷ 0x48 ∷ 0x4c ∷ 0x59 ∷ 0x01 ∷ 0x77 ∷ 0x07 ∷ 0x01 ∷ 0x00 ∷ 0x60 ∷ 0x01 ∷ 0x00 ∷ 0xff ∷ 0x01 ∷ 0x01 ∷ 0x01 ∷ 0x01 ∷ 0x0b ∷ 0x0a ∷ 0x01 ∷ 0x48 ∷ 0x4c ∷ 0x59 ∷ 0x02 ∷ 0x00 ∷ 0x05 ∷ 0x42 ∷ 0x17 ∷ 0x01 ∷ 0x77 ∷ 0x07 ∷ 0x01 ∷ 0x00 ∷ 0x01 ∷ 0x08 ∷ 0x00 ∷ 0xff ∷ 0x65 ∷ 0x00 ∷ 0x1d ∷ 0x81 ∷ 0x04 ∷ 0x65 ∷ 0x02 ∷ 0x95 ∷ 0x52 ∷ 0x21 ∷ 0x62 ∷ 0x1e ∷ 0x52 ∷ 0xff ∷ 0x69 ∷ 0x00 ∷ 0x00 ∷ 0x00 ∷ 0x00 ∷ 0x01 ∷ 0x54 ∷ 0x92 ∷ 0xb8 ∷ 0x01 ∷ 0x77 ∷ 0x07 ∷ 0x01 ∷ 0x00 ∷ 0x02 ∷ 0x08 ∷ 0x00 ∷ 0xff ∷ 0x01 ∷ 0x65 ∷ 0x02 ∷ 0x95 ∷ 0x52 ∷ 0x21 ∷ 0x62 ∷ 0x1e ∷ 0x52 ∷ 0xff ∷ 0x69 ∷ 0x00 ∷ 0x00 ∷ 0x00 ∷ 0x00 ∷ 0x00 ∷ 0x00 ∷ 0x00 ∷ 0x78 ∷ 0x01 ∷ 0x77 ∷ 0x07 ∷ 0x01 ∷ 0x00 ∷ 0x10 ∷ 0x07 ∷ 0x00 ∷ 0xff ∷ 0x01 ∷ 0x01 ∷ 0x62 ∷ 0x1b ∷ 0x52 ∷ 0x00 ∷ 0x54 ∷ 0xfe ∷ 0xee ∷ 0x90 ∷ 0x01 ∷ 0x01 ∷ 0x01 ∷ 0x63 ∷ 0x54 ∷ 0x47 ∷ 0x00 ∷ 0x76 ∷ 0x05 ∷ 0x07 ∷ 0xc1 ∷ 0xa5 ∷ 0x03 ∷ 0x62 ∷ 0x00 ∷ 0x62 ∷ 0x00 ∷ 0x72 ∷ 0x63 ∷ 0x02 ∷ 0x01 ∷ 0x71 ∷ 0x01 ∷ 0x63 ∷ 0x22 ∷ 0x33 ∷ 0x00 ∷ []) ≡ record { first = event (start_event (record { transaction_id = record { start = 2; len = 4 }; group_no = 0; abort_on_error = 0; message_body = open_body (record { codepage = none; client_id = none; req_file_id = (record { start = 18; len = 4 }); server_id = (record { start = 23; len = 10 }); ref_time = (some 43340202); sml_version = (some 1) }) })) ∷ event (start_event (record { transaction_id = record { start = 46; len = 4 }; group_no = 0; abort_on_error = 0; message_body = list_body (record { client_id = none; server_id = (record { start = 61; len = 10 }); list_name = (some (record { start = 72; len = 6 })); act_sensor_time = (some 43340321); num_vals = 5 }) })) ∷ event (entry_event (record { obj_name = (record { start = 86; len = 6 }); status = none; val_time = none; unit = none; scaler = none; value = (bytes (record { start = 97; len = 3 })); value_signature = none })) ∷ event (entry_event (record { obj_name = (record { start = 103; len = 6 }); status = none; val_time = none; unit = none; scaler = none; value = (bytes (record { start = 114; len = 10 })); value_signature = none })) ∷ event (entry_event (record { obj_name = (record { start = 127; len = 6 }); status = (some (record { width = 4; number = 1933572 })); val_time = (some 43340321); unit = (some 30); scaler = (some (negsuc 0)); value = (unsigned 8 22319800); value_signature = none })) ∷ event (entry_event (record { obj_name = (record { start = 159; len = 6 }); status = none; val_time = (some 43340321); unit = (some 30); scaler = (some (negsuc 0)); value = (unsigned 8 120); value_signature = none })) ∷ event (entry_event (record { obj_name = (record { start = 187; len = 6 }); status = none; val_time = none; unit = (some 27); scaler = (some (pos 0)); value = (signed 4 (negsuc 69999)); value_signature = none })) ∷ event (end_event (record { list_signature = none; act_gateway_time = none })) ∷ event (start_event (record { transaction_id = record { start = 212; len = 4 }; group_no = 0; abort_on_error = 0; message_body = close_body (record { global_signature = none }) })) ∷ []; later = no_event }
  pub open_transaction_id : events_of (0x76 ∷ 0x80 ∷ 0x03 ∷ 0x01 ∷ 0x62 ∷ 0x01 ∷ 0x62 ∷ 0x02 ∷ 0x72 ∷ 0x63 ∷ 0x01 ∷ 0x01 ∷ 0x76 ∷ 0x03 ∷ 0x0a ∷ 0x0b ∷ 0x02 ∷ 0x0c ∷ 0x03 ∷ 0x0d ∷ 0x0e ∷ 0x02 ∷ 0x0f ∷ 0x65 ∷ 0x00 ∷ 0x00 ∷ 0x00 ∷ 0x2a ∷ 0x62 ∷ 0x01 ∷ 0x63 ∷ 0xc4 ∷ 0x19 ∷ 0x00 ∷ []) ≡ record { first = event (start_event (record { transaction_id = record { start = 3; len = 1 }; group_no = 1; abort_on_error = 2; message_body = open_body (record { codepage = (some (record { start = 14; len = 2 })); client_id = (some (record { start = 17; len = 1 })); req_file_id = (record { start = 19; len = 2 }); server_id = (record { start = 22; len = 1 }); ref_time = (some 42); sml_version = (some 1) }) })) ∷ []; later = no_event }
  pub open_codepage : events_of (0x76 ∷ 0x02 ∷ 0x01 ∷ 0x62 ∷ 0x01 ∷ 0x62 ∷ 0x02 ∷ 0x72 ∷ 0x63 ∷ 0x01 ∷ 0x01 ∷ 0x76 ∷ 0x80 ∷ 0x04 ∷ 0x0a ∷ 0x0b ∷ 0x02 ∷ 0x0c ∷ 0x03 ∷ 0x0d ∷ 0x0e ∷ 0x02 ∷ 0x0f ∷ 0x65 ∷ 0x00 ∷ 0x00 ∷ 0x00 ∷ 0x2a ∷ 0x62 ∷ 0x01 ∷ 0x63 ∷ 0x29 ∷ 0x29 ∷ 0x00 ∷ []) ≡ record { first = event (start_event (record { transaction_id = record { start = 2; len = 1 }; group_no = 1; abort_on_error = 2; message_body = open_body (record { codepage = (some (record { start = 14; len = 2 })); client_id = (some (record { start = 17; len = 1 })); req_file_id = (record { start = 19; len = 2 }); server_id = (record { start = 22; len = 1 }); ref_time = (some 42); sml_version = (some 1) }) })) ∷ []; later = no_event }
  pub open_client_id : events_of (0x76 ∷ 0x02 ∷ 0x01 ∷ 0x62 ∷ 0x01 ∷ 0x62 ∷ 0x02 ∷ 0x72 ∷ 0x63 ∷ 0x01 ∷ 0x01 ∷ 0x76 ∷ 0x03 ∷ 0x0a ∷ 0x0b ∷ 0x02 ∷ 0x0c ∷ 0x03 ∷ 0x0d ∷ 0x0e ∷ 0x02 ∷ 0x0f ∷ 0x65 ∷ 0x00 ∷ 0x00 ∷ 0x00 ∷ 0x2a ∷ 0x62 ∷ 0x01 ∷ 0x63 ∷ 0x29 ∷ 0x6e ∷ 0x00 ∷ []) ≡ record { first = event (start_event (record { transaction_id = record { start = 2; len = 1 }; group_no = 1; abort_on_error = 2; message_body = open_body (record { codepage = (some (record { start = 13; len = 2 })); client_id = (some (record { start = 16; len = 1 })); req_file_id = (record { start = 18; len = 2 }); server_id = (record { start = 21; len = 1 }); ref_time = (some 42); sml_version = (some 1) }) })) ∷ []; later = no_event }
  pub open_file_id : events_of (0x76 ∷ 0x02 ∷ 0x01 ∷ 0x62 ∷ 0x01 ∷ 0x62 ∷ 0x02 ∷ 0x72 ∷ 0x63 ∷ 0x01 ∷ 0x01 ∷ 0x76 ∷ 0x03 ∷ 0x0a ∷ 0x0b ∷ 0x80 ∷ 0x03 ∷ 0x0c ∷ 0x03 ∷ 0x0d ∷ 0x0e ∷ 0x02 ∷ 0x0f ∷ 0x65 ∷ 0x00 ∷ 0x00 ∷ 0x00 ∷ 0x2a ∷ 0x62 ∷ 0x01 ∷ 0x63 ∷ 0xc7 ∷ 0x02 ∷ 0x00 ∷ []) ≡ record { first = event (start_event (record { transaction_id = record { start = 2; len = 1 }; group_no = 1; abort_on_error = 2; message_body = open_body (record { codepage = (some (record { start = 13; len = 2 })); client_id = (some (record { start = 17; len = 1 })); req_file_id = (record { start = 19; len = 2 }); server_id = (record { start = 22; len = 1 }); ref_time = (some 42); sml_version = (some 1) }) })) ∷ []; later = no_event }
  pub open_server_id : events_of (0x76 ∷ 0x02 ∷ 0x01 ∷ 0x62 ∷ 0x01 ∷ 0x62 ∷ 0x02 ∷ 0x72 ∷ 0x63 ∷ 0x01 ∷ 0x01 ∷ 0x76 ∷ 0x03 ∷ 0x0a ∷ 0x0b ∷ 0x02 ∷ 0x0c ∷ 0x80 ∷ 0x04 ∷ 0x0d ∷ 0x0e ∷ 0x02 ∷ 0x0f ∷ 0x65 ∷ 0x00 ∷ 0x00 ∷ 0x00 ∷ 0x2a ∷ 0x62 ∷ 0x01 ∷ 0x63 ∷ 0xe4 ∷ 0x4d ∷ 0x00 ∷ []) ≡ record { first = event (start_event (record { transaction_id = record { start = 2; len = 1 }; group_no = 1; abort_on_error = 2; message_body = open_body (record { codepage = (some (record { start = 13; len = 2 })); client_id = (some (record { start = 16; len = 1 })); req_file_id = (record { start = 19; len = 2 }); server_id = (record { start = 22; len = 1 }); ref_time = (some 42); sml_version = (some 1) }) })) ∷ []; later = no_event }
  pub list_transaction_id : events_of (0x76 ∷ 0x80 ∷ 0x03 ∷ 0x07 ∷ 0x62 ∷ 0x00 ∷ 0x62 ∷ 0x00 ∷ 0x72 ∷ 0x63 ∷ 0x07 ∷ 0x01 ∷ 0x77 ∷ 0x02 ∷ 0x01 ∷ 0x03 ∷ 0x02 ∷ 0x03 ∷ 0x02 ∷ 0x04 ∷ 0x72 ∷ 0x62 ∷ 0x01 ∷ 0x62 ∷ 0x2b ∷ 0x72 ∷ 0x77 ∷ 0x02 ∷ 0x05 ∷ 0x63 ∷ 0x01 ∷ 0x80 ∷ 0x72 ∷ 0x62 ∷ 0x01 ∷ 0x65 ∷ 0x00 ∷ 0x00 ∷ 0x01 ∷ 0x00 ∷ 0x62 ∷ 0x1e ∷ 0x52 ∷ 0xff ∷ 0x03 ∷ 0x06 ∷ 0x07 ∷ 0x02 ∷ 0x08 ∷ 0x77 ∷ 0x02 ∷ 0x09 ∷ 0x62 ∷ 0x05 ∷ 0x01 ∷ 0x01 ∷ 0x01 ∷ 0x54 ∷ 0xff ∷ 0x00 ∷ 0x01 ∷ 0x01 ∷ 0x02 ∷ 0x0a ∷ 0x65 ∷ 0x00 ∷ 0x00 ∷ 0x00 ∷ 0x09 ∷ 0x63 ∷ 0x0c ∷ 0xfd ∷ 0x00 ∷ []) ≡ record { first = event (start_event (record { transaction_id = record { start = 3; len = 1 }; group_no = 0; abort_on_error = 0; message_body = list_body (record { client_id = (some (record { start = 14; len = 1 })); server_id = (record { start = 16; len = 2 }); list_name = (some (record { start = 19; len = 1 })); act_sensor_time = (some 43); num_vals = 2 }) })) ∷ event (entry_event (record { obj_name = (record { start = 28; len = 1 }); status = (some (record { width = 2; number = 384 })); val_time = (some 256); unit = (some 30); scaler = (some (negsuc 0)); value = (bytes (record { start = 45; len = 2 })); value_signature = (some (record { start = 48; len = 1 })) })) ∷ event (entry_event (record { obj_name = (record { start = 51; len = 1 }); status = (some (record { width = 1; number = 5 })); val_time = none; unit = none; scaler = none; value = (signed 4 (negsuc 65534)); value_signature = none })) ∷ event (end_event (record { list_signature = (some (record { start = 63; len = 1 })); act_gateway_time = (some 9) })) ∷ []; later = no_event }
  pub list_client_id : events_of (0x76 ∷ 0x02 ∷ 0x07 ∷ 0x62 ∷ 0x00 ∷ 0x62 ∷ 0x00 ∷ 0x72 ∷ 0x63 ∷ 0x07 ∷ 0x01 ∷ 0x77 ∷ 0x80 ∷ 0x03 ∷ 0x01 ∷ 0x03 ∷ 0x02 ∷ 0x03 ∷ 0x02 ∷ 0x04 ∷ 0x72 ∷ 0x62 ∷ 0x01 ∷ 0x62 ∷ 0x2b ∷ 0x72 ∷ 0x77 ∷ 0x02 ∷ 0x05 ∷ 0x63 ∷ 0x01 ∷ 0x80 ∷ 0x72 ∷ 0x62 ∷ 0x01 ∷ 0x65 ∷ 0x00 ∷ 0x00 ∷ 0x01 ∷ 0x00 ∷ 0x62 ∷ 0x1e ∷ 0x52 ∷ 0xff ∷ 0x03 ∷ 0x06 ∷ 0x07 ∷ 0x02 ∷ 0x08 ∷ 0x77 ∷ 0x02 ∷ 0x09 ∷ 0x62 ∷ 0x05 ∷ 0x01 ∷ 0x01 ∷ 0x01 ∷ 0x54 ∷ 0xff ∷ 0x00 ∷ 0x01 ∷ 0x01 ∷ 0x02 ∷ 0x0a ∷ 0x65 ∷ 0x00 ∷ 0x00 ∷ 0x00 ∷ 0x09 ∷ 0x63 ∷ 0xeb ∷ 0xa1 ∷ 0x00 ∷ []) ≡ record { first = event (start_event (record { transaction_id = record { start = 2; len = 1 }; group_no = 0; abort_on_error = 0; message_body = list_body (record { client_id = (some (record { start = 14; len = 1 })); server_id = (record { start = 16; len = 2 }); list_name = (some (record { start = 19; len = 1 })); act_sensor_time = (some 43); num_vals = 2 }) })) ∷ event (entry_event (record { obj_name = (record { start = 28; len = 1 }); status = (some (record { width = 2; number = 384 })); val_time = (some 256); unit = (some 30); scaler = (some (negsuc 0)); value = (bytes (record { start = 45; len = 2 })); value_signature = (some (record { start = 48; len = 1 })) })) ∷ event (entry_event (record { obj_name = (record { start = 51; len = 1 }); status = (some (record { width = 1; number = 5 })); val_time = none; unit = none; scaler = none; value = (signed 4 (negsuc 65534)); value_signature = none })) ∷ event (end_event (record { list_signature = (some (record { start = 63; len = 1 })); act_gateway_time = (some 9) })) ∷ []; later = no_event }
  pub list_server_id : events_of (0x76 ∷ 0x02 ∷ 0x07 ∷ 0x62 ∷ 0x00 ∷ 0x62 ∷ 0x00 ∷ 0x72 ∷ 0x63 ∷ 0x07 ∷ 0x01 ∷ 0x77 ∷ 0x02 ∷ 0x01 ∷ 0x80 ∷ 0x04 ∷ 0x02 ∷ 0x03 ∷ 0x02 ∷ 0x04 ∷ 0x72 ∷ 0x62 ∷ 0x01 ∷ 0x62 ∷ 0x2b ∷ 0x72 ∷ 0x77 ∷ 0x02 ∷ 0x05 ∷ 0x63 ∷ 0x01 ∷ 0x80 ∷ 0x72 ∷ 0x62 ∷ 0x01 ∷ 0x65 ∷ 0x00 ∷ 0x00 ∷ 0x01 ∷ 0x00 ∷ 0x62 ∷ 0x1e ∷ 0x52 ∷ 0xff ∷ 0x03 ∷ 0x06 ∷ 0x07 ∷ 0x02 ∷ 0x08 ∷ 0x77 ∷ 0x02 ∷ 0x09 ∷ 0x62 ∷ 0x05 ∷ 0x01 ∷ 0x01 ∷ 0x01 ∷ 0x54 ∷ 0xff ∷ 0x00 ∷ 0x01 ∷ 0x01 ∷ 0x02 ∷ 0x0a ∷ 0x65 ∷ 0x00 ∷ 0x00 ∷ 0x00 ∷ 0x09 ∷ 0x63 ∷ 0x4e ∷ 0xf7 ∷ 0x00 ∷ []) ≡ record { first = event (start_event (record { transaction_id = record { start = 2; len = 1 }; group_no = 0; abort_on_error = 0; message_body = list_body (record { client_id = (some (record { start = 13; len = 1 })); server_id = (record { start = 16; len = 2 }); list_name = (some (record { start = 19; len = 1 })); act_sensor_time = (some 43); num_vals = 2 }) })) ∷ event (entry_event (record { obj_name = (record { start = 28; len = 1 }); status = (some (record { width = 2; number = 384 })); val_time = (some 256); unit = (some 30); scaler = (some (negsuc 0)); value = (bytes (record { start = 45; len = 2 })); value_signature = (some (record { start = 48; len = 1 })) })) ∷ event (entry_event (record { obj_name = (record { start = 51; len = 1 }); status = (some (record { width = 1; number = 5 })); val_time = none; unit = none; scaler = none; value = (signed 4 (negsuc 65534)); value_signature = none })) ∷ event (end_event (record { list_signature = (some (record { start = 63; len = 1 })); act_gateway_time = (some 9) })) ∷ []; later = no_event }
  pub list_list_name : events_of (0x76 ∷ 0x02 ∷ 0x07 ∷ 0x62 ∷ 0x00 ∷ 0x62 ∷ 0x00 ∷ 0x72 ∷ 0x63 ∷ 0x07 ∷ 0x01 ∷ 0x77 ∷ 0x02 ∷ 0x01 ∷ 0x03 ∷ 0x02 ∷ 0x03 ∷ 0x80 ∷ 0x03 ∷ 0x04 ∷ 0x72 ∷ 0x62 ∷ 0x01 ∷ 0x62 ∷ 0x2b ∷ 0x72 ∷ 0x77 ∷ 0x02 ∷ 0x05 ∷ 0x63 ∷ 0x01 ∷ 0x80 ∷ 0x72 ∷ 0x62 ∷ 0x01 ∷ 0x65 ∷ 0x00 ∷ 0x00 ∷ 0x01 ∷ 0x00 ∷ 0x62 ∷ 0x1e ∷ 0x52 ∷ 0xff ∷ 0x03 ∷ 0x06 ∷ 0x07 ∷ 0x02 ∷ 0x08 ∷ 0x77 ∷ 0x02 ∷ 0x09 ∷ 0x62 ∷ 0x05 ∷ 0x01 ∷ 0x01 ∷ 0x01 ∷ 0x54 ∷ 0xff ∷ 0x00 ∷ 0x01 ∷ 0x01 ∷ 0x02 ∷ 0x0a ∷ 0x65 ∷ 0x00 ∷ 0x00 ∷ 0x00 ∷ 0x09 ∷ 0x63 ∷ 0x24 ∷ 0xae ∷ 0x00 ∷ []) ≡ record { first = event (start_event (record { transaction_id = record { start = 2; len = 1 }; group_no = 0; abort_on_error = 0; message_body = list_body (record { client_id = (some (record { start = 13; len = 1 })); server_id = (record { start = 15; len = 2 }); list_name = (some (record { start = 19; len = 1 })); act_sensor_time = (some 43); num_vals = 2 }) })) ∷ event (entry_event (record { obj_name = (record { start = 28; len = 1 }); status = (some (record { width = 2; number = 384 })); val_time = (some 256); unit = (some 30); scaler = (some (negsuc 0)); value = (bytes (record { start = 45; len = 2 })); value_signature = (some (record { start = 48; len = 1 })) })) ∷ event (entry_event (record { obj_name = (record { start = 51; len = 1 }); status = (some (record { width = 1; number = 5 })); val_time = none; unit = none; scaler = none; value = (signed 4 (negsuc 65534)); value_signature = none })) ∷ event (end_event (record { list_signature = (some (record { start = 63; len = 1 })); act_gateway_time = (some 9) })) ∷ []; later = no_event }
  pub list_entry_name : events_of (0x76 ∷ 0x02 ∷ 0x07 ∷ 0x62 ∷ 0x00 ∷ 0x62 ∷ 0x00 ∷ 0x72 ∷ 0x63 ∷ 0x07 ∷ 0x01 ∷ 0x77 ∷ 0x02 ∷ 0x01 ∷ 0x03 ∷ 0x02 ∷ 0x03 ∷ 0x02 ∷ 0x04 ∷ 0x72 ∷ 0x62 ∷ 0x01 ∷ 0x62 ∷ 0x2b ∷ 0x72 ∷ 0x77 ∷ 0x80 ∷ 0x03 ∷ 0x05 ∷ 0x63 ∷ 0x01 ∷ 0x80 ∷ 0x72 ∷ 0x62 ∷ 0x01 ∷ 0x65 ∷ 0x00 ∷ 0x00 ∷ 0x01 ∷ 0x00 ∷ 0x62 ∷ 0x1e ∷ 0x52 ∷ 0xff ∷ 0x03 ∷ 0x06 ∷ 0x07 ∷ 0x02 ∷ 0x08 ∷ 0x77 ∷ 0x02 ∷ 0x09 ∷ 0x62 ∷ 0x05 ∷ 0x01 ∷ 0x01 ∷ 0x01 ∷ 0x54 ∷ 0xff ∷ 0x00 ∷ 0x01 ∷ 0x01 ∷ 0x02 ∷ 0x0a ∷ 0x65 ∷ 0x00 ∷ 0x00 ∷ 0x00 ∷ 0x09 ∷ 0x63 ∷ 0x83 ∷ 0x3a ∷ 0x00 ∷ []) ≡ record { first = event (start_event (record { transaction_id = record { start = 2; len = 1 }; group_no = 0; abort_on_error = 0; message_body = list_body (record { client_id = (some (record { start = 13; len = 1 })); server_id = (record { start = 15; len = 2 }); list_name = (some (record { start = 18; len = 1 })); act_sensor_time = (some 43); num_vals = 2 }) })) ∷ event (entry_event (record { obj_name = (record { start = 28; len = 1 }); status = (some (record { width = 2; number = 384 })); val_time = (some 256); unit = (some 30); scaler = (some (negsuc 0)); value = (bytes (record { start = 45; len = 2 })); value_signature = (some (record { start = 48; len = 1 })) })) ∷ event (entry_event (record { obj_name = (record { start = 51; len = 1 }); status = (some (record { width = 1; number = 5 })); val_time = none; unit = none; scaler = none; value = (signed 4 (negsuc 65534)); value_signature = none })) ∷ event (end_event (record { list_signature = (some (record { start = 63; len = 1 })); act_gateway_time = (some 9) })) ∷ []; later = no_event }
  pub list_value : events_of (0x76 ∷ 0x02 ∷ 0x07 ∷ 0x62 ∷ 0x00 ∷ 0x62 ∷ 0x00 ∷ 0x72 ∷ 0x63 ∷ 0x07 ∷ 0x01 ∷ 0x77 ∷ 0x02 ∷ 0x01 ∷ 0x03 ∷ 0x02 ∷ 0x03 ∷ 0x02 ∷ 0x04 ∷ 0x72 ∷ 0x62 ∷ 0x01 ∷ 0x62 ∷ 0x2b ∷ 0x72 ∷ 0x77 ∷ 0x02 ∷ 0x05 ∷ 0x63 ∷ 0x01 ∷ 0x80 ∷ 0x72 ∷ 0x62 ∷ 0x01 ∷ 0x65 ∷ 0x00 ∷ 0x00 ∷ 0x01 ∷ 0x00 ∷ 0x62 ∷ 0x1e ∷ 0x52 ∷ 0xff ∷ 0x80 ∷ 0x04 ∷ 0x06 ∷ 0x07 ∷ 0x02 ∷ 0x08 ∷ 0x77 ∷ 0x02 ∷ 0x09 ∷ 0x62 ∷ 0x05 ∷ 0x01 ∷ 0x01 ∷ 0x01 ∷ 0x54 ∷ 0xff ∷ 0x00 ∷ 0x01 ∷ 0x01 ∷ 0x02 ∷ 0x0a ∷ 0x65 ∷ 0x00 ∷ 0x00 ∷ 0x00 ∷ 0x09 ∷ 0x63 ∷ 0x47 ∷ 0x4c ∷ 0x00 ∷ []) ≡ record { first = event (start_event (record { transaction_id = record { start = 2; len = 1 }; group_no = 0; abort_on_error = 0; message_body = list_body (record { client_id = (some (record { start = 13; len = 1 })); server_id = (record { start = 15; len = 2 }); list_name = (some (record { start = 18; len = 1 })); act_sensor_time = (some 43); num_vals = 2 }) })) ∷ event (entry_event (record { obj_name = (record { start = 27; len = 1 }); status = (some (record { width = 2; number = 384 })); val_time = (some 256); unit = (some 30); scaler = (some (negsuc 0)); value = (bytes (record { start = 45; len = 2 })); value_signature = (some (record { start = 48; len = 1 })) })) ∷ event (entry_event (record { obj_name = (record { start = 51; len = 1 }); status = (some (record { width = 1; number = 5 })); val_time = none; unit = none; scaler = none; value = (signed 4 (negsuc 65534)); value_signature = none })) ∷ event (end_event (record { list_signature = (some (record { start = 63; len = 1 })); act_gateway_time = (some 9) })) ∷ []; later = no_event }
  pub list_value_signature : events_of (0x76 ∷ 0x02 ∷ 0x07 ∷ 0x62 ∷ 0x00 ∷ 0x62 ∷ 0x00 ∷ 0x72 ∷ 0x63 ∷ 0x07 ∷ 0x01 ∷ 0x77 ∷ 0x02 ∷ 0x01 ∷ 0x03 ∷ 0x02 ∷ 0x03 ∷ 0x02 ∷ 0x04 ∷ 0x72 ∷ 0x62 ∷ 0x01 ∷ 0x62 ∷ 0x2b ∷ 0x72 ∷ 0x77 ∷ 0x02 ∷ 0x05 ∷ 0x63 ∷ 0x01 ∷ 0x80 ∷ 0x72 ∷ 0x62 ∷ 0x01 ∷ 0x65 ∷ 0x00 ∷ 0x00 ∷ 0x01 ∷ 0x00 ∷ 0x62 ∷ 0x1e ∷ 0x52 ∷ 0xff ∷ 0x03 ∷ 0x06 ∷ 0x07 ∷ 0x80 ∷ 0x03 ∷ 0x08 ∷ 0x77 ∷ 0x02 ∷ 0x09 ∷ 0x62 ∷ 0x05 ∷ 0x01 ∷ 0x01 ∷ 0x01 ∷ 0x54 ∷ 0xff ∷ 0x00 ∷ 0x01 ∷ 0x01 ∷ 0x02 ∷ 0x0a ∷ 0x65 ∷ 0x00 ∷ 0x00 ∷ 0x00 ∷ 0x09 ∷ 0x63 ∷ 0x96 ∷ 0x1a ∷ 0x00 ∷ []) ≡ record { first = event (start_event (record { transaction_id = record { start = 2; len = 1 }; group_no = 0; abort_on_error = 0; message_body = list_body (record { client_id = (some (record { start = 13; len = 1 })); server_id = (record { start = 15; len = 2 }); list_name = (some (record { start = 18; len = 1 })); act_sensor_time = (some 43); num_vals = 2 }) })) ∷ event (entry_event (record { obj_name = (record { start = 27; len = 1 }); status = (some (record { width = 2; number = 384 })); val_time = (some 256); unit = (some 30); scaler = (some (negsuc 0)); value = (bytes (record { start = 44; len = 2 })); value_signature = (some (record { start = 48; len = 1 })) })) ∷ event (entry_event (record { obj_name = (record { start = 51; len = 1 }); status = (some (record { width = 1; number = 5 })); val_time = none; unit = none; scaler = none; value = (signed 4 (negsuc 65534)); value_signature = none })) ∷ event (end_event (record { list_signature = (some (record { start = 63; len = 1 })); act_gateway_time = (some 9) })) ∷ []; later = no_event }
  pub list_list_signature : events_of (0x76 ∷ 0x02 ∷ 0x07 ∷ 0x62 ∷ 0x00 ∷ 0x62 ∷ 0x00 ∷ 0x72 ∷ 0x63 ∷ 0x07 ∷ 0x01 ∷ 0x77 ∷ 0x02 ∷ 0x01 ∷ 0x03 ∷ 0x02 ∷ 0x03 ∷ 0x02 ∷ 0x04 ∷ 0x72 ∷ 0x62 ∷ 0x01 ∷ 0x62 ∷ 0x2b ∷ 0x72 ∷ 0x77 ∷ 0x02 ∷ 0x05 ∷ 0x63 ∷ 0x01 ∷ 0x80 ∷ 0x72 ∷ 0x62 ∷ 0x01 ∷ 0x65 ∷ 0x00 ∷ 0x00 ∷ 0x01 ∷ 0x00 ∷ 0x62 ∷ 0x1e ∷ 0x52 ∷ 0xff ∷ 0x03 ∷ 0x06 ∷ 0x07 ∷ 0x02 ∷ 0x08 ∷ 0x77 ∷ 0x02 ∷ 0x09 ∷ 0x62 ∷ 0x05 ∷ 0x01 ∷ 0x01 ∷ 0x01 ∷ 0x54 ∷ 0xff ∷ 0x00 ∷ 0x01 ∷ 0x01 ∷ 0x80 ∷ 0x03 ∷ 0x0a ∷ 0x65 ∷ 0x00 ∷ 0x00 ∷ 0x00 ∷ 0x09 ∷ 0x63 ∷ 0x18 ∷ 0xba ∷ 0x00 ∷ []) ≡ record { first = event (start_event (record { transaction_id = record { start = 2; len = 1 }; group_no = 0; abort_on_error = 0; message_body = list_body (record { client_id = (some (record { start = 13; len = 1 })); server_id = (record { start = 15; len = 2 }); list_name = (some (record { start = 18; len = 1 })); act_sensor_time = (some 43); num_vals = 2 }) })) ∷ event (entry_event (record { obj_name = (record { start = 27; len = 1 }); status = (some (record { width = 2; number = 384 })); val_time = (some 256); unit = (some 30); scaler = (some (negsuc 0)); value = (bytes (record { start = 44; len = 2 })); value_signature = (some (record { start = 47; len = 1 })) })) ∷ event (entry_event (record { obj_name = (record { start = 50; len = 1 }); status = (some (record { width = 1; number = 5 })); val_time = none; unit = none; scaler = none; value = (signed 4 (negsuc 65534)); value_signature = none })) ∷ event (end_event (record { list_signature = (some (record { start = 63; len = 1 })); act_gateway_time = (some 9) })) ∷ []; later = no_event }
  pub close_signature : events_of (0x76 ∷ 0x03 ∷ 0xdd ∷ 0x43 ∷ 0x62 ∷ 0x00 ∷ 0x62 ∷ 0x00 ∷ 0x72 ∷ 0x63 ∷ 0x02 ∷ 0x01 ∷ 0x71 ∷ 0x80 ∷ 0x03 ∷ 0x11 ∷ 0x63 ∷ 0x89 ∷ 0x1d ∷ 0x00 ∷ []) ≡ record { first = event (start_event (record { transaction_id = record { start = 2; len = 2 }; group_no = 0; abort_on_error = 0; message_body = close_body (record { global_signature = (some (record { start = 15; len = 1 })) }) })) ∷ []; later = no_event }
  pub nothing : events_of ([]) ≡ record { first = []; later = no_event }
  pub wrong_crc : events_of (0x76 ∷ 0x03 ∷ 0xdd ∷ 0x43 ∷ 0x62 ∷ 0x00 ∷ 0x62 ∷ 0x00 ∷ 0x72 ∷ 0x63 ∷ 0x02 ∷ 0x01 ∷ 0x71 ∷ 0x01 ∷ 0x63 ∷ 0x0f ∷ 0x5a ∷ 0x00 ∷ []) ≡ record { first = event (start_event (record { transaction_id = record { start = 2; len = 2 }; group_no = 0; abort_on_error = 0; message_body = close_body (record { global_signature = none }) })) ∷ failed (crc_mismatch 14) ∷ []; later = failed (eof 18) }
  pub crc_not_swapped : events_of (0x76 ∷ 0x03 ∷ 0xdd ∷ 0x43 ∷ 0x62 ∷ 0x00 ∷ 0x62 ∷ 0x00 ∷ 0x72 ∷ 0x63 ∷ 0x02 ∷ 0x01 ∷ 0x71 ∷ 0x01 ∷ 0x63 ∷ 0x5b ∷ 0x0f ∷ 0x00 ∷ []) ≡ record { first = event (start_event (record { transaction_id = record { start = 2; len = 2 }; group_no = 0; abort_on_error = 0; message_body = close_body (record { global_signature = none }) })) ∷ failed (crc_mismatch 14) ∷ []; later = failed (eof 18) }
  pub wrong_end_lem : events_of (0x76 ∷ 0x03 ∷ 0xdd ∷ 0x43 ∷ 0x62 ∷ 0x00 ∷ 0x62 ∷ 0x00 ∷ 0x72 ∷ 0x63 ∷ 0x02 ∷ 0x01 ∷ 0x71 ∷ 0x01 ∷ 0x63 ∷ 0x0f ∷ 0x5b ∷ 0x01 ∷ []) ≡ record { first = event (start_event (record { transaction_id = record { start = 2; len = 2 }; group_no = 0; abort_on_error = 0; message_body = close_body (record { global_signature = none }) })) ∷ failed (wrong_end 17) ∷ []; later = failed (eof 18) }
  pub end_before_crc : events_of (0x76 ∷ 0x03 ∷ 0xdd ∷ 0x43 ∷ 0x62 ∷ 0x00 ∷ 0x62 ∷ 0x00 ∷ 0x72 ∷ 0x63 ∷ 0x02 ∷ 0x01 ∷ 0x71 ∷ 0x01 ∷ 0x63 ∷ 0x0f ∷ 0x5a ∷ 0x01 ∷ []) ≡ record { first = event (start_event (record { transaction_id = record { start = 2; len = 2 }; group_no = 0; abort_on_error = 0; message_body = close_body (record { global_signature = none }) })) ∷ failed (wrong_end 17) ∷ []; later = failed (eof 18) }
  pub no_end_claim : events_of (0x76 ∷ 0x03 ∷ 0xdd ∷ 0x43 ∷ 0x62 ∷ 0x00 ∷ 0x62 ∷ 0x00 ∷ 0x72 ∷ 0x63 ∷ 0x02 ∷ 0x01 ∷ 0x71 ∷ 0x01 ∷ 0x63 ∷ 0x0f ∷ 0x5b ∷ []) ≡ record { first = event (start_event (record { transaction_id = record { start = 2; len = 2 }; group_no = 0; abort_on_error = 0; message_body = close_body (record { global_signature = none }) })) ∷ failed (eof 17) ∷ []; later = failed (eof 17) }
  pub crc_of_three : events_of (0x76 ∷ 0x03 ∷ 0xdd ∷ 0x43 ∷ 0x62 ∷ 0x00 ∷ 0x62 ∷ 0x00 ∷ 0x72 ∷ 0x63 ∷ 0x02 ∷ 0x01 ∷ 0x71 ∷ 0x01 ∷ 0x64 ∷ 0x00 ∷ 0x00 ∷ 0x00 ∷ 0x00 ∷ []) ≡ record { first = event (start_event (record { transaction_id = record { start = 2; len = 2 }; group_no = 0; abort_on_error = 0; message_body = close_body (record { global_signature = none }) })) ∷ failed (mismatch 14) ∷ []; later = failed (eof 19) }
  pub crc_underflow : events_of (0x76 ∷ 0x03 ∷ 0xdd ∷ 0x43 ∷ 0x62 ∷ 0x00 ∷ 0x62 ∷ 0x00 ∷ 0x72 ∷ 0x63 ∷ 0x02 ∷ 0x01 ∷ 0x71 ∷ 0x01 ∷ 0x00 ∷ 0x00 ∷ 0x00 ∷ []) ≡ record { first = event (start_event (record { transaction_id = record { start = 2; len = 2 }; group_no = 0; abort_on_error = 0; message_body = close_body (record { global_signature = none }) })) ∷ failed (underflow 14) ∷ []; later = failed (eof 17) }
  pub zero_behind : events_of (0x76 ∷ 0x03 ∷ 0xdd ∷ 0x43 ∷ 0x62 ∷ 0x00 ∷ 0x62 ∷ 0x00 ∷ 0x72 ∷ 0x63 ∷ 0x02 ∷ 0x01 ∷ 0x71 ∷ 0x01 ∷ 0x63 ∷ 0x0f ∷ 0x5b ∷ 0x00 ∷ 0x00 ∷ []) ≡ record { first = event (start_event (record { transaction_id = record { start = 2; len = 2 }; group_no = 0; abort_on_error = 0; message_body = close_body (record { global_signature = none }) })) ∷ failed (underflow 18) ∷ []; later = no_event }
  pub list_of_five : events_of (0x76 ∷ 0x03 ∷ 0xdd ∷ 0x43 ∷ 0x62 ∷ 0x00 ∷ 0x62 ∷ 0x00 ∷ 0x72 ∷ 0x63 ∷ 0x02 ∷ 0x01 ∷ 0x71 ∷ 0x01 ∷ 0x63 ∷ 0x0f ∷ 0x5b ∷ 0x00 ∷ 0x75 ∷ []) ≡ record { first = event (start_event (record { transaction_id = record { start = 2; len = 2 }; group_no = 0; abort_on_error = 0; message_body = close_body (record { global_signature = none }) })) ∷ failed (mismatch 18) ∷ []; later = no_event }
  pub unknown_tag : events_of (0x76 ∷ 0x03 ∷ 0xdd ∷ 0x43 ∷ 0x62 ∷ 0x00 ∷ 0x62 ∷ 0x00 ∷ 0x72 ∷ 0x63 ∷ 0x03 ∷ 0x01 ∷ 0x71 ∷ 0x01 ∷ []) ≡ record { first = failed (unexpected 9) ∷ []; later = no_event }
  pub time_tag_lem : events_of (0x76 ∷ 0x02 ∷ 0x01 ∷ 0x62 ∷ 0x01 ∷ 0x62 ∷ 0x02 ∷ 0x72 ∷ 0x63 ∷ 0x01 ∷ 0x01 ∷ 0x76 ∷ 0x03 ∷ 0x0a ∷ 0x0b ∷ 0x02 ∷ 0x0c ∷ 0x03 ∷ 0x0d ∷ 0x0e ∷ 0x02 ∷ 0x0f ∷ 0x72 ∷ 0x62 ∷ 0x02 ∷ 0x65 ∷ 0x00 ∷ 0x00 ∷ 0x00 ∷ 0x2a ∷ 0x62 ∷ 0x01 ∷ []) ≡ record { first = failed (unexpected 23) ∷ []; later = no_event }
  pub bare_time_of_three : events_of (0x76 ∷ 0x02 ∷ 0x01 ∷ 0x62 ∷ 0x01 ∷ 0x62 ∷ 0x02 ∷ 0x72 ∷ 0x63 ∷ 0x01 ∷ 0x01 ∷ 0x76 ∷ 0x03 ∷ 0x0a ∷ 0x0b ∷ 0x02 ∷ 0x0c ∷ 0x03 ∷ 0x0d ∷ 0x0e ∷ 0x02 ∷ 0x0f ∷ 0x64 ∷ 0x00 ∷ 0x00 ∷ 0x2a ∷ 0x62 ∷ 0x01 ∷ []) ≡ record { first = failed (mismatch 22) ∷ []; later = no_event }
  pub time_present_empty : events_of (0x76 ∷ 0x02 ∷ 0x01 ∷ 0x62 ∷ 0x01 ∷ 0x62 ∷ 0x02 ∷ 0x72 ∷ 0x63 ∷ 0x01 ∷ 0x01 ∷ 0x76 ∷ 0x03 ∷ 0x0a ∷ 0x0b ∷ 0x02 ∷ 0x0c ∷ 0x03 ∷ 0x0d ∷ 0x0e ∷ 0x02 ∷ 0x0f ∷ 0x80 ∷ 0x02 ∷ 0x62 ∷ 0x01 ∷ []) ≡ record { first = failed (mismatch 22) ∷ []; later = no_event }
  pub reserved : events_of (0x76 ∷ 0x02 ∷ 0x01 ∷ 0x62 ∷ 0x01 ∷ 0x62 ∷ 0x02 ∷ 0x72 ∷ 0x63 ∷ 0x01 ∷ 0x01 ∷ 0x76 ∷ 0x03 ∷ 0x0a ∷ 0x0b ∷ 0x02 ∷ 0x0c ∷ 0x03 ∷ 0x0d ∷ 0x0e ∷ 0x02 ∷ 0x0f ∷ 0xc2 ∷ []) ≡ record { first = failed (reserved 22) ∷ []; later = no_event }
  pub no_type : events_of (0x76 ∷ 0x02 ∷ 0x01 ∷ 0x62 ∷ 0x01 ∷ 0x62 ∷ 0x02 ∷ 0x72 ∷ 0x63 ∷ 0x01 ∷ 0x01 ∷ 0x76 ∷ 0x03 ∷ 0x0a ∷ 0x0b ∷ 0x02 ∷ 0x0c ∷ 0x03 ∷ 0x0d ∷ 0x0e ∷ 0x02 ∷ 0x0f ∷ 0x10 ∷ []) ≡ record { first = failed (invalid_ty 22) ∷ []; later = no_event }
  pub next_type_lem : events_of (0x76 ∷ 0x02 ∷ 0x01 ∷ 0x62 ∷ 0x01 ∷ 0x62 ∷ 0x02 ∷ 0x72 ∷ 0x63 ∷ 0x01 ∷ 0x01 ∷ 0x76 ∷ 0x03 ∷ 0x0a ∷ 0x0b ∷ 0x02 ∷ 0x0c ∷ 0x03 ∷ 0x0d ∷ 0x0e ∷ 0x02 ∷ 0x0f ∷ 0xe1 ∷ 0x12 ∷ []) ≡ record { first = failed (next_type 22) ∷ []; later = no_event }
  pub entry_of_six : events_of (0x76 ∷ 0x02 ∷ 0x07 ∷ 0x62 ∷ 0x00 ∷ 0x62 ∷ 0x00 ∷ 0x72 ∷ 0x63 ∷ 0x07 ∷ 0x01 ∷ 0x77 ∷ 0x02 ∷ 0x01 ∷ 0x03 ∷ 0x02 ∷ 0x03 ∷ 0x02 ∷ 0x04 ∷ 0x72 ∷ 0x62 ∷ 0x01 ∷ 0x62 ∷ 0x2b ∷ 0x72 ∷ 0x77 ∷ 0x02 ∷ 0x05 ∷ 0x63 ∷ 0x01 ∷ 0x80 ∷ 0x72 ∷ 0x62 ∷ 0x01 ∷ 0x65 ∷ 0x00 ∷ 0x00 ∷ 0x01 ∷ 0x00 ∷ 0x62 ∷ 0x1e ∷ 0x52 ∷ 0xff ∷ 0x03 ∷ 0x06 ∷ 0x07 ∷ 0x02 ∷ 0x08 ∷ 0x76 ∷ []) ≡ record { first = event (start_event (record { transaction_id = record { start = 2; len = 1 }; group_no = 0; abort_on_error = 0; message_body = list_body (record { client_id = (some (record { start = 13; len = 1 })); server_id = (record { start = 15; len = 2 }); list_name = (some (record { start = 18; len = 1 })); act_sensor_time = (some 43); num_vals = 2 }) })) ∷ event (entry_event (record { obj_name = (record { start = 27; len = 1 }); status = (some (record { width = 2; number = 384 })); val_time = (some 256); unit = (some 30); scaler = (some (negsuc 0)); value = (bytes (record { start = 44; len = 2 })); value_signature = (some (record { start = 47; len = 1 })) })) ∷ failed (mismatch 48) ∷ []; later = failed (eof 49) }
  pub list_value_tag : events_of (0x76 ∷ 0x02 ∷ 0x07 ∷ 0x62 ∷ 0x00 ∷ 0x62 ∷ 0x00 ∷ 0x72 ∷ 0x63 ∷ 0x07 ∷ 0x01 ∷ 0x77 ∷ 0x02 ∷ 0x01 ∷ 0x03 ∷ 0x02 ∷ 0x03 ∷ 0x02 ∷ 0x04 ∷ 0x72 ∷ 0x62 ∷ 0x01 ∷ 0x62 ∷ 0x2b ∷ 0x72 ∷ 0x77 ∷ 0x02 ∷ 0x05 ∷ 0x63 ∷ 0x01 ∷ 0x80 ∷ 0x72 ∷ 0x62 ∷ 0x01 ∷ 0x65 ∷ 0x00 ∷ 0x00 ∷ 0x01 ∷ 0x00 ∷ 0x62 ∷ 0x1e ∷ 0x52 ∷ 0xff ∷ 0x03 ∷ 0x06 ∷ 0x07 ∷ 0x02 ∷ 0x08 ∷ 0x77 ∷ 0x02 ∷ 0x09 ∷ 0x62 ∷ 0x05 ∷ 0x01 ∷ 0x01 ∷ 0x01 ∷ 0x72 ∷ 0x62 ∷ 0x03 ∷ []) ≡ record { first = event (start_event (record { transaction_id = record { start = 2; len = 1 }; group_no = 0; abort_on_error = 0; message_body = list_body (record { client_id = (some (record { start = 13; len = 1 })); server_id = (record { start = 15; len = 2 }); list_name = (some (record { start = 18; len = 1 })); act_sensor_time = (some 43); num_vals = 2 }) })) ∷ event (entry_event (record { obj_name = (record { start = 27; len = 1 }); status = (some (record { width = 2; number = 384 })); val_time = (some 256); unit = (some 30); scaler = (some (negsuc 0)); value = (bytes (record { start = 44; len = 2 })); value_signature = (some (record { start = 47; len = 1 })) })) ∷ failed (unexpected 57) ∷ []; later = failed (eof 59) }
  pub list_value_of_three : events_of (0x76 ∷ 0x02 ∷ 0x07 ∷ 0x62 ∷ 0x00 ∷ 0x62 ∷ 0x00 ∷ 0x72 ∷ 0x63 ∷ 0x07 ∷ 0x01 ∷ 0x77 ∷ 0x02 ∷ 0x01 ∷ 0x03 ∷ 0x02 ∷ 0x03 ∷ 0x02 ∷ 0x04 ∷ 0x72 ∷ 0x62 ∷ 0x01 ∷ 0x62 ∷ 0x2b ∷ 0x72 ∷ 0x77 ∷ 0x02 ∷ 0x05 ∷ 0x63 ∷ 0x01 ∷ 0x80 ∷ 0x72 ∷ 0x62 ∷ 0x01 ∷ 0x65 ∷ 0x00 ∷ 0x00 ∷ 0x01 ∷ 0x00 ∷ 0x62 ∷ 0x1e ∷ 0x52 ∷ 0xff ∷ 0x03 ∷ 0x06 ∷ 0x07 ∷ 0x02 ∷ 0x08 ∷ 0x77 ∷ 0x02 ∷ 0x09 ∷ 0x62 ∷ 0x05 ∷ 0x01 ∷ 0x01 ∷ 0x01 ∷ 0x73 ∷ []) ≡ record { first = event (start_event (record { transaction_id = record { start = 2; len = 1 }; group_no = 0; abort_on_error = 0; message_body = list_body (record { client_id = (some (record { start = 13; len = 1 })); server_id = (record { start = 15; len = 2 }); list_name = (some (record { start = 18; len = 1 })); act_sensor_time = (some 43); num_vals = 2 }) })) ∷ event (entry_event (record { obj_name = (record { start = 27; len = 1 }); status = (some (record { width = 2; number = 384 })); val_time = (some 256); unit = (some 30); scaler = (some (negsuc 0)); value = (bytes (record { start = 44; len = 2 })); value_signature = (some (record { start = 47; len = 1 })) })) ∷ failed (mismatch 56) ∷ []; later = failed (eof 57) }
  pub value_of_nine : events_of (0x76 ∷ 0x02 ∷ 0x07 ∷ 0x62 ∷ 0x00 ∷ 0x62 ∷ 0x00 ∷ 0x72 ∷ 0x63 ∷ 0x07 ∷ 0x01 ∷ 0x77 ∷ 0x02 ∷ 0x01 ∷ 0x03 ∷ 0x02 ∷ 0x03 ∷ 0x02 ∷ 0x04 ∷ 0x72 ∷ 0x62 ∷ 0x01 ∷ 0x62 ∷ 0x2b ∷ 0x72 ∷ 0x77 ∷ 0x02 ∷ 0x05 ∷ 0x63 ∷ 0x01 ∷ 0x80 ∷ 0x72 ∷ 0x62 ∷ 0x01 ∷ 0x65 ∷ 0x00 ∷ 0x00 ∷ 0x01 ∷ 0x00 ∷ 0x62 ∷ 0x1e ∷ 0x52 ∷ 0xff ∷ 0x03 ∷ 0x06 ∷ 0x07 ∷ 0x02 ∷ 0x08 ∷ 0x77 ∷ 0x02 ∷ 0x09 ∷ 0x62 ∷ 0x05 ∷ 0x01 ∷ 0x01 ∷ 0x01 ∷ 0x6a ∷ 0x00 ∷ 0x00 ∷ []) ≡ record { first = event (start_event (record { transaction_id = record { start = 2; len = 1 }; group_no = 0; abort_on_error = 0; message_body = list_body (record { client_id = (some (record { start = 13; len = 1 })); server_id = (record { start = 15; len = 2 }); list_name = (some (record { start = 18; len = 1 })); act_sensor_time = (some 43); num_vals = 2 }) })) ∷ event (entry_event (record { obj_name = (record { start = 27; len = 1 }); status = (some (record { width = 2; number = 384 })); val_time = (some 256); unit = (some 30); scaler = (some (negsuc 0)); value = (bytes (record { start = 44; len = 2 })); value_signature = (some (record { start = 47; len = 1 })) })) ∷ failed (mismatch 56) ∷ []; later = failed (eof 59) }
  pub end_signature : events_of (0x76 ∷ 0x02 ∷ 0x07 ∷ 0x62 ∷ 0x00 ∷ 0x62 ∷ 0x00 ∷ 0x72 ∷ 0x63 ∷ 0x07 ∷ 0x01 ∷ 0x77 ∷ 0x02 ∷ 0x01 ∷ 0x03 ∷ 0x02 ∷ 0x03 ∷ 0x02 ∷ 0x04 ∷ 0x72 ∷ 0x62 ∷ 0x01 ∷ 0x62 ∷ 0x2b ∷ 0x72 ∷ 0x77 ∷ 0x02 ∷ 0x05 ∷ 0x63 ∷ 0x01 ∷ 0x80 ∷ 0x72 ∷ 0x62 ∷ 0x01 ∷ 0x65 ∷ 0x00 ∷ 0x00 ∷ 0x01 ∷ 0x00 ∷ 0x62 ∷ 0x1e ∷ 0x52 ∷ 0xff ∷ 0x03 ∷ 0x06 ∷ 0x07 ∷ 0x02 ∷ 0x08 ∷ 0x77 ∷ 0x02 ∷ 0x09 ∷ 0x62 ∷ 0x05 ∷ 0x01 ∷ 0x01 ∷ 0x01 ∷ 0x54 ∷ 0xff ∷ 0x00 ∷ 0x01 ∷ 0x01 ∷ 0x62 ∷ 0x00 ∷ []) ≡ record { first = event (start_event (record { transaction_id = record { start = 2; len = 1 }; group_no = 0; abort_on_error = 0; message_body = list_body (record { client_id = (some (record { start = 13; len = 1 })); server_id = (record { start = 15; len = 2 }); list_name = (some (record { start = 18; len = 1 })); act_sensor_time = (some 43); num_vals = 2 }) })) ∷ event (entry_event (record { obj_name = (record { start = 27; len = 1 }); status = (some (record { width = 2; number = 384 })); val_time = (some 256); unit = (some 30); scaler = (some (negsuc 0)); value = (bytes (record { start = 44; len = 2 })); value_signature = (some (record { start = 47; len = 1 })) })) ∷ event (entry_event (record { obj_name = (record { start = 50; len = 1 }); status = (some (record { width = 1; number = 5 })); val_time = none; unit = none; scaler = none; value = (signed 4 (negsuc 65534)); value_signature = none })) ∷ failed (mismatch 61) ∷ []; later = failed (eof 63) }
  pub value_true : events_of (0x76 ∷ 0x02 ∷ 0x07 ∷ 0x62 ∷ 0x00 ∷ 0x62 ∷ 0x00 ∷ 0x72 ∷ 0x63 ∷ 0x07 ∷ 0x01 ∷ 0x77 ∷ 0x02 ∷ 0x01 ∷ 0x03 ∷ 0x02 ∷ 0x03 ∷ 0x02 ∷ 0x04 ∷ 0x72 ∷ 0x62 ∷ 0x01 ∷ 0x62 ∷ 0x2b ∷ 0x72 ∷ 0x77 ∷ 0x02 ∷ 0x05 ∷ 0x63 ∷ 0x01 ∷ 0x80 ∷ 0x72 ∷ 0x62 ∷ 0x01 ∷ 0x65 ∷ 0x00 ∷ 0x00 ∷ 0x01 ∷ 0x00 ∷ 0x62 ∷ 0x1e ∷ 0x52 ∷ 0xff ∷ 0x03 ∷ 0x06 ∷ 0x07 ∷ 0x02 ∷ 0x08 ∷ 0x77 ∷ 0x02 ∷ 0x09 ∷ 0x62 ∷ 0x05 ∷ 0x01 ∷ 0x01 ∷ 0x01 ∷ 0x42 ∷ 0x07 ∷ 0x01 ∷ 0x02 ∷ 0x0a ∷ 0x65 ∷ 0x00 ∷ 0x00 ∷ 0x00 ∷ 0x09 ∷ 0x63 ∷ 0x7c ∷ 0xa1 ∷ 0x00 ∷ []) ≡ record { first = event (start_event (record { transaction_id = record { start = 2; len = 1 }; group_no = 0; abort_on_error = 0; message_body = list_body (record { client_id = (some (record { start = 13; len = 1 })); server_id = (record { start = 15; len = 2 }); list_name = (some (record { start = 18; len = 1 })); act_sensor_time = (some 43); num_vals = 2 }) })) ∷ event (entry_event (record { obj_name = (record { start = 27; len = 1 }); status = (some (record { width = 2; number = 384 })); val_time = (some 256); unit = (some 30); scaler = (some (negsuc 0)); value = (bytes (record { start = 44; len = 2 })); value_signature = (some (record { start = 47; len = 1 })) })) ∷ event (entry_event (record { obj_name = (record { start = 50; len = 1 }); status = (some (record { width = 1; number = 5 })); val_time = none; unit = none; scaler = none; value = (truth true); value_signature = none })) ∷ event (end_event (record { list_signature = (some (record { start = 60; len = 1 })); act_gateway_time = (some 9) })) ∷ []; later = no_event }
  pub value_empty : events_of (0x76 ∷ 0x02 ∷ 0x07 ∷ 0x62 ∷ 0x00 ∷ 0x62 ∷ 0x00 ∷ 0x72 ∷ 0x63 ∷ 0x07 ∷ 0x01 ∷ 0x77 ∷ 0x02 ∷ 0x01 ∷ 0x03 ∷ 0x02 ∷ 0x03 ∷ 0x02 ∷ 0x04 ∷ 0x72 ∷ 0x62 ∷ 0x01 ∷ 0x62 ∷ 0x2b ∷ 0x72 ∷ 0x77 ∷ 0x02 ∷ 0x05 ∷ 0x63 ∷ 0x01 ∷ 0x80 ∷ 0x72 ∷ 0x62 ∷ 0x01 ∷ 0x65 ∷ 0x00 ∷ 0x00 ∷ 0x01 ∷ 0x00 ∷ 0x62 ∷ 0x1e ∷ 0x52 ∷ 0xff ∷ 0x03 ∷ 0x06 ∷ 0x07 ∷ 0x02 ∷ 0x08 ∷ 0x77 ∷ 0x02 ∷ 0x09 ∷ 0x62 ∷ 0x05 ∷ 0x01 ∷ 0x01 ∷ 0x01 ∷ 0x01 ∷ 0x01 ∷ 0x02 ∷ 0x0a ∷ 0x65 ∷ 0x00 ∷ 0x00 ∷ 0x00 ∷ 0x09 ∷ 0x63 ∷ 0xb4 ∷ 0x9c ∷ 0x00 ∷ []) ≡ record { first = event (start_event (record { transaction_id = record { start = 2; len = 1 }; group_no = 0; abort_on_error = 0; message_body = list_body (record { client_id = (some (record { start = 13; len = 1 })); server_id = (record { start = 15; len = 2 }); list_name = (some (record { start = 18; len = 1 })); act_sensor_time = (some 43); num_vals = 2 }) })) ∷ event (entry_event (record { obj_name = (record { start = 27; len = 1 }); status = (some (record { width = 2; number = 384 })); val_time = (some 256); unit = (some 30); scaler = (some (negsuc 0)); value = (bytes (record { start = 44; len = 2 })); value_signature = (some (record { start = 47; len = 1 })) })) ∷ event (entry_event (record { obj_name = (record { start = 50; len = 1 }); status = (some (record { width = 1; number = 5 })); val_time = none; unit = none; scaler = none; value = (bytes (record { start = 57; len = 0 })); value_signature = none })) ∷ event (end_event (record { list_signature = (some (record { start = 59; len = 1 })); act_gateway_time = (some 9) })) ∷ []; later = no_event }
  pub value_list : events_of (0x76 ∷ 0x02 ∷ 0x07 ∷ 0x62 ∷ 0x00 ∷ 0x62 ∷ 0x00 ∷ 0x72 ∷ 0x63 ∷ 0x07 ∷ 0x01 ∷ 0x77 ∷ 0x02 ∷ 0x01 ∷ 0x03 ∷ 0x02 ∷ 0x03 ∷ 0x02 ∷ 0x04 ∷ 0x72 ∷ 0x62 ∷ 0x01 ∷ 0x62 ∷ 0x2b ∷ 0x72 ∷ 0x77 ∷ 0x02 ∷ 0x05 ∷ 0x63 ∷ 0x01 ∷ 0x80 ∷ 0x72 ∷ 0x62 ∷ 0x01 ∷ 0x65 ∷ 0x00 ∷ 0x00 ∷ 0x01 ∷ 0x00 ∷ 0x62 ∷ 0x1e ∷ 0x52 ∷ 0xff ∷ 0x03 ∷ 0x06 ∷ 0x07 ∷ 0x02 ∷ 0x08 ∷ 0x77 ∷ 0x02 ∷ 0x09 ∷ 0x62 ∷ 0x05 ∷ 0x01 ∷ 0x01 ∷ 0x01 ∷ 0x72 ∷ 0x62 ∷ 0x01 ∷ 0x72 ∷ 0x62 ∷ 0x01 ∷ 0x62 ∷ 0x05 ∷ 0x01 ∷ 0x02 ∷ 0x0a ∷ 0x65 ∷ 0x00 ∷ 0x00 ∷ 0x00 ∷ 0x09 ∷ 0x63 ∷ 0xc1 ∷ 0x26 ∷ 0x00 ∷ []) ≡ record { first = event (start_event (record { transaction_id = record { start = 2; len = 1 }; group_no = 0; abort_on_error = 0; message_body = list_body (record { client_id = (some (record { start = 13; len = 1 })); server_id = (record { start = 15; len = 2 }); list_name = (some (record { start = 18; len = 1 })); act_sensor_time = (some 43); num_vals = 2 }) })) ∷ event (entry_event (record { obj_name = (record { start = 27; len = 1 }); status = (some (record { width = 2; number = 384 })); val_time = (some 256); unit = (some 30); scaler = (some (negsuc 0)); value = (bytes (record { start = 44; len = 2 })); value_signature = (some (record { start = 47; len = 1 })) })) ∷ event (entry_event (record { obj_name = (record { start = 50; len = 1 }); status = (some (record { width = 1; number = 5 })); val_time = none; unit = none; scaler = none; value = (list_time 5); value_signature = none })) ∷ event (end_event (record { list_signature = (some (record { start = 66; len = 1 })); act_gateway_time = (some 9) })) ∷ []; later = no_event }
  pub value_list_bare : events_of (0x76 ∷ 0x02 ∷ 0x07 ∷ 0x62 ∷ 0x00 ∷ 0x62 ∷ 0x00 ∷ 0x72 ∷ 0x63 ∷ 0x07 ∷ 0x01 ∷ 0x77 ∷ 0x02 ∷ 0x01 ∷ 0x03 ∷ 0x02 ∷ 0x03 ∷ 0x02 ∷ 0x04 ∷ 0x72 ∷ 0x62 ∷ 0x01 ∷ 0x62 ∷ 0x2b ∷ 0x72 ∷ 0x77 ∷ 0x02 ∷ 0x05 ∷ 0x63 ∷ 0x01 ∷ 0x80 ∷ 0x72 ∷ 0x62 ∷ 0x01 ∷ 0x65 ∷ 0x00 ∷ 0x00 ∷ 0x01 ∷ 0x00 ∷ 0x62 ∷ 0x1e ∷ 0x52 ∷ 0xff ∷ 0x03 ∷ 0x06 ∷ 0x07 ∷ 0x02 ∷ 0x08 ∷ 0x77 ∷ 0x02 ∷ 0x09 ∷ 0x62 ∷ 0x05 ∷ 0x01 ∷ 0x01 ∷ 0x01 ∷ 0x72 ∷ 0x62 ∷ 0x01 ∷ 0x65 ∷ 0x00 ∷ 0x00 ∷ 0x00 ∷ 0x05 ∷ 0x01 ∷ 0x02 ∷ 0x0a ∷ 0x65 ∷ 0x00 ∷ 0x00 ∷ 0x00 ∷ 0x09 ∷ 0x63 ∷ 0x28 ∷ 0xea ∷ 0x00 ∷ []) ≡ record { first = event (start_event (record { transaction_id = record { start = 2; len = 1 }; group_no = 0; abort_on_error = 0; message_body = list_body (record { client_id = (some (record { start = 13; len = 1 })); server_id = (record { start = 15; len = 2 }); list_name = (some (record { start = 18; len = 1 })); act_sensor_time = (some 43); num_vals = 2 }) })) ∷ event (entry_event (record { obj_name = (record { start = 27; len = 1 }); status = (some (record { width = 2; number = 384 })); val_time = (some 256); unit = (some 30); scaler = (some (negsuc 0)); value = (bytes (record { start = 44; len = 2 })); value_signature = (some (record { start = 47; len = 1 })) })) ∷ event (entry_event (record { obj_name = (record { start = 50; len = 1 }); status = (some (record { width = 1; number = 5 })); val_time = none; unit = none; scaler = none; value = (list_time 5); value_signature = none })) ∷ event (end_event (record { list_signature = (some (record { start = 66; len = 1 })); act_gateway_time = (some 9) })) ∷ []; later = no_event }
  pub value_unsigned : events_of (0x76 ∷ 0x02 ∷ 0x07 ∷ 0x62 ∷ 0x00 ∷ 0x62 ∷ 0x00 ∷ 0x72 ∷ 0x63 ∷ 0x07 ∷ 0x01 ∷ 0x77 ∷ 0x02 ∷ 0x01 ∷ 0x03 ∷ 0x02 ∷ 0x03 ∷ 0x02 ∷ 0x04 ∷ 0x72 ∷ 0x62 ∷ 0x01 ∷ 0x62 ∷ 0x2b ∷ 0x72 ∷ 0x77 ∷ 0x02 ∷ 0x05 ∷ 0x63 ∷ 0x01 ∷ 0x80 ∷ 0x72 ∷ 0x62 ∷ 0x01 ∷ 0x65 ∷ 0x00 ∷ 0x00 ∷ 0x01 ∷ 0x00 ∷ 0x62 ∷ 0x1e ∷ 0x52 ∷ 0xff ∷ 0x03 ∷ 0x06 ∷ 0x07 ∷ 0x02 ∷ 0x08 ∷ 0x77 ∷ 0x02 ∷ 0x09 ∷ 0x62 ∷ 0x05 ∷ 0x01 ∷ 0x01 ∷ 0x01 ∷ 0x64 ∷ 0x01 ∷ 0x00 ∷ 0x00 ∷ 0x01 ∷ 0x02 ∷ 0x0a ∷ 0x65 ∷ 0x00 ∷ 0x00 ∷ 0x00 ∷ 0x09 ∷ 0x63 ∷ 0xb0 ∷ 0xe7 ∷ 0x00 ∷ []) ≡ record { first = event (start_event (record { transaction_id = record { start = 2; len = 1 }; group_no = 0; abort_on_error = 0; message_body = list_body (record { client_id = (some (record { start = 13; len = 1 })); server_id = (record { start = 15; len = 2 }); list_name = (some (record { start = 18; len = 1 })); act_sensor_time = (some 43); num_vals = 2 }) })) ∷ event (entry_event (record { obj_name = (record { start = 27; len = 1 }); status = (some (record { width = 2; number = 384 })); val_time = (some 256); unit = (some 30); scaler = (some (negsuc 0)); value = (bytes (record { start = 44; len = 2 })); value_signature = (some (record { start = 47; len = 1 })) })) ∷ event (entry_event (record { obj_name = (record { start = 50; len = 1 }); status = (some (record { width = 1; number = 5 })); val_time = none; unit = none; scaler = none; value = (unsigned 4 65536); value_signature = none })) ∷ event (end_event (record { list_signature = (some (record { start = 62; len = 1 })); act_gateway_time = (some 9) })) ∷ []; later = no_event }
  pub value_eight : events_of (0x76 ∷ 0x02 ∷ 0x07 ∷ 0x62 ∷ 0x00 ∷ 0x62 ∷ 0x00 ∷ 0x72 ∷ 0x63 ∷ 0x07 ∷ 0x01 ∷ 0x77 ∷ 0x02 ∷ 0x01 ∷ 0x03 ∷ 0x02 ∷ 0x03 ∷ 0x02 ∷ 0x04 ∷ 0x72 ∷ 0x62 ∷ 0x01 ∷ 0x62 ∷ 0x2b ∷ 0x72 ∷ 0x77 ∷ 0x02 ∷ 0x05 ∷ 0x63 ∷ 0x01 ∷ 0x80 ∷ 0x72 ∷ 0x62 ∷ 0x01 ∷ 0x65 ∷ 0x00 ∷ 0x00 ∷ 0x01 ∷ 0x00 ∷ 0x62 ∷ 0x1e ∷ 0x52 ∷ 0xff ∷ 0x03 ∷ 0x06 ∷ 0x07 ∷ 0x02 ∷ 0x08 ∷ 0x77 ∷ 0x02 ∷ 0x09 ∷ 0x62 ∷ 0x05 ∷ 0x01 ∷ 0x01 ∷ 0x01 ∷ 0x59 ∷ 0xff ∷ 0xff ∷ 0xff ∷ 0xff ∷ 0xff ∷ 0xff ∷ 0xff ∷ 0xfe ∷ 0x01 ∷ 0x02 ∷ 0x0a ∷ 0x65 ∷ 0x00 ∷ 0x00 ∷ 0x00 ∷ 0x09 ∷ 0x63 ∷ 0x0c ∷ 0xac ∷ 0x00 ∷ []) ≡ record { first = event (start_event (record { transaction_id = record { start = 2; len = 1 }; group_no = 0; abort_on_error = 0; message_body = list_body (record { client_id = (some (record { start = 13; len = 1 })); server_id = (record { start = 15; len = 2 }); list_name = (some (record { start = 18; len = 1 })); act_sensor_time = (some 43); num_vals = 2 }) })) ∷ event (entry_event (record { obj_name = (record { start = 27; len = 1 }); status = (some (record { width = 2; number = 384 })); val_time = (some 256); unit = (some 30); scaler = (some (negsuc 0)); value = (bytes (record { start = 44; len = 2 })); value_signature = (some (record { start = 47; len = 1 })) })) ∷ event (entry_event (record { obj_name = (record { start = 50; len = 1 }); status = (some (record { width = 1; number = 5 })); val_time = none; unit = none; scaler = none; value = (signed 8 (negsuc 1)); value_signature = none })) ∷ event (end_event (record { list_signature = (some (record { start = 67; len = 1 })); act_gateway_time = (some 9) })) ∷ []; later = no_event }

pub vectors : Vectors
unfolding then guard need byte_at span_at tlf_at length_from less_own list_of_at number bytes_at_claim raw_from raw_at unsigned_at signed_of signed_at bool_from bool_at octets_at absent_at optional time_at status_of status_at signed_value unsigned_value list_type_at value_of_claim value_at open_at close_at entry_at message_end_at list_start_at list_end_at content_at body_at start_at reflect polynomial bit_step bit_steps byte_step register final_xor crc_of crc_from trailer_at says_first at_start_claim inside entries_from content_from messages_from events_of
vectors =
    record {
      capture_3 = refl;
      capture_4 = refl;
      open_transaction_id = refl;
      open_codepage = refl;
      open_client_id = refl;
      open_file_id = refl;
      open_server_id = refl;
      list_transaction_id = refl;
      list_client_id = refl;
      list_server_id = refl;
      list_list_name = refl;
      list_entry_name = refl;
      list_value = refl;
      list_value_signature = refl;
      list_list_signature = refl;
      close_signature = refl;
      nothing = refl;
      wrong_crc = refl;
      crc_not_swapped = refl;
      wrong_end_lem = refl;
      end_before_crc = refl;
      no_end_claim = refl;
      crc_of_three = refl;
      crc_underflow = refl;
      zero_behind = refl;
      list_of_five = refl;
      unknown_tag = refl;
      time_tag_lem = refl;
      bare_time_of_three = refl;
      time_present_empty = refl;
      reserved = refl;
      no_type = refl;
      next_type_lem = refl;
      entry_of_six = refl;
      list_value_tag = refl;
      list_value_of_three = refl;
      value_of_nine = refl;
      end_signature = refl;
      value_true = refl;
      value_empty = refl;
      value_list = refl;
      value_list_bare = refl;
      value_unsigned = refl;
      value_eight = refl;
    }
