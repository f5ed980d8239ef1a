-- An event of each kind in its 24 numbers, by computation over the definitions.
use mathlib.Core.Path.{◌≡◌, refl}
use mathlib.Core.Bool.{true, false}
use mathlib.Core.List.{[], ◌∷◌, ◌++◌, map}
use mathlib.Core.Option.{some, none}
use Prim.Native.Nat.{ℕ}
use lib.IntN.{pos, negsuc}
use lib.ListN.{replicate}
use Rattle.refusals.specs.Numbers.{bad_state_no, input_too_long_no}
use Rattle.refusals.specs.Read.{eof}
use Rattle.refusals.specs.Answers.{overflow, reserved, underflow, next_type, invalid_ty}
use Rattle.refusals.specs.declared.Span.{Span}
use Rattle.value.specs.Values.{truth, bytes, signed, unsigned, list_time}
use Rattle.message.specs.Messages.{open_body, close_body, list_body}
use Rattle.streaming.specs.Next.{start_event, entry_event, end_event, event, no_event, failed, alone}
use Rattle.words.specs.Words.{twos_complement, value_words, with_zeros, event_words}

abbrev span_from : ℕ → ℕ → Span
span_from start len = record { start = start; len = len }

no_event_in_words : event_words no_event ≡ replicate 24 0
unfolding with_zeros
no_event_in_words = refl

open_in_words : event_words (event (start_event (record { transaction_id = span_from 2 4; group_no = 7; abort_on_error = 9; message_body = open_body (record { codepage = some (span_from 20 3); client_id = none; req_file_id = span_from 30 4; server_id = span_from 40 5; ref_time = some 600; sml_version = some 6 }) })))
    ≡ 1 ∷ 2 ∷ 4 ∷ 7 ∷ 9 ∷ 1 ∷ 1 ∷ 20 ∷ 3 ∷ 0 ∷ 0 ∷ 0 ∷ 30 ∷ 4 ∷ 40 ∷ 5 ∷ 1 ∷ 600 ∷ 1 ∷ 6 ∷ 0 ∷ 0 ∷ 0 ∷ 0 ∷ []
unfolding with_zeros
open_in_words = refl

close_in_words : event_words (event (start_event (record { transaction_id = span_from 2 4; group_no = 7; abort_on_error = 9; message_body = close_body (record { global_signature = some (span_from 50 6) }) })))
    ≡ 1 ∷ 2 ∷ 4 ∷ 7 ∷ 9 ∷ 2 ∷ 1 ∷ 50 ∷ 6 ∷ replicate 15 0
unfolding with_zeros
close_in_words = refl

list_in_words : event_words (event (start_event (record { transaction_id = span_from 2 4; group_no = 7; abort_on_error = 9; message_body = list_body (record { client_id = some (span_from 11 12); server_id = span_from 13 14; list_name = some (span_from 15 16); act_sensor_time = some 17; num_vals = 18 }) })))
    ≡ 1 ∷ 2 ∷ 4 ∷ 7 ∷ 9 ∷ 3 ∷ 1 ∷ 11 ∷ 12 ∷ 13 ∷ 14 ∷ 1 ∷ 15 ∷ 16 ∷ 1 ∷ 17 ∷ 18 ∷ replicate 7 0
unfolding with_zeros
list_in_words = refl

end_in_words : event_words (event (end_event (record { list_signature = some (span_from 60 8); act_gateway_time = some 700 }))) ≡ 2 ∷ 1 ∷ 60 ∷ 8 ∷ 1 ∷ 700 ∷ replicate 18 0
unfolding with_zeros
end_in_words = refl

-- every optional field present, and none: a scaler of -3, a value of -1387
full_entry_in_words : event_words (event (entry_event (record { obj_name = span_from 84 6; status = some (record { width = 4; number = 386 }); val_time = some 19459451; unit = some 30; scaler = some (negsuc 2); value = signed 4 (negsuc 1386); value_signature = some (span_from 90 5) })))
    ≡ 3 ∷ 84 ∷ 6 ∷ 1 ∷ 4 ∷ 386 ∷ 1 ∷ 19459451 ∷ 1 ∷ 30 ∷ 1 ∷ 18446744073709551613 ∷ 3 ∷ 4 ∷ 18446744073709550229 ∷ 0 ∷ 0 ∷ 1 ∷ 90 ∷ 5 ∷ 0 ∷ 0 ∷ 0 ∷ 0 ∷ []
unfolding with_zeros
full_entry_in_words = refl

bare_entry_in_words : event_words (event (entry_event (record { obj_name = span_from 84 6; status = none; val_time = none; unit = none; scaler = none; value = bytes (span_from 95 3); value_signature = none }))) ≡ 3 ∷ 84 ∷ 6 ∷ replicate 9 0 ++ 2 ∷ 0 ∷ 0 ∷ 95 ∷ 3 ∷ replicate 7 0
unfolding with_zeros
bare_entry_in_words = refl

-- each kind of value
values_in_words : map value_words (truth true ∷ truth false ∷ bytes (span_from 95 3) ∷ signed 1 (negsuc 127) ∷ signed 8 (pos 47191263) ∷ unsigned 2 65535 ∷ list_time 43 ∷ [])
    ≡ (1 ∷ 0 ∷ 1 ∷ 0 ∷ 0 ∷ []) ∷ (1 ∷ 0 ∷ 0 ∷ 0 ∷ 0 ∷ []) ∷ (2 ∷ 0 ∷ 0 ∷ 95 ∷ 3 ∷ []) ∷ (3 ∷ 1 ∷ 18446744073709551488 ∷ 0 ∷ 0 ∷ []) ∷ (3 ∷ 8 ∷ 47191263 ∷ 0 ∷ 0 ∷ []) ∷ (4 ∷ 2 ∷ 65535 ∷ 0 ∷ 0 ∷ []) ∷ (5 ∷ 0 ∷ 43 ∷ 0 ∷ 0 ∷ []) ∷ []
values_in_words = refl

-- -1, the least and the largest of 64 bits
signs_in_words : map twos_complement (negsuc 0 ∷ negsuc 9223372036854775807 ∷ pos 9223372036854775807 ∷ []) ≡ 0xffffffffffffffff ∷ 0x8000000000000000 ∷ 0x7fffffffffffffff ∷ []
signs_in_words = refl

-- the five kinds of 11, and 10
refusals_in_words : map event_words (failed (overflow 22) ∷ failed (reserved 22) ∷ failed (underflow 22) ∷ failed (next_type 22) ∷ failed (invalid_ty 22) ∷ failed (eof 29) ∷ [])
    ≡ (4 ∷ 11 ∷ 1 ∷ 22 ∷ replicate 20 0) ∷ (4 ∷ 11 ∷ 2 ∷ 22 ∷ replicate 20 0) ∷ (4 ∷ 11 ∷ 3 ∷ 22 ∷ replicate 20 0) ∷ (4 ∷ 11 ∷ 4 ∷ 22 ∷ replicate 20 0) ∷ (4 ∷ 11 ∷ 5 ∷ 22 ∷ replicate 20 0) ∷ (4 ∷ 10 ∷ 0 ∷ 29 ∷ replicate 20 0) ∷ []
unfolding with_zeros
refusals_in_words = refl

lone_refusals_in_words : map event_words (alone bad_state_no ∷ alone input_too_long_no ∷ []) ≡ (5 ∷ 4 ∷ replicate 22 0) ∷ (5 ∷ 9 ∷ replicate 22 0) ∷ []
unfolding with_zeros
lone_refusals_in_words = refl
