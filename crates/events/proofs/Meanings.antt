-- The meaning of an open, a list and a close response, written out; and one entry in two forms, with one meaning.
use mathlib.Core.Path.{◌≡◌, refl}
use mathlib.Core.List.{List, [], ◌∷◌}
use mathlib.Core.Option.{some, none}
use Prim.Native.Nat.{ℕ}
use lib.IntN.{negsuc}
use Rattle.crc_x25.specs.Crc.{reflect, polynomial, bit_step, bit_steps, byte_step, register, final_xor, crc_of}
use Rattle.refusals.specs.Read.{Read, got, then, guard, need, byte_at, span_at}
use Rattle.tlf.specs.Lengths.{tlf_at, length_from, less_own, list_of_at}
use Rattle.numbers.specs.Numbers.{number, bytes_at_claim, raw_from, raw_at, unsigned_at, signed_of, signed_at, bool_from, bool_at}
use Rattle.octet_string.specs.Strings.{octets_at, span_within, part_of}
use Rattle.octet_string.specs.Optional.{absent_at, optional}
use Rattle.value.specs.Values.{bytes, signed, unsigned, time_at, status_of, status_at, signed_value, unsigned_value, list_type_at, value_of_claim, value_at}
use Rattle.common.specs.Fields.{open_at, close_at, entry_at}
use Rattle.message.specs.Messages.{open_body, close_body, list_body, list_start_at, list_end_at, content_at, body_at, start_at}
use Rattle.trailer.specs.Trailer.{message_end_at, crc_from, trailer_at}
use Rattle.streaming.specs.Next.{MessageEvent, start_event, entry_event, end_event, Said, event, no_event, failed, alone}
use Rattle.events.specs.Events.{says_first, at_start_claim, inside, entries_from, content_from, messages_from, events_of}
use Rattle.streaming.specs.Meaning.{meaning}
use Rattle.events.proofs.Cuts.{open_message, list_message, close_message}

-- the meanings of the events that the calls answer on an input
unfoldable pub meanings_in : List ℕ → List Said → List (MessageEvent (List ℕ))
meanings_in s [] = []
meanings_in s (event e ∷ xs) = meaning s e ∷ meanings_in s xs
meanings_in s (no_event ∷ xs) = meanings_in s xs
meanings_in s (failed f ∷ xs) = meanings_in s xs
meanings_in s (alone n ∷ xs) = meanings_in s xs

unfoldable pub meanings_of : List ℕ → List (MessageEvent (List ℕ))
meanings_of s = meanings_in s (events_of s).first

-- the meaning of the entry at an input's start
unfoldable pub entry_of : List ℕ → Read (MessageEvent (List ℕ))
entry_of s = then (entry_at s 0) λ e n. got (meaning s (entry_event e)) n

abbrev seven : MessageEvent (List ℕ)
seven = entry_event (record { obj_name = 9 ∷ []; status = some (record { width = 8; number = 5 }); val_time = none; unit = none; scaler = none; value = unsigned 8 7; value_signature = none })

pub record Meanings : Type 0 where
  pub open_means_lem : meanings_of open_message ≡ start_event (record { transaction_id = 1 ∷ []; group_no = 1; abort_on_error = 2; message_body = open_body (record { codepage = some (10 ∷ 11 ∷ []); client_id = some (12 ∷ []); req_file_id = 13 ∷ 14 ∷ []; server_id = 15 ∷ []; ref_time = some 42; sml_version = some 1 }) }) ∷ []
  pub list_means : meanings_of list_message ≡ start_event (record { transaction_id = 7 ∷ []; group_no = 0; abort_on_error = 0; message_body = list_body (record { client_id = some (1 ∷ []); server_id = 2 ∷ 3 ∷ []; list_name = some (4 ∷ []); act_sensor_time = some 43; num_vals = 2 }) }) ∷ entry_event (record { obj_name = 5 ∷ []; status = some (record { width = 8; number = 384 }); val_time = some 256; unit = some 30; scaler = some (negsuc 0); value = bytes (6 ∷ 7 ∷ []); value_signature = some (8 ∷ []) }) ∷ entry_event (record { obj_name = 9 ∷ []; status = some (record { width = 8; number = 5 }); val_time = none; unit = none; scaler = none; value = signed 8 (negsuc 65534); value_signature = none }) ∷ end_event (record { list_signature = some (10 ∷ []); act_gateway_time = some 9 }) ∷ []
  pub close_means_lem : meanings_of close_message ≡ start_event (record { transaction_id = 0xdd ∷ 0x43 ∷ []; group_no = 0; abort_on_error = 0; message_body = close_body (record { global_signature = none }) }) ∷ []
  pub short_form : entry_of (0x77 ∷ 0x02 ∷ 0x09 ∷ 0x62 ∷ 0x05 ∷ 0x01 ∷ 0x01 ∷ 0x01 ∷ 0x62 ∷ 0x07 ∷ 0x01 ∷ []) ≡ got seven 11
  pub long_form : entry_of (0x77 ∷ 0x80 ∷ 0x03 ∷ 0x09 ∷ 0x63 ∷ 0x00 ∷ 0x05 ∷ 0x01 ∷ 0x01 ∷ 0x01 ∷ 0x65 ∷ 0x00 ∷ 0x00 ∷ 0x00 ∷ 0x07 ∷ 0x01 ∷ []) ≡ got seven 16

pub meanings : Meanings
unfolding then guard need byte_at span_at tlf_at length_from less_own list_of_at number bytes_at_claim raw_from raw_at unsigned_at signed_of signed_at bool_from bool_at octets_at span_within part_of absent_at optional time_at status_of status_at signed_value unsigned_value list_type_at value_of_claim value_at open_at close_at entry_at message_end_at list_start_at list_end_at content_at body_at start_at reflect polynomial bit_step bit_steps byte_step register final_xor crc_of crc_from trailer_at says_first at_start_claim inside entries_from content_from messages_from events_of meaning meanings_in meanings_of entry_of
meanings = record { open_means_lem = refl; list_means = refl; close_means_lem = refl; short_form = refl; long_form = refl }
