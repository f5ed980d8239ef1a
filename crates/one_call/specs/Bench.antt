-- check: the vectors of Q-13, and two more: what is read of its messages, and what the table holds then.
use Rattle.std.specs.Prelude.{ℕ, ◌+◌, ◌≡◌, List, [], ◌∷◌, ◌++◌, replicate}
use Rattle.std.proofs.Math.Option.{some, none}
use Rattle.refusals.specs.Numbers.{bad_state_no, too_many_entries_no}
use Rattle.refusals.specs.Read.{eof, mismatch, unexpected, crc_mismatch, wrong_end}
use Rattle.refusals.specs.Answers.{invalid_ty}
use Rattle.refusals.specs.declared.Span.{Span}
use Rattle.message.specs.Messages.{MessageStart, ListEnd, Body, open_body, list_body}
use Rattle.whole.specs.Whole.{whole_is, broken, refused_alone}
use Rattle.whole.specs.Answers.{after_whole}
use Rattle.one_call.specs.Readers.{WholeReader}

abbrev pub close_input : List ℕ
close_input = 0x76 ∷ 0x03 ∷ 0xdd ∷ 0x43 ∷ 0x62 ∷ 0x00 ∷ 0x62 ∷ 0x00 ∷ 0x72 ∷ 0x63 ∷ 0x02 ∷ 0x01 ∷ 0x71 ∷ 0x01 ∷ 0x63 ∷ 0x0f ∷ 0x5b ∷ 0x00 ∷ []

abbrev pub open_input : List ℕ
open_input = 0x76 ∷ 0x03 ∷ 0xdd ∷ 0x43 ∷ 0x62 ∷ 0x00 ∷ 0x62 ∷ 0x00 ∷ 0x72 ∷ 0x63 ∷ 0x01 ∷ 0x01 ∷ 0x76 ∷ 0x01 ∷ 0x01 ∷ 0x02 ∷ 0x66 ∷ 0x02 ∷ 0x73 ∷ 0x01 ∷ 0x01 ∷ 0x63 ∷ 0xa2 ∷ 0xbc ∷ 0x00 ∷ []

-- a list with two entries up to the second one's 77; what stands behind that; CRC and end byte
abbrev pub two_begin : List ℕ
two_begin = 0x76 ∷ 0x03 ∷ 0xdd ∷ 0x43 ∷ 0x62 ∷ 0x00 ∷ 0x62 ∷ 0x00 ∷ 0x72 ∷ 0x63 ∷ 0x07 ∷ 0x01 ∷ 0x77 ∷ 0x01 ∷ 0x02 ∷ 0x73 ∷ 0x01 ∷ 0x01 ∷ 0x72 ∷ 0x77 ∷ 0x02 ∷ 0x62 ∷ 0x01 ∷ 0x01 ∷ 0x01 ∷ 0x01 ∷ 0x62 ∷ 0x07 ∷ 0x01 ∷ []

abbrev pub two_rest : List ℕ
two_rest = 0x02 ∷ 0x61 ∷ 0x01 ∷ 0x01 ∷ 0x01 ∷ 0x01 ∷ 0x62 ∷ 0x08 ∷ 0x01 ∷ 0x01 ∷ 0x01 ∷ []

abbrev pub two_trailer : List ℕ
two_trailer = 0x63 ∷ 0x01 ∷ 0x93 ∷ 0x00 ∷ []

abbrev pub two_input : List ℕ
two_input = two_begin ++ (0x77 ∷ two_rest) ++ two_trailer

-- a list of none, with a time behind it
abbrev pub none_input : List ℕ
none_input = 0x76 ∷ 0x03 ∷ 0xdd ∷ 0x43 ∷ 0x62 ∷ 0x00 ∷ 0x62 ∷ 0x00 ∷ 0x72 ∷ 0x63 ∷ 0x07 ∷ 0x01 ∷ 0x77 ∷ 0x01 ∷ 0x01 ∷ 0x01 ∷ 0x01 ∷ 0x70 ∷ 0x01 ∷ 0x72 ∷ 0x62 ∷ 0x01 ∷ 0x62 ∷ 0x05 ∷ 0x63 ∷ 0x7f ∷ 0xf9 ∷ 0x00 ∷ []

-- a list that announces 4,294,967,295 entries, and one
abbrev pub huge_input : List ℕ
huge_input = 0x76 ∷ 0x03 ∷ 0xdd ∷ 0x43 ∷ 0x62 ∷ 0x00 ∷ 0x62 ∷ 0x00 ∷ 0x72 ∷ 0x63 ∷ 0x07 ∷ 0x01 ∷ 0x77 ∷ 0x01 ∷ 0x02 ∷ 0x73 ∷ 0x01 ∷ 0x01 ∷ 0xff ∷ 0x8f ∷ 0x8f ∷ 0x8f ∷ 0x8f ∷ 0x8f ∷ 0x8f ∷ 0x0f ∷ 0x77 ∷ 0x01 ∷ 0x01 ∷ 0x01 ∷ 0x01 ∷ 0x01 ∷ 0x01 ∷ 0x01 ∷ []

-- what stood in the table before
abbrev pub old : ℕ → List ℕ
old n = replicate n 0x77777777

abbrev pub span_of : ℕ → ℕ → Span
span_of start len = record { start = start; len = len }

abbrev pub body_with_id : ℕ → Body Span → MessageStart Span
body_with_id id body = record { transaction_id = span_of id 2; group_no = 0; abort_on_error = 0; message_body = body }

abbrev pub no_end : ListEnd Span
no_end = record { list_signature = none; act_gateway_time = none }

-- the start of the list of two, which begins at a place
abbrev pub two_start : ℕ → MessageStart Span
two_start at = body_with_id (at + 2) (list_body (record { client_id = none; server_id = span_of (at + 15) 1; list_name = none; act_sensor_time = none; num_vals = 2 }))

pub record WholeBench (R : WholeReader) : Type 0 where
  pub two : R two_input 0 (old 8) ≡ after_whole (whole_is (two_start 0) (some no_end) 2 45) (21 ∷ 1 ∷ 19 ∷ 10 ∷ 31 ∷ 1 ∷ 29 ∷ 10 ∷ [])
  pub more_room : R two_input 0 (old 11) ≡ after_whole (whole_is (two_start 0) (some no_end) 2 45) (21 ∷ 1 ∷ 19 ∷ 10 ∷ 31 ∷ 1 ∷ 29 ∷ 10 ∷ old 3)
  pub less_room : R two_input 0 (old 7) ≡ after_whole (refused_alone too_many_entries_no) (old 7)
  pub no_room_and_more : R (two_input ++ 0x76 ∷ 0xff ∷ []) 0 (old 7) ≡ after_whole (refused_alone too_many_entries_no) (old 7)
  pub more_bytes : R (two_input ++ 0x76 ∷ 0xff ∷ []) 0 (old 8) ≡ after_whole (whole_is (two_start 0) (some no_end) 2 45) (21 ∷ 1 ∷ 19 ∷ 10 ∷ 31 ∷ 1 ∷ 29 ∷ 10 ∷ [])
  pub cut : R (two_begin ++ (0x77 ∷ two_rest) ++ 0x63 ∷ 0x01 ∷ 0x93 ∷ []) 0 (old 8) ≡ after_whole (broken (eof 44)) (old 8)
  pub other_crc_claim : R (two_begin ++ (0x77 ∷ two_rest) ++ 0x63 ∷ 0x01 ∷ 0x92 ∷ 0x00 ∷ []) 0 [] ≡ after_whole (broken (crc_mismatch 41)) []
  pub other_end_claim : R (two_begin ++ (0x77 ∷ two_rest) ++ 0x63 ∷ 0x01 ∷ 0x93 ∷ 0x01 ∷ []) 0 (old 8) ≡ after_whole (broken (wrong_end 44)) (old 8)
  pub both_other : R (two_begin ++ (0x77 ∷ two_rest) ++ 0x63 ∷ 0x01 ∷ 0x92 ∷ 0x01 ∷ []) 0 (old 8) ≡ after_whole (broken (wrong_end 44)) (old 8)
  pub other_entry : R (two_begin ++ (0x76 ∷ two_rest) ++ two_trailer) 0 [] ≡ after_whole (broken (mismatch 29)) []
  pub empty : R [] 0 (old 8) ≡ after_whole (broken (eof 0)) (old 8)
  pub opens : R open_input 0 [] ≡ after_whole (whole_is (body_with_id 2 (open_body (record { codepage = none; client_id = none; req_file_id = span_of 16 1; server_id = span_of 18 1; ref_time = none; sml_version = none }))) none 0 25) []
  pub in_a_payload : R (open_input ++ two_input ++ close_input) 25 (old 8) ≡ after_whole (whole_is (two_start 25) (some no_end) 2 70) (46 ∷ 1 ∷ 44 ∷ 10 ∷ 56 ∷ 1 ∷ 54 ∷ 10 ∷ [])
  pub broken_behind : R (open_input ++ 0x10 ∷ []) 25 [] ≡ after_whole (broken (invalid_ty 25)) []
  pub at_the_end_claim : R close_input 18 [] ≡ after_whole (broken (eof 18)) []
  pub beyond_the_end : R close_input 19 [] ≡ after_whole (refused_alone bad_state_no) []
  pub no_type : R (0x10 ∷ []) 0 [] ≡ after_whole (broken (invalid_ty 0)) []
  pub of_none : R none_input 0 [] ≡ after_whole (whole_is (body_with_id 2 (list_body (record { client_id = none; server_id = span_of 15 0; list_name = none; act_sensor_time = none; num_vals = 0 }))) (some (record { list_signature = none; act_gateway_time = some 5 })) 0 28) []
  pub huge : R huge_input 0 (old 8) ≡ after_whole (broken (eof 34)) (old 8)
  pub other_tag : R (0x76 ∷ 0x03 ∷ 0xdd ∷ 0x43 ∷ 0x62 ∷ 0x00 ∷ 0x62 ∷ 0x00 ∷ 0x72 ∷ 0x63 ∷ 0x07 ∷ 0x00 ∷ 0x77 ∷ 0x01 ∷ 0x02 ∷ 0x73 ∷ 0x01 ∷ 0x01 ∷ 0x72 ∷ 0x77 ∷ 0x02 ∷ 0x62 ∷ 0x01 ∷ 0x01 ∷ 0x01 ∷ 0x01 ∷ 0x62 ∷ 0x07 ∷ 0x01 ∷ 0x77 ∷ 0x02 ∷ 0x61 ∷ 0x01 ∷ 0x01 ∷ 0x01 ∷ 0x01 ∷ 0x62 ∷ 0x08 ∷ 0x01 ∷ 0x01 ∷ 0x01 ∷ 0x63 ∷ 0x01 ∷ 0x93 ∷ 0x00 ∷ []) 0 (old 8) ≡ after_whole (broken (unexpected 9)) (old 8)
