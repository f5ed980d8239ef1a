-- rule: the numbers for what is refused, 1 to 16 of document 01 and 17 to 24 of document 02, and the two limits on sizes.
-- Each is named by the document's own word for it with `No` behind, 10 and 15, which document 01 only describes, by the crate's; where one word has two numbers, whose it is stands before it.
use Rattle.std.specs.Prelude.{ℕ}

-- encode or Encoder, payload over the limit
abbrev pub payload_too_long_no : ℕ
payload_too_long_no = 1

-- whole frame doesn't fit output
abbrev pub encode_out_of_memory_no : ℕ
encode_out_of_memory_no = 2

-- bytes to store don't fit in the decoder's buffer
abbrev pub decoder_out_of_memory_no : ℕ
decoder_out_of_memory_no = 3

-- a record that no call leaves: document 01 lists the cases
abbrev pub bad_state_no : ℕ
bad_state_no = 4

-- lent capacity isn't the recorded one, or is over the limit
abbrev pub wrong_buffer_no : ℕ
wrong_buffer_no = 5

-- bytes that belong to no frame
abbrev pub discarded_bytes_no : ℕ
discarded_bytes_no = 6

-- an escape with four bytes that mean nothing
abbrev pub invalid_esc_no : ℕ
invalid_esc_no = 7

-- wrong CRC, a fill that is no multiple of 4, or a wrong pad count
abbrev pub invalid_message_no : ℕ
invalid_message_no = 8

-- message input over the limit
abbrev pub input_too_long_no : ℕ
input_too_long_no = 9

-- end of input: a byte is missing
abbrev pub unexpected_eof_no : ℕ
unexpected_eof_no = 10

-- length rules, one of five kinds
abbrev pub invalid_tlf_no : ℕ
invalid_tlf_no = 11

-- type or length not wanted
abbrev pub tlf_mismatch_no : ℕ
tlf_mismatch_no = 12

-- unknown tag
abbrev pub unexpected_variant_no : ℕ
unexpected_variant_no = 13

-- message CRC
abbrev pub crc_mismatch_no : ℕ
crc_mismatch_no = 14

-- wrong message end: end byte not 00
abbrev pub msg_end_mismatch_no : ℕ
msg_end_mismatch_no = 15

-- span outside the input, or no payload
abbrev pub bad_span_no : ℕ
bad_span_no = 16

-- wrong number of entries, or a call after the end
abbrev pub wrong_number_no : ℕ
wrong_number_no = 17

-- output too short
abbrev pub output_too_short_no : ℕ
output_too_short_no = 18

-- a list opens inside sixteen open ones
abbrev pub too_deep_no : ℕ
too_deep_no = 19

-- too many entries for the table
abbrev pub too_many_entries_no : ℕ
too_many_entries_no = 20

-- record cut short
abbrev pub cut_short_no : ℕ
cut_short_no = 21

-- a number with a needless last group or over 64 bits
abbrev pub bad_number_no : ℕ
bad_number_no = 22

-- unknown version
abbrev pub unknown_version_no : ℕ
unknown_version_no = 23

-- hidden row
abbrev pub hidden_row_no : ℕ
hidden_row_no = 24

-- the longest payload, buffer and message input
abbrev pub limit : ℕ
limit = 1048576

-- noise and raw counts stop here
abbrev pub count_stop : ℕ
count_stop = 4294967295
