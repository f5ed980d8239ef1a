-- What the contract rules out: each wrong reading of docs/WRONG-READINGS.md that is told here is an outcome that the definition does not allow, at a small input.
use mathlib.Core.Bool.{true, false}
use mathlib.Core.Path.{◌≡◌, ap}
use mathlib.Core.List.{List, [], ◌∷◌}
use Prim.Native.Nat.{ℕ}
use native.Mathlib.Omega.{arith}
use lib.ListN.{get_or, replicate}
use Rattle.decoder.specs.Record.{answer_of}
use Rattle.std.specs.Prelude.{Result, Ok, Err}
use Rattle.decoder.specs.declared.DecodeErr.TheVariants.{DiscardedBytes, InvalidMessage}
use Rattle.lines.specs.Lines.{text, hex_of, decimal_in, decimal, refusal_line, line_of, LineAnswer, line_length, no_line, line_answer, AfterLine, after_line, line_to}
use Rattle.lines.specs.declared.OutputTooShort.{OutputTooShort}

-- the length that is answered, and the character at a place
length_of : LineAnswer → ℕ
length_of (line_length n) = n
length_of (no_line k) = 0

abbrev char_at : ℕ → AfterLine → ℕ
char_at i a = get_or a.output i 0

-- ---- digits

pad_count_in_hex : (r : Result ℕ OutputTooShort) → after_line (line_answer r) (text "invalid 9c83 9c83 misaligned 1a\n") ≡ line_to (line_of (answer_of (Err (InvalidMessage 0x9c83 0x9c83 true 26)) [])) (replicate 32 0x20) → ⊥
unfolding hex_of decimal_in decimal refusal_line line_of line_to
pad_count_in_hex r h = let c : ◌≡◌ {A = ℕ} 0x31 0x32 = ap (char_at 29) h in omega (arith, c)

hex_in_capitals : (r : Result ℕ OutputTooShort) → after_line (line_answer r) (text "payload AB\n") ≡ line_to (line_of (answer_of (Ok true) (0xab ∷ []))) (replicate 11 0x20) → ⊥
unfolding hex_of line_of line_to
hex_in_capitals r h = let c : ◌≡◌ {A = ℕ} 0x41 0x61 = ap (char_at 8) h in omega (arith, c)

printed_crc_low_byte_first : (r : Result ℕ OutputTooShort) → after_line (line_answer r) (text "invalid b87a b87b aligned 0\n") ≡ line_to (line_of (answer_of (Err (InvalidMessage 0x7ab8 0x7bb8 false 0)) [])) (replicate 28 0x20) → ⊥
unfolding hex_of decimal_in decimal refusal_line line_of line_to
printed_crc_low_byte_first r h = let c : ◌≡◌ {A = ℕ} 0x62 0x37 = ap (char_at 8) h in omega (arith, c)

-- invalid ab cde aligned 0
printed_crc_without_zeros : (left : List ℕ) → after_line (line_answer (Ok 25)) left ≡ line_to (line_of (answer_of (Err (InvalidMessage 0x00ab 0x0cde false 0)) [])) (replicate 28 0x20) → ⊥
unfolding hex_of decimal_in decimal refusal_line line_of line_to length_of
printed_crc_without_zeros left h = let n : ◌≡◌ {A = ℕ} 25 28 = ap (λ (a : AfterLine). length_of a.answer) h in omega (arith, n)

-- ---- blanks

-- payload12
payload_without_blank : (left : List ℕ) → after_line (line_answer (Ok 10)) left ≡ line_to (line_of (answer_of (Ok true) (0x12 ∷ []))) (replicate 11 0x20) → ⊥
unfolding hex_of line_of line_to length_of
payload_without_blank left h = let n : ◌≡◌ {A = ℕ} 10 11 = ap (λ (a : AfterLine). length_of a.answer) h in omega (arith, n)

blank_behind_no_payload : (left : List ℕ) → after_line (line_answer (Ok 9)) left ≡ line_to (line_of (answer_of (Ok true) [])) (replicate 9 0x20) → ⊥
unfolding line_of line_to length_of
blank_behind_no_payload left h = let n : ◌≡◌ {A = ℕ} 9 8 = ap (λ (a : AfterLine). length_of a.answer) h in omega (arith, n)

-- ---- the output

-- the line without its newline
short_output_touched : (r : Result ℕ OutputTooShort) → after_line (line_answer r) (text "discarded 1") ≡ line_to (line_of (answer_of (Err (DiscardedBytes 1)) [])) (replicate 11 0x20) → ⊥
unfolding decimal_in decimal refusal_line line_of line_to
short_output_touched r h = let c : ◌≡◌ {A = ℕ} 0x64 0x20 = ap (char_at 0) h in omega (arith, c)

room_for_one_more : (left : List ℕ) → after_line (line_answer (Err (record {}))) left ≡ line_to (line_of (answer_of (Err (DiscardedBytes 1)) [])) (replicate 12 0x20) → ⊥
unfolding decimal_in decimal refusal_line line_of line_to length_of
room_for_one_more left h = let n : ◌≡◌ {A = ℕ} 0 12 = ap (λ (a : AfterLine). length_of a.answer) h in omega (arith, n)
