-- rule: the program's lines of document 01, one for each answer of the decoder, as the codes of their characters; what write_line answers, and what it leaves in the output.
use Rattle.std.specs.Prelude.{◌≡◌, cond, List, [], ◌∷◌, ◌++◌, ℕ, zero, suc, ◌+◌, ◌-◌, ◌/◌, ◌%◌, length, drop, get_or, eqb, ltb, leb, Result, Ok, Err}
use Prim.Native.Char.{code}
use Prim.Native.String.{String, [] as []ˢ, ◌∷◌ as ◌∷ˢ◌}
use Rattle.refusals.specs.Numbers.{decoder_out_of_memory_no, discarded_bytes_no, invalid_esc_no, invalid_message_no, output_too_short_no}
use Rattle.decoder.specs.declared.DecodeErr.TheVariants.{DiscardedBytes, InvalidEsc, OutOfMemory, InvalidMessage, BadState, WrongBuffer}
use Rattle.decoder.specs.Record.{Event, DecoderAnswer, nothing, payload, count, refusal}
use Rattle.lines.specs.declared.OutputTooShort.{OutputTooShort}

-- the codes of a text's characters
abbrev pub text : String → List ℕ
text []ˢ = []
text (c ∷ˢ s) = code c ∷ text s

-- the character of a digit: 0 to 9, then a to f
abbrev pub digit_of : ℕ → ℕ
digit_of n = cond (ltb n 10) (0x30 + n) (0x61 + (n - 10))

-- in hex, two digits a byte
unfoldable pub hex_of : List ℕ → List ℕ
hex_of [] = []
hex_of (b ∷ bytes) = digit_of (b / 16) ∷ digit_of (b % 16) ∷ hex_of bytes

-- a CRC in hex, high byte first
abbrev pub hex_four : ℕ → List ℕ
hex_four crc = hex_of (crc / 256 ∷ crc % 256 ∷ [])

-- the decimal digits of n, the last k at most and none for 0: the last one behind those of n / 10
unfoldable pub decimal_in : ℕ → ℕ → List ℕ
decimal_in zero n = []
decimal_in (suc k) zero = []
decimal_in (suc k) (suc n) = decimal_in k (suc n / 10) ++ digit_of (suc n % 10) ∷ []

-- in decimal, with no zero before it; ten digits hold every count, which stops at 4,294,967,295
unfoldable pub decimal : ℕ → List ℕ
decimal zero = digit_of 0 ∷ []
decimal (suc n) = decimal_in 10 (suc n)

-- a frame's length was a multiple of 4, or not, by the value that the answer has for it
abbrev pub aligned_word : ℕ → List ℕ
aligned_word misaligned = cond (eqb misaligned 0) (text " aligned ") (text " misaligned ")

-- by document 01's number and the values beside it; 4 and 5, for which document 01 has no line, have none
unfoldable pub refusal_line : ℕ → List ℕ → List ℕ
refusal_line number values =
    cond (eqb number decoder_out_of_memory_no) (text "memory\n")
    (cond (eqb number discarded_bytes_no) (text "discarded " ++ decimal (get_or values 0 0) ++ text "\n")
    (cond (eqb number invalid_esc_no) (text "escape " ++ hex_of values ++ text "\n")
    (cond (eqb number invalid_message_no)
    (text "invalid " ++ hex_four (get_or values 0 0) ++ text " " ++ hex_four (get_or values 1 0)
    ++ aligned_word (get_or values 2 0) ++ decimal (get_or values 3 0) ++ text "\n")
    [])))

-- nothing and the count of a reset, which the program does not print, have none
unfoldable pub line_of : DecoderAnswer → List ℕ
line_of nothing = []
line_of (payload []) = text "payload\n"
line_of (payload (b ∷ bytes)) = text "payload " ++ hex_of (b ∷ bytes) ++ text "\n"
line_of (count n) = []
line_of (refusal number values) = refusal_line number values

pub data LineAnswer : Type 0 where
  line_length : ℕ → LineAnswer
  no_line : ℕ → LineAnswer  -- document 02's number

abbrev pub line_answer : Result ℕ OutputTooShort → LineAnswer
line_answer (Ok n) = line_length n
line_answer (Err short) = no_line output_too_short_no

pub record AfterLine : Type 0 where
  pub answer : LineAnswer
  pub output : List ℕ

abbrev pub after_line : LineAnswer → List ℕ → AfterLine
after_line answer output = record { answer = answer; output = output }

-- the line from the output's first place on, what stands behind it unchanged; a refusal changes nothing
unfoldable pub line_to : List ℕ → List ℕ → AfterLine
line_to line out =
    cond (leb (length line) (length out))
    (after_line (line_length (length line)) (line ++ drop (length line) out))
    (after_line (no_line output_too_short_no) out)
