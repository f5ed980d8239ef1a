-- rule: what the library's calls over an Encoder and over a reader answer in plain numbers, and what they leave in all that they are lent.
use Rattle.std.specs.Prelude.{cond, List, [], ◌∷◌, ℕ, zero, suc, ◌+◌, ◌-◌, ℤ, pos, negsuc, ◌-ℤ◌, get_or, ltb}
use Rattle.encoder.specs.Encoder.{NextAnswer, byte, finished, no_byte, Step, encoder_at, fresh_encoder, next_step}
use Rattle.encoder.specs.declared.Encoder.{Encoder}
use Rattle.encoder.specs.declared.EncoderState.{EncoderState}
use Rattle.encoder.specs.declared.EncoderState.TheVariants.{Init, LookingForEscape, HandlingEscape, End}
use Rattle.streaming.specs.Next.{Said, event, no_event, failed, alone, ReaderAfter, next_at}
use Rattle.words.specs.Words.{event_words}
use Rattle.sartrogheo.specs.Calls.{good_no, finished_no, Reply, reply}

-- ---- an Encoder in four numbers: its kind, its count, its place in the payload, the CRC register. Kinds begin at 1, so that four zeros are no Encoder

abbrev pub encoder_kind : EncoderState → ℕ
encoder_kind (Init n) = 1
encoder_kind (LookingForEscape n) = 2
encoder_kind (HandlingEscape n) = 3
encoder_kind (End z) = 4

-- End runs from -3 on: 0 stands for that
abbrev pub end_count : ℤ → ℕ
end_count (pos n) = n + 3
end_count (negsuc n) = 2 - n

abbrev pub encoder_count : EncoderState → ℕ
encoder_count (Init n) = n
encoder_count (LookingForEscape n) = n
encoder_count (HandlingEscape n) = n
encoder_count (End z) = end_count z

abbrev pub encoder_words : Encoder → List ℕ
encoder_words e = encoder_kind e.state ∷ encoder_count e.state ∷ e.place ∷ e.crc ∷ []

-- numbers that no Encoder has stand for one that every call refuses: Init 9
abbrev pub state_of_kind : ℕ → ℕ → EncoderState
state_of_kind zero n = Init 9
state_of_kind (suc zero) n = Init n
state_of_kind (suc (suc zero)) n = LookingForEscape n
state_of_kind (suc (suc (suc zero))) n = HandlingEscape n
state_of_kind (suc (suc (suc (suc zero)))) n = End (pos n -ℤ pos 3)
state_of_kind (suc (suc (suc (suc (suc k))))) n = Init 9

abbrev pub encoder_of : ℕ → ℕ → ℕ → ℕ → Encoder
encoder_of kind count place crc = cond (ltb 65535 crc) (encoder_at (Init 9) place 0) (encoder_at (cond (ltb 11 count) (Init 9) (state_of_kind kind count)) place crc)

unfoldable pub encoder_in : List ℕ → Encoder
encoder_in w = encoder_of (get_or w 0 0) (get_or w 1 0) (get_or w 2 0) (get_or w 3 0)

unfoldable pub sgh_encoder_new : List ℕ
sgh_encoder_new = encoder_words fresh_encoder

abbrev pub next_no : NextAnswer → ℕ
next_no (byte b) = good_no
next_no finished = finished_no
next_no (no_byte n) = n

-- a byte, and the Encoder behind it; without one both stay as they are
abbrev pub words_behind : NextAnswer → Encoder → List ℕ → List ℕ
words_behind (byte b) e w = encoder_words e
words_behind finished e w = w
words_behind (no_byte n) e w = w

abbrev pub byte_or : NextAnswer → ℕ → ℕ
byte_or (byte b) old = b
byte_or finished old = old
byte_or (no_byte n) old = old

unfoldable pub sgh_encoder_next : List ℕ → List ℕ → ℕ → Reply
sgh_encoder_next w p old =
    let s : Step = next_step (encoder_in w) p in
    reply (next_no s.answer) (words_behind s.answer s.encoder w ∷ (byte_or s.answer old ∷ []) ∷ [])

-- ---- a reader in three numbers: its place, where its message began, what is pending

abbrev pub reader_no : Said → ℕ
reader_no (event e) = good_no
reader_no no_event = finished_no
reader_no (failed f) = f.number
reader_no (alone n) = n

unfoldable pub sgh_next_event : List ℕ → List ℕ → Reply
sgh_next_event input r =
    let a : ReaderAfter = next_at input (get_or r 0 0) (get_or r 1 0) (get_or r 2 0) in
    reply (reader_no a.answer) ((a.place ∷ a.start ∷ a.pending ∷ []) ∷ event_words a.answer ∷ [])
