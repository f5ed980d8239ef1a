-- rule: the record that the code keeps of a decoder, with the lent buffer, as the code's form of the push rules' state; what is refused; document 01's number and values of every answer.
use Rattle.std.specs.Prelude.{Bool, true, false, cond, not, List, [], ◌∷◌, ◌++◌, ℕ, zero, suc, ◌+◌, Result, Ok, Err, length, take, drop, replicate, eqb, leb, ltb}
use Rattle.refusals.specs.Numbers.{decoder_out_of_memory_no, bad_state_no, wrong_buffer_no, discarded_bytes_no, invalid_esc_no, invalid_message_no, bad_span_no, limit}
use Rattle.crc_x25.specs.Crc.{start}
use Rattle.decoder.specs.Push as P
use Rattle.decoder.specs.Push.{Setup, in_way, first_way, second_way, Mem, State, search, body, escape, done, Out, fresh, step, finalized, reset_count}
use Rattle.decoder.specs.declared.DecodeState.{DecodeState}
use Rattle.decoder.specs.declared.DecodeState.TheVariants.{LookingForMessageStart, ParsingNormal, ParsingEscChars, ParsingEscPayload, Done}
use Rattle.decoder.specs.declared.Decoder.{Decoder}
use Rattle.decoder.specs.declared.DecodeErr.{DecodeErr}
use Rattle.decoder.specs.declared.DecodeErr.TheVariants.{DiscardedBytes, InvalidEsc, OutOfMemory, InvalidMessage, BadState, WrongBuffer}
use Rattle.decoder.specs.declared.Pushed.{Pushed}
use Rattle.decoder.specs.declared.Finalized.{Finalized}
use Rattle.decoder.specs.declared.AfterReset.{AfterReset}
use Rattle.refusals.specs.declared.BadSpan.{BadSpan}

-- ---- answers, with document 01's numbers and values

pub data DecoderAnswer : Type 0 where
  nothing : DecoderAnswer
  payload : List ℕ → DecoderAnswer  -- the payload's bytes
  count : ℕ → DecoderAnswer  -- what reset gives
  refusal : ℕ → List ℕ → DecoderAnswer  -- document 01's number, and the values

-- misaligned 1, aligned 0
abbrev pub flag : Bool → ℕ
flag true = 1
flag false = 0

abbrev pub numbered : P.PushEvent → DecoderAnswer
numbered P.silent = nothing
numbered (P.pays_out bytes) = payload bytes
numbered P.memory = refusal decoder_out_of_memory_no []
numbered (P.discarded n) = refusal discarded_bytes_no (n ∷ [])
numbered (P.bad_escape a b c d) = refusal invalid_esc_no (a ∷ b ∷ c ∷ d ∷ [])
numbered (P.bad_message read computed misaligned p) = refusal invalid_message_no (read ∷ computed ∷ flag misaligned ∷ p ∷ [])

-- the answer of a refusal
abbrev pub answer_err : DecodeErr → DecoderAnswer
answer_err OutOfMemory = refusal decoder_out_of_memory_no []
answer_err BadState = refusal bad_state_no []
answer_err WrongBuffer = refusal wrong_buffer_no []
answer_err (DiscardedBytes n) = refusal discarded_bytes_no (n ∷ [])
answer_err (InvalidEsc a b c d) = refusal invalid_esc_no (a ∷ b ∷ c ∷ d ∷ [])
answer_err (InvalidMessage read computed misaligned p) = refusal invalid_message_no (read ∷ computed ∷ flag misaligned ∷ p ∷ [])

-- the code's event: Ok says whether a payload stands in the buffer
abbrev pub Event : Type 0
Event = Result Bool DecodeErr

-- and its answer; `bytes` are those of a payload
abbrev pub answer_of : Event → List ℕ → DecoderAnswer
answer_of (Ok false) bytes = nothing
answer_of (Ok true) bytes = payload bytes
answer_of (Err e) bytes = answer_err e

-- an answer, with the record and the lent memory as they are then
pub record After : Type 0 where
  pub answer : DecoderAnswer
  pub decoder : Decoder
  pub memory : List ℕ

abbrev pub after : DecoderAnswer → Decoder → List ℕ → After
after a d m = record { answer = a; decoder = d; memory = m }

-- what a push gave; a payload is the first bytes of the lent memory m
abbrev pub after_push : Pushed → List ℕ → After
after_push r m = after (answer_of r.event (take r.decoder.fill m)) r.decoder m

-- an answer, with the record as it is then
pub record Left : Type 0 where
  pub answer : DecoderAnswer
  pub decoder : Decoder

abbrev pub left : DecoderAnswer → Decoder → Left
left a d = record { answer = a; decoder = d }

abbrev pub after_finalize : Finalized → Left
after_finalize r = left (answer_of r.event []) r.decoder

abbrev pub after_reset : AfterReset → Left
after_reset r = left (count r.count) r.decoder

abbrev pub answer_asked : Result (Unit {0}) BadSpan → DecoderAnswer
answer_asked (Ok a) = nothing
answer_asked (Err e) = refusal bad_span_no []

-- ---- the record's state, and the record of a state

abbrev pub setup : Decoder → Setup
setup d = in_way d.way d.capacity

-- a frame's bytes are the buffer's first
abbrev pub mem_of : Decoder → List ℕ → Mem
mem_of d m = record { stored = take d.fill m; reg = d.crc; idx = d.crc_idx; raw = d.raw_msg_len }

abbrev pub state_as : DecodeState → Decoder → List ℕ → State
state_as (LookingForMessageStart n noise) d m = search n noise d.raw_msg_len
state_as ParsingNormal d m = body 0 (mem_of d m)
state_as (ParsingEscChars n) d m = body n (mem_of d m)
state_as (ParsingEscPayload k) d m = escape k (mem_of d m)
state_as Done d m = done (take d.fill m)

abbrev pub state_of : Decoder → List ℕ → State
state_of d m = state_as d.state d m

abbrev pub waiting : ℕ → DecodeState
waiting zero = ParsingNormal
waiting (suc n) = ParsingEscChars (suc n)

abbrev pub record_with : Setup → ℕ → ℕ → ℕ → ℕ → DecodeState → Decoder
record_with C fill raw reg idx s = record { capacity = C.capacity; fill = fill; raw_msg_len = raw; crc = reg; way = C.way; crc_idx = idx; state = s }

-- counts that a state doesn't use are 0, and its CRC register is ffff
abbrev pub record_of : Setup → State → Decoder
record_of C (search n noise raw) = record_with C 0 raw start 0 (LookingForMessageStart n noise)
record_of C (body n m) = record_with C (length m.stored) m.raw m.reg m.idx (waiting n)
record_of C (escape k m) = record_with C (length m.stored) m.raw m.reg m.idx (ParsingEscPayload k)
record_of C (done bytes) = record_with C (length bytes) 0 start 0 Done

-- the fresh record of a setup
abbrev pub new_record : Setup → Decoder
new_record C = record_of C fresh

-- the record with other counts, in another state
abbrev pub recounted : Decoder → ℕ → ℕ → DecodeState → Decoder
recounted d fill raw s = record_with (setup d) fill raw d.crc d.crc_idx s

-- ---- what a push writes

-- the bytes that a push stores: those that it has to, or none if they don't fit
unfoldable pub wrote : Setup → State → ℕ → List ℕ
wrote C (search n noise raw) b = []
wrote C (done bytes) b = []
wrote C (body n m) b =
    cond (eqb b 0x1b) []
    (cond (leb (length m.stored + length (replicate n 0x1b ++ b ∷ [])) C.capacity) (replicate n 0x1b ++ b ∷ []) [])
wrote C (escape k m) b = cond (leb (length m.stored + 1) C.capacity) (b ∷ []) []

-- the memory m with the bytes l from `at` on
abbrev pub written : List ℕ → ℕ → List ℕ → List ℕ
written m at l = take at m ++ (l ++ drop (at + length l) m)

-- ---- what is refused

-- by the state: searching with fill not 0 or n over 7; raw length under 8 inside a frame; waiting count outside 1 to 3; escape count over 3, or CRC index plus it over fill
abbrev pub bad_in : ℕ → ℕ → ℕ → DecodeState → Bool
bad_in fill idx raw (LookingForMessageStart n noise) = cond (eqb fill 0) (ltb 7 n) true
bad_in fill idx raw ParsingNormal = ltb raw 8
bad_in fill idx raw (ParsingEscChars n) = cond (ltb raw 8) true (cond (eqb n 0) true (ltb 3 n))
bad_in fill idx raw (ParsingEscPayload k) = cond (ltb raw 8) true (cond (ltb 3 k) true (ltb fill (idx + k)))
bad_in fill idx raw Done = false

-- a way of searching that is neither the first nor the second
abbrev pub unknown_way : ℕ → Bool
unknown_way way = cond (eqb way first_way) false (not (eqb way second_way))

-- an unknown way; fill over the recorded capacity; CRC index over fill; or by the state
unfoldable pub bad_decoder : Decoder → Bool
bad_decoder d =
    cond (unknown_way d.way) true
    (cond (ltb d.capacity d.fill) true
    (cond (ltb d.fill d.crc_idx) true (bad_in d.fill d.crc_idx d.raw_msg_len d.state)))

-- the lent capacity isn't the recorded one, or is over 1,048,576
unfoldable pub wrong_buffer : ℕ → ℕ → Bool
wrong_buffer recorded lent = cond (eqb lent recorded) (ltb limit lent) true

-- ---- the public functions

unfoldable pub pushed : Decoder → List ℕ → ℕ → Out → After
pushed d m b o = after (numbered o.event) (record_of (setup d) o.state) (written m d.fill (wrote (setup d) (state_of d m) b))

-- a push: the checks for 4 and 5, then the step
unfoldable pub push_record : Decoder → List ℕ → ℕ → After
push_record d m b =
    cond (bad_decoder d) (after (refusal bad_state_no []) d m)
    (cond (wrong_buffer d.capacity (length m)) (after (refusal wrong_buffer_no []) d m) (pushed d m b (step (setup d) (state_of d m) b)))

-- finalize and reset look at no stored byte, so the state is taken over no memory
unfoldable pub finalize_record : Decoder → Left
finalize_record d = cond (bad_decoder d) (left (refusal bad_state_no []) d) (left (numbered (finalized (state_of d []))) (new_record (setup d)))

unfoldable pub reset_record : Decoder → Left
reset_record d = left (count (reset_count (state_of d []))) (new_record (setup d))

-- does a payload stand in the lent memory?
abbrev pub stands : State → Bool
stands (search n noise raw) = false
stands (body n m) = false
stands (escape k m) = false
stands (done bytes) = true

unfoldable pub has_payload : Decoder → List ℕ → Bool
has_payload d m = cond (bad_decoder d) false (cond (wrong_buffer d.capacity (length m)) false (stands (state_of d m)))

-- its part of the memory, or the empty part
unfoldable pub payload_record : Decoder → List ℕ → List ℕ
payload_record d m = cond (has_payload d m) (take d.fill m) []

-- the question behind an empty part: 16 if no payload stands there
unfoldable pub ask_record : Decoder → List ℕ → DecoderAnswer
ask_record d m = cond (has_payload d m) nothing (refusal bad_span_no [])
