-- claim: mark 3. Whatever was done with a new decoder before, behind capacity + 5 zero bytes every encoded payload that fits is handed out.
use Rattle.std.specs.Prelude.{◌≡◌, List, [], ◌∷◌, ◌++◌, map, ℕ, ◌+◌, ◌≤◌, length, take, replicate}
use Rattle.refusals.specs.Numbers.{discarded_bytes_no, limit}
use Rattle.frame.specs.Frame.{frame_of, missing}
use Rattle.encoder.specs.Encode.{AfterEncode, length_is}
use Rattle.encoder.specs.Encode as E
use Rattle.decoder.specs.Push.{stopped}
use Rattle.decoder.specs.Record.{DecoderAnswer, nothing, refusal}
use Rattle.decoder.specs.Run.{KnownWay, Op, push}
use Rattle.decoder.specs.declared.Setup.{Setup}
use Rattle.marks.specs.Decoders.{Machine, answers, count_since, frame_says}

-- an encode: of a payload and the output that is lent, its answer and what it leaves in the output
abbrev pub Encode : Type 0
Encode = List ℕ → List ℕ → AfterEncode

-- ours, by the definition that the contract of encode cites
abbrev pub our_encode : Encode
our_encode = E.encode_to

-- a payload to be encoded, and the output for it
pub record Job : Type 0 where
  pub payload : List ℕ
  pub output : List ℕ

-- padded length plus 4 is at most the capacity, and the output takes the frame, so that encode is not refused with 2; nor with 1, for a capacity is at most 1,048,576
abbrev pub Suits : Setup → Job → Type 0
Suits C j =
    (length j.payload + missing (length j.payload) + 4 ≤ C.capacity)
    × (length (frame_of j.payload) ≤ length j.output)

-- each of several jobs does
abbrev pub AllSuit : Setup → List Job → Type 0
AllSuit C [] = Unit {0}
AllSuit C (j ∷ js) = Suits C j × AllSuit C js

-- the bytes that encode wrote: as many of the output as it answered
abbrev pub part : E.EncodeAnswer → List ℕ → List ℕ
part (length_is n) output = take n output
part (E.no_frame k) output = []

-- those that it wrote for a job
abbrev pub wrote_for : Encode → Job → List ℕ
wrote_for encode j =
    let l = encode j.payload j.output in
    part l.answer l.output

-- those of several jobs, back to back
unfoldable pub frames_for : Encode → List Job → List ℕ
frames_for encode [] = []
frames_for encode (j ∷ js) = wrote_for encode j ++ frames_for encode js

-- what the pushes of these bytes answer behind a payload: each frame its own payload, with no count of discarded bytes
unfoldable pub rest_says : Encode → List Job → List DecoderAnswer
rest_says encode [] = []
rest_says encode (j ∷ js) = frame_says nothing (wrote_for encode j) j.payload ++ rest_says encode js

-- Any operations on a new decoder, its capacity + 5 zero bytes, then one or more encoded payloads back to back. Behind what came before, the whole list of answers is: one DiscardedBytes (6), at the
-- first frame's eighth byte, with the count of the bytes before that frame since the last payload, refusal, finalize or reset, or else since the start, stopped at 4,294,967,295; each payload at its own last byte; nothing else
abbrev pub HeardBehindZeros : {S : Type 0} → Machine S → Encode → Setup → List ℕ → List Op → Job → List Job → Type 0
HeardBehindZeros M encode C m before j js =
    let os : List Op = before ++ replicate (C.capacity + 5) (push 0x00) in
    let heard : List DecoderAnswer = answers M (M.new C) m os in
    answers M (M.new C) m (os ++ map push (frames_for encode (j ∷ js)))
    ≡ heard ++ (frame_says (refusal discarded_bytes_no (stopped (count_since os heard) ∷ [])) (wrote_for encode j) j.payload ++ rest_says encode js)

-- of either way, with its one buffer, behind any pushes, finalize and reset calls
abbrev pub Mark3 : {S : Type 0} → Machine S → Encode → Type 0
Mark3 M encode =
    (C : Setup) (m : List ℕ) → KnownWay C.way → length m ≡ C.capacity → C.capacity ≤ limit
    → (before : List Op) (j : Job) (js : List Job) → AllSuit C (j ∷ js) → HeardBehindZeros M encode C m before j js
