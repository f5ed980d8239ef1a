-- rule: what encode answers, with document 01's numbers, and what it leaves in the output.
use Rattle.std.specs.Prelude.{cond, List, ◌++◌, ℕ, length, drop, leb, Result, Ok, Err}
use Rattle.refusals.specs.Numbers.{payload_too_long_no, encode_out_of_memory_no, limit}
use Rattle.frame.specs.Frame.{frame_of}
use Rattle.encoder.specs.declared.EncodeError.{EncodeError}
use Rattle.encoder.specs.declared.EncodeError.TheVariants.{PayloadTooLong, OutOfMemory}

pub data EncodeAnswer : Type 0 where
  length_is : ℕ → EncodeAnswer  -- of the frame
  no_frame : ℕ → EncodeAnswer  -- document 01's number

abbrev pub encode_answer : Result ℕ EncodeError → EncodeAnswer
encode_answer (Ok n) = length_is n
encode_answer (Err PayloadTooLong) = no_frame payload_too_long_no
encode_answer (Err OutOfMemory) = no_frame encode_out_of_memory_no

pub record AfterEncode : Type 0 where
  pub answer : EncodeAnswer
  pub output : List ℕ

abbrev pub after_encode : EncodeAnswer → List ℕ → AfterEncode
after_encode answer output = record { answer = answer; output = output }

-- the frame from the output's first place on, what stands behind it unchanged; a refusal changes nothing
unfoldable pub encode_to : List ℕ → List ℕ → AfterEncode
encode_to payload out =
    let frame = frame_of payload in
    cond (leb (length payload) limit)
    (cond (leb (length frame) (length out))
    (after_encode (length_is (length frame)) (frame ++ drop (length frame) out))
    (after_encode (no_frame encode_out_of_memory_no) out))
    (after_encode (no_frame payload_too_long_no) out)
