-- rule: a slice of bytes pushed one after another, by the definition that push_byte's contract cites, up to and with the byte that brings the first event.
use Rattle.std.specs.Prelude.{Bool, true, false, cond, List, [], ◌∷◌, ℕ, suc, length, take}
use Rattle.refusals.specs.Numbers.{bad_state_no, wrong_buffer_no}
use Rattle.decoder.specs.Record.{DecoderAnswer, nothing, payload, count, refusal, answer_of, After, push_record, bad_decoder, wrong_buffer}
use Rattle.decoder.specs.declared.Decoder.{Decoder}
use Rattle.decoder_slice.specs.declared.Sliced.{Sliced}

-- an answer and how many bytes were taken, with the record and the lent memory as they are then
pub record Took : Type 0 where
  pub answer : DecoderAnswer
  pub decoder : Decoder
  pub taken : ℕ
  pub memory : List ℕ

abbrev pub took : DecoderAnswer → Decoder → ℕ → List ℕ → Took
took a d n m = record { answer = a; decoder = d; taken = n; memory = m }

-- what a push of a slice gave; a payload is the first bytes of the lent memory m
abbrev pub after_slice : Sliced → List ℕ → Took
after_slice r m = took (answer_of r.event (take r.decoder.fill m)) r.decoder r.taken m

abbrev pub says_nothing : DecoderAnswer → Bool
says_nothing nothing = true
says_nothing (payload bytes) = false
says_nothing (count n) = false
says_nothing (refusal n v) = false

-- n bytes were taken before: another one, and if it says nothing those behind it
unfoldable pub pushes_from : ℕ → Decoder → List ℕ → List ℕ → Took
pushes_from n d m [] = took nothing d n m
pushes_from n d m (b ∷ bs) =
    let a : After = push_record d m b in
    cond (says_nothing a.answer) (pushes_from (suc n) a.decoder a.memory bs) (took a.answer a.decoder (suc n) a.memory)

-- the checks for 4 and 5 come first, as in a push: a refused slice, empty ones too, takes no byte
unfoldable pub slice_record : Decoder → List ℕ → List ℕ → Took
slice_record d m bytes =
    cond (bad_decoder d) (took (refusal bad_state_no []) d 0 m)
    (cond (wrong_buffer d.capacity (length m)) (took (refusal wrong_buffer_no []) d 0 m) (pushes_from 0 d m bytes))
