-- rule: packing, unpacking and the decoder's calls over the 28 bytes, by the definitions that the calls over the record cite; what is refused, and what each call leaves.
use Rattle.std.specs.Prelude.{Bool, true, false, cond, List, [], ℕ, Result, Ok, Err, length, take, eqb, ltb}
use Rattle.refusals.specs.Numbers.{bad_state_no, wrong_buffer_no, bad_span_no, output_too_short_no, limit}
use Rattle.frame.specs.Frame.{same}
use Rattle.decoder.specs.Record.{Event, DecoderAnswer, nothing, count, refusal, answer_of, bad_decoder, wrong_buffer, After, Left, push_record, finalize_record, reset_record, payload_record, ask_record}
use Rattle.decoder.specs.declared.DecodeState.{DecodeState}
use Rattle.decoder.specs.declared.DecodeState.TheVariants.{LookingForMessageStart, ParsingNormal, ParsingEscChars, ParsingEscPayload, Done}
use Rattle.decoder.specs.declared.Decoder.{Decoder}
use Rattle.decoder_slice.specs.Slice.{Took, says_nothing, slice_record}
use Rattle.in_place.specs.declared.Taken.{Taken}
use Rattle.packed.specs.Layout.{number_at_claim, packed_in, record_in}
use Rattle.packed.specs.declared.PackError.{PackError}
use Rattle.packed.specs.declared.PackError.TheVariants as P
use Rattle.packed.specs.declared.BadState.{BadState}

-- ---- packing

-- an answer, and the lent output as it is then
pub record Filled : Type 0 where
  pub answer : DecoderAnswer
  pub output : List ℕ

abbrev pub answering : DecoderAnswer → List ℕ → Filled
answering a out = record { answer = a; output = out }

abbrev pub filled : Result (Unit {0}) PackError → List ℕ → Filled
filled (Ok a) out = answering nothing out
filled (Err P.BadState) out = answering (refusal bad_state_no []) out
filled (Err P.WrongBuffer) out = answering (refusal wrong_buffer_no []) out
filled (Err P.OutputTooShort) out = answering (refusal output_too_short_no []) out

-- 4, 5 and 18 in this order, the output unchanged; else the record stands in the first 28 bytes, and what is behind them stays
unfoldable pub pack_into : Decoder → List ℕ → Filled
pack_into d out =
    cond (bad_decoder d) (answering (refusal bad_state_no []) out)
    (cond (ltb limit d.capacity) (answering (refusal wrong_buffer_no []) out)
    (cond (ltb (length out) 28) (answering (refusal output_too_short_no []) out) (answering nothing (packed_in d out))))

-- ---- unpacking

pub data Unpacked : Type 0 where
  holds : Decoder → Unpacked
  no_record : ℕ → Unpacked  -- document 01's number

abbrev pub unpacked_as : Result Decoder BadState → Unpacked
unpacked_as (Ok d) = holds d
unpacked_as (Err e) = no_record bad_state_no

-- the bytes are some packing's exactly if packing what they say into them is accepted and changes nothing; else 4
unfoldable pub unpack_of : List ℕ → Unpacked
unpack_of l =
    let f : Filled = pack_into (record_in l) l in
    cond (says_nothing f.answer) (cond (same f.output l) (holds (record_in l)) (no_record bad_state_no)) (no_record bad_state_no)

-- ---- a push

-- an answer, with the bytes and the lent memory as they are then
pub record KeptBytes : Type 0 where
  pub answer : DecoderAnswer
  pub bytes : List ℕ
  pub memory : List ℕ

abbrev pub kept_bytes : DecoderAnswer → List ℕ → List ℕ → KeptBytes
kept_bytes a l m = record { answer = a; bytes = l; memory = m }

-- what a push gave; a payload is the first bytes of the lent memory m, as many as the fill in the bytes l
abbrev pub kept_push : Event → List ℕ → List ℕ → KeptBytes
kept_push e l m = kept_bytes (answer_of e (take (number_at_claim l 8 4) m)) l m

-- the push over the record that the bytes hold, and the record that it leaves packed into them
abbrev pub push_held : Unpacked → List ℕ → List ℕ → ℕ → KeptBytes
push_held (no_record n) l m b = kept_bytes (refusal n []) l m
push_held (holds d) l m b =
    let a : After = push_record d m b in
    kept_bytes a.answer (packed_in a.decoder l) a.memory

unfoldable pub push_packed : List ℕ → List ℕ → ℕ → KeptBytes
push_packed l m b = push_held (unpack_of l) l m b

-- ---- a push that has a short way

-- a byte that says nothing and is stored: of a frame, behind no 1b, itself none, with room in the buffer that the record is for
abbrev pub plain_for : DecodeState → ℕ → ℕ → ℕ → ℕ → Bool
plain_for (LookingForMessageStart n noise) fill capacity lent b = false
plain_for ParsingNormal fill capacity lent b = cond (eqb b 0x1b) false (cond (wrong_buffer capacity lent) false (ltb fill lent))
plain_for (ParsingEscChars n) fill capacity lent b = false
plain_for (ParsingEscPayload n) fill capacity lent b = false
plain_for Done fill capacity lent b = false

abbrev pub plain_held : Unpacked → ℕ → ℕ → Bool
plain_held (no_record n) lent b = false
plain_held (holds d) lent b = plain_for d.state d.fill d.capacity lent b

-- whether the byte was pushed, with the bytes and the lent memory as they are then
pub record Tried : Type 0 where
  pub did : Bool
  pub bytes : List ℕ
  pub memory : List ℕ

abbrev pub tried : Bool → List ℕ → List ℕ → Tried
tried did l m = record { did = did; bytes = l; memory = m }

-- the push of such a byte, which says nothing; any other is left undone
unfoldable pub plain_packed : List ℕ → List ℕ → ℕ → Tried
plain_packed l m b =
    let k : KeptBytes = push_packed l m b in
    cond (plain_held (unpack_of l) (length m) b) (tried true k.bytes k.memory) (tried false l m)

-- ---- a push of a slice

pub record KeptSlice : Type 0 where
  pub answer : DecoderAnswer
  pub bytes : List ℕ
  pub taken : ℕ
  pub memory : List ℕ

abbrev pub kept_took : DecoderAnswer → List ℕ → ℕ → List ℕ → KeptSlice
kept_took a l n m = record { answer = a; bytes = l; taken = n; memory = m }

abbrev pub kept_slice : Taken → List ℕ → List ℕ → KeptSlice
kept_slice r l m = kept_took (answer_of r.event (take (number_at_claim l 8 4) m)) l r.taken m

abbrev pub slice_held : Unpacked → List ℕ → List ℕ → List ℕ → KeptSlice
slice_held (no_record n) l m chunk = kept_took (refusal n []) l 0 m
slice_held (holds d) l m chunk =
    let t : Took = slice_record d m chunk in
    kept_took t.answer (packed_in t.decoder l) t.taken t.memory

unfoldable pub slice_packed : List ℕ → List ℕ → List ℕ → KeptSlice
slice_packed l m chunk = slice_held (unpack_of l) l m chunk

-- ---- finalize and reset

-- an answer, with the bytes as they are then
pub record KeptLeft : Type 0 where
  pub answer : DecoderAnswer
  pub bytes : List ℕ

abbrev pub kept_left : DecoderAnswer → List ℕ → KeptLeft
kept_left a l = record { answer = a; bytes = l }

abbrev pub kept_event : Event → List ℕ → KeptLeft
kept_event e l = kept_left (answer_of e []) l

abbrev pub kept_reset : Result ℕ BadState → List ℕ → KeptLeft
kept_reset (Ok n) l = kept_left (count n) l
kept_reset (Err e) l = kept_left (refusal bad_state_no []) l

-- what a call that takes no memory leaves of the record that the bytes hold
abbrev pub left_held : (Decoder → Left) → Unpacked → List ℕ → KeptLeft
left_held call (no_record n) l = kept_left (refusal n []) l
left_held call (holds d) l = kept_left (call d).answer (packed_in (call d).decoder l)

unfoldable pub finalize_packed : List ℕ → KeptLeft
finalize_packed l = left_held finalize_record (unpack_of l) l

unfoldable pub reset_packed : List ℕ → KeptLeft
reset_packed l = left_held reset_record (unpack_of l) l

-- ---- the payload

abbrev pub payload_held : Unpacked → List ℕ → List ℕ
payload_held (no_record n) m = []
payload_held (holds d) m = payload_record d m

unfoldable pub payload_packed : List ℕ → List ℕ → List ℕ
payload_packed l m = payload_held (unpack_of l) m

-- 16 if no payload stands there, as for a record
abbrev pub ask_held : Unpacked → List ℕ → DecoderAnswer
ask_held (no_record n) m = refusal bad_span_no []
ask_held (holds d) m = ask_record d m

unfoldable pub ask_packed : List ℕ → List ℕ → DecoderAnswer
ask_packed l m = ask_held (unpack_of l) m
