-- rule: what the library's calls over a decoder, and encode, answer in plain numbers, and what they leave in all that they are lent.
use Rattle.std.specs.Prelude.{List, [], ◌∷◌, ℕ, length}
use Rattle.std.proofs.lemmas.List.Edits.{sets}
use Rattle.encoder.specs.Encode.{EncodeAnswer, length_is, no_frame, AfterEncode, encode_to}
use Rattle.decoder.specs.Push.{in_way}
use Rattle.decoder.specs.Record.{DecoderAnswer, nothing, payload, count, refusal, new_record}
use Rattle.packed.specs.Packed.{Filled, pack_into, KeptBytes, push_packed, KeptSlice, slice_packed, KeptLeft, finalize_packed, reset_packed, payload_packed, ask_packed}

-- what is no refusal: all is good or there is nothing to say, a payload, no byte or event is left and nothing more is lost, no row has the name, bytes of a recording are lost
abbrev pub good_no : ℕ
good_no = 0

abbrev pub payload_no : ℕ
payload_no = 100

abbrev pub finished_no : ℕ
finished_no = 101

abbrev pub not_found_no : ℕ
not_found_no = 102

abbrev pub lost_no : ℕ
lost_no = 103

-- the number that a call gives, and what each thing that it may write holds then, in the order of its parameters; a single number is a list of one
pub record Reply : Type 0 where
  pub number : ℕ
  pub lent : List (List ℕ)

abbrev pub reply : ℕ → List (List ℕ) → Reply
reply number lent = record { number = number; lent = lent }

-- ---- the decoder

abbrev pub answer_no : DecoderAnswer → ℕ
answer_no nothing = good_no
answer_no (payload p) = payload_no
answer_no (count n) = good_no
answer_no (refusal n values) = n

abbrev pub answer_values : DecoderAnswer → List ℕ
answer_values nothing = []
answer_values (payload p) = length p ∷ []
answer_values (count n) = n ∷ []
answer_values (refusal n values) = values

-- an answer's values stand in front; what is behind them stays
abbrev pub values_by : DecoderAnswer → List ℕ → List ℕ
values_by a v = sets v 0 (answer_values a)

unfoldable pub sgh_decoder_new : List ℕ → ℕ → ℕ → Reply
sgh_decoder_new l capacity way =
    let f : Filled = pack_into (new_record (in_way way capacity)) l in
    reply (answer_no f.answer) (f.output ∷ [])

unfoldable pub sgh_push_byte : List ℕ → List ℕ → ℕ → List ℕ → Reply
sgh_push_byte l m b v =
    let k : KeptBytes = push_packed l m b in
    reply (answer_no k.answer) (k.bytes ∷ k.memory ∷ values_by k.answer v ∷ [])

unfoldable pub sgh_push_slice : List ℕ → List ℕ → List ℕ → List ℕ → Reply
sgh_push_slice l m chunk v =
    let k : KeptSlice = slice_packed l m chunk in
    reply (answer_no k.answer) (k.bytes ∷ k.memory ∷ (k.taken ∷ []) ∷ values_by k.answer v ∷ [])

unfoldable pub sgh_payload : List ℕ → List ℕ → Reply
sgh_payload l m = reply (answer_no (ask_packed l m)) ((length (payload_packed l m) ∷ []) ∷ [])

-- a call that takes no memory
abbrev pub left_in : KeptLeft → List ℕ → Reply
left_in k v = reply (answer_no k.answer) (k.bytes ∷ values_by k.answer v ∷ [])

unfoldable pub sgh_finalize : List ℕ → List ℕ → Reply
sgh_finalize l v = left_in (finalize_packed l) v

unfoldable pub sgh_reset : List ℕ → List ℕ → Reply
sgh_reset l v = left_in (reset_packed l) v

-- ---- encode

abbrev pub encode_no : EncodeAnswer → ℕ
encode_no (length_is n) = good_no
encode_no (no_frame n) = n

abbrev pub encode_len : EncodeAnswer → ℕ
encode_len (length_is n) = n
encode_len (no_frame n) = 0

unfoldable pub sgh_encode : List ℕ → List ℕ → Reply
sgh_encode p out =
    let a : AfterEncode = encode_to p out in
    reply (encode_no a.answer) (a.output ∷ (encode_len a.answer ∷ []) ∷ [])
