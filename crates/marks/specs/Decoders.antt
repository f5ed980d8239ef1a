-- claim: a decoder in use, whichever decoder it is. Operations one after another with one buffer lent each time, what they answer, and which bytes were pushed since the last answer of note.
use Rattle.std.specs.Prelude.{List, [], ◌∷◌, ◌++◌, ℕ, ◌-◌, length, replicate}
use Rattle.decoder.specs.Record.{DecoderAnswer, nothing, payload, count, refusal, After, new_record, payload_record}
use Rattle.decoder.specs.Run as R
use Rattle.decoder.specs.Run.{Op, push, finalize, reset}
use Rattle.decoder.specs.declared.Decoder.{Decoder}
use Rattle.decoder.specs.declared.Setup.{Setup}

-- what a call gave: its answer, the decoder and the lent memory as they are then
pub record Gave (S : Type 0) : Type 0 where
  pub answer : DecoderAnswer
  pub decoder : S
  pub memory : List ℕ

-- a decoder that keeps an S: a new one, of what never changes (its capacity and its way of searching); what a push, finalize or reset gives, with the lent memory; what it hands back as the payload
pub record Machine (S : Type 0) : Type 0 where
  pub new : Setup → S
  pub act : S → List ℕ → Op → Gave S
  pub payload_of : S → List ℕ → List ℕ

-- what the definition of an operation leaves of our record and the memory, as such a call
abbrev pub gave : After → Gave Decoder
gave a = record { answer = a.answer; decoder = a.decoder; memory = a.memory }

-- ours, by the definitions that the contracts of with_way, push_byte, finalize, reset and payload cite. An operation (`Op` of crate decoder) is a push of one byte, finalize or reset; `R.act` there takes the definition that it names:
-- push_record, finalize_record or reset_record, of which the last two leave the memory as it is
abbrev pub ours : Machine Decoder
ours = record { new = new_record; act = λ d m o. gave (R.act d m o); payload_of = payload_record }

-- ---- in use

-- an answer for each operation, each with the decoder and the memory that the one before left
unfoldable pub answers : {S : Type 0} → Machine S → S → List ℕ → List Op → List DecoderAnswer
answers M d m [] = []
answers M d m (o ∷ os) =
    let a = M.act d m o in
    a.answer ∷ answers M a.decoder a.memory os

-- what the operation o gives behind the operations os
unfoldable pub behind_of : {S : Type 0} → Machine S → S → List ℕ → List Op → Op → Gave S
behind_of M d m [] o = M.act d m o
behind_of M d m (p ∷ os) o =
    let a = M.act d m p in
    behind_of M a.decoder a.memory os o

-- a decoder and the memory that it is used with
pub record LeftBehind (S : Type 0) : Type 0 where
  pub decoder : S
  pub memory : List ℕ

-- what the operations os leave of them
unfoldable pub left_behind : {S : Type 0} → Machine S → S → List ℕ → List Op → LeftBehind S
left_behind M d m [] = record { decoder = d; memory = m }
left_behind M d m (o ∷ os) =
    let a = M.act d m o in
    left_behind M a.decoder a.memory os

-- ---- what was pushed, told by the operations and their answers alone

-- the bytes since the last payload, refusal, finalize or reset, behind those in h; where the decoder searches, those since the search began. The list `more` has the operations' answers: each has one, so the second case never occurs
unfoldable pub searched_from : List ℕ → List Op → List DecoderAnswer → List ℕ
searched_from h [] more = h
searched_from h (o ∷ os) [] = h
searched_from h (push b ∷ os) (nothing ∷ more) = searched_from (h ++ b ∷ []) os more
searched_from h (push b ∷ os) (payload bytes ∷ more) = searched_from [] os more
searched_from h (push b ∷ os) (count k ∷ more) = searched_from [] os more
searched_from h (push b ∷ os) (refusal k values ∷ more) = searched_from [] os more
searched_from h (finalize ∷ os) (a ∷ more) = searched_from [] os more
searched_from h (reset ∷ os) (a ∷ more) = searched_from [] os more

-- or else since the start
abbrev pub searched_since : List Op → List DecoderAnswer → List ℕ
searched_since os more = searched_from [] os more

-- and how many they are
abbrev pub count_since : List Op → List DecoderAnswer → ℕ
count_since os more = length (searched_since os more)

-- the bytes since the last payload, finalize or reset, behind those in h: a refusal is passed over. The second case never occurs here either
unfoldable pub bytes_from : List ℕ → List Op → List DecoderAnswer → List ℕ
bytes_from h [] more = h
bytes_from h (o ∷ os) [] = h
bytes_from h (push b ∷ os) (nothing ∷ more) = bytes_from (h ++ b ∷ []) os more
bytes_from h (push b ∷ os) (payload bytes ∷ more) = bytes_from [] os more
bytes_from h (push b ∷ os) (count k ∷ more) = bytes_from (h ++ b ∷ []) os more
bytes_from h (push b ∷ os) (refusal k values ∷ more) = bytes_from (h ++ b ∷ []) os more
bytes_from h (finalize ∷ os) (a ∷ more) = bytes_from [] os more
bytes_from h (reset ∷ os) (a ∷ more) = bytes_from [] os more

-- or else since the start
abbrev pub bytes_since : List Op → List DecoderAnswer → List ℕ
bytes_since os more = bytes_from [] os more

-- ---- a frame

-- what the pushes of a frame answer: `eighth` at its eighth byte, the payload at its last, and nothing else
abbrev pub frame_says : DecoderAnswer → List ℕ → List ℕ → List DecoderAnswer
frame_says eighth frame P = replicate 7 nothing ++ eighth ∷ (replicate (length frame - 9) nothing ++ payload P ∷ [])
