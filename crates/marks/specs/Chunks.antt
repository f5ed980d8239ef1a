-- claim: bytes pushed by slices, cut anyhow, are the bytes pushed one by one. So marks 2 and 3 stand for slices too.
use Rattle.std.specs.Prelude.{◌≡◌, List, [], ◌∷◌, ◌++◌, map, ℕ, zero, suc, ◌≤◌, length, take, drop, replicate}
use Rattle.refusals.specs.Numbers.{limit}
use Rattle.decoder.specs.Record.{DecoderAnswer, nothing, payload, count, refusal}
use Rattle.decoder.specs.Run.{KnownWay, Op, push}
use Rattle.decoder.specs.declared.Decoder.{Decoder}
use Rattle.decoder.specs.declared.Setup.{Setup}
use Rattle.decoder_slice.specs.Slice.{slice_record}
use Rattle.marks.specs.Decoders.{Machine, LeftBehind, ours, answers, left_behind}

-- what a push of a slice gave: its answer, how many bytes it took, the decoder and the lent memory as they are then
pub record GaveSlice (S : Type 0) : Type 0 where
  pub answer : DecoderAnswer
  pub taken : ℕ
  pub decoder : S
  pub memory : List ℕ

-- a decoder that takes single bytes and slices
pub record Slicer (S : Type 0) : Type 0 where
  pub machine : Machine S
  pub push_slice : S → List ℕ → List ℕ → GaveSlice S

-- ours, by the definition that the contracts of push_slice cite
abbrev pub our_slicer : Slicer Decoder
our_slicer =
    record {
      machine = ours;
      push_slice = λ d m bytes. record { answer = (slice_record d m bytes).answer; taken = (slice_record d m bytes).taken; decoder = (slice_record d m bytes).decoder; memory = (slice_record d m bytes).memory };
    }

-- what was heard: an answer for each byte that was taken; the bytes that are left; the decoder and the memory
pub record HeardSlices (S : Type 0) : Type 0 where
  pub answers' : List DecoderAnswer
  pub left' : List ℕ
  pub decoder : S
  pub memory : List ℕ

-- an answer for each of n bytes that a slice took: its own for the last, nothing for those before. One that took none has nothing to say
abbrev pub each_byte : ℕ → DecoderAnswer → List DecoderAnswer
each_byte zero nothing = []
each_byte zero (payload bytes) = payload bytes ∷ []
each_byte zero (count k) = count k ∷ []
each_byte zero (refusal k values) = refusal k values ∷ []
each_byte (suc n) a = replicate n nothing ++ a ∷ []

-- a call for each of `cuts`, a slice of so many bytes from where the call before stopped
unfoldable pub by_slices : {S : Type 0} → Slicer S → S → List ℕ → List ℕ → List ℕ → HeardSlices S
by_slices M d m bytes [] = record { answers' = []; left' = bytes; decoder = d; memory = m }
by_slices M d m bytes (n ∷ cuts) =
    let t = M.push_slice d m (take n bytes) in
    let h = by_slices M t.decoder t.memory (drop t.taken bytes) cuts in
    record { answers' = each_byte t.taken t.answer ++ h.answers'; left' = h.left'; decoder = h.decoder; memory = h.memory }

-- no slice is empty
abbrev pub NoneEmpty : List ℕ → Type 0
NoneEmpty [] = Unit {0}
NoneEmpty (n ∷ cuts) = (1 ≤ n) × NoneEmpty cuts

-- The bytes are those that were taken and those that are left. Of those that were taken the calls give the answers that pushes of single bytes give, byte for byte, payloads with them, and leave the decoder and the memory that those leave, wherever they stop.
-- And slices that are not empty, as many as there are bytes, take them all
pub record SlicesSay {S : Type 0} (M : Slicer S) (d : S) (m bytes cuts : List ℕ) (h : HeardSlices S) : Type 0 where
  pub took : List ℕ
  pub parts : took ++ h.left' ≡ bytes
  pub same_answers : h.answers' ≡ answers M.machine d m (map push took)
  pub same_kept : record { decoder = h.decoder; memory = h.memory } ≡ left_behind M.machine d m (map push took)
  pub all_taken : NoneEmpty cuts → length bytes ≤ length cuts → h.left' ≡ []

-- behind any operations on a new decoder of either way with its one buffer, which is as long as its capacity
abbrev pub Chunks : {S : Type 0} → Slicer S → Type 0
Chunks {S} M =
    (C : Setup) (m : List ℕ) → KnownWay C.way → length m ≡ C.capacity → C.capacity ≤ limit → (before : List Op)
    → let k : LeftBehind S = left_behind M.machine (M.machine.new C) m before in
    (bytes cuts : List ℕ) → SlicesSay M k.decoder k.memory bytes cuts (by_slices M k.decoder k.memory bytes cuts)

-- ---- operations and slices, one after another

-- what a caller does with a decoder, one after another: operations, and pushes of slices
pub data Use : Type 0 where
  one_op : Op → Use
  slice : List ℕ → Use

-- what is heard: the answer, and how many bytes a slice took
pub record HeardUse : Type 0 where
  pub answer : DecoderAnswer
  pub taken : ℕ

abbrev pub heard_use : DecoderAnswer → ℕ → HeardUse
heard_use a n = record { answer = a; taken = n }

-- of each use, with the decoder and the memory that the one before left
unfoldable pub uses_say : {S : Type 0} → Slicer S → S → List ℕ → List Use → List HeardUse
uses_say M d m [] = []
uses_say M d m (one_op o ∷ us) =
    let a = M.machine.act d m o in
    heard_use a.answer 0 ∷ uses_say M a.decoder a.memory us
uses_say M d m (slice chunk ∷ us) =
    let t = M.push_slice d m chunk in
    heard_use t.answer t.taken ∷ uses_say M t.decoder t.memory us

-- and what they leave
unfoldable pub uses_leave : {S : Type 0} → Slicer S → S → List ℕ → List Use → LeftBehind S
uses_leave M d m [] = record { decoder = d; memory = m }
uses_leave M d m (one_op o ∷ us) =
    let a = M.machine.act d m o in
    uses_leave M a.decoder a.memory us
uses_leave M d m (slice chunk ∷ us) =
    let t = M.push_slice d m chunk in
    uses_leave M t.decoder t.memory us
