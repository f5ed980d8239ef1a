-- claim: a decoder's state in 28 plain bytes (document 02, Q-11), whichever packing it is: what is packed comes back, no other bytes are unpacked, and a call over the bytes is the call over the record.
use Rattle.std.specs.Prelude.{◌≡◌, List, [], ℕ, ◌<◌, ◌≤◌, length, take, drop, get_or, replicate, false}
use Rattle.refusals.specs.Numbers.{bad_state_no, wrong_buffer_no, bad_span_no, output_too_short_no, limit}
use Rattle.decoder.specs.Record.{DecoderAnswer, nothing, refusal, bad_decoder, new_record, push_record, payload_record, ask_record}
use Rattle.decoder.specs.Run.{KnownWay, Op, push, finalize, reset}
use Rattle.decoder.specs.Run as R
use Rattle.decoder.specs.declared.DecodeState.TheVariants.{Done}
use Rattle.decoder.specs.declared.Decoder.{Decoder}
use Rattle.decoder.specs.declared.Setup.{Setup}
use Rattle.decoder_slice.specs.Slice.{slice_record}
use Rattle.packed.specs.Layout.{tidied, Narrow}
use Rattle.packed.specs.Packed.{Filled, answering, Unpacked, holds, no_record, pack_into, unpack_of, push_packed, slice_packed, finalize_packed, reset_packed, payload_packed, ask_packed}
use Rattle.marks.specs.Decoders.{Gave, Machine, ours, answers, LeftBehind, left_behind}
use Rattle.marks.specs.Mark2.{PushesBytes}
use Rattle.marks.specs.Chunks.{GaveSlice}

-- packing and unpacking, and what the calls over bytes give: a push, finalize or reset, a push of a slice, the payload and the question whether one stands there. Any layout will do here; document 02's is `packed_bytes`, which the contract of pack cites
pub record Host : Type 0 where
  pub pack : Decoder → List ℕ → Filled
  pub unpack : List ℕ → Unpacked
  pub act : List ℕ → List ℕ → Op → Gave (List ℕ)
  pub push_slice : List ℕ → List ℕ → List ℕ → GaveSlice (List ℕ)
  pub payload_of : List ℕ → List ℕ → List ℕ
  pub ask : List ℕ → List ℕ → DecoderAnswer

-- what is left where nothing is changed
abbrev pub as_it_was : DecoderAnswer → List ℕ → List ℕ → Gave (List ℕ)
as_it_was a l m = record { answer = a; decoder = l; memory = m }

-- ours, by the definitions that the contracts of crate packed cite; finalize and reset leave the memory as it is
abbrev pub act_over : List ℕ → List ℕ → Op → Gave (List ℕ)
act_over l m (push b) = record { answer = (push_packed l m b).answer; decoder = (push_packed l m b).bytes; memory = (push_packed l m b).memory }
act_over l m finalize = record { answer = (finalize_packed l).answer; decoder = (finalize_packed l).bytes; memory = m }
act_over l m reset = record { answer = (reset_packed l).answer; decoder = (reset_packed l).bytes; memory = m }

abbrev pub our_host : Host
our_host =
    record {
      pack = pack_into;
      unpack = unpack_of;
      act = act_over;
      push_slice = λ l m chunk. record { answer = (slice_packed l m chunk).answer; taken = (slice_packed l m chunk).taken; decoder = (slice_packed l m chunk).bytes; memory = (slice_packed l m chunk).memory };
      payload_of = payload_packed;
      ask = ask_packed;
    }

-- numbers that are bytes, as those of every slice are
abbrev pub AreBytes : List ℕ → Type 0
AreBytes l = (i : ℕ) → get_or l i 0 < 256

-- ---- packing and unpacking

-- every state that packing accepts comes back, its unused counts 0; what lies behind the 28 bytes stays
abbrev pub RoundTrip : Host → Type 0
RoundTrip H =
    (d : Decoder) (out : List ℕ) → Narrow d → (H.pack d out).answer ≡ nothing
    → (H.unpack (H.pack d out).output ≡ holds (tidied d)) × (drop 28 (H.pack d out).output ≡ drop 28 out)

-- bytes are unpacked exactly if some packing gives their first 28, and the record that they are unpacked to packs to them again; else 4
pub record Exactly (H : Host) : Type 0 where
  pub gives : (l : List ℕ) (d : Decoder) → AreBytes l → H.unpack l ≡ holds d → Narrow d × (H.pack d l ≡ answering nothing l)
  pub takes : (l out : List ℕ) (d : Decoder) → Narrow d → (H.pack d out).answer ≡ nothing → take 28 (H.pack d out).output ≡ take 28 l → H.unpack l ≡ holds (tidied d)
  pub else_four : (l : List ℕ) (n : ℕ) → H.unpack l ≡ no_record n → n ≡ bad_state_no

-- packing answers 4 exactly where a push over the record does, whatever is lent and pushed
abbrev pub PacksWhatPushes : Host → Type 0
PacksWhatPushes H =
    (d : Decoder) (out m : List ℕ) (b : ℕ)
    → ((H.pack d out).answer ≡ refusal bad_state_no [] → (push_record d m b).answer ≡ refusal bad_state_no [])
    × ((push_record d m b).answer ≡ refusal bad_state_no [] → (H.pack d out).answer ≡ refusal bad_state_no [])

-- behind 4: 5 for a capacity over the limit, then 18 under 28 bytes; every other record is packed, and no output becomes longer or shorter
pub record PacksInOrder (H : Host) : Type 0 where
  pub over : (d : Decoder) (out : List ℕ) → bad_decoder d ≡ false → limit < d.capacity → (H.pack d out).answer ≡ refusal wrong_buffer_no []
  pub short : (d : Decoder) (out : List ℕ) → bad_decoder d ≡ false → d.capacity ≤ limit → length out < 28 → (H.pack d out).answer ≡ refusal output_too_short_no []
  pub packs : (d : Decoder) (out : List ℕ) → bad_decoder d ≡ false → d.capacity ≤ limit → 28 ≤ length out → (H.pack d out).answer ≡ nothing
  pub as_long : (d : Decoder) (out : List ℕ) → length (H.pack d out).output ≡ length out

-- ---- calls over the bytes

-- a push, finalize or reset over the bytes of d answers and leaves the memory as over d, and leaves in the bytes the packing of the record that it leaves, which is never refused
abbrev pub ActsAlike : Host → Type 0
ActsAlike H =
    (d : Decoder) (out m : List ℕ) (o : Op) → Narrow d → (H.pack d out).answer ≡ nothing
    → let l : List ℕ = (H.pack d out).output in
    let g : Gave (List ℕ) = H.act l m o in
    (g.answer ≡ (R.act d m o).answer) × (g.memory ≡ (R.act d m o).memory) × (H.pack (R.act d m o).decoder l ≡ answering nothing g.decoder)

-- so does a push of a slice
abbrev pub SlicesAlike : Host → Type 0
SlicesAlike H =
    (d : Decoder) (out m chunk : List ℕ) → Narrow d → (H.pack d out).answer ≡ nothing
    → let l : List ℕ = (H.pack d out).output in
    let g : GaveSlice (List ℕ) = H.push_slice l m chunk in
    (g.answer ≡ (slice_record d m chunk).answer) × (g.taken ≡ (slice_record d m chunk).taken) × (g.memory ≡ (slice_record d m chunk).memory)
    × (H.pack (slice_record d m chunk).decoder l ≡ answering nothing g.decoder)

-- and so are the payload that is handed out, and the answer to whether one stands there
abbrev pub HandsAlike : Host → Type 0
HandsAlike H =
    (d : Decoder) (out m : List ℕ) → Narrow d → (H.pack d out).answer ≡ nothing
    → let l : List ℕ = (H.pack d out).output in
    (H.payload_of l m ≡ payload_record d m) × (H.ask l m ≡ ask_record d m)

-- a push over bytes that hold a record is never 4, and is 5 exactly where the lent length isn't the packed capacity; then nothing changes
abbrev pub Serves : Host → Type 0
Serves H =
    (l m : List ℕ) (d : Decoder) (b : ℕ) → H.unpack l ≡ holds d
    → ((H.act l m (push b)).answer ≡ refusal bad_state_no [] → ⊥)
    × ((H.act l m (push b)).answer ≡ refusal wrong_buffer_no [] → length m ≡ d.capacity → ⊥)
    × ((length m ≡ d.capacity → ⊥) → H.act l m (push b) ≡ as_it_was (refusal wrong_buffer_no []) l m)

-- what is refused changes nothing: packing leaves its output; over bytes that no packing gives every call is 4 and leaves them and the memory, a slice takes no byte, the payload is the empty part, and asked for it is 16
pub record LeavesRefused (H : Host) : Type 0 where
  pub output : (d : Decoder) (out : List ℕ) → ((H.pack d out).answer ≡ nothing → ⊥) → (H.pack d out).output ≡ out
  pub bytes : (l m : List ℕ) (o : Op) (n : ℕ) → H.unpack l ≡ no_record n → H.act l m o ≡ as_it_was (refusal bad_state_no []) l m
  pub slice : (l m chunk : List ℕ) (n : ℕ) → H.unpack l ≡ no_record n → H.push_slice l m chunk ≡ record { answer = refusal bad_state_no []; taken = 0; decoder = l; memory = m }
  pub asked : (l m : List ℕ) (n : ℕ) → H.unpack l ≡ no_record n → (H.payload_of l m ≡ []) × (H.ask l m ≡ refusal bad_span_no [])

-- of our record: only behind a payload `tidied` changes it; a new one has no unused counts, and a call leaves none where there were none. So every record that calls on a new one leave comes back exactly
pub record LeavesTidy : Type 0 where
  pub new : (C : Setup) → tidied (new_record C) ≡ new_record C
  pub act : (d : Decoder) (m : List ℕ) (o : Op) → tidied d ≡ d → tidied (R.act d m o).decoder ≡ (R.act d m o).decoder
  pub slice : (d : Decoder) (m chunk : List ℕ) → tidied d ≡ d → tidied (slice_record d m chunk).decoder ≡ (slice_record d m chunk).decoder
  pub elsewhere : (d : Decoder) → (d.state ≡ Done → ⊥) → tidied d ≡ d

-- ---- a decoder that is kept in bytes

-- a new one is packed into 28 bytes, and every call is made over them. Of a setup that packing refuses 28 zeros are left, which hold no record
abbrev pub kept_by : Host → Machine (List ℕ)
kept_by H = record { new = λ C. (H.pack (new_record C) (replicate 28 0)).output; act = H.act; payload_of = H.payload_of }

-- any pushes, finalize and reset calls on a new decoder of either way and of a capacity that is no refusal, over one buffer of bytes, of any length: all answers are those of the record; and behind them so are the memory and the payload, and the bytes are the packing of the record
abbrev pub AnswersAlike : Host → Type 0
AnswersAlike H =
    (C : Setup) (m : List ℕ) (os : List Op) → KnownWay C.way → C.capacity ≤ limit → AreBytes m → PushesBytes os
    → let k : LeftBehind (List ℕ) = left_behind (kept_by H) ((kept_by H).new C) m os in
    let j : LeftBehind Decoder = left_behind ours (ours.new C) m os in
    (answers (kept_by H) ((kept_by H).new C) m os ≡ answers ours (ours.new C) m os) × (k.memory ≡ j.memory) × (H.pack j.decoder k.decoder ≡ answering nothing k.decoder)
    × (H.payload_of k.decoder k.memory ≡ payload_record j.decoder j.memory)
