-- A caller of the library hears what is said of a decoder, an encode, an Encoder, a reader and a writer by value.
use mathlib.Core.Path.{◌≡◌, refl, ap, sym, ◌∙◌}
use mathlib.Core.Bool.{false, cond}
use mathlib.Core.List.{List, [], ◌∷◌, ◌++◌}
use Prim.Native.Nat.{ℕ, zero, suc, ◌+◌, ◌≤◌, ◌<◌}
use native.Mathlib.Omega.{arith}
use lib.IntN.{ℤ, pos, negsuc, ◌-ℤ◌}
use lib.ListN.{length, take, drop, get_or, replicate, take-append-drop}
use lib.Seq.{take-append_seam}
use lib.Dec.{eqb, ltb, leb}
use borrow.Author.Tests.{le-ltb, ltb-false}
use Rattle.refusals.specs.Numbers.{limit}
use Rattle.crc_x25.specs.Crc.{start}
use Rattle.crc_x25.proofs.Laws.{byte_fits}
use Rattle.frame.specs.Frame.{esc_seq, start_seq, missing, frame_of}
use Rattle.encoder.specs.Encode.{encode_to}
use Rattle.encoder.specs.Encoder.{NextAnswer, byte, finished, no_byte, Step, fresh_encoder, end_of, bad_end, last_end, ended, looked, step_from, bad_count, bad_encoder, next_step}
use Rattle.encoder.specs.declared.Encoder.{Encoder}
use Rattle.encoder.proofs.Steps.{StepsKept, moves, finishes, is_long, is_bad, next_keeps}
use Rattle.encoder.proofs.Calls.{next_counts}
use Rattle.encoder.specs.declared.EncoderState.{EncoderState}
use Rattle.encoder.specs.declared.EncoderState.TheVariants.{Init, LookingForEscape, HandlingEscape, End}
use Rattle.decoder.specs.Push.{in_way}
use Rattle.decoder.specs.Record.{bad_decoder, new_record, has_payload, payload_record, ask_record}
use Rattle.decoder.specs.Run.{KnownWay, Op, push, finalize, reset}
use Rattle.decoder.specs.declared.Decoder.{Decoder}
use Rattle.decoder.proofs.Search.{known_is}
use Rattle.decoder.proofs.Reached.{by_new, reached_good}
use Rattle.decoder.proofs.Split.{cases}
use Rattle.since.specs.Since.{AllBytes}
use Rattle.packed.specs.Packed.{pack_into, Unpacked, holds, no_record, unpack_of, slice_packed, payload_held, payload_packed, ask_packed}
use Rattle.packed.proofs.Held.{pack_bad, pack_over, pack_good}
use Rattle.sartrogheo.specs.Calls.{good_no, finished_no, answer_no, sgh_decoder_new, sgh_push_byte, sgh_push_slice, sgh_payload, sgh_finalize, sgh_reset, sgh_encode}
use Rattle.sartrogheo.specs.Streams.{encoder_kind, end_count, encoder_count, encoder_words, state_of_kind, encoder_in, sgh_encoder_new, next_no, words_behind, byte_or, sgh_encoder_next, sgh_next_event}
use Rattle.marks.specs.Decoders.{LeftBehind}
use Rattle.marks.specs.Packed.{AreBytes, act_over}
use Rattle.marks.specs.Encoders.{CalledOnce, our_encoder, calls_of}
use Rattle.marks.specs.Events.{Numbers, our_reader, says_at, ReaderGives}
use Rattle.marks.specs.Chunks.{Use, one_op, slice, HeardUse, heard_use, uses_say, uses_leave}
use Rattle.marks.specs.Library.{our_library, HearsNew, LentByCaller, KeptByCaller, kept_by_caller, act_by, slice_by, slicer_by, HearsPayload, HearsDecoder, HearsEncode, KeptEncoder, encoder_by, HearsEncoder, reader_by, three_of, HearsReader, HearsOurs}
use Rattle.marks.proofs.Events.{reader_gives}
use Rattle.marks.proofs.HeardEvent.{call_back}
use Rattle.marks.proofs.HeardWriter.{hears_writer}
use Rattle.marks.proofs.HeardWhole.{hears_whole}
use Rattle.marks.proofs.HeardIndex.{hears_index}
use Rattle.marks.proofs.HeardWalk.{hears_walk}
use Rattle.marks.proofs.HeardAnswer.{answer_heard, push_bytes_hearable, slice_bytes_hearable, finalize_bytes_hearable, reset_heard}
use Rattle.marks.proofs.Packed.{host_slicer, StaysKept, kept_payload, new_alike}
use Rattle.marks.proofs.Ways.{unknown_bad}
use Rattle.marks.proofs.Narrow.{bytes_join, bytes_run, start_bytes, register_narrow}

-- ---- a reader

said_alike : (s : List ℕ) (n : Numbers) → ((reader_by our_library).next s (three_of n)).said ≡ (our_reader.next s n).said
unfolding sgh_next_event
said_alike s n = call_back s n.place n.start n.pending

pub hears_reader : HearsReader our_library
unfolding says_at sgh_next_event
hears_reader s n zero = said_alike s n
hears_reader s n (suc k) = hears_reader s (our_reader.next s n).reader k

-- ---- frames

pub hears_encode : HearsEncode our_library
unfolding sgh_encode encode_to
hears_encode p out =
    cases (leb (length p) limit)
    (λ t. cases (leb (length (frame_of p)) (length out)) (λ u. rw (t, u) (refl, refl)) (λ u. rw (t, u) (refl, refl)))
    (λ t. rw t (refl, refl))

-- a count, and the state that it stands for
end_count_lem : (z : ℤ) → bad_end z ≡ false → (end_count z ≤ 11) × (pos (end_count z) -ℤ pos 3 ≡ z)
end_count_lem (pos n) h =
    (omega (arith, ltb-false 8 n h), rw (le-ltb (n + 3) 3 (omega arith)) (ap pos (omega arith)))
end_count_lem (negsuc zero) h = (omega arith, refl)
end_count_lem (negsuc (suc zero)) h = (omega arith, refl)
end_count_lem (negsuc (suc (suc zero))) h = (omega arith, refl)
end_count_lem (negsuc (suc (suc (suc n)))) h = absurd (omega (arith, ltb-false 2 (suc (suc (suc n))) h))

-- an Encoder that its numbers keep
record GoodEncoder (e : Encoder) : Type 0 where
  counts : bad_count e.state ≡ false
  narrow : e.crc < 65536

state_back : (s : EncoderState) → bad_count s ≡ false → (encoder_count s ≤ 11) × (state_of_kind (encoder_kind s) (encoder_count s) ≡ s)
state_back (Init n) h = (omega (arith, ltb-false 8 n h), refl)
state_back (LookingForEscape n) h = (omega (arith, ltb-false 4 n h), refl)
state_back (HandlingEscape n) h = (omega (arith, ltb-false 4 n h), refl)
state_back (End z) h = let e = end_count_lem z h in (e.0, ap End e.1)

words_back : (e : Encoder) → GoodEncoder e → encoder_in (encoder_words e) ≡ e
unfolding encoder_in
words_back e g =
    let s = state_back e.state g.counts in
    rw (le-ltb 65535 e.crc (omega (arith, g.narrow)), le-ltb 11 (encoder_count e.state) s.0, s.1)

-- what is heard of a call is what it answers, and the numbers that it leaves are those of the Encoder that it leaves
answer_alike : (e : Encoder) (x : Step) (old : ℕ) → StepsKept e x
    → (cond (eqb (next_no x.answer) good_no) (byte (byte_or x.answer old)) (cond (eqb (next_no x.answer) finished_no) finished (no_byte (next_no x.answer))) ≡ x.answer)
    × (words_behind x.answer x.encoder (encoder_words e) ≡ encoder_words x.encoder)
answer_alike e x old (moves b e') = (refl, refl)
answer_alike e x old finishes = (refl, refl)
answer_alike e x old is_long = (refl, refl)
answer_alike e x old is_bad = (refl, refl)

next_alike : (e : Encoder) (p : List ℕ) (old : ℕ → ℕ) (n : ℕ) → GoodEncoder e
    → let t : CalledOnce KeptEncoder = (encoder_by our_library old).next (record { words = encoder_words e; calls = n }) p in
    (t.answer ≡ (next_step e p).answer) × (t.encoder ≡ record { words = encoder_words (next_step e p).encoder; calls = suc n })
unfolding sgh_encoder_next
next_alike e p old n g =
    let a = answer_alike e (next_step e p) (old n) (next_keeps e p) in
    rw (words_back e g) (a.0, ap (λ (w : List ℕ). record { words = w; calls = suc n }) a.1)

-- an Encoder's CRC register keeps to its 16 bits where the payload is bytes

pub end_bytes_lem : (pad : ℕ) → pad ≤ 3 → AllBytes (end_of pad)
end_bytes_lem pad h = bytes_join (replicate pad 0x00 ++ esc_seq) _ (bytes_join (replicate pad 0x00) esc_seq (bytes_run pad 0x00 (omega arith)) (bytes_run 4 0x1b (omega arith))) (omega arith, (omega arith, tt))

looked_narrow : (n place reg : ℕ) (p : List ℕ) → AreBytes p → reg < 65536 → (looked n place reg p).encoder.crc < 65536
unfolding looked ended
looked_narrow n place reg p b r =
    cases (ltb place (length p)) (λ t. rw t (byte_fits reg (get_or p place 0) r (b place)))
    (λ t. rw t (register_narrow reg (end_of (missing place)) r (end_bytes_lem (missing place) (omega arith))))

step_narrow : (s : EncoderState) (place reg : ℕ) (p : List ℕ) → AreBytes p → reg < 65536 → (step_from s place reg p).encoder.crc < 65536
unfolding step_from ended
step_narrow (Init n) place reg p b r = cases (ltb n 8) (λ t. rw t r) (λ t. rw t (looked_narrow 0 place reg p b r))
step_narrow (LookingForEscape n) place reg p b r = cases (ltb n 4) (λ t. rw t (looked_narrow n place reg p b r)) (λ t. rw t (register_narrow reg esc_seq r (bytes_run 4 0x1b (omega arith))))
step_narrow (HandlingEscape n) place reg p b r = cases (ltb n 4) (λ t. rw t r) (λ t. rw t (looked_narrow 0 place reg p b r))
step_narrow (End z) place reg p b r = cases (last_end z) (λ t. rw t r) (λ t. rw t r)

next_narrow : (e : Encoder) (p : List ℕ) → AreBytes p → e.crc < 65536 → (next_step e p).encoder.crc < 65536
unfolding next_step
next_narrow e p b r =
    cases (leb (length p) limit) (λ t. cases (bad_encoder e (length p)) (λ u. rw (t, u) r) (λ u. rw (t, u) (step_narrow e.state e.place e.crc p b r)))
    (λ t. rw t r)

calls_alike : (i : ℕ) (e : Encoder) (p : List ℕ) (old : ℕ → ℕ) (n : ℕ) → AreBytes p → GoodEncoder e → calls_of (encoder_by our_library old) i (record { words = encoder_words e; calls = n }) p ≡ calls_of our_encoder i e p
unfolding calls_of
calls_alike zero e p old n b g = refl
calls_alike (suc i) e p old n b g =
    let t = next_alike e p old n g in
    rw (t.0, t.1) (ap (λ (l : List NextAnswer). (next_step e p).answer ∷ l) (calls_alike i (next_step e p).encoder p old (suc n) b (record { counts = next_counts e p g.counts; narrow = next_narrow e p b g.narrow })))

pub hears_encoder : HearsEncoder our_library
unfolding sgh_encoder_new fresh_encoder
hears_encoder p old n b = calls_alike n fresh_encoder p old 0 b (record { counts = refl; narrow = register_narrow start start_seq (omega arith) start_bytes })

-- ---- a decoder

hears_new : HearsNew our_library
unfolding sgh_decoder_new
hears_new =
    record {
      made = λ l capacity way long w small. rw (pack_good (new_record (in_way way capacity)) l (good_new way capacity w) small (omega (arith, long)));
      unknown = λ l capacity way u. rw (pack_bad (new_record (in_way way capacity)) l (unknown_bad (new_record (in_way way capacity)) u));
      large = λ l capacity way w over. rw (pack_over (new_record (in_way way capacity)) l (good_new way capacity w) over);
    }
  where
    good_new : (way capacity : ℕ) → KnownWay way → bad_decoder (new_record (in_way way capacity)) ≡ false
    good_new way capacity w = (reached_good (in_way way capacity) (new_record (in_way way capacity)) (known_is way w) by_new).0

-- an operation by its call is that over the bytes
record ActsAs (c : LentByCaller) (k : KeptByCaller) (m : List ℕ) (o : Op) : Type 0 where
  answer' : (act_by our_library c k m o).answer ≡ (act_over k.bytes m o).answer
  bytes' : (act_by our_library c k m o).decoder.bytes ≡ (act_over k.bytes m o).decoder
  memory' : (act_by our_library c k m o).memory ≡ (act_over k.bytes m o).memory

acts_as : (c : LentByCaller) (k : KeptByCaller) (m : List ℕ) (o : Op) → length (c.values k.calls) ≡ 4 → ActsAs c k m o
unfolding sgh_push_byte sgh_finalize sgh_reset
acts_as c k m (push b) four = record { answer' = answer_heard _ (c.values k.calls) _ four (push_bytes_hearable k.bytes m b); bytes' = refl; memory' = refl }
acts_as c k m finalize four = record { answer' = answer_heard _ (c.values k.calls) m four (finalize_bytes_hearable k.bytes m); bytes' = refl; memory' = refl }
acts_as c k m reset four = record { answer' = reset_heard k.bytes (c.values k.calls) four; bytes' = refl; memory' = refl }

-- so is a push of a slice
record SlicesAs (c : LentByCaller) (k : KeptByCaller) (m chunk : List ℕ) : Type 0 where
  answer' : (slice_by our_library c k m chunk).answer ≡ (slice_packed k.bytes m chunk).answer
  taken' : (slice_by our_library c k m chunk).taken ≡ (slice_packed k.bytes m chunk).taken
  bytes' : (slice_by our_library c k m chunk).decoder.bytes ≡ (slice_packed k.bytes m chunk).bytes
  memory' : (slice_by our_library c k m chunk).memory ≡ (slice_packed k.bytes m chunk).memory

slices_as : (c : LentByCaller) (k : KeptByCaller) (m chunk : List ℕ) → length (c.values k.calls) ≡ 4 → SlicesAs c k m chunk
unfolding sgh_push_slice
slices_as c k m chunk four = record { answer' = answer_heard _ (c.values k.calls) _ four (slice_bytes_hearable k.bytes m chunk); taken' = refl; bytes' = refl; memory' = refl }

record LeavesAs (x : LeftBehind KeptByCaller) (y : LeftBehind (List ℕ)) : Type 0 where
  bytes'' : x.decoder.bytes ≡ y.decoder
  memory'' : x.memory ≡ y.memory

-- one after another, too
module _ (c : LentByCaller) (four : (i : ℕ) → length (c.values i) ≡ 4) where
  uses_as : (us : List Use) (k : KeptByCaller) (m : List ℕ) → uses_say (slicer_by our_library c) k m us ≡ uses_say host_slicer k.bytes m us
  unfolding uses_say
  uses_as [] k m = refl
  uses_as (one_op o ∷ us) k m =
      let a = acts_as c k m o (four k.calls) in
      rw (a.answer', ← a.bytes', ← a.memory') (ap (λ (l : List HeardUse). heard_use (act_over k.bytes m o).answer 0 ∷ l) (uses_as us (act_by our_library c k m o).decoder (act_by our_library c k m o).memory))
  uses_as (slice chunk ∷ us) k m =
      let a = slices_as c k m chunk (four k.calls) in
      let t = slice_packed k.bytes m chunk in
      rw (a.answer', a.taken', ← a.bytes', ← a.memory') (ap (λ (l : List HeardUse). heard_use t.answer t.taken ∷ l) (uses_as us (slice_by our_library c k m chunk).decoder (slice_by our_library c k m chunk).memory))

  leaves_as : (us : List Use) (k : KeptByCaller) (m : List ℕ) → LeavesAs (uses_leave (slicer_by our_library c) k m us) (uses_leave host_slicer k.bytes m us)
  unfolding uses_leave
  leaves_as [] k m = record { bytes'' = refl; memory'' = refl }
  leaves_as (one_op o ∷ us) k m =
      let a = acts_as c k m o (four k.calls) in
      rw (← a.bytes', ← a.memory') (leaves_as us (act_by our_library c k m o).decoder (act_by our_library c k m o).memory)
  leaves_as (slice chunk ∷ us) k m =
      let a = slices_as c k m chunk (four k.calls) in
      rw (← a.bytes', ← a.memory') (leaves_as us (slice_by our_library c k m chunk).decoder (slice_by our_library c k m chunk).memory)

-- a payload is as long as the buffer's part that it is
part_long : (n : ℕ) (m : List ℕ) → take (length (take n m)) m ≡ take n m
part_long n m = ap (λ (l : List ℕ). take (length (take n m)) l) (sym (take-append-drop n m)) ∙ take-append_seam (take n m) (drop n m)

payload_part : (l m : List ℕ) → take (length (payload_packed l m)) m ≡ payload_packed l m
unfolding payload_packed payload_record
payload_part l m = by (unpack_of l)
  where
    by : (u : Unpacked) → take (length (payload_held u m)) m ≡ payload_held u m
    by (no_record n) = refl
    by (holds d) = cases (has_payload d m) (λ t. rw t (part_long d.fill m)) (λ t. rw t)

payload_as : (x : LeftBehind KeptByCaller) (k : LeftBehind (List ℕ)) (y : LeftBehind Decoder) → LeavesAs x k → StaysKept y k
    → HearsPayload (sgh_payload x.decoder.bytes x.memory) x y
unfolding sgh_payload
payload_as x k y a s =
    let q = kept_payload y k s in
    let p : payload_packed x.decoder.bytes x.memory ≡ payload_record y.decoder y.memory = rw (a.bytes'', a.memory'') q.0 in
    let n : ask_packed x.decoder.bytes x.memory ≡ ask_record y.decoder y.memory = rw (a.bytes'', a.memory'') q.1 in
    record { number' = ap answer_no n; length' = ap length p; bytes' = payload_part x.decoder.bytes x.memory ∙ p }

pub hears_decoder : HearsDecoder our_library
unfolding sgh_decoder_new
hears_decoder C c m us g p =
    let j : KeptByCaller = kept_by_caller (pack_into (new_record C) c.bytes).output 0 in
    let a = new_alike C c.bytes m us g.way g.capacity (omega (arith, g.bytes')) g.buffer p in
    let x = leaves_as c g.values' us j m in
    (uses_as c g.values' us j m ∙ a.says, x.memory'' ∙ a.stays.memories, payload_as _ _ _ x a.stays)

pub hears_ours : HearsOurs our_library
hears_ours = record { new = hears_new; decoder = hears_decoder; encode = hears_encode; encoder = hears_encoder; crc = λ l. refl; reader = hears_reader; writer = hears_writer; whole = hears_whole; index = hears_index; walk = hears_walk }

pub library_gives : ReaderGives (reader_by our_library)
library_gives s k = hears_reader s (record { place = 0; start = 0; pending = 0 }) k ∙ reader_gives s k
