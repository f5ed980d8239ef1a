-- claim: the library, as a caller in C hears it. What is read out of the numbers that its calls give and leave is what is said of a decoder, an encode, an Encoder, a reader, a writer, a reader of whole messages, an index, a walk and a watch by value, call by call. So what is claimed of new decoders in use stands for what a collector links.
use Rattle.std.specs.Prelude.{◌≡◌, Bool, cond, ◌||◌, List, [], ◌∷◌, ◌++◌, ℕ, suc, ◌+◌, ◌-◌, ◌*◌, ◌^◌, ◌/◌, ◌%◌, ◌≤◌, ◌<◌, ℤ, pos, negsuc, length, take, drop, get_or, eqb, ltb}
use Rattle.std.proofs.Math.Option.{Option, some, none}
use Rattle.refusals.specs.Numbers.{bad_state_no, wrong_buffer_no, discarded_bytes_no, invalid_esc_no, invalid_message_no, input_too_long_no, too_many_entries_no, limit}
use Rattle.refusals.specs.Read.{Read, got, refused}
use Rattle.refusals.specs.declared.Span.{Span}
use Rattle.tlf.specs.declared.Ty.{Ty}
use Rattle.tlf.specs.declared.Ty.TheVariants.{OctetString, Boolean, Integer, Unsigned}
use Rattle.crc_x25.specs.Crc.{crc_of}
use Rattle.frame.specs.Frame.{same}
use Rattle.encoder.specs.Encode.{after_encode, length_is, no_frame}
use Rattle.encoder.specs.Encoder.{byte, finished, no_byte}
use Rattle.decoder.specs.Record.{DecoderAnswer, nothing, payload, count, refusal, payload_record, ask_record}
use Rattle.decoder.specs.Run.{KnownWay, Op, push, finalize, reset}
use Rattle.decoder.specs.declared.Decoder.{Decoder}
use Rattle.decoder.specs.declared.Setup.{Setup}
use Rattle.value.specs.Values.{Status, Value, truth, bytes, signed, unsigned, list_time}
use Rattle.common.specs.Fields.{ListEntry}
use Rattle.message.specs.Messages.{MessageStart, ListEnd, Body, open_body, close_body, list_body}
use Rattle.writer.specs.Calls.{to, not_written, AfterWrite}
use Rattle.writer.specs.Answers.{after_write}
use Rattle.writer.specs.declared.Head.{Head}
use Rattle.writer.specs.declared.ListState.{ListState}
use Rattle.writer.specs.declared.ListState.TheVariants.{Entries, Ended}
use Rattle.writer.specs.declared.ListWriter.{ListWriter}
use Rattle.whole.specs.Whole.{EntryRow, flat, WholeSaid, whole_is, broken, refused_alone, Fair, rows_of}
use Rattle.whole.specs.Answers.{after_whole}
use Rattle.events.specs.Message.{Message}
use Rattle.written.specs.Calls.{Writer, our_writer}
use Rattle.one_call.specs.Readers.{WholeReader, our_whole_reader, RunsTo, RowIs, GoodWholeReader}
use Rattle.index.specs.Index.{IndexSaid, index_is, index_broken, index_refused, FoundSaid, found_row, found_none, look_refused}
use Rattle.index.specs.Answers.{after_index}
use Rattle.by_name.specs.Indexes.{Indexer, Finder, our_indexer, our_finder, GoodIndexer, FirstNamed, JudgesTables, entry_name}
use Rattle.walk.specs.Walk.{Item, end_mark, leaf, list_item, WalkSaid, walk_is, walk_broken, walk_refused}
use Rattle.elements.specs.Walkers.{Walker, our_walker, GoodWalker, LooksNoFurther, EndsWithMessages}
use Rattle.elements.specs.ItemReaders.{ItemReader, our_item_reader}
use Rattle.elements.specs.Sights.{SeesIn}
use Rattle.packed.specs.Layout.{packed_in}
use Rattle.causes.specs.Tools.{GoodTool}
use Rattle.causes.specs.Calls.{TellsEvery}
use Rattle.losses.specs.Loss.{LossSaid, lost_is, none_lost, loss_refused, LossAfter, loss_after, next_loss}
use Rattle.losses.specs.Watch.{WatchSaid, quietly, kept_over, lost_over, watch_refused, WatchAfter, watch_slice, EndAfter, watch_end}
use Rattle.losses.specs.declared.Cause.{Cause}
use Rattle.losses.specs.declared.Cause.TheVariants.{Noise, Unfinished, Hidden, Cut, UnknownEscape, NoRoom, Invalid}
use Rattle.losses.specs.declared.Loss.{Loss}
use Rattle.losses.specs.declared.Watch.{Watch}
use Rattle.streaming.specs.Next.{MessageEvent, start_event, entry_event, end_event, Said, event, no_event, failed, alone}
use Rattle.words.specs.Words.{event_words}
use Rattle.words.specs.Back.{word_at, span_in, field_in}
use Rattle.words.specs.Claims.{EventInTypes}
use Rattle.sartrogheo.specs.Calls.{good_no, payload_no, finished_no, not_found_no, lost_no, Reply, reply, answer_no, encode_len, sgh_decoder_new, sgh_push_byte, sgh_push_slice, sgh_payload, sgh_finalize, sgh_reset, sgh_encode}
use Rattle.sartrogheo.specs.Streams.{reader_no, sgh_encoder_new, sgh_encoder_next, sgh_next_event}
use Rattle.sartrogheo.specs.Writes.{writer_words, ended_after, head_fields, sgh_write_event}
use Rattle.sartrogheo.specs.Wholes.{message_words, sgh_read_message}
use Rattle.sartrogheo.specs.Indexes.{index_words, sgh_build_index, sgh_look_up}
use Rattle.sartrogheo.specs.Walks.{item_words, sgh_read_item, walk_words, sgh_walk}
use Rattle.sartrogheo.specs.Losses.{no_loss_words, loss_said_words, watch_words, watch_in, sight_words, sgh_next_loss, sgh_watch_slice, sgh_watch_end}
use Rattle.marks.specs.Decoders.{Gave, Machine, ours, LeftBehind}
use Rattle.marks.specs.Mark2.{PushesBytes, SoundBehind}
use Rattle.marks.specs.Mark3.{Encode, our_encode, Job, AllSuit, HeardBehindZeros}
use Rattle.marks.specs.Chunks.{GaveSlice, Slicer, our_slicer, Use, one_op, slice, uses_say, uses_leave}
use Rattle.marks.specs.Larger.{new_hears, new_leaves, calls_before_full, LosesNothingBySlices, new_does, LosesNothingCut}
use Rattle.marks.specs.Packed.{AreBytes}
use Rattle.marks.specs.Encoders.{Caller, our_encoder, calls_of}
use Rattle.marks.specs.Events.{Reader, Numbers, our_reader, says_at}

-- what each call gives of what it is lent
pub record Library : Type 0 where
  pub decoder_new : List ℕ → ℕ → ℕ → Reply  -- the decoder's bytes, capacity, way
  pub push_byte : List ℕ → List ℕ → ℕ → List ℕ → Reply  -- the decoder's bytes, the buffer, a byte, the values
  pub push_slice : List ℕ → List ℕ → List ℕ → List ℕ → Reply  -- the decoder's bytes, the buffer, a slice, the values
  pub payload_len : List ℕ → List ℕ → Reply  -- the decoder's bytes, the buffer
  pub finalizes : List ℕ → List ℕ → Reply  -- the decoder's bytes, the values
  pub resets : List ℕ → List ℕ → Reply  -- the same
  pub encodes : List ℕ → List ℕ → Reply  -- payload, output
  pub encoder_new : List ℕ
  pub encoder_next : List ℕ → List ℕ → ℕ → Reply  -- the Encoder's numbers, the payload, what the byte was
  pub crc : List ℕ → ℕ
  pub next_event : List ℕ → List ℕ → Reply  -- the input, the reader's numbers
  pub write_event : List ℕ → List ℕ → List ℕ → List ℕ → Reply  -- the output, the strings, the event's words, the writer's numbers
  pub read_message : List ℕ → ℕ → List ℕ → Reply  -- the input, a place, the table
  pub build_index : List ℕ → ℕ → List ℕ → Reply  -- the same
  pub finds_row : List ℕ → List ℕ → List ℕ → List ℕ → Reply  -- the input, the table, a name, the row
  pub read_item : List ℕ → ℕ → Reply  -- the input, a place
  pub walks_over : List ℕ → ℕ → Reply  -- the same
  pub loses_next : List ℕ → ℕ → List ℕ → ℕ → Reply  -- the recording, way, the buffer, behind how many bytes
  pub watches_slice : List ℕ → List ℕ → List ℕ → List ℕ → Reply  -- the decoder's bytes, the watch's numbers, the buffer, a slice
  pub watches_end : List ℕ → List ℕ → Reply  -- the decoder's bytes, the watch's numbers

-- ours, by the definitions that the contracts of the exports cite
abbrev pub our_library : Library
our_library =
    record {
      decoder_new = sgh_decoder_new;
      push_byte = sgh_push_byte;
      push_slice = sgh_push_slice;
      payload_len = sgh_payload;
      finalizes = sgh_finalize;
      resets = sgh_reset;
      encodes = sgh_encode;
      encoder_new = sgh_encoder_new;
      encoder_next = sgh_encoder_next;
      crc = crc_of;
      next_event = sgh_next_event;
      write_event = sgh_write_event;
      read_message = sgh_read_message;
      build_index = sgh_build_index;
      finds_row = sgh_look_up;
      read_item = sgh_read_item;
      walks_over = sgh_walk;
      loses_next = sgh_next_loss;
      watches_slice = sgh_watch_slice;
      watches_end = sgh_watch_end;
    }

-- what the k-th thing that may be written holds behind a call, counted from 0; the first number in it
abbrev pub lent_at : Reply → ℕ → List ℕ
lent_at r k = get_or r.lent k []

abbrev pub first_at : Reply → ℕ → ℕ
first_at r k = word_at (lent_at r k) 0

-- ---- a decoder

-- a new one, whatever stood in its bytes: 0 for a known way and a capacity up to the limit; an unknown way is 4, else a larger capacity 5, and the bytes stay
pub record HearsNew (L : Library) : Type 0 where
  pub made : (l : List ℕ) (capacity way : ℕ) → length l ≡ 28 → KnownWay way → capacity ≤ limit → (L.decoder_new l capacity way).number ≡ good_no
  pub unknown : (l : List ℕ) (capacity way : ℕ) → (KnownWay way → ⊥) → L.decoder_new l capacity way ≡ reply bad_state_no (l ∷ [])
  pub large : (l : List ℕ) (capacity way : ℕ) → KnownWay way → limit < capacity → L.decoder_new l capacity way ≡ reply wrong_buffer_no (l ∷ [])

-- how many values a refusal has
abbrev pub values_of : ℕ → ℕ
values_of number = cond (eqb number discarded_bytes_no) 1 (cond (eqb number invalid_esc_no) 4 (cond (eqb number invalid_message_no) 4 0))

-- the answer that a number says, with the values and the buffer as they are then: a payload is the buffer's first bytes
abbrev pub heard_answer : ℕ → List ℕ → List ℕ → DecoderAnswer
heard_answer number values m =
    cond (eqb number good_no) nothing
    (cond (eqb number payload_no) (payload (take (get_or values 0 0) m))
    (refusal number (take (values_of number) values)))

-- that of a reset
abbrev pub heard_reset : ℕ → List ℕ → DecoderAnswer
heard_reset number values = cond (eqb number good_no) (count (get_or values 0 0)) (refusal number [])

-- what a caller lends beside the buffer: 28 bytes for the decoder, as they were before it is made, and four values at each call, counted from 0. They may be new ones, or as the call before left them
pub record LentByCaller : Type 0 where
  pub bytes : List ℕ
  pub values : ℕ → List ℕ

-- what is kept between calls: the decoder's bytes; and how many calls were made
pub record KeptByCaller : Type 0 where
  pub bytes : List ℕ
  pub calls : ℕ

abbrev pub kept_by_caller : List ℕ → ℕ → KeptByCaller
kept_by_caller l n = record { bytes = l; calls = n }

-- an operation by its call; finalize and reset are lent no buffer
abbrev pub act_by : Library → LentByCaller → KeptByCaller → List ℕ → Op → Gave KeptByCaller
act_by L c k m (push b) =
    let r : Reply = L.push_byte k.bytes m b (c.values k.calls) in
    record { answer = heard_answer r.number (lent_at r 2) (lent_at r 1); decoder = kept_by_caller (lent_at r 0) (suc k.calls); memory = lent_at r 1 }
act_by L c k m finalize =
    let r : Reply = L.finalizes k.bytes (c.values k.calls) in
    record { answer = heard_answer r.number (lent_at r 1) m; decoder = kept_by_caller (lent_at r 0) (suc k.calls); memory = m }
act_by L c k m reset =
    let r : Reply = L.resets k.bytes (c.values k.calls) in
    record { answer = heard_reset r.number (lent_at r 1); decoder = kept_by_caller (lent_at r 0) (suc k.calls); memory = m }

-- a decoder by the library's calls
abbrev pub decoder_by : Library → LentByCaller → Machine KeptByCaller
decoder_by L c =
    record {
      new = λ C. kept_by_caller (lent_at (L.decoder_new c.bytes C.capacity C.way) 0) 0;
      act = act_by L c;
      payload_of = λ k m. take (first_at (L.payload_len k.bytes m) 0) m;
    }

abbrev pub slice_by : Library → LentByCaller → KeptByCaller → List ℕ → List ℕ → GaveSlice KeptByCaller
slice_by L c k m chunk =
    let r : Reply = L.push_slice k.bytes m chunk (c.values k.calls) in
    record { answer = heard_answer r.number (lent_at r 3) (lent_at r 1); taken = first_at r 2; decoder = kept_by_caller (lent_at r 0) (suc k.calls); memory = lent_at r 1 }

abbrev pub slicer_by : Library → LentByCaller → Slicer KeptByCaller
slicer_by L c = record { machine = decoder_by L c; push_slice = slice_by L c }

-- a push takes u8s
abbrev pub UsesBytes : List Use → Type 0
UsesBytes [] = Unit {0}
UsesBytes (one_op o ∷ us) = PushesBytes (o ∷ []) × UsesBytes us
UsesBytes (slice chunk ∷ us) = AreBytes chunk × UsesBytes us

-- how a caller begins: a decoder of either way and of a capacity that is no refusal, in 28 bytes, four values at each call, and a buffer of bytes, of any length
pub record CallerBegins (C : Setup) (c : LentByCaller) (m : List ℕ) : Type 0 where
  pub way : KnownWay C.way
  pub capacity : C.capacity ≤ limit
  pub bytes' : length c.bytes ≡ 28
  pub values' : (i : ℕ) → length (c.values i) ≡ 4
  pub buffer : AreBytes m

-- what sgh_payload says of the decoder and the buffer that are left: 0 or 16, and the payload's length, whose bytes are the buffer's first
pub record HearsPayload (r : Reply) (x : LeftBehind KeptByCaller) (y : LeftBehind Decoder) : Type 0 where
  pub number' : r.number ≡ answer_no (ask_record y.decoder y.memory)
  pub length' : first_at r 0 ≡ length (payload_record y.decoder y.memory)
  pub bytes' : take (first_at r 0) x.memory ≡ payload_record y.decoder y.memory

-- Any pushes, pushes of slices, finalize and reset calls on a new decoder, with one buffer: a caller hears the answers that our record gives, payloads with them, and of a slice how many bytes it took;
-- and behind them the buffer is the same, and so is what is said of the payload
abbrev pub HearsDecoder : Library → Type 0
HearsDecoder L =
    (C : Setup) (c : LentByCaller) (m : List ℕ) (us : List Use) → CallerBegins C c m → UsesBytes us
    → let M : Slicer KeptByCaller = slicer_by L c in
    let x : LeftBehind KeptByCaller = uses_leave M (M.machine.new C) m us in
    let y : LeftBehind Decoder = uses_leave our_slicer (ours.new C) m us in
    (uses_say M (M.machine.new C) m us ≡ uses_say our_slicer (ours.new C) m us) × (x.memory ≡ y.memory) × HearsPayload (L.payload_len x.decoder.bytes x.memory) x y

-- ---- frames

abbrev pub encode_by : Library → Encode
encode_by L p out =
    let r : Reply = L.encodes p out in
    after_encode (cond (eqb r.number good_no) (length_is (first_at r 1)) (no_frame r.number)) (lent_at r 0)

-- the frame's length is told too, 0 where there is none
abbrev pub HearsEncode : Library → Type 0
HearsEncode L = (p out : List ℕ) → (encode_by L p out ≡ our_encode p out) × (first_at (L.encodes p out) 1 ≡ encode_len (our_encode p out).answer)

-- what is kept of an Encoder between calls: its numbers; and how many calls were made
pub record KeptEncoder : Type 0 where
  pub words : List ℕ
  pub calls : ℕ

-- an Encoder by the library's calls; `old` is what the byte was before each
abbrev pub encoder_by : Library → (ℕ → ℕ) → Caller KeptEncoder
encoder_by L old =
    record {
      new = record { words = L.encoder_new; calls = 0 };
      next =
          λ e p.
          let r : Reply = L.encoder_next e.words p (old e.calls) in
          record { answer = cond (eqb r.number good_no) (byte (first_at r 1)) (cond (eqb r.number finished_no) finished (no_byte r.number)); encoder = record { words = lent_at r 0; calls = suc e.calls } };
    }

-- of any payload of bytes, too long or not, n calls on a new Encoder answer what n calls on our record do
abbrev pub HearsEncoder : Library → Type 0
HearsEncoder L = (p : List ℕ) (old : ℕ → ℕ) (n : ℕ) → AreBytes p → calls_of (encoder_by L old) n (encoder_by L old).new p ≡ calls_of our_encoder n our_encoder.new p

abbrev pub HearsCrc : Library → Type 0
HearsCrc L = (l : List ℕ) → L.crc l ≡ crc_of l

-- ---- messages

-- what stands in an event's words from a place on: a number in two's complement, a status, a value
abbrev pub signed_in : List ℕ → ℕ → ℤ
signed_in w k = cond (ltb (word_at w k) (2 ^ 63)) (pos (word_at w k)) (negsuc (2 ^ 64 - 1 - word_at w k))

abbrev pub status_in : List ℕ → ℕ → Status
status_in w k = record { width = word_at w k; number = word_at w (k + 1) }

abbrev pub value_in : List ℕ → ℕ → Value Span
value_in w k =
    cond (eqb (word_at w k) 1) (truth (eqb (word_at w (k + 2)) 1))
    (cond (eqb (word_at w k) 2) (bytes (span_in w (k + 3)))
    (cond (eqb (word_at w k) 3) (signed (word_at w (k + 1)) (signed_in w (k + 2)))
    (cond (eqb (word_at w k) 4) (unsigned (word_at w (k + 1)) (word_at w (k + 2))) (list_time (word_at w (k + 2))))))

abbrev pub body_in : List ℕ → Body Span
body_in w =
    cond (eqb (word_at w 5) 1)
    (open_body (record { codepage = field_in span_in w 6; client_id = field_in span_in w 9; req_file_id = span_in w 12; server_id = span_in w 14; ref_time = field_in word_at w 16; sml_version = field_in word_at w 18 }))
    (cond (eqb (word_at w 5) 2) (close_body (record { global_signature = field_in span_in w 6 }))
    (list_body (record { client_id = field_in span_in w 6; server_id = span_in w 9; list_name = field_in span_in w 11; act_sensor_time = field_in word_at w 14; num_vals = word_at w 16 })))

abbrev pub event_in : List ℕ → MessageEvent Span
event_in w =
    cond (eqb (word_at w 0) 1) (start_event (record { transaction_id = span_in w 1; group_no = word_at w 3; abort_on_error = word_at w 4; message_body = body_in w }))
    (cond (eqb (word_at w 0) 2) (end_event (record { list_signature = field_in span_in w 1; act_gateway_time = field_in word_at w 4 }))
    (entry_event (record {
      obj_name = span_in w 1;
      status = field_in status_in w 3;
      val_time = field_in word_at w 6;
      unit = field_in word_at w 8;
      scaler = field_in signed_in w 10;
      value = value_in w 12;
      value_signature = field_in span_in w 17;
    })))

-- what the number of a call says, and the event's words
abbrev pub said_by : ℕ → List ℕ → Said
said_by number w =
    cond (eqb number good_no) (event (event_in w))
    (cond (eqb number finished_no) no_event
    (cond (eqb (word_at w 0) 4) (failed (record { number = word_at w 1; kind = word_at w 2; place = word_at w 3 })) (alone (word_at w 1))))

-- that is heard where number and words are those of what they say, every kind, flag and unused word with them; all else is heard as a refusal that no reader gives
abbrev pub heard_event : ℕ → List ℕ → Said
heard_event number w =
    let x : Said = said_by number w in
    cond (eqb (reader_no x) number) (cond (same (event_words x) w) x (alone 0)) (alone 0)

-- a reader by the library's calls: three zeros are a new one
abbrev pub reader_by : Library → Reader (List ℕ) (List ℕ)
reader_by L =
    record {
      bytes = λ s. s;
      new = λ s. 0 ∷ 0 ∷ 0 ∷ [];
      next =
          λ s r.
          let a : Reply = L.next_event s r in
          record { said = heard_event a.number (lent_at a 1); reader = lent_at a 0 };
    }

abbrev pub three_of : Numbers → List ℕ
three_of n = n.place ∷ n.start ∷ n.pending ∷ []

-- of any input and from any three numbers on, call k says what our reader's says, every field of every event, every refusal with its place
abbrev pub HearsReader : Library → Type 0
HearsReader L = (s : List ℕ) (n : Numbers) (k : ℕ) → says_at (reader_by L) s (three_of n) k ≡ says_at our_reader s n k

-- ---- messages that are written

-- what a writer's four numbers have room for
abbrev pub InFourNumbers : ListState → Type 0
InFourNumbers (Entries left crc) = (left < 2 ^ 32) × (crc < 2 ^ 16)
InFourNumbers Ended = Unit {0}

-- an event by a writer's five calls; behind a whole message it is ended
abbrev pub message_by : Writer → List ℕ → ℕ → List ℕ → Head → Body Span → AfterWrite ListWriter
message_by W out at strings head (open_body b) = ended_after (W.opens out at strings head b)
message_by W out at strings head (close_body b) = ended_after (W.closes out at strings head b)
message_by W out at strings head (list_body b) = W.starts out at strings head b

abbrev pub event_by : Writer → List ℕ → ListWriter → List ℕ → MessageEvent Span → AfterWrite ListWriter
event_by W out w strings (start_event m) = message_by W out w.place strings (head_fields m) m.message_body
event_by W out w strings (entry_event e) = W.adds out w strings e
event_by W out w strings (end_event e) = W.ends out w strings e

-- the writer that its numbers say
abbrev pub writer_heard : List ℕ → ListWriter
writer_heard w = record { place = word_at w 0; state = cond (eqb (word_at w 1) 1) (Entries (word_at w 2) (word_at w 3)) Ended }

-- the output, and the writer behind what is written or the number of a refusal
abbrev pub heard_write : Reply → AfterWrite ListWriter
heard_write r = after_write (cond (eqb r.number good_no) (to (writer_heard (lent_at r 1))) (not_written r.number)) (lent_at r 0)

-- of any output and strings: any event within its types, from any writer on, is written as ours does, and the numbers behind it are exactly a writer's; words that are none's, and numbers that are no writer's, are 4; and what is refused leaves output and writer
pub record HearsWriter (L : Library) : Type 0 where
  pub writes : (out strings : List ℕ) (w : ListWriter) (e : MessageEvent Span) → InFourNumbers w.state → EventInTypes e → heard_write (L.write_event out strings (event_words (event e)) (writer_words w)) ≡ event_by our_writer out w strings e
  pub numbers : (out strings words w : List ℕ) → let r : Reply = L.write_event out strings words w in r.number ≡ good_no → lent_at r 1 ≡ writer_words (writer_heard (lent_at r 1))
  pub no_event_claim : (out strings words w : List ℕ) → ((e : MessageEvent Span) → EventInTypes e → words ≡ event_words (event e) → ⊥) → L.write_event out strings words w ≡ reply bad_state_no (out ∷ w ∷ [])
  pub no_writer : (out strings words : List ℕ) (place state left crc : ℕ) → let w : List ℕ = place ∷ state ∷ left ∷ crc ∷ [] in
      ((v : ListWriter) → InFourNumbers v.state → w ≡ writer_words v → ⊥) → L.write_event out strings words w ≡ reply bad_state_no (out ∷ w ∷ [])
  pub leaves : (out strings words w : List ℕ) → let r : Reply = L.write_event out strings words w in (r.number ≡ good_no → ⊥) → r ≡ reply r.number (out ∷ w ∷ [])

-- ---- whole messages

-- what the words of start and end say: a message, or why there is none
abbrev pub whole_heard : Said → Option (ListEnd Span) → ℕ → ℕ → WholeSaid
whole_heard (event (start_event m)) end rows next = whole_is m end rows next
whole_heard (event (entry_event e)) end rows next = refused_alone 0
whole_heard (event (end_event e)) end rows next = refused_alone 0
whole_heard no_event end rows next = refused_alone 0
whole_heard (failed f) end rows next = broken f
whole_heard (alone n) end rows next = refused_alone n

abbrev pub end_among : MessageEvent Span → Option (ListEnd Span)
end_among (start_event m) = none
end_among (entry_event e) = none
end_among (end_event e) = some e

abbrev pub end_heard : List ℕ → Option (ListEnd Span)
end_heard w = cond (eqb (word_at w 0) 0) none (end_among (event_in w))

-- a reader of whole messages by the library's call: its number, the 24 words of the start, the 24 of the end, rows and next place
abbrev pub whole_reader_by : Library → WholeReader
whole_reader_by L s at t =
    let r : Reply = L.read_message s at t in
    let w : List ℕ = lent_at r 1 in
    after_whole (whole_heard (heard_event r.number (take 24 w)) (end_heard (take 24 (drop 24 w))) (word_at w 48) (word_at w 49)) (lent_at r 0)

-- of any input, place and table what is heard, and what the table holds then, is what ours says; and all 50 words are those of what is heard
pub record HearsWhole (L : Library) : Type 0 where
  pub reads : (s : List ℕ) (at : ℕ) (t : List ℕ) → whole_reader_by L s at t ≡ our_whole_reader s at t
  pub words : (s : List ℕ) (at : ℕ) (t : List ℕ) → lent_at (L.read_message s at t) 1 ≡ message_words (whole_reader_by L s at t).answer

-- ---- an index

-- what the number and the five words say: 4, 9 and 20 stand at no place, every other refusal at one
abbrev pub index_heard : ℕ → List ℕ → IndexSaid
index_heard number w =
    cond (eqb number good_no) (index_is (word_at w 0) (word_at w 1))
    (cond (eqb number bad_state_no || (eqb number input_too_long_no || eqb number too_many_entries_no)) (index_refused number)
    (index_broken (record { number = number; kind = word_at w 3; place = word_at w 4 })))

abbrev pub indexer_by : Library → Indexer
indexer_by L s at t = let r : Reply = L.build_index s at t in after_index (index_heard r.number (lent_at r 1)) (lent_at r 0)

-- a row's four numbers, and what is told with them
abbrev pub row_heard : List ℕ → EntryRow
row_heard w = record { name = record { start = word_at w 0; len = word_at w 1 }; entry = record { start = word_at w 2; len = word_at w 3 } }

abbrev pub found_heard : ℕ → List ℕ → FoundSaid
found_heard number w = cond (eqb number good_no) (found_row (row_heard w)) (cond (eqb number not_found_no) found_none (look_refused number))

-- a lookup by the library's call, whatever stood in the row that is lent
abbrev pub finder_by : Library → List ℕ → Finder
finder_by L row s t name = let r : Reply = L.finds_row s t name row in found_heard r.number (lent_at r 0)

-- of any input, place and table what is heard, and what the table holds then, is what ours says; all five words are those of what is heard. Of any input, table and name what is found is what ours finds; a row that is found is four numbers, and else what is lent for it stays
pub record HearsIndex (L : Library) : Type 0 where
  pub builds : (s : List ℕ) (at : ℕ) (t : List ℕ) → indexer_by L s at t ≡ our_indexer s at t
  pub words : (s : List ℕ) (at : ℕ) (t : List ℕ) → lent_at (L.build_index s at t) 1 ≡ index_words (indexer_by L s at t).answer
  pub finds : (row s t name : List ℕ) → finder_by L row s t name ≡ our_finder s t name
  pub numbers : (row s t name : List ℕ) → let r : Reply = L.finds_row s t name row in r.number ≡ good_no → lent_at r 0 ≡ flat (row_heard (lent_at r 0) ∷ [])
  pub leaves : (row s t name : List ℕ) → let r : Reply = L.finds_row s t name row in (r.number ≡ good_no → ⊥) → r ≡ reply r.number (row ∷ [])

-- ---- any content

-- what the number and the five words say: 9 stands at no place, every other refusal at one
abbrev pub walk_heard : ℕ → List ℕ → WalkSaid
walk_heard number w =
    cond (eqb number good_no) (walk_is (word_at w 0) (word_at w 1))
    (cond (eqb number input_too_long_no) (walk_refused number)
    (walk_broken (record { number = number; kind = word_at w 3; place = word_at w 4 })))

abbrev pub walker_by : Library → Walker
walker_by L s at = let r : Reply = L.walks_over s at in walk_heard r.number (lent_at r 0)

-- what the number and the nine words say; a leaf is no list
abbrev pub ty_heard : ℕ → Ty
ty_heard n = cond (eqb n 0) OctetString (cond (eqb n 4) Boolean (cond (eqb n 5) Integer Unsigned))

abbrev pub item_in : List ℕ → Item
item_in w = cond (eqb (word_at w 0) 1) end_mark (cond (eqb (word_at w 0) 2) (leaf (ty_heard (word_at w 1)) (span_in w 2)) (list_item (word_at w 4)))

abbrev pub item_heard : ℕ → List ℕ → Read Item
item_heard number w = cond (eqb number good_no) (got (item_in w) (word_at w 5)) (refused (record { number = number; kind = word_at w 7; place = word_at w 8 }))

abbrev pub item_reader_by : Library → ItemReader
item_reader_by L s at = let r : Reply = L.read_item s at in item_heard r.number (lent_at r 0)

-- of any input and place what is heard is what ours says, and all that is written is the words of what is heard; of an input that is too long no item is read, and the answer is 9
pub record HearsWalk (L : Library) : Type 0 where
  pub walks : (s : List ℕ) (at : ℕ) → walker_by L s at ≡ our_walker s at
  pub words : (s : List ℕ) (at : ℕ) → let r : Reply = L.walks_over s at in r ≡ reply r.number (walk_words (walker_by L s at) ∷ [])
  pub items : (s : List ℕ) (at : ℕ) → length s ≤ limit → item_reader_by L s at ≡ our_item_reader s at
  pub long : (s : List ℕ) (at : ℕ) → limit < length s → item_reader_by L s at ≡ refused (record { number = input_too_long_no; kind = 0; place = 0 })
  pub item_words_claim : (s : List ℕ) (at : ℕ) → let r : Reply = L.read_item s at in r ≡ reply r.number (item_words (item_reader_by L s at) ∷ [])

-- ---- lost bytes

-- what the bits say: those of an end sequence are one cause
abbrev pub bit_in : ℕ → ℕ → Bool
bit_in bits bit = eqb (bits / bit % 2) 1

abbrev pub cause_heard : ℕ → Cause
cause_heard bits =
    cond (eqb bits 1) Noise (cond (eqb bits 2) Unfinished (cond (eqb bits 4) Hidden
    (cond (eqb bits 8) Cut (cond (eqb bits 16) UnknownEscape (cond (eqb bits 32) NoRoom (Invalid (bit_in bits 64) (bit_in bits 128) (bit_in bits 256)))))))

abbrev pub loss_heard : List ℕ → Loss
loss_heard w = record { cause = cause_heard (word_at w 0); first = word_at w 1; last = word_at w 2 }

-- what the number and the three words say
abbrev pub loss_said_heard : ℕ → List ℕ → LossSaid
loss_said_heard number w = cond (eqb number lost_no) (lost_is (loss_heard w)) (cond (eqb number finished_no) none_lost (loss_refused number))

abbrev pub sight_heard : ℕ → List ℕ → WatchSaid
sight_heard number w =
    cond (eqb number good_no) quietly
    (cond (eqb number payload_no) (kept_over (word_at w 1) (word_at w 2)) (cond (eqb number lost_no) (lost_over (loss_heard w)) (watch_refused number)))

abbrev pub next_loss_by : Library → List ℕ → ℕ → List ℕ → ℕ → LossAfter
next_loss_by L recording way m from = let r : Reply = L.loses_next recording way m from in loss_after (loss_said_heard r.number (lent_at r 1)) (lent_at r 0)

-- behind a call over bytes l the decoder that a watch leaves is packed in them, and the rest of the watch stands in its numbers
abbrev pub watch_left : Watch → List ℕ → List (List ℕ) → List (List ℕ)
watch_left w l others = packed_in w.decoder l ∷ watch_words w ∷ others

pub record SliceHeard (r : Reply) (l : List ℕ) (a : WatchAfter) : Type 0 where
  pub says : sight_heard r.number (lent_at r 4) ≡ a.seen
  pub leaves : r.lent ≡ watch_left a.watch l (a.memory ∷ (a.taken ∷ []) ∷ sight_words a.seen ∷ [])

pub record EndHeard (r : Reply) (l : List ℕ) (a : EndAfter) : Type 0 where
  pub says : loss_said_heard r.number (lent_at r 2) ≡ a.told
  pub leaves : r.lent ≡ watch_left a.watch l (loss_said_words a.told ∷ [])

-- of any recording, way, buffer and place the next loss that is heard is ours, and all three words are those of what is heard. Of any watch that bytes and numbers hold a slice and the end are heard as ours, and leave as much; bytes and numbers that hold none are 4. What is refused, with 4 or 5, leaves the decoder, the watch's four numbers and the buffer as they were, and takes no byte
pub record HearsLosses (L : Library) : Type 0 where
  pub next : (recording : List ℕ) (way : ℕ) (m : List ℕ) (from : ℕ) → next_loss_by L recording way m from ≡ next_loss recording way m from
  pub words : (recording : List ℕ) (way : ℕ) (m : List ℕ) (from : ℕ)
      → let r : Reply = L.loses_next recording way m from in
      r ≡ reply r.number (lent_at r 0 ∷ loss_said_words (next_loss_by L recording way m from).said ∷ [])
  pub slices : (w : Watch) (l v m chunk : List ℕ) → watch_in l v ≡ some w → SliceHeard (L.watches_slice l v m chunk) l (watch_slice w m chunk)
  pub no_watch : (l v m chunk : List ℕ) → watch_in l v ≡ none → L.watches_slice l v m chunk ≡ reply bad_state_no (l ∷ v ∷ m ∷ (0 ∷ []) ∷ no_loss_words ∷ [])
  pub ends : (w : Watch) (l v : List ℕ) → watch_in l v ≡ some w → EndHeard (L.watches_end l v) l (watch_end w)
  pub no_end_claim : (l v : List ℕ) → watch_in l v ≡ none → L.watches_end l v ≡ reply bad_state_no (l ∷ v ∷ no_loss_words ∷ [])
  pub slice_stays : (l v m chunk : List ℕ) → length v ≡ 4 → let r : Reply = L.watches_slice l v m chunk in 1 ≤ r.number → r.number ≤ wrong_buffer_no → r.lent ≡ l ∷ v ∷ m ∷ (0 ∷ []) ∷ no_loss_words ∷ []
  pub end_stays : (l v : List ℕ) → length v ≡ 4 → let r : Reply = L.watches_end l v in 1 ≤ r.number → r.number ≤ wrong_buffer_no → r.lent ≡ l ∷ v ∷ no_loss_words ∷ []

pub record HearsOurs (L : Library) : Type 0 where
  pub new : HearsNew L
  pub decoder : HearsDecoder L
  pub encode : HearsEncode L
  pub encoder : HearsEncoder L
  pub crc : HearsCrc L
  pub reader : HearsReader L
  pub writer : HearsWriter L
  pub whole : HearsWhole L
  pub index : HearsIndex L
  pub walk : HearsWalk L

-- ---- the marks, of what is linked

-- each entry of a message is heard again at its row, by the call for the next event: a reader at the row's place with three pending, of which the first is an entry
abbrev pub EntriesHeard : Library → List ℕ → List EntryRow → List (ListEntry Span) → Type 0
EntriesHeard L s [] [] = Unit {0}
EntriesHeard L s (r ∷ rs) (e ∷ es) =
    let place : ℕ = r.entry.start in
    (((reader_by L).next s (place ∷ place ∷ 3 ∷ [])).said ≡ event (entry_event e)) × EntriesHeard L s rs es
EntriesHeard L s [] (e ∷ es) = ⊥
EntriesHeard L s (r ∷ rs) [] = ⊥

pub record RowsHeard (L : Library) (s : List ℕ) (at next : ℕ) (rows : List EntryRow) : Type 0 where
  pub whole : Message Span
  pub runs : RunsTo s at next whole
  pub entries : EntriesHeard L s rows whole.content.entries

-- each payload is made of bytes
abbrev pub JobsOfBytes : List Job → Type 0
JobsOfBytes [] = Unit {0}
JobsOfBytes (j ∷ js) = AreBytes j.payload × JobsOfBytes js

-- what sgh_payload says behind a caller's uses of a new decoder
abbrev pub asked_by : Library → Setup → LentByCaller → List ℕ → List Use → Reply
asked_by L C c m us =
    let x : LeftBehind KeptByCaller = new_leaves (slicer_by L c) C m us in
    L.payload_len x.decoder.bytes x.memory

-- a larger buffer takes nothing away: up to the smaller one's first OutOfMemory all calls answer alike, sgh_payload with them
pub record LosesNothingBy (L : Library) (C D : Setup) (c c' : LentByCaller) (m n : List ℕ) (us : List Use) : Type 0 where
  pub by_slices_claim : LosesNothingBySlices (slicer_by L c) (slicer_by L c') C D m n us
  pub asked : calls_before_full (new_hears (slicer_by L c) C m us) ≡ new_hears (slicer_by L c) C m us
      → ((asked_by L D c' n us).number ≡ (asked_by L C c m us).number) × (first_at (asked_by L D c' n us) 0 ≡ first_at (asked_by L C c m us) 0)

-- two decoders of one way, the second at least as large as the first, each with the buffer of its capacity's length
pub record CallersBegin (C D : Setup) (c c' : LentByCaller) (m n : List ℕ) : Type 0 where
  pub smaller : CallerBegins C c m
  pub larger : CallerBegins D c' n
  pub long : length m ≡ C.capacity
  pub long' : length n ≡ D.capacity
  pub ways : C.way ≡ D.way
  pub sizes : C.capacity ≤ D.capacity

-- mark 2's soundness, and mark 3 with the library's own encode, both by single pushes; what a slice says is what single pushes say (`HearsDecoder`, and `Chunks` of ours). A larger buffer takes nothing away, whatever each caller lends beside it, given the same slices or slices of its own. A whole message is read in one call as a good reader does, and its entries are heard at their rows. An index is built as a good one is, any table is judged, and the first entry with a name is found and heard at its row. A walk over any content is a good one, looks no further than the element and ends where a message does; and who goes from item to item sees every element
pub record MarksBy (L : Library) : Type 0 where
  pub soundness : (C : Setup) (c : LentByCaller) (m : List ℕ) → CallerBegins C c m
      → ((decoder_by L c).payload_of ((decoder_by L c).new C) m ≡ []) × ((os : List Op) (o : Op) → PushesBytes (os ++ o ∷ []) → SoundBehind (decoder_by L c) C m os o)
  pub mark3 : (C : Setup) (c : LentByCaller) (m : List ℕ) → CallerBegins C c m → length m ≡ C.capacity
      → (before : List Op) (j : Job) (js : List Job) → PushesBytes before → JobsOfBytes (j ∷ js) → AllSuit C (j ∷ js) → HeardBehindZeros (decoder_by L c) (encode_by L) C m before j js
  pub larger : (C D : Setup) (c c' : LentByCaller) (m n : List ℕ) → CallersBegin C D c c' m n → (us : List Use) → UsesBytes us → LosesNothingBy L C D c c' m n us
  pub larger_cut : (C D : Setup) (c c' : LentByCaller) (m n : List ℕ) → CallersBegin C D c c' m n → (us us' : List Use) → UsesBytes us → UsesBytes us'
      → new_does (slicer_by L c) C m us ≡ new_does (slicer_by L c') D n us' → LosesNothingCut (slicer_by L c) (slicer_by L c') C D m n us us'
  pub whole : GoodWholeReader (whole_reader_by L)
  pub rows : (s : List ℕ) (at : ℕ) (t : List ℕ) (start : MessageStart Span) (end : Option (ListEnd Span)) (rows next : ℕ) → Fair s at → (whole_reader_by L s at t).answer ≡ whole_is start end rows next
      → RowsHeard L s at next (rows_of rows (whole_reader_by L s at t).table)
  pub index : GoodIndexer (indexer_by L)
  pub lookup : (row : List ℕ) → JudgesTables (finder_by L row)
  pub finds : (row s : List ℕ) (at : ℕ) (t : List ℕ) (next : ℕ) (m : Message Span) → Fair s at → RunsTo s at next m → (rows p : ℕ) → (indexer_by L s at t).answer ≡ index_is rows p
      → (name : List ℕ) → FirstNamed (entry_name s) (λ r e. RowIs s r e × EntriesHeard L s (r ∷ []) (e ∷ [])) name m.content.entries (finder_by L row s (take (4 * rows) (indexer_by L s at t).table) name)
  pub walk : GoodWalker (walker_by L)
  pub walk_looks : LooksNoFurther (walker_by L)
  pub walk_ends : EndsWithMessages (walker_by L)
  pub sees : (s : List ℕ) → length s ≤ limit → SeesIn (item_reader_by L) s

-- who hears the losses as ours has a good tool, which tells each of them
pub record LossesBy (L : Library) : Type 0 where
  pub losses : GoodTool (next_loss_by L)
  pub losses_all : TellsEvery (next_loss_by L)
