-- check: fakes, those of document 01 and others that a claim must stop, each a small decoder, encoder or reader of messages, and which claim or row of the bench sheet is false of it.
use Rattle.std.specs.Prelude.{Bool, true, false, cond, not, ◌&&◌, ◌≡◌, List, [], ◌∷◌, map, ℕ, suc, ◌+◌, length, take, replicate, eqb, ltb}
use Rattle.refusals.specs.Numbers.{payload_too_long_no, bad_state_no, invalid_esc_no}
use Rattle.search.specs.Found.{NoneWhole}
use Rattle.encoder.specs.Encode.{encode_to, length_is, after_encode}
use Rattle.encoder.specs.Encode as E
use Rattle.encoder.specs.Encoder.{finished}
use Rattle.decoder.specs.Push.{first_way, second_way, sized, begun}
use Rattle.decoder.specs.Record.{DecoderAnswer, nothing, payload, count, refusal, setup, record_with, record_of, bad_decoder, wrong_buffer, has_payload, payload_record}
use Rattle.decoder.specs.Run.{Op, push, finalize, reset}
use Rattle.decoder.specs.declared.DecodeState.{DecodeState}
use Rattle.decoder.specs.declared.DecodeState.TheVariants.{LookingForMessageStart, ParsingNormal, ParsingEscChars, ParsingEscPayload, Done}
use Rattle.decoder.specs.declared.Decoder.{Decoder}
use Rattle.streaming.specs.Next.{Said, event, start_event, entry_event, end_event, no_event, failed, alone}
use Rattle.events.specs.Telling.{is_refused}
use Rattle.marks.specs.Decoders.{Gave, Machine, ours, behind_of}
use Rattle.marks.specs.Mark2.{Soundness, Completeness, OurSearch}
use Rattle.marks.specs.Mark3.{Encode, Mark3}
use Rattle.marks.specs.Hides.{Hides}
use Rattle.marks.specs.Chunks.{GaveSlice, Slicer, our_slicer, Chunks}
use Rattle.marks.specs.Second.{Begins, SearchesAgain, HearsBehindNoise, OurSeeks, OurBegun}
use Rattle.marks.specs.Ways.{our_way, KeepsWay, RefusesUnknown}
use Rattle.marks.specs.Encoders.{Caller, our_encoder, SameBytes}
use Rattle.marks.specs.Events.{Told, Reader, Numbers, our_reader, ReaderGives, GoesOn, reader_with, ListsEntries, SaysWhere, CallSaysWhere, TenAgain}
use Rattle.marks.specs.Bench.{Holds, payload1, frame1, b1, b2, b3, b6}

-- ours, but for what it answers; what it hands back is by the definition that payload's contract cites
abbrev pub retold : (DecoderAnswer → DecoderAnswer) → Machine Decoder
retold f =
    record {
      new = ours.new;
      act = λ d m o. record { answer = f (ours.act d m o).answer; decoder = (ours.act d m o).decoder; memory = (ours.act d m o).memory };
      payload_of = payload_record;
    }

-- refuses everything, as if every record were a bad one (4)
abbrev pub refuses_all : Machine Decoder
refuses_all = record { new = ours.new; act = λ d m o. record { answer = refusal bad_state_no []; decoder = d; memory = m }; payload_of = λ d m. [] }

-- four start bytes are matched
abbrev pub is_four : DecodeState → Bool
is_four (LookingForMessageStart n noise) = eqb n 4
is_four ParsingNormal = false
is_four (ParsingEscChars n) = false
is_four (ParsingEscPayload n) = false
is_four Done = false

-- what it answers: at each payload the one byte 2a
abbrev pub constantly : DecoderAnswer → DecoderAnswer
constantly nothing = nothing
constantly (payload bytes) = payload (0x2a ∷ [])
constantly (count k) = count k
constantly (refusal k values) = refusal k values

-- one constant payload
abbrev pub constant : Machine Decoder
constant = retold constantly

-- what it gives: of a push nothing, of finalize and reset what ours does
abbrev pub idly : Decoder → List ℕ → Op → Gave Decoder
idly d m (push b) = record { answer = nothing; decoder = d; memory = m }
idly d m finalize = ours.act d m finalize
idly d m reset = ours.act d m reset

-- a push that does nothing
abbrev pub idle : Machine Decoder
idle = record { new = ours.new; act = idly; payload_of = ours.payload_of }

-- what it answers: a refusal with one number, and only DiscardedBytes has one, says one more
abbrev pub inventing : DecoderAnswer → DecoderAnswer
inventing nothing = nothing
inventing (payload bytes) = payload bytes
inventing (count k) = count k
inventing (refusal k []) = refusal k []
inventing (refusal k (n ∷ [])) = refusal k (suc n ∷ [])
inventing (refusal k (n ∷ more ∷ values)) = refusal k (n ∷ more ∷ values)

-- an invented discard count
abbrev pub invents : Machine Decoder
invents = retold inventing

-- what it keeps: a decoder, and how many payloads it gave
pub record Spent : Type 0 where
  pub decoder : Decoder
  pub spent : ℕ

-- its answer: once it gave a payload, every later one is empty
abbrev pub emptied : ℕ → DecoderAnswer → DecoderAnswer
emptied n nothing = nothing
emptied n (payload bytes) = payload (cond (eqb n 0) bytes [])
emptied n (count k) = count k
emptied n (refusal k values) = refusal k values

-- how many it gave, with this answer
abbrev pub spends : ℕ → DecoderAnswer → ℕ
spends n nothing = n
spends n (payload bytes) = suc n
spends n (count k) = n
spends n (refusal k values) = n

-- right for the first frame, what it hands back included, and empty afterwards
abbrev pub once : Machine Spent
once =
    record {
      new = λ C. record { decoder = ours.new C; spent = 0 };
      act = λ d m o.
          let a = ours.act d.decoder m o in
          record { answer = emptied d.spent a.answer; decoder = record { decoder = a.decoder; spent = spends d.spent a.answer }; memory = a.memory };
      payload_of = λ d m. cond (ltb d.spent 2) (ours.payload_of d.decoder m) [];
    }

-- what it gives at the last byte of B1's frame, its first
abbrev pub first_once : Gave Spent
first_once = behind_of once (once.new (sized 8)) (replicate 8 0x00) (map push (take 19 frame1)) (push 0x7b)

-- ours, but where no payload stands it hands back the byte 2a
abbrev pub stale : Machine Decoder
stale = record { new = ours.new; act = ours.act; payload_of = λ d m. cond (has_payload d m) (ours.payload_of d m) (0x2a ∷ []) }

-- what it gives: of a push the payload 2a, of finalize nothing, of reset 0
abbrev pub hastily : Bool → List ℕ → Op → Gave Bool
hastily d m (push b) = record { answer = payload (0x2a ∷ []); decoder = true; memory = m }
hastily d m finalize = record { answer = nothing; decoder = false; memory = m }
hastily d m reset = record { answer = count 0; decoder = false; memory = m }

-- hands out a payload at once, and hands back what it said
abbrev pub hasty : Machine Bool
hasty = record { new = λ C. false; act = hastily; payload_of = λ d m. cond d (0x2a ∷ []) [] }

-- what it gives: a fifth 1b at the start is passed over, as if it had not come
abbrev pub forgivingly : Decoder → List ℕ → Op → Gave Decoder
forgivingly d m (push b) =
    cond (eqb b 0x1b && is_four d.state && not (bad_decoder d) && not (wrong_buffer d.capacity (length m)))
    (record { answer = nothing; decoder = d; memory = m })
    (ours.act d m (push b))
forgivingly d m finalize = ours.act d m finalize
forgivingly d m reset = ours.act d m reset

-- behind a stray 1b it finds the frame
abbrev pub forgiving : Machine Decoder
forgiving = record { new = ours.new; act = forgivingly; payload_of = ours.payload_of }

-- makes every decoder in the first way
abbrev pub first_only : Machine Decoder
first_only = record { new = λ C. ours.new (sized C.capacity); act = ours.act; payload_of = ours.payload_of }

-- what it answers: the count of DiscardedBytes, and only that has one number, with the start sequence's eight bytes
abbrev pub with_eight : DecoderAnswer → DecoderAnswer
with_eight nothing = nothing
with_eight (payload bytes) = payload bytes
with_eight (count k) = count k
with_eight (refusal k []) = refusal k []
with_eight (refusal k (n ∷ [])) = refusal k ((n + 8) ∷ [])
with_eight (refusal k (n ∷ more ∷ values)) = refusal k (n ∷ more ∷ values)

abbrev pub counts_eight : Machine Decoder
counts_eight = retold with_eight

-- what it leaves: behind an unknown escape (7) a frame, as if one had begun
abbrev pub inside_still : DecoderAnswer → Decoder → Decoder
inside_still nothing d = d
inside_still (payload bytes) d = d
inside_still (count k) d = d
inside_still (refusal k values) d = cond (eqb k invalid_esc_no) (record_of (setup d) begun) d

-- searches for no start behind an unknown escape
abbrev pub deaf : Machine Decoder
deaf =
    record {
      new = ours.new;
      act = λ d m o.
          let a = ours.act d m o in
          record { answer = a.answer; decoder = inside_still a.answer a.decoder; memory = a.memory };
      payload_of = ours.payload_of;
    }

-- the record, in the first way
abbrev pub as_first : Decoder → Decoder
as_first d = record_with (sized d.capacity) d.fill d.raw_msg_len d.crc d.crc_idx d.state

-- what it gives: behind reset it is in the first way
abbrev pub forgetting : Decoder → List ℕ → Op → Gave Decoder
forgetting d m (push b) = ours.act d m (push b)
forgetting d m finalize = ours.act d m finalize
forgetting d m reset = ours.act (as_first d) m reset

-- forgets its way at reset
abbrev pub forgets_way : Slicer Decoder
forgets_way = record { machine = record { new = ours.new; act = forgetting; payload_of = ours.payload_of }; push_slice = our_slicer.push_slice }

-- serves a decoder of any way as one of the first
abbrev pub serves_any_way : Slicer Decoder
serves_any_way = record { machine = record { new = ours.new; act = λ d m o. ours.act (as_first d) m o; payload_of = ours.payload_of }; push_slice = our_slicer.push_slice }

-- ours by single bytes; a slice is taken to its end, and only its last byte's answer is told
unfoldable pub last_of : Decoder → List ℕ → DecoderAnswer → List ℕ → ℕ → GaveSlice Decoder
last_of d m a [] n = record { answer = a; taken = n; decoder = d; memory = m }
last_of d m a (b ∷ bytes) n =
    let g : Gave Decoder = ours.act d m (push b) in
    last_of g.decoder g.memory g.answer bytes (suc n)

abbrev pub swallows : Slicer Decoder
swallows = record { machine = ours; push_slice = λ d m bytes. last_of d m nothing bytes 0 }

-- what it keeps: a decoder, and whether its payload is withheld
pub record Withheld : Type 0 where
  pub decoder : Decoder
  pub hidden : Bool

-- ours, but where a slice stops before its end, what is handed back is empty until the next push
abbrev pub withholds : Slicer Withheld
withholds =
    record {
      machine = record {
        new = λ C. record { decoder = ours.new C; hidden = false };
        act = λ d m o.
            let a = ours.act d.decoder m o in
            record { answer = a.answer; decoder = record { decoder = a.decoder; hidden = false }; memory = a.memory };
        payload_of = λ d m. cond d.hidden [] (ours.payload_of d.decoder m);
      };
      push_slice = λ d m bytes.
          let t = our_slicer.push_slice d.decoder m bytes in
          record { answer = t.answer; taken = t.taken; decoder = record { decoder = t.decoder; hidden = ltb t.taken (length bytes) }; memory = t.memory };
    }

-- ours by single bytes; of a slice it takes none
abbrev pub takes_none : Slicer Decoder
takes_none = record { machine = ours; push_slice = λ d m bytes. record { answer = nothing; taken = 0; decoder = d; memory = m } }

-- an encode that does nothing and says that it wrote nothing
abbrev pub writes_nothing : Encode
writes_nothing P output = after_encode (length_is 0) output

-- an encode that refuses every payload, as if it were too long (1)
abbrev pub refuses_to_encode : Encode
refuses_to_encode P output = after_encode (E.no_frame payload_too_long_no) output

-- an Encoder that does nothing: finished at once; what it keeps never matters
abbrev pub finished_at_once : Caller Bool
finished_at_once = record { new = true; next = λ e P. record { answer = finished; encoder = e } }

-- ours, but for what it says
abbrev pub resaid : (Said → Said) → Reader (List ℕ) Numbers
resaid f =
    record {
      bytes = our_reader.bytes;
      new = our_reader.new;
      next = λ s r. record { said = f (our_reader.next s r).said; reader = (our_reader.next s r).reader };
    }

-- a reader without events
abbrev pub without_events : Reader (List ℕ) Numbers
without_events = resaid (λ x. no_event)

-- what it says: no event for each entry
abbrev pub entryless : Said → Said
entryless (event (start_event m)) = event (start_event m)
entryless (event (entry_event e)) = no_event
entryless (event (end_event e)) = event (end_event e)
entryless no_event = no_event
entryless (failed f) = failed f
entryless (alone n) = alone n

-- a list start and no entries
abbrev pub no_entries : Reader (List ℕ) Numbers
no_entries = resaid entryless

-- what it says: no event where ours refuses the numbers
abbrev pub shrugging : Said → Said
shrugging (event e) = event e
shrugging no_event = no_event
shrugging (failed f) = failed f
shrugging (alone n) = cond (eqb n bad_state_no) no_event (alone n)

-- a reader that shrugs at numbers that no call leaves
abbrev pub shrugs : Reader (List ℕ) Numbers
shrugs = resaid shrugging

-- a reader that forgets what is pending: wrong of a new reader's later calls too
abbrev pub forgetful : Reader (List ℕ) Numbers
forgetful =
    record {
      bytes = our_reader.bytes;
      new = our_reader.new;
      next = λ s r. our_reader.next s (record { place = r.place; start = r.start; pending = 0 });
    }

-- what it says: a refusal named at p
abbrev pub named_at : ℕ → Said → Said
named_at p (event e) = event e
named_at p no_event = no_event
named_at p (failed f) = failed (record { number = f.number; kind = f.kind; place = p })
named_at p (alone n) = alone n

-- a reader that names every refusal at its message's first byte
abbrev pub blames_the_message : Reader (List ℕ) Numbers
blames_the_message =
    record {
      bytes = our_reader.bytes;
      new = our_reader.new;
      next = λ s r.
          let t = our_reader.next s r in
          record { said = named_at t.reader.start t.said; reader = t.reader };
    }

-- where a refused call leaves the numbers: unchanged
abbrev pub not_moved : Numbers → Told Numbers → Numbers
not_moved r t = cond (is_refused t.said) r t.reader

-- a reader that stays where it was refused, and says that refusal again
abbrev pub says_it_again : Reader (List ℕ) Numbers
says_it_again =
    record {
      bytes = our_reader.bytes;
      new = our_reader.new;
      next = λ s r.
          let t = our_reader.next s r in
          record { said = t.said; reader = not_moved r t };
    }

-- and what is false of ours: that in the second way a stray 1b hides every frame (it hides none, `HearsBehindNoise`), and that a start sequence in the noise is harmless
pub record NotOurs : Type 0 where
  pub hides_second : Hides second_way ours OurSearch → ⊥
  pub hears_anywhere : HearsBehindNoise (λ l. Unit {0}) ours encode_to OurSeeks → ⊥

-- each of the fakes falls: a row of the bench sheet or a mark that is false of it. The one that is right for its first frame has row B3, and hands that payload back
pub record Fall : Type 0 where
  pub refuses_b3 : Holds refuses_all encode_to b3 → ⊥
  pub refuses_mark3 : Mark3 refuses_all encode_to → ⊥
  pub refuses_b1 : Holds ours refuses_to_encode b1 → ⊥
  pub refuses_b2 : Holds ours refuses_to_encode b2 → ⊥
  pub constant_mark2 : Soundness constant → ⊥
  pub stale_mark2 : Soundness stale → ⊥
  pub hasty_mark2 : Soundness hasty → ⊥
  pub constant_mark3 : Mark3 constant encode_to → ⊥
  pub idle_mark2 : Completeness idle OurSearch → ⊥
  pub idle_mark3 : Mark3 idle encode_to → ⊥
  pub writes_nothing_b1 : Holds ours writes_nothing b1 → ⊥
  pub writes_nothing_mark3 : Mark3 ours writes_nothing → ⊥
  pub writes_nothing_bytes : SameBytes our_encoder writes_nothing → ⊥
  pub finished_at_once_claim : SameBytes finished_at_once encode_to → ⊥
  pub once_b3 : Holds once encode_to b3
  pub once_first : once.payload_of first_once.decoder first_once.memory ≡ payload1
  pub once_mark3 : Mark3 once encode_to → ⊥
  pub forgiving_hides : Hides first_way forgiving OurSearch → ⊥
  pub first_only_begins : Begins first_only OurSeeks OurBegun → ⊥
  pub first_only_hears : HearsBehindNoise NoneWhole first_only encode_to OurSeeks → ⊥
  pub counts_eight_begins : Begins counts_eight OurSeeks OurBegun → ⊥
  pub deaf_again : SearchesAgain deaf OurSeeks → ⊥
  pub forgets_keeps : KeepsWay forgets_way our_way → ⊥
  pub serves_any_refuses : RefusesUnknown serves_any_way our_way → ⊥
  pub swallows_chunks : Chunks swallows → ⊥
  pub takes_none_chunks : Chunks takes_none → ⊥
  pub withholds_chunks : Chunks withholds → ⊥
  pub invents_b6 : Holds invents encode_to b6 → ⊥
  pub invents_mark3 : Mark3 invents encode_to → ⊥
  pub silent_events : ReaderGives without_events → ⊥
  pub no_entries_events : ReaderGives no_entries → ⊥
  pub no_entries_lists : ListsEntries no_entries → ⊥
  pub shrugs_goes_on : GoesOn shrugs reader_with → ⊥
  pub forgetful_goes_on : GoesOn forgetful reader_with → ⊥
  pub blames_where : SaysWhere blames_the_message → ⊥
  pub blames_call_where : CallSaysWhere blames_the_message reader_with → ⊥
  pub again_where : SaysWhere says_it_again → ⊥
  pub again_ten : TenAgain says_it_again reader_with → ⊥
