-- check: what the functions for counting answer, by the definitions that the contracts of push, encode, Encoder, reader and CRC cite.
use Rattle.std.specs.Prelude.{Bool, true, false, cond, List, [], ◌∷◌, ℕ, zero, suc, ◌+◌, length, leb}
use Rattle.frame.specs.Frame.{frame_of}
use Rattle.decoder.specs.Record as D
use Rattle.decoder.specs.Push.{in_way}
use Rattle.decoder.specs.Record.{nothing, payload, count, After, push_record, new_record}
use Rattle.decoder.specs.declared.Decoder.{Decoder}
use Rattle.packed.specs.Packed.{slice_packed}
use Rattle.encoder.specs.Encode as E
use Rattle.refusals.specs.Numbers.{limit}
use Rattle.encoder.specs.Encode.{length_is, encode_to}
use Rattle.crc_x25.specs.Crc.{start}
use Rattle.refusals.specs.Read.{Read, got, refused}
use Rattle.refusals.specs.declared.Span.{Span}
use Rattle.common.specs.Fields.{ListEntry}
use Rattle.writer.specs.Calls.{WriteOutcome, to, not_written, entry_to}
use Rattle.writer.specs.declared.ListState.TheVariants.{Entries}
use Rattle.writer.specs.declared.ListWriter.{ListWriter}
use Rattle.streaming.specs.Next as N
use Rattle.streaming.specs.Next.{Said, event, no_event, failed, alone, next_at}

-- a number, with the lent memory as it is then
pub record CountedIn : Type 0 where
  pub number : ℕ
  pub memory : List ℕ

abbrev pub counted : ℕ → List ℕ → CountedIn
counted n m = record { number = n; memory = m }

-- ---- the payloads of single pushes

abbrev pub one : D.DecoderAnswer → ℕ
one nothing = 0
one (payload bytes) = 1
one (count n) = 0
one (D.refusal n v) = 0

-- n payloads came before these bytes
unfoldable pub payloads_from : ℕ → Decoder → List ℕ → List ℕ → CountedIn
payloads_from n d m [] = counted n m
payloads_from n d m (b ∷ bs) =
    let a : After = push_record d m b in
    payloads_from (n + one a.answer) a.decoder a.memory bs

-- from a new decoder of a way of searching and of the lent buffer's length
abbrev pub payloads : ℕ → List ℕ → List ℕ → CountedIn
payloads way bytes m = payloads_from 0 (new_record (in_way way (length m))) m bytes

-- ---- a push of a slice over the bytes of a decoder

-- how many bytes it took, with the decoder's bytes and the lent memory as they are then
pub record TookIn : Type 0 where
  pub taken : ℕ
  pub bytes : List ℕ
  pub memory : List ℕ

abbrev pub took_in : ℕ → List ℕ → List ℕ → TookIn
took_in n l m = record { taken = n; bytes = l; memory = m }

abbrev pub took_over : List ℕ → List ℕ → List ℕ → TookIn
took_over l m chunk = took_in (slice_packed l m chunk).taken (slice_packed l m chunk).bytes (slice_packed l m chunk).memory

-- ---- encode and Encoder

abbrev pub length_in : E.EncodeAnswer → ℕ
length_in (length_is n) = n
length_in (E.no_frame n) = 0

-- the frame's length, or 0 if it is refused
abbrev pub encoded : List ℕ → List ℕ → CountedIn
encoded bytes m = counted (length_in (encode_to bytes m).answer) (encode_to bytes m).output

unfoldable pub sum : List ℕ → ℕ
sum [] = 0
sum (b ∷ bs) = b + sum bs

-- the sum of the frame's bytes, or 0 for a payload over the limit
abbrev pub streamed : List ℕ → ℕ
streamed bytes = cond (leb (length bytes) limit) (sum (frame_of bytes)) 0

-- ---- the events of a reader

abbrev pub is_event : Said → Bool
is_event (event e) = true
is_event no_event = false
is_event (failed f) = false
is_event (alone n) = false

-- the events of k calls, up to the first that brings none
unfoldable pub events_from : ℕ → List ℕ → ℕ → ℕ → ℕ → ℕ
events_from zero input at begun pending = 0
events_from (suc k) input at begun pending =
    let a : N.ReaderAfter = next_at input at begun pending in
    cond (is_event a.answer) (suc (events_from k input a.place a.start a.pending)) 0

-- from a new reader; an event takes a byte at least, so there are no more of them than bytes
abbrev pub events : List ℕ → ℕ
events input = events_from (length input) input 0 0 0

-- ---- entries that are written

abbrev pub first_writer : ℕ → ListWriter
first_writer many = record { place = 0; state = Entries many start }

-- one more of what follows an accepted call; none behind a refused one
abbrev pub one_and : WriteOutcome ListWriter → List ℕ → (ListWriter → List ℕ → CountedIn) → CountedIn
one_and (to w) out k = counted (suc (k w out).number) (k w out).memory
one_and (not_written n) out k = counted 0 out

-- an entry so many times, up to the first that is refused
unfoldable pub written_times : ℕ → List ℕ → ListWriter → List ℕ → ListEntry Span → CountedIn
written_times zero out w strings e = counted 0 out
written_times (suc k) out w strings e = one_and (entry_to out w strings e).answer (entry_to out w strings e).output λ v next. written_times k next v strings e

abbrev pub writes_of_entry : Read (ListEntry Span) → List ℕ → ℕ → List ℕ → CountedIn
writes_of_entry (got e n) out many input = written_times many out (first_writer many) input e
writes_of_entry (refused f) out many input = counted 0 out
