-- check: fakes of a decoder that is kept in bytes, and which claim is false of each.
use Rattle.std.specs.Prelude.{cond, List, [], ◌∷◌, ◌++◌, ℕ, ◌-◌, length, take, drop, replicate, ltb}
use Rattle.refusals.specs.Numbers.{bad_state_no, wrong_buffer_no, bad_span_no, output_too_short_no, limit}
use Rattle.decoder.specs.Record.{nothing, count, refusal, bad_decoder}
use Rattle.packed.specs.Layout.{packed_in, record_in}
use Rattle.packed.specs.Packed.{answering, holds, no_record, pack_into, unpack_of}
use Rattle.marks.specs.Packed.{Host, as_it_was, act_over, our_host, RoundTrip, Exactly, PacksWhatPushes, PacksInOrder, ActsAlike, SlicesAlike, HandsAlike, Serves, LeavesRefused, AnswersAlike}

-- unpacks nothing, as if no packing gave any bytes
abbrev pub unpacks_nothing : Host
unpacks_nothing = record { pack = pack_into; unpack = λ l. no_record bad_state_no; act = act_over; push_slice = our_host.push_slice; payload_of = our_host.payload_of; ask = our_host.ask }

-- writes the same 28 bytes for every record, those of a new decoder of capacity 8
abbrev pub new_bytes : List ℕ
new_bytes = 0 ∷ 0 ∷ 1 ∷ 0 ∷ 0xff ∷ 0xff ∷ replicate 18 0 ++ 8 ∷ 0 ∷ 0 ∷ 0 ∷ []

abbrev pub packs_constants : Host
packs_constants =
    record {
      pack = λ d out. cond (ltb (length out) 28) (answering (refusal output_too_short_no []) out) (answering nothing (new_bytes ++ drop 28 out));
      unpack = our_host.unpack;
      act = act_over;
      push_slice = our_host.push_slice;
      payload_of = our_host.payload_of;
      ask = our_host.ask;
    }

-- packs any record, a bad one too
abbrev pub packs_any : Host
packs_any = record { pack = λ d out. answering nothing (packed_in d out); unpack = our_host.unpack; act = act_over; push_slice = our_host.push_slice; payload_of = our_host.payload_of; ask = our_host.ask }

-- unpacks whatever stands there
abbrev pub unpacks_any : Host
unpacks_any = record { pack = pack_into; unpack = λ l. holds (record_in l); act = act_over; push_slice = our_host.push_slice; payload_of = our_host.payload_of; ask = our_host.ask }

-- answers as it should, and leaves bytes and memory as they were
abbrev pub only_answers : Host
only_answers =
    record {
      pack = pack_into;
      unpack = our_host.unpack;
      act = λ l m o. as_it_was (act_over l m o).answer l m;
      push_slice = λ l m chunk. record { answer = (our_host.push_slice l m chunk).answer; taken = (our_host.push_slice l m chunk).taken; decoder = l; memory = m };
      payload_of = our_host.payload_of;
      ask = our_host.ask;
    }

-- says nothing, whatever is pushed
abbrev pub says_nothing_ever : Host
says_nothing_ever = record { pack = pack_into; unpack = our_host.unpack; act = λ l m o. as_it_was nothing l m; push_slice = our_host.push_slice; payload_of = our_host.payload_of; ask = our_host.ask }

-- never hands out a payload
abbrev pub hands_nothing : Host
hands_nothing = record { pack = pack_into; unpack = our_host.unpack; act = act_over; push_slice = our_host.push_slice; payload_of = λ l m. []; ask = λ l m. refusal bad_span_no [] }

-- clears an output that it refuses to fill
abbrev pub clears_refused : Host
clears_refused =
    record {
      pack = λ d out. cond (ltb (length out) 28) (answering (refusal output_too_short_no []) (replicate (length out) 0)) (pack_into d out);
      unpack = our_host.unpack;
      act = act_over;
      push_slice = our_host.push_slice;
      payload_of = our_host.payload_of;
      ask = our_host.ask;
    }

-- never says 18, and writes its 28 bytes into any output
abbrev pub grows_output : Host
grows_output =
    record {
      pack = λ d out. cond (bad_decoder d) (answering (refusal bad_state_no []) out) (cond (ltb limit d.capacity) (answering (refusal wrong_buffer_no []) out) (answering nothing (packed_in d out)));
      unpack = our_host.unpack;
      act = act_over;
      push_slice = our_host.push_slice;
      payload_of = our_host.payload_of;
      ask = our_host.ask;
    }

-- asks for room first
abbrev pub room_first : Host
room_first =
    record {
      pack = λ d out. cond (ltb (length out) 28) (answering (refusal output_too_short_no []) out) (pack_into d out);
      unpack = our_host.unpack;
      act = act_over;
      push_slice = our_host.push_slice;
      payload_of = our_host.payload_of;
      ask = our_host.ask;
    }

-- clears what lies behind the 28 bytes
abbrev pub clears_rest : Host
clears_rest =
    record {
      pack = λ d out. answering (pack_into d out).answer (take 28 (pack_into d out).output ++ replicate (length out - 28) 0);
      unpack = our_host.unpack;
      act = act_over;
      push_slice = our_host.push_slice;
      payload_of = our_host.payload_of;
      ask = our_host.ask;
    }

-- unpacks 28 bytes and no more
abbrev pub refuses_longer : Host
refuses_longer = record { pack = pack_into; unpack = λ l. cond (ltb 28 (length l)) (no_record bad_state_no) (unpack_of l); act = act_over; push_slice = our_host.push_slice; payload_of = our_host.payload_of; ask = our_host.ask }

-- answers every operation over any bytes with a count of 0, as if any bytes could be reset
abbrev pub resets_any : Host
resets_any = record { pack = pack_into; unpack = our_host.unpack; act = λ l m o. as_it_was (count 0) l m; push_slice = our_host.push_slice; payload_of = our_host.payload_of; ask = our_host.ask }

pub record FallHosts : Type 0 where
  pub unpacks_nothing_claim : RoundTrip unpacks_nothing → ⊥
  pub packs_constants_claim : RoundTrip packs_constants → ⊥
  pub packs_any_claim : PacksWhatPushes packs_any → ⊥
  pub unpacks_any_claim : Exactly unpacks_any → ⊥
  pub only_answers_claim : ActsAlike only_answers → ⊥
  pub only_answers_slice : SlicesAlike only_answers → ⊥
  pub only_answers_run : AnswersAlike only_answers → ⊥
  pub says_nothing : Serves says_nothing_ever → ⊥
  pub hands_nothing_claim : HandsAlike hands_nothing → ⊥
  pub clears_refused_claim : LeavesRefused clears_refused → ⊥
  pub grows_output_claim : PacksInOrder grows_output → ⊥
  pub room_first_claim : PacksInOrder room_first → ⊥
  pub clears_rest_claim : RoundTrip clears_rest → ⊥
  pub refuses_longer_claim : Exactly refuses_longer → ⊥
  pub resets_any_claim : LeavesRefused resets_any → ⊥
