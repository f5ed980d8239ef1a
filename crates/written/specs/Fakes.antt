-- check: fakes, each a writer that differs from ours in one habit, and which claim is false of it.
use Rattle.std.specs.Prelude.{ℕ, ◌+◌, ◌-◌, ◌^◌, ◌≡◌, List, [], ◌∷◌, ◌++◌, map, Bool, true, false, cond, not, length, take, drop, ltb, leb, eqb, ℤ}
use Rattle.std.proofs.Math.Option.{Option, some, none}
use Rattle.std.specs.Int.Signed.{mag}
use Rattle.refusals.specs.Numbers.{bad_state_no, wrong_number_no, bad_span_no, output_too_short_no}
use Rattle.refusals.specs.declared.Span.{Span}
use Rattle.byte_count.specs.Count.{first_that, unsigned_count}
use Rattle.crc_x25.specs.Crc.{start, register, final_xor}
use Rattle.tlf.specs.Written.{total, typed}
use Rattle.tlf.specs.declared.Ty.{Ty}
use Rattle.tlf.specs.declared.Ty.TheVariants.{OctetString, Boolean, Integer, Unsigned, ListOf}
use Rattle.value.specs.Values.{Value, truth, bytes, signed, unsigned, list_time}
use Rattle.common.specs.Fields.{OpenResponse, CloseResponse, ListEntry}
use Rattle.message.specs.Messages.{ListStart, ListEnd, Body, open_body, close_body, list_body, MessageStart}
use Rattle.streaming.specs.Next.{start_event, entry_event, end_event}
use Rattle.streaming.specs.Meaning.{entry_means, list_end_means, start_means, strings_of}
use Rattle.trailer.specs.Trailer.{swapped}
use Rattle.writer.specs.Fields.{write_tlf, in_bytes, signed_count, low_bytes, write_unsigned, write_signed, write_present, write_time}
use Rattle.writer.specs.Messages.{write_trailer}
use Rattle.writer.specs.Calls.{put_in, write_refusal, to, not_written, AfterWrite, entry_due, end_due, all_within, start_with}
use Rattle.writer.specs.declared.Head.{Head}
use Rattle.writer.specs.declared.ListState.{ListState}
use Rattle.writer.specs.declared.ListState.TheVariants.{Entries, Ended}
use Rattle.writer.specs.declared.ListWriter.{ListWriter}
use Rattle.written.specs.Calls.{Writer, our_writer}
use Rattle.written.specs.Writers.{WritesBack, ReadsAlone, PutsExactly, TakesWhatFits, Counts, RefusesInOrder}

-- how the parts of a message are written; a number comes with the width of its type
pub record Wording : Type 0 where
  pub tlf : Ty → ℕ → List ℕ
  pub unsigned_in : ℕ → ℕ → List ℕ
  pub signed_in_claim : ℕ → ℤ → List ℕ
  pub absent : List ℕ
  pub present : List ℕ → List ℕ
  pub time : ℕ → List ℕ
  pub list_time_claim : ℕ → List ℕ
  pub trailer : ℕ → List ℕ

abbrev pub our_list_time : ℕ → List ℕ
our_list_time t = write_tlf ListOf 2 ++ write_unsigned 1 ++ write_time t

abbrev pub our_wording : Wording
our_wording =
    record { tlf = write_tlf; unsigned_in = λ width v. write_unsigned v; signed_in_claim = λ width z. write_signed z; absent = 0x01 ∷ []; present = write_present; time = write_time; list_time_claim = our_list_time; trailer = write_trailer }

abbrev pub octets_by : Wording → List ℕ → List ℕ
octets_by by x = by.tlf OctetString (length x) ++ x

abbrev pub optional_by : {A : Type 0} → Wording → (A → List ℕ) → Option A → List ℕ
optional_by by write none = by.absent
optional_by by write (some a) = write a

abbrev pub value_with : Wording → Value (List ℕ) → List ℕ
value_with by (truth b) = by.tlf Boolean 1 ++ (cond b 0x01 0x00 ∷ [])
value_with by (bytes x) = octets_by by x
value_with by (signed width z) = by.signed_in_claim width z
value_with by (unsigned width v) = by.unsigned_in width v
value_with by (list_time t) = by.list_time_claim t

abbrev pub entry_by : Wording → ListEntry (List ℕ) → List ℕ
entry_by by e =
    by.tlf ListOf 7
    ++ octets_by by e.obj_name
    ++ optional_by by (λ x. by.unsigned_in x.width x.number) e.status
    ++ optional_by by by.time e.val_time
    ++ optional_by by (by.unsigned_in 1) e.unit
    ++ optional_by by (by.signed_in_claim 1) e.scaler
    ++ value_with by e.value
    ++ optional_by by by.present e.value_signature

abbrev pub list_end_by : Wording → ListEnd (List ℕ) → List ℕ
list_end_by by x = optional_by by by.present x.list_signature ++ optional_by by by.time x.act_gateway_time

abbrev pub body_by : Wording → Body (List ℕ) → List ℕ
body_by by (open_body x) =
    by.tlf ListOf 2
    ++ by.unsigned_in 4 0x00000101
    ++ (by.tlf ListOf 6
    ++ optional_by by by.present x.codepage
    ++ optional_by by by.present x.client_id
    ++ octets_by by x.req_file_id
    ++ octets_by by x.server_id
    ++ optional_by by by.time x.ref_time
    ++ optional_by by (by.unsigned_in 1) x.sml_version)
body_by by (close_body x) = by.tlf ListOf 2 ++ by.unsigned_in 4 0x00000201 ++ (by.tlf ListOf 1 ++ optional_by by by.present x.global_signature)
body_by by (list_body x) =
    by.tlf ListOf 2
    ++ by.unsigned_in 4 0x00000701
    ++ (by.tlf ListOf 7
    ++ optional_by by by.present x.client_id
    ++ octets_by by x.server_id
    ++ optional_by by by.present x.list_name
    ++ optional_by by by.time x.act_sensor_time
    ++ by.tlf ListOf x.num_vals)

abbrev pub start_by : Wording → MessageStart (List ℕ) → List ℕ
start_by by m = by.tlf ListOf 6 ++ octets_by by m.transaction_id ++ by.unsigned_in 1 m.group_no ++ by.unsigned_in 1 m.abort_on_error ++ body_by by m.message_body

-- when a call is refused, what a refusal leaves of the output, which calls are due, and what the register has seen behind a part
pub record Manner : Type 0 where
  pub refuse : List ℕ → ℕ → Bool → Bool → List ℕ → Option ℕ
  pub leave : ℕ → List ℕ → ℕ → List ℕ → List ℕ
  pub put : List ℕ → ℕ → List ℕ → List ℕ
  pub entry_due_claim : ListState → Bool
  pub end_due_claim : ListState → Bool
  pub seen : ℕ → List ℕ → ℕ

abbrev pub our_manner : Manner
our_manner = record { refuse = write_refusal; leave = λ n out at b. out; put = put_in; entry_due_claim = entry_due; end_due_claim = end_due; seen = register }

abbrev pub put_by : {A : Type 0} → Manner → Option ℕ → List ℕ → ℕ → List ℕ → A → AfterWrite A
put_by manner (some n) out at b a = record { answer = not_written n; output = manner.leave n out at b }
put_by manner none out at b a = record { answer = to a; output = manner.put out at b }

abbrev pub call_by : {A : Type 0} → Manner → List ℕ → ℕ → Bool → Bool → List ℕ → A → AfterWrite A
call_by manner out at due good b a = put_by manner (manner.refuse out at due good b) out at b a

abbrev pub whole_by : Wording → Manner → List ℕ → ℕ → List ℕ → Head → Body Span → AfterWrite ℕ
whole_by by manner out at strings head body =
    let m = start_with head body in
    let a = start_by by (start_means strings m) in
    let b = a ++ by.trailer (manner.seen start a) in
    call_by manner out at true (all_within strings (strings_of (start_event m))) b (at + length b)

abbrev pub state_after : Manner → ListState → List ℕ → ListState
state_after manner (Entries left crc) b = Entries (left - 1) (manner.seen crc b)
state_after manner Ended b = Ended

abbrev pub trailed_by : Wording → Manner → ListState → List ℕ → List ℕ
trailed_by by manner (Entries left crc) b = b ++ by.trailer (manner.seen crc b)
trailed_by by manner Ended b = b

-- ours, but for how parts are written and when calls are refused
abbrev pub writer_by : Wording → Manner → Writer
writer_by by manner =
    record {
      opens = λ out at strings head x. whole_by by manner out at strings head (open_body x);
      closes = λ out at strings head x. whole_by by manner out at strings head (close_body x);
      starts = λ out at strings head list.
          let m = start_with head (list_body list) in
          let b = start_by by (start_means strings m) in
          call_by manner out at true (all_within strings (strings_of (start_event m))) b (record { place = at + length b; state = Entries list.num_vals (manner.seen start b) });
      adds = λ out w strings e.
          let b = entry_by by (entry_means strings e) in
          call_by manner out w.place (manner.entry_due_claim w.state) (all_within strings (strings_of (entry_event e))) b (record { place = w.place + length b; state = state_after manner w.state b });
      ends = λ out w strings x.
          let b = trailed_by by manner w.state (list_end_by by (list_end_means strings x)) in
          call_by manner out w.place (manner.end_due_claim w.state) (all_within strings (strings_of (end_event x))) b (record { place = w.place + length b; state = Ended });
    }

-- ---- wrong bytes

-- by how type and length and numbers are written
abbrev pub wording_of : (Ty → ℕ → List ℕ) → (ℕ → ℕ → List ℕ) → (ℕ → ℤ → List ℕ) → Wording
wording_of tlf unsigned_in signed_in_claim =
    record {
      tlf = tlf;
      unsigned_in = unsigned_in;
      signed_in_claim = signed_in_claim;
      absent = 0x01 ∷ [];
      present = write_present;
      time = λ t. tlf ListOf 2 ++ unsigned_in 1 1 ++ unsigned_in 4 t;
      list_time_claim = λ t. tlf ListOf 2 ++ unsigned_in 1 1 ++ (tlf ListOf 2 ++ unsigned_in 1 1 ++ unsigned_in 4 t);
      trailer = λ reg. unsigned_in 2 (swapped (final_xor reg)) ++ (0x00 ∷ []);
    }

abbrev pub worded_by : (Ty → ℕ → List ℕ) → Writer
worded_by tlf =
    writer_by (wording_of tlf (λ width v. tlf Unsigned (unsigned_count v) ++ in_bytes (unsigned_count v) v) (λ width z. tlf Integer (signed_count z) ++ in_bytes (signed_count z) (low_bytes (signed_count z) z))) our_manner

-- the length counts what follows
abbrev pub counts_what_follows : Writer
counts_what_follows = worded_by (λ ty len. typed ty (first_that 16 1 (λ n. ltb len (16 ^ n))) len)

-- of several length bytes one is counted
abbrev pub counts_one_byte : Writer
counts_one_byte = worded_by (λ ty len. typed ty (first_that 16 1 (λ n. ltb (total ty len 1) (16 ^ n))) (total ty len 1))

-- a list's length counts its own byte
abbrev pub counts_the_list : Writer
counts_the_list = worded_by (λ ty len. typed ty (first_that 16 1 (λ n. ltb (len + n) (16 ^ n))) (len + first_that 16 1 (λ n. ltb (len + n) (16 ^ n))))

abbrev pub absent_if_empty : List ℕ → List ℕ
absent_if_empty [] = 0x01 ∷ []
absent_if_empty (b ∷ x) = write_present (b ∷ x)

-- a string that is present and empty is written as an absent one
abbrev pub empty_is_absent : Writer
empty_is_absent =
    writer_by (record { tlf = write_tlf; unsigned_in = λ width v. write_unsigned v; signed_in_claim = λ width z. write_signed z; absent = 0x01 ∷ []; present = absent_if_empty; time = write_time; list_time_claim = our_list_time; trailer = write_trailer })
    our_manner

-- absent is a byte 00
abbrev pub absent_is_zero : Writer
absent_is_zero =
    writer_by (record { tlf = write_tlf; unsigned_in = λ width v. write_unsigned v; signed_in_claim = λ width z. write_signed z; absent = 0x00 ∷ []; present = write_present; time = write_time; list_time_claim = our_list_time; trailer = write_trailer })
    our_manner

-- every number at the width of its type
abbrev pub in_full_width : Writer
in_full_width = writer_by (wording_of write_tlf (λ width v. write_tlf Unsigned width ++ in_bytes width v) (λ width z. write_tlf Integer width ++ in_bytes width (low_bytes width z))) our_manner

-- a signed number in as many bytes as its magnitude wants
abbrev pub without_sign_bit : ℤ → List ℕ
without_sign_bit z = write_tlf Integer (unsigned_count (mag z)) ++ in_bytes (unsigned_count (mag z)) (low_bytes (unsigned_count (mag z)) z)

abbrev pub forgets_sign_bit : Writer
forgets_sign_bit =
    writer_by (record { tlf = write_tlf; unsigned_in = λ width v. write_unsigned v; signed_in_claim = λ width z. without_sign_bit z; absent = 0x01 ∷ []; present = write_present; time = write_time; list_time_claim = our_list_time; trailer = write_trailer })
    our_manner

-- a time as the four bytes of its number, without list and tag
abbrev pub writes_bare_times : Writer
writes_bare_times =
    writer_by
    (record { tlf = write_tlf; unsigned_in = λ width v. write_unsigned v; signed_in_claim = λ width z. write_signed z; absent = 0x01 ∷ []; present = write_present; time = λ t. write_tlf Unsigned 4 ++ in_bytes 4 t; list_time_claim = our_list_time; trailer = write_trailer })
    our_manner

-- a value that is a time as a time alone
abbrev pub time_as_value : Writer
time_as_value =
    writer_by (record { tlf = write_tlf; unsigned_in = λ width v. write_unsigned v; signed_in_claim = λ width z. write_signed z; absent = 0x01 ∷ []; present = write_present; time = write_time; list_time_claim = write_time; trailer = write_trailer })
    our_manner

abbrev pub trailed_with : (ℕ → List ℕ) → Writer
trailed_with trailer =
    writer_by (record { tlf = write_tlf; unsigned_in = λ width v. write_unsigned v; signed_in_claim = λ width z. write_signed z; absent = 0x01 ∷ []; present = write_present; time = write_time; list_time_claim = our_list_time; trailer = trailer })
    our_manner

-- the CRC's bytes stand as they are
abbrev pub crc_as_it_is : Writer
crc_as_it_is = trailed_with (λ reg. write_unsigned (final_xor reg) ++ (0x00 ∷ []))

-- the CRC has two bytes, whatever it is
abbrev pub crc_in_two : Writer
crc_in_two = trailed_with (λ reg. write_tlf Unsigned 2 ++ in_bytes 2 (swapped (final_xor reg)) ++ (0x00 ∷ []))

abbrev pub ends_with_one : Writer
ends_with_one = trailed_with (λ reg. write_unsigned (swapped (final_xor reg)) ++ (0x01 ∷ []))

-- ---- wrong calls

-- an entry while the list has not ended
abbrev pub until_ended : ListState → Bool
until_ended (Entries left crc) = true
until_ended Ended = false

abbrev pub none_at_end : ListState → Bool
none_at_end (Entries left crc) = eqb left 0
none_at_end Ended = true

-- one entry more than announced
abbrev pub adds_more : Writer
adds_more = writer_by our_wording (record { refuse = write_refusal; leave = λ n out at b. out; put = put_in; entry_due_claim = until_ended; end_due_claim = end_due; seen = register })

-- ends while entries are left
abbrev pub ends_early : Writer
ends_early = writer_by our_wording (record { refuse = write_refusal; leave = λ n out at b. out; put = put_in; entry_due_claim = entry_due; end_due_claim = until_ended; seen = register })

-- ends what has ended
abbrev pub ends_twice : Writer
ends_twice = writer_by our_wording (record { refuse = write_refusal; leave = λ n out at b. out; put = put_in; entry_due_claim = entry_due; end_due_claim = none_at_end; seen = register })

abbrev pub refuses_by : (List ℕ → ℕ → Bool → Bool → List ℕ → Option ℕ) → Writer
refuses_by refuse = writer_by our_wording (record { refuse = refuse; leave = λ n out at b. out; put = put_in; entry_due_claim = entry_due; end_due_claim = end_due; seen = register })

-- 18 before 17
abbrev pub room_before_number : Writer
room_before_number =
    refuses_by (λ out at due good b.
    cond (ltb (length out) at) (some bad_state_no)
    (cond (ltb (length out - at) (length b)) (some output_too_short_no)
    (cond (not due) (some wrong_number_no)
    (cond (not good) (some bad_span_no)
    none))))

-- 18 before 16
abbrev pub room_before_spans : Writer
room_before_spans =
    refuses_by (λ out at due good b.
    cond (ltb (length out) at) (some bad_state_no)
    (cond (not due) (some wrong_number_no)
    (cond (ltb (length out - at) (length b)) (some output_too_short_no)
    (cond (not good) (some bad_span_no)
    none))))

-- 17 before 4
abbrev pub number_first : Writer
number_first = refuses_by (λ out at due good b. cond (not due) (some wrong_number_no) (write_refusal out at true good b))

-- a span outside the strings is the empty part
abbrev pub bad_span_empty : Writer
bad_span_empty = refuses_by (λ out at due good b. write_refusal out at due true b)

-- a place at the output's length is beyond it
abbrev pub end_is_beyond : Writer
end_is_beyond =
    refuses_by (λ out at due good b.
    cond (leb (length out) at) (some bad_state_no)
    (cond (not due) (some wrong_number_no)
    (cond (not good) (some bad_span_no)
    (cond (ltb (length out - at) (length b)) (some output_too_short_no)
    none))))

-- refuses everything, as if no output had room
abbrev pub has_no_room : Writer
has_no_room = refuses_by (λ out at due good b. some output_too_short_no)

-- writes up to the output's end, and says 18 then
abbrev pub fills_up : Writer
fills_up =
    writer_by our_wording
    (record { refuse = write_refusal; leave = λ n out at b. cond (eqb n output_too_short_no) (take (length out) (put_in out at b)) out; put = put_in; entry_due_claim = entry_due; end_due_claim = end_due; seen = register })

-- says where the bytes would end, and writes none
abbrev pub writes_none : Writer
writes_none = writer_by our_wording (record { refuse = write_refusal; leave = λ n out at b. out; put = λ out at b. out; entry_due_claim = entry_due; end_due_claim = end_due; seen = register })

-- what stood behind the bytes is gone
abbrev pub drops_the_rest : Writer
drops_the_rest = writer_by our_wording (record { refuse = write_refusal; leave = λ n out at b. out; put = λ out at b. take at out ++ b; entry_due_claim = entry_due; end_due_claim = end_due; seen = register })

-- the CRC is that of the last part
abbrev pub crc_of_the_last : Writer
crc_of_the_last = writer_by our_wording (record { refuse = write_refusal; leave = λ n out at b. out; put = put_in; entry_due_claim = entry_due; end_due_claim = end_due; seen = λ crc b. register start b })

-- ours, but for how the bytes of a call are put
abbrev pub puts_by : (List ℕ → ℕ → List ℕ → List ℕ) → Writer
puts_by put = writer_by our_wording (record { refuse = write_refusal; leave = λ n out at b. out; put = put; entry_due_claim = entry_due; end_due_claim = end_due; seen = register })

-- an entry behind which no end has room is accepted and not written
abbrev pub skips_late_entries : Writer
skips_late_entries =
    let ours = puts_by put_in in
    let late = puts_by (λ out at b. cond (ltb (length out - (at + length b)) 5) out (put_in out at b)) in
    record { opens = ours.opens; closes = ours.closes; starts = ours.starts; adds = late.adds; ends = ours.ends }

abbrev pub last_turned : List ℕ → List ℕ
last_turned out = take (length out - 1) out ++ map (λ b. 255 - b) (drop (length out - 1) out)

-- a list's start turns the output's last byte, and its end turns it back
abbrev pub turns_the_last : Writer
turns_the_last =
    let ours = puts_by put_in in
    let turns = puts_by (λ out at b. put_in (last_turned out) at b) in
    record { opens = ours.opens; closes = ours.closes; starts = turns.starts; adds = ours.adds; ends = turns.ends }

-- in an output of more than 1,048,576 bytes nothing is written
abbrev pub writes_only_short : Writer
writes_only_short = puts_by (λ out at b. cond (ltb 1048576 (length out)) out (put_in out at b))

-- two writers that do the same
pub record SameWriter (U W : Writer) : Type 0 where
  pub opens : (out : List ℕ) (at : ℕ) (strings : List ℕ) (head : Head) (x : OpenResponse Span) → U.opens out at strings head x ≡ W.opens out at strings head x
  pub closes : (out : List ℕ) (at : ℕ) (strings : List ℕ) (head : Head) (x : CloseResponse Span) → U.closes out at strings head x ≡ W.closes out at strings head x
  pub starts : (out : List ℕ) (at : ℕ) (strings : List ℕ) (head : Head) (list : ListStart Span) → U.starts out at strings head list ≡ W.starts out at strings head list
  pub adds : (out : List ℕ) (w : ListWriter) (strings : List ℕ) (e : ListEntry Span) → U.adds out w strings e ≡ W.adds out w strings e
  pub ends : (out : List ℕ) (w : ListWriter) (strings : List ℕ) (x : ListEnd Span) → U.ends out w strings x ≡ W.ends out w strings x

pub record FallWriters : Type 0 where
  pub ours : SameWriter (writer_by our_wording our_manner) our_writer
  pub what_follows : WritesBack counts_what_follows → ⊥
  pub one_byte : WritesBack counts_one_byte → ⊥
  pub the_list : WritesBack counts_the_list → ⊥
  pub empty_absent : WritesBack empty_is_absent → ⊥
  pub absent_zero : WritesBack absent_is_zero → ⊥
  pub full_width : TakesWhatFits in_full_width → ⊥
  pub sign_bit : WritesBack forgets_sign_bit → ⊥
  pub bare_times : PutsExactly writes_bare_times → ⊥
  pub time_value_claim : WritesBack time_as_value → ⊥
  pub as_it_is : WritesBack crc_as_it_is → ⊥
  pub in_two_claim : TakesWhatFits crc_in_two → ⊥
  pub with_one : WritesBack ends_with_one → ⊥
  pub more : Counts adds_more → ⊥
  pub early : Counts ends_early → ⊥
  pub twice : Counts ends_twice → ⊥
  pub room_first_claim : RefusesInOrder room_before_number → ⊥
  pub room_before_spans_claim : RefusesInOrder room_before_spans → ⊥
  pub number_first_claim : RefusesInOrder number_first → ⊥
  pub end_beyond : RefusesInOrder end_is_beyond → ⊥
  pub no_room_claim : TakesWhatFits has_no_room → ⊥
  pub fills : RefusesInOrder fills_up → ⊥
  pub writes_none_claim : WritesBack writes_none → ⊥
  pub drops : WritesBack drops_the_rest → ⊥
  pub the_last : WritesBack crc_of_the_last → ⊥
  pub only_short : ReadsAlone writes_only_short → ⊥
  pub late_entry : PutsExactly skips_late_entries → ⊥
  pub last_byte_claim : PutsExactly turns_the_last → ⊥
  pub span_empty : RefusesInOrder bad_span_empty → ⊥
