-- Each fake falls: one call, or the calls of one list, by computing.
use mathlib.Core.Path.{◌≡◌, refl, ap, ◌∙◌}
use mathlib.Core.List.{List, [], ◌∷◌, ◌++◌}
use mathlib.Core.Bool.{true, cond}
use mathlib.Core.Option.{Option, some, none}
use Prim.Native.Nat.{ℕ, zero, suc, ◌≤◌, ◌<◌}
use native.Mathlib.Omega.{arith}
use lib.ListN.{length, get_or, replicate, length-append, length-replicate}
use lib.Dec.{ltb}
use lib.IntN.{pos, negsuc}
use borrow.Author.Tests.{lt-ltb}
use Rattle.refusals.specs.Read.{Read, got, refused, then, guard, need, many, byte_at, span_at}
use Rattle.refusals.specs.declared.Span.{Span}
use Rattle.crc_x25.specs.Crc.{reflect, polynomial, bit_step, bit_steps, byte_step, register, final_xor, crc_of}
use Rattle.tlf.specs.Lengths.{tlf_at, length_from, less_own, list_of_at}
use Rattle.tlf.specs.Written.{length_bytes, typed}
use Rattle.byte_count.specs.Count.{first_that, unsigned_count}
use Rattle.numbers.specs.Numbers.{number, bytes_at_claim, raw_from, raw_at, unsigned_at, signed_of, signed_at, bool_from, bool_at}
use Rattle.octet_string.specs.Strings.{octets_at, span_within, part_of}
use Rattle.octet_string.specs.Optional.{absent_at, optional}
use Rattle.value.specs.Values.{Value, truth, bytes, signed, unsigned, list_time, time_at, status_of, status_at, signed_value, unsigned_value, list_type_at, value_of_claim, value_at}
use Rattle.common.specs.Fields.{CloseResponse, ListEntry, open_at, close_at, entry_at}
use Rattle.message.specs.Messages.{ListStart, ListEnd, Body, open_body, close_body, list_body, list_start_at, list_end_at, content_at, body_at, start_at}
use Rattle.trailer.specs.Trailer.{message_end_at, crc_from, trailer_at}
use Rattle.streaming.specs.Meaning.{value_means, start_means}
use Rattle.writer.specs.Fields.{length_count, write_tlf, in_bytes, signed_count, low_bytes, write_unsigned, write_signed, write_bool, write_octets, write_optional, write_present, write_time, write_status, write_value, write_entry}
use Rattle.writer.specs.Messages.{open_bytes, close_bytes, list_start_bytes, list_end_bytes, write_body, write_start, write_trailer}
use Rattle.writer.specs.Calls.{put_in, write_refusal, WriteOutcome, to, not_written, AfterWrite, all_within, start_with}
use Rattle.writer.specs.declared.Head.{Head}
use Rattle.writer.specs.declared.ListState.TheVariants.{Entries, Ended}
use Rattle.writer.specs.declared.ListWriter.{ListWriter}
use Rattle.events.specs.Message.{Message, content_of, message_at}
use Rattle.written.specs.Messages.{write_entries, write_end, write_content, write_message, message_means}
use Rattle.written.specs.Fits.{OnlyBytes, WideValueFits, StartFits}
use Rattle.written.specs.Calls.{Writer, then_call, entries_to, begun_to, list_to, lone_message, whole_list}
use Rattle.written.specs.Writers.{Accepting, Accepted, Back, WritesBack, AloneFrom, ReadsAlone}
use Rattle.written.specs.Fakes.{counts_what_follows, counts_one_byte, counts_the_list, empty_is_absent, absent_is_zero, forgets_sign_bit, time_as_value, crc_as_it_is, ends_with_one, writes_none, drops_the_rest, crc_of_the_last, Manner, our_manner, put_by, writes_only_short, FallWriters}
use Rattle.written.proofs.Bytes.{none_bytes, more_bytes}
use Rattle.written.proofs.Again.{part_bytes, each_bytes}
use Rattle.written.proofs.Calls.{free}
use Rattle.written.proofs.Writers.{call_no}
use Rattle.written.proofs.Habits.{same_writer}

-- what a reading says of a message; 1000 where there is none
abbrev says_of : (Message (List ℕ) → ℕ) → List ℕ → Read (Message Span) → ℕ
says_of f o (got x n) = f (message_means o x)
says_of f o (refused r) = 1000

-- the same of what an accepted call left, and one more; 0 where it is refused
abbrev left_says : {A : Type 0} → (Message (List ℕ) → ℕ) → WriteOutcome A → List ℕ → ℕ
left_says f (to w) o = suc (says_of f o (message_at o 0))
left_says f (not_written n) o = 0

abbrev call_says : {A : Type 0} → (Message (List ℕ) → ℕ) → AfterWrite A → ℕ
call_says f l = left_says f l.answer l.output

says_by : {A : Type 0} (place : A → ℕ) (m : Message (List ℕ)) (out : List ℕ) (f : Message (List ℕ) → ℕ) (n : ℕ) (a : WriteOutcome A) (o : List ℕ)
    → Accepting (λ w o. Back m out 0 (place w) o) a o → left_says f a o ≡ suc n → f m ≡ n
says_by place m out f n (to w) o h e = let q : says_of f o (message_at o 0) ≡ f m = ap (says_of f o) h.is ∙ ap f h.means in omega (arith, q, e)
says_by place m out f n (not_written k) o h e = absurd (omega arith)

-- what was written back says what the message says
back_says : {A : Type 0} (place : A → ℕ) (m : Message (List ℕ)) (out : List ℕ) (f : Message (List ℕ) → ℕ) (n : ℕ) (l : AfterWrite A)
    → Accepted (λ w o. Back m out 0 (place w) o) l → call_says f l ≡ suc n → f m ≡ n
back_says place m out f n l h e = says_by place m out f n l.answer l.output h.holds e

-- and is as long as the output was
abbrev left_long : {A : Type 0} → WriteOutcome A → List ℕ → ℕ
left_long (to w) o = suc (length o)
left_long (not_written n) o = 0

long_by : {A : Type 0} (place : A → ℕ) (m : Message (List ℕ)) (out : List ℕ) (n : ℕ) (a : WriteOutcome A) (o : List ℕ) → Accepting (λ w o. Back m out 0 (place w) o) a o → left_long a o ≡ suc n → length out ≡ n
long_by place m out n (to w) o h e = omega (arith, h.same_length, e)
long_by place m out n (not_written k) o h e = absurd (omega arith)

-- no string, and the head of a message without any
abbrev no_part : Span
no_part = record { start = 0; len = 0 }

abbrev head_with : Span → Head
head_with p = record { transaction_id = p; group_no = 0; abort_on_error = 0 }

abbrev sixty_four_zeros : List ℕ
sixty_four_zeros = replicate 64 0

abbrev close_of : Option Span → CloseResponse Span
close_of p = record { global_signature = p }

all_zeros : (n : ℕ) → OnlyBytes (replicate n 0)
all_zeros zero = none_bytes
all_zeros (suc n) = more_bytes (omega arith) (all_zeros n)

close_fits_with : (strings : List ℕ) (p : Span) (q : Option Span) → OnlyBytes strings → StartFits (start_means strings (start_with (head_with p) (close_body (close_of q))))
close_fits_with strings p q b =
    record { transaction_id = part_bytes strings p b; group_no = omega arith; abort_on_error = omega arith; message_body = record { global_signature = each_bytes strings q b } }

-- the close call that the fakes are asked
abbrev close_call : Writer → ℕ → Span → Option Span → AfterWrite ℕ
close_call W n p q = W.closes sixty_four_zeros 0 (replicate n 0) (head_with p) (close_of q)

close_accepted : (W : Writer) (n : ℕ) (p : Span) (q : Option Span) → WritesBack W
    → Accepted (λ next o. Back (message_means (replicate n 0) (lone_message (head_with p) (close_body (close_of q)))) sixty_four_zeros 0 next o) (close_call W n p q)
close_accepted W n p q h = h.closes sixty_four_zeros 0 (replicate n 0) (head_with p) (close_of q) (close_fits_with (replicate n 0) p q (all_zeros n)) (omega arith)

close_fall : (W : Writer) (n : ℕ) (p : Span) (q : Option Span) (f : Message (List ℕ) → ℕ) (k : ℕ) → WritesBack W → call_says f (close_call W n p q) ≡ suc k
    → f (message_means (replicate n 0) (lone_message (head_with p) (close_body (close_of q)))) ≡ k
close_fall W n p q f k h e = back_says (λ w. w) _ sixty_four_zeros f k (close_call W n p q) (close_accepted W n p q h) e

abbrev list_of : ℕ → ListStart Span
list_of n = record { client_id = none; server_id = no_part; list_name = none; act_sensor_time = none; num_vals = n }

abbrev entry_with : Value Span → ListEntry Span
entry_with v = record { obj_name = no_part; status = none; val_time = none; unit = none; scaler = none; value = v; value_signature = none }

abbrev empty_end : ListEnd Span
empty_end = record { list_signature = none; act_gateway_time = none }

-- a list of one entry
abbrev list_call : Writer → Value Span → AfterWrite ListWriter
list_call W v = list_to W sixty_four_zeros 0 [] (head_with no_part) (list_of 1) (entry_with v ∷ []) empty_end

list_fall : (W : Writer) (v : Value Span) → WideValueFits (value_means [] v) → (f : Message (List ℕ) → ℕ) (k : ℕ) → WritesBack W → call_says f (list_call W v) ≡ suc k
    → f (message_means [] (whole_list (head_with no_part) (list_of 1) (entry_with v ∷ []) empty_end)) ≡ k
list_fall W v fit f k h e =
    back_says (λ w. w.place) _ sixty_four_zeros f k (list_call W v)
    (h.lists sixty_four_zeros 0 [] (head_with no_part) (list_of 1) (entry_with v ∷ []) empty_end
    (record { transaction_id = part_bytes [] no_part none_bytes; group_no = omega arith; abort_on_error = omega arith; message_body = record { client_id = tt; server_id = part_bytes [] no_part none_bytes; list_name = tt; act_sensor_time = tt } })
    (record { obj_name = part_bytes [] no_part none_bytes; status = tt; val_time = tt; unit = tt; scaler = tt; value = fit; value_signature = tt }, tt)
    (record { list_signature = tt; act_gateway_time = tt })
    (omega arith))
    e

-- says nothing, so that only a refusal is heard
abbrev nothing_of : Message (List ℕ) → ℕ
nothing_of m = 0

abbrev is_there : Option (List ℕ) → ℕ
is_there (some p) = 1
is_there none = 2

abbrev signature_of : Body (List ℕ) → ℕ
signature_of (open_body x) = 0
signature_of (close_body x) = is_there x.global_signature
signature_of (list_body x) = 0

abbrev value_sign : Value (List ℕ) → ℕ
value_sign (truth b) = 0
value_sign (bytes x) = 0
value_sign (signed w (pos n)) = 1
value_sign (signed w (negsuc n)) = 2
value_sign (unsigned w n) = 0
value_sign (list_time n) = 0

abbrev sign_of : List (ListEntry (List ℕ)) → ℕ
sign_of [] = 0
sign_of (e ∷ es) = value_sign e.value

-- an output of so many bytes at least
record LongOutput (n : ℕ) : Type 0 where
  bytes : List ℕ
  long : n ≤ length bytes

zeros_long : (n : ℕ) → LongOutput n
zeros_long n = record { bytes = replicate n 0; long = omega (arith, length-replicate {A = ℕ} n 0) }

when_none : {A : Type 0} {P : A → List ℕ → Type 0} (manner : Manner) (r : Option ℕ) (out : List ℕ) (at : ℕ) (b : List ℕ) (a : A) → r ≡ none → Accepted P (put_by manner r out at b a) → P a (manner.put out at b)
when_none {A} {P} manner r out at b a e h = let k : Accepted P (put_by manner none out at b a) = rw e at h in k.holds

-- the manner of `writes_only_short`
abbrev only_short_manner : Manner
only_short_manner = record our_manner { put = λ out at b. cond (ltb 1048576 (length out)) out (put_in out at b) }

long_fall : (rest : List ℕ) → 1048576 ≤ length rest → ReadsAlone writes_only_short → ⊥
unfolding then guard need byte_at tlf_at length_from less_own list_of_at span_within part_of start_at reflect polynomial bit_step bit_steps byte_step register final_xor crc_of message_at first_that length_count length_bytes typed write_tlf in_bytes unsigned_count write_unsigned write_octets write_optional write_present close_bytes write_body write_start write_trailer write_entries write_end write_content write_message all_within
long_fall rest long h =
    let out = replicate 16 0 ++ rest in
    let m = message_means [] (lone_message (head_with no_part) (close_body (close_of none))) in
    let b = write_message m in
    let n : length b ≡ 16 = refl in
    let more : 1048576 < length out = omega (arith, long, length-append (replicate 16 0) rest) in
    let k : AloneFrom m 0 16 (cond (ltb 1048576 (length out)) out (put_in out 0 b)) =
    when_none {P = λ next o. AloneFrom m 0 next o} only_short_manner _ out 0 b 16 (free out 0 b (omega (arith, n, more))) (h.closes out 0 [] (head_with no_part) (close_of none) (close_fits_with [] no_part none none_bytes)) in
    let j : AloneFrom m 0 16 out = rw (lt-ltb 1048576 (length out) more) at k in
    let r = j (omega arith) in
    omega (arith, ap (says_of nothing_of (replicate 16 0)) r.is)

pub fall_writers : FallWriters
unfolding then guard need many byte_at span_at tlf_at length_from less_own list_of_at number bytes_at_claim raw_from raw_at unsigned_at signed_of signed_at bool_from bool_at octets_at span_within part_of absent_at optional time_at status_of status_at signed_value unsigned_value list_type_at value_of_claim value_at open_at close_at entry_at message_end_at list_start_at list_end_at content_at body_at start_at reflect polynomial bit_step bit_steps byte_step register final_xor crc_of crc_from trailer_at content_of message_at first_that length_count length_bytes typed write_tlf in_bytes unsigned_count signed_count low_bytes write_unsigned write_signed write_octets write_optional write_present write_time write_status write_value write_bool write_entry open_bytes close_bytes list_start_bytes list_end_bytes write_body write_start write_trailer write_entries write_end write_content write_message put_in write_refusal all_within then_call entries_to begun_to list_to
fall_writers =
    record {
      ours = same_writer;
      what_follows = λ h.
          omega (arith, close_fall counts_what_follows 0 no_part none nothing_of 1000 h refl);
      one_byte = λ h.
          omega (arith, close_fall counts_one_byte 15 (record { start = 0; len = 15 }) none nothing_of 1000 h refl);
      the_list = λ h.
          omega (arith, close_fall counts_the_list 0 no_part none nothing_of 1000 h refl);
      empty_absent = λ h.
          omega (arith, close_fall empty_is_absent 0 no_part (some no_part) (λ m. signature_of m.start.message_body) 2 h refl);
      absent_zero = λ h.
          omega (arith, close_fall absent_is_zero 0 no_part none nothing_of 1000 h refl);
      sign_bit = λ h.
          omega (arith, list_fall forgets_sign_bit (signed 8 (pos 128)) (refl, omega arith) (λ m. sign_of m.content.entries) 2 h refl);
      time_value_claim = λ h.
          omega (arith, list_fall time_as_value (list_time 5) (omega arith) nothing_of 1000 h refl);
      as_it_is = λ h.
          omega (arith, close_fall crc_as_it_is 0 no_part none nothing_of 1000 h refl);
      with_one = λ h.
          omega (arith, close_fall ends_with_one 0 no_part none nothing_of 1000 h refl);
      writes_none_claim = λ h.
          omega (arith, close_fall writes_none 0 no_part none nothing_of 1000 h refl);
      the_last = λ h.
          omega (arith, list_fall crc_of_the_last (truth true) tt nothing_of 1000 h refl);
      drops = λ h.
          let l = close_call drops_the_rest 0 no_part none in omega (arith, long_by (λ w. w) _ sixty_four_zeros 16 l.answer l.output (close_accepted drops_the_rest 0 no_part none h).holds refl);
      full_width = λ h.
          let e : length (write_message (message_means [] (lone_message (head_with no_part) (close_body (close_of none))))) ≡ 16 = refl in let q = h.closes (replicate 16 0) 0 [] (head_with no_part) (close_of none) refl (omega (arith, e)) in omega (arith, ap call_no q.is);
      in_two_claim = λ h.
          let e : length (write_message (message_means (0x00 ∷ 0x75 ∷ []) (lone_message (head_with (record { start = 0; len = 2 })) (close_body (close_of none))))) ≡ 17 = refl in let q = h.closes (replicate 17 0) 0 (0x00 ∷ 0x75 ∷ []) (head_with (record { start = 0; len = 2 })) (close_of none) refl (omega (arith, e)) in omega (arith, ap call_no q.is);
      no_room_claim = λ h.
          let e : length (write_message (message_means [] (lone_message (head_with no_part) (close_body (close_of none))))) ≡ 16 = refl in let q = h.closes (replicate 16 0) 0 [] (head_with no_part) (close_of none) refl (omega (arith, e)) in omega (arith, ap call_no q.is);
      bare_times = λ h.
          let q = (h.opens sixty_four_zeros 0 [] (head_with no_part) (record { codepage = none; client_id = none; req_file_id = no_part; server_id = no_part; ref_time = some 5; sml_version = none })).holds in omega (arith, ap (λ (x : List ℕ). get_or x 15 0) q.1);
      more = λ h.
          let q = (h.entries sixty_four_zeros 0 [] (head_with no_part) (list_of 0) [] [] (entry_with (truth true))).holds in omega (arith, ap call_no (q.if refl));
      early = λ h.
          let q = (h.ends sixty_four_zeros 0 [] (head_with no_part) (list_of 1) [] [] empty_end).holds in omega (arith, ap call_no (q.if (omega arith)));
      twice = λ h.
          let q = (h.behind sixty_four_zeros 0 [] (head_with no_part) (list_of 0) [] empty_end [] (entry_with (truth true)) empty_end).holds in omega (arith, ap call_no q.1);
      room_first_claim = λ h.
          let q = h.adds [] (record { place = 0; state = Ended }) [] (entry_with (truth true)) in omega (arith, ap call_no (q.not_due (omega arith) refl));
      room_before_spans_claim = λ h.
          let q = h.closes [] 0 [] (head_with (record { start = 0; len = 1 })) (close_of none) in omega (arith, ap call_no (q.bad_span (omega arith) refl refl));
      span_empty = λ h.
          let q = h.closes sixty_four_zeros 0 [] (head_with (record { start = 0; len = 1 })) (close_of none) in omega (arith, ap call_no (q.bad_span (omega arith) refl refl));
      only_short = λ h.
          let o = zeros_long 1048576 in long_fall o.bytes o.long h;
      late_entry = λ h.
          let q = (h.adds (replicate 9 0) (record { place = 0; state = Entries 1 0 }) [] (entry_with (truth true))).holds in omega (arith, ap (λ (x : List ℕ). get_or x 0 0) q.1);
      last_byte_claim = λ h.
          let q = (h.starts sixty_four_zeros 0 [] (head_with no_part) (list_of 0)).holds in omega (arith, ap (λ (x : List ℕ). get_or x 63 0) q.1);
      number_first_claim = λ h.
          let q = h.adds [] (record { place = 1; state = Ended }) [] (entry_with (truth true)) in omega (arith, ap call_no (q.beyond (omega arith)));
      end_beyond = λ h.
          let e : length (write_message (message_means [] (lone_message (head_with no_part) (close_body (close_of none))))) ≡ 16 = refl in let q = h.closes [] 0 [] (head_with no_part) (close_of none) in omega (arith, ap call_no (q.no_room_claim (omega arith) refl refl (omega (arith, e))));
      fills = λ h.
          let e : length (write_message (message_means [] (lone_message (head_with no_part) (close_body (close_of none))))) ≡ 16 = refl in let q = h.closes (7 ∷ []) 0 [] (head_with no_part) (close_of none) in omega (arith, ap (λ (l : AfterWrite ℕ). get_or l.output 0 0) (q.no_room_claim (omega arith) refl refl (omega (arith, e))));
    }
