-- Each fake falls: a claim is false of it, at a small input.
use mathlib.Core.Path.{◌≡◌, refl, sym, ap, ◌∙◌, subst}
use mathlib.Core.Bool.{Bool, true, false, cond}
use mathlib.Core.List.{List, [], ◌∷◌, ◌++◌, map, reverse}
use mathlib.Core.Option.{Option, some, none}
use Prim.Native.Nat.{ℕ, zero, suc, ◌+◌, ◌/◌, ◌≤◌, ◌<◌}
use native.Mathlib.Omega.{arith}
use lib.ListN.{length, get_or, take, replicate, length-replicate}
use lib.Dec.{ltb}
use lib.Seq.{length-take-le}
use Rattle.refusals.specs.Numbers.{limit}
use Rattle.refusals.specs.Read.{Read, got, refused, Refusal, eof, mismatch, unexpected, crc_mismatch, wrong_end, then, guard, need, many, byte_at, span_at}
use Rattle.refusals.specs.Answers.{invalid_ty}
use Rattle.refusals.specs.declared.Span.{Span}
use Rattle.refusals.proofs.Read.{then_then}
use Rattle.crc_x25.specs.Crc.{reflect, polynomial, bit_step, bit_steps, byte_step, register, final_xor, crc_of}
use Rattle.tlf.specs.Lengths.{tlf_at, length_from, less_own, list_of_at}
use Rattle.numbers.specs.Numbers.{number, bytes_at_claim, raw_from, raw_at, unsigned_at, signed_of, signed_at, bool_from, bool_at}
use Rattle.octet_string.specs.Strings.{octets_at}
use Rattle.octet_string.specs.Optional.{absent_at, optional}
use Rattle.value.specs.Values.{time_at, status_of, status_at, signed_value, unsigned_value, list_type_at, value_of_claim, value_at}
use Rattle.common.specs.Fields.{ListEntry, open_at, close_at, entry_at}
use Rattle.message.specs.Messages.{MessageStart, ListEnd, close_body, list_start_at, list_end_at, content_at, body_at, start_at}
use Rattle.trailer.specs.Trailer.{message_end_at, crc_from, trailer_at}
use Rattle.whole.specs.Whole.{EntryRow, row_at, WholeMessage, inside_at, whole_at, flat, WholeSaid, whole_is, broken, refused_alone, AfterWhole, fill_to, read_to, Fair}
use Rattle.whole.specs.Answers.{after_whole}
use Rattle.whole.proofs.Outcomes.{WholeOutcome, too_long, place_beyond, broken_at, table_full, taken_whole, whole_outcome, not_broken, not_refused_alone, never_broken, same_number, end_said_by}
use Rattle.streaming.specs.Next.{Said, failed, onward, begin_at, trailer_next, step_at, next_at}
use Rattle.events.specs.Message.{Message, message_at}
use Rattle.events.specs.Telling.{message_events, is_refused, RefusesFirst}
use Rattle.events.specs.Calls.{call}
use Rattle.places.proofs.Seen.{is_got}
use Rattle.one_call.specs.Readers.{WholeReader, our_whole_reader, call_at, RunsTo, RowIs, RowsAre, ReadAs, AcceptsExactly, RefusesAlike, RoomLast, LeavesTable, RestNotRead, JudgesFirst, SameWhole}
use Rattle.one_call.specs.Bench.{close_input, open_input, two_begin, two_rest, two_input, huge_input, old, span_of, body_with_id, no_end, two_start}
use Rattle.one_call.specs.Fakes.{once_judged, reads_by, fill_by, fills_by, rows_for, answers_twenty, trailer_by, rows_turned, behind_its_head, up_to_its_end, placed_from, without_end, cleared_behind, next_before, only_all, from_the_message, if_list, room_in_numbers, half_row_is_room, room_before_reading, filled_as_far_as_it_goes, no_room_is_three, one_row_at_most, fills_before_the_trailer, trailer_not_judged, crc_from_the_input, next_message_judged, more_bytes_refused, without_its_list_byte, end_for_length, last_row_first, rows_from_the_message, end_dropped, clears_the_rest, ends_before_its_end, empty_is_nothing, faults_untold, places_from_the_message, other_kinds_refused, place_not_judged, long_input_cut, FallWholeReaders}
use Rattle.one_call.proofs.Runs.{failed_or, events_never_refused, no_confusion, run_found}
use Rattle.one_call.proofs.Outcomes.{next_read, never_both}
use Rattle.one_call.proofs.Readers.{ours_good}

-- ---- ours

ours_by : SameWhole (reads_by whole_at) read_to
unfolding read_to
ours_by s at t = refl

same_fill : (r : Read WholeMessage) (t : List ℕ) → fill_by rows_for answers_twenty r t ≡ fill_to r t
unfolding fill_to
same_fill (got w n) t = refl
same_fill (refused f) t = refl

ours_filled : SameWhole (fills_by rows_for answers_twenty) read_to
unfolding read_to
ours_filled s at t = ap (λ (a : AfterWhole). once_judged (λ s at t. a) s at t) (same_fill (whole_at s at) t)

ours_closed : SameWhole (trailer_by trailer_at) read_to
unfolding read_to whole_at
ours_closed s at t =
    ap (λ (r : Read WholeMessage). once_judged (λ s at t. fill_to r t) s at t)
    (then_then (start_at s at) (λ start n. inside_at start start.message_body s n) (λ w n. then (trailer_at s at n) λ trailer m. got w m))

-- ---- room

huge_broken : (t : List ℕ) → (read_to huge_input 0 t).answer ≡ broken (eof 34)
unfolding then guard need many byte_at span_at tlf_at length_from less_own list_of_at number bytes_at_claim raw_from raw_at unsigned_at signed_of signed_at bool_from bool_at octets_at absent_at optional time_at status_of status_at signed_value unsigned_value list_type_at value_of_claim value_at open_at close_at entry_at message_end_at list_start_at list_end_at content_at body_at start_at reflect polynomial bit_step bit_steps byte_step register final_xor crc_of crc_from trailer_at row_at inside_at whole_at flat fill_to read_to
huge_broken t = refl

huge_announced : (t : List ℕ) → room_before_reading huge_input 0 t ≡ cond (ltb (length t / 4) 4294967295) (after_whole (refused_alone 20) t) (read_to huge_input 0 t)
unfolding then guard need many byte_at span_at tlf_at length_from less_own list_of_at number bytes_at_claim raw_from raw_at unsigned_at signed_of signed_at bool_from bool_at octets_at absent_at optional time_at status_of status_at signed_value unsigned_value list_type_at value_of_claim value_at open_at close_at entry_at message_end_at list_start_at list_end_at content_at body_at start_at reflect polynomial bit_step bit_steps byte_step register final_xor crc_of crc_from trailer_at row_at inside_at whole_at flat
huge_announced t = refl

falls_room_first : RoomLast room_before_reading → ⊥
falls_room_first h =
    let w = h.only_if huge_input 0 [] (ap (λ (a : AfterWhole). a.answer) (huge_announced [])) in
    let a = w.accepted in
    either (ltb (length w.table / 4) 4294967295) w.table (sym (ap (λ (a : AfterWhole). a.answer) (huge_announced w.table)) ∙ a.is)
  where
    either : (b : Bool) (t : List ℕ) {start : MessageStart Span} {end : Option (ListEnd Span)} {rows next : ℕ}
        → (cond b (after_whole (refused_alone 20) t) (read_to huge_input 0 t)).answer ≡ whole_is start end rows next → ⊥
    either true t e = not_refused_alone e
    either false t e = not_broken (sym (huge_broken t) ∙ e)

-- the two entries' rows, and the list
abbrev first_of_two : EntryRow
first_of_two = record { name = span_of 21 1; entry = span_of 19 10 }

abbrev second_of_two : EntryRow
second_of_two = record { name = span_of 31 1; entry = span_of 29 10 }

two_read : whole_at two_input 0 ≡ got (record { start = two_start 0; rows = first_of_two ∷ second_of_two ∷ []; end = some no_end }) 45
unfolding then guard need many byte_at span_at tlf_at length_from less_own list_of_at number bytes_at_claim raw_from raw_at unsigned_at signed_of signed_at bool_from bool_at octets_at absent_at optional time_at status_of status_at signed_value unsigned_value list_type_at value_of_claim value_at open_at close_at entry_at message_end_at list_start_at list_end_at content_at body_at start_at reflect polynomial bit_step bit_steps byte_step register final_xor crc_of crc_from trailer_at row_at inside_at whole_at flat
two_read = refl

two_fair : Fair two_input 0
two_fair = record { short = omega arith; inside = omega arith }

read_by : (R : WholeReader) → AcceptsExactly R → (s : List ℕ) (at : ℕ) (t u : List ℕ) (start : MessageStart Span) (end : Option (ListEnd Span)) (rows next : ℕ) → Fair s at → R s at t ≡ record { answer = whole_is start end rows next; table = u } → ReadAs s at t u start end rows next
read_by R h s at t u start end rows next fair e =
    subst (λ (v : List ℕ). ReadAs s at t v start end rows next) (ap (λ (a : AfterWhole). a.table) e) (h.only_if s at t start end rows next fair (ap (λ (a : AfterWhole). a.answer) e))

falls_in_numbers : AcceptsExactly room_in_numbers → ⊥
unfolding flat
falls_in_numbers h =
    let r = read_by room_in_numbers h two_input 0 (old 2) _ (two_start 0) (some no_end) 2 45 two_fair (ap (λ (r : Read WholeMessage). fill_by length answers_twenty r (old 2)) two_read) in
    let k = r.room in
    omega (arith, k)

falls_half_row : AcceptsExactly half_row_is_room → ⊥
unfolding flat
falls_half_row h =
    let r = read_by half_row_is_room h two_input 0 (old 7) _ (two_start 0) (some no_end) 2 45 two_fair (ap (λ (r : Read WholeMessage). fill_by (λ t. (length t + 3) / 4) answers_twenty r (old 7)) two_read) in
    let k = r.room in
    omega (arith, k)

as_far_as_it_goes : filled_as_far_as_it_goes two_input 0 (old 4) ≡ after_whole (refused_alone 20) (21 ∷ 1 ∷ 19 ∷ 10 ∷ [])
unfolding then guard need many byte_at span_at tlf_at length_from less_own list_of_at number bytes_at_claim raw_from raw_at unsigned_at signed_of signed_at bool_from bool_at octets_at absent_at optional time_at status_of status_at signed_value unsigned_value list_type_at value_of_claim value_at open_at close_at entry_at message_end_at list_start_at list_end_at content_at body_at start_at reflect polynomial bit_step bit_steps byte_step register final_xor crc_of crc_from trailer_at row_at inside_at whole_at flat
as_far_as_it_goes = refl

falls_as_far_as_it_goes : LeavesTable filled_as_far_as_it_goes → ⊥
falls_as_far_as_it_goes h =
    let e = h two_input 0 (old 4) (λ a. not_refused_alone (sym (ap (λ (a : AfterWhole). a.answer) as_far_as_it_goes) ∙ a.is)) in
    let z : ◌≡◌ {A = ℕ} 21 0x77777777 = ap (λ (l : List ℕ). get_or l 0 0) (sym (ap (λ (a : AfterWhole). a.table) as_far_as_it_goes) ∙ e) in
    omega (arith, z)

three_said : (no_room_is_three two_input 0 []).answer ≡ refused_alone 3
unfolding then guard need many byte_at span_at tlf_at length_from less_own list_of_at number bytes_at_claim raw_from raw_at unsigned_at signed_of signed_at bool_from bool_at octets_at absent_at optional time_at status_of status_at signed_value unsigned_value list_type_at value_of_claim value_at open_at close_at entry_at message_end_at list_start_at list_end_at content_at body_at start_at reflect polynomial bit_step bit_steps byte_step register final_xor crc_of crc_from trailer_at row_at inside_at whole_at flat
three_said = refl

three_read : (no_room_is_three two_input 0 (old 8)).answer ≡ whole_is (two_start 0) (some no_end) 2 45
unfolding then guard need many byte_at span_at tlf_at length_from less_own list_of_at number bytes_at_claim raw_from raw_at unsigned_at signed_of signed_at bool_from bool_at octets_at absent_at optional time_at status_of status_at signed_value unsigned_value list_type_at value_of_claim value_at open_at close_at entry_at message_end_at list_start_at list_end_at content_at body_at start_at reflect polynomial bit_step bit_steps byte_step register final_xor crc_of crc_from trailer_at row_at inside_at whole_at flat
three_read = refl

falls_three : RoomLast no_room_is_three → ⊥
falls_three h =
    let e = h.if two_input 0 [] (record { table = old 8; accepted = record { start = two_start 0; end = some no_end; rows = 2; next = 45; is = three_read } }) (λ a. not_refused_alone (sym three_said ∙ a.is)) in
    omega (arith, same_number (sym three_said ∙ e))

one_row : (one_row_at_most two_input 0 (old 20)).answer ≡ refused_alone 20
unfolding then guard need many byte_at span_at tlf_at length_from less_own list_of_at number bytes_at_claim raw_from raw_at unsigned_at signed_of signed_at bool_from bool_at octets_at absent_at optional time_at status_of status_at signed_value unsigned_value list_type_at value_of_claim value_at open_at close_at entry_at message_end_at list_start_at list_end_at content_at body_at start_at reflect polynomial bit_step bit_steps byte_step register final_xor crc_of crc_from trailer_at row_at inside_at whole_at flat fill_to read_to
one_row = refl

-- two entries in 45 bytes, for which five rows are always enough
falls_one_row : RoomLast one_row_at_most → ⊥
falls_one_row h = h.enough two_input 0 (old 20) (omega arith) one_row

-- ---- rows, and the list's end

-- the entry of a first row
record FirstIs (s : List ℕ) (r : EntryRow) : Type 0 where
  pub entry : ListEntry Span
  pub is : RowIs s r entry

first_entry_is : (s : List ℕ) (r : EntryRow) (rs : List EntryRow) (es : List (ListEntry Span)) → RowsAre s (r ∷ rs) es → FirstIs s r
first_entry_is s r rs (e ∷ es) h = record { entry = e; is = h.0 }
first_entry_is s r rs [] h = absurd h

no_entry : entry_at two_input 20 ≡ refused (mismatch 20)
unfolding then guard need byte_at span_at tlf_at length_from less_own list_of_at number bytes_at_claim raw_from raw_at unsigned_at signed_of signed_at bool_from bool_at octets_at absent_at optional time_at status_of status_at signed_value unsigned_value list_type_at value_of_claim value_at open_at close_at entry_at message_end_at list_start_at list_end_at content_at body_at start_at reflect polynomial bit_step bit_steps byte_step register final_xor crc_of crc_from trailer_at
no_entry = refl

falls_no_list_byte : AcceptsExactly without_its_list_byte → ⊥
unfolding fill_to flat
falls_no_list_byte h =
    let r = read_by without_its_list_byte h two_input 0 (old 8) (21 ∷ 1 ∷ 20 ∷ 9 ∷ 31 ∷ 1 ∷ 30 ∷ 9 ∷ []) (two_start 0) (some no_end) 2 45 two_fair (ap (λ (r : Read WholeMessage). fill_to (rows_turned (map behind_its_head) r) (old 8)) two_read) in
    let f = first_entry_is two_input (record { name = span_of 21 1; entry = span_of 20 9 }) (record { name = span_of 31 1; entry = span_of 30 9 } ∷ []) r.whole.content.entries r.rows_are in
    let i = f.is in
    let z : ◌≡◌ {A = ℕ} 0 1 = ap is_got (sym no_entry ∙ i.entry_is) in
    omega (arith, z)

entry_place : (e : ListEntry Span) (n : ℕ) → entry_at two_input 19 ≡ got e n → n ≡ 29
unfolding then guard need byte_at span_at tlf_at length_from less_own list_of_at number bytes_at_claim raw_from raw_at unsigned_at signed_of signed_at bool_from bool_at octets_at absent_at optional time_at status_of status_at signed_value unsigned_value list_type_at value_of_claim value_at open_at close_at entry_at message_end_at list_start_at list_end_at content_at body_at start_at reflect polynomial bit_step bit_steps byte_step register final_xor crc_of crc_from trailer_at
entry_place e n h = sym (ap next_read h)

falls_end_for_length : AcceptsExactly end_for_length → ⊥
unfolding fill_to flat
falls_end_for_length h =
    let r = read_by end_for_length h two_input 0 (old 8) (21 ∷ 1 ∷ 19 ∷ 29 ∷ 31 ∷ 1 ∷ 29 ∷ 39 ∷ []) (two_start 0) (some no_end) 2 45 two_fair (ap (λ (r : Read WholeMessage). fill_to (rows_turned (map up_to_its_end) r) (old 8)) two_read) in
    let f = first_entry_is two_input (record { name = span_of 21 1; entry = span_of 19 29 }) (record { name = span_of 31 1; entry = span_of 29 39 } ∷ []) r.whole.content.entries r.rows_are in
    let i = f.is in
    let z : ◌≡◌ {A = ℕ} 48 29 = entry_place f.entry 48 i.entry_is in
    omega (arith, z)

falls_last_first : AcceptsExactly last_row_first → ⊥
unfolding fill_to flat
falls_last_first h =
    let r = read_by last_row_first h two_input 0 (old 8) (31 ∷ 1 ∷ 29 ∷ 10 ∷ 21 ∷ 1 ∷ 19 ∷ 10 ∷ []) (two_start 0) (some no_end) 2 45 two_fair (ap (λ (r : Read WholeMessage). fill_to (rows_turned reverse r) (old 8)) two_read) in
    let c = r.chained in
    omega (arith, c.0, c.1)

falls_rest_cleared : AcceptsExactly clears_the_rest → ⊥
unfolding read_to fill_to flat
falls_rest_cleared h =
    let r = read_by clears_the_rest h two_input 0 (old 9) (21 ∷ 1 ∷ 19 ∷ 10 ∷ 31 ∷ 1 ∷ 29 ∷ 10 ∷ 0 ∷ []) (two_start 0) (some no_end) 2 45 two_fair (ap (λ (r : Read WholeMessage). record { answer = (fill_to r (old 9)).answer; table = cleared_behind (fill_to r (old 9)).answer (fill_to r (old 9)).table }) two_read) in
    let z : ◌≡◌ {A = ℕ} 0 0x77777777 = ap (λ (l : List ℕ). get_or l 0 0) r.rest in
    omega (arith, z)

-- a list behind an open: as above, 25 bytes on
abbrev open_two : List ℕ
open_two = open_input ++ two_input

behind_open : whole_at open_two 25 ≡ got (record { start = two_start 25; rows = record { name = span_of 46 1; entry = span_of 44 10 } ∷ record { name = span_of 56 1; entry = span_of 54 10 } ∷ []; end = some no_end }) 70
unfolding then guard need many byte_at span_at tlf_at length_from less_own list_of_at number bytes_at_claim raw_from raw_at unsigned_at signed_of signed_at bool_from bool_at octets_at absent_at optional time_at status_of status_at signed_value unsigned_value list_type_at value_of_claim value_at open_at close_at entry_at message_end_at list_start_at list_end_at content_at body_at start_at reflect polynomial bit_step bit_steps byte_step register final_xor crc_of crc_from trailer_at row_at inside_at whole_at flat
behind_open = refl

start_behind_open : start_at open_two 25 ≡ got (two_start 25) 44
unfolding then guard need many byte_at span_at tlf_at length_from less_own list_of_at number bytes_at_claim raw_from raw_at unsigned_at signed_of signed_at bool_from bool_at octets_at absent_at optional time_at status_of status_at signed_value unsigned_value list_type_at value_of_claim value_at open_at close_at entry_at message_end_at list_start_at list_end_at content_at body_at start_at reflect polynomial bit_step bit_steps byte_step register final_xor crc_of crc_from trailer_at row_at inside_at whole_at flat
start_behind_open = refl

falls_rows_from_the_message : AcceptsExactly rows_from_the_message → ⊥
unfolding fill_to flat
falls_rows_from_the_message h =
    let r = read_by rows_from_the_message h open_two 25 (old 8) (21 ∷ 1 ∷ 19 ∷ 10 ∷ 31 ∷ 1 ∷ 29 ∷ 10 ∷ []) (two_start 25) (some no_end) 2 70 (record { short = omega arith; inside = omega arith }) (ap (λ (r : Read WholeMessage). fill_to (rows_turned (map (placed_from 25)) r) (old 8)) behind_open) in
    let c = r.chained in
    let z : 44 ≡ r.first_entry = ap next_read (sym start_behind_open ∙ r.begun) in
    omega (arith, z, c.0)

falls_end_dropped : AcceptsExactly end_dropped → ⊥
unfolding read_to fill_to flat
falls_end_dropped h =
    let r = read_by our_whole_reader ours_good.accepts two_input 0 (old 8) _ (two_start 0) (some no_end) 2 45 two_fair (ap (λ (r : Read WholeMessage). fill_to r (old 8)) two_read) in
    let dropped : (end_dropped two_input 0 (old 8)).answer ≡ whole_is (two_start 0) none 2 45 = ap (λ (r : Read WholeMessage). (fill_to (without_end r) (old 8)).answer) two_read in
    let e = h.if two_input 0 (old 8) 45 r.whole two_fair r.runs (omega (arith, r.count)) in
    let z : ◌≡◌ {A = ℕ} 0 1 = ap (λ (x : WholeSaid). is_there (end_said_by x)) (sym dropped ∙ e) ∙ ap is_there r.end_is in
    omega (arith, z)
  where
    is_there : Option (ListEnd Span) → ℕ
    is_there (some e) = 1
    is_there none = 0

-- ---- the trailer, and what follows

-- a close with another CRC
abbrev close_other_crc : List ℕ
close_other_crc = 0x76 ∷ 0x03 ∷ 0xdd ∷ 0x43 ∷ 0x62 ∷ 0x00 ∷ 0x62 ∷ 0x00 ∷ 0x72 ∷ 0x63 ∷ 0x02 ∷ 0x01 ∷ 0x71 ∷ 0x01 ∷ 0x63 ∷ 0x0f ∷ 0x5a ∷ 0x00 ∷ []

abbrev close_start : MessageStart Span
close_start = body_with_id 2 (close_body (record { global_signature = none }))

close_fair : Fair close_input 0
close_fair = record { short = omega arith; inside = omega arith }

close_read_lem : whole_at close_input 0 ≡ got (record { start = close_start; rows = []; end = none }) 18
unfolding then guard need many byte_at span_at tlf_at length_from less_own list_of_at number bytes_at_claim raw_from raw_at unsigned_at signed_of signed_at bool_from bool_at octets_at absent_at optional time_at status_of status_at signed_value unsigned_value list_type_at value_of_claim value_at open_at close_at entry_at message_end_at list_start_at list_end_at content_at body_at start_at reflect polynomial bit_step bit_steps byte_step register final_xor crc_of crc_from trailer_at row_at inside_at whole_at flat
close_read_lem = refl

unjudged : trailer_not_judged close_other_crc 0 [] ≡ after_whole (whole_is close_start none 0 18) []
unfolding then guard need many byte_at span_at tlf_at length_from less_own list_of_at number bytes_at_claim raw_from raw_at unsigned_at signed_of signed_at bool_from bool_at octets_at absent_at optional time_at status_of status_at signed_value unsigned_value list_type_at value_of_claim value_at open_at close_at entry_at message_end_at list_start_at list_end_at content_at body_at start_at reflect polynomial bit_step bit_steps byte_step register final_xor crc_of crc_from trailer_at row_at inside_at whole_at flat fill_to
unjudged = refl

cut_at_18 : is_refused (call_at (take 18 close_other_crc) 0 1) ≡ true
unfolding then guard need many byte_at span_at tlf_at length_from less_own list_of_at number bytes_at_claim raw_from raw_at unsigned_at signed_of signed_at bool_from bool_at octets_at absent_at optional time_at status_of status_at signed_value unsigned_value list_type_at value_of_claim value_at open_at close_at entry_at message_end_at list_start_at list_end_at content_at body_at start_at reflect polynomial bit_step bit_steps byte_step register final_xor crc_of crc_from trailer_at row_at inside_at whole_at flat call next_at step_at begin_at trailer_next onward
cut_at_18 = refl

cut_at_17 : is_refused (call_at (take 17 close_input) 0 1) ≡ true
unfolding then guard need byte_at span_at tlf_at length_from less_own list_of_at number bytes_at_claim raw_from raw_at unsigned_at signed_of signed_at bool_from bool_at octets_at absent_at optional time_at status_of status_at signed_value unsigned_value list_type_at value_of_claim value_at open_at close_at entry_at message_end_at list_start_at list_end_at content_at body_at start_at reflect polynomial bit_step bit_steps byte_step register final_xor crc_of crc_from trailer_at call next_at step_at begin_at trailer_next onward
cut_at_17 = refl

never_runs : (s : List ℕ) (at next k : ℕ) (m : Message Span) → is_refused (call_at (take next s) at k) ≡ true → RunsTo s at next m → ⊥
never_runs s at next k m e r = no_confusion (sym e ∙ ap is_refused (r.gives k) ∙ events_never_refused (message_events m) k)

falls_no_trailer : AcceptsExactly trailer_not_judged → ⊥
falls_no_trailer h =
    let r = read_by trailer_not_judged h close_other_crc 0 [] [] close_start none 0 18 (record { short = omega arith; inside = omega arith }) unjudged in
    never_runs close_other_crc 0 18 1 r.whole cut_at_18 r.runs

-- a close behind an open, which is read, and whose CRC from the input's first byte on is another
abbrev open_close : List ℕ
open_close = open_input ++ close_input

close_behind_open : read_to open_close 25 [] ≡ after_whole (whole_is (body_with_id 27 (close_body (record { global_signature = none }))) none 0 43) []
unfolding then guard need many byte_at span_at tlf_at length_from less_own list_of_at number bytes_at_claim raw_from raw_at unsigned_at signed_of signed_at bool_from bool_at octets_at absent_at optional time_at status_of status_at signed_value unsigned_value list_type_at value_of_claim value_at open_at close_at entry_at message_end_at list_start_at list_end_at content_at body_at start_at reflect polynomial bit_step bit_steps byte_step register final_xor crc_of crc_from trailer_at row_at inside_at whole_at flat fill_to read_to
close_behind_open = refl

other_from_the_input : (crc_from_the_input open_close 25 []).answer ≡ broken (crc_mismatch 39)
unfolding then guard need many byte_at span_at tlf_at length_from less_own list_of_at number bytes_at_claim raw_from raw_at unsigned_at signed_of signed_at bool_from bool_at octets_at absent_at optional time_at status_of status_at signed_value unsigned_value list_type_at value_of_claim value_at open_at close_at entry_at message_end_at list_start_at list_end_at content_at body_at start_at reflect polynomial bit_step bit_steps byte_step register final_xor crc_of crc_from trailer_at row_at inside_at whole_at flat fill_to
other_from_the_input = refl

falls_crc_from_the_input : AcceptsExactly crc_from_the_input → ⊥
falls_crc_from_the_input h =
    let fair : Fair open_close 25 = record { short = omega arith; inside = omega arith } in
    let r = read_by our_whole_reader ours_good.accepts open_close 25 [] [] _ _ 0 43 fair close_behind_open in
    not_broken (sym other_from_the_input ∙ h.if open_close 25 [] 43 r.whole fair r.runs (omega (arith, r.count)))

falls_end_too_early : AcceptsExactly ends_before_its_end → ⊥
unfolding read_to fill_to flat
falls_end_too_early h =
    let r = read_by ends_before_its_end h close_input 0 [] [] close_start none 0 17 close_fair (ap (λ (r : Read WholeMessage). record { answer = next_before (fill_to r []).answer; table = (fill_to r []).table }) close_read_lem) in
    never_runs close_input 0 17 1 r.whole cut_at_17 r.runs

filled_early : fills_before_the_trailer (two_begin ++ (0x77 ∷ two_rest) ++ 0x63 ∷ 0x01 ∷ 0x92 ∷ 0x00 ∷ []) 0 (old 8) ≡ after_whole (broken (crc_mismatch 41)) (21 ∷ 1 ∷ 19 ∷ 10 ∷ 31 ∷ 1 ∷ 29 ∷ 10 ∷ [])
unfolding then guard need many byte_at span_at tlf_at length_from less_own list_of_at number bytes_at_claim raw_from raw_at unsigned_at signed_of signed_at bool_from bool_at octets_at absent_at optional time_at status_of status_at signed_value unsigned_value list_type_at value_of_claim value_at open_at close_at entry_at message_end_at list_start_at list_end_at content_at body_at start_at reflect polynomial bit_step bit_steps byte_step register final_xor crc_of crc_from trailer_at row_at inside_at whole_at flat fill_to read_to
filled_early = refl

falls_filled_early : LeavesTable fills_before_the_trailer → ⊥
falls_filled_early h =
    let e = h (two_begin ++ (0x77 ∷ two_rest) ++ 0x63 ∷ 0x01 ∷ 0x92 ∷ 0x00 ∷ []) 0 (old 8) (λ a. not_broken (sym (ap (λ (a : AfterWhole). a.answer) filled_early) ∙ a.is)) in
    let z : ◌≡◌ {A = ℕ} 21 0x77777777 = ap (λ (l : List ℕ). get_or l 0 0) (sym (ap (λ (a : AfterWhole). a.table) filled_early) ∙ e) in
    omega (arith, z)

next_right : (next_message_judged close_input 0 []).answer ≡ whole_is close_start none 0 18
unfolding then guard need many byte_at span_at tlf_at length_from less_own list_of_at number bytes_at_claim raw_from raw_at unsigned_at signed_of signed_at bool_from bool_at octets_at absent_at optional time_at status_of status_at signed_value unsigned_value list_type_at value_of_claim value_at open_at close_at entry_at message_end_at list_start_at list_end_at content_at body_at start_at reflect polynomial bit_step bit_steps byte_step register final_xor crc_of crc_from trailer_at row_at inside_at whole_at flat fill_to
next_right = refl

next_wrong : (next_message_judged (close_input ++ 0x10 ∷ []) 0 []).answer ≡ broken (invalid_ty 18)
unfolding then guard need many byte_at span_at tlf_at length_from less_own list_of_at number bytes_at_claim raw_from raw_at unsigned_at signed_of signed_at bool_from bool_at octets_at absent_at optional time_at status_of status_at signed_value unsigned_value list_type_at value_of_claim value_at open_at close_at entry_at message_end_at list_start_at list_end_at content_at body_at start_at reflect polynomial bit_step bit_steps byte_step register final_xor crc_of crc_from trailer_at row_at inside_at whole_at flat fill_to
next_wrong = refl

falls_next_judged : RestNotRead next_message_judged → ⊥
falls_next_judged h =
    not_broken (sym next_wrong ∙ ap (λ (a : AfterWhole). a.answer) (h close_input 0 [] close_start none 0 18 close_fair next_right (0x10 ∷ []) (omega arith)) ∙ next_right)

more_read : whole_at (close_input ++ 0x00 ∷ []) 0 ≡ got (record { start = close_start; rows = []; end = none }) 18
unfolding then guard need many byte_at span_at tlf_at length_from less_own list_of_at number bytes_at_claim raw_from raw_at unsigned_at signed_of signed_at bool_from bool_at octets_at absent_at optional time_at status_of status_at signed_value unsigned_value list_type_at value_of_claim value_at open_at close_at entry_at message_end_at list_start_at list_end_at content_at body_at start_at reflect polynomial bit_step bit_steps byte_step register final_xor crc_of crc_from trailer_at row_at inside_at whole_at flat
more_read = refl

falls_more_bytes : RestNotRead more_bytes_refused → ⊥
unfolding fill_to
falls_more_bytes h =
    let alone : (more_bytes_refused close_input 0 []).answer ≡ whole_is close_start none 0 18 = ap (λ (r : Read WholeMessage). (fill_to (only_all 18 r) []).answer) close_read_lem in
    let more : (more_bytes_refused (close_input ++ 0x00 ∷ []) 0 []).answer ≡ broken (wrong_end 18) = ap (λ (r : Read WholeMessage). (fill_to (only_all 19 r) []).answer) more_read in
    not_broken (sym more ∙ ap (λ (a : AfterWhole). a.answer) (h close_input 0 [] close_start none 0 18 close_fair alone (0x00 ∷ []) (omega arith)) ∙ alone)

-- ---- refusals, and other kinds

falls_nothing_at_the_end : RefusesAlike empty_is_nothing → ⊥
falls_nothing_at_the_end h = never_broken (h.empty [] [] (omega arith))

number_only : (faults_untold (0x10 ∷ []) 0 []).answer ≡ refused_alone 11
unfolding then guard need many byte_at span_at tlf_at length_from less_own list_of_at number bytes_at_claim raw_from raw_at unsigned_at signed_of signed_at bool_from bool_at octets_at absent_at optional time_at status_of status_at signed_value unsigned_value list_type_at value_of_claim value_at open_at close_at entry_at message_end_at list_start_at list_end_at content_at body_at start_at reflect polynomial bit_step bit_steps byte_step register final_xor crc_of crc_from trailer_at row_at inside_at whole_at flat fill_to read_to
number_only = refl

no_message_lem : message_at (0x10 ∷ []) 0 ≡ refused (invalid_ty 0)
unfolding then guard need many byte_at span_at tlf_at length_from less_own list_of_at number bytes_at_claim raw_from raw_at unsigned_at signed_of signed_at bool_from bool_at octets_at absent_at optional time_at status_of status_at signed_value unsigned_value list_type_at value_of_claim value_at open_at close_at entry_at message_end_at list_start_at list_end_at content_at body_at start_at reflect polynomial bit_step bit_steps byte_step register final_xor crc_of crc_from trailer_at row_at inside_at whole_at flat message_at
no_message_lem = refl

falls_untold : RefusesAlike faults_untold → ⊥
falls_untold h =
    let fair : Fair (0x10 ∷ []) 0 = record { short = omega arith; inside = omega arith } in
    let b = h.must (0x10 ∷ []) 0 [] fair (λ next m r. never_both (sym (run_found (0x10 ∷ []) 0 next m fair r) ∙ no_message_lem)) in
    never_broken (sym number_only ∙ b.is)

second_byte : whole_at (0x00 ∷ 0x10 ∷ []) 1 ≡ refused (invalid_ty 1)
unfolding then guard need many byte_at span_at tlf_at length_from less_own list_of_at number bytes_at_claim raw_from raw_at unsigned_at signed_of signed_at bool_from bool_at octets_at absent_at optional time_at status_of status_at signed_value unsigned_value list_type_at value_of_claim value_at open_at close_at entry_at message_end_at list_start_at list_end_at content_at body_at start_at reflect polynomial bit_step bit_steps byte_step register final_xor crc_of crc_from trailer_at row_at inside_at whole_at flat
second_byte = refl

second_call : call_at (0x00 ∷ 0x10 ∷ []) 1 0 ≡ failed (invalid_ty 1)
unfolding then guard need byte_at span_at tlf_at length_from less_own list_of_at number bytes_at_claim raw_from raw_at unsigned_at signed_of signed_at bool_from bool_at octets_at absent_at optional time_at status_of status_at signed_value unsigned_value list_type_at value_of_claim value_at open_at close_at entry_at message_end_at list_start_at list_end_at content_at body_at start_at reflect polynomial bit_step bit_steps byte_step register final_xor crc_of crc_from trailer_at call next_at step_at begin_at trailer_next onward
second_call = refl

first_place_lem : (says : ℕ → Said) (f g : Refusal) → says 0 ≡ failed g → RefusesFirst says f → g ≡ f
first_place_lem says f g e r = by r.k r.refuses r.before
  where
    by : (k : ℕ) → says k ≡ failed f → ((j : ℕ) → j < k → is_refused (says j) ≡ false) → g ≡ f
    by zero h b = ap (failed_or g) (sym e ∙ h)
    by (suc k) h b = absurd (no_confusion (sym (ap is_refused e) ∙ b 0 (omega arith)))

falls_from_the_message : RefusesAlike places_from_the_message → ⊥
unfolding fill_to
falls_from_the_message h =
    let r = h.first (0x00 ∷ 0x10 ∷ []) 1 [] (invalid_ty 0) (record { short = omega arith; inside = omega arith }) (omega arith) (ap (λ (r : Read WholeMessage). (fill_to (from_the_message 1 r) []).answer) second_byte) in
    let z : ◌≡◌ {A = ℕ} 1 0 = ap (λ (f : Refusal). f.place) (first_place_lem (call_at (0x00 ∷ 0x10 ∷ []) 1) (invalid_ty 0) (invalid_ty 1) second_call r) in
    omega (arith, z)

falls_other_kinds : AcceptsExactly other_kinds_refused → ⊥
unfolding read_to fill_to flat
falls_other_kinds h =
    let r = read_by our_whole_reader ours_good.accepts close_input 0 [] [] close_start none 0 18 close_fair (ap (λ (r : Read WholeMessage). fill_to r []) close_read_lem) in
    let a = h.if close_input 0 [] 18 r.whole close_fair r.runs (omega (arith, r.count)) in
    let lost : (other_kinds_refused close_input 0 []).answer ≡ broken (unexpected 0) = ap (λ (r : Read WholeMessage). (fill_to (if_list 0 r) []).answer) close_read_lem in
    not_broken (sym lost ∙ a)

ended_there : (place_not_judged [] 1 []).answer ≡ broken (eof 0)
unfolding then guard need many byte_at span_at tlf_at length_from less_own list_of_at number bytes_at_claim raw_from raw_at unsigned_at signed_of signed_at bool_from bool_at octets_at absent_at optional time_at status_of status_at signed_value unsigned_value list_type_at value_of_claim value_at open_at close_at entry_at message_end_at list_start_at list_end_at content_at body_at start_at reflect polynomial bit_step bit_steps byte_step register final_xor crc_of crc_from trailer_at row_at inside_at whole_at flat fill_to
ended_there = refl

falls_place_not_judged : JudgesFirst place_not_judged → ⊥
falls_place_not_judged h = never_broken (sym (ap (λ (a : AfterWhole). a.answer) (h.beyond [] 1 [] (omega arith) (omega arith))) ∙ ended_there)

not_nine : (s : List ℕ) (at : ℕ) (t : List ℕ) (a : AfterWhole) → length s ≤ limit → WholeOutcome s at t a → a.answer ≡ refused_alone 9 → ⊥
not_nine s at t a short (too_long h) e = omega arith
not_nine s at t a short (place_beyond h k) e = omega (arith, same_number e)
not_nine s at t a short (broken_at h f q) e = never_broken (sym e)
not_nine s at t a short (table_full h w n q l) e = omega (arith, same_number e)
not_nine s at t a short (taken_whole h w n q l) e = not_refused_alone (sym e)

long_not_cut : (s : List ℕ) → limit < length s → JudgesFirst long_input_cut → ⊥
long_not_cut s lt h =
    not_nine (take limit s) 0 [] (read_to (take limit s) 0 []) (omega (arith, length-take-le limit s (omega arith))) (whole_outcome (take limit s) 0 []) (ap (λ (a : AfterWhole). a.answer) (h.long s 0 [] lt))

long_by : (n : ℕ) → limit < n → JudgesFirst long_input_cut → ⊥
long_by n lt h = long_not_cut (replicate n 0) (subst (λ (k : ℕ). limit < k) (sym (length-replicate {A = ℕ} n 0)) lt) h

falls_long_cut : JudgesFirst long_input_cut → ⊥
falls_long_cut h = long_by 1048577 (omega arith) h

pub fall_whole_readers : FallWholeReaders
fall_whole_readers =
    record {
      ours = ours_by;
      ours_filled = ours_filled;
      ours_closed = ours_closed;
      in_numbers = falls_in_numbers;
      half_row = falls_half_row;
      room_first_claim = falls_room_first;
      as_far_as_it_goes = falls_as_far_as_it_goes;
      three = falls_three;
      one_row = falls_one_row;
      filled_early = falls_filled_early;
      no_trailer = falls_no_trailer;
      crc_from_the_input_claim = falls_crc_from_the_input;
      next_judged = falls_next_judged;
      more_bytes = falls_more_bytes;
      no_list_byte = falls_no_list_byte;
      end_for_length_claim = falls_end_for_length;
      last_first = falls_last_first;
      rows_from_the_message_claim = falls_rows_from_the_message;
      end_dropped_claim = falls_end_dropped;
      rest_cleared = falls_rest_cleared;
      end_too_early = falls_end_too_early;
      nothing_at_the_end = falls_nothing_at_the_end;
      untold = falls_untold;
      from_the_message_claim = falls_from_the_message;
      other_kinds = falls_other_kinds;
      place_not_judged_claim = falls_place_not_judged;
      long_cut = falls_long_cut;
    }
