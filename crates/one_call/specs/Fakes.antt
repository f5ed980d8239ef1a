-- check: readers of whole messages that are wrong in one way each; a claim is false of each.
use Rattle.std.specs.Prelude.{ℕ, ◌+◌, ◌-◌, ◌*◌, ◌/◌, cond, List, [], ◌++◌, map, reverse, length, take, drop, replicate, eqb, ltb, leb}
use Rattle.std.proofs.Math.Option.{none}
use Rattle.refusals.specs.Numbers.{decoder_out_of_memory_no, bad_state_no, input_too_long_no, too_many_entries_no, limit}
use Rattle.refusals.specs.Read.{Read, got, refused, then, unexpected, wrong_end, byte_at}
use Rattle.refusals.specs.declared.Span.{Span}
use Rattle.numbers.specs.Numbers.{unsigned_at}
use Rattle.message.specs.Messages.{MessageStart, Body, open_body, close_body, list_body, start_at}
use Rattle.trailer.specs.Trailer.{trailer_at}
use Rattle.whole.specs.Whole.{EntryRow, WholeMessage, inside_at, whole_at, flat, WholeSaid, whole_is, broken, refused_alone, AfterWhole, fill_to, read_to}
use Rattle.whole.specs.Answers.{after_whole}
use Rattle.one_call.specs.Readers.{WholeReader, AcceptsExactly, RefusesAlike, RoomLast, LeavesTable, RestNotRead, JudgesFirst, SameWhole}

-- ours, but for what is done once 9 and 4 are judged
abbrev pub once_judged : WholeReader → WholeReader
once_judged R s at t =
    cond (ltb limit (length s)) (after_whole (refused_alone input_too_long_no) t)
    (cond (ltb (length s) at) (after_whole (refused_alone bad_state_no) t)
    (R s at t))

-- ours, but for how a message is read
abbrev pub reads_by : (List ℕ → ℕ → Read WholeMessage) → WholeReader
reads_by read = once_judged (λ s at t. fill_to (read s at) t)

-- ours, but for how many rows a table has room for, and what is done where that is too few
abbrev pub fill_by : (List ℕ → ℕ) → (List EntryRow → List ℕ → AfterWhole) → Read WholeMessage → List ℕ → AfterWhole
fill_by room full (refused f) t = after_whole (broken f) t
fill_by room full (got w next) t =
    cond (ltb (room t) (length w.rows)) (full w.rows t)
    (after_whole (whole_is w.start w.end (length w.rows) next) (flat w.rows ++ drop (4 * length w.rows) t))

abbrev pub fills_by : (List ℕ → ℕ) → (List EntryRow → List ℕ → AfterWhole) → WholeReader
fills_by room full = once_judged (λ s at t. fill_by room full (whole_at s at) t)

-- with ours: four numbers a row, and 20, which leaves the table
abbrev pub rows_for : List ℕ → ℕ
rows_for t = length t / 4

abbrev pub answers_twenty : List EntryRow → List ℕ → AfterWhole
answers_twenty rows t = after_whole (refused_alone too_many_entries_no) t

-- ---- room

-- a table of three numbers has room for three rows
abbrev pub room_in_numbers : WholeReader
room_in_numbers = fills_by length answers_twenty

-- a table has room for a row of which it holds a part
abbrev pub half_row_is_room : WholeReader
half_row_is_room = fills_by (λ t. (length t + 3) / 4) answers_twenty

-- 20 as soon as a list announces more than the table has room for
abbrev pub announced : Body Span → ℕ
announced (open_body b) = 0
announced (close_body b) = 0
announced (list_body b) = b.num_vals

abbrev pub room_for_announced : Read (MessageStart Span) → List ℕ → AfterWhole → AfterWhole
room_for_announced (got m n) t a = cond (ltb (rows_for t) (announced m.message_body)) (answers_twenty [] t) a
room_for_announced (refused f) t a = a

abbrev pub room_before_reading : WholeReader
room_before_reading = once_judged (λ s at t. room_for_announced (start_at s at) t (read_to s at t))

-- rows that find room are stored, also where the answer is 20
abbrev pub filled_as_far_as_it_goes : WholeReader
filled_as_far_as_it_goes = fills_by rows_for (λ rows t. after_whole (refused_alone too_many_entries_no) (flat (take (rows_for t) rows) ++ drop (4 * rows_for t) t))

-- no room is 3, as with the decoder's buffer
abbrev pub no_room_is_three : WholeReader
no_room_is_three = fills_by rows_for (λ rows t. after_whole (refused_alone decoder_out_of_memory_no) t)

-- of a table of any length one row is used
abbrev pub one_row_at_most : WholeReader
one_row_at_most = fills_by (λ t. rows_for (take 4 t)) answers_twenty

-- ---- the trailer, and what follows

-- a message up to its trailer
abbrev pub until_trailer : List ℕ → ℕ → Read WholeMessage
until_trailer s at = then (start_at s at) λ start n. inside_at start start.message_body s n

-- rows are stored before CRC and end byte are judged
abbrev pub fills_before_the_trailer : WholeReader
fills_before_the_trailer = once_judged (λ s at t. after_whole (read_to s at t).answer (fill_to (until_trailer s at) t).table)

-- ours, but for how the trailer is read, of an input, the message's place and its own
abbrev pub trailer_by : (List ℕ → ℕ → ℕ → Read (Unit {0})) → WholeReader
trailer_by trailer = reads_by (λ s at. then (until_trailer s at) λ w n. then (trailer s at n) λ u m. got w m)

-- CRC and end byte are passed over, and neither is judged
abbrev pub trailer_not_judged : WholeReader
trailer_not_judged = trailer_by (λ s at n. then (unsigned_at 2 s n) λ crc m. then (byte_at s m) λ end k. got tt k)

-- the CRC is counted from the input's first byte on
abbrev pub crc_from_the_input : WholeReader
crc_from_the_input = trailer_by (λ s at n. trailer_at s 0 n)

-- the next message's start is judged too
abbrev pub start_behind : List ℕ → Read WholeMessage → Read WholeMessage
start_behind s (got w n) = cond (leb (length s) n) (got w n) (then (start_at s n) λ next m. got w n)
start_behind s (refused f) = refused f

abbrev pub next_message_judged : WholeReader
next_message_judged = reads_by (λ s at. start_behind s (whole_at s at))

-- a message must be all that is left of the input
abbrev pub only_all : ℕ → Read WholeMessage → Read WholeMessage
only_all end (got w n) = cond (eqb n end) (got w n) (refused (wrong_end n))
only_all end (refused f) = refused f

abbrev pub more_bytes_refused : WholeReader
more_bytes_refused = reads_by (λ s at. only_all (length s) (whole_at s at))

-- ---- rows, and the list's end

-- what is read, with other rows
abbrev pub rows_turned : (List EntryRow → List EntryRow) → Read WholeMessage → Read WholeMessage
rows_turned f (got w n) = got (record { start = w.start; rows = f w.rows; end = w.end }) n
rows_turned f (refused g) = refused g

-- a row begins behind its entry's 77
abbrev pub behind_its_head : EntryRow → EntryRow
behind_its_head r = record { name = r.name; entry = record { start = r.entry.start + 1; len = r.entry.len - 1 } }

abbrev pub without_its_list_byte : WholeReader
without_its_list_byte = reads_by (λ s at. rows_turned (map behind_its_head) (whole_at s at))

-- the place behind an entry in place of its length
abbrev pub up_to_its_end : EntryRow → EntryRow
up_to_its_end r = record { name = r.name; entry = record { start = r.entry.start; len = r.entry.start + r.entry.len } }

abbrev pub end_for_length : WholeReader
end_for_length = reads_by (λ s at. rows_turned (map up_to_its_end) (whole_at s at))

-- the last entry first
abbrev pub last_row_first : WholeReader
last_row_first = reads_by (λ s at. rows_turned reverse (whole_at s at))

-- rows' places are counted from the message's first byte
abbrev pub placed_from : ℕ → EntryRow → EntryRow
placed_from at r = record { name = record { start = r.name.start - at; len = r.name.len }; entry = record { start = r.entry.start - at; len = r.entry.len } }

abbrev pub rows_from_the_message : WholeReader
rows_from_the_message = reads_by (λ s at. rows_turned (map (placed_from at)) (whole_at s at))

-- a list's end is not handed back
abbrev pub without_end : Read WholeMessage → Read WholeMessage
without_end (got w n) = got (record { start = w.start; rows = w.rows; end = none }) n
without_end (refused f) = refused f

abbrev pub end_dropped : WholeReader
end_dropped = reads_by (λ s at. without_end (whole_at s at))

-- what stands behind the rows is cleared
abbrev pub cleared_behind : WholeSaid → List ℕ → List ℕ
cleared_behind (whole_is start end rows next) t = take (4 * rows) t ++ replicate (length t - 4 * rows) 0
cleared_behind (broken f) t = t
cleared_behind (refused_alone n) t = t

abbrev pub clears_the_rest : WholeReader
clears_the_rest s at t = let a : AfterWhole = read_to s at t in after_whole a.answer (cleared_behind a.answer a.table)

-- the place behind the CRC, before the end byte
abbrev pub next_before : WholeSaid → WholeSaid
next_before (whole_is start end rows next) = whole_is start end rows (next - 1)
next_before (broken f) = broken f
next_before (refused_alone n) = refused_alone n

abbrev pub ends_before_its_end : WholeReader
ends_before_its_end s at t = let a : AfterWhole = read_to s at t in after_whole (next_before a.answer) a.table

-- ---- refusals, and other kinds

-- at the input's end there is nothing to say
abbrev pub empty_is_nothing : WholeReader
empty_is_nothing = once_judged (λ s at t. cond (eqb at (length s)) (after_whole (refused_alone 0) t) (read_to s at t))

-- of a message that has begun a refusal's number is told, and not its place
abbrev pub number_alone : WholeSaid → WholeSaid
number_alone (whole_is start end rows next) = whole_is start end rows next
number_alone (broken f) = refused_alone f.number
number_alone (refused_alone n) = refused_alone n

abbrev pub faults_untold : WholeReader
faults_untold s at t = let a : AfterWhole = read_to s at t in after_whole (cond (ltb at (length s)) (number_alone a.answer) a.answer) a.table

-- a refusal's place is counted from the message's first byte
abbrev pub from_the_message : ℕ → Read WholeMessage → Read WholeMessage
from_the_message at (got w n) = got w n
from_the_message at (refused f) = refused (record { number = f.number; kind = f.kind; place = f.place - at })

abbrev pub places_from_the_message : WholeReader
places_from_the_message = reads_by (λ s at. from_the_message at (whole_at s at))

-- an open or a close has no list
abbrev pub only_lists : ℕ → Body Span → Read WholeMessage → Read WholeMessage
only_lists at (open_body b) r = refused (unexpected at)
only_lists at (close_body b) r = refused (unexpected at)
only_lists at (list_body b) r = r

abbrev pub if_list : ℕ → Read WholeMessage → Read WholeMessage
if_list at (got w n) = only_lists at w.start.message_body (got w n)
if_list at (refused f) = refused f

abbrev pub other_kinds_refused : WholeReader
other_kinds_refused = reads_by (λ s at. if_list at (whole_at s at))

-- a place beyond the input is one where the input has ended
abbrev pub place_not_judged : WholeReader
place_not_judged s at t = cond (ltb limit (length s)) (after_whole (refused_alone input_too_long_no) t) (fill_to (whole_at s at) t)

-- a longer input is cut off at the limit
abbrev pub long_input_cut : WholeReader
long_input_cut s at t = read_to (take limit s) at t

pub record FallWholeReaders : Type 0 where
  pub ours : SameWhole (reads_by whole_at) read_to
  pub ours_filled : SameWhole (fills_by rows_for answers_twenty) read_to
  pub ours_closed : SameWhole (trailer_by trailer_at) read_to
  pub in_numbers : AcceptsExactly room_in_numbers → ⊥
  pub half_row : AcceptsExactly half_row_is_room → ⊥
  pub room_first_claim : RoomLast room_before_reading → ⊥
  pub as_far_as_it_goes : LeavesTable filled_as_far_as_it_goes → ⊥
  pub three : RoomLast no_room_is_three → ⊥
  pub one_row : RoomLast one_row_at_most → ⊥
  pub filled_early : LeavesTable fills_before_the_trailer → ⊥
  pub no_trailer : AcceptsExactly trailer_not_judged → ⊥
  pub crc_from_the_input_claim : AcceptsExactly crc_from_the_input → ⊥
  pub next_judged : RestNotRead next_message_judged → ⊥
  pub more_bytes : RestNotRead more_bytes_refused → ⊥
  pub no_list_byte : AcceptsExactly without_its_list_byte → ⊥
  pub end_for_length_claim : AcceptsExactly end_for_length → ⊥
  pub last_first : AcceptsExactly last_row_first → ⊥
  pub rows_from_the_message_claim : AcceptsExactly rows_from_the_message → ⊥
  pub end_dropped_claim : AcceptsExactly end_dropped → ⊥
  pub rest_cleared : AcceptsExactly clears_the_rest → ⊥
  pub end_too_early : AcceptsExactly ends_before_its_end → ⊥
  pub nothing_at_the_end : RefusesAlike empty_is_nothing → ⊥
  pub untold : RefusesAlike faults_untold → ⊥
  pub from_the_message_claim : RefusesAlike places_from_the_message → ⊥
  pub other_kinds : AcceptsExactly other_kinds_refused → ⊥
  pub place_not_judged_claim : JudgesFirst place_not_judged → ⊥
  pub long_cut : JudgesFirst long_input_cut → ⊥
