-- Each fake falls. Who keeps a claim does as ours do, so one input at which it doesn't is enough.
use mathlib.Core.Path.{◌≡◌, refl, sym, ap, ◌∙◌, subst}
use mathlib.Core.Bool.{true, false, true≢false}
use mathlib.Core.List.{List, [], ◌∷◌, ◌++◌, Memᴰ}
use mathlib.Core.Option.{some, none}
use Prim.Native.Nat.{ℕ, ◌+◌, ◌*◌, ◌≤◌, ◌<◌}
use native.Mathlib.Omega.{arith}
use lib.ListN.{length, get_or, take, drop, replicate, length-replicate}
use lib.Seq.{length-take-le}
use Rattle.refusals.specs.Numbers.{limit}
use Rattle.refusals.specs.declared.Span.{Span}
use Rattle.frame.specs.Frame.{same}
use Rattle.crc_x25.specs.Crc.{reflect, polynomial, bit_step, bit_steps, byte_step, register, final_xor, crc_of}
use Rattle.refusals.specs.Read.{then, guard, need, many, byte_at, span_at}
use Rattle.tlf.specs.Lengths.{tlf_at, length_from, less_own, list_of_at}
use Rattle.numbers.specs.Numbers.{number, bytes_at_claim, raw_from, raw_at, unsigned_at, signed_of, signed_at, bool_from, bool_at}
use Rattle.octet_string.specs.Strings.{octets_at, span_within, part_of}
use Rattle.octet_string.specs.Optional.{absent_at, optional}
use Rattle.value.specs.Values.{time_at, status_of, status_at, signed_value, unsigned_value, list_type_at, value_of_claim, value_at}
use Rattle.common.specs.Fields.{ListEntry, open_at, close_at, entry_at}
use Rattle.message.specs.Messages.{MessageStart, list_body, list_start_at, list_end_at, content_at, body_at, start_at}
use Rattle.trailer.specs.Trailer.{message_end_at, crc_from, trailer_at}
use Rattle.whole.specs.Whole.{EntryRow, row_at, inside_at, whole_at, flat, rows_of, WholeSaid, whole_is, broken, refused_alone, fill_to, read_to, Fair}
use Rattle.name_order.specs.Order.{lower}
use Rattle.one_call.specs.Readers.{RowIs}
use Rattle.one_call.specs.Bench.{old, span_of, body_with_id, no_end}
use Rattle.one_call.proofs.Readers.{ours_good}
use Rattle.index.specs.Index.{before, insert, sorted, sorted_to, index_is, AfterIndex, index_of, index_to, row_within, every, rising, is_table, first_with, has_name, FoundSaid, found_row, found_none, look_refused, look_up_in}
use Rattle.index.specs.Answers.{after_index}
use Rattle.index.proofs.Finds.{sorted_length}
use Rattle.index.proofs.Tables.{look_outcome}
use Rattle.by_name.specs.Indexes.{Indexer, Finder, our_indexer, our_finder, GoodIndexer, JudgesTables, FirstNamed, first_named, none_named, entry_name, FindsFirst, BuildsTables}
use Rattle.by_name.specs.Bench.{six_input, six_table, small}
use Rattle.by_name.specs.Fakes.{rows_by, signed_bytes, index_by_claim, in_message_order, greatest_first, shorter_first, last_of_a_name_first, by_place_alone, a_row_for_each_name, all_rows_sorted, over_reader, index_as_far_as_it_goes, look_by, is_sound_table, first_by_name, judge_by, last_of_equal_names, prefix_is_the_name, name_is_a_prefix, equal_rows_in_order, order_by_name_alone, one_row_a_name, order_not_judged, entry_not_judged, name_not_judged, start_plus_length_wraps, part_of_a_row_ignored, judged_up_to_the_name, empty_table_refused, rows_must_be_entries, unsound_is_none, table_before_length, look_in_first_part, empty_input_is_ten, SameIndexer, SameFinder, FallIndexes}
use Rattle.by_name.proofs.Rows.{rows_length, is_sound_lem}
use Rattle.by_name.proofs.Indexes.{looked_in_lem, ours_find}
use Rattle.by_name.proofs.Unique.{only_our_indexer, only_our_finder}

-- ---- ours

ours_by : (x : WholeSaid) (s t : List ℕ) → rows_by (sorted (before s)) x t ≡ index_of s x t
unfolding index_of sorted_to
ours_by (whole_is start end rows next) s t =
    let e : length (sorted (before s) (rows_of rows t)) ≡ rows = sorted_length (before s) (rows_of rows t) ∙ rows_length rows t in
    λ i. after_index (index_is (e i) next) (flat (sorted (before s) (rows_of rows t)) ++ drop (4 * e i) t)
ours_by (broken f) s t = refl
ours_by (refused_alone n) s t = refl

ours_index : SameIndexer (index_by_claim (λ s. sorted (before s))) our_indexer
unfolding index_to
ours_index s at t = ours_by (read_to s at t).answer s (read_to s at t).table

ours_over : SameIndexer (over_reader read_to) our_indexer
unfolding index_to
ours_over s at t = refl

ours_looked : SameFinder (look_by is_sound_table first_by_name) our_finder
unfolding look_up_in
ours_looked s t name = refl

ours_judged : SameFinder (look_by (judge_by row_within before) first_by_name) our_finder
unfolding look_up_in is_table
ours_judged s t name = refl

-- ---- building: a number of the table differs

differs : (B : Indexer) (s : List ℕ) (at : ℕ) (t : List ℕ) (i : ℕ) → (get_or (B s at t).table i 0 ≡ get_or (index_to s at t).table i 0 → ⊥) → GoodIndexer B → ⊥
differs B s at t i n h = n (ap (λ (a : AfterIndex). get_or a.table i 0) (only_our_indexer B h s at t))

falls_message_order : GoodIndexer in_message_order → ⊥
unfolding then guard need many byte_at span_at tlf_at length_from less_own list_of_at number bytes_at_claim raw_from raw_at unsigned_at signed_of signed_at bool_from bool_at octets_at absent_at optional time_at status_of status_at signed_value unsigned_value list_type_at value_of_claim value_at open_at close_at entry_at message_end_at list_start_at list_end_at content_at body_at start_at reflect polynomial bit_step bit_steps byte_step register final_xor crc_of crc_from trailer_at row_at inside_at whole_at flat fill_to read_to same lower span_within part_of before insert sorted sorted_to index_of index_to
falls_message_order = differs in_message_order six_input 0 (old 24) 0 (λ e. omega (arith, e))

falls_greatest_first : GoodIndexer greatest_first → ⊥
unfolding then guard need many byte_at span_at tlf_at length_from less_own list_of_at number bytes_at_claim raw_from raw_at unsigned_at signed_of signed_at bool_from bool_at octets_at absent_at optional time_at status_of status_at signed_value unsigned_value list_type_at value_of_claim value_at open_at close_at entry_at message_end_at list_start_at list_end_at content_at body_at start_at reflect polynomial bit_step bit_steps byte_step register final_xor crc_of crc_from trailer_at row_at inside_at whole_at flat fill_to read_to same lower span_within part_of before insert sorted sorted_to index_of index_to
falls_greatest_first = differs greatest_first six_input 0 (old 24) 0 (λ e. omega (arith, e))

falls_shorter_first : GoodIndexer shorter_first → ⊥
unfolding then guard need many byte_at span_at tlf_at length_from less_own list_of_at number bytes_at_claim raw_from raw_at unsigned_at signed_of signed_at bool_from bool_at octets_at absent_at optional time_at status_of status_at signed_value unsigned_value list_type_at value_of_claim value_at open_at close_at entry_at message_end_at list_start_at list_end_at content_at body_at start_at reflect polynomial bit_step bit_steps byte_step register final_xor crc_of crc_from trailer_at row_at inside_at whole_at flat fill_to read_to same lower span_within part_of before insert sorted sorted_to index_of index_to
falls_shorter_first = differs shorter_first six_input 0 (old 24) 8 (λ e. omega (arith, e))

falls_signed : GoodIndexer signed_bytes → ⊥
unfolding then guard need many byte_at span_at tlf_at length_from less_own list_of_at number bytes_at_claim raw_from raw_at unsigned_at signed_of signed_at bool_from bool_at octets_at absent_at optional time_at status_of status_at signed_value unsigned_value list_type_at value_of_claim value_at open_at close_at entry_at message_end_at list_start_at list_end_at content_at body_at start_at reflect polynomial bit_step bit_steps byte_step register final_xor crc_of crc_from trailer_at row_at inside_at whole_at flat fill_to read_to same lower span_within part_of before insert sorted sorted_to index_of index_to
falls_signed = differs signed_bytes six_input 0 (old 24) 4 (λ e. omega (arith, e))

falls_last_of_a_name : GoodIndexer last_of_a_name_first → ⊥
unfolding then guard need many byte_at span_at tlf_at length_from less_own list_of_at number bytes_at_claim raw_from raw_at unsigned_at signed_of signed_at bool_from bool_at octets_at absent_at optional time_at status_of status_at signed_value unsigned_value list_type_at value_of_claim value_at open_at close_at entry_at message_end_at list_start_at list_end_at content_at body_at start_at reflect polynomial bit_step bit_steps byte_step register final_xor crc_of crc_from trailer_at row_at inside_at whole_at flat fill_to read_to same lower span_within part_of before insert sorted sorted_to index_of index_to
falls_last_of_a_name = differs last_of_a_name_first six_input 0 (old 24) 12 (λ e. omega (arith, e))

falls_place_alone : GoodIndexer by_place_alone → ⊥
unfolding then guard need many byte_at span_at tlf_at length_from less_own list_of_at number bytes_at_claim raw_from raw_at unsigned_at signed_of signed_at bool_from bool_at octets_at absent_at optional time_at status_of status_at signed_value unsigned_value list_type_at value_of_claim value_at open_at close_at entry_at message_end_at list_start_at list_end_at content_at body_at start_at reflect polynomial bit_step bit_steps byte_step register final_xor crc_of crc_from trailer_at row_at inside_at whole_at flat fill_to read_to same lower span_within part_of before insert sorted sorted_to index_of index_to
falls_place_alone = differs by_place_alone six_input 0 (old 24) 0 (λ e. omega (arith, e))

falls_each_name : GoodIndexer a_row_for_each_name → ⊥
unfolding then guard need many byte_at span_at tlf_at length_from less_own list_of_at number bytes_at_claim raw_from raw_at unsigned_at signed_of signed_at bool_from bool_at octets_at absent_at optional time_at status_of status_at signed_value unsigned_value list_type_at value_of_claim value_at open_at close_at entry_at message_end_at list_start_at list_end_at content_at body_at start_at reflect polynomial bit_step bit_steps byte_step register final_xor crc_of crc_from trailer_at row_at inside_at whole_at flat fill_to read_to same lower span_within part_of before insert sorted sorted_to index_of index_to
falls_each_name = differs a_row_for_each_name six_input 0 (old 24) 16 (λ e. omega (arith, e))

falls_rest_sorted : GoodIndexer all_rows_sorted → ⊥
unfolding then guard need many byte_at span_at tlf_at length_from less_own list_of_at number bytes_at_claim raw_from raw_at unsigned_at signed_of signed_at bool_from bool_at octets_at absent_at optional time_at status_of status_at signed_value unsigned_value list_type_at value_of_claim value_at open_at close_at entry_at message_end_at list_start_at list_end_at content_at body_at start_at reflect polynomial bit_step bit_steps byte_step register final_xor crc_of crc_from trailer_at row_at inside_at whole_at flat fill_to read_to same lower span_within part_of before insert sorted sorted_to index_of index_to
falls_rest_sorted = differs all_rows_sorted six_input 0 (old 28) 4 (λ e. omega (arith, e))

falls_as_far_as_it_goes : GoodIndexer index_as_far_as_it_goes → ⊥
unfolding then guard need many byte_at span_at tlf_at length_from less_own list_of_at number bytes_at_claim raw_from raw_at unsigned_at signed_of signed_at bool_from bool_at octets_at absent_at optional time_at status_of status_at signed_value unsigned_value list_type_at value_of_claim value_at open_at close_at entry_at message_end_at list_start_at list_end_at content_at body_at start_at reflect polynomial bit_step bit_steps byte_step register final_xor crc_of crc_from trailer_at row_at inside_at whole_at flat fill_to read_to same lower span_within part_of before insert sorted sorted_to index_of index_to
falls_as_far_as_it_goes = differs index_as_far_as_it_goes six_input 0 (old 4) 0 (λ e. omega (arith, e))

-- ---- a lookup: the answer differs

abbrev told_no : FoundSaid → ℕ
told_no (found_row r) = 1000 + (100 * r.name.start + r.entry.start)
told_no found_none = 1
told_no (look_refused n) = 2 + n

says_else : (L : Finder) (s t name : List ℕ) → (told_no (L s t name) ≡ told_no (look_up_in s t name) → ⊥) → JudgesTables L → ⊥
says_else L s t name n h = n (ap told_no (only_our_finder L h s t name))

falls_last_found : JudgesTables last_of_equal_names → ⊥
unfolding same span_within part_of lower before row_within every rising is_table first_with has_name look_up_in
falls_last_found = says_else last_of_equal_names six_input six_table (0x62 ∷ []) (λ e. omega (arith, e))

falls_prefix : JudgesTables prefix_is_the_name → ⊥
unfolding same span_within part_of lower before row_within every rising is_table first_with has_name look_up_in
falls_prefix = says_else prefix_is_the_name six_input six_table (0x61 ∷ 0x62 ∷ 0x63 ∷ []) (λ e. omega (arith, e))

falls_a_prefix : JudgesTables name_is_a_prefix → ⊥
unfolding same span_within part_of lower before row_within every rising is_table first_with has_name look_up_in
falls_a_prefix = says_else name_is_a_prefix small (0 ∷ 2 ∷ 0 ∷ 3 ∷ []) (0x61 ∷ []) (λ e. omega (arith, e))

falls_equal_rows : JudgesTables equal_rows_in_order → ⊥
unfolding same span_within part_of lower before row_within every rising is_table first_with has_name look_up_in
falls_equal_rows = says_else equal_rows_in_order small (0 ∷ 1 ∷ 0 ∷ 1 ∷ 0 ∷ 1 ∷ 0 ∷ 1 ∷ []) (0x61 ∷ []) (λ e. omega (arith, e))

falls_name_alone : JudgesTables order_by_name_alone → ⊥
unfolding same span_within part_of lower before row_within every rising is_table first_with has_name look_up_in
falls_name_alone = says_else order_by_name_alone small (0 ∷ 1 ∷ 2 ∷ 1 ∷ 1 ∷ 1 ∷ 1 ∷ 1 ∷ []) (0x61 ∷ []) (λ e. omega (arith, e))

falls_one_a_name : JudgesTables one_row_a_name → ⊥
unfolding same span_within part_of lower before row_within every rising is_table first_with has_name look_up_in
falls_one_a_name = says_else one_row_a_name small (0 ∷ 1 ∷ 0 ∷ 1 ∷ 0 ∷ 1 ∷ 1 ∷ 1 ∷ []) (0x61 ∷ []) (λ e. omega (arith, e))

falls_no_order : JudgesTables order_not_judged → ⊥
unfolding same span_within part_of lower before row_within every rising is_table first_with has_name look_up_in
falls_no_order = says_else order_not_judged small (2 ∷ 1 ∷ 0 ∷ 1 ∷ 0 ∷ 1 ∷ 0 ∷ 1 ∷ []) (0x61 ∷ []) (λ e. omega (arith, e))

falls_entry_outside : JudgesTables entry_not_judged → ⊥
unfolding same span_within part_of lower before row_within every rising is_table first_with has_name look_up_in
falls_entry_outside = says_else entry_not_judged small (0 ∷ 3 ∷ 4 ∷ 0 ∷ []) small (λ e. omega (arith, e))

falls_name_outside : JudgesTables name_not_judged → ⊥
unfolding same span_within part_of lower before row_within every rising is_table first_with has_name look_up_in
falls_name_outside = says_else name_not_judged small (2 ∷ 2 ∷ 0 ∷ 1 ∷ []) (0x62 ∷ []) (λ e. omega (arith, e))

falls_wraps : JudgesTables start_plus_length_wraps → ⊥
unfolding same span_within part_of lower before row_within every rising is_table first_with has_name look_up_in
falls_wraps = says_else start_plus_length_wraps small (4294967295 ∷ 2 ∷ 0 ∷ 1 ∷ []) (0x62 ∷ []) (λ e. omega (arith, e))

falls_part_of_a_row : JudgesTables part_of_a_row_ignored → ⊥
unfolding same span_within part_of lower before row_within every rising is_table first_with has_name look_up_in
falls_part_of_a_row = says_else part_of_a_row_ignored small (0 ∷ 1 ∷ 0 ∷ 1 ∷ 0 ∷ []) (0x61 ∷ []) (λ e. omega (arith, e))

falls_up_to_the_name : JudgesTables judged_up_to_the_name → ⊥
unfolding same span_within part_of lower before row_within every rising is_table first_with has_name look_up_in
falls_up_to_the_name = says_else judged_up_to_the_name small (0 ∷ 1 ∷ 0 ∷ 1 ∷ 2 ∷ 2 ∷ 0 ∷ 1 ∷ []) (0x61 ∷ []) (λ e. omega (arith, e))

falls_no_rows : JudgesTables empty_table_refused → ⊥
unfolding same span_within part_of lower before row_within every rising is_table first_with has_name look_up_in
falls_no_rows = says_else empty_table_refused small [] (0x61 ∷ []) (λ e. omega (arith, e))

falls_none_for_sixteen : JudgesTables unsound_is_none → ⊥
unfolding same span_within part_of lower before row_within every rising is_table first_with has_name look_up_in
falls_none_for_sixteen = says_else unsound_is_none small (0 ∷ []) (0x61 ∷ []) (λ e. omega (arith, e))

falls_ten : JudgesTables empty_input_is_ten → ⊥
unfolding same span_within part_of lower before row_within every rising is_table first_with has_name look_up_in
falls_ten = says_else empty_input_is_ten [] [] [] (λ e. omega (arith, e))

falls_entries_only : JudgesTables rows_must_be_entries → ⊥
unfolding same span_within part_of lower before row_within every rising is_table first_with has_name look_up_in then guard need many byte_at span_at tlf_at length_from less_own list_of_at number bytes_at_claim raw_from raw_at unsigned_at signed_of signed_at bool_from bool_at octets_at absent_at optional time_at status_of status_at signed_value unsigned_value list_type_at value_of_claim value_at open_at close_at entry_at message_end_at list_start_at list_end_at content_at body_at start_at reflect polynomial bit_step bit_steps byte_step register final_xor crc_of crc_from trailer_at row_at inside_at whole_at flat fill_to read_to
falls_entries_only = says_else rows_must_be_entries small (0 ∷ 1 ∷ 0 ∷ 1 ∷ []) (0x61 ∷ []) (λ e. omega (arith, e))

-- an input over the limit, of zeros
long_zeros : (P : List ℕ → Type 0) → ((s : List ℕ) → limit < length s → P s) → P (replicate 1048577 0)
long_zeros P f = by 1048577 (omega arith)
  where
    by : (n : ℕ) → limit < n → P (replicate n 0)
    by n lt = f (replicate n 0) (subst (λ (k : ℕ). limit < k) (sym (length-replicate {A = ℕ} n 0)) lt)

part_first : (s : List ℕ) → table_before_length s (0 ∷ []) [] ≡ look_refused 16
unfolding is_table
part_first s = refl

falls_sixteen_first : JudgesTables table_before_length → ⊥
falls_sixteen_first h = long_zeros (λ s. ⊥) (λ s lt. let z : ◌≡◌ {A = ℕ} 18 11 = ap told_no (sym (part_first s) ∙ h.long s (0 ∷ []) [] lt) in omega (arith, z))

nothing_there : (s : List ℕ) → is_table s [] ≡ true
unfolding is_table every rising
nothing_there s = refl

none_found : (s name : List ℕ) → length s ≤ limit → look_up_in s [] name ≡ found_none
unfolding first_with
none_found s name short = looked_in_lem s [] name (look_up_in s [] name) (look_outcome s [] name) short (nothing_there s)

falls_long_cut : JudgesTables look_in_first_part → ⊥
falls_long_cut h = long_zeros (λ s. ⊥) (λ s lt.
    let z : ◌≡◌ {A = ℕ} 1 11 = ap told_no (sym (none_found (take limit s) [] (omega (arith, length-take-le limit s (omega arith)))) ∙ h.long s [] [] lt) in
    omega (arith, z))

-- ---- both together

six_fair : Fair six_input 0
six_fair = record { short = omega arith; inside = omega arith }

abbrev six_start : MessageStart Span
six_start = body_with_id 2 (list_body (record { client_id = none; server_id = span_of 15 1; list_name = none; act_sensor_time = none; num_vals = 6 }))

six_read : (read_to six_input 0 (old 24)).answer ≡ whole_is six_start (some no_end) 6 85
unfolding then guard need many byte_at span_at tlf_at length_from less_own list_of_at number bytes_at_claim raw_from raw_at unsigned_at signed_of signed_at bool_from bool_at octets_at absent_at optional time_at status_of status_at signed_value unsigned_value list_type_at value_of_claim value_at open_at close_at entry_at message_end_at list_start_at list_end_at content_at body_at start_at reflect polynomial bit_step bit_steps byte_step register final_xor crc_of crc_from trailer_at row_at inside_at whole_at flat fill_to read_to same lower span_within part_of before insert sorted sorted_to index_of index_to
six_read = refl

-- what a pair finds in the six entries
module _ (B : Indexer) (L : Finder) (h : FindsFirst B L) (e : (B six_input 0 (old 24)).answer ≡ index_is 6 85) (name : List ℕ) where
  six_found : (x : FoundSaid) → L six_input (take 24 (B six_input 0 (old 24)).table) name ≡ x
      → FirstNamed (entry_name six_input) (RowIs six_input) name (ours_good.accepts.only_if six_input 0 (old 24) six_start (some no_end) 6 85 six_fair six_read).whole.content.entries x
  six_found x q =
      let r = ours_good.accepts.only_if six_input 0 (old 24) six_start (some no_end) 6 85 six_fair six_read in
      subst (FirstNamed (entry_name six_input) (RowIs six_input) name r.whole.content.entries) q (h six_input 0 (old 24) 85 r.whole six_fair r.runs 6 85 e name)

refused_not : {A : Type 0} {name_of : A → List ℕ} {Tells : EntryRow → A → Type 0} {name : List ℕ} {l : List A} {n : ℕ} → FirstNamed name_of Tells name l (look_refused n) → ⊥
refused_not r = elim r [ ]

-- two that find the first find the same one
abbrev head_or : {A : Type 0} → A → List A → A
head_or d [] = d
head_or d (a ∷ l) = a

abbrev rest_of : {A : Type 0} → List A → List A
rest_of [] = []
rest_of (a ∷ l) = l

in_middle : {A : Type 0} (k : List A) (a : A) (m : List A) → Memᴰ a (k ++ (a ∷ m))
in_middle [] a m = Memᴰ.head refl
in_middle (b ∷ k) a m = Memᴰ.tail (in_middle k a m)

module _ {A : Type 0} {name_of : A → List ℕ} {name : List ℕ} where
  same_first : (k k' m m' : List A) (a b : A) → k ++ (a ∷ m) ≡ k' ++ (b ∷ m') → name_of a ≡ name → name_of b ≡ name → ((c : A) → Memᴰ c k → name_of c ≡ name → ⊥) → ((c : A) → Memᴰ c k' → name_of c ≡ name → ⊥) → a ≡ b
  same_first [] [] m m' a b e p q f g = ap (head_or a) e
  same_first [] (c ∷ k') m m' a b e p q f g = absurd (g c (Memᴰ.head refl) (ap name_of (sym (ap (head_or a) e)) ∙ p))
  same_first (c ∷ k) [] m m' a b e p q f g = absurd (f c (Memᴰ.head refl) (ap name_of (ap (head_or c) e) ∙ q))
  same_first (c ∷ k) (d ∷ k') m m' a b e p q f g = same_first k k' m m' a b (ap rest_of e) p q (λ x i. f x (Memᴰ.tail i)) (λ x i. g x (Memᴰ.tail i))

module _ {s name : List ℕ} {l : List (ListEntry Span)} where
  one_first : {q r : EntryRow} → FirstNamed (entry_name s) (RowIs s) name l (found_row q) → FirstNamed (entry_name s) (RowIs s) name l (found_row r) → q.name ≡ r.name
  one_first (first_named q a k m e p f u) (first_named r b k' m' e' p' f' u') =
      let z : a ≡ b = same_first {name_of = entry_name s} {name = name} k k' m m' a b (sym e ∙ e') p p' f f' in
      u.name_is ∙ ap (λ (x : ListEntry Span). x.obj_name) z ∙ sym u'.name_is

  never_both : {r : EntryRow} → FirstNamed (entry_name s) (RowIs s) name l (found_row r) → FirstNamed (entry_name s) (RowIs s) name l found_none → ⊥
  never_both (first_named r a k m e p f u) (none_named n) = n a (subst (λ (x : List (ListEntry Span)). Memᴰ a x) (sym e) (in_middle k a m)) p

six_no_table : is_table six_input (take 24 (in_message_order six_input 0 (old 24)).table) ≡ false
unfolding then guard need many byte_at span_at tlf_at length_from less_own list_of_at number bytes_at_claim raw_from raw_at unsigned_at signed_of signed_at bool_from bool_at octets_at absent_at optional time_at status_of status_at signed_value unsigned_value list_type_at value_of_claim value_at open_at close_at entry_at message_end_at list_start_at list_end_at content_at body_at start_at reflect polynomial bit_step bit_steps byte_step register final_xor crc_of crc_from trailer_at row_at inside_at whole_at flat fill_to read_to same lower span_within part_of before insert sorted sorted_to index_of index_to row_within every rising is_table first_with has_name look_up_in
six_no_table = refl

falls_message_order_no_table : BuildsTables in_message_order → ⊥
unfolding then guard need many byte_at span_at tlf_at length_from less_own list_of_at number bytes_at_claim raw_from raw_at unsigned_at signed_of signed_at bool_from bool_at octets_at absent_at optional time_at status_of status_at signed_value unsigned_value list_type_at value_of_claim value_at open_at close_at entry_at message_end_at list_start_at list_end_at content_at body_at start_at reflect polynomial bit_step bit_steps byte_step register final_xor crc_of crc_from trailer_at row_at inside_at whole_at flat fill_to read_to same lower span_within part_of before insert sorted sorted_to index_of index_to row_within every rising is_table first_with has_name look_up_in
falls_message_order_no_table h = true≢false (sym (is_sound_lem six_input (take 24 (in_message_order six_input 0 (old 24)).table) (h six_input 0 (old 24) 6 85 six_fair refl)) ∙ six_no_table)

falls_message_order_found : FindsFirst in_message_order our_finder → ⊥
unfolding then guard need many byte_at span_at tlf_at length_from less_own list_of_at number bytes_at_claim raw_from raw_at unsigned_at signed_of signed_at bool_from bool_at octets_at absent_at optional time_at status_of status_at signed_value unsigned_value list_type_at value_of_claim value_at open_at close_at entry_at message_end_at list_start_at list_end_at content_at body_at start_at reflect polynomial bit_step bit_steps byte_step register final_xor crc_of crc_from trailer_at row_at inside_at whole_at flat fill_to read_to same lower span_within part_of before insert sorted sorted_to index_of index_to row_within every rising is_table first_with has_name look_up_in
falls_message_order_found h = refused_not {n = 16} (six_found in_message_order our_finder h refl (0x62 ∷ []) (look_refused 16) refl)

falls_last_found_in_index : FindsFirst our_indexer last_of_equal_names → ⊥
unfolding then guard need many byte_at span_at tlf_at length_from less_own list_of_at number bytes_at_claim raw_from raw_at unsigned_at signed_of signed_at bool_from bool_at octets_at absent_at optional time_at status_of status_at signed_value unsigned_value list_type_at value_of_claim value_at open_at close_at entry_at message_end_at list_start_at list_end_at content_at body_at start_at reflect polynomial bit_step bit_steps byte_step register final_xor crc_of crc_from trailer_at row_at inside_at whole_at flat fill_to read_to same lower span_within part_of before insert sorted sorted_to index_of index_to row_within every rising is_table first_with has_name look_up_in
falls_last_found_in_index h =
    let a = six_found our_indexer last_of_equal_names h refl (0x62 ∷ []) (found_row (record { name = span_of 71 1; entry = span_of 69 10 })) refl in
    let b = six_found our_indexer our_finder ours_find refl (0x62 ∷ []) (found_row (record { name = span_of 21 1; entry = span_of 19 10 })) refl in
    let z : ◌≡◌ {A = ℕ} 71 21 = ap (λ (x : Span). x.start) (one_first a b) in
    omega (arith, z)

falls_prefix_found_in_index : FindsFirst our_indexer prefix_is_the_name → ⊥
unfolding then guard need many byte_at span_at tlf_at length_from less_own list_of_at number bytes_at_claim raw_from raw_at unsigned_at signed_of signed_at bool_from bool_at octets_at absent_at optional time_at status_of status_at signed_value unsigned_value list_type_at value_of_claim value_at open_at close_at entry_at message_end_at list_start_at list_end_at content_at body_at start_at reflect polynomial bit_step bit_steps byte_step register final_xor crc_of crc_from trailer_at row_at inside_at whole_at flat fill_to read_to same lower span_within part_of before insert sorted sorted_to index_of index_to row_within every rising is_table first_with has_name look_up_in
falls_prefix_found_in_index h =
    let a = six_found our_indexer prefix_is_the_name h refl (0x61 ∷ 0x62 ∷ 0x63 ∷ []) (found_row (record { name = span_of 31 0; entry = span_of 29 9 })) refl in
    let b = six_found our_indexer our_finder ours_find refl (0x61 ∷ 0x62 ∷ 0x63 ∷ []) found_none refl in
    never_both a b

pub fall_indexes : FallIndexes
fall_indexes =
    record {
      ours = ours_index;
      ours_over = ours_over;
      ours_looked = ours_looked;
      ours_judged = ours_judged;
      message_order = falls_message_order;
      greatest_first_claim = falls_greatest_first;
      shorter_first_claim = falls_shorter_first;
      signed = falls_signed;
      last_of_a_name = falls_last_of_a_name;
      place_alone = falls_place_alone;
      each_name = falls_each_name;
      rest_sorted = falls_rest_sorted;
      as_far_as_it_goes = falls_as_far_as_it_goes;
      last_found = falls_last_found;
      prefix = falls_prefix;
      a_prefix = falls_a_prefix;
      equal_rows = falls_equal_rows;
      name_alone = falls_name_alone;
      one_a_name = falls_one_a_name;
      no_order = falls_no_order;
      entry_outside = falls_entry_outside;
      name_outside = falls_name_outside;
      wraps = falls_wraps;
      part_of_a_row = falls_part_of_a_row;
      up_to_the_name_claim = falls_up_to_the_name;
      no_rows = falls_no_rows;
      entries_only = falls_entries_only;
      none_for_sixteen = falls_none_for_sixteen;
      sixteen_first = falls_sixteen_first;
      long_cut = falls_long_cut;
      ten = falls_ten;
      message_order_no_table = falls_message_order_no_table;
      message_order_found = falls_message_order_found;
      last_found_in_index = falls_last_found_in_index;
      prefix_found_in_index = falls_prefix_found_in_index;
    }
