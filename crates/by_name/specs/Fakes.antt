-- check: indexes that are wrong in one way each, in what is built or in what is looked up; a claim is false of each.
use Rattle.std.specs.Prelude.{ℕ, ◌+◌, ◌*◌, ◌/◌, ◌%◌, Bool, true, false, cond, not, ◌&&◌, List, [], ◌∷◌, ◌++◌, map, reverse, ◌≡◌, length, take, drop, eqb, ltb, leb}
use Rattle.std.proofs.Math.Option.{Option}
use Rattle.refusals.specs.Numbers.{input_too_long_no, bad_span_no, limit}
use Rattle.refusals.specs.Read.{Read, got, refused}
use Rattle.refusals.specs.declared.Span.{Span}
use Rattle.common.specs.Fields.{ListEntry, entry_at}
use Rattle.frame.specs.Frame.{same}
use Rattle.octet_string.specs.Strings.{span_within, part_of}
use Rattle.name_order.specs.Order.{lower}
use Rattle.whole.specs.Whole.{EntryRow, flat, rows_of, WholeSaid, whole_is, broken, refused_alone, AfterWhole, read_to}
use Rattle.one_call.specs.Readers.{WholeReader}
use Rattle.one_call.specs.Fakes.{filled_as_far_as_it_goes}
use Rattle.index.specs.Index.{before, sorted, index_is, index_broken, index_refused, AfterIndex, index_of, index_to, row_within, every, rising, all_rows_claim, is_table, first_with, has_name, found_none, look_refused, found_said, look_up_in}
use Rattle.index.specs.Answers.{after_index}
use Rattle.by_name.specs.Indexes.{Indexer, Finder, our_finder, our_indexer, GoodIndexer, JudgesTables, FindsFirst, BuildsTables}

-- ---- building

-- ours, but for what is done with a message's rows
abbrev pub rows_by : (List EntryRow → List EntryRow) → WholeSaid → List ℕ → AfterIndex
rows_by f (whole_is start end rows next) t = let l : List EntryRow = f (rows_of rows t) in after_index (index_is (length l) next) (flat l ++ drop (4 * length l) t)
rows_by f (broken r) t = after_index (index_broken r) t
rows_by f (refused_alone n) t = after_index (index_refused n) t

abbrev pub index_by_claim : (List ℕ → List EntryRow → List EntryRow) → Indexer
index_by_claim f s at t = let a : AfterWhole = read_to s at t in rows_by (f s) a.answer a.table

-- the rows as they stand in the message
abbrev pub in_message_order : Indexer
in_message_order = index_by_claim (λ s l. l)

-- the greatest name first
abbrev pub greatest_first : Indexer
greatest_first = index_by_claim (λ s l. reverse (sorted (before s) l))

-- by length, and then byte by byte
abbrev pub shorter_first : Indexer
shorter_first = index_by_claim (λ s. sorted (λ p q. cond (ltb p.name.len q.name.len) true (cond (ltb q.name.len p.name.len) false (before s p q))))

-- bytes from 80 on before all others
abbrev pub other_side : List ℕ → List ℕ
other_side x = map (λ b. (b + 128) % 256) x

abbrev pub signed_bytes : Indexer
signed_bytes = index_by_claim (λ s. sorted (λ p q. cond (lower (other_side (part_of s p.name)) (other_side (part_of s q.name))) true (cond (lower (other_side (part_of s q.name)) (other_side (part_of s p.name))) false (ltb p.entry.start q.entry.start))))

-- of one name the last entry first
abbrev pub last_of_a_name_first : Indexer
last_of_a_name_first = index_by_claim (λ s. sorted (λ p q. cond (lower (part_of s p.name) (part_of s q.name)) true (cond (lower (part_of s q.name) (part_of s p.name)) false (ltb q.entry.start p.entry.start))))

-- by the place alone
abbrev pub by_place_alone : Indexer
by_place_alone = index_by_claim (λ s. sorted (λ p q. ltb p.entry.start q.entry.start))

-- of each name a row, and not one of each entry
abbrev pub once_before : List ℕ → EntryRow → List EntryRow → List EntryRow
once_before s r [] = r ∷ []
once_before s r (q ∷ l) = cond (same (part_of s r.name) (part_of s q.name)) (r ∷ l) (r ∷ q ∷ l)

abbrev pub once_per_name : List ℕ → List EntryRow → List EntryRow
once_per_name s [] = []
once_per_name s (r ∷ l) = once_before s r (once_per_name s l)

abbrev pub a_row_for_each_name : Indexer
a_row_for_each_name = index_by_claim (λ s l. once_per_name s (sorted (before s) l))

-- what stands behind the rows is sorted in with them
abbrev pub sorts_the_rest : WholeSaid → List ℕ → List ℕ → List ℕ
sorts_the_rest (whole_is start end rows next) s t = flat (sorted (before s) (rows_of (length t / 4) t)) ++ drop (4 * (length t / 4)) t
sorts_the_rest (broken f) s t = t
sorts_the_rest (refused_alone n) s t = t

abbrev pub all_rows_sorted : Indexer
all_rows_sorted s at t = let a : AfterWhole = read_to s at t in after_index (index_to s at t).answer (sorts_the_rest a.answer s a.table)

-- ours, over another reader of whole messages
abbrev pub over_reader : WholeReader → Indexer
over_reader R s at t = let a : AfterWhole = R s at t in index_of s a.answer a.table

-- rows that find room are stored, also where the answer is 20
abbrev pub index_as_far_as_it_goes : Indexer
index_as_far_as_it_goes = over_reader filled_as_far_as_it_goes

-- ---- a lookup

-- ours, but for how a table is judged, and what is found in its rows
abbrev pub look_by : (List ℕ → List ℕ → List ℕ → Bool) → (List ℕ → List ℕ → List EntryRow → Option EntryRow) → Finder
look_by judge find s t name =
    cond (ltb limit (length s)) (look_refused input_too_long_no)
    (cond (judge s t name) (found_said (find s name (all_rows_claim t))) (look_refused bad_span_no))

-- with ours
abbrev pub is_sound_table : List ℕ → List ℕ → List ℕ → Bool
is_sound_table s t name = is_table s t

abbrev pub first_by_name : List ℕ → List ℕ → List EntryRow → Option EntryRow
first_by_name s name l = first_with (has_name s name) l

-- ours, but for which rows are within the input, and which are in order
abbrev pub judge_by : (List ℕ → EntryRow → Bool) → (List ℕ → EntryRow → EntryRow → Bool) → List ℕ → List ℕ → List ℕ → Bool
judge_by within order s t name = eqb (length t % 4) 0 && (every (within s) (all_rows_claim t) && rising (order s) (all_rows_claim t))

-- the last row with the name
abbrev pub last_of_equal_names : Finder
last_of_equal_names = look_by is_sound_table (λ s name l. first_with (has_name s name) (reverse l))

-- a row whose name is a beginning of the name
abbrev pub prefix_is_the_name : Finder
prefix_is_the_name = look_by is_sound_table (λ s name l. first_with (λ r. same (part_of s r.name) (take r.name.len name)) l)

-- a row whose name begins with the name
abbrev pub name_is_a_prefix : Finder
name_is_a_prefix = look_by is_sound_table (λ s name l. first_with (λ r. same (take (length name) (part_of s r.name)) name) l)

-- a row may be the same as the one before
abbrev pub equal_rows_in_order : Finder
equal_rows_in_order = look_by (judge_by row_within (λ s p q. not (before s q p))) first_by_name

-- rows of one name may stand in any order
abbrev pub order_by_name_alone : Finder
order_by_name_alone = look_by (judge_by row_within (λ s p q. not (lower (part_of s q.name) (part_of s p.name)))) first_by_name

-- rows of one name may not be
abbrev pub one_row_a_name : Finder
one_row_a_name = look_by (judge_by row_within (λ s p q. lower (part_of s p.name) (part_of s q.name))) first_by_name

-- no order is asked for
abbrev pub order_not_judged : Finder
order_not_judged = look_by (judge_by row_within (λ s p q. true)) first_by_name

-- an entry may lie outside
abbrev pub entry_not_judged : Finder
entry_not_judged = look_by (judge_by (λ s r. span_within s r.name) before) first_by_name

-- a name may lie outside
abbrev pub name_not_judged : Finder
name_not_judged = look_by (judge_by (λ s r. span_within s r.entry) before) first_by_name

-- start and length are added in 32 bits
abbrev pub wrapped_within : List ℕ → Span → Bool
wrapped_within s p = leb ((p.start + p.len) % 4294967296) (length s)

abbrev pub start_plus_length_wraps : Finder
start_plus_length_wraps = look_by (judge_by (λ s r. wrapped_within s r.name && wrapped_within s r.entry) before) first_by_name

-- numbers behind the last whole row are passed over
abbrev pub part_of_a_row_ignored : Finder
part_of_a_row_ignored = look_by (λ s t name. every (row_within s) (all_rows_claim t) && rising (before s) (all_rows_claim t)) first_by_name

-- rows behind the one that is found are not judged
abbrev pub up_to_the_name : List ℕ → List ℕ → List EntryRow → List EntryRow
up_to_the_name s name [] = []
up_to_the_name s name (r ∷ l) = r ∷ cond (has_name s name r) [] (up_to_the_name s name l)

abbrev pub judged_up_to_the_name : Finder
judged_up_to_the_name = look_by (λ s t name. let l : List EntryRow = up_to_the_name s name (all_rows_claim t) in eqb (length t % 4) 0 && (every (row_within s) l && rising (before s) l)) first_by_name

-- a table without rows is none
abbrev pub empty_table_refused : Finder
empty_table_refused = look_by (λ s t name. not (eqb (length t) 0) && is_table s t) first_by_name

-- each row must be one of an entry
abbrev pub reads_as_row : EntryRow → Read (ListEntry Span) → Bool
reads_as_row r (got e n) = eqb n (r.entry.start + r.entry.len)
reads_as_row r (refused f) = false

abbrev pub rows_must_be_entries : Finder
rows_must_be_entries = look_by (λ s t name. is_table s t && every (λ r. reads_as_row r (entry_at s r.entry.start)) (all_rows_claim t)) first_by_name

-- in a table that isn't sound there is nothing to be found
abbrev pub unsound_is_none : Finder
unsound_is_none s t name = cond (ltb limit (length s)) (look_refused input_too_long_no) (cond (is_table s t) (look_up_in s t name) found_none)

-- the table is judged before the input's length
abbrev pub table_before_length : Finder
table_before_length s t name = cond (is_table s t) (look_up_in s t name) (look_refused bad_span_no)

-- a longer input is cut off at the limit
abbrev pub look_in_first_part : Finder
look_in_first_part s t name = look_up_in (take limit s) t name

-- an empty input is 10, as with a reader
abbrev pub empty_input_is_ten : Finder
empty_input_is_ten s t name = cond (eqb (length s) 0) (look_refused 10) (look_up_in s t name)

-- two that do the same
abbrev pub SameIndexer : Indexer → Indexer → Type 0
SameIndexer B C = (s : List ℕ) (at : ℕ) (t : List ℕ) → B s at t ≡ C s at t

abbrev pub SameFinder : Finder → Finder → Type 0
SameFinder K L = (s t name : List ℕ) → K s t name ≡ L s t name

pub record FallIndexes : Type 0 where
  pub ours : SameIndexer (index_by_claim (λ s. sorted (before s))) our_indexer
  pub ours_over : SameIndexer (over_reader read_to) our_indexer
  pub ours_looked : SameFinder (look_by is_sound_table first_by_name) our_finder
  pub ours_judged : SameFinder (look_by (judge_by row_within before) first_by_name) our_finder
  pub message_order : GoodIndexer in_message_order → ⊥
  pub greatest_first_claim : GoodIndexer greatest_first → ⊥
  pub shorter_first_claim : GoodIndexer shorter_first → ⊥
  pub signed : GoodIndexer signed_bytes → ⊥
  pub last_of_a_name : GoodIndexer last_of_a_name_first → ⊥
  pub place_alone : GoodIndexer by_place_alone → ⊥
  pub each_name : GoodIndexer a_row_for_each_name → ⊥
  pub rest_sorted : GoodIndexer all_rows_sorted → ⊥
  pub as_far_as_it_goes : GoodIndexer index_as_far_as_it_goes → ⊥
  pub last_found : JudgesTables last_of_equal_names → ⊥
  pub prefix : JudgesTables prefix_is_the_name → ⊥
  pub a_prefix : JudgesTables name_is_a_prefix → ⊥
  pub equal_rows : JudgesTables equal_rows_in_order → ⊥
  pub name_alone : JudgesTables order_by_name_alone → ⊥
  pub one_a_name : JudgesTables one_row_a_name → ⊥
  pub no_order : JudgesTables order_not_judged → ⊥
  pub entry_outside : JudgesTables entry_not_judged → ⊥
  pub name_outside : JudgesTables name_not_judged → ⊥
  pub wraps : JudgesTables start_plus_length_wraps → ⊥
  pub part_of_a_row : JudgesTables part_of_a_row_ignored → ⊥
  pub up_to_the_name_claim : JudgesTables judged_up_to_the_name → ⊥
  pub no_rows : JudgesTables empty_table_refused → ⊥
  pub entries_only : JudgesTables rows_must_be_entries → ⊥
  pub none_for_sixteen : JudgesTables unsound_is_none → ⊥
  pub sixteen_first : JudgesTables table_before_length → ⊥
  pub long_cut : JudgesTables look_in_first_part → ⊥
  pub ten : JudgesTables empty_input_is_ten → ⊥
  -- both together
  pub message_order_no_table : BuildsTables in_message_order → ⊥
  pub message_order_found : FindsFirst in_message_order our_finder → ⊥
  pub last_found_in_index : FindsFirst our_indexer last_of_equal_names → ⊥
  pub prefix_found_in_index : FindsFirst our_indexer prefix_is_the_name → ⊥
