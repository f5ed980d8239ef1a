-- check: the vectors of Q-6: what is built of its messages, and what is found in its tables.
use Rattle.std.specs.Prelude.{ℕ, ◌≡◌, List, [], ◌∷◌, ◌++◌}
use Rattle.refusals.specs.Numbers.{bad_span_no, too_many_entries_no}
use Rattle.refusals.specs.Read.{eof, wrong_end}
use Rattle.one_call.specs.Bench.{close_input, old}
use Rattle.index.specs.Index.{index_is, index_broken, index_refused, FoundSaid, found_row, found_none, look_refused}
use Rattle.index.specs.Answers.{after_index}
use Rattle.by_name.specs.Indexes.{Indexer, Finder}

-- six entries, their names b, the empty one, ab, 80, a and b; all but the end byte
abbrev pub six_begin : List ℕ
six_begin = 0x76 ∷ 0x03 ∷ 0xdd ∷ 0x43 ∷ 0x62 ∷ 0x00 ∷ 0x62 ∷ 0x00 ∷ 0x72 ∷ 0x63 ∷ 0x07 ∷ 0x01 ∷ 0x77 ∷ 0x01 ∷ 0x02 ∷ 0x73 ∷ 0x01 ∷ 0x01 ∷ 0x76
    ∷ 0x77 ∷ 0x02 ∷ 0x62 ∷ 0x01 ∷ 0x01 ∷ 0x01 ∷ 0x01 ∷ 0x62 ∷ 0x00 ∷ 0x01
    ∷ 0x77 ∷ 0x01 ∷ 0x01 ∷ 0x01 ∷ 0x01 ∷ 0x01 ∷ 0x62 ∷ 0x01 ∷ 0x01
    ∷ 0x77 ∷ 0x03 ∷ 0x61 ∷ 0x62 ∷ 0x01 ∷ 0x01 ∷ 0x01 ∷ 0x01 ∷ 0x62 ∷ 0x02 ∷ 0x01
    ∷ 0x77 ∷ 0x02 ∷ 0x80 ∷ 0x01 ∷ 0x01 ∷ 0x01 ∷ 0x01 ∷ 0x62 ∷ 0x03 ∷ 0x01
    ∷ 0x77 ∷ 0x02 ∷ 0x61 ∷ 0x01 ∷ 0x01 ∷ 0x01 ∷ 0x01 ∷ 0x62 ∷ 0x04 ∷ 0x01
    ∷ 0x77 ∷ 0x02 ∷ 0x62 ∷ 0x01 ∷ 0x01 ∷ 0x01 ∷ 0x01 ∷ 0x62 ∷ 0x05 ∷ 0x01
    ∷ 0x01 ∷ 0x01 ∷ 0x63 ∷ 0x3c ∷ 0x55 ∷ []

abbrev pub six_input : List ℕ
six_input = six_begin ++ 0x00 ∷ []

-- its index, but for the last number
abbrev pub six_short : List ℕ
six_short = 31 ∷ 0 ∷ 29 ∷ 9 ∷ 61 ∷ 1 ∷ 59 ∷ 10 ∷ 40 ∷ 2 ∷ 38 ∷ 11 ∷ 21 ∷ 1 ∷ 19 ∷ 10 ∷ 71 ∷ 1 ∷ 69 ∷ 10 ∷ 51 ∷ 1 ∷ 49 ∷ []

abbrev pub six_table : List ℕ
six_table = six_short ++ 10 ∷ []

abbrev pub found_as : ℕ → ℕ → ℕ → ℕ → FoundSaid
found_as a b c d = found_row (record { name = record { start = a; len = b }; entry = record { start = c; len = d } })

-- aab
abbrev pub small : List ℕ
small = 0x61 ∷ 0x61 ∷ 0x62 ∷ []

pub record IndexBench (B : Indexer) : Type 0 where
  pub six : B six_input 0 (old 24) ≡ after_index (index_is 6 85) six_table
  pub more_room : B six_input 0 (old 26) ≡ after_index (index_is 6 85) (six_table ++ old 2)
  pub less_room : B six_input 0 (old 23) ≡ after_index (index_refused too_many_entries_no) (old 23)
  pub closes : B close_input 0 [] ≡ after_index (index_is 0 18) []
  pub empty : B [] 0 (old 4) ≡ after_index (index_broken (eof 0)) (old 4)
  pub other_end_claim : B (six_begin ++ 0x01 ∷ []) 0 [] ≡ after_index (index_broken (wrong_end 84)) []

pub record LookupBench (L : Finder) : Type 0 where
  pub first_b : L six_input six_table (0x62 ∷ []) ≡ found_as 21 1 19 10
  pub no_name : L six_input six_table [] ≡ found_as 31 0 29 9
  pub two_bytes : L six_input six_table (0x61 ∷ 0x62 ∷ []) ≡ found_as 40 2 38 11
  pub longer : L six_input six_table (0x61 ∷ 0x62 ∷ 0x63 ∷ []) ≡ found_none
  pub no_rows : L six_input [] (0x61 ∷ []) ≡ found_none
  pub part_of_a_row : L six_input six_short (0x62 ∷ []) ≡ look_refused bad_span_no
  pub out_of_order : L six_input (61 ∷ 1 ∷ 59 ∷ 10 ∷ 31 ∷ 0 ∷ 29 ∷ 9 ∷ []) (0x61 ∷ []) ≡ look_refused bad_span_no
  pub twice : L small (0 ∷ 1 ∷ 0 ∷ 1 ∷ 0 ∷ 1 ∷ 0 ∷ 1 ∷ []) (0x61 ∷ []) ≡ look_refused bad_span_no
  pub by_place_claim : L small (0 ∷ 1 ∷ 0 ∷ 1 ∷ 0 ∷ 1 ∷ 1 ∷ 1 ∷ []) (0x61 ∷ []) ≡ found_as 0 1 0 1
  pub by_place_not : L small (0 ∷ 1 ∷ 2 ∷ 1 ∷ 1 ∷ 1 ∷ 1 ∷ 1 ∷ []) (0x61 ∷ []) ≡ look_refused bad_span_no
  pub entry_outside : L small (0 ∷ 3 ∷ 4 ∷ 0 ∷ []) small ≡ look_refused bad_span_no
  pub name_outside : L small (2 ∷ 2 ∷ 0 ∷ 1 ∷ []) (0x62 ∷ []) ≡ look_refused bad_span_no
  pub wraps : L small (4294967295 ∷ 2 ∷ 0 ∷ 1 ∷ []) (0x62 ∷ []) ≡ look_refused bad_span_no
  pub no_entries_claim : L small (0 ∷ 1 ∷ 0 ∷ 3 ∷ 0 ∷ 2 ∷ 0 ∷ 3 ∷ 2 ∷ 1 ∷ 0 ∷ 3 ∷ []) (0x61 ∷ 0x61 ∷ []) ≡ found_as 0 2 0 3
  pub of_nothing : L [] (0 ∷ 0 ∷ 0 ∷ 0 ∷ []) [] ≡ found_as 0 0 0 0
