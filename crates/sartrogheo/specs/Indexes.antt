-- rule: what the library's calls for an index answer in plain numbers, and what they leave in all that they are lent.
use Rattle.std.specs.Prelude.{List, [], ◌∷◌, ℕ}
use Rattle.whole.specs.Whole.{flat}
use Rattle.index.specs.Index.{IndexSaid, index_is, index_broken, index_refused, AfterIndex, index_to, FoundSaid, found_row, found_none, look_refused, look_up_in}
use Rattle.sartrogheo.specs.Calls.{Reply, reply, good_no, not_found_no}

abbrev pub index_no : IndexSaid → ℕ
index_no (index_is rows next) = good_no
index_no (index_broken f) = f.number
index_no (index_refused n) = n

-- what building says in five numbers: how many rows there are, and the place behind the message; number, kind and place of a refusal
abbrev pub index_words : IndexSaid → List ℕ
index_words (index_is rows next) = rows ∷ next ∷ 0 ∷ 0 ∷ 0 ∷ []
index_words (index_broken f) = 0 ∷ 0 ∷ f.number ∷ f.kind ∷ f.place ∷ []
index_words (index_refused n) = 0 ∷ 0 ∷ n ∷ 0 ∷ 0 ∷ []

unfoldable pub sgh_build_index : List ℕ → ℕ → List ℕ → Reply
sgh_build_index input at table =
    let a : AfterIndex = index_to input at table in
    reply (index_no a.answer) (a.table ∷ index_words a.answer ∷ [])

-- a row that is found stands in what is lent for it; else that stays
abbrev pub look_told : FoundSaid → List ℕ → Reply
look_told (found_row r) row = reply good_no (flat (r ∷ []) ∷ [])
look_told found_none row = reply not_found_no (row ∷ [])
look_told (look_refused n) row = reply n (row ∷ [])

unfoldable pub sgh_look_up : List ℕ → List ℕ → List ℕ → List ℕ → Reply
sgh_look_up input table name row = look_told (look_up_in input table name) row
