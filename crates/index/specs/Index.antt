-- rule: an index of entries, by document 02's Q-6: the order of rows, what building leaves in the table, which tables a lookup takes, and what it says of them.
use Rattle.std.specs.Prelude.{ℕ, ◌*◌, ◌/◌, ◌%◌, List, [], ◌∷◌, ◌++◌, Bool, true, false, cond, ◌&&◌, length, drop, ltb, eqb}
use Rattle.std.proofs.Math.Option.{Option, some, none}
use Rattle.refusals.specs.Numbers.{input_too_long_no, bad_span_no, limit}
use Rattle.refusals.specs.Read.{Refusal}
use Rattle.frame.specs.Frame.{same}
use Rattle.octet_string.specs.Strings.{span_within, part_of}
use Rattle.whole.specs.Whole.{EntryRow, flat, rows_of, WholeSaid, whole_is, broken, refused_alone, AfterWhole, read_to}
use Rattle.name_order.specs.Order.{lower}

-- ---- the order of rows: by the name's bytes, then by the entry's place

unfoldable pub before : List ℕ → EntryRow → EntryRow → Bool
before s p q =
    cond (lower (part_of s p.name) (part_of s q.name)) true
    (cond (lower (part_of s q.name) (part_of s p.name)) false
    (ltb p.entry.start q.entry.start))

unfoldable pub insert : {A : Type 0} → (A → A → Bool) → A → List A → List A
insert lt r [] = r ∷ []
insert lt r (q ∷ qs) = cond (lt r q) (r ∷ q ∷ qs) (q ∷ insert lt r qs)

-- one after the other
unfoldable pub sorted : {A : Type 0} → (A → A → Bool) → List A → List A
sorted lt [] = []
sorted lt (r ∷ rs) = insert lt r (sorted lt rs)

-- the table's first n rows sorted, the rest as it was
unfoldable pub sorted_to : List ℕ → ℕ → List ℕ → List ℕ
sorted_to s n t = flat (sorted (before s) (rows_of n t)) ++ drop (4 * n) t

-- ---- building: a whole message is read into the table, and its rows are sorted

-- how many rows stand in the table, and the place behind the message; a refusal at a place of the input; or one at none
pub data IndexSaid : Type 0 where
  index_is : ℕ → ℕ → IndexSaid
  index_broken : Refusal → IndexSaid
  index_refused : ℕ → IndexSaid

-- what a call says, and what the table holds behind it
pub record AfterIndex : Type 0 where
  pub answer : IndexSaid
  pub table : List ℕ

unfoldable pub index_of : List ℕ → WholeSaid → List ℕ → AfterIndex
index_of s (whole_is start end rows next) t = record { answer = index_is rows next; table = sorted_to s rows t }
index_of s (broken f) t = record { answer = index_broken f; table = t }
index_of s (refused_alone n) t = record { answer = index_refused n; table = t }

unfoldable pub index_to : List ℕ → ℕ → List ℕ → AfterIndex
index_to s at t = let a : AfterWhole = read_to s at t in index_of s a.answer a.table

-- ---- a lookup, in any table

-- both parts of a row lie within the input
unfoldable pub row_within : List ℕ → EntryRow → Bool
row_within s r = span_within s r.name && span_within s r.entry

unfoldable pub every : {A : Type 0} → (A → Bool) → List A → Bool
every p [] = true
every p (a ∷ l) = p a && every p l

-- each before the next
unfoldable pub rising : {A : Type 0} → (A → A → Bool) → List A → Bool
rising lt [] = true
rising lt (a ∷ []) = true
rising lt (a ∷ b ∷ l) = lt a b && rising lt (b ∷ l)

-- the rows of a table that is all rows
abbrev pub all_rows_claim : List ℕ → List EntryRow
all_rows_claim t = rows_of (length t / 4) t

-- whole rows, within the input, strictly in order
unfoldable pub is_table : List ℕ → List ℕ → Bool
is_table s t = eqb (length t % 4) 0 && (every (row_within s) (all_rows_claim t) && rising (before s) (all_rows_claim t))

-- the first that a test takes
unfoldable pub first_with : {A : Type 0} → (A → Bool) → List A → Option A
first_with p [] = none
first_with p (a ∷ l) = cond (p a) (some a) (first_with p l)

-- exactly that name
unfoldable pub has_name : List ℕ → List ℕ → EntryRow → Bool
has_name s name r = same (part_of s r.name) name

-- a row, none, or a refusal
pub data FoundSaid : Type 0 where
  found_row : EntryRow → FoundSaid
  found_none : FoundSaid
  look_refused : ℕ → FoundSaid

abbrev pub found_said : Option EntryRow → FoundSaid
found_said (some r) = found_row r
found_said none = found_none

-- 9, then 16 where `is_table` is false, then the first row with that name
unfoldable pub look_up_in : List ℕ → List ℕ → List ℕ → FoundSaid
look_up_in s t name =
    cond (ltb limit (length s)) (look_refused input_too_long_no)
    (cond (is_table s t) (found_said (first_with (has_name s name) (all_rows_claim t))) (look_refused bad_span_no))
