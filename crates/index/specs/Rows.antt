-- cut: rows by their number, and what sorting does to the table: two rows change places.
use Rattle.std.specs.Prelude.{ℕ, ◌+◌, ◌*◌, ◌<◌, ◌≡◌, List, get_or}
use Rattle.whole.specs.Whole.{EntryRow}
use Rattle.whole.specs.Cut.{put_row}

-- the row that four numbers are
unfoldable pub row_from : ℕ → ℕ → ℕ → ℕ → EntryRow
row_from a b c d = record { name = record { start = a; len = b }; entry = record { start = c; len = d } }

unfoldable pub nth_row : List ℕ → ℕ → EntryRow
nth_row t k = row_from (get_or t (4 * k) 0) (get_or t (4 * k + 1) 0) (get_or t (4 * k + 2) 0) (get_or t (4 * k + 3) 0)

unfoldable pub four_row : List ℕ → EntryRow
four_row f = row_from (get_or f 0 0) (get_or f 1 0) (get_or f 2 0) (get_or f 3 0)

-- the rows i and j change places
unfoldable pub exchanged : List ℕ → ℕ → ℕ → List ℕ
exchanged t i j = put_row (put_row t i (nth_row t j)) j (nth_row t i)

-- no two of the first n rows have entries with the same start
abbrev pub Distinct : List ℕ → ℕ → Type 0
Distinct t n = (j k : ℕ) → j < k → k < n → (nth_row t j).entry.start ≡ (nth_row t k).entry.start → ⊥
