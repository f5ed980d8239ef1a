-- Rows: where they stand, how they are stored, and what the table holds then.
use mathlib.Core.Path.{◌≡◌, refl, sym, ap, ◌∙◌}
use mathlib.Core.List.{List, [], ◌∷◌, ◌++◌, append_assoc}
use Prim.Native.Nat.{ℕ, zero, suc, ◌+◌, ◌*◌, ◌≤◌}
use native.Mathlib.Omega.{arith}
use lib.ListN.{length, take, drop}
use lib.Seq.{sets, sets-eq, drop-drop}
use borrow.Rule.Slice.PartMut.{put_mid}
use Rattle.refusals.specs.Read.{got, many}
use Rattle.refusals.proofs.Read.{Ok, ok_any, ok_got, ok_then}
use Rattle.whole.specs.Whole.{EntryRow, row_at, rows_at, flat}
use Rattle.whole.specs.Cut.{or_leave, store_rows}

-- as many rows as are asked for, and stored from row i on they are their numbers from number 4 * i on
pub record RowsStored (n : ℕ) (s : List ℕ) (at : ℕ) (rows : List EntryRow) : Type 0 where
  pub count : length rows ≡ n
  pub stored : (i : ℕ) (t : List ℕ) → store_rows n s at i t ≡ sets t (4 * i) (flat rows)

pub no_rows : (s : List ℕ) (at : ℕ) → RowsStored 0 s at []
unfolding store_rows flat
no_rows s at = record { count = refl; stored = λ i t. refl }

one_row_more : (n : ℕ) (s : List ℕ) (at : ℕ) (r : EntryRow) (rs : List EntryRow) (next : ℕ) → row_at s at ≡ got r next → RowsStored n s next rs → RowsStored (suc n) s at (r ∷ rs)
unfolding store_rows or_leave flat
one_row_more n s at r rs next e h =
    record {
      count = ap suc h.count;
      stored = λ i t. let m : 4 * (i + 1) ≡ suc (suc (suc (suc (4 * i)))) = omega arith in rw (e, h.stored (i + 1), m);
    }

pub rows_stored : (n : ℕ) (s : List ℕ) (at : ℕ) → Ok (λ rows m. RowsStored n s at rows) (rows_at n s at)
unfolding many
rows_stored zero s at = ok_got _ _ (no_rows s at)
rows_stored (suc n) s at = ok_then _ _ (ok_any (row_at s at)) (λ r next e. ok_then _ _ (rows_stored n s next) (λ rs m h. ok_got _ _ (one_row_more n s at r rs next e h)))

pub flat_length : (rows : List EntryRow) → length (flat rows) ≡ 4 * length rows
unfolding flat
flat_length [] = refl
flat_length (r ∷ rows) = omega (arith, flat_length rows)

-- from the table's first number on, and the rest as it was
pub rows_first : (t : List ℕ) (rows : List EntryRow) → 4 * length rows ≤ length t → sets t (4 * 0) (flat rows) ≡ flat rows ++ drop (4 * length rows) t
rows_first t rows h =
    let l = flat_length rows in
    let z : 0 + length (flat rows) ≡ 4 * length rows = omega arith in
    rw (← z) (sets-eq (flat rows) t 0 (omega arith))

-- a row copied into the table's middle is its numbers stored one by one
pub copied_sets : (t u row : List ℕ) (a k : ℕ) → u ≡ row → length row ≡ k → a + k ≤ length t → put_mid a k t u ≡ sets t a row
copied_sets t u row a k e l h =
    let m : drop k (drop a t) ≡ drop (a + length row) t = drop-drop k a t ∙ ap (λ (n : ℕ). drop (a + n) t) (sym l) in
    let w : put_mid a k t u ≡ take a t ++ (row ++ drop (a + length row) t) = λ i. take a t ++ (e i ++ m i) in
    w ∙ sym (append_assoc (take a t) row _) ∙ sym (sets-eq row t a (omega arith))
