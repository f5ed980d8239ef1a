-- Rows in the table: what a store changes, what an exchange is to the sequence of rows, and the sequence as a list.
use Prim.Native.Nat.{ℕ, zero, suc, ◌+◌, ◌*◌, ◌-◌, ◌<◌, ◌≤◌}
use mathlib.Core.Path.{◌≡◌, refl, sym, ap, ◌∙◌}
use mathlib.Core.List.{List, [], ◌∷◌, ◌++◌}
use native.Mathlib.Omega.{arith}
use lib.ListN.{length, get_or, set, take, drop, length-set, take-append-drop}
use lib.Seq.{get_or-set_same, get_or-set_other, get_or-drop, drop-set-lt, drop-drop}
use Rattle.whole.specs.Whole.{EntryRow, flat, rows_of}
use Rattle.whole.specs.Cut.{put_row}
use Rattle.index.specs.Index.{before, sorted, sorted_to}
use Rattle.index.specs.Rows.{row_from, nth_row, exchanged, Distinct}
use Rattle.index.specs.Heap.{swap, Done, RowsKept}
use Rattle.index.proofs.Order.{before_asym, upto_before, apart_before}
use Rattle.index.proofs.Swap.{Swapped, took_first, took_second, took_none, swap_view, shuffle_swap, shuffle_none, shuffle_then, shuffle_wider}
use Rattle.index.proofs.Heap.{Order}
use Rattle.index.proofs.Unique.{tab, placed_sorted}

pub before_order : (s : List ℕ) → Order (before s)
before_order s = record { asym = before_asym s; passes = upto_before s }

-- ---- a row stored
abbrev l1 : List ℕ → ℕ → EntryRow → List ℕ
l1 t p r = set t p r.name.start

abbrev l2 : List ℕ → ℕ → EntryRow → List ℕ
l2 t p r = set (l1 t p r) (p + 1) r.name.len

abbrev l3 : List ℕ → ℕ → EntryRow → List ℕ
l3 t p r = set (l2 t p r) (p + 2) r.entry.start

abbrev l4 : List ℕ → ℕ → EntryRow → List ℕ
l4 t p r = set (l3 t p r) (p + 3) r.entry.len

module _ (t : List ℕ) (p : ℕ) (r : EntryRow) where
  rest_stored : (n : ℕ) → p + 3 < n → drop n (l4 t p r) ≡ drop n t
  rest_stored n h =
      drop-set-lt n (l3 t p r) (p + 3) r.entry.len (omega arith)
      ∙ drop-set-lt n (l2 t p r) (p + 2) r.entry.start (omega arith)
      ∙ drop-set-lt n (l1 t p r) (p + 1) r.name.len (omega arith)
      ∙ drop-set-lt n t p r.name.start (omega arith)

  outside : (x : ℕ) → (x ≡ p → ⊥) → (x ≡ p + 1 → ⊥) → (x ≡ p + 2 → ⊥) → (x ≡ p + 3 → ⊥) → get_or (l4 t p r) x 0 ≡ get_or t x 0
  outside x a b c d =
      get_or-set_other (l3 t p r) (p + 3) x r.entry.len 0 d
      ∙ get_or-set_other (l2 t p r) (p + 2) x r.entry.start 0 c
      ∙ get_or-set_other (l1 t p r) (p + 1) x r.name.len 0 b
      ∙ get_or-set_other t p x r.name.start 0 a

  module _ (h : p + 3 < length t) where
    at_0 : get_or (l4 t p r) p 0 ≡ r.name.start
    at_0 =
        get_or-set_other (l3 t p r) (p + 3) p r.entry.len 0 (λ e. omega arith)
        ∙ get_or-set_other (l2 t p r) (p + 2) p r.entry.start 0 (λ e. omega arith)
        ∙ get_or-set_other (l1 t p r) (p + 1) p r.name.len 0 (λ e. omega arith)
        ∙ get_or-set_same t p r.name.start 0 (omega arith)

    at_1 : get_or (l4 t p r) (p + 1) 0 ≡ r.name.len
    at_1 =
        get_or-set_other (l3 t p r) (p + 3) (p + 1) r.entry.len 0 (λ e. omega arith)
        ∙ get_or-set_other (l2 t p r) (p + 2) (p + 1) r.entry.start 0 (λ e. omega arith)
        ∙ get_or-set_same (l1 t p r) (p + 1) r.name.len 0 (simp length-set (omega arith))

    at_2 : get_or (l4 t p r) (p + 2) 0 ≡ r.entry.start
    at_2 =
        get_or-set_other (l3 t p r) (p + 3) (p + 2) r.entry.len 0 (λ e. omega arith)
        ∙ get_or-set_same (l2 t p r) (p + 2) r.entry.start 0 (simp length-set (omega arith))

    at_3 : get_or (l4 t p r) (p + 3) 0 ≡ r.entry.len
    at_3 = get_or-set_same (l3 t p r) (p + 3) r.entry.len 0 (simp length-set (omega arith))

module _ (t : List ℕ) (i : ℕ) (r : EntryRow) where
  put_is : put_row t i r ≡ l4 t (4 * i) r
  put_is =
      let a : 4 * i + 1 ≡ suc (4 * i) = omega arith in
      let b : 4 * i + 2 ≡ suc (suc (4 * i)) = omega arith in
      let c : 4 * i + 3 ≡ suc (suc (suc (4 * i))) = omega arith in
      rw (a, b, c)

  pub put_row_length : length (put_row t i r) ≡ length t
  put_row_length = simp length-set

  put_rest : (n : ℕ) → i < n → drop (4 * n) (put_row t i r) ≡ drop (4 * n) t
  put_rest n h = ap (drop (4 * n)) put_is ∙ rest_stored t (4 * i) r (4 * n) (omega arith)

  put_other : (k : ℕ) → (k ≡ i → ⊥) → nth_row (put_row t i r) k ≡ nth_row t k
  unfolding nth_row
  put_other k n =
      let a = outside t (4 * i) r (4 * k) (λ e. omega arith) (λ e. omega arith) (λ e. omega arith) (λ e. omega arith) in
      let b = outside t (4 * i) r (4 * k + 1) (λ e. omega arith) (λ e. omega arith) (λ e. omega arith) (λ e. omega arith) in
      let c = outside t (4 * i) r (4 * k + 2) (λ e. omega arith) (λ e. omega arith) (λ e. omega arith) (λ e. omega arith) in
      let d = outside t (4 * i) r (4 * k + 3) (λ e. omega arith) (λ e. omega arith) (λ e. omega arith) (λ e. omega arith) in
      ap (λ (l : List ℕ). nth_row l k) put_is ∙ (λ j. row_from (a j) (b j) (c j) (d j))

  put_same : 4 * i + 3 < length t → nth_row (put_row t i r) i ≡ r
  unfolding nth_row row_from
  put_same h =
      let a = at_0 t (4 * i) r h in
      let b = at_1 t (4 * i) r h in
      let c = at_2 t (4 * i) r h in
      let d = at_3 t (4 * i) r h in
      ap (λ (l : List ℕ). nth_row l i) put_is ∙ (λ j. record { name = record { start = a j; len = b j }; entry = record { start = c j; len = d j } })

-- ---- two rows exchanged: the law that ties the table to the sequence of its rows
module _ (t : List ℕ) (i j : ℕ) (l : i < j) (h : 4 * j + 3 < length t) where
  row_at : (k : ℕ) {x : ℕ} → Swapped i j k x → nth_row (exchanged t i j) k ≡ nth_row t x
  unfolding exchanged
  row_at k (took_first e) =
      put_other (put_row t i (nth_row t j)) j (nth_row t i) k (λ f. omega arith)
      ∙ ap (nth_row (put_row t i (nth_row t j))) e
      ∙ put_same t i (nth_row t j) (omega arith)
  row_at k (took_second n e) =
      ap (nth_row (put_row (put_row t i (nth_row t j)) j (nth_row t i))) e
      ∙ put_same (put_row t i (nth_row t j)) j (nth_row t i) (rw (put_row_length t i (nth_row t j)) h)
  row_at k (took_none n m) = put_other (put_row t i (nth_row t j)) j (nth_row t i) k m ∙ put_other t i (nth_row t j) k n

  pub row_exchanged : (k : ℕ) → nth_row (exchanged t i j) k ≡ nth_row t (swap i j k)
  row_exchanged k = row_at k (swap_view i j k)

  pub kept_exchanged : (n : ℕ) → j < n → RowsKept n (exchanged t i j) t
  unfolding exchanged
  kept_exchanged n b = record {
    long = put_row_length (put_row t i (nth_row t j)) j (nth_row t i) ∙ put_row_length t i (nth_row t j);
    rest = put_rest (put_row t i (nth_row t j)) j (nth_row t i) n b ∙ put_rest t i (nth_row t j) n (omega arith);
    rows = shuffle_swap n i j _ _ (omega arith) b row_exchanged;
  }

pub kept_none : (n : ℕ) (t : List ℕ) → RowsKept n t t
kept_none n t = record { long = refl; rest = refl; rows = shuffle_none n (nth_row t) }

pub kept_then : {n : ℕ} {t u v : List ℕ} → RowsKept n t u → RowsKept n u v → RowsKept n t v
kept_then a b = record { long = a.long ∙ b.long; rest = a.rest ∙ b.rest; rows = shuffle_then a.rows b.rows }

pub kept_wider : {m n : ℕ} {t u : List ℕ} → m ≤ n → RowsKept m t u → RowsKept n t u
kept_wider {m = m} {n = n} {t = t} {u = u} h a = record {
  long = a.long;
  rest = more t ∙ ap (drop (4 * n - 4 * m)) a.rest ∙ sym (more u);
  rows = shuffle_wider h a.rows;
}
  where
    more : (l : List ℕ) → drop (4 * n) l ≡ drop (4 * n - 4 * m) (drop (4 * m) l)
    more l = let e : 4 * n ≡ 4 * m + (4 * n - 4 * m) = omega arith in ap (λ (k : ℕ). drop k l) e ∙ sym (drop-drop (4 * n - 4 * m) (4 * m) l)

-- ---- the sequence of rows as a list
tab_same : {A : Type 0} (f g : ℕ → A) (n : ℕ) → ((k : ℕ) → f k ≡ g k) → tab f n ≡ tab g n
tab_same f g n e = ap (λ (h : ℕ → _). tab h n) (λ j k. e k j)

four_more_lem : (n : ℕ) → 4 * suc n ≡ suc (suc (suc (suc (4 * n))))
four_more_lem n = omega arith

number_later : (t : List ℕ) (m k : ℕ) → m ≡ 4 + k → get_or t m 0 ≡ get_or (drop 4 t) k 0
number_later t m k e = ap (λ (i : ℕ). get_or t i 0) e ∙ sym (get_or-drop 4 t k 0)

row_later : (t : List ℕ) (k : ℕ) → nth_row t (suc k) ≡ nth_row (drop 4 t) k
unfolding nth_row
row_later t k =
    let a = number_later t (4 * suc k) (4 * k) (omega arith) in
    let b = number_later t (4 * suc k + 1) (4 * k + 1) (omega arith) in
    let c = number_later t (4 * suc k + 2) (4 * k + 2) (omega arith) in
    let d = number_later t (4 * suc k + 3) (4 * k + 3) (omega arith) in
    λ j. row_from (a j) (b j) (c j) (d j)

pub rows_tab : (n : ℕ) (t : List ℕ) → rows_of n t ≡ tab (nth_row t) n
unfolding tab nth_row row_from
rows_tab zero t = refl
rows_tab (suc n) t = ap (λ (l : List EntryRow). nth_row t 0 ∷ l) (rows_tab n (drop 4 t) ∙ sym (tab_same _ _ n (row_later t)))

pub flat_tab : (n : ℕ) (t : List ℕ) → 4 * n ≤ length t → flat (tab (nth_row t) n) ≡ take (4 * n) t
unfolding flat tab row_from nth_row
flat_tab zero t h = refl
flat_tab (suc n) [] h = absurd (omega arith)
flat_tab (suc n) (a ∷ []) h = absurd (omega arith)
flat_tab (suc n) (a ∷ b ∷ []) h = absurd (omega arith)
flat_tab (suc n) (a ∷ b ∷ c ∷ []) h = absurd (omega arith)
flat_tab (suc n) (a ∷ b ∷ c ∷ d ∷ t) h =
    ap (λ (l : List ℕ). a ∷ b ∷ c ∷ d ∷ l) (ap flat (tab_same _ _ n (row_later (a ∷ b ∷ c ∷ d ∷ t))) ∙ flat_tab n t (omega arith))
    ∙ ap (λ (k : ℕ). take k (a ∷ b ∷ c ∷ d ∷ t)) (sym (four_more_lem n))

pub table_sorted : (s : List ℕ) (n : ℕ) (t u : List ℕ) → 4 * n ≤ length u → Distinct u n → RowsKept n t u → Done (before s) 1 n (nth_row t) → t ≡ sorted_to s n u
unfolding sorted_to
table_sorted s n t u h a k d =
    let e : tab (nth_row t) n ≡ sorted (before s) (tab (nth_row u) n) =
    placed_sorted (before s) (before_order s) n (nth_row t) (nth_row u) d k.rows (λ i j l b. apart_before s (nth_row u i) (nth_row u j) (a i j l b)) in
    sym
    (ap (λ (l : List EntryRow). flat (sorted (before s) l) ++ drop (4 * n) u) (rows_tab n u)
    ∙ ap (λ (l : List EntryRow). flat l ++ drop (4 * n) u) (sym e)
    ∙ ap (λ (l : List ℕ). l ++ drop (4 * n) u) (flat_tab n t (rw k.long h))
    ∙ ap (λ (l : List ℕ). take (4 * n) t ++ l) (sym k.rest)
    ∙ take-append-drop (4 * n) t)
