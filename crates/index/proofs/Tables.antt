-- The outcomes of a lookup, and what is true of a table that it takes.
use Prim.Native.Nat.{ℕ, ◌+◌, ◌%◌, ◌<◌, ◌≤◌}
use mathlib.Core.Path.{◌≡◌, refl, sym, ap, ◌∙◌}
use mathlib.Core.List.Memᴰ
use mathlib.Core.List.{List, [], ◌∷◌, Memᴰ}
use mathlib.Core.Bool.{Bool, true, false, cond, false≢true, ◌&&◌}
use mathlib.Core.Option.{Option, some, none}
use mathlib.Core.Logic.{⊎_elim}
use native.Mathlib.Omega.{arith}
use lib.ListN.{length}
use lib.Dec.{ltb, eqb}
use borrow.Author.Tests.{ltb-true, ltb-false, eqb-true}
use Rattle.refusals.specs.Numbers.{input_too_long_no, bad_span_no, limit}
use Rattle.refusals.proofs.Read.{and_left, and_right}
use Rattle.octet_string.specs.Strings.{span_within}
use Rattle.octet_string.proofs.Strings.{within_end}
use Rattle.frame.proofs.Cases.{by_test}
use Rattle.whole.specs.Whole.{EntryRow}
use Rattle.index.specs.Index.{before, row_within, every, rising, all_rows_claim, is_table, first_with, has_name, FoundSaid, found_row, found_none, look_refused, found_said, look_up_in}

pub data LookOutcome (s t name : List ℕ) : FoundSaid → Type 0 where
  long_input : limit < length s → LookOutcome s t name (look_refused input_too_long_no)
  no_table : length s ≤ limit → is_table s t ≡ false → LookOutcome s t name (look_refused bad_span_no)
  looked_in : length s ≤ limit → is_table s t ≡ true → LookOutcome s t name (found_said (first_with (has_name s name) (all_rows_claim t)))

pub look_outcome : (s t name : List ℕ) → LookOutcome s t name (look_up_in s t name)
unfolding look_up_in
look_outcome s t name = by (ltb limit (length s)) (is_table s t) refl refl
  where
    by : (p q : Bool) → ltb limit (length s) ≡ p → is_table s t ≡ q
        → LookOutcome s t name (cond p (look_refused input_too_long_no) (cond q (found_said (first_with (has_name s name) (all_rows_claim t))) (look_refused bad_span_no)))
    by true q e f = long_input (ltb-true _ _ e)
    by false true e f = looked_in (ltb-false _ _ e) f
    by false false e f = no_table (ltb-false _ _ e) f

-- ---- a table that is taken

pub record IsTable (s t : List ℕ) : Type 0 where
  pub whole : length t % 4 ≡ 0
  pub within : every (row_within s) (all_rows_claim t) ≡ true
  pub order : rising (before s) (all_rows_claim t) ≡ true

pub is_a_table : (s t : List ℕ) → is_table s t ≡ true → IsTable s t
unfolding is_table
is_a_table s t e =
    let b = and_right (eqb (length t % 4) 0) (every (row_within s) (all_rows_claim t) && rising (before s) (all_rows_claim t)) e in
    record {
      whole = eqb-true _ _ (and_left (eqb (length t % 4) 0) (every (row_within s) (all_rows_claim t) && rising (before s) (all_rows_claim t)) e);
      within = and_left (every (row_within s) (all_rows_claim t)) (rising (before s) (all_rows_claim t)) b;
      order = and_right (every (row_within s) (all_rows_claim t)) (rising (before s) (all_rows_claim t)) b;
    }

pub every_in : {A : Type 0} (q : A → Bool) (l : List A) → every q l ≡ true → (x : A) → Memᴰ x l → q x ≡ true
unfolding every
every_in q [] e x m = absurd (Memᴰ.not-nil m)
every_in q (a ∷ l) e x m = ⊎_elim (λ i. ap q i ∙ and_left (q a) (every q l) e) (λ n. every_in q l (and_right (q a) (every q l) e) x n) (Memᴰ.cases_cons m)

-- what is found is one of them
pub record TakenFrom {A : Type 0} (p : A → Bool) (l : List A) (a : A) : Type 0 where
  pub in_list_lem : Memᴰ a l
  pub passes : p a ≡ true

abbrev some_or : {A : Type 0} → A → Option A → A
some_or d (some a) = a
some_or d none = d

abbrev is_none : {A : Type 0} → Option A → Bool
is_none (some a) = false
is_none none = true

pub first_taken : {A : Type 0} (p : A → Bool) (l : List A) (a : A) → first_with p l ≡ some a → TakenFrom p l a
unfolding first_with
first_taken p [] a e = absurd (false≢true (sym (ap is_none e)))
first_taken {A} p (b ∷ l) a e =
    by_test (λ (x : Option A). x ≡ some a → TakenFrom p (b ∷ l) a) (p b) (some b) (first_with p l)
    (λ q f. let z : b ≡ a = ap (some_or b) f in record { in_list_lem = Memᴰ.head (sym z); passes = ap p (sym z) ∙ q })
    (λ q f. let w = first_taken p l a f in record { in_list_lem = Memᴰ.tail w.in_list_lem; passes = w.passes })
    e

-- ---- a row that is found lies within the input, which is short

pub record RowLies (s : List ℕ) (r : EntryRow) : Type 0 where
  pub short : length s ≤ limit
  pub name_ends : r.name.start + r.name.len ≤ length s
  pub entry_ends : r.entry.start + r.entry.len ≤ length s

abbrev look_kind : FoundSaid → ℕ
look_kind (found_row r) = 0
look_kind found_none = 1
look_kind (look_refused n) = 2

abbrev row_or : EntryRow → FoundSaid → EntryRow
row_or d (found_row r) = r
row_or d found_none = d
row_or d (look_refused n) = d

pub not_refused : {r : EntryRow} {n : ℕ} → look_refused n ≡ found_row r → ⊥
not_refused e = let z : ◌≡◌ {A = ℕ} 2 0 = ap look_kind e in omega (arith, z)

pub none_not_row : {r : EntryRow} → found_none ≡ found_row r → ⊥
none_not_row e = let z : ◌≡◌ {A = ℕ} 1 0 = ap look_kind e in omega (arith, z)

pub never_none : {n : ℕ} → look_refused n ≡ found_none → ⊥
never_none e = let z : ◌≡◌ {A = ℕ} 2 1 = ap look_kind e in omega (arith, z)

pub same_row : {q r : EntryRow} → found_row q ≡ found_row r → q ≡ r
same_row {q} e = ap (row_or q) e

row_lies : (s t : List ℕ) (r : EntryRow) → length s ≤ limit → IsTable s t → Memᴰ r (all_rows_claim t) → RowLies s r
unfolding row_within
row_lies s t r h w m =
    let q = every_in (row_within s) (all_rows_claim t) w.within r m in
    record { short = h; name_ends = within_end s r.name (and_left (span_within s r.name) (span_within s r.entry) q); entry_ends = within_end s r.entry (and_right (span_within s r.name) (span_within s r.entry) q) }

pub found_lies : (s t name : List ℕ) (r : EntryRow) (a : FoundSaid) → LookOutcome s t name a → a ≡ found_row r → RowLies s r
found_lies s t name r a (long_input h) e = absurd (not_refused e)
found_lies s t name r a (no_table h q) e = absurd (not_refused e)
found_lies s t name r a (looked_in h q) e = go (first_with (has_name s name) (all_rows_claim t)) refl e
  where
    go : (x : Option EntryRow) → first_with (has_name s name) (all_rows_claim t) ≡ x → found_said x ≡ found_row r → RowLies s r
    go none f g = absurd (none_not_row g)
    go (some b) f g = row_lies s t r h (is_a_table s t q) (first_taken (has_name s name) (all_rows_claim t) r (f ∙ ap some (same_row g))).in_list_lem
