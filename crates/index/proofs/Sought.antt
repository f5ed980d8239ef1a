-- A lookup: what the turns that are left find, and that all of them together find what the definition says.
use Rattle.std.specs.Prelude.{Result}
use Rattle.std.specs.Prelude as P
use Rattle.std.specs.Result.{is_ok}
use Rattle.std.specs.Simd.{first_chunks}
use Prim.Native.Nat.{ℕ, zero, suc, ◌+◌, ◌/◌, ◌%◌, ◌<◌, ◌≤◌}
use mathlib.Core.Path.{◌≡◌, refl, sym, ap, ◌∙◌}
use mathlib.Core.List.{List, [], ◌∷◌, map}
use mathlib.Core.Bool.{Bool, true, false, cond, true≢false, ◌&&◌}
use mathlib.Core.Option.{Option, some, none}
use native.Mathlib.Omega.{arith}
use lib.ListN.{length, take, drop, get_or}
use lib.Seq.{drop-cons}
use Rattle.std.proofs.lemmas.List.{drop_all}
use borrow.Author.Tests.{eq-eqb, ne_eqb, lt-ltb, le-ltb}
use Rattle.refusals.specs.Numbers.{input_too_long_no, bad_span_no, limit}
use Rattle.refusals.specs.Answers.{opt_of}
use Rattle.refusals.specs.declared.Span.{Span}
use Rattle.refusals.specs.declared.BadSpan.{BadSpan}
use Rattle.octet_string.specs.Strings.{span_within, span_refusal}
use Rattle.octet_string.specs.Answers.{span_check}
use Rattle.whole.specs.Whole.{EntryRow, first_row, rows_of}
use Rattle.index.specs.Index.{before, row_within, every, rising, is_table, first_with, has_name, FoundSaid, look_refused, found_said, look_up_in, all_rows_claim}
use Rattle.index.specs.Answers.{entry_row, found_by}
use Rattle.index.specs.Rows.{row_from, four_row}
use Rattle.index.specs.Sought.{sound_at, sought_at}
use Rattle.index.specs.declared.Row.{Row}

-- ---- a part within the input, by the library's question

abbrev is_some : Option ℕ → Bool
is_some (some n) = true
is_some none = false

pub within_ok : (s : List ℕ) (p : Span) (r : Result (Unit {0}) BadSpan) → span_check r ≡ span_refusal s p → is_ok r ≡ span_within s p
unfolding span_refusal
within_ok s p r e = go (span_within s p) r e
  where
    go : (t : Bool) (r : Result (Unit {0}) BadSpan) → span_check r ≡ cond t none (some bad_span_no) → is_ok r ≡ t
    go true (P.Ok u) f = refl
    go false (P.Ok u) f = absurd (true≢false (sym (ap is_some f)))
    go true (P.Err b) f = absurd (true≢false (ap is_some f))
    go false (P.Err b) f = refl

-- ---- rows as arrays of four numbers

chunk_row : (t : List ℕ) → four_row (take 4 t) ≡ first_row t
unfolding four_row row_from
chunk_row [] = refl
chunk_row (a ∷ []) = refl
chunk_row (a ∷ b ∷ []) = refl
chunk_row (a ∷ b ∷ c ∷ []) = refl
chunk_row (a ∷ b ∷ c ∷ d ∷ t) = refl

chunk_rows : (n : ℕ) (t : List ℕ) → map four_row (first_chunks 4 n t) ≡ rows_of n t
chunk_rows zero t = refl
chunk_rows (suc n) t = λ i. chunk_row t i ∷ chunk_rows n (drop 4 t) i

-- ---- the turns that are left, behind a row and with what was found

unfoldable pub turns_left : List ℕ → (EntryRow → Bool) → Option EntryRow → Option EntryRow → List EntryRow → FoundSaid
turns_left s p b f [] = found_said f
turns_left s p b f (r ∷ rs) = cond (sound_at s b r) (turns_left s p (some r) (sought_at p f r) rs) (look_refused bad_span_no)

abbrev pub left_at : List ℕ → (EntryRow → Bool) → Option EntryRow → Option EntryRow → List (List ℕ) → ℕ → FoundSaid
left_at s p b f rows i = turns_left s p b f (map four_row (drop i rows))

module _ (s : List ℕ) (p : EntryRow → Bool) (b f : Option EntryRow) (rows : List (List ℕ)) (i : ℕ) where
  next_turn : i < length rows → left_at s p b f rows i ≡ turns_left s p b f (four_row (get_or rows i []) ∷ map four_row (drop (suc i) rows))
  next_turn h = ap (λ (l : List (List ℕ)). turns_left s p b f (map four_row l)) (drop-cons rows i [] h)

  pub turn_taken : (r : EntryRow) → i < length rows → r ≡ four_row (get_or rows i []) → sound_at s b r ≡ true → left_at s p (some r) (sought_at p f r) rows (i + 1) ≡ left_at s p b f rows i
  unfolding turns_left
  turn_taken r h q e = let m : i + 1 ≡ suc i = omega arith in sym (next_turn h ∙ rw (← q, e, m))

  pub turn_refused : (r : EntryRow) → i < length rows → r ≡ four_row (get_or rows i []) → sound_at s b r ≡ false → left_at s p b f rows i ≡ look_refused bad_span_no
  unfolding turns_left
  turn_refused r h q e = next_turn h ∙ rw (← q, e)

  pub turns_over : length rows ≤ i → left_at s p b f rows i ≡ found_said f
  unfolding turns_left
  turns_over h = ap (λ (l : List (List ℕ)). turns_left s p b f (map four_row l)) (drop_all i rows h)

-- ---- all turns

abbrev rises_from : List ℕ → Option EntryRow → List EntryRow → Bool
rises_from s none l = rising (before s) l
rises_from s (some q) l = rising (before s) (q ∷ l)

abbrev first_from : (EntryRow → Bool) → Option EntryRow → List EntryRow → Option EntryRow
first_from p none l = first_with p l
first_from p (some r) l = some r

found_later : (p : EntryRow → Bool) (f : Option EntryRow) (r : EntryRow) (rs : List EntryRow) → first_from p (sought_at p f r) rs ≡ first_from p f (r ∷ rs)
unfolding sought_at first_with
found_later p (some q) r rs = refl
found_later p none r rs = go (p r)
  where
    go : (t : Bool) → first_from p (cond t (some r) none) rs ≡ cond t (some r) (first_with p rs)
    go true = refl
    go false = refl

-- a turn's test before the tests of the rest, as the tests of each kind
module _ (w e z : Bool) (x y : FoundSaid) where
  test_first : cond w (cond (e && z) x y) y ≡ cond ((w && e) && z) x y
  test_first = go w
    where
      go : (t : Bool) → cond t (cond (e && z) x y) y ≡ cond ((t && e) && z) x y
      go true = refl
      go false = refl

  test_both : (t : Bool) → cond (w && t) (cond (e && z) x y) y ≡ cond ((w && e) && (t && z)) x y
  test_both t = go w t e
    where
      go : (w t e : Bool) → cond (w && t) (cond (e && z) x y) y ≡ cond ((w && e) && (t && z)) x y
      go true true e = refl
      go true false true = refl
      go true false false = refl
      go false t e = refl

turns_judge : (s : List ℕ) (p : EntryRow → Bool) (b f : Option EntryRow) (l : List EntryRow)
    → turns_left s p b f l ≡ cond (every (row_within s) l && rises_from s b l) (found_said (first_from p f l)) (look_refused bad_span_no)
unfolding turns_left every rising first_with sound_at
turns_judge s p none none [] = refl
turns_judge s p none (some q) [] = refl
turns_judge s p (some r) none [] = refl
turns_judge s p (some r) (some q) [] = refl
turns_judge s p none f (r ∷ rs) =
    rw (turns_judge s p (some r) (sought_at p f r) rs, found_later p f r rs) (test_first (row_within s r) (every (row_within s) rs) (rising (before s) (r ∷ rs)) _ _)
turns_judge s p (some q) f (r ∷ rs) =
    rw (turns_judge s p (some r) (sought_at p f r) rs, found_later p f r rs) (test_both (row_within s r) (every (row_within s) rs) (rising (before s) (r ∷ rs)) _ _ (before s q r))

-- ---- what a lookup answers

pub found_is : (f : P.Option Row) → found_by (P.Ok f) ≡ found_said (opt_of entry_row f)
found_is (P.Some r) = refl
found_is P.None = refl

module _ (s t name : List ℕ) where
  pub look_long : limit < length s → look_refused input_too_long_no ≡ look_up_in s t name
  unfolding look_up_in
  look_long h = rw (lt-ltb limit (length s) h)

  pub look_part : length s ≤ limit → (length t % 4 ≡ 0 → ⊥) → look_refused bad_span_no ≡ look_up_in s t name
  unfolding look_up_in is_table
  look_part h e = rw (le-ltb limit (length s) h, ne_eqb (length t % 4) 0 e)

  pub look_all : (rows : List (List ℕ)) → length s ≤ limit → length t % 4 ≡ 0 → rows ≡ first_chunks 4 (length t / 4) t → turns_left s (has_name s name) none none (map four_row rows) ≡ look_up_in s t name
  unfolding look_up_in is_table
  look_all rows h e q =
      let m : map four_row rows ≡ all_rows_claim t = ap (map four_row) q ∙ chunk_rows (length t / 4) t in
      rw (le-ltb limit (length s) h, eq-eqb (length t % 4) 0 e, m) (turns_judge s (has_name s name) none none (all_rows_claim t))
