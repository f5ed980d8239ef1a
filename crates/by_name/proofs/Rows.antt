-- Rows in a table, and the first of them with a name.
use Prim.Native.Nat.{ℕ, zero, suc, ◌*◌, ◌/◌, ◌%◌, ◌≤◌}
use mathlib.Core.Path.{◌≡◌, refl, sym, ap, ◌∙◌, subst}
use mathlib.Core.Bool.{Bool, true, false, true≢false}
use mathlib.Core.List.Memᴰ
use mathlib.Core.List.{List, [], ◌∷◌, ◌++◌, Memᴰ}
use mathlib.Core.Option.{Option, some, none}
use mathlib.Core.Logic.{⊎_elim}
use native.Mathlib.Omega.{arith}
use lib.ListN.{length, take, drop, take-append-drop}
use lib.Seq.{take_at}
use borrow.Author.Tests.{eq-eqb, lt-ltb, ltb-true}
use Rattle.refusals.proofs.Read.{and_left, and_right}
use Rattle.frame.proofs.Cases.{by_test}
use Rattle.frame.proofs.Same.{same_true, same_self}
use Rattle.octet_string.specs.Strings.{span_within, part_of}
use Rattle.octet_string.proofs.Strings.{within_end, is_within}
use Rattle.name_order.proofs.Lower as L
use Rattle.name_order.proofs.Lower.{Lower, shorter, less, further, Compared, comparing}
use Rattle.name_order.proofs.Compared.{is_less, is_greater}
use Rattle.whole.specs.Whole.{EntryRow, flat, rows_of}
use Rattle.whole.proofs.Rows.{flat_length}
use Rattle.whole.proofs.Outcomes.{rows_back, rest_stays, length_stays}
use Rattle.index.specs.Index.{before, row_within, every, rising, all_rows_claim, is_table, first_with, has_name, FoundSaid, found_said}
use Rattle.index.proofs.Order.{place_before, before_less, before_greater}
use Rattle.index.proofs.Rows.{rows_tab, flat_tab}
use Rattle.index.proofs.Tables.{is_a_table, every_in}
use Rattle.by_name.specs.Indexes.{NameBefore, beginning, less_byte, RowBefore, by_name, by_place, InOrder, RowInside, SoundTable, FirstNamed, first_named, none_named, row_name}

-- ---- in order, by the test and by the claim

before_more : (a : ℕ) {x y : List ℕ} → NameBefore x y → NameBefore (a ∷ x) (a ∷ y)
before_more a (beginning x b l) = beginning (a ∷ x) b l
before_more a (less_byte x c d k l h) = less_byte (a ∷ x) c d k l h

name_before : {x y : List ℕ} → Lower x y → NameBefore x y
name_before (shorter {b} {l}) = beginning [] b l
name_before (less {a} {b} {k} {l} h) = less_byte [] a b k l h
name_before (further {a} {b} {k} {l} e r) = subst (λ (c : ℕ). NameBefore (a ∷ k) (c ∷ l)) e (before_more a (name_before r))

lower_behind : (x : List ℕ) {y z : List ℕ} → Lower y z → Lower (x ++ y) (x ++ z)
lower_behind [] r = r
lower_behind (a ∷ x) r = further refl (lower_behind x r)

lower_beginning : (x : List ℕ) (b : ℕ) (l : List ℕ) → Lower x (x ++ (b ∷ l))
lower_beginning [] b l = shorter
lower_beginning (a ∷ x) b l = further refl (lower_beginning x b l)

before_name : {x y : List ℕ} → NameBefore x y → Lower x y
before_name (beginning x b l) = lower_beginning x b l
before_name (less_byte x a b k l h) = lower_behind x (less h)

row_before : (s : List ℕ) (p q : EntryRow) → before s p q ≡ true → RowBefore s p q
row_before s p q e = go (comparing (part_of s p.name) (part_of s q.name))
  where
    go : Compared (part_of s p.name) (part_of s q.name) → RowBefore s p q
    go (L.less_name r) = by_name (name_before r)
    go (L.equal_names r) = by_place r (ltb-true _ _ (sym (place_before s p q r) ∙ e))
    go (L.greater_name r) = absurd (true≢false (sym e ∙ before_greater s p q (is_greater _ _ r)))

before_row : (s : List ℕ) (p q : EntryRow) → RowBefore s p q → before s p q ≡ true
before_row s p q (by_name r) = before_less s p q (is_less _ _ (before_name r))
before_row s p q (by_place e h) = place_before s p q e ∙ lt-ltb _ _ h

pub in_order : (s : List ℕ) (l : List EntryRow) → rising (before s) l ≡ true → InOrder s l
unfolding rising
in_order s [] e = tt
in_order s (r ∷ []) e = tt
in_order s (r ∷ q ∷ l) e = (row_before s r q (and_left (before s r q) (rising (before s) (q ∷ l)) e), in_order s (q ∷ l) (and_right (before s r q) (rising (before s) (q ∷ l)) e))

pub order_in : (s : List ℕ) (l : List EntryRow) → InOrder s l → rising (before s) l ≡ true
unfolding rising
order_in s [] h = refl
order_in s (r ∷ []) h = refl
order_in s (r ∷ q ∷ l) h = rw (before_row s r q h.0, order_in s (q ∷ l) h.1)

-- ---- a table's rows

pub rows_length : (n : ℕ) (t : List ℕ) → length (rows_of n t) ≡ n
rows_length zero t = refl
rows_length (suc n) t = ap suc (rows_length n (drop 4 t))

-- rows that are as many as n, and what stands behind them
module _ (n : ℕ) (l : List EntryRow) (e : length l ≡ n) (t : List ℕ) where
  pub rows_again : rows_of n (flat l ++ drop (4 * n) t) ≡ l
  rows_again = subst (λ (k : ℕ). rows_of k (flat l ++ drop (4 * k) t) ≡ l) e (rows_back l (drop (4 * length l) t))

  pub rest_again : drop (4 * n) (flat l ++ drop (4 * n) t) ≡ drop (4 * n) t
  rest_again = subst (λ (k : ℕ). drop (4 * k) (flat l ++ drop (4 * k) t) ≡ drop (4 * k) t) e (rest_stays l t)

  pub length_again : 4 * n ≤ length t → length (flat l ++ drop (4 * n) t) ≡ length t
  length_again h = subst (λ (k : ℕ). length (flat l ++ drop (4 * k) t) ≡ length t) e (length_stays l t (omega (arith, e)))

  pub front_again : take (4 * n) (flat l ++ drop (4 * n) t) ≡ flat l
  front_again = take_at (flat l) (drop (4 * n) t) (4 * n) (flat_length l ∙ ap (λ (k : ℕ). 4 * k) e)

-- a table is its rows, and the rest
pub table_parts : (n : ℕ) (t : List ℕ) → 4 * n ≤ length t → t ≡ flat (rows_of n t) ++ drop (4 * n) t
table_parts n t h = sym (ap (λ (l : List ℕ). l ++ drop (4 * n) t) (ap flat (rows_tab n t) ∙ flat_tab n t h) ∙ take-append-drop (4 * n) t)

-- the rows of a table that is nothing else
rows_flat : (k : List EntryRow) → rows_of (length k) (flat k) ≡ k
unfolding flat
rows_flat [] = refl
rows_flat (r ∷ k) = ap (λ (m : List EntryRow). r ∷ m) (rows_flat k)

pub all_rows : (l : List EntryRow) → all_rows_claim (flat l) ≡ l
all_rows l = let e : length (flat l) / 4 ≡ length l = omega (arith, flat_length l) in ap (λ (k : ℕ). rows_of k (flat l)) e ∙ rows_flat l

pub whole_rows : (l : List EntryRow) → length (flat l) % 4 ≡ 0
whole_rows l = omega (arith, flat_length l)

-- ---- sound tables

pub every_from : {A : Type 0} (q : A → Bool) (l : List A) → ((x : A) → Memᴰ x l → q x ≡ true) → every q l ≡ true
unfolding every
every_from q [] h = refl
every_from q (a ∷ l) h = rw (h a (Memᴰ.head refl), every_from q l (λ x m. h x (Memᴰ.tail m)))

pub inside_row : (s : List ℕ) (r : EntryRow) → row_within s r ≡ true → RowInside s r
unfolding row_within
inside_row s r e =
    record {
      name = within_end s r.name (and_left (span_within s r.name) (span_within s r.entry) e);
      entry = within_end s r.entry (and_right (span_within s r.name) (span_within s r.entry) e);
    }

pub row_inside : (s : List ℕ) (r : EntryRow) → RowInside s r → row_within s r ≡ true
unfolding row_within
row_inside s r h = rw (is_within s r.name h.name, is_within s r.entry h.entry)

pub table_sound : (s t : List ℕ) → is_table s t ≡ true → SoundTable s t
table_sound s t e =
    let w = is_a_table s t e in
    record {
      whole_rows = w.whole;
      inside = λ r m. inside_row s r (every_in (row_within s) (all_rows_claim t) w.within r m);
      in_order = in_order s (all_rows_claim t) w.order;
    }

pub is_sound_lem : (s t : List ℕ) → SoundTable s t → is_table s t ≡ true
unfolding is_table
is_sound_lem s t w =
    rw (eq-eqb (length t % 4) 0 w.whole_rows, every_from (row_within s) (all_rows_claim t) (λ r m. row_inside s r (w.inside r m)), order_in s (all_rows_claim t) w.in_order)

-- ---- exactly that name

pub named_is : (s name : List ℕ) (r : EntryRow) → has_name s name r ≡ true → row_name s r ≡ name
unfolding has_name
named_is s name r e = same_true _ _ e

pub is_named : (s name : List ℕ) (r : EntryRow) → row_name s r ≡ name → has_name s name r ≡ true
unfolding has_name
is_named s name r e = rw e (same_self name)

pub not_named : (s name : List ℕ) (r : EntryRow) → has_name s name r ≡ false → row_name s r ≡ name → ⊥
not_named s name r e q = true≢false (sym (is_named s name r q) ∙ e)

-- ---- the first one

pub one_more_named : {A : Type 0} {name_of : A → List ℕ} {Tells : EntryRow → A → Type 0} {name : List ℕ} (a : A) {l : List A} {x : FoundSaid} → (name_of a ≡ name → ⊥)
    → FirstNamed name_of Tells name l x → FirstNamed name_of Tells name (a ∷ l) x
one_more_named {name_of = name_of} {name = name} a n (first_named r b k m e q none_is t) =
    first_named r b (a ∷ k) m (ap (λ (z : List _). a ∷ z) e) q (λ c i f. ⊎_elim (λ z. n (subst (λ (v : _). name_of v ≡ name) z f)) (λ j. none_is c j f) (Memᴰ.cases_cons i)) t
one_more_named {name_of = name_of} {name = name} a n (none_named none_is) = none_named (λ c i f. ⊎_elim (λ z. n (subst (λ (v : _). name_of v ≡ name) z f)) (λ j. none_is c j f) (Memᴰ.cases_cons i))

pub first_of_rows : (s name : List ℕ) (l : List EntryRow) → FirstNamed (row_name s) (λ r q. r ≡ q) name l (found_said (first_with (has_name s name) l))
unfolding first_with
first_of_rows s name [] = none_named (λ b m e. Memᴰ.not-nil m)
first_of_rows s name (a ∷ l) =
    by_test (λ (x : Option EntryRow). FirstNamed (row_name s) (λ r q. r ≡ q) name (a ∷ l) (found_said x)) (has_name s name a) (some a) (first_with (has_name s name) l)
    (λ t. first_named a a [] l refl (named_is s name a t) (λ b m e. Memᴰ.not-nil m) refl)
    (λ t. one_more_named a (not_named s name a t) (first_of_rows s name l))

-- who finds the first finds what the test finds
first_hit : (s name : List ℕ) (k : List EntryRow) (a : EntryRow) (m : List EntryRow) → row_name s a ≡ name → ((b : EntryRow) → Memᴰ b k → row_name s b ≡ name → ⊥) → first_with (has_name s name) (k ++ (a ∷ m)) ≡ some a
unfolding first_with
first_hit s name [] a m e n = rw (is_named s name a e)
first_hit s name (b ∷ k) a m e n =
    by_test (λ (x : Option EntryRow). x ≡ some a) (has_name s name b) (some b) (first_with (has_name s name) (k ++ (a ∷ m)))
    (λ t. absurd (n b (Memᴰ.head refl) (named_is s name b t)))
    (λ t. first_hit s name k a m e (λ c i f. n c (Memᴰ.tail i) f))

first_miss : (s name : List ℕ) (l : List EntryRow) → ((b : EntryRow) → Memᴰ b l → row_name s b ≡ name → ⊥) → first_with (has_name s name) l ≡ none
unfolding first_with
first_miss s name [] n = refl
first_miss s name (b ∷ l) n =
    by_test (λ (x : Option EntryRow). x ≡ none) (has_name s name b) (some b) (first_with (has_name s name) l)
    (λ t. absurd (n b (Memᴰ.head refl) (named_is s name b t)))
    (λ t. first_miss s name l (λ c i f. n c (Memᴰ.tail i) f))

pub first_is_ours : (s name : List ℕ) (l : List EntryRow) (x : FoundSaid) → FirstNamed (row_name s) (λ r q. r ≡ q) name l x → x ≡ found_said (first_with (has_name s name) l)
first_is_ours s name l x (first_named r a k m e q n t) = ap found_said (ap some t ∙ sym (ap (first_with (has_name s name)) e ∙ first_hit s name k a m q n))
first_is_ours s name l x (none_named n) = ap found_said (sym (first_miss s name l n))
