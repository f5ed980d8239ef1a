-- What sorting leaves: as many rows, each before the next; and the first row with a name is the first of the message with that name.
use Prim.Native.Nat.{ℕ, zero, suc, ◌<◌}
use mathlib.Core.Path.{◌≡◌, refl, sym, ap, ◌∙◌, subst}
use mathlib.Core.List.Memᴰ
use mathlib.Core.List.{List, [], ◌∷◌, Memᴰ}
use mathlib.Core.Bool.{Bool, true, false, true≢false, ◌&&◌}
use mathlib.Core.Option.{Option, some, none}
use mathlib.Core.Logic.{◌⊎◌, inl, inr, ⊎_elim}
use native.Mathlib.Omega.{arith}
use lib.ListN.{length}
use lib.Dec.{ltb}
use borrow.Author.Tests.{ltb-true, le-ltb}
use Rattle.refusals.proofs.Read.{and_left, and_right}
use Rattle.octet_string.specs.Strings.{part_of}
use Rattle.whole.specs.Whole.{EntryRow, rows_of}
use Rattle.frame.proofs.Cases.{by_test}
use Rattle.index.specs.Index.{before, insert, sorted, rising, first_with}
use Rattle.index.specs.Rows.{nth_row, Distinct}
use Rattle.index.proofs.Order.{apart_before, place_before}
use Rattle.index.proofs.Heap.{Order}
use Rattle.index.proofs.Unique.{tab, Ordered, none, more, Apart, none_apart, joins, less_trans, sorted_ordered, sorted_in, in_sorted, found_tab}
use Rattle.index.proofs.Rows.{before_order, rows_tab}

-- ---- as many
insert_length : {A : Type 0} (lt : A → A → Bool) (r : A) (l : List A) → length (insert lt r l) ≡ suc (length l)
unfolding insert
insert_length {A} lt r [] = refl
insert_length {A} lt r (q ∷ qs) = by_test (λ (v : List A). length v ≡ suc (suc (length qs))) (lt r q) _ _ (λ t. refl) (λ t. ap suc (insert_length lt r qs))

pub sorted_length : {A : Type 0} (lt : A → A → Bool) (l : List A) → length (sorted lt l) ≡ length l
unfolding sorted
sorted_length lt [] = refl
sorted_length lt (r ∷ rs) = insert_length lt r (sorted lt rs) ∙ ap suc (sorted_length lt rs)

-- ---- each before the next
and_both : {a b : Bool} → a ≡ true → b ≡ true → (a && b) ≡ true
and_both e f = rw (e, f)

module _ {A : Type 0} (lt : A → A → Bool) where
  pub ordered_rising : (l : List A) → Ordered lt l → rising lt l ≡ true
  unfolding rising
  ordered_rising [] w = refl
  ordered_rising (a ∷ []) w = refl
  ordered_rising (a ∷ b ∷ l) (more h w) = and_both (h b (Memᴰ.head refl)) (ordered_rising (b ∷ l) w)

  above : Order lt → (a b : A) (l : List A) → lt a b ≡ true → Ordered lt (b ∷ l) → (x : A) → Memᴰ x (b ∷ l) → lt a x ≡ true
  above o a b l e (more h w) x m = ⊎_elim (λ i. subst (λ (v : A). lt a v ≡ true) (sym i) e) (λ i. less_trans lt o a b x e (h x i)) (Memᴰ.cases_cons m)

  pub rising_ordered : Order lt → (l : List A) → rising lt l ≡ true → Ordered lt l
  unfolding rising
  rising_ordered o [] e = none
  rising_ordered o (a ∷ []) e = more (λ x m. absurd (Memᴰ.not-nil m)) none
  rising_ordered o (a ∷ b ∷ l) e =
      let w = rising_ordered o (b ∷ l) (and_right (lt a b) (rising lt (b ∷ l)) e) in
      more (above o a b l (and_left (lt a b) (rising lt (b ∷ l)) e) w) w

-- ---- the first that a test takes
data First {A : Type 0} (lt : A → A → Bool) (p : A → Bool) (l : List A) : Option A → Type 0 where
  found_first : (a : A) → Memᴰ a l → p a ≡ true → ((b : A) → Memᴰ b l → p b ≡ true → (b ≡ a) ⊎ (lt a b ≡ true)) → First lt p l (some a)
  missing_all : ((b : A) → Memᴰ b l → p b ≡ true → ⊥) → First lt p l none

first_later : {A : Type 0} {lt : A → A → Bool} {p : A → Bool} (a : A) (l : List A) (x : Option A) → p a ≡ false → First lt p l x → First lt p (a ∷ l) x
first_later {lt = lt} {p = p} a l x e (found_first b m t h) =
    found_first b (Memᴰ.tail m) t (λ c n q. ⊎_elim (λ i. absurd (true≢false (sym q ∙ ap p i ∙ e))) (λ i. h c i q) (Memᴰ.cases_cons n))
first_later {p = p} a l x e (missing_all h) =
    missing_all (λ c n q. ⊎_elim (λ i. absurd (true≢false (sym q ∙ ap p i ∙ e))) (λ i. h c i q) (Memᴰ.cases_cons n))

first_found : {A : Type 0} (lt : A → A → Bool) (p : A → Bool) (l : List A) → Ordered lt l → First lt p l (first_with p l)
unfolding first_with
first_found lt p [] w = missing_all (λ b m e. Memᴰ.not-nil m)
first_found lt p (a ∷ l) (more h w) =
    by_test (First lt p (a ∷ l)) (p a) (some a) (first_with p l)
    (λ t. found_first a (Memᴰ.head refl) t (λ b m q. ⊎_elim (λ i. inl i) (λ i. inr (h b i)) (Memᴰ.cases_cons m)))
    (λ t. first_later a l (first_with p l) t (first_found lt p l w))

module _ {A : Type 0} {lt ut : A → A → Bool} {p : A → Bool} {k l : List A}
    (asym : (a b : A) → ut a b ≡ true → ut b a ≡ false)
    (agree : (a b : A) → p a ≡ true → p b ≡ true → lt a b ≡ true → ut a b ≡ true)
    (f : (x : A) → Memᴰ x k → Memᴰ x l) (g : (x : A) → Memᴰ x l → Memᴰ x k) where
  same_first : {x y : Option A} → First lt p k x → First ut p l y → x ≡ y
  same_first (found_first a m t h) (found_first b n u i) =
      ⊎_elim (λ e. ap some (sym e))
      (λ v. ⊎_elim (λ e. ap some e) (λ w. absurd (true≢false (sym w ∙ asym a b (agree a b t u v)))) (i a (f a m) t))
      (h b (g b n) u)
  same_first (found_first a m t h) (missing_all i) = absurd (i a (f a m) t)
  same_first (missing_all h) (found_first b n u i) = absurd (h b (g b n) u)
  same_first (missing_all h) (missing_all i) = refl

-- ---- rows of a message: their entries' starts rise
-- the entry of p starts before that of q
unfoldable pub starts_before : EntryRow → EntryRow → Bool
starts_before p q = ltb p.entry.start q.entry.start

starts_asym : (p q : EntryRow) → starts_before p q ≡ true → starts_before q p ≡ false
unfolding starts_before
starts_asym p q e = let h : p.entry.start < q.entry.start = ltb-true _ _ e in le-ltb q.entry.start p.entry.start (omega arith)

starts_differ : (p q : EntryRow) → starts_before p q ≡ true → p.entry.start ≡ q.entry.start → ⊥
unfolding starts_before
starts_differ p q e f = let h : p.entry.start < q.entry.start = ltb-true _ _ e in omega arith

pub starts_apart : (s : List ℕ) (l : List EntryRow) → Ordered starts_before l → Apart (before s) l
starts_apart s [] w = none_apart
starts_apart s (a ∷ l) (more h w) = joins (λ x m. apart_before s a x (starts_differ a x (h x m))) (starts_apart s l w)

pub sorted_table : (s : List ℕ) (l : List EntryRow) → Ordered starts_before l → rising (before s) (sorted (before s) l) ≡ true
sorted_table s l w = ordered_rising (before s) (sorted (before s) l) (sorted_ordered (before s) (before_order s) l (starts_apart s l w))

-- a test that takes rows of one name only
pub finds_first : (s : List ℕ) (p : EntryRow → Bool) → ((a b : EntryRow) → p a ≡ true → p b ≡ true → part_of s a.name ≡ part_of s b.name)
    → (l : List EntryRow) → Ordered starts_before l → first_with p (sorted (before s) l) ≡ first_with p l
unfolding starts_before
finds_first s p one l w =
    let o = before_order s in
    same_first {lt = before s} {ut = starts_before} {p = p} {k = sorted (before s) l} {l = l}
    starts_asym
    (λ a b t u e. sym (place_before s a b (one a b t u)) ∙ e)
    (λ x m. sorted_in (before s) o x l m)
    (λ x m. in_sorted (before s) o x l m)
    (first_found (before s) p (sorted (before s) l) (sorted_ordered (before s) o l (starts_apart s l w)))
    (first_found starts_before p l w)

-- ---- what sort_rows asks of a table that was filled with a message's rows
tab_less : {A : Type 0} (lt : A → A → Bool) (f : ℕ → A) (n j k : ℕ) → Ordered lt (tab f n) → j < k → k < n → lt (f j) (f k) ≡ true
unfolding tab
tab_less lt f zero j k w h b = absurd (omega arith)
tab_less lt f (suc n) zero zero w h b = absurd (omega arith)
tab_less lt f (suc n) zero (suc k) (more g w) h b = g (f (suc k)) (found_tab (λ i. f (suc i)) n k (f (suc k)) (omega arith) refl)
tab_less lt f (suc n) (suc j) zero w h b = absurd (omega arith)
tab_less lt f (suc n) (suc j) (suc k) (more g w) h b = tab_less lt (λ i. f (suc i)) n j k w (omega arith) (omega arith)

pub rows_distinct : (t : List ℕ) (n : ℕ) → Ordered starts_before (rows_of n t) → Distinct t n
rows_distinct t n w j k l b =
    starts_differ (nth_row t j) (nth_row t k) (tab_less starts_before (nth_row t) n j k (subst (λ (v : List EntryRow). Ordered starts_before v) (rows_tab n t) w) l b)
