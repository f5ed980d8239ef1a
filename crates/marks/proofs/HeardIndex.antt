-- What a caller of the library hears of an index is what ours says; and so of every library that is heard so.
use mathlib.Core.Path.{◌≡◌, refl, sym, ap, ◌∙◌, subst}
use mathlib.Core.Bool.{true, false, true≢false, ◌||◌}
use mathlib.Core.Option.{Option, some, none}
use mathlib.Core.List.{List, [], ◌∷◌}
use Prim.Native.Nat.{ℕ, ◌*◌, ◌≤◌}
use native.Mathlib.Omega.{arith}
use lib.ListN.{length, take}
use lib.Dec.{eqb}
use borrow.Author.Tests.{eq-eqb, ne_eqb}
use Rattle.refusals.specs.Numbers.{bad_state_no, input_too_long_no, too_many_entries_no, limit}
use Rattle.refusals.specs.declared.Span.{Span}
use Rattle.common.specs.Fields.{ListEntry}
use Rattle.events.specs.Message.{Message}
use Rattle.whole.specs.Whole.{EntryRow, flat, AfterWhole, read_to, Fair}
use Rattle.whole.proofs.Outcomes.{WholeOutcome, too_long, place_beyond, broken_at, table_full, taken_whole, whole_outcome}
use Rattle.one_call.specs.Readers.{RunsTo, RowIs}
use Rattle.one_call.proofs.Readers.{ours_good}
use Rattle.index.specs.Index.{IndexSaid, index_is, index_broken, index_refused, AfterIndex, index_of, index_to, FoundSaid, found_row, found_none, look_refused, found_said, first_with, has_name, all_rows_claim, look_up_in}
use Rattle.index.proofs.Tables.{LookOutcome, long_input, no_table, looked_in, look_outcome}
use Rattle.by_name.specs.Indexes.{Indexer, Finder, our_indexer, our_finder, GoodIndexer, FirstNamed, first_named, none_named, JudgesTables, entry_name, FindsFirst}
use Rattle.by_name.proofs.Indexes.{ours_good_index, ours_judges, ours_find}
use Rattle.sartrogheo.specs.Calls.{good_no, not_found_no, reply}
use Rattle.sartrogheo.specs.Indexes.{index_no, index_words, sgh_build_index, look_told, sgh_look_up}
use Rattle.marks.specs.Library.{Library, our_library, lent_at, HearsReader, EntriesHeard, index_heard, indexer_by, row_heard, found_heard, finder_by, HearsIndex}
use Rattle.marks.proofs.HeardEvent.{stands_between}
use Rattle.marks.proofs.HeardWhole.{entries_heard}

-- ---- building

-- 4, 9 and 20 stand at no place; every refusal of a reading is one of 10 to 15
abbrev IndexSayable : IndexSaid → Type 0
IndexSayable (index_is rows next) = Unit {0}
IndexSayable (index_broken f) = (10 ≤ f.number) × (f.number ≤ 15)
IndexSayable (index_refused n) = (eqb n good_no ≡ false) × ((eqb n bad_state_no || (eqb n input_too_long_no || eqb n too_many_entries_no)) ≡ true)

index_heard_lem : (x : IndexSaid) → IndexSayable x → index_heard (index_no x) (index_words x) ≡ x
index_heard_lem (index_is rows next) h = refl
index_heard_lem (index_broken f) h =
    rw (ne_eqb f.number 0 (λ e. omega (arith, h, e)), ne_eqb f.number 4 (λ e. omega (arith, h, e)), ne_eqb f.number 9 (λ e. omega (arith, h, e)), ne_eqb f.number 20 (λ e. omega (arith, h, e)))
index_heard_lem (index_refused n) h = rw (h.0, h.1)

-- an index says what the reader of whole messages says
module _ (s : List ℕ) where
  abbrev said_of : AfterWhole → IndexSaid
  said_of a = (index_of s a.answer a.table).answer

  sayable : (at : ℕ) (t : List ℕ) (a : AfterWhole) → WholeOutcome s at t a → read_to s at t ≡ a → IndexSayable (said_of a)
  unfolding index_of
  sayable at t a (too_long h) e = (refl, refl)
  sayable at t a (place_beyond h k) e = (refl, refl)
  sayable at t a (broken_at h f q) e = stands_between f _ (ours_good.refuses.stands s at t f h (ap (λ (b : AfterWhole). b.answer) e)).stands
  sayable at t a (table_full h w n q l) e = (refl, refl)
  sayable at t a (taken_whole h w n q l) e = tt

index_builds : (s : List ℕ) (at : ℕ) (t : List ℕ) → indexer_by our_library s at t ≡ index_to s at t
unfolding sgh_build_index index_to
index_builds s at t =
    let h = index_heard_lem (index_to s at t).answer (sayable s at t (read_to s at t) (whole_outcome s at t) refl) in
    λ i. record { answer = h i; table = (index_to s at t).table }

index_words_lem : (s : List ℕ) (at : ℕ) (t : List ℕ) → lent_at (sgh_build_index s at t) 1 ≡ index_words (indexer_by our_library s at t).answer
unfolding sgh_build_index
index_words_lem s at t = ap (λ (a : AfterIndex). index_words a.answer) (sym (index_builds s at t))

-- ---- a lookup

abbrev FoundTellable : FoundSaid → Type 0
FoundTellable (found_row r) = Unit {0}
FoundTellable found_none = Unit {0}
FoundTellable (look_refused n) = (eqb n good_no ≡ false) × (eqb n not_found_no ≡ false)

found_tellable : (x : FoundSaid) → FoundTellable x → (row : List ℕ) → found_heard (look_told x row).number (lent_at (look_told x row) 0) ≡ x
unfolding flat
found_tellable (found_row r) h row = refl
found_tellable found_none h row = refl
found_tellable (look_refused n) h row = rw (h.0, h.1)

no_refusal : (s name : List ℕ) (l : List EntryRow) → FoundTellable (found_said (first_with (has_name s name) l))
no_refusal s name l = go (first_with (has_name s name) l)
  where
    go : (x : Option EntryRow) → FoundTellable (found_said x)
    go (some r) = tt
    go none = tt

tellable : (s t name : List ℕ) (x : FoundSaid) → LookOutcome s t name x → FoundTellable x
tellable s t name x (long_input h) = (refl, refl)
tellable s t name x (no_table h q) = (refl, refl)
tellable s t name x (looked_in h q) = no_refusal s name (all_rows_claim t)

row_found : (row s t name : List ℕ) → finder_by our_library row s t name ≡ look_up_in s t name
unfolding sgh_look_up
row_found row s t name = found_tellable (look_up_in s t name) (tellable s t name (look_up_in s t name) (look_outcome s t name)) row

four_numbers : (x : FoundSaid) (row : List ℕ) → FoundTellable x → (look_told x row).number ≡ good_no → lent_at (look_told x row) 0 ≡ flat (row_heard (lent_at (look_told x row) 0) ∷ [])
unfolding flat
four_numbers (found_row r) row h e = refl
four_numbers found_none row h e = let z : ◌≡◌ {A = ℕ} 102 0 = e in absurd (omega (arith, z))
four_numbers (look_refused n) row h e = absurd (true≢false (sym (eq-eqb n good_no e) ∙ h.0))

row_stays : (x : FoundSaid) (row : List ℕ) → ((look_told x row).number ≡ good_no → ⊥) → look_told x row ≡ reply (look_told x row).number (row ∷ [])
row_stays (found_row r) row n = absurd (n refl)
row_stays found_none row n = refl
row_stays (look_refused k) row n = refl

numbers_of : (row s t name : List ℕ) → (sgh_look_up s t name row).number ≡ good_no → lent_at (sgh_look_up s t name row) 0 ≡ flat (row_heard (lent_at (sgh_look_up s t name row) 0) ∷ [])
unfolding sgh_look_up
numbers_of row s t name e = four_numbers (look_up_in s t name) row (tellable s t name (look_up_in s t name) (look_outcome s t name)) e

leaves_row : (row s t name : List ℕ) → ((sgh_look_up s t name row).number ≡ good_no → ⊥) → sgh_look_up s t name row ≡ reply (sgh_look_up s t name row).number (row ∷ [])
unfolding sgh_look_up
leaves_row row s t name n = row_stays (look_up_in s t name) row n

pub hears_index : HearsIndex our_library
hears_index = record { builds = index_builds; words = index_words_lem; finds = row_found; numbers = numbers_of; leaves = leaves_row }

-- ---- of every library that is heard so

module _ (L : Library) (h : HearsIndex L) where
  same_indexer : indexer_by L ≡ our_indexer
  same_indexer = λ i s at t. h.builds s at t i

  same_finder : (row : List ℕ) → finder_by L row ≡ our_finder
  same_finder row = λ i s t name. h.finds row s t name i

  pub index_by : GoodIndexer (indexer_by L)
  index_by = subst (λ (B : Indexer). GoodIndexer B) (sym same_indexer) ours_good_index

  pub lookup_by : (row : List ℕ) → JudgesTables (finder_by L row)
  lookup_by row = subst (λ (F : Finder). JudgesTables F) (sym (same_finder row)) ours_judges

  find_by : (row : List ℕ) → FindsFirst (indexer_by L) (finder_by L row)
  find_by row = subst (λ (B : Indexer). FindsFirst B (finder_by L row)) (sym same_indexer) (subst (λ (F : Finder). FindsFirst our_indexer F) (sym (same_finder row)) ours_find)

-- and each entry that is found is heard at its row
heard_too : (L : Library) → HearsReader L → (s : List ℕ) → length s ≤ limit → {name : List ℕ} {l : List (ListEntry Span)} {x : FoundSaid} → FirstNamed (entry_name s) (RowIs s) name l x
    → FirstNamed (entry_name s) (λ r e. RowIs s r e × EntriesHeard L s (r ∷ []) (e ∷ [])) name l x
heard_too L h s short (first_named r a k m e q n t) = first_named r a k m e q n (t, entries_heard L h s short (r ∷ []) (a ∷ []) (t, tt))
heard_too L h s short (none_named n) = none_named n

pub finds_by : (L : Library) → HearsReader L → HearsIndex L → (row s : List ℕ) (at : ℕ) (t : List ℕ) (next : ℕ) (m : Message Span) → Fair s at → RunsTo s at next m → (rows p : ℕ) → (indexer_by L s at t).answer ≡ index_is rows p
    → (name : List ℕ) → FirstNamed (entry_name s) (λ r e. RowIs s r e × EntriesHeard L s (r ∷ []) (e ∷ [])) name m.content.entries (finder_by L row s (take (4 * rows) (indexer_by L s at t).table) name)
finds_by L h g row s at t next m f r rows p e name = heard_too L h s f.short (find_by L g row s at t next m f r rows p e name)
