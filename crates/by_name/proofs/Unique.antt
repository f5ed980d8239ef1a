-- Nobody else keeps the claims: who does answers as ours do, on every input, and leaves the same table.
use Prim.Native.Nat.{ℕ, ◌*◌, ◌≤◌}
use mathlib.Core.Path.{◌≡◌, refl, sym, ◌∙◌, subst}
use mathlib.Core.Bool.{Bool, true, false, true≢false}
use mathlib.Core.List.{List, ◌++◌}
use native.Mathlib.Omega.{arith}
use lib.ListN.{length}
use lib.Dec.{ltb}
use borrow.Author.Tests.{ltb-true, ltb-false}
use Rattle.refusals.specs.Numbers.{limit}
use Rattle.whole.specs.Whole.{flat, rows_of, WholeSaid, whole_is, broken, refused_alone, read_to}
use Rattle.one_call.specs.Readers.{our_whole_reader}
use Rattle.one_call.proofs.Readers.{ours_good}
use Rattle.index.specs.Index.{before, index_to, all_rows_claim, is_table, look_up_in}
use Rattle.index.proofs.Rows.{before_order}
use Rattle.index.proofs.Unique.{unique}
use Rattle.index.proofs.Finds.{rising_ordered}
use Rattle.index.proofs.Tables.{look_outcome}
use Rattle.by_name.specs.Indexes.{Indexer, Finder, our_indexer, our_finder, SortedFrom, GoodIndexer, SoundTable, FindsFirst, AlwaysFindsFirst, BuildsTables, AlwaysTables, OnlyOurIndexer, OnlyOurFinder}
use Rattle.by_name.proofs.Rows.{order_in, table_parts, table_sound, is_sound_lem, first_is_ours}
use Rattle.by_name.proofs.Indexes.{table_filled, ours_indexes, looked_in_lem, ours_judges, ours_find, ours_tables}

-- strictly in order, and the same rows
same_sorted : (s : List ℕ) (rows : ℕ) (u v v' : List ℕ) → 4 * rows ≤ length u → SortedFrom s rows u v → SortedFrom s rows u v' → v ≡ v'
same_sorted s rows u v v' room a b =
    let e : rows_of rows v ≡ rows_of rows v' =
    unique (before s) (before_order s) (rows_of rows v) (rows_of rows v')
    (rising_ordered (before s) (before_order s) (rows_of rows v) (order_in s (rows_of rows v) a.in_order))
    (rising_ordered (before s) (before_order s) (rows_of rows v') (order_in s (rows_of rows v') b.in_order))
    (λ r m. b.same.all_these r (a.same.of_these r m))
    (λ r m. a.same.all_these r (b.same.of_these r m)) in
    table_parts rows v (omega (arith, room, a.same_length))
    ∙ (λ i. flat (e i) ++ (a.rest ∙ sym b.rest) i)
    ∙ sym (table_parts rows v' (omega (arith, room, b.same_length)))

pub only_our_indexer : OnlyOurIndexer
only_our_indexer B good s at t = go (read_to s at t).answer refl
  where
    go : (x : WholeSaid) → (read_to s at t).answer ≡ x → B s at t ≡ index_to s at t
    go (whole_is start end rows next) e =
        let g = (good our_whole_reader ours_good).accepts s at t start end rows next e in
        let o = ours_indexes.accepts s at t start end rows next e in
        let q = same_sorted s rows (read_to s at t).table (B s at t).table (index_to s at t).table (table_filled s at t start end rows next e).room g.1 o.1 in
        λ i. record { answer = (g.0 ∙ sym o.0) i; table = q i }
    go (broken f) e = (good our_whole_reader ours_good).breaks s at t f e ∙ sym (ours_indexes.breaks s at t f e)
    go (refused_alone n) e = (good our_whole_reader ours_good).refuses s at t n e ∙ sym (ours_indexes.refuses s at t n e)

pub only_our_finder : OnlyOurFinder
only_our_finder L good s t name = go (ltb limit (length s)) (is_table s t) refl refl
  where
    go : (p q : Bool) → ltb limit (length s) ≡ p → is_table s t ≡ q → L s t name ≡ look_up_in s t name
    go true q e f = good.long s t name (ltb-true _ _ e) ∙ sym (ours_judges.long s t name (ltb-true _ _ e))
    go false true e f =
        first_is_ours s name (all_rows_claim t) (L s t name) (good.sound s t name (ltb-false _ _ e) (table_sound s t f))
        ∙ sym (looked_in_lem s t name (look_up_in s t name) (look_outcome s t name) (ltb-false _ _ e) f)
    go false false e f =
        let n : SoundTable s t → ⊥ = λ w. true≢false (sym (is_sound_lem s t w) ∙ f) in
        good.unsound s t name (ltb-false _ _ e) n ∙ sym (ours_judges.unsound s t name (ltb-false _ _ e) n)

-- so what is true of ours is true of whoever keeps them
pub indexer_is : (B : Indexer) → GoodIndexer B → B ≡ our_indexer
indexer_is B good = λ i s at t. only_our_indexer B good s at t i

pub always_finds : AlwaysFindsFirst
always_finds B L b l =
    let f : L ≡ our_finder = λ i s t name. only_our_finder L l s t name i in
    subst (λ (C : Indexer). FindsFirst C L) (sym (indexer_is B b)) (subst (λ (F : Finder). FindsFirst our_indexer F) (sym f) ours_find)

pub always_tables : AlwaysTables
always_tables B good = subst (λ (C : Indexer). BuildsTables C) (sym (indexer_is B good)) ours_tables
