-- Ours is a good index: what is built, what a lookup says, and what it finds in what was built.
use Prim.Native.Nat.{ℕ, ◌*◌, ◌≤◌, ◌<◌}
use mathlib.Core.Path.{◌≡◌, refl, sym, ap, ◌∙◌, subst}
use mathlib.Core.Bool.{true, true≢false}
use mathlib.Core.List.Memᴰ
use mathlib.Core.List.{List, [], ◌∷◌, ◌++◌, Memᴰ}
use mathlib.Core.Option.{Option, some}
use mathlib.Core.Logic.{⊎_elim}
use native.Mathlib.Omega.{arith}
use lib.ListN.{length, take, drop}
use Rattle.refusals.specs.Numbers.{input_too_long_no, bad_span_no, limit}
use Rattle.refusals.specs.Read.{got, Refusal}
use Rattle.refusals.specs.declared.Span.{Span}
use Rattle.frame.proofs.Cases.{by_test}
use Rattle.common.specs.Fields.{ListEntry}
use Rattle.octet_string.specs.Strings.{part_of}
use Rattle.message.specs.Messages.{MessageStart, ListEnd}
use Rattle.events.specs.Message.{Message}
use Rattle.whole.specs.Whole.{EntryRow, flat, rows_of, WholeSaid, whole_is, broken, refused_alone, AfterWhole, read_to}
use Rattle.whole.proofs.Outcomes.{not_broken, not_refused_alone}
use Rattle.one_call.specs.Readers.{our_whole_reader, RowIs, RowsAre}
use Rattle.one_call.proofs.Runs.{run_found}
use Rattle.one_call.proofs.Outcomes.{got_or}
use Rattle.one_call.proofs.Readers.{ours_good}
use Rattle.one_call.proofs.Unique.{only_ours}
use Rattle.index.specs.Index.{before, sorted, sorted_to, IndexSaid, index_is, index_broken, index_refused, AfterIndex, index_of, index_to, all_rows_claim, is_table, first_with, has_name, FoundSaid, look_refused, found_said, look_up_in}
use Rattle.index.specs.Answers.{after_index}
use Rattle.index.proofs.Rows.{before_order}
use Rattle.index.proofs.Unique.{sorted_in, in_sorted}
use Rattle.index.proofs.Finds.{sorted_length, sorted_table, finds_first}
use Rattle.index.proofs.Built.{TableFilled, message_filled}
use Rattle.index.proofs.Tables.{LookOutcome, long_input, no_table, looked_in, look_outcome}
use Rattle.by_name.specs.Indexes.{our_indexer, our_finder, InOrder, SameRows, SortedFrom, Indexes, GoodIndexer, FirstNamed, first_named, none_named, RowInside, SoundTable, row_name, JudgesTables, entry_name, FindsFirst, BuildsTables}
use Rattle.by_name.proofs.Rows.{in_order, rows_length, rows_again, rest_again, length_again, front_again, all_rows, whole_rows, table_sound, is_sound_lem, named_is, not_named, one_more_named, first_of_rows}

-- ---- building, after what the reader of whole messages says

module _ (s : List ℕ) (at : ℕ) (t : List ℕ) where
  pub index_built : (start : MessageStart Span) (end : Option (ListEnd Span)) (rows next : ℕ) → (read_to s at t).answer ≡ whole_is start end rows next → index_to s at t ≡ after_index (index_is rows next) (sorted_to s rows (read_to s at t).table)
  unfolding index_to index_of
  index_built start end rows next e = rw e

  index_breaks : (f : Refusal) → (read_to s at t).answer ≡ broken f → index_to s at t ≡ after_index (index_broken f) (read_to s at t).table
  unfolding index_to index_of
  index_breaks f e = rw e

  index_refuses : (n : ℕ) → (read_to s at t).answer ≡ refused_alone n → index_to s at t ≡ after_index (index_refused n) (read_to s at t).table
  unfolding index_to index_of
  index_refuses n e = rw e

  pub table_filled : (start : MessageStart Span) (end : Option (ListEnd Span)) (rows next : ℕ) → (read_to s at t).answer ≡ whole_is start end rows next → TableFilled (read_to s at t).table rows
  table_filled start end rows next e = message_filled s at t (read_to s at t).table start end rows next (λ i. record { answer = sym e i; table = (read_to s at t).table })

-- rows that rise along the message are sorted
pub sorted_from : (s : List ℕ) (rows : ℕ) (u : List ℕ) → TableFilled u rows → SortedFrom s rows u (sorted_to s rows u)
unfolding sorted_to
sorted_from s rows u h =
    let l : List EntryRow = rows_of rows u in
    let k : List EntryRow = sorted (before s) l in
    let n : length k ≡ rows = sorted_length (before s) l ∙ rows_length rows u in
    let e : rows_of rows (flat k ++ drop (4 * rows) u) ≡ k = rows_again rows k n u in
    record {
      in_order = subst (InOrder s) (sym e) (in_order s k (sorted_table s l h.rise));
      same = subst (λ (x : List EntryRow). SameRows x l) (sym e) (record {
        count = sorted_length (before s) l;
        of_these = λ r m. sorted_in (before s) (before_order s) r l m;
        all_these = λ r m. in_sorted (before s) (before_order s) r l m;
      });
      rest = rest_again rows k n u;
      same_length = length_again rows k n u h.room;
    }

pub ours_indexes : Indexes our_whole_reader our_indexer
ours_indexes =
    record {
      accepts = λ s at t start end rows next e.
          let q = index_built s at t start end rows next e in
          (ap (λ (a : AfterIndex). a.answer) q, subst (SortedFrom s rows (read_to s at t).table) (sym (ap (λ (a : AfterIndex). a.table) q)) (sorted_from s rows (read_to s at t).table (table_filled s at t start end rows next e)));
      breaks = λ s at t f e.
          index_breaks s at t f e ∙ ap (after_index (index_broken f)) (ours_good.leaves s at t (λ a. not_broken (sym e ∙ a.is)));
      refuses = λ s at t n e.
          index_refuses s at t n e ∙ ap (after_index (index_refused n)) (ours_good.leaves s at t (λ a. not_refused_alone (sym e ∙ a.is)));
    }

-- every good reader of whole messages is ours
pub ours_good_index : GoodIndexer our_indexer
ours_good_index R g =
    record {
      accepts = λ s at t start end rows next e.
          let q = only_ours R g s at t in
          let r = ours_indexes.accepts s at t start end rows next (sym (ap (λ (a : AfterWhole). a.answer) q) ∙ e) in
          (r.0, subst (λ (u : List ℕ). SortedFrom s rows u (index_to s at t).table) (sym (ap (λ (a : AfterWhole). a.table) q)) r.1);
      breaks = λ s at t f e. ours_indexes.breaks s at t f (sym (ap (λ (a : AfterWhole). a.answer) (only_ours R g s at t)) ∙ e);
      refuses = λ s at t n e. ours_indexes.refuses s at t n (sym (ap (λ (a : AfterWhole). a.answer) (only_ours R g s at t)) ∙ e);
    }

-- ---- a lookup

judged_long : (s t name : List ℕ) (x : FoundSaid) → LookOutcome s t name x → limit < length s → x ≡ look_refused input_too_long_no
judged_long s t name x (long_input h) k = refl
judged_long s t name x (no_table h q) k = absurd (omega arith)
judged_long s t name x (looked_in h q) k = absurd (omega arith)

judged_unsound : (s t name : List ℕ) (x : FoundSaid) → LookOutcome s t name x → length s ≤ limit → (SoundTable s t → ⊥) → x ≡ look_refused bad_span_no
judged_unsound s t name x (long_input h) k n = absurd (omega arith)
judged_unsound s t name x (no_table h q) k n = refl
judged_unsound s t name x (looked_in h q) k n = absurd (n (table_sound s t q))

pub looked_in_lem : (s t name : List ℕ) (x : FoundSaid) → LookOutcome s t name x → length s ≤ limit → is_table s t ≡ true → x ≡ found_said (first_with (has_name s name) (all_rows_claim t))
looked_in_lem s t name x (long_input h) k e = absurd (omega arith)
looked_in_lem s t name x (no_table h q) k e = absurd (true≢false (sym e ∙ q))
looked_in_lem s t name x (looked_in h q) k e = refl

pub ours_judges : JudgesTables our_finder
ours_judges =
    record {
      long = λ s t name h. judged_long s t name (look_up_in s t name) (look_outcome s t name) h;
      unsound = λ s t name h n. judged_unsound s t name (look_up_in s t name) (look_outcome s t name) h n;
      sound = λ s t name h w.
          subst (FirstNamed (row_name s) (λ r q. r ≡ q) name (all_rows_claim t)) (sym (looked_in_lem s t name (look_up_in s t name) (look_outcome s t name) h (is_sound_lem s t w))) (first_of_rows s name (all_rows_claim t));
    }

-- ---- in what was built

pub rows_inside : (s : List ℕ) (l : List EntryRow) (es : List (ListEntry Span)) → RowsAre s l es → (r : EntryRow) → Memᴰ r l → RowInside s r
rows_inside s [] [] h r m = absurd (Memᴰ.not-nil m)
rows_inside s (q ∷ l) (e ∷ es) h r m =
    ⊎_elim (λ z. subst (RowInside s) (sym z) (record { name = h.0.name_within; entry = h.0.entry_within })) (λ n. rows_inside s l es h.1 r n) (Memᴰ.cases_cons m)
rows_inside s [] (e ∷ es) h r m = absurd h
rows_inside s (q ∷ l) [] h r m = absurd h

-- the first row with a name is that of the first entry with it
first_entry : (s name : List ℕ) (l : List EntryRow) (es : List (ListEntry Span)) → RowsAre s l es → FirstNamed (entry_name s) (RowIs s) name es (found_said (first_with (has_name s name) l))
unfolding first_with
first_entry s name [] [] h = none_named (λ b m e. Memᴰ.not-nil m)
first_entry s name (r ∷ l) (e ∷ es) h =
    let same_name : row_name s r ≡ entry_name s e = ap (part_of s) h.0.name_is in
    by_test (λ (x : Option EntryRow). FirstNamed (entry_name s) (RowIs s) name (e ∷ es) (found_said x)) (has_name s name r) (some r) (first_with (has_name s name) l)
    (λ t. first_named r e [] es refl (sym same_name ∙ named_is s name r t) (λ b m q. Memᴰ.not-nil m) h.0)
    (λ t. one_more_named e (λ q. not_named s name r t (same_name ∙ q)) (first_entry s name l es h.1))
first_entry s name [] (e ∷ es) h = absurd h
first_entry s name (r ∷ l) [] h = absurd h

one_name : (s name : List ℕ) (a b : EntryRow) → has_name s name a ≡ true → has_name s name b ≡ true → part_of s a.name ≡ part_of s b.name
one_name s name a b e f = named_is s name a e ∙ sym (named_is s name b f)

-- the sorted rows of a message are a sound table
sorted_sound : (s : List ℕ) (rows : ℕ) (u : List ℕ) → TableFilled u rows → ((r : EntryRow) → Memᴰ r (rows_of rows u) → RowInside s r) → SoundTable s (flat (sorted (before s) (rows_of rows u)))
sorted_sound s rows u h inside =
    let l : List EntryRow = rows_of rows u in
    let k : List EntryRow = sorted (before s) l in
    let a : all_rows_claim (flat k) ≡ k = all_rows k in
    record {
      whole_rows = whole_rows k;
      inside = λ r m. inside r (sorted_in (before s) (before_order s) r l (subst (λ (x : List EntryRow). Memᴰ r x) a m));
      in_order = subst (InOrder s) (sym a) (in_order s k (sorted_table s l h.rise));
    }

rows_front : (s : List ℕ) (rows : ℕ) (u : List ℕ) → take (4 * rows) (sorted_to s rows u) ≡ flat (sorted (before s) (rows_of rows u))
unfolding sorted_to
rows_front s rows u = front_again rows (sorted (before s) (rows_of rows u)) (sorted_length (before s) (rows_of rows u) ∙ rows_length rows u) u

-- what is found there is what the rows in their order have first
pub found_in : (s : List ℕ) (rows : ℕ) (u : List ℕ) → length s ≤ limit → TableFilled u rows → ((r : EntryRow) → Memᴰ r (rows_of rows u) → RowInside s r) → (name : List ℕ)
    → look_up_in s (take (4 * rows) (sorted_to s rows u)) name ≡ found_said (first_with (has_name s name) (rows_of rows u))
found_in s rows u short h inside name =
    let l : List EntryRow = rows_of rows u in
    let k : List EntryRow = sorted (before s) l in
    ap (λ (x : List ℕ). look_up_in s x name) (rows_front s rows u)
    ∙ looked_in_lem s (flat k) name (look_up_in s (flat k) name) (look_outcome s (flat k) name) short (is_sound_lem s (flat k) (sorted_sound s rows u h inside))
    ∙ ap (λ (x : List EntryRow). found_said (first_with (has_name s name) x)) (all_rows k)
    ∙ ap found_said (finds_first s (has_name s name) (one_name s name) l h.rise)

-- ---- what the reader said where building is accepted

abbrev said_is : IndexSaid → ℕ
said_is (index_is rows next) = 0
said_is (index_broken f) = 1
said_is (index_refused n) = 2

abbrev index_rows : IndexSaid → ℕ
index_rows (index_is rows next) = rows
index_rows (index_broken f) = 0
index_rows (index_refused n) = 0

abbrev index_next : IndexSaid → ℕ
index_next (index_is rows next) = next
index_next (index_broken f) = 0
index_next (index_refused n) = 0

pub record ReadFirst (s : List ℕ) (at : ℕ) (t : List ℕ) (rows p : ℕ) : Type 0 where
  pub start : MessageStart Span
  pub end : Option (ListEnd Span)
  pub is : (read_to s at t).answer ≡ whole_is start end rows p

pub read_first : (s : List ℕ) (at : ℕ) (t : List ℕ) (rows p : ℕ) → (index_to s at t).answer ≡ index_is rows p → ReadFirst s at t rows p
read_first s at t rows p e = go (read_to s at t).answer refl
  where
    go : (x : WholeSaid) → (read_to s at t).answer ≡ x → ReadFirst s at t rows p
    go (whole_is start end n next) q =
        let z = sym (ap (λ (a : AfterIndex). a.answer) (index_built s at t start end n next q)) ∙ e in
        let i : n ≡ rows = ap index_rows z in
        let j : next ≡ p = ap index_next z in
        record { start = start; end = end; is = q ∙ (λ k. whole_is start end (i k) (j k)) }
    go (broken f) q = let z : ◌≡◌ {A = ℕ} 1 0 = ap said_is (sym (ap (λ (a : AfterIndex). a.answer) (index_breaks s at t f q)) ∙ e) in absurd (omega (arith, z))
    go (refused_alone n) q = let z : ◌≡◌ {A = ℕ} 2 0 = ap said_is (sym (ap (λ (a : AfterIndex). a.answer) (index_refuses s at t n q)) ∙ e) in absurd (omega (arith, z))

pub ours_find : FindsFirst our_indexer our_finder
ours_find s at t next m h run rows p e name =
    let f = read_first s at t rows p e in
    let r = ours_good.accepts.only_if s at t f.start f.end rows p h f.is in
    let q : got m next ≡ got r.whole p = sym (run_found s at next m h run) ∙ run_found s at p r.whole h r.runs in
    let same : r.whole ≡ m = sym (ap (got_or m) q) in
    let u : List ℕ = (read_to s at t).table in
    let v : (index_to s at t).table ≡ sorted_to s rows u = ap (λ (a : AfterIndex). a.table) (index_built s at t f.start f.end rows p f.is) in
    let found = found_in s rows u h.short (table_filled s at t f.start f.end rows p f.is) (rows_inside s (rows_of rows u) r.whole.content.entries r.rows_are) name in
    subst (λ (x : Message Span). FirstNamed (entry_name s) (RowIs s) name x.content.entries (look_up_in s (take (4 * rows) (index_to s at t).table) name)) same
    (subst (FirstNamed (entry_name s) (RowIs s) name r.whole.content.entries) (sym (ap (λ (x : List ℕ). look_up_in s (take (4 * rows) x) name) v ∙ found)) (first_entry s name (rows_of rows u) r.whole.content.entries r.rows_are))

pub ours_tables : BuildsTables our_indexer
ours_tables s at t rows p h e =
    let f = read_first s at t rows p e in
    let r = ours_good.accepts.only_if s at t f.start f.end rows p h f.is in
    let u : List ℕ = (read_to s at t).table in
    let v : (index_to s at t).table ≡ sorted_to s rows u = ap (λ (a : AfterIndex). a.table) (index_built s at t f.start f.end rows p f.is) in
    subst (SoundTable s) (sym (ap (take (4 * rows)) v ∙ rows_front s rows u))
    (sorted_sound s rows u (table_filled s at t f.start f.end rows p f.is) (rows_inside s (rows_of rows u) r.whole.content.entries r.rows_are))
