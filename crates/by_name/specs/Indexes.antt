-- claim: what every index of entries must do. Building leaves a whole message's rows in the table, each once, strictly in order, and what stands behind them as it was; it refuses as a reader of whole messages does. A lookup judges any table, and speaks of its rows; in one that was built it finds the message's first entry with exactly that name.
use Rattle.std.specs.Prelude.{ℕ, ◌+◌, ◌*◌, ◌/◌, ◌%◌, ◌≤◌, ◌<◌, ◌≡◌, length, take, drop}
use mathlib.Core.List.{List, [], ◌∷◌, ◌++◌, Memᴰ}
use Rattle.std.proofs.Math.Option.{Option}
use Rattle.refusals.specs.Numbers.{input_too_long_no, bad_span_no, limit}
use Rattle.refusals.specs.Read.{Refusal}
use Rattle.refusals.specs.declared.Span.{Span}
use Rattle.octet_string.specs.Strings.{part_of}
use Rattle.common.specs.Fields.{ListEntry}
use Rattle.message.specs.Messages.{MessageStart, ListEnd}
use Rattle.events.specs.Message.{Message}
use Rattle.whole.specs.Whole.{EntryRow, whole_is, broken, refused_alone, rows_of, Fair}
use Rattle.one_call.specs.Readers.{WholeReader, RunsTo, RowIs, GoodWholeReader}
use Rattle.index.specs.Index.{index_is, index_broken, index_refused, AfterIndex, index_to, FoundSaid, found_row, found_none, look_refused, look_up_in}
use Rattle.index.specs.Answers.{after_index}

-- of an input, a place and a table: what building says, and what the table holds then. Of an input, a table and a name: what a lookup says
abbrev pub Indexer : Type 0
Indexer = List ℕ → ℕ → List ℕ → AfterIndex

abbrev pub Finder : Type 0
Finder = List ℕ → List ℕ → List ℕ → FoundSaid

-- by the definitions that the contracts of build_index and look_up cite
abbrev pub our_indexer : Indexer
our_indexer = index_to

abbrev pub our_finder : Finder
our_finder = look_up_in

-- ---- rows

-- a name comes before another: it is its beginning, or the first byte that differs is less
pub data NameBefore : List ℕ → List ℕ → Type 0 where
  beginning : (x : List ℕ) (b : ℕ) (l : List ℕ) → NameBefore x (x ++ (b ∷ l))
  less_byte : (x : List ℕ) (a b : ℕ) (k l : List ℕ) → a < b → NameBefore (x ++ (a ∷ k)) (x ++ (b ∷ l))

-- a row comes before another: its name does, or they have one name, and its entry starts before
pub data RowBefore (s : List ℕ) (p q : EntryRow) : Type 0 where
  by_name : NameBefore (part_of s p.name) (part_of s q.name) → RowBefore s p q
  by_place : part_of s p.name ≡ part_of s q.name → p.entry.start < q.entry.start → RowBefore s p q

-- each strictly before the next
abbrev pub InOrder : List ℕ → List EntryRow → Type 0
InOrder s [] = Unit {0}
InOrder s (r ∷ []) = Unit {0}
InOrder s (r ∷ q ∷ l) = RowBefore s r q × InOrder s (q ∷ l)

-- the same rows: as many, and each of the one among the other
pub record SameRows (k l : List EntryRow) : Type 0 where
  pub count : length k ≡ length l
  pub of_these : (r : EntryRow) → Memᴰ r k → Memᴰ r l
  pub all_these : (r : EntryRow) → Memᴰ r l → Memᴰ r k

-- ---- building

-- what the table u, which a reader of whole messages left, is sorted to: v
pub record SortedFrom (s : List ℕ) (rows : ℕ) (u v : List ℕ) : Type 0 where
  pub in_order : InOrder s (rows_of rows v)
  pub same : SameRows (rows_of rows v) (rows_of rows u)
  pub rest : drop (4 * rows) v ≡ drop (4 * rows) u
  pub same_length : length v ≡ length u

-- of the reader R of whole messages: accepted exactly where it accepts, with as many rows and the place that it says; its refusals, which leave the table
pub record Indexes (R : WholeReader) (B : Indexer) : Type 0 where
  pub accepts : (s : List ℕ) (at : ℕ) (t : List ℕ) (start : MessageStart Span) (end : Option (ListEnd Span)) (rows next : ℕ) → (R s at t).answer ≡ whole_is start end rows next
      → ((B s at t).answer ≡ index_is rows next) × SortedFrom s rows (R s at t).table (B s at t).table
  pub breaks : (s : List ℕ) (at : ℕ) (t : List ℕ) (f : Refusal) → (R s at t).answer ≡ broken f → B s at t ≡ after_index (index_broken f) t
  pub refuses : (s : List ℕ) (at : ℕ) (t : List ℕ) (n : ℕ) → (R s at t).answer ≡ refused_alone n → B s at t ≡ after_index (index_refused n) t

-- of every good one: so accepted, and refused with 9, 4, 10 to 15 and 20, in this order, as is said there
abbrev pub GoodIndexer : Indexer → Type 0
GoodIndexer B = (R : WholeReader) → GoodWholeReader R → Indexes R B

-- what follows the message is not read: other bytes, or none, change nothing; and so of whoever keeps the claim
abbrev pub RestNotIndexed : Indexer → Type 0
RestNotIndexed B = (s : List ℕ) (at : ℕ) (t : List ℕ) (rows next : ℕ) → Fair s at → (B s at t).answer ≡ index_is rows next → (l : List ℕ) → length (take next s ++ l) ≤ limit → B (take next s ++ l) at t ≡ B s at t

abbrev pub NeverReadsOn : Type 0
NeverReadsOn = (B : Indexer) → GoodIndexer B → RestNotIndexed B

-- ---- a lookup

-- the answer is a row that tells the first of l whose name is `name`; or it is none, and none of l has that name
pub data FirstNamed {A : Type 0} (name_of : A → List ℕ) (Tells : EntryRow → A → Type 0) (name : List ℕ) (l : List A) : FoundSaid → Type 0 where
  first_named : (r : EntryRow) (a : A) (k m : List A) → l ≡ k ++ (a ∷ m) → name_of a ≡ name → ((b : A) → Memᴰ b k → name_of b ≡ name → ⊥) → Tells r a → FirstNamed name_of Tells name l (found_row r)
  none_named : ((b : A) → Memᴰ b l → name_of b ≡ name → ⊥) → FirstNamed name_of Tells name l found_none

-- both parts of a row lie within the input
pub record RowInside (s : List ℕ) (r : EntryRow) : Type 0 where
  pub name : r.name.start + r.name.len ≤ length s
  pub entry : r.entry.start + r.entry.len ≤ length s

-- no part of a row, no row outside the input, strictly in order
pub record SoundTable (s t : List ℕ) : Type 0 where
  pub whole_rows : length t % 4 ≡ 0
  pub inside : (r : EntryRow) → Memᴰ r (rows_of (length t / 4) t) → RowInside s r
  pub in_order : InOrder s (rows_of (length t / 4) t)

abbrev pub row_name : List ℕ → EntryRow → List ℕ
row_name s r = part_of s r.name

-- 9 first; 16 exactly for a table that isn't sound; else the answer speaks of its rows
pub record JudgesTables (L : Finder) : Type 0 where
  pub long : (s t name : List ℕ) → limit < length s → L s t name ≡ look_refused input_too_long_no
  pub unsound : (s t name : List ℕ) → length s ≤ limit → (SoundTable s t → ⊥) → L s t name ≡ look_refused bad_span_no
  pub sound : (s t name : List ℕ) → length s ≤ limit → SoundTable s t → FirstNamed (row_name s) (λ r q. r ≡ q) name (rows_of (length t / 4) t) (L s t name)

-- ---- both together

abbrev pub entry_name : List ℕ → ListEntry Span → List ℕ
entry_name s e = part_of s e.obj_name

-- in the rows that were built, the first entry of the message with exactly that name, read again at its row; none exactly if no entry has it
abbrev pub FindsFirst : Indexer → Finder → Type 0
FindsFirst B L = (s : List ℕ) (at : ℕ) (t : List ℕ) (next : ℕ) (m : Message Span) → Fair s at → RunsTo s at next m → (rows p : ℕ) → (B s at t).answer ≡ index_is rows p
    → (name : List ℕ) → FirstNamed (entry_name s) (RowIs s) name m.content.entries (L s (take (4 * rows) (B s at t).table) name)

-- the rows that were built are a table that a lookup takes
abbrev pub BuildsTables : Indexer → Type 0
BuildsTables B = (s : List ℕ) (at : ℕ) (t : List ℕ) (rows next : ℕ) → Fair s at → (B s at t).answer ≡ index_is rows next → SoundTable s (take (4 * rows) (B s at t).table)

-- whoever builds a good index builds such a table, and whoever keeps both claims finds the first
abbrev pub AlwaysTables : Type 0
AlwaysTables = (B : Indexer) → GoodIndexer B → BuildsTables B

abbrev pub AlwaysFindsFirst : Type 0
AlwaysFindsFirst = (B : Indexer) (L : Finder) → GoodIndexer B → JudgesTables L → FindsFirst B L

-- ---- the claims leave nothing open: who keeps them answers as ours do, on every input, and leaves the same table

abbrev pub OnlyOurIndexer : Type 0
OnlyOurIndexer = (B : Indexer) → GoodIndexer B → (s : List ℕ) (at : ℕ) (t : List ℕ) → B s at t ≡ our_indexer s at t

abbrev pub OnlyOurFinder : Type 0
OnlyOurFinder = (L : Finder) → JudgesTables L → (s t name : List ℕ) → L s t name ≡ our_finder s t name
