-- claim: what every reader of items must do, by which a caller goes from element to element: it says what begins at a place, exactly by the grammar's pieces, and where what follows begins.
use Rattle.std.specs.Prelude.{ℕ, ◌+◌, ◌≤◌, ◌≡◌, true, false, List, ◌∷◌, ◌++◌, length, drop}
use Rattle.refusals.specs.Read.{Read, got, refused, Refusal}
use Rattle.tlf.specs.Lengths.{is_list}
use Rattle.tlf.specs.declared.TypeLengthField.{TypeLengthField}
use Rattle.walk.specs.Walk.{Item, end_mark, leaf, list_item, item_at}
use Rattle.elements.specs.Grammar.{HeadBytes}
use Rattle.elements.specs.Walkers.{WrongItem}

-- of an input and a place: what begins there, and the next place
abbrev pub ItemReader : Type 0
ItemReader = List ℕ → ℕ → Read Item

-- by the definition that the contract of parse_item cites
abbrev pub our_item_reader : ItemReader
our_item_reader = item_at

-- the item that begins at p, and the place where what follows begins: behind an end mark and behind a leaf, but of a list behind its length bytes, since its elements follow
pub data ItemStands (s : List ℕ) (p : ℕ) : Item → ℕ → Type 0 where
  mark_stands : (rest : List ℕ) → drop p s ≡ 0x00 ∷ rest → ItemStands s p end_mark (p + 1)
  leaf_stands : (t : TypeLengthField) (head content rest : List ℕ) → drop p s ≡ head ++ (content ++ rest) → HeadBytes t head → is_list t.ty ≡ false → length content ≡ t.len
      → ItemStands s p (leaf t.ty (record { start = p + length head; len = t.len })) (p + length head + t.len)
  list_stands : (t : TypeLengthField) (head rest : List ℕ) → drop p s ≡ head ++ rest → HeadBytes t head → is_list t.ty ≡ true → ItemStands s p (list_item t.len) (p + length head)

-- it is wrong, and was judged so far
pub record ItemBroken (s : List ℕ) (p : ℕ) (f : Refusal) : Type 0 where
  pub judged_to : ℕ
  pub wrong : WrongItem s p f judged_to

-- read exactly if it stands there, and refused exactly if it is wrong; how deep lists are open doesn't matter
pub record ReadsItems (I : ItemReader) : Type 0 where
  pub if : (s : List ℕ) (p : ℕ) (i : Item) (n : ℕ) → p ≤ length s → ItemStands s p i n → I s p ≡ got i n
  pub only_if : (s : List ℕ) (p : ℕ) (i : Item) (n : ℕ) → p ≤ length s → I s p ≡ got i n → ItemStands s p i n
  pub refuses : (s : List ℕ) (p : ℕ) (f : Refusal) → ItemBroken s p f → I s p ≡ refused f
  pub only_refuses : (s : List ℕ) (p : ℕ) (f : Refusal) → I s p ≡ refused f → ItemBroken s p f

-- who keeps this reads as ours does, on every input
abbrev pub OnlyOurItems : Type 0
OnlyOurItems = (I : ItemReader) → ReadsItems I → (s : List ℕ) (p : ℕ) → I s p ≡ our_item_reader s p
