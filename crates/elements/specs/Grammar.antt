-- claim: elements by their grammar, over bytes that stand nowhere yet: end marks, leaves, and lists, which are length bytes and a row of elements.
use Rattle.std.specs.Prelude.{◌≡◌, ℕ, zero, suc, ◌+◌, ◌<◌, true, false, List, [], ◌∷◌, ◌++◌, length}
use Rattle.refusals.specs.Read.{got}
use Rattle.tlf.specs.Lengths.{tlf_at, is_list}
use Rattle.tlf.specs.declared.TypeLengthField.{TypeLengthField}
use Rattle.walk.specs.Walk.{deepest}

-- the bytes b, by themselves, are the length bytes of t
pub record HeadBytes (t : TypeLengthField) (b : List ℕ) : Type 0 where
  pub is : tlf_at b 0 ≡ got t (length b)

-- a row of elements: how deep lists may open in them, how many they are, their bytes, and how many leaves they have
pub data Elements : ℕ → ℕ → List ℕ → ℕ → Type 0 where
  no_element : {d : ℕ} → Elements d zero [] 0
  -- 00 on its own is an end mark, and a leaf
  first_mark : {d k leaves : ℕ} {more : List ℕ} → Elements d k more leaves → Elements d (suc k) (0x00 ∷ more) (1 + leaves)
  -- a leaf's content is any bytes, as many as its length bytes say
  first_leaf : {d k leaves : ℕ} {more : List ℕ} (t : TypeLengthField) (head content : List ℕ) → HeadBytes t head → is_list t.ty ≡ false → length content ≡ t.len
      → Elements d k more leaves → Elements d (suc k) (head ++ (content ++ more)) (1 + leaves)
  -- a list's content is as many elements as its length bytes say, in which lists may open less deep
  first_list : {d k inner leaves : ℕ} {more : List ℕ} (t : TypeLengthField) (head content : List ℕ) → HeadBytes t head → is_list t.ty ≡ true → Elements d t.len content inner
      → Elements (suc d) k more leaves → Elements (suc d) (suc k) (head ++ (content ++ more)) (inner + leaves)

-- one element of so many leaves, in which sixteen lists may be open
abbrev pub WholeElement : List ℕ → ℕ → Type 0
WholeElement b leaves = Elements deepest 1 b leaves

-- the first bytes of an element in which lists may open d deep, up to a place where one inside it begins, in which they may open e deep:
-- of each list that is open there its length bytes and its elements so far, fewer than it has
pub data UpTo (e : ℕ) : ℕ → List ℕ → Type 0 where
  at_itself : UpTo e e []
  inside_list : {d k leaves : ℕ} {b : List ℕ} (t : TypeLengthField) (head content : List ℕ) → HeadBytes t head → is_list t.ty ≡ true → k < t.len → Elements d k content leaves
      → UpTo e d b → UpTo e (suc d) (head ++ (content ++ b))
