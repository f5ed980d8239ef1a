-- cut: an element by how deep lists may still open in it, and a row of elements by how many they are.
use Rattle.std.specs.Prelude.{ℕ, zero, suc, ◌+◌, List}
use Rattle.std.proofs.Math.Option.{Option, some, none}
use Rattle.refusals.specs.Read.{Read, got, then, need}
use Rattle.walk.specs.Walk.{Item, end_mark, leaf, list_item, item_at, too_deep}

-- `count` readings, one behind the other, and the sum of what they find and `sum`
unfoldable pub elements_at : (ℕ → Read ℕ) → ℕ → ℕ → ℕ → Read ℕ
elements_at read zero sum at = got sum at
elements_at read (suc k) sum at = then (read at) λ a n. elements_at read k (sum + a) n

-- behind an item that began at `at`, given how the elements of a list in it are read, if a list may open there
unfoldable pub behind_item : Option (ℕ → Read ℕ) → ℕ → Item → ℕ → Read ℕ
behind_item inner at end_mark n = got 1 n
behind_item inner at (leaf ty content) n = got 1 n
behind_item inner at (list_item k) n = need inner (too_deep at) λ read. elements_at read k 0 n

unfoldable pub element_by : Option (ℕ → Read ℕ) → List ℕ → ℕ → Read ℕ
element_by inner s at = then (item_at s at) (behind_item inner at)

-- an element in which lists may open `depth` deep
unfoldable pub element_at : ℕ → List ℕ → ℕ → Read ℕ
element_at zero s at = element_by none s at
element_at (suc d) s at = element_by (some (element_at d s)) s at
