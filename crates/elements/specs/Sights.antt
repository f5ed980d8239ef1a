-- claim: who goes from item to item, with a number for each open list, sees every element once, in the order of the bytes, at its place and depth.
use Rattle.std.specs.Prelude.{ℕ, zero, suc, ◌+◌, ◌≤◌, ◌≡◌, List, [], ◌∷◌, ◌++◌, length, drop}
use Rattle.refusals.specs.Read.{Read, got, refused}
use Rattle.walk.specs.Walk.{Item, end_mark, leaf, list_item}
use Rattle.elements.specs.Grammar.{Elements, no_element, first_mark, first_leaf, first_list, WholeElement}
use Rattle.elements.specs.ItemReaders.{ItemReader, ReadsItems}

-- an element that is seen: inside how many open lists, where, and what begins there
pub record Sight : Type 0 where
  pub depth : ℕ
  pub place : ℕ
  pub item : Item

abbrev pub sight : ℕ → ℕ → Item → Sight
sight depth p i = record { depth = depth; place = p; item = i }

-- of a row of elements from p on, each, and behind a list those inside it
unfoldable pub sights : {d k leaves : ℕ} {b : List ℕ} → ℕ → ℕ → Elements d k b leaves → List Sight
sights depth p no_element = []
sights depth p (first_mark w) = sight depth p end_mark ∷ sights depth (p + 1) w
sights depth p (first_leaf t head content h f n w) = sight depth p (leaf t.ty (record { start = p + length head; len = t.len })) ∷ sights depth (p + length head + t.len) w
sights depth p (first_list t head content h f v w) = sight depth p (list_item t.len) ∷ (sights (suc depth) (p + length head) v ++ sights depth (p + length head + length content) w)

-- what is wanted behind an item: a list's elements first
abbrev pub wanted_behind : Item → List ℕ → List ℕ
wanted_behind end_mark wants = wants
wanted_behind (leaf ty content) wants = wants
wanted_behind (list_item k) wants = k ∷ wants

abbrev pub see_item : (List ℕ → ℕ → List Sight) → ℕ → List ℕ → ℕ → Read Item → List Sight
see_item on depth wants at (got i n) = sight depth at i ∷ on (wanted_behind i wants) n
see_item on depth wants at (refused f) = []

-- one item more, by a reader of items: `wants` has a number for each open list, the innermost first, and the last stands for the element itself; lists that want no more are closed
unfoldable pub see_step : ItemReader → (List ℕ → ℕ → List Sight) → List ℕ → List ℕ → ℕ → List Sight
see_step I on s [] at = []
see_step I on s (zero ∷ wants) at = see_step I on s wants at
see_step I on s (suc k ∷ wants) at = see_item on (length wants) (k ∷ wants) at (I s at)

-- at most `many` items
unfoldable pub sees_by : ItemReader → ℕ → List ℕ → List ℕ → ℕ → List Sight
sees_by I zero s wants at = []
sees_by I (suc many) s wants at = see_step I (sees_by I many s) s wants at

-- of every element that stands at a place of an input, all that is in it
abbrev pub SeesIn : ItemReader → List ℕ → Type 0
SeesIn I s = (at : ℕ) (element rest : List ℕ) (leaves : ℕ) → at ≤ length s → drop at s ≡ element ++ rest → (w : WholeElement element leaves) → sees_by I (suc (length s)) s (1 ∷ []) at ≡ sights 0 at w

abbrev pub SeesElements : ItemReader → Type 0
SeesElements I = (s : List ℕ) → SeesIn I s

abbrev pub AlwaysSeesElements : Type 0
AlwaysSeesElements = (I : ItemReader) → ReadsItems I → SeesElements I
