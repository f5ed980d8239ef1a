-- rule: a walk over one whole element of any content, by document 02's Q-4: one pass over the bytes from the left.
use Rattle.std.specs.Prelude.{ℕ, zero, suc, ◌+◌, ◌-◌, List, [], ◌∷◌, Bool, cond, ◌&&◌, length, get_or, ltb, leb, eqb}
use Rattle.refusals.specs.Numbers.{input_too_long_no, too_deep_no, limit}
use Rattle.refusals.specs.Read.{Read, got, refused, Refusal, then, guard, eof, span_at}
use Rattle.refusals.specs.declared.Span.{Span}
use Rattle.tlf.specs.Lengths.{tlf_at, is_list}
use Rattle.tlf.specs.declared.Ty.{Ty}

-- 19, TooDeep, at the list's first length byte
abbrev pub too_deep : ℕ → Refusal
too_deep at = record { number = too_deep_no; kind = 0; place = at }

-- so many lists may be open, the outermost counted
abbrev pub deepest : ℕ
deepest = 16

-- the byte 00 on its own
unfoldable pub is_end_mark : List ℕ → ℕ → Bool
is_end_mark s at = ltb at (length s) && eqb (get_or s at 0) 0x00

-- what begins at a place: an end mark, a leaf of a type with its content, or a list of so many elements
pub data Item : Type 0 where
  end_mark : Item
  leaf : Ty → Span → Item
  list_item : ℕ → Item

-- the next place is behind an end mark or a leaf's last byte, or behind a list's length bytes
unfoldable pub item_at : List ℕ → ℕ → Read Item
item_at s at =
    cond (is_end_mark s at) (got end_mark (at + 1))
    (then (tlf_at s at) λ t n.
    cond (is_list t.ty) (got (list_item t.len) n)
    (then (span_at s n t.len) λ content m. got (leaf t.ty content) m))

-- `wants`: how many elements each open list still wants, the innermost first; the last number stands for the element itself, which no list wants, so that there is one number more than lists are open.
-- An item at `at` is taken: an end mark or a leaf is counted, a list opens, unless sixteen are open
unfoldable pub take_item : (List ℕ → ℕ → ℕ → Read ℕ) → List ℕ → ℕ → ℕ → Item → ℕ → Read ℕ
take_item on wants leaves at end_mark n = on wants (leaves + 1) n
take_item on wants leaves at (leaf ty content) n = on wants (leaves + 1) n
take_item on wants leaves at (list_item k) n = guard (leb (length wants) deepest) (too_deep at) (on (k ∷ wants) leaves n)

-- a list that wants no more is closed; else one item more is taken
unfoldable pub walk_step : (List ℕ → ℕ → ℕ → Read ℕ) → List ℕ → List ℕ → ℕ → ℕ → Read ℕ
walk_step on s [] leaves at = got leaves at
walk_step on s (zero ∷ wants) leaves at = walk_step on s wants leaves at
walk_step on s (suc k ∷ wants) leaves at = then (item_at s at) (take_item on (k ∷ wants) leaves at)

-- at most `many` items: an item has at least a byte, so that no input has more items than bytes, and with more than these the number doesn't matter (`many-enough`)
unfoldable pub pass : ℕ → List ℕ → List ℕ → ℕ → ℕ → Read ℕ
pass zero s wants leaves at = refused (eof (length s))
pass (suc many) s wants leaves at = walk_step (pass many s) s wants leaves at

-- how many bytes an element takes and how many leaves it has; or a refusal at a place; or one by its number alone
pub data WalkSaid : Type 0 where
  walk_is : ℕ → ℕ → WalkSaid
  walk_broken : Refusal → WalkSaid
  walk_refused : ℕ → WalkSaid

abbrev pub measured : ℕ → Read ℕ → WalkSaid
measured at (got leaves n) = walk_is (n - at) leaves
measured at (refused f) = walk_broken f

unfoldable pub walk_at : List ℕ → ℕ → WalkSaid
walk_at s at = cond (ltb limit (length s)) (walk_refused input_too_long_no) (measured at (pass (suc (length s)) s (1 ∷ []) 0 at))
