-- The one pass over the bytes is the element by its depth.
use mathlib.Core.Path.{◌≡◌, refl, sym, ap, ◌∙◌}
use mathlib.Core.List.{List, [], ◌∷◌}
use mathlib.Core.Bool.{cond}
use mathlib.Core.Option.{Option, some, none}
use Prim.Native.Nat.{ℕ, zero, suc, ◌+◌, ◌-◌}
use native.Mathlib.Omega.{arith}
use lib.ListN.{length}
use lib.Dec.{ltb}
use borrow.Author.Tests.{le-leb, lt-leb}
use Rattle.refusals.specs.Numbers.{input_too_long_no, limit}
use Rattle.refusals.specs.Read.{Read, got, refused, then, guard, need}
use Rattle.refusals.proofs.Read.{ok_any, then_then}
use Rattle.walk.specs.Walk.{Item, end_mark, leaf, list_item, item_at, deepest, take_item, walk_step, pass, walk_refused, measured, walk_at}
use Rattle.walk.specs.Cut.{elements_at, behind_item, element_by, element_at}
use Rattle.walk.proofs.Pass.{then_same, many_enough, pass_left, passed_next}

abbrev pub inner_of : ℕ → List ℕ → Option (ℕ → Read ℕ)
inner_of zero s = none
inner_of (suc d) s = some (element_at d s)

pub element_is : (d : ℕ) (s : List ℕ) (at : ℕ) → element_at d s at ≡ element_by (inner_of d s) s at
unfolding element_at
element_is zero s at = refl
element_is (suc d) s at = refl

-- one more element is wanted, inside lists of which so many more may open
abbrev Ties : ℕ → List ℕ → Type 0
Ties d s = (k : ℕ) (w : List ℕ) (leaves at : ℕ) → length w + d ≡ deepest → pass_left s (suc k ∷ w) leaves at ≡ then (element_at d s at) λ a n. pass_left s (k ∷ w) (leaves + a) n

-- a list that wants no more is closed
pub passed_closed : (s w : List ℕ) (leaves at : ℕ) → pass_left s (zero ∷ w) leaves at ≡ pass_left s w leaves at
unfolding pass walk_step
passed_closed s w leaves at = refl

row_ties : (d : ℕ) (s : List ℕ) → Ties d s → (j : ℕ) (w : List ℕ) (leaves sum at : ℕ) → length w + d ≡ deepest
    → pass_left s (j ∷ w) (leaves + sum) at ≡ then (elements_at (element_at d s) j sum at) λ a n. pass_left s w (leaves + a) n
unfolding elements_at then
row_ties d s h zero w leaves sum at e = passed_closed s w (leaves + sum) at
row_ties d s h (suc j) w leaves sum at e =
    h j w (leaves + sum) at e
    ∙ then_same _ _ _ (ok_any (element_at d s at)) (λ a n q. let z : leaves + sum + a ≡ leaves + (sum + a) = omega arith in rw z (row_ties d s h j w leaves (sum + a) n e))
    ∙ sym (then_then (element_at d s at) _ _)

item_ties : (d : ℕ) (s : List ℕ) → ((c : ℕ) → d ≡ suc c → Ties c s) → (k : ℕ) (w : List ℕ) (leaves at n : ℕ) (i : Item) → length w + d ≡ deepest
    → take_item (pass_left s) (k ∷ w) leaves at i n ≡ then (behind_item (inner_of d s) at i n) λ a m. pass_left s (k ∷ w) (leaves + a) m
unfolding take_item behind_item then guard need
item_ties d s h k w leaves at n end_mark e = refl
item_ties d s h k w leaves at n (leaf ty content) e = refl
item_ties zero s h k w leaves at n (list_item j) e = rw (lt-leb (length (k ∷ w)) deepest (omega arith))
item_ties (suc c) s h k w leaves at n (list_item j) e =
    let z : leaves + 0 ≡ leaves = omega arith in
    rw (le-leb (length (k ∷ w)) deepest (omega arith)) (rw z at (row_ties c s (h c refl) j (k ∷ w) leaves 0 n (omega arith)))

ties_by : (d : ℕ) (s : List ℕ) → ((c : ℕ) → d ≡ suc c → Ties c s) → Ties d s
unfolding walk_step element_by
ties_by d s h k w leaves at e =
    passed_next s (suc k ∷ w) leaves at
    ∙ then_same _ _ _ (ok_any (item_at s at)) (λ i n q. item_ties d s h k w leaves at n i e)
    ∙ sym (then_then (item_at s at) _ _)
    ∙ ap (λ r. then r λ a m. pass_left s (k ∷ w) (leaves + a) m) (sym (element_is d s at))

-- for `length w` open lists, the pass behind one more wanted element is that element and then the rest of the pass
pub ties : (d : ℕ) (s : List ℕ) → Ties d s
ties zero s = ties_by zero s (λ c e. absurd (omega arith))
ties (suc d) s = ties_by (suc d) s (λ c e. let z : d ≡ c = omega arith in rw z at (ties d s))

then_got : (r : Read ℕ) → (then r λ a n. got (0 + a) n) ≡ r
unfolding then
then_got (got a n) = let z : 0 + a ≡ a = omega arith in rw z
then_got (refused f) = refl

-- the whole pass
pub pass_element : (s : List ℕ) (at : ℕ) → pass (suc (length s)) s (1 ∷ []) 0 at ≡ element_at deepest s at
unfolding pass walk_step
pass_element s at =
    many_enough (suc (length s)) (suc (length s - at)) s (1 ∷ []) 0 at (omega arith) (omega arith)
    ∙ ties deepest s 0 [] 0 at refl
    ∙ then_got (element_at deepest s at)

pub walk_is_lem : (s : List ℕ) (at : ℕ) → walk_at s at ≡ cond (ltb limit (length s)) (walk_refused input_too_long_no) (measured at (element_at deepest s at))
unfolding walk_at
walk_is_lem s at = rw (pass_element s at)

-- more items may be taken than there are: the answer stays
pub pass_enough : (k : ℕ) (s : List ℕ) (at : ℕ) → pass (suc (length s) + k) s (1 ∷ []) 0 at ≡ pass (suc (length s)) s (1 ∷ []) 0 at
pass_enough k s at = many_enough (suc (length s) + k) (suc (length s)) s (1 ∷ []) 0 at (omega arith) (omega arith)
