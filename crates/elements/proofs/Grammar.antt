-- From the grammar to the walk: an element that stands at a place is walked over, and a place inside it is arrived at.
use mathlib.Core.Path.{◌≡◌, refl}
use mathlib.Core.List.{List, ◌∷◌, ◌++◌, append_assoc}
use mathlib.Core.Bool.{true, false}
use mathlib.Core.Option.{Option}
use Prim.Native.Nat.{ℕ, suc, ◌+◌}
use native.Mathlib.Omega.{arith}
use lib.ListN.{length}
use borrow.Author.Tests.{lt-ltb}
use Rattle.refusals.specs.Read.{Read, need}
use Rattle.refusals.proofs.Rest.{Rest, Gets, rest_length, rest_byte, rest_next, gets_got, gets_then, gets_is, gets_weak, span_gets}
use Rattle.tlf.specs.Lengths.{is_list}
use Rattle.tlf.specs.declared.TypeLengthField.{TypeLengthField}
use Rattle.walk.specs.Walk.{Item, end_mark, leaf, list_item, is_end_mark, item_at}
use Rattle.walk.specs.Cut.{elements_at, behind_item, element_by, element_at}
use Rattle.walk.proofs.Items.{no_mark}
use Rattle.walk.proofs.Ties.{element_is}
use Rattle.elements.specs.Grammar.{HeadBytes, Elements, no_element, first_mark, first_leaf, first_list}
use Rattle.elements.proofs.Local.{head_gets}

-- an item that is one leaf
abbrev IsOne : Item → Type 0
IsOne end_mark = Unit {0}
IsOne (leaf ty content) = Unit {0}
IsOne (list_item k) = ⊥

mark_gets : {s : List ℕ} {p : ℕ} (l : List ℕ) → Rest s p (0x00 ∷ l) → Gets IsOne s l (item_at s p)
unfolding item_at is_end_mark
mark_gets {s} {p} l r = rw (lt-ltb p (length s) (omega (arith, rest_length r)), rest_byte r) (gets_got tt (rest_next r))

leaf_gets : (t : TypeLengthField) (b x : List ℕ) → HeadBytes t b → is_list t.ty ≡ false → length x ≡ t.len → {s : List ℕ} {p : ℕ} (l : List ℕ) → Rest s p (b ++ (x ++ l)) → Gets IsOne s l (item_at s p)
unfolding item_at
leaf_gets t b x h f n {s} {p} l r =
    let g = head_gets t b h (x ++ l) r in
    rw (no_mark s p g.is) (gets_is _ _ g (λ m k. rw f (gets_then _ _ (span_gets x t.len l n k) (λ a j q k'. gets_got tt k'))))

pub list_gets : (t : TypeLengthField) (b : List ℕ) → HeadBytes t b → is_list t.ty ≡ true → {s : List ℕ} {p : ℕ} (l : List ℕ) → Rest s p (b ++ l) → Gets (λ (i : Item). i ≡ list_item t.len) s l (item_at s p)
unfolding item_at
list_gets t b h f {s} {p} l r =
    let g = head_gets t b h l r in
    rw (no_mark s p g.is) (gets_is _ _ g (λ m k. rw f (gets_got refl k)))

one_behind : (p n : ℕ) (s l : List ℕ) (o : Option (ℕ → Read ℕ)) (i : Item) → IsOne i → Rest s n l → Gets (λ (x : ℕ). x ≡ 1) s l (behind_item o p i n)
unfolding behind_item
one_behind p n s l o end_mark h r = gets_got refl r
one_behind p n s l o (leaf ty content) h r = gets_got refl r
one_behind p n s l o (list_item k) h r = absurd h

one_gets : (d : ℕ) (s : List ℕ) (p : ℕ) {l : List ℕ} → Gets IsOne s l (item_at s p) → Gets (λ (x : ℕ). x ≡ 1) s l (element_at d s p)
unfolding element_by
one_gets d s p {l} g = rw (element_is d s p) (gets_then _ _ g (λ i n q k. one_behind p n s l _ i q k))

of_gets : (d k a : ℕ) (s : List ℕ) (p : ℕ) {l m : List ℕ} → Gets (λ (i : Item). i ≡ list_item k) s l (item_at s p) → ((n : ℕ) → Rest s n l → Gets (λ (x : ℕ). x ≡ 0 + a) s m (elements_at (element_at d s) k 0 n))
    → Gets (λ (x : ℕ). x ≡ a) s m (element_at (suc d) s p)
unfolding element_by behind_item need
of_gets d k a s p g h = rw (element_is (suc d) s p) (gets_is _ _ g (λ n r. gets_weak (λ x e. omega (arith, e)) (h n r)))

-- a row of elements is read as so many, and what is behind it is left
pub elements_get : {d k : ℕ} {b : List ℕ} {a : ℕ} → Elements d k b a → (s : List ℕ) (p : ℕ) (l : List ℕ) (sum : ℕ) → Rest s p (b ++ l) → Gets (λ (x : ℕ). x ≡ sum + a) s l (elements_at (element_at d s) k sum p)
unfolding elements_at
elements_get no_element s p l sum r = gets_got (omega arith) r
elements_get {d} (first_mark {more = bs} w) s p l sum r =
    gets_is _ _ (one_gets d s p (mark_gets (bs ++ l) r)) (λ n k. gets_weak (λ x e. omega (arith, e)) (elements_get w s n l (sum + 1) k))
elements_get {d} (first_leaf {more = bs} t b x h f n w) s p l sum r =
    gets_is _ _ (one_gets d s p (leaf_gets t b x h f n (bs ++ l) (simp append_assoc at r))) (λ m k. gets_weak (λ y e. omega (arith, e)) (elements_get w s m l (sum + 1) k))
elements_get (first_list {d = d} {inner = a} {more = bs} t b x h f v w) s p l sum r =
    gets_is _ _ (of_gets d t.len a s p (list_gets t b h f (x ++ (bs ++ l)) (simp append_assoc at r)) (λ n k. elements_get v s n (bs ++ l) 0 k))
    (λ m k. gets_weak (λ y e. omega (arith, e)) (elements_get w s m l (sum + a) k))
