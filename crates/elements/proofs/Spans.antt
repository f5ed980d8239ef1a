-- Elements and rows of elements that the walk takes whole, put together to lists.
use mathlib.Core.Path.{◌≡◌, refl}
use mathlib.Core.List.{List}
use mathlib.Core.Bool.{true, false}
use Prim.Native.Nat.{ℕ, zero, suc, ◌+◌, ◌<◌}
use lib.ListN.{length, get_or}
use lib.Dec.{eqb}
use borrow.Author.Tests.{eqb-true, lt-ltb}
use Rattle.refusals.specs.Read.{got, then, need, span_at}
use Rattle.tlf.specs.Lengths.{tlf_at, is_list, is_list_of, list_of_at}
use Rattle.tlf.specs.declared.TypeLengthField.{TypeLengthField}
use Rattle.refusals.specs.declared.Span.{Span}
use Rattle.refusals.proofs.Read.{Ok, ok_any, ok_got, ok_guard, ok_then, and_left, and_right}
use Rattle.walk.specs.Walk.{is_end_mark, item_at}
use Rattle.walk.specs.Cut.{elements_at, behind_item, element_by, element_at}
use Rattle.walk.proofs.Items.{no_mark}
use Rattle.walk.proofs.Ties.{element_is}

-- the element at `at` ends at `n`
pub record EndsHere (d : ℕ) (s : List ℕ) (at n : ℕ) : Type 0 where
  pub leaves : ℕ
  pub walks : element_at d s at ≡ got leaves n

-- k elements, one behind the other, from `at` to `n`
pub data SeveralEnd (d : ℕ) (s : List ℕ) : ℕ → ℕ → ℕ → Type 0 where
  none_ends : {at : ℕ} → SeveralEnd d s zero at at
  another_ends : {k at m n : ℕ} → EndsHere d s at m → SeveralEnd d s k m n → SeveralEnd d s (suc k) at n

run_row : {d : ℕ} {s : List ℕ} {k at n : ℕ} → SeveralEnd d s k at n → (sum : ℕ) → (l : ℕ) × (elements_at (element_at d s) k sum at ≡ got l n)
unfolding elements_at then
run_row none_ends sum = (sum, refl)
run_row {d} {s} (another_ends w r) sum = rw w.walks (run_row r (sum + w.leaves))

-- what is no list
pub leaf_of : {d : ℕ} {s : List ℕ} {at : ℕ} {t : TypeLengthField} {n m : ℕ} {p : Span} → tlf_at s at ≡ got t n → is_list t.ty ≡ false → span_at s n t.len ≡ got p m → EndsHere d s at m
unfolding element_by item_at behind_item then
leaf_of {d} {s} {at} e f l = record { leaves = 1; walks = rw (element_is d s at, no_mark s at e, e, f, l) }

-- a list of the elements behind its length bytes
pub list_of_lem : {d : ℕ} {s : List ℕ} {at : ℕ} {t : TypeLengthField} {n m : ℕ} → tlf_at s at ≡ got t n → is_list t.ty ≡ true → SeveralEnd d s t.len n m → EndsHere (suc d) s at m
unfolding element_by item_at behind_item then need
list_of_lem {d} {s} {at} e f r =
    let (l, w) = run_row r 0 in
    record { leaves = l; walks = rw (element_is (suc d) s at, no_mark s at e, e, f) w }

-- behind the head of a list of k: its elements make it whole
abbrev pub Heads : ℕ → List ℕ → ℕ → ℕ → Type 0
Heads k s at n = (d m : ℕ) → SeveralEnd d s k n m → EndsHere (suc d) s at m

pub head_of_lem : (k : ℕ) {s : List ℕ} {at : ℕ} {t : TypeLengthField} {n : ℕ} → tlf_at s at ≡ got t n → is_list_of k t ≡ true → Heads k s at n
head_of_lem k {s} {at} {t} {n} e g d m r =
    list_of_lem e (and_left _ (eqb t.len k) g) (rw (eqb-true t.len k (and_right (is_list t.ty) _ g)) r)

pub head_walks : (k : ℕ) (s : List ℕ) (at : ℕ) → Ok (λ u n. Heads k s at n) (list_of_at k s at)
unfolding list_of_at
head_walks k s at = ok_then _ _ (ok_any (tlf_at s at)) (λ t n e. ok_guard _ _ _ (λ g. ok_got _ _ (head_of_lem k e g)))

-- the element at `at` ends where the reading of it does
abbrev pub Walks : {A : Type 0} → ℕ → List ℕ → ℕ → A → ℕ → Type 0
Walks d s at a n = EndsHere d s at n

-- the end byte is an element of its own
pub mark_walks : (d : ℕ) (s : List ℕ) (at : ℕ) → at < length s → get_or s at 0 ≡ 0 → EndsHere d s at (at + 1)
unfolding element_by item_at behind_item is_end_mark then
mark_walks d s at h e = record { leaves = 1; walks = rw (element_is d s at, lt-ltb at (length s) h, e) }
