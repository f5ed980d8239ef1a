-- An element is refused exactly where its reading comes to an item that is wrong.
use mathlib.Core.Path.{◌≡◌, refl, ap, ◌∙◌, subst}
use mathlib.Core.List.{List}
use Prim.Native.Nat.{ℕ, zero, suc, ◌+◌, ◌<◌}
use native.Mathlib.Omega.{arith}
use Rattle.refusals.specs.Read.{Read, got, refused, Refusal, then, need}
use Rattle.refusals.proofs.Codes.{place_behind}
use Rattle.walk.specs.Walk.{Item, end_mark, leaf, list_item, item_at, too_deep}
use Rattle.walk.specs.Cut.{elements_at, behind_item, element_by, element_at}
use Rattle.elements.proofs.Items.{not_both, refusal_same, LostItem, refused_item, deep_item}

-- from the element at p, in which lists may open d deep, its reading comes to q, where one begins in which they may open e deep
pub data Arrives (s : List ℕ) (e q : ℕ) : ℕ → ℕ → Type 0 where
  arrived : Arrives s e q e q
  deeper : (d p k n j a m : ℕ) → item_at s p ≡ got (list_item k) n → j < k → elements_at (element_at d s) j 0 n ≡ got a m → Arrives s e q d m → Arrives s e q (suc d) p

-- ---- what is refused arrives at something wrong

pub record Lands (s : List ℕ) (d p : ℕ) (f : Refusal) : Type 0 where
  pub e : ℕ
  pub q : ℕ
  pub arrives : Arrives s e q d p
  pub wrong : LostItem s e q f

-- of a row that is refused the elements before the first that is
record BreaksAt (read : ℕ → Read ℕ) (k sum n : ℕ) (f : Refusal) : Type 0 where
  j : ℕ
  a : ℕ
  m : ℕ
  few : j < k
  whole : elements_at read j sum n ≡ got a m
  broke : read m ≡ refused f

row_breaks : (read : ℕ → Read ℕ) (k sum n : ℕ) (f : Refusal) → elements_at read k sum n ≡ refused f → BreaksAt read k sum n f
unfolding elements_at then
row_breaks read zero sum n f h = absurd (not_both {a = sum} {n = n} refl h)
row_breaks read (suc k) sum n f h = by (read n) refl (λ b i w. row_breaks read k (sum + b) i f w)
  where
    by : (x : Read ℕ) → read n ≡ x → ((b i : ℕ) → elements_at read k (sum + b) i ≡ refused f → BreaksAt read k (sum + b) i f) → BreaksAt read (suc k) sum n f
    by (got b i) e next =
        let r = next b i (rw e at h) in
        record { j = suc r.j; a = r.a; m = r.m; few = omega (arith, r.few); whole = rw e r.whole; broke = r.broke }
    by (refused g) e next =
        let same : g ≡ f = refusal_same {A = ℕ} (rw e at h) in
        record { j = 0; a = sum; m = n; few = omega arith; whole = refl; broke = e ∙ ap (λ (x : Refusal). refused x) same }

pub lands : (d : ℕ) (s : List ℕ) (p : ℕ) (f : Refusal) → element_at d s p ≡ refused f → Lands s d p f
unfolding element_at element_by behind_item then need
lands zero s p f h = by (item_at s p) refl
  where
    by : (x : Read Item) → item_at s p ≡ x → Lands s zero p f
    by (refused g) e = record { e = zero; q = p; arrives = arrived; wrong = refused_item f (e ∙ ap (λ (x : Refusal). refused x) (refusal_same {A = ℕ} (rw e at h))) }
    by (got end_mark n) e = absurd (not_both {a = 1} {n = n} refl (rw e at h))
    by (got (leaf ty c) n) e = absurd (not_both {a = 1} {n = n} refl (rw e at h))
    by (got (list_item k) n) e =
        let same : too_deep p ≡ f = refusal_same {A = ℕ} (rw e at h) in
        record { e = zero; q = p; arrives = arrived; wrong = subst (λ (g : Refusal). LostItem s zero p g) same (deep_item k n refl e) }
lands (suc d) s p f h = by (item_at s p) refl (λ m b. lands d s m f b)
  where
    by : (x : Read Item) → item_at s p ≡ x → ((m : ℕ) → element_at d s m ≡ refused f → Lands s d m f) → Lands s (suc d) p f
    by (refused g) e next = record { e = suc d; q = p; arrives = arrived; wrong = refused_item f (e ∙ ap (λ (x : Refusal). refused x) (refusal_same {A = ℕ} (rw e at h))) }
    by (got end_mark n) e next = absurd (not_both {a = 1} {n = n} refl (rw e at h))
    by (got (leaf ty c) n) e next = absurd (not_both {a = 1} {n = n} refl (rw e at h))
    by (got (list_item k) n) e next =
        let r = row_breaks (element_at d s) k 0 n f (rw e at h) in
        let l = next r.m r.broke in
        record { e = l.e; q = l.q; arrives = deeper d p k n r.j r.a r.m e r.few r.whole l.arrives; wrong = l.wrong }

-- ---- and what arrives there is refused

row_stops : (read : ℕ → Read ℕ) (j k sum n a m : ℕ) (f : Refusal) → elements_at read j sum n ≡ got a m → j < k → read m ≡ refused f → elements_at read k sum n ≡ refused f
unfolding elements_at then
row_stops read j zero sum n a m f h l b = absurd (omega arith)
row_stops read zero (suc k) sum n a m f h l b = let z : n ≡ m = ap place_behind h in rw (z, b)
row_stops read (suc j) (suc k) sum n a m f h l b = by (read n) refl (λ c i w. row_stops read j k (sum + c) i a m f w (omega arith) b)
  where
    by : (x : Read ℕ) → read n ≡ x → ((c i : ℕ) → elements_at read j (sum + c) i ≡ got a m → elements_at read k (sum + c) i ≡ refused f) → (then (read n) λ c i. elements_at read k (sum + c) i) ≡ refused f
    by (got c i) e next = rw e (next c i (rw e at h))
    by (refused g) e next = absurd (not_both {f = g} h (rw e))

item_stops : (d : ℕ) (s : List ℕ) (p : ℕ) (f : Refusal) → LostItem s d p f → element_at d s p ≡ refused f
unfolding element_at element_by behind_item then need
item_stops zero s p f (refused_item g h) = rw h
item_stops (suc d) s p f (refused_item g h) = rw h
item_stops zero s p f (deep_item k n z h) = rw h
item_stops (suc d) s p f (deep_item k n z h) = absurd (omega arith)

list_stops : (d : ℕ) (s : List ℕ) (p k n : ℕ) (f : Refusal) → item_at s p ≡ got (list_item k) n → elements_at (element_at d s) k 0 n ≡ refused f → element_at (suc d) s p ≡ refused f
unfolding element_at element_by behind_item then need
list_stops d s p k n f h r = rw h r

pub refused_there : {s : List ℕ} {e q d p : ℕ} → Arrives s e q d p → (f : Refusal) → LostItem s e q f → element_at d s p ≡ refused f
refused_there {s} {e} {q} arrived f w = item_stops e s q f w
refused_there {s} (deeper d p k n j a m i l r t) f w = list_stops d s p k n f i (row_stops (element_at d s) j k 0 n a m f r l (refused_there t f w))
