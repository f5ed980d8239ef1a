-- The steps of a heap sort over a sequence: sinking one place, what stands on top, taking the top out.
use Prim.Native.Nat.{ℕ, zero, suc, ◌+◌, ◌*◌, ◌-◌, ◌/◌, ◌<◌, ◌≤◌}
use mathlib.Core.Path.{◌≡◌, refl, sym, ap, ◌∙◌, subst}
use mathlib.Core.Bool.{Bool, true, false}
use native.Mathlib.Omega.{arith}
use Rattle.frame.proofs.Cases.{by_lt, either}
use Rattle.index.specs.Heap.{swap, Shuffle, Upto, Under, Heap, HeapBut, Top, LargerOf, Done}
use Rattle.index.proofs.Swap.{Swapped, took_first, took_second, took_none, swap_view}

-- what a sort asks of an order
pub record Order {A : Type 0} (lt : A → A → Bool) : Type 0 where
  pub asym : (x y : A) → lt x y ≡ true → lt y x ≡ false
  pub passes : (x y z : A) → Upto lt x y → Upto lt y z → Upto lt x z

pub upto_self : {A : Type 0} {lt : A → A → Bool} → Order lt → (x : A) → Upto lt x x
upto_self {lt = lt} o x = go (lt x x) refl
  where
    go : (t : Bool) → lt x x ≡ t → lt x x ≡ false
    go true e = o.asym x x e
    go false e = e

pub upto_less : {A : Type 0} {lt : A → A → Bool} → Order lt → {x y : A} → lt x y ≡ true → Upto lt x y
upto_less o {x} {y} e = o.asym x y e

-- both sides by equal elements
moved : {A : Type 0} (lt : A → A → Bool) {x x' y y' : A} → x' ≡ x → y' ≡ y → Upto lt x y → Upto lt x' y'
moved lt p q h = rw (p, q) h

-- before sinking
pub but_from : {A : Type 0} {lt : A → A → Bool} {i end : ℕ} {f : ℕ → A} → Heap lt (i + 1) end f → HeapBut lt i end i f
but_from {i = i} h = record {
  down = λ p q l u e n. h.down p q (omega arith) u e;
  over = λ p q l u v e. absurd (omega arith);
}

-- the end of sinking
pub but_done : {A : Type 0} {lt : A → A → Bool} {lo end i : ℕ} {f : ℕ → A} → HeapBut lt lo end i f → Top lt end i i f → Heap lt lo end f
but_done {lt = lt} {end = end} {i = i} {f = f} h t = record {
  down = λ p q l u e. either p i (λ s. subst (λ v. Upto lt (f q) (f v)) (sym s) (t.all q (under s u) e)) (λ n. h.down p q l u e n);
}
  where
    under : {p q : ℕ} → p ≡ i → Under p q → Under i q
    under s u = omega arith

-- one step of sinking
module _ {A : Type 0} {lt : A → A → Bool} {lo end i c : ℕ} {f g : ℕ → A}
    (h : HeapBut lt lo end i f) (t : Top lt end i c f) (n : c ≡ i → ⊥) (low : lo ≤ i) (e : (k : ℕ) → g k ≡ f (swap i c k)) where
  sunk_down : {p q x y : ℕ} → lo ≤ p → Under p q → q < end → (p ≡ c → ⊥) → Under i c → Swapped i c q x → Swapped i c p y → Upto lt (f x) (f y)
  sunk_down l u b m v (took_first r) (took_first s) = absurd (omega arith)
  sunk_down l u b m v (took_first r) (took_second o s) = absurd (m s)
  sunk_down {p = p} l u b m v (took_first r) (took_none o s) = h.over p c l (omega arith) v t.inside
  sunk_down l u b m v (took_second r q) (took_first s) = t.own
  sunk_down l u b m v (took_second r q) (took_second o s) = absurd (m s)
  sunk_down l u b m v (took_second r q) (took_none o s) = absurd (omega arith)
  sunk_down {q = q} l u b m v (took_none r w) (took_first s) = t.all q (omega arith) b
  sunk_down l u b m v (took_none r w) (took_second o s) = absurd (m s)
  sunk_down {p = p} {q = q} l u b m v (took_none r w) (took_none o s) = h.down p q l u b o

  sunk_over : {p q x y : ℕ} → lo ≤ p → Under p c → Under c q → q < end → Under i c → Swapped i c q x → Swapped i c p y → Upto lt (f x) (f y)
  sunk_over l u w b v (took_first r) y = absurd (omega arith)
  sunk_over l u w b v (took_second r q) y = absurd (omega arith)
  sunk_over {q = q} l u w b v (took_none r q') (took_first s) = h.down c q (omega arith) w b n
  sunk_over l u w b v (took_none r q') (took_second o s) = absurd (omega arith)
  sunk_over l u w b v (took_none r q') (took_none o s) = absurd (omega arith)

  pub sunk : HeapBut lt lo end c g
  sunk = record {
    down = λ p q l u b m. moved lt (e q) (e p) (sunk_down l u b m (t.near n) (swap_view i c q) (swap_view i c p));
    over = λ p q l u w b. moved lt (e q) (e p) (sunk_over l u w b (t.near n) (swap_view i c q) (swap_view i c p));
  }

-- nothing is behind the top
module _ {A : Type 0} {lt : A → A → Bool} (o : Order lt) {end : ℕ} {f : ℕ → A} (h : Heap lt 0 end f) where
  topmost : (b k : ℕ) → k < b → k < end → Upto lt (f k) (f 0)
  topmost zero k l e = absurd (omega arith)
  topmost (suc b) zero l e = upto_self o (f 0)
  topmost (suc b) (suc k) l e =
      o.passes (f (suc k)) (f (k / 2)) (f 0) (h.down (k / 2) (suc k) (omega arith) (omega arith) e) (topmost b (k / 2) (omega arith) (omega arith))

  pub top_first : (k : ℕ) → k < end → Upto lt (f k) (f 0)
  top_first k e = topmost (suc k) k (omega arith) e

-- the top changes places with the last
module _ {A : Type 0} {lt : A → A → Bool} (o : Order lt) {end n : ℕ} {f g : ℕ → A}
    (h : Heap lt 0 (end + 1) f) (d : Done lt (end + 1) n f) (e : (k : ℕ) → g k ≡ f (swap 0 end k)) where
  taken_heap : {p q x y : ℕ} → 1 ≤ p → Under p q → q < end → Swapped 0 end q x → Swapped 0 end p y → Upto lt (f x) (f y)
  taken_heap l u b (took_first r) s = absurd (omega arith)
  taken_heap l u b (took_second r q) s = absurd (omega arith)
  taken_heap l u b (took_none r w) (took_first s) = absurd (omega arith)
  taken_heap l u b (took_none r w) (took_second m s) = absurd (omega arith)
  taken_heap {p = p} {q = q} l u b (took_none r w) (took_none m s) = h.down p q (omega arith) u (omega arith)

  pub heap_taken : Heap lt 1 end g
  heap_taken = record { down = λ p q l u b. moved lt (e q) (e p) (taken_heap l u b (swap_view 0 end q) (swap_view 0 end p)) }

  taken_done : {j k x y : ℕ} → j < k → end ≤ k → k < n → Swapped 0 end j x → Swapped 0 end k y → Upto lt (f x) (f y)
  taken_done l b m (took_first r) (took_first s) = absurd (omega arith)
  taken_done l b m (took_first r) (took_second z s) = top_first o h end (omega arith)
  taken_done {k = k} l b m (took_first r) (took_none z s) = d.placed end k (omega arith) (omega arith) m
  taken_done l b m (took_second r w) (took_first s) = absurd (omega arith)
  taken_done l b m (took_second r w) (took_second z s) = absurd (omega arith)
  taken_done {k = k} l b m (took_second r w) (took_none z s) = d.placed 0 k (omega arith) (omega arith) m
  taken_done {j = j} l b m (took_none r w) (took_first s) = absurd (omega arith)
  taken_done {j = j} l b m (took_none r w) (took_second z s) = top_first o h j (omega arith)
  taken_done {j = j} {k = k} l b m (took_none r w) (took_none z s) = d.placed j k l (omega arith) m

  pub done_taken : Done lt end n g
  done_taken = record { placed = λ j k l b m. moved lt (e j) (e k) (taken_done l b m (swap_view 0 end j) (swap_view 0 end k)) }

-- shuffling what is before leaves the placed ones placed
pub done_shuffled : {A : Type 0} {lt : A → A → Bool} {end n : ℕ} {f g : ℕ → A} → Done lt end n f → Shuffle end g f → Done lt end n g
done_shuffled {lt = lt} {end = end} {f = f} {g = g} d s = record { placed = λ j k l b m. moved lt (s.is j) (s.is k ∙ ap f (s.stays k b)) (d.placed (s.to j) k (below j k l b) b m) }
  where
    below : (j k : ℕ) → j < k → end ≤ k → s.to j < k
    below j k l b =
        by_lt {A = ℕ} (λ v. s.to j < k) j end 0 0
        (λ z. omega (arith, s.within j z))
        (λ z. omega (arith, s.stays j z))

-- the larger of three by two comparisons
pub top_of : {A : Type 0} {lt : A → A → Bool} {end i l c : ℕ} {f : ℕ → A} → Order lt → LargerOf lt end i (2 * i + 1) l f → LargerOf lt end l (2 * i + 2) c f → Top lt end i c f
top_of {lt = lt} {end = end} {i = i} {l = l} {c = c} {f = f} o a b = record {
  inside = b.inside;
  near = λ n. either l i
      (λ e. let z : c ≡ 2 * i + 2 = b.one (λ w. n (w ∙ e)) in omega arith)
      (λ m. let z : l ≡ 2 * i + 1 = a.one m in either c l (λ w. omega arith) (λ w. let y : c ≡ 2 * i + 2 = b.one w in omega arith));
  own = o.passes (f i) (f l) (f c) a.own b.own;
  all = λ q u e. either q (2 * i + 1)
      (λ w. o.passes (f q) (f l) (f c) (moved lt (ap f w) refl (a.new (omega arith))) b.own)
      (λ w. let z : q ≡ 2 * i + 2 = omega arith in moved lt (ap f z) refl (b.new (omega arith)));
}

-- no place has one under it in the second half
pub heap_half : {A : Type 0} {lt : A → A → Bool} (n : ℕ) (f : ℕ → A) → Heap lt (n / 2) n f
heap_half n f = record { down = λ p q l u e. absurd (omega arith) }

pub done_none : {A : Type 0} {lt : A → A → Bool} (n : ℕ) (f : ℕ → A) → Done lt n n f
done_none n f = record { placed = λ j k l b m. absurd (omega arith) }

pub done_all : {A : Type 0} {lt : A → A → Bool} {end n : ℕ} {f : ℕ → A} → end ≤ 1 → Done lt end n f → Done lt 1 n f
done_all h d = record { placed = λ j k l b m. d.placed j k l (omega arith) m }

-- the larger of two
module _ {A : Type 0} {lt : A → A → Bool} (o : Order lt) (end i j : ℕ) (f : ℕ → A) (h : i < end) where
  pub larger_none : end ≤ j → LargerOf lt end i j i f
  larger_none g = record { inside = h; one = λ n. absurd (n refl); own = upto_self o (f i); new = λ l. absurd (omega arith) }

  pub larger_new : j < end → lt (f i) (f j) ≡ true → LargerOf lt end i j j f
  larger_new g e = record { inside = g; one = λ n. refl; own = o.asym (f i) (f j) e; new = λ l. upto_self o (f j) }

  pub larger_old : lt (f i) (f j) ≡ false → LargerOf lt end i j i f
  larger_old e = record { inside = h; one = λ n. absurd (n refl); own = upto_self o (f i); new = λ l. e }

pub heap_all : {A : Type 0} {lt : A → A → Bool} {lo end : ℕ} {f : ℕ → A} → lo ≤ 0 → Heap lt lo end f → Heap lt 0 end f
heap_all h w = record { down = λ p q l u e. w.down p q (omega arith) u e }

-- each before the next
pub order_begin : {A : Type 0} {lt : A → A → Bool} (f : ℕ → A) → Done lt 1 1 f
order_begin f = record { placed = λ j k l b m. absurd (omega arith) }

pub order_next : {A : Type 0} {lt : A → A → Bool} {i : ℕ} {f : ℕ → A} → Order lt → 1 ≤ i → Done lt 1 i f → lt (f (i - 1)) (f i) ≡ true → Done lt 1 (i + 1) f
order_next {lt = lt} {i = i} {f = f} o h d e = record {
  placed = λ j k l b m. either k i
      (λ q. subst (λ v. Upto lt (f j) (f v)) (sym q) (last j (omega arith)))
      (λ n. d.placed j k l b (omega arith));
}
  where
    last : (j : ℕ) → j < i → Upto lt (f j) (f i)
    last j l = either j (i - 1)
        (λ q. subst (λ v. Upto lt (f v) (f i)) (sym q) (o.asym (f (i - 1)) (f i) e))
        (λ n. o.passes (f j) (f (i - 1)) (f i) (d.placed j (i - 1) (omega arith) (omega arith) (omega arith)) (o.asym (f (i - 1)) (f i) e))

pub order_end : {A : Type 0} {lt : A → A → Bool} {i n : ℕ} {f : ℕ → A} → n ≤ i → Done lt 1 i f → Done lt 1 n f
order_end h d = record { placed = λ j k l b m. d.placed j k l b (omega arith) }
