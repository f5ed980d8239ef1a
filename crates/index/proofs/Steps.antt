-- The loops' invariants over the table, and what a turn does to them.
use Prim.Native.Nat.{ℕ, ◌+◌, ◌*◌, ◌-◌, ◌/◌, ◌<◌, ◌≤◌}
use mathlib.Core.Path.{◌≡◌, sym, ap, ◌∙◌, subst}
use mathlib.Core.List.{List}
use native.Mathlib.Omega.{arith}
use lib.ListN.{length}
use Rattle.index.specs.Index.{before}
use Rattle.index.specs.Rows.{nth_row, exchanged}
use Rattle.index.specs.Heap.{swap, Heap, HeapBut, Top, Done, RowsKept}
use Rattle.index.proofs.Heap.{but_from, but_done, sunk, heap_half, heap_taken, done_taken, done_none, done_shuffled, done_all}
use Rattle.index.proofs.Rows.{before_order, row_exchanged, kept_exchanged, kept_none, kept_then, kept_wider}

-- sinking: row i is not in its place yet, c is where it goes
pub record Sinking (s t₀ : List ℕ) (at end : ℕ) (t : List ℕ) (i c : ℕ) : Type 0 where
  pub low : at ≤ i
  pub here : i < end
  pub but : HeapBut (before s) at end i (nth_row t)
  pub top : Top (before s) end i c (nth_row t)
  pub kept : RowsKept end t t₀

module _ {s t₀ : List ℕ} {at end : ℕ} where
  pub sink_begin : {c : ℕ} → at < end → Heap (before s) (at + 1) end (nth_row t₀) → Top (before s) end at c (nth_row t₀) → Sinking s t₀ at end t₀ at c
  sink_begin h p q = record { low = omega arith; here = h; but = but_from p; top = q; kept = kept_none end t₀ }

  pub sink_down : {t : List ℕ} {i c : ℕ} → Sinking s t₀ at end t i c → (c ≡ i → ⊥) → (2 * i + 1 ≤ c) × (c < end)
  sink_down w n = omega (arith, w.top.near n, w.top.inside)

  pub sink_room : {t : List ℕ} {i c : ℕ} → Sinking s t₀ at end t i c → 4 * end ≤ length t₀ → 4 * c + 3 < length t
  sink_room w h = omega (arith, w.kept.long, w.top.inside)

  pub sink_next : {t u : List ℕ} {i c d : ℕ} → Sinking s t₀ at end t i c → (c ≡ i → ⊥) → 4 * end ≤ length t₀ → u ≡ exchanged t i c → Top (before s) end c d (nth_row u) → Sinking s t₀ at end u c d
  sink_next {t} {u} {i} {c} w n h e q =
      let l = sink_down w n in
      let d : i < c = omega (arith, l) in
      let r = sink_room w h in
      record {
        low = omega (arith, w.low);
        here = l.1;
        but = sunk w.but w.top n w.low (λ k. ap (λ (v : List ℕ). nth_row v k) e ∙ row_exchanged t i c d r k);
        top = q;
        kept = kept_then (subst (λ (v : List ℕ). RowsKept end v t) (sym e) (kept_exchanged t i c d r end l.1)) w.kept;
      }

  pub sink_end : {t : List ℕ} {i c : ℕ} → Sinking s t₀ at end t i c → c ≡ i → Heap (before s) at end (nth_row t)
  sink_end {t} {i} {c} w e = but_done w.but (subst (λ (v : ℕ). Top (before s) end i v (nth_row t)) e w.top)

-- making a heap from behind
pub record Heaping (s t₀ : List ℕ) (n : ℕ) (t : List ℕ) (lo : ℕ) : Type 0 where
  pub low : 2 * lo ≤ n
  pub heap : Heap (before s) lo n (nth_row t)
  pub kept : RowsKept n t t₀

pub heap_begin : (s t : List ℕ) (n : ℕ) → Heaping s t n t (n / 2)
heap_begin s t n = record { low = omega arith; heap = heap_half n (nth_row t); kept = kept_none n t }

pub heap_next : {s t₀ t u : List ℕ} {n lo : ℕ} → Heaping s t₀ n t (lo + 1) → Heap (before s) lo n (nth_row u) → RowsKept n u t → Heaping s t₀ n u lo
heap_next w h k = record { low = omega (arith, w.low); heap = h; kept = kept_then k w.kept }

-- taking out of the heap
pub record Settling (s t₀ : List ℕ) (n : ℕ) (t : List ℕ) (end : ℕ) : Type 0 where
  pub low : end ≤ n
  pub heap : Heap (before s) 0 end (nth_row t)
  pub done : Done (before s) end n (nth_row t)
  pub kept : RowsKept n t t₀

pub settle_begin : {s t : List ℕ} {n : ℕ} → Heap (before s) 0 n (nth_row t) → Settling s t n t n
settle_begin {s} {t} {n} h = record { low = omega arith; heap = h; done = done_none n (nth_row t); kept = kept_none n t }

module _ {s t₀ t u : List ℕ} {n end : ℕ} (w : Settling s t₀ n t (end + 1)) (p : 1 ≤ end) (h : 4 * n ≤ length t₀) (e : u ≡ exchanged t 0 end) where
  pub settle_room : 4 * end + 3 < length t
  settle_room = omega (arith, w.low, w.kept.long)

  moves : (k : ℕ) → nth_row u k ≡ nth_row t (swap 0 end k)
  moves k = ap (λ (v : List ℕ). nth_row v k) e ∙ row_exchanged t 0 end p settle_room k

  pub settle_heap : Heap (before s) 1 end (nth_row u)
  settle_heap = heap_taken (before_order s) w.heap w.done moves

  pub settle_kept : RowsKept n u t₀
  settle_kept = kept_then (subst (λ (v : List ℕ). RowsKept n v t) (sym e) (kept_exchanged t 0 end p settle_room n (omega (arith, w.low)))) w.kept

  pub settle_next : {v : List ℕ} → Heap (before s) 0 end (nth_row v) → RowsKept end v u → Settling s t₀ n v end
  settle_next g k = record {
    low = omega (arith, w.low);
    heap = g;
    done = done_shuffled (done_taken (before_order s) w.heap w.done moves) k.rows;
    kept = kept_then (kept_wider (omega (arith, w.low)) k) settle_kept;
  }

pub settle_end : {s t₀ t : List ℕ} {n end : ℕ} → Settling s t₀ n t end → end ≤ 1 → Done (before s) 1 n (nth_row t)
settle_end w h = done_all h w.done

-- counting down
less_one : (m : ℕ) → 0 < m → m ≡ m - 1 + 1
less_one m h = omega arith

pub heap_before : {s t₀ t : List ℕ} {n m : ℕ} → 0 < m → Heaping s t₀ n t m → Heaping s t₀ n t (m - 1 + 1)
heap_before {s} {t₀} {t} {n} {m} h w = subst (λ (k : ℕ). Heaping s t₀ n t k) (less_one m h) w

pub settle_before : {s t₀ t : List ℕ} {n m : ℕ} → 1 < m → Settling s t₀ n t m → Settling s t₀ n t (m - 1 + 1)
settle_before {s} {t₀} {t} {n} {m} h w = subst (λ (k : ℕ). Settling s t₀ n t k) (less_one m (omega arith)) w
