-- An element takes at least a byte and ends within the input, and has no more leaves than bytes; and single steps of its reading, as the code takes them.
use mathlib.Core.Path.{◌≡◌, refl}
use mathlib.Core.List.{List}
use mathlib.Core.Option.{Option, some, none}
use Prim.Native.Nat.{ℕ, zero, suc, ◌+◌, ◌-◌, ◌≤◌, ◌<◌}
use native.Mathlib.Omega.{arith}
use lib.ListN.{length}
use Rattle.refusals.specs.Read.{Read, got, then, need}
use Rattle.refusals.proofs.Read.{Ok, ok_got, ok_then, ok_weak, Ahead}
use Rattle.walk.specs.Walk.{Item, end_mark, leaf, list_item}
use Rattle.walk.specs.Cut.{elements_at, behind_item, element_by, element_at}
use Rattle.walk.proofs.Items.{item_ok}

-- where `j` of `k` elements are read, one is read next, or none is left
pub row_more : (read : ℕ → Read ℕ) (k j sum n : ℕ) → j < k → elements_at read (k - j) sum n ≡ then (read n) λ a m. elements_at read (k - (j + 1)) (sum + a) m
unfolding elements_at
row_more read k j sum n h = let e : k - j ≡ suc (k - (j + 1)) = omega arith in rw e

pub row_none : (read : ℕ → Read ℕ) (k j sum n : ℕ) → k ≤ j → elements_at read (k - j) sum n ≡ got sum n
unfolding elements_at
row_none read k j sum n h = let e : k - j ≡ zero = omega arith in rw e

-- an element from `at` to `n` of `a` leaves
pub record CountsLeaves (s : List ℕ) (at a n : ℕ) : Type 0 where
  pub ahead : at < n
  pub within : n ≤ length s
  pub leaves : at + a ≤ n

pub row_ok : (s : List ℕ) (read : ℕ → Read ℕ) → ((at : ℕ) → Ok (CountsLeaves s at) (read at)) → (k sum at : ℕ) → at ≤ length s → Ok (λ a n. (at + a ≤ n + sum) × (at ≤ n) × (n ≤ length s)) (elements_at read k sum at)
unfolding elements_at
row_ok s read h zero sum at p = ok_got _ _ (omega arith)
row_ok s read h (suc k) sum at p =
    ok_then _ _ (h at) (λ a n (q : CountsLeaves s at a n).
    ok_weak (λ b m (r : (n + b ≤ m + (sum + a)) × (n ≤ m) × (m ≤ length s)). omega (arith, q.ahead, q.leaves)) (row_ok s read h k (sum + a) n q.within))

behind_ok : (s : List ℕ) (at n : ℕ) (o : Option (ℕ → Read ℕ)) (i : Item) → Ahead s at n → ((read : ℕ → Read ℕ) → o ≡ some read → (m : ℕ) → Ok (CountsLeaves s m) (read m)) → Ok (CountsLeaves s at) (behind_item o at i n)
unfolding behind_item need
behind_ok s at n o end_mark a h = ok_got _ _ (record { ahead = a.ahead; within = a.within; leaves = omega (arith, a.ahead) })
behind_ok s at n o (leaf ty content) a h = ok_got _ _ (record { ahead = a.ahead; within = a.within; leaves = omega (arith, a.ahead) })
behind_ok s at n none (list_item k) a h = record { holds = tt }
behind_ok s at n (some read) (list_item k) a h =
    ok_weak (λ b m (r : (n + b ≤ m + 0) × (n ≤ m) × (m ≤ length s)). record { ahead = omega (arith, a.ahead); within = r.2; leaves = omega (arith, a.ahead) })
    (row_ok s read (h read refl) k 0 n a.within)

by_ok : (s : List ℕ) (at : ℕ) (o : Option (ℕ → Read ℕ)) → ((read : ℕ → Read ℕ) → o ≡ some read → (m : ℕ) → Ok (CountsLeaves s m) (read m)) → Ok (CountsLeaves s at) (element_by o s at)
unfolding element_by
by_ok s at o h = ok_then _ _ (item_ok s at) (λ i n a. behind_ok s at n o i a h)

pub element_ok : (d : ℕ) (s : List ℕ) (at : ℕ) → Ok (CountsLeaves s at) (element_at d s at)
unfolding element_at
element_ok zero s at = by_ok s at none (λ read e m. let z : ◌≡◌ {A = ℕ} 0 1 = cc in absurd (omega arith))
element_ok (suc d) s at = by_ok s at (some (element_at d s)) (λ read e m. let f : element_at d s ≡ read = cc in rw f at (element_ok d s m))
