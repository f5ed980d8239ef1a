-- Tests of a definition from facts of the code that say the same in other words.
use Prim.Native.Nat.{ℕ, zero, suc, ◌+◌, ◌-◌, ◌%◌, ◌<◌, ◌≤◌}
use mathlib.Core.Path.{◌≡◌, refl}
use mathlib.Core.List.{List, [], ◌∷◌}
use lib.ListN.{take, drop}
use Rattle.decoder.proofs.Same.{same_pointwise}
use lib.Pointwise.{pointwise}
use Rattle.decoder.specs.Push.{early}
use mathlib.Core.Bool.{Bool, true, false, cond}
use native.Mathlib.Omega.{arith}
use borrow.Author.Tests.{le-leb, lt-leb, leb-true}
use Rattle.decoder.specs.Cut.{sound}
use lib.Dec.{leb, eqb}

pub lt_room : (a b : ℕ) → a < b → leb (a + 1) b ≡ true
lt_room a b h = le-leb (a + 1) b (omega arith)

pub le_room : (a b : ℕ) → b ≤ a → leb (a + 1) b ≡ false
le_room a b h = lt-leb (a + 1) b (omega arith)

pub lt_room_left : (a k b : ℕ) → k < b - a → leb (a + (k + 1)) b ≡ true
lt_room_left a k b h = le-leb (a + (k + 1)) b (omega arith)

pub le_room_left : (a k b : ℕ) → b - a ≤ k → leb (a + (k + 1)) b ≡ false
le_room_left a k b h = lt-leb (a + (k + 1)) b (omega arith)

-- the last of four tests, each under the one before
pub last_of_four : (a b c d : Bool) → cond a (cond b (cond c d false) false) false ≡ true → d ≡ true
last_of_four true true true d e = e
last_of_four true true false d e = cc
last_of_four true false c d e = cc
last_of_four false b c d e = cc

pub sound_room : (f read computed p : ℕ) → sound f read computed p ≡ true → p + 4 ≤ f
unfolding sound
sound_room f read computed p e = leb-true (p + 4) f (last_of_four (eqb read computed) (eqb (f % 4) 0) (leb p 3) (leb (p + 4) f) e)

-- the cut end is compared with the last bytes of 1b1b1b1a
pub early_cut : (a : ℕ) (q : List ℕ) → a ≤ 3 → (a ≡ 0 → ⊥)
    → pointwise eqb (take (a + 1) q) (take (4 - (3 - a)) (drop (3 - a) (0x1b ∷ 0x1b ∷ 0x1b ∷ 0x1a ∷ []))) ≡ early a q
early_cut zero q h ne = absurd (ne refl)
early_cut (suc zero) q h ne = same_pointwise _ _
early_cut (suc (suc zero)) q h ne = same_pointwise _ _
early_cut (suc (suc (suc zero))) q h ne = same_pointwise _ _
early_cut (suc (suc (suc (suc a)))) q h ne = absurd (omega arith)
