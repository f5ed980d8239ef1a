-- cut: what the short way of a push has looked at before it stores a byte over the bytes in place.
use Rattle.std.specs.Prelude.{◌≡◌, Bool, true, false, cond, List, [], ◌∷◌, ℕ, suc, ◌+◌, ◌<◌, ◌≤◌, length, eqb}
use Rattle.std.proofs.lemmas.List.Edits.{sets}
use Rattle.refusals.specs.Numbers.{limit}
use Rattle.decoder.specs.Push.{stopped}
use Rattle.packed.specs.Layout.{low_first, number_at_claim}

-- ParsingNormal, no small count, the first or the second way, 0, in one number
unfoldable pub normal_head : ℕ → Bool
normal_head h = cond (eqb h 0x10001) true (eqb h 0x20001)

-- and 0 in all that such a record doesn't use
unfoldable pub normal_in : List ℕ → Bool
normal_in l = cond (normal_head (number_at_claim l 0 4)) (cond (eqb (number_at_claim l 6 2) 0) (eqb (number_at_claim l 20 4) 0) false) false

-- beside it counts that a push leaves, the buffer of that capacity, and a byte that is no 1b and has room
pub record PlainIn (l : List ℕ) (lent b : ℕ) : Type 0 where
  pub long : 28 ≤ length l
  pub normal : normal_in l ≡ true
  pub byte : b ≡ 0x1b → ⊥
  pub room : number_at_claim l 8 4 < lent
  pub index : number_at_claim l 12 4 ≤ number_at_claim l 8 4
  pub raw : 8 ≤ number_at_claim l 16 4
  pub capacity : lent ≡ number_at_claim l 24 4
  pub small : lent ≤ limit

-- one byte more stored, and one more counted
unfoldable pub plain_bytes : List ℕ → List ℕ
plain_bytes l = sets (sets l 8 (low_first 4 (number_at_claim l 8 4 + 1))) 16 (low_first 4 (stopped (suc (number_at_claim l 16 4))))

unfoldable pub plain_memory : List ℕ → List ℕ → ℕ → List ℕ
plain_memory l m b = sets m (number_at_claim l 8 4) (b ∷ [])
