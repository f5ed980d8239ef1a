-- rule: the order of names, by document 02's Q-6.
use Rattle.std.specs.Prelude.{ℕ, List, [], ◌∷◌, Bool, true, false, cond, ltb, eqb}
use Rattle.std.specs.declared.cmp.Ordering.{Ordering}
use Rattle.std.specs.declared.cmp.Ordering.TheVariants.{Less, Equal, Greater}

-- byte by byte; a beginning comes before the longer one
unfoldable pub lower : List ℕ → List ℕ → Bool
lower x [] = false
lower [] (b ∷ l) = true
lower (a ∷ k) (b ∷ l) = cond (ltb a b) true (cond (eqb a b) (lower k l) false)

-- the first of two names is less, greater, or they are the same
unfoldable pub compared : List ℕ → List ℕ → Ordering
compared x y = cond (lower x y) Less (cond (lower y x) Greater Equal)
