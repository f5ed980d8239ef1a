-- A test is true or false, and of two numbers the first is at most the second or not.
use mathlib.Core.Path.{◌≡◌, refl}
use mathlib.Core.Bool.{Bool, true, false}
use Prim.Native.Nat.{ℕ, ◌≤◌, ◌<◌}
use Rattle.frame.proofs.Cases.{by_le}

pub cases : {G : Type 0} (t : Bool) → (t ≡ true → G) → (t ≡ false → G) → G
cases true f g = f refl
cases false f g = g refl

pub split : {G : Type 0} (a b : ℕ) → (a ≤ b → G) → (b < a → G) → G
split {G} a b f g = by_le {A = ℕ} (λ u. G) a b 0 0 f g
