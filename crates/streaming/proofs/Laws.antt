-- The step at an entry.
use mathlib.Core.Path.{◌≡◌}
use mathlib.Core.List.{List}
use Prim.Native.Nat.{ℕ, zero, suc, ◌-◌, ◌≤◌}
use native.Mathlib.Omega.{arith}
use Rattle.streaming.specs.Next.{step_at, entry_next}

pub step_more : (s : List ℕ) (at start pending : ℕ) → 3 ≤ pending → step_at s at start pending ≡ entry_next s at start (pending - 1)
unfolding step_at
step_more s at start zero h = absurd (omega arith)
step_more s at start (suc zero) h = absurd (omega arith)
step_more s at start (suc (suc zero)) h = absurd (omega arith)
step_more s at start (suc (suc (suc k))) h = let e : suc (suc (suc k)) - 1 ≡ suc (suc k) = omega arith in rw e
