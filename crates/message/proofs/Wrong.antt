-- What the contracts rule out: each wrong reading of docs/WRONG-READINGS.md that is told here is an outcome that the definition does not allow, at a small input.
use mathlib.Core.Path.{◌≡◌, ap}
use mathlib.Core.List.{[], ◌∷◌}
use Prim.Native.Nat.{ℕ}
use native.Mathlib.Omega.{arith}
use Rattle.std.specs.Prelude.{Ok, Err}
use Rattle.refusals.specs.Answers.{reads_as}
use Rattle.refusals.specs.Read.{then}
use Rattle.refusals.specs.declared.Fault.{Fault}
use Rattle.refusals.proofs.Codes.{place_behind}
use Rattle.octet_string.specs.Optional.{absent_at, optional}
use Rattle.message.specs.Messages.{list_end_at}
use Rattle.message.specs.Answers.{list_end}
use Rattle.message.specs.declared.GetListResponseEnd.{GetListResponseEnd}

-- 01 01: both fields are absent, a byte each
list_end_of_one_byte : (e : GetListResponseEnd) → reads_as list_end (Ok (e, 1)) ≡ list_end_at (0x01 ∷ 0x01 ∷ []) 0 → ⊥
unfolding then optional absent_at list_end_at
list_end_of_one_byte e h = let n : ◌≡◌ {A = ℕ} 1 2 = ap place_behind h in omega (arith, n)

-- and neither is wanted
list_end_without_signature_refused : (f : Fault) → reads_as list_end (Err f) ≡ list_end_at (0x01 ∷ 0x01 ∷ []) 0 → ⊥
unfolding then optional absent_at list_end_at
list_end_without_signature_refused f h = let n : ◌≡◌ {A = ℕ} 0 2 = ap place_behind h in omega (arith, n)
