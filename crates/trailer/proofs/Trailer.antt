-- Where the readings of an end byte and of a trailer end.
use mathlib.Core.List.{List}
use Prim.Native.Nat.{ℕ}
use native.Mathlib.Omega.{arith}
use Rattle.refusals.proofs.Read.{Ok, ok_guard, ok_weak, byte_ok}
use Rattle.refusals.proofs.Found.{Found, Any, from, on, found}
use Rattle.numbers.proofs.Ahead.{unsigned_found}
use Rattle.trailer.specs.Trailer.{message_end_at, trailer_at}

pub message_end_found : (s : List ℕ) (at : ℕ) → Ok (Found Any s at) (message_end_at s at)
unfolding message_end_at
message_end_found s at =
    from s at (ok_weak {Q = Found Any s at} (λ b n h. (tt, h.2)) (byte_ok s at)) (λ b n h p q. ok_guard _ _ _ (λ e. found s at _ n tt p q))

pub trailer_found : (s : List ℕ) (start at : ℕ) → Ok (Found Any s at) (trailer_at s start at)
unfolding trailer_at
trailer_found s start at =
    from s at (unsigned_found 2 s at) (λ crc n₁ h₁ p₁ q₁.
    on s at n₁ (message_end_found s n₁) (omega arith) (λ end n₂ h₂ p₂ q₂. ok_guard _ _ _ (λ e.
    found s at _ n₂ tt p₂ q₂)))
