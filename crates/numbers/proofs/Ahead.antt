-- Where a number's reading ends, whatever its bytes are.
use mathlib.Core.List.{List}
use mathlib.Core.Bool.{Bool}
use Prim.Native.Nat.{ℕ, ◌≤◌}
use native.Mathlib.Omega.{arith}
use lib.ListN.{length}
use Rattle.refusals.proofs.Read.{Ok, ok_got, ok_then, ok_guard, span_ok}
use Rattle.refusals.proofs.Found.{Found, Any, any, from, found}
use Rattle.tlf.proofs.Lengths.{tlf_ok}
use Rattle.numbers.specs.Numbers.{bytes_at_claim, raw_from, raw_at, unsigned_at, signed_at, bool_at}
use Rattle.numbers.proofs.Numbers.{bool_ok}

bytes_end : (s : List ℕ) (at n : ℕ) → Ok (λ v next. (at ≤ next) × (next ≤ length s)) (bytes_at_claim s at n)
unfolding bytes_at_claim
bytes_end s at n = ok_then _ _ (span_ok s at n) (λ p next i. ok_got _ _ (omega (arith, i.next_is), i.within))

raw_found : (signed : Bool) (width : ℕ) (s : List ℕ) (at : ℕ) → Ok (Found Any s at) (raw_at signed width s at)
unfolding raw_at raw_from
raw_found signed width s at =
    from s at (any (tlf_ok s at)) (λ t n h p q. ok_guard _ _ _ (λ e.
    ok_then _ _ (bytes_end s n t.len) (λ v end b. found s at _ end tt (omega (arith, p, b.0)) b.1)))

pub unsigned_found : (width : ℕ) (s : List ℕ) (at : ℕ) → Ok (Found Any s at) (unsigned_at width s at)
unfolding unsigned_at
unsigned_found width s at = from s at (raw_found _ width s at) (λ r n h p q. found s at _ n tt p q)

pub signed_found : (width : ℕ) (s : List ℕ) (at : ℕ) → Ok (Found Any s at) (signed_at width s at)
unfolding signed_at
signed_found width s at = from s at (raw_found _ width s at) (λ r n h p q. found s at _ n tt p q)

pub bool_found : (s : List ℕ) (at : ℕ) → Ok (Found Any s at) (bool_at s at)
bool_found s at = any (bool_ok s at)
