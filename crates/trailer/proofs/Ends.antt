-- Where the input has ended, a trailer answers 10.
use mathlib.Core.Path.{◌≡◌}
use mathlib.Core.List.{List}
use Prim.Native.Nat.{ℕ, ◌≤◌}
use lib.ListN.{length}
use Rattle.refusals.specs.Read.{refused, then, eof}
use Rattle.numbers.proofs.Ends.{unsigned_end}
use Rattle.trailer.specs.Trailer.{trailer_at}

pub trailer_end : (s : List ℕ) (start at : ℕ) → length s ≤ at → trailer_at s start at ≡ refused (eof (length s))
unfolding trailer_at then
trailer_end s start at h = rw (unsigned_end 2 s at h)
