-- Where the input has ended, a number answers 10.
use mathlib.Core.Path.{◌≡◌}
use mathlib.Core.List.{List}
use Prim.Native.Nat.{ℕ, ◌≤◌}
use lib.ListN.{length}
use Rattle.refusals.specs.Read.{refused, then, eof}
use Rattle.tlf.proofs.Ends.{tlf_end}
use Rattle.numbers.specs.Numbers.{raw_at, unsigned_at}

pub unsigned_end : (width : ℕ) (s : List ℕ) (at : ℕ) → length s ≤ at → unsigned_at width s at ≡ refused (eof (length s))
unfolding unsigned_at raw_at then
unsigned_end width s at h = rw (tlf_end s at h)
