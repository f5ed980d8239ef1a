-- Where the input has ended, a length field answers 10.
use mathlib.Core.Path.{◌≡◌}
use mathlib.Core.List.{List}
use Prim.Native.Nat.{ℕ, ◌≤◌}
use lib.ListN.{length}
use borrow.Author.Tests.{le-ltb}
use Rattle.refusals.specs.Read.{refused, then, guard, eof, byte_at}
use Rattle.tlf.specs.Lengths.{tlf_at, list_of_at}

pub tlf_end : (s : List ℕ) (at : ℕ) → length s ≤ at → tlf_at s at ≡ refused (eof (length s))
unfolding tlf_at byte_at then guard
tlf_end s at h = rw (le-ltb at (length s) h)

pub list_of_end : (n : ℕ) (s : List ℕ) (at : ℕ) → length s ≤ at → list_of_at n s at ≡ refused (eof (length s))
unfolding list_of_at then
list_of_end n s at h = rw (tlf_end s at h)
