-- Where the input has ended, a string answers 10, and so does an optional field whose own reading does.
use mathlib.Core.Path.{◌≡◌}
use mathlib.Core.List.{List}
use Prim.Native.Nat.{ℕ, ◌≤◌}
use lib.ListN.{length}
use borrow.Author.Tests.{le-ltb}
use Rattle.refusals.specs.Read.{Read, refused, then, eof}
use Rattle.tlf.proofs.Ends.{tlf_end}
use Rattle.octet_string.specs.Strings.{octets_at}
use Rattle.octet_string.specs.Optional.{absent_at, optional}

pub octets_end : (s : List ℕ) (at : ℕ) → length s ≤ at → octets_at s at ≡ refused (eof (length s))
unfolding octets_at then
octets_end s at h = rw (tlf_end s at h)

pub optional_end : {A : Type 0} (read : List ℕ → ℕ → Read A) (s : List ℕ) (at : ℕ) → length s ≤ at → read s at ≡ refused (eof (length s))
    → optional read s at ≡ refused (eof (length s))
unfolding optional absent_at then
optional_end read s at h e = rw (le-ltb at (length s) h, e)
