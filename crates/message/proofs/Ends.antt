-- Where the input has ended, a list's end answers 10.
use mathlib.Core.Path.{◌≡◌}
use mathlib.Core.List.{List}
use Prim.Native.Nat.{ℕ, ◌≤◌}
use lib.ListN.{length}
use Rattle.refusals.specs.Read.{refused, then, eof}
use Rattle.octet_string.specs.Strings.{octets_at}
use Rattle.octet_string.proofs.Ends.{octets_end, optional_end}
use Rattle.message.specs.Messages.{list_end_at}

pub list_end_end : (s : List ℕ) (at : ℕ) → length s ≤ at → list_end_at s at ≡ refused (eof (length s))
unfolding list_end_at then
list_end_end s at h = rw (optional_end octets_at s at h (octets_end s at h))
