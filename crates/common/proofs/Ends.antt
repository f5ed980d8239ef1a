-- Where the input has ended, an entry answers 10.
use mathlib.Core.Path.{◌≡◌}
use mathlib.Core.List.{List}
use Prim.Native.Nat.{ℕ, ◌≤◌}
use lib.ListN.{length}
use Rattle.refusals.specs.Read.{refused, then, eof}
use Rattle.tlf.proofs.Ends.{list_of_end}
use Rattle.common.specs.Fields.{entry_at}

pub entry_end : (s : List ℕ) (at : ℕ) → length s ≤ at → entry_at s at ≡ refused (eof (length s))
unfolding entry_at then
entry_end s at h = rw (list_of_end 7 s at h)
