use Prim.Native.Nat.{◌-◌}
use mathlib.Core.Path.{◌≡◌}
use Rattle.whole.specs.Cut.{past_entries}
use Rattle.whole.proofs.pass_entries.Given as goal

abbrev pub invariant-loop : goal.invariant-loop
invariant-loop l = past_entries (l.n - l.counter) l.input l.place ≡ past_entries l.n l.input l.at
