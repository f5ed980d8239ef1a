-- cut: a lookup's turn at a row.
use Rattle.std.specs.Prelude.{List, ℕ, Bool, cond, ◌&&◌}
use Rattle.std.proofs.Math.Option.{Option, some, none}
use Rattle.whole.specs.Whole.{EntryRow}
use Rattle.index.specs.Index.{before, row_within}

-- it lies within the input, and behind the row before it
unfoldable pub sound_at : List ℕ → Option EntryRow → EntryRow → Bool
sound_at s none r = row_within s r
sound_at s (some q) r = row_within s r && before s q r

-- the first of what was found and this row
unfoldable pub sought_at : (EntryRow → Bool) → Option EntryRow → EntryRow → Option EntryRow
sought_at p (some q) r = some q
sought_at p none r = cond (p r) (some r) none
