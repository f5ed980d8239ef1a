use mathlib.Core.Path.{sym, ◌∙◌}
use Prim.Native.Nat.{◌+◌, ◌≤◌}
use native.Mathlib.Omega.{arith}
use lib.ListN.{length}
use borrow.Author.Tests.{leb-true, le-leb}
use Rattle.common.specs.Answers.{list_entry}
use Rattle.streaming.specs.Meaning.{entry_means}
use Rattle.writer.specs.Fields.{write_entry}
use Rattle.writer.proofs.Puts.{cap_within}
use Rattle.writer.proofs.Bounds.{entry_bound}
use Rattle.writer.proofs.entry_fits.Goals as goal

pub returns-then-short_entry : goal.returns-then-short_entry
returns-then-short_entry c =
    let a = c.args in
    let bound = entry_bound a.strings.now (list_entry a.x) (sym c.short_entry.ensures ∙ c.if-short_entry.true) in
    let left = leb-true (a.place + 512) a.len (sym c.fits.ensures ∙ c.if-fits.true) in
    let inside : a.place + length (write_entry (entry_means a.strings.now (list_entry a.x))) ≤ a.len = omega arith in
    sym (le-leb _ _ inside)

pub returns : goal.returns
returns c = rw (c.put_entry.ensures.puts (omega (arith, c.ranges.place.fits))).place (cap_within _ _ (omega arith))
