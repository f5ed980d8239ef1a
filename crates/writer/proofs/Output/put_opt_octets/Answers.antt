use mathlib.Core.Path.{sym, ap, ◌∙◌}
use lib.ListN.{length}
use borrow.Author.Tests.{eqb-true}
use Rattle.writer.specs.Fields.{write_optional}
use Rattle.writer.proofs.Numbers.{present_none}
use Rattle.writer.proofs.Sums.{handed_bytes}
use Rattle.writer.proofs.Puts.{adds_as, adds_then}
use Rattle.writer.proofs.Output.put_opt_octets.Goals as goal

pub returns-then-is_empty : goal.returns-then-is_empty
unfolding write_optional
returns-then-is_empty c =
    let part = handed_bytes c.octet_str.ensures in
    let none = eqb-true _ _ (sym c.is_empty.ensures ∙ c.if-is_empty.true) in
    rw c.in-Some.is (adds_as (present_none _ (sym (ap length part) ∙ none)) (adds_then _ _ c.put_next-then-is_empty.ensures c.put_next-then-is_empty-2.ensures))
