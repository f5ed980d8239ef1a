use mathlib.Core.Path.{sym, ap, ◌∙◌}
use lib.ListN.{length}
use borrow.Author.Tests.{eqb-true, eqb-false}
use Rattle.writer.proofs.Sums.{handed_bytes, sum_empty, sum_present, sum_absent}
use Rattle.writer.proofs.sum_opt_octets.Goals as goal

pub returns-in_default : goal.returns-in_default
returns-in_default c = rw (c.in_default.is, c.update_byte.ensures) (sum_absent _)

pub returns-then-is_empty : goal.returns-then-is_empty
returns-then-is_empty c =
    let none = eqb-true _ _ (sym c.is_empty.ensures ∙ c.if-is_empty.true) in
    rw (c.in-Some.is, c.update_byte-then-is_empty-2.ensures, c.update_byte-then-is_empty.ensures) (sum_empty _ _ (sym (ap length (handed_bytes c.octet_str.ensures)) ∙ none))

pub returns : goal.returns
returns c =
    let some = eqb-false _ _ (sym c.is_empty.ensures ∙ c.if-is_empty.false) in
    rw (c.in-Some.is, c.sum_octets.ensures) (sum_present _ _ (λ e. some (ap length (handed_bytes c.octet_str.ensures) ∙ e)))
