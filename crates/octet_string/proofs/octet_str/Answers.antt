use Prim.Native.Nat.{ℕ, ◌+◌, ◌≤◌}
use mathlib.Core.Path.{ap, sym, ◌∙◌}
use native.Mathlib.Nat.{add-sub_cancel_left}
use lib.ListN.{length, take, drop}
use Rattle.decided.specs.Part.{handed}
use Rattle.decided.proofs.Parts.{handed_is}
use Rattle.octet_string.specs.Strings.{part_of, part_start}
use Rattle.octet_string.proofs.Strings.{within_end}
use borrow.Author.Rules.{rules}
use Rattle.octet_string.proofs.octet_str.Goals as goal

pub overflow_add-result : goal.overflow_add-result
overflow_add-result c =
    let fits : c.args.span.start + c.args.span.len ≤ length c.args.input.now =
    let a = c.args in
    within_end a.input.now a.span (sym c.is_within.ensures ∙ c.if-is_within.true) in
    let h = fits in search rules

pub slice_bounds-result-end : goal.slice_bounds-result-end
slice_bounds-result-end c =
    let fits : c.args.span.start + c.args.span.len ≤ length c.args.input.now =
    let a = c.args in
    within_end a.input.now a.span (sym c.is_within.ensures ∙ c.if-is_within.true) in
    let h = fits in search rules

pub returns-then-is_within : goal.returns-then-is_within
unfolding part_of part_start
returns-then-is_within c =
    let a = c.args in
    handed_is _ (handed a.input) (part_start a.input.now a.span) (part_of a.input.now a.span)
    (search rules)
    (rw (← c.is_within.ensures, c.if-is_within.true) (search rules))
    (rw (← c.is_within.ensures, c.if-is_within.true)
    (ap (λ (k : ℕ). take k (drop a.span.start a.input.now)) (add-sub_cancel_left a.span.start a.span.len)))

pub returns-else-is_within : goal.returns-else-is_within
unfolding part_of part_start
returns-else-is_within c =
    let a = c.args in
    handed_is _ (handed a.input) (part_start a.input.now a.span) (part_of a.input.now a.span)
    (search rules)
    (rw (← c.is_within.ensures, c.if-is_within.false) (search rules))
    (rw (← c.is_within.ensures, c.if-is_within.false))
