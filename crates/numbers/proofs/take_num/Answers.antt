use Prim.Native.Nat.{◌-◌, ◌≤◌}
use mathlib.Core.Path.{◌≡◌}
use native.Mathlib.Omega.{arith}
use lib.ListN.{length}
use Rattle.refusals.proofs.Read.{ok_at, span_ok}
use Rattle.numbers.proofs.Numbers.{raw_got}
use borrow.Author.Rules.{rules}
use Rattle.numbers.proofs.take_num.Goals as goal

pub slice_bounds-from_be_bytes-count : goal.slice_bounds-from_be_bytes-count
slice_bounds-from_be_bytes-count c = let i = ok_at c.in_ok-next.ensures (span_ok _ _ _) in omega (arith, i.next_is)

pub slice_bounds-from_be_bytes-start : goal.slice_bounds-from_be_bytes-start
slice_bounds-from_be_bytes-start c =
    let i = ok_at c.in_ok-next.ensures (span_ok _ _ _) in
    let h : c.args.at ≤ length c.args.input.now = omega (arith, i.next_is, i.within) in
    search rules

pub slice_bounds-from_be_bytes-end : goal.slice_bounds-from_be_bytes-end
slice_bounds-from_be_bytes-end c =
    let i = ok_at c.in_ok-next.ensures (span_ok _ _ _) in
    let h : c.in_ok-next.next ≤ length c.args.input.now = i.within in
    let k : c.args.at ≤ c.in_ok-next.next = omega (arith, i.next_is) in
    search rules

pub from_be_bytes-value-requires : goal.from_be_bytes-value-requires
from_be_bytes-value-requires c =
    let i = ok_at c.in_ok-next.ensures (span_ok _ _ _) in
    let h : c.in_ok-next.next ≤ length c.args.input.now = i.within in
    let k : c.in_ok-next.next - c.args.at ≡ c.args.len = omega (arith, i.next_is) in
    search rules

pub returns : goal.returns
returns c =
    let i = ok_at c.in_ok-next.ensures (span_ok _ _ _) in
    let k : c.in_ok-next.next - c.args.at ≡ c.args.len = omega (arith, i.next_is) in
    rw (c.from_be_bytes-value.ensures, k) (raw_got c.args.input.now c.args.at c.args.len c.in_ok-next.ensures)
