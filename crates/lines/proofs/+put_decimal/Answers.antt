use Rattle.std.proofs.Common.{◌≡◌, ◌+◌, ◌≤◌, ap, length, arith, rules}
use Rattle.lines.specs.Lines.{decimal}
use Rattle.lines.proofs.Laws.{decimal_one, decimal_room, decimal_alone, decimal_last}
use Rattle.lines.proofs.+put_decimal.Goals as goal

pub bounds-out-at : goal.bounds-out-at
bounds-out-at t c =
    let l : length (decimal c.args.n) ≡ 1 = ap length (decimal_one c.args.n c.if-n-lt10.true) in
    omega (arith, l, c.requires)

pub returns-then-n-lt10 : goal.returns-then-n-lt10
returns-then-n-lt10 t c =
    let a = c.args in
    decimal_alone a.out.now a.at a.n _ c.if-n-lt10.true c.digit_of.ensures

pub put_decimal-last-requires : goal.put_decimal-last-requires
put_decimal-last-requires t c =
    let a = c.args in
    (search rules, omega (arith, decimal_room a.n a.at _ c.if-n-lt10.false c.ranges.n.fits c.requires))

pub bounds-out-last : goal.bounds-out-last
bounds-out-last t c =
    let a = c.args in
    let k = c.put_decimal-last in
    let s : length k.new.out ≡ length a.out.now = search rules in
    omega (arith, s, k.ensures.1, decimal_room a.n a.at _ c.if-n-lt10.false c.ranges.n.fits c.requires)

pub overflow_add-result-2 : goal.overflow_add-result-2
overflow_add-result-2 t c =
    let a = c.args in
    let k = c.put_decimal-last in
    let r : k.result + 1 ≤ length a.out.now = omega (arith, k.ensures.1, decimal_room a.n a.at _ c.if-n-lt10.false c.ranges.n.fits c.requires) in
    search rules

pub returns : goal.returns
returns t c =
    let a = c.args in
    let k = c.put_decimal-last in
    decimal_last a.out.now k.new.out a.at k.result a.n _ c.if-n-lt10.false c.ranges.n.fits c.digit_of-2.ensures k.ensures
