use borrow.Author.Rules.{rules}
use mathlib.Core.Path.{◌≡◌}
use native.Mathlib.Omega.{arith}
use lib.ListN.{length}
use Rattle.lines.proofs.Laws.{hex_length}
use Rattle.lines.proofs.Whole.{hex_line}
use Rattle.lines.proofs.write_hex.Goals as goal

pub put_text-requires : goal.put_text-requires
put_text-requires c =
    let a = c.args in
    let h = c.put_hex-end in
    let w = c.put_text-at in
    let s : length h.new.out ≡ length a.out.now = search rules in
    omega (arith, h.ensures.1, w.ensures.1, s, hex_length a.bytes.now)

pub returns : goal.returns
returns c =
    let a = c.args in
    let h = c.put_hex-end in
    let w = c.put_text-at in
    let n = c.put_text in
    hex_line a.word.now a.bytes.now a.out.now w.new.out h.new.out n.new.out w.result h.result n.result (omega arith) w.ensures h.ensures n.ensures
