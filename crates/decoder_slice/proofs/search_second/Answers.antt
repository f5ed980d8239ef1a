use borrow.Author.Rules.{rules}
use Prim.Native.Nat.{◌+◌, ◌<◌, ◌≤◌}
use mathlib.Core.Path.{◌≡◌, sym, ◌∙◌}
use native.Mathlib.Omega.{arith}
use lib.ListN.{length, get_or}
use Rattle.decoder.specs.Push.{second_way}
use Rattle.decoder.proofs.Search.{second_matched}
use Rattle.decoder_slice.proofs.Runs as runs
use Rattle.decoder_slice.proofs.Skips as skips
use Rattle.decoder_slice.proofs.search_second.Goals as goal

pub loop-k-init : goal.loop-k-init
loop-k-init c =
    let a = c.args in
    (search rules, search rules, search rules, search rules, search rules, λ m h. runs.first_search a.d a.noise a.n m a.chunk.now a.from (search rules) (search rules))

pub loop-k-preserved-then-q-eq0 : goal.loop-k-preserved-then-q-eq0
loop-k-preserved-then-q-eq0 c =
    let l = c.loop-k in
    let a = c.args in
    let s = a.chunk.now in
    let x = c.advance-next in
    let second : a.d.way ≡ second_way = search rules in
    let way = c.requires.0.0 in
    let small : a.d.capacity ≤ 1048576 = search rules in
    let room : a.from + l.k < length s = search rules in
    let z = runs.search_next a.d a.noise a.n l.q x.result s a.from l.k way (search rules) (search rules) (search rules) small room l.invariant.4 l.invariant.3 (x.ensures ∙ sym (second_matched a.d.way l.q (get_or s (a.from + l.k) 0) second)) c.if-next-eq8.false in
    let e = c.plain_ones.ensures in (
      search rules,
      search rules,
      search rules,
      omega (arith, z.0, e.0),
      omega (arith, z.1),
      λ m h. skips.noise_to a.d a.noise a.n s a.from way (search rules) (search rules) (search rules) small m h (l.k + 1) c.plain_ones.result x.result c.if-q-eq0.true e.0 e.1 e.2 ∙ z.2 m h ∙ l.invariant.5 m h,
    )

pub loop-k-preserved-then-q-eq4 : goal.loop-k-preserved-then-q-eq4
loop-k-preserved-then-q-eq4 c =
    let l = c.loop-k in
    let a = c.args in
    let s = a.chunk.now in
    let x = c.advance-next in
    let second : a.d.way ≡ second_way = search rules in
    let way = c.requires.0.0 in
    let small : a.d.capacity ≤ 1048576 = search rules in
    let room : a.from + l.k < length s = search rules in
    let z = runs.search_next a.d a.noise a.n l.q x.result s a.from l.k way (search rules) (search rules) (search rules) small room l.invariant.4 l.invariant.3 (x.ensures ∙ sym (second_matched a.d.way l.q (get_or s (a.from + l.k) 0) second)) c.if-next-eq8.false in
    let e = c.escapes_end.ensures in (
      search rules,
      search rules,
      search rules,
      omega (arith, z.0, e.0),
      omega (arith, z.1),
      λ m h. skips.fours_to a.d a.noise a.n s a.from way (search rules) (search rules) (search rules) small m h (l.k + 1) c.escapes_end.result x.result second c.if-q-eq4.true z.0 e.0 e.1 e.2 ∙ z.2 m h ∙ l.invariant.5 m h,
    )

pub loop-k-preserved : goal.loop-k-preserved
loop-k-preserved c =
    let l = c.loop-k in
    let a = c.args in
    let s = a.chunk.now in
    let x = c.advance-next in
    let second : a.d.way ≡ second_way = search rules in
    let way = c.requires.0.0 in
    let small : a.d.capacity ≤ 1048576 = search rules in
    let room : a.from + l.k < length s = search rules in
    let z = runs.search_next a.d a.noise a.n l.q x.result s a.from l.k way (search rules) (search rules) (search rules) small room l.invariant.4 l.invariant.3 (x.ensures ∙ sym (second_matched a.d.way l.q (get_or s (a.from + l.k) 0) second)) c.if-next-eq8.false in
    (search rules, search rules, search rules, z.0, z.1, λ m h. z.2 m h ∙ l.invariant.5 m h)

pub returns : goal.returns
returns c =
    let l = c.loop-k in
    let a = c.args in
    let e = c.searched.ensures in
    runs.search_there a.d a.noise a.n l.q a.chunk.now a.from l.k c.searched.result e.0 e.1 (search rules) l.invariant.5
