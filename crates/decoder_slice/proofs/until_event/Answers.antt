use borrow.Author.Rules.{rules}
use mathlib.Core.Path.{sym, ◌∙◌}
use native.Mathlib.Omega.{arith}
use lib.ListN.{get_or}
use Rattle.decoder_slice.proofs.Runs as runs
use Rattle.decoder_slice.proofs.until_event.Goals as goal

pub loop-i-init : goal.loop-i-init
loop-i-init c = (search rules, search rules, search rules, λ h. c.requires)

pub ahead-a-requires : goal.ahead-a-requires
ahead-a-requires c =
    let f = c.loop-i.invariant.3 c.loop-i-test.true in
    (f.0, f.1, c.loop-i-test.true)

pub returns-then-not-says_nothing : goal.returns-then-not-says_nothing
returns-then-not-says_nothing c =
    let l = c.loop-i in
    let a = c.args in
    let h = c.ahead-a in
    let p = c.push_any-p in
    let q = sym c.says_nothing.ensures ∙ c.if-not-says_nothing.true in
    runs.loud_next h.result.at h.result.decoder h.new.buf a.chunk.now h.result.at p.result _ c.if-i-chunk.true p.ensures q ∙ h.ensures.2 ∙ l.invariant.2

pub loop-i-preserved-else-not-says_nothing : goal.loop-i-preserved-else-not-says_nothing
loop-i-preserved-else-not-says_nothing c =
    let l = c.loop-i in
    let a = c.args in
    let h = c.ahead-a in
    let p = c.push_any-p in
    let q = sym c.says_nothing.ensures ∙ c.if-not-says_nothing.false in
    (search rules, search rules, runs.silent_next h.result.at h.result.decoder h.new.buf a.chunk.now h.result.at p.result _ c.if-i-chunk.true p.ensures q ∙ h.ensures.2 ∙ l.invariant.2, λ lt. runs.silent_fit h.result.decoder h.new.buf (get_or a.chunk.now h.result.at 0) p.result _ p.ensures q)

pub loop-i-preserved : goal.loop-i-preserved
loop-i-preserved c =
    let l = c.loop-i in
    let h = c.ahead-a in
    (search rules, search rules, h.ensures.2 ∙ l.invariant.2, λ lt. absurd (omega (arith, lt, c.if-i-chunk.false)))

pub returns : goal.returns
returns c =
    let l = c.loop-i in
    let a = c.args in
    sym (runs.pushes_done l.i l.now l.buf a.chunk.now l.i c.loop-i-test.false) ∙ l.invariant.2
