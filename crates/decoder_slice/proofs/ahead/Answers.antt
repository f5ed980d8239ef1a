use mathlib.Core.Path.{refl, sym, ap, ◌∙◌}
use native.Mathlib.Omega.{arith}
use lib.ListN.{drop}
use Rattle.decoder.specs.declared.Decoder.{Decoder}
use Rattle.decoder_slice.specs.Slice.{pushes_from}
use Rattle.decoder.specs.Cut.{in_state}
use Rattle.decoder.specs.declared.DecodeState.TheVariants.{LookingForMessageStart, ParsingNormal, ParsingEscChars, ParsingEscPayload}
use Rattle.decoder.proofs.Valid.{sane, sane_way, sane_search, sane_normal, sane_wait, sane_escape, right_buffer}
use Rattle.decoder_slice.proofs.Runs as runs
use borrow.Author.Rules.{rules}
use Rattle.decoder_slice.proofs.ahead.Goals as goal

pub search_more-requires : goal.search_more-requires
search_more-requires c =
    let a = c.args in
    let bad = c.requires.0 in
    let z = sane_search a.d bad c.in-LookingForMessageStart.num_discarded_bytes c.in-LookingForMessageStart.num_init_seq_bytes c.in-LookingForMessageStart.is in
    ((sane_way a.d bad, omega (arith, (sane a.d bad).1, z.0), z.0, runs.right_capacity _ _ c.requires.1, z.1, c.if-d-eq-INIT.true), search rules)

pub returns-then-d-eq-INIT : goal.returns-then-d-eq-INIT
returns-then-d-eq-INIT c =
    let a = c.args in
    let wrong = c.requires.1 in
    let e = c.search_more.ensures in
    (e.0, e.1, runs.at_state a.d (LookingForMessageStart c.in-LookingForMessageStart.num_init_seq_bytes c.in-LookingForMessageStart.num_discarded_bytes) a.buf.now a.chunk.now a.from c.in-LookingForMessageStart.is (e.2 a.buf.now (right_buffer _ _ wrong).0))

pub store_plain-requires : goal.store_plain-requires
store_plain-requires c =
    let a = c.args in
    let f = sane_normal a.d c.requires.0 c.in-ParsingNormal.is in
    (runs.frames_at a.d a.buf.now c.requires.0 c.requires.1 0 f (omega (arith, (sane a.d c.requires.0).1)), search rules)

pub wait_more-requires : goal.wait_more-requires
wait_more-requires c =
    let a = c.args in
    let bad = c.requires.0 in
    let z = sane_wait a.d bad c.in-ParsingEscChars.n c.in-ParsingEscChars.is in
    let g = sane a.d bad in
    ((sane_way a.d bad, refl, runs.right_capacity _ _ c.requires.1, omega (arith, g.1), g.0, z.2), z.0, z.1, search rules)

pub put_judged-requires : goal.put_judged-requires
put_judged-requires c =
    let a = c.args in
    let z = sane_escape a.d c.requires.0 c.in-ParsingEscPayload.n c.in-ParsingEscPayload.is in
    (runs.frames_at a.d a.buf.now c.requires.0 c.requires.1 c.in-ParsingEscPayload.n z.2 z.0, z.1, search rules)

pub search_more-requires-in-Done : goal.search_more-requires-in-Done
search_more-requires-in-Done c =
    let a = c.args in
    let n = runs.reset_fresh _ _ c.reset.ensures in
    rw n ((sane_way a.d c.requires.0, refl, refl, runs.right_capacity _ _ c.requires.1, omega arith, refl), search rules)

pub returns-in-ParsingNormal : goal.returns-in-ParsingNormal
returns-in-ParsingNormal c =
    let a = c.args in
    let e = c.store_plain.ensures in
    (e.0, e.1, runs.at_state a.d ParsingNormal a.buf.now a.chunk.now a.from c.in-ParsingNormal.is e.2)

pub returns-in-ParsingEscChars : goal.returns-in-ParsingEscChars
returns-in-ParsingEscChars c =
    let a = c.args in
    let wrong = c.requires.1 in
    let e = c.wait_more.ensures in
    (e.0, e.1, runs.at_state a.d (ParsingEscChars c.in-ParsingEscChars.n) a.buf.now a.chunk.now a.from c.in-ParsingEscChars.is (e.2 a.buf.now (right_buffer _ _ wrong).0))

pub returns-in-ParsingEscPayload : goal.returns-in-ParsingEscPayload
returns-in-ParsingEscPayload c =
    let a = c.args in
    let e = c.put_judged.ensures in
    (e.0, e.1, runs.at_state a.d (ParsingEscPayload c.in-ParsingEscPayload.n) a.buf.now a.chunk.now a.from c.in-ParsingEscPayload.is e.2)

pub returns-in-Done : goal.returns-in-Done
returns-in-Done c =
    let a = c.args in
    let bad = c.requires.0 in
    let wrong = c.requires.1 in
    let n = runs.reset_fresh _ _ c.reset.ensures in
    let e = c.search_more-in-Done.ensures in (
      e.0,
      e.1,
      e.2 a.buf.now ((right_buffer _ _ wrong).0 ∙ sym (ap (λ (x : Decoder). x.capacity) n))
          ∙ ap (λ (x : Decoder). pushes_from a.from (in_state x (LookingForMessageStart 0 0)) a.buf.now (drop a.from a.chunk.now)) n
          ∙ runs.fresh_goes a.d a.buf.now a.chunk.now a.from c.in-Done.is bad wrong c.requires.2,
    )
