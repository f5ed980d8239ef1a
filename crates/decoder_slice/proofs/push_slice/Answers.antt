use mathlib.Core.Path.{sym, ◌∙◌}
use Rattle.decoder_slice.proofs.Taken as taken
use Rattle.decoder_slice.proofs.push_slice.Goals as goal

pub returns-then-bad_decoder : goal.returns-then-bad_decoder
returns-then-bad_decoder c =
    let a = c.args in
    taken.slice_bad a.d a.buf.now a.chunk.now (sym c.bad_decoder.ensures ∙ c.if-bad_decoder.true)

pub returns-then-wrong_buffer : goal.returns-then-wrong_buffer
returns-then-wrong_buffer c =
    let a = c.args in
    let bad = sym c.bad_decoder.ensures ∙ c.if-bad_decoder.false in
    let wrong = sym c.wrong_buffer.ensures ∙ c.if-wrong_buffer.true in
    taken.slice_wrong a.d a.buf.now a.chunk.now bad wrong

pub until_event-requires : goal.until_event-requires
until_event-requires c =
    (sym c.bad_decoder.ensures ∙ c.if-bad_decoder.false, sym c.wrong_buffer.ensures ∙ c.if-wrong_buffer.false)

pub returns : goal.returns
returns c =
    let a = c.args in
    let bad = sym c.bad_decoder.ensures ∙ c.if-bad_decoder.false in
    let wrong = sym c.wrong_buffer.ensures ∙ c.if-wrong_buffer.false in
    c.until_event.ensures ∙ taken.slice_pushes a.d a.buf.now a.chunk.now bad wrong
