use mathlib.Core.Path.{sym, ap, ◌∙◌}
use Rattle.decoder.specs.Push.{searching}
use Rattle.decoder.specs.Record.{setup, new_record}
use Rattle.decoder.specs.Cut.{code, cut, step_cut}
use Rattle.decoder.specs.declared.Decoder.{Decoder}
use Rattle.decoder.specs.declared.Pushed.{Pushed}
use Rattle.decoder.proofs.Valid.{wait_in_frame, escape_in_frame}
use Rattle.decoder.proofs.Tied.{push_step}
use Rattle.decoder.proofs.push_any.Goals as goal

pub parsing_esc_chars-requires : goal.parsing_esc_chars-requires
parsing_esc_chars-requires c =
    wait_in_frame c.args.d c.args.buf.now _ (sym c.bad_decoder.ensures ∙ c.if-bad_decoder.false) (sym c.wrong_buffer.ensures ∙ c.if-wrong_buffer.false) c.in-ParsingEscChars.is

pub parsing_esc_payload-requires : goal.parsing_esc_payload-requires
parsing_esc_payload-requires c =
    escape_in_frame c.args.d c.args.buf.now _ (sym c.bad_decoder.ensures ∙ c.if-bad_decoder.false) (sym c.wrong_buffer.ensures ∙ c.if-wrong_buffer.false) c.in-ParsingEscPayload.is

pub returns-in-LookingForMessageStart : goal.returns-in-LookingForMessageStart
unfolding step_cut
returns-in-LookingForMessageStart c =
    let a = c.args in
    push_step a.d a.buf.now a.b _ _ (sym c.bad_decoder.ensures ∙ c.if-bad_decoder.false) (sym c.wrong_buffer.ensures ∙ c.if-wrong_buffer.false) c.in-LookingForMessageStart.is
    (ap (λ (p : Pushed). cut p a.buf.now) c.looking_for_message_start.ensures)

pub returns-in-ParsingNormal : goal.returns-in-ParsingNormal
unfolding step_cut
returns-in-ParsingNormal c =
    let a = c.args in
    push_step a.d a.buf.now a.b _ _ (sym c.bad_decoder.ensures ∙ c.if-bad_decoder.false) (sym c.wrong_buffer.ensures ∙ c.if-wrong_buffer.false) c.in-ParsingNormal.is
    c.parsing_normal.ensures

pub returns-in-ParsingEscChars : goal.returns-in-ParsingEscChars
unfolding step_cut
returns-in-ParsingEscChars c =
    let a = c.args in
    push_step a.d a.buf.now a.b _ _ (sym c.bad_decoder.ensures ∙ c.if-bad_decoder.false) (sym c.wrong_buffer.ensures ∙ c.if-wrong_buffer.false) c.in-ParsingEscChars.is
    c.parsing_esc_chars.ensures

pub returns-in-ParsingEscPayload : goal.returns-in-ParsingEscPayload
unfolding step_cut
returns-in-ParsingEscPayload c =
    let a = c.args in
    push_step a.d a.buf.now a.b _ _ (sym c.bad_decoder.ensures ∙ c.if-bad_decoder.false) (sym c.wrong_buffer.ensures ∙ c.if-wrong_buffer.false) c.in-ParsingEscPayload.is
    c.parsing_esc_payload.ensures

pub returns-in-Done : goal.returns-in-Done
unfolding step_cut
returns-in-Done c =
    let a = c.args in
    push_step a.d a.buf.now a.b _ _ (sym c.bad_decoder.ensures ∙ c.if-bad_decoder.false) (sym c.wrong_buffer.ensures ∙ c.if-wrong_buffer.false) c.in-Done.is
    (ap (λ (p : Pushed). cut p a.buf.now)
    (c.looking_for_message_start-in-Done.ensures ∙ ap (λ (d : Decoder). code (setup d) (searching d.way 0 0 d.raw_msg_len a.b)) (c.new_record.ensures ∙ ap new_record c.setup_of.ensures)))
