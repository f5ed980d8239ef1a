-- rule: what each call of the writer answers, and what it leaves of the output.
use Rattle.std.specs.Prelude.{ℕ, ◌+◌, ◌-◌, List, [], ◌∷◌, ◌++◌, Bool, true, false, cond, not, length, take, drop, ltb, eqb}
use Rattle.std.proofs.Math.Option.{Option, some, none}
use Rattle.refusals.specs.Numbers.{bad_state_no, wrong_number_no, bad_span_no, output_too_short_no}
use Rattle.refusals.specs.declared.Span.{Span}
use Rattle.octet_string.specs.Strings.{span_within}
use Rattle.common.specs.Fields.{ListEntry}
use Rattle.message.specs.Messages.{ListStart, ListEnd, Body, list_body, MessageStart}
use Rattle.streaming.specs.Next.{start_event, entry_event, end_event}
use Rattle.streaming.specs.Meaning.{entry_means, list_end_means, start_means, strings_of}
use Rattle.crc_x25.specs.Crc.{start, register}
use Rattle.writer.specs.Fields.{write_entry}
use Rattle.writer.specs.Messages.{write_start, list_end_bytes, write_trailer}
use Rattle.writer.specs.declared.Head.{Head}
use Rattle.writer.specs.declared.ListState.{ListState}
use Rattle.writer.specs.declared.ListState.TheVariants.{Entries, Ended}
use Rattle.writer.specs.declared.ListWriter.{ListWriter}

-- bytes from a place on, all else as it was
unfoldable pub put_in : List ℕ → ℕ → List ℕ → List ℕ
put_in out at b = take at out ++ (b ++ drop (at + length b) out)

-- 4 a place beyond the output, 17 a call that is not due, 16 a string outside `strings`, 18 no room for the bytes b: in this order
unfoldable pub write_refusal : List ℕ → ℕ → Bool → Bool → List ℕ → Option ℕ
write_refusal out at due good b =
    cond (ltb (length out) at) (some bad_state_no)
    (cond (not due) (some wrong_number_no)
    (cond (not good) (some bad_span_no)
    (cond (ltb (length out - at) (length b)) (some output_too_short_no)
    none)))

-- what a call gives, or the number of its refusal
pub data WriteOutcome (A : Type 0) : Type 0 where
  to : A → WriteOutcome A
  not_written : ℕ → WriteOutcome A

pub record AfterWrite (A : Type 0) : Type 0 where
  pub answer : WriteOutcome A
  pub output : List ℕ

-- a refusal leaves the output
unfoldable pub put_or : {A : Type 0} → Option ℕ → List ℕ → ℕ → List ℕ → A → AfterWrite A
put_or (some n) out at b a = record { answer = not_written n; output = out }
put_or none out at b a = record { answer = to a; output = put_in out at b }

-- an entry is due while some are left, an end when none is
abbrev pub entry_due : ListState → Bool
entry_due (Entries left crc) = ltb 0 left
entry_due Ended = false

abbrev pub end_due : ListState → Bool
end_due (Entries left crc) = eqb left 0
end_due Ended = false

-- every span lies within the strings
unfoldable pub all_within : List ℕ → List Span → Bool
all_within s [] = true
all_within s (p ∷ ps) = cond (span_within s p) (all_within s ps) false

-- a message's start is its head and its body
abbrev pub start_with : Head → Body Span → MessageStart Span
start_with head body =
    record {
      transaction_id = head.transaction_id;
      group_no = head.group_no;
      abort_on_error = head.abort_on_error;
      message_body = body;
    }

-- an open or a close: start and trailer in one call; the answer is the place behind it
unfoldable pub whole_to : List ℕ → ℕ → List ℕ → Head → Body Span → AfterWrite ℕ
whole_to out at strings head body =
    let m = start_with head body in
    let a = write_start (start_means strings m) in
    let b = a ++ write_trailer (register start a) in
    put_or (write_refusal out at true (all_within strings (strings_of (start_event m))) b) out at b (at + length b)

-- a list's start: the writer stands behind it, and as many entries are to come as it announces
unfoldable pub start_to : List ℕ → ℕ → List ℕ → Head → ListStart Span → AfterWrite ListWriter
start_to out at strings head list =
    let m = start_with head (list_body list) in
    let b = write_start (start_means strings m) in
    put_or (write_refusal out at true (all_within strings (strings_of (start_event m))) b) out at b (record { place = at + length b; state = Entries list.num_vals (register start b) })

-- the state behind one entry more
abbrev pub after_entry : ListState → List ℕ → ListState
after_entry (Entries left crc) b = Entries (left - 1) (register crc b)
after_entry Ended b = Ended

unfoldable pub entry_to : List ℕ → ListWriter → List ℕ → ListEntry Span → AfterWrite ListWriter
entry_to out w strings e =
    let b = write_entry (entry_means strings e) in
    put_or (write_refusal out w.place (entry_due w.state) (all_within strings (strings_of (entry_event e))) b) out w.place b (record { place = w.place + length b; state = after_entry w.state b })

-- the end's fields and the trailer
abbrev pub end_bytes : ListState → List ℕ → List ℕ
end_bytes (Entries left crc) b = b ++ write_trailer (register crc b)
end_bytes Ended b = b

unfoldable pub end_to : List ℕ → ListWriter → List ℕ → ListEnd Span → AfterWrite ListWriter
end_to out w strings x =
    let b = end_bytes w.state (list_end_bytes (list_end_means strings x)) in
    put_or (write_refusal out w.place (end_due w.state) (all_within strings (strings_of (end_event x))) b) out w.place b (record { place = w.place + length b; state = Ended })
