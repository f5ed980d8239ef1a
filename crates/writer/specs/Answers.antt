-- view: what each answer says, number for number.
use Rattle.std.specs.Prelude.{ℕ, List, Result, Ok, Err}
use Rattle.refusals.specs.Numbers.{bad_state_no, wrong_number_no, bad_span_no, output_too_short_no}
use Rattle.writer.specs.Calls.{WriteOutcome, to, not_written, AfterWrite}
use Rattle.writer.specs.declared.WriteError.{WriteError}
use Rattle.writer.specs.declared.WriteError.TheVariants.{BadState, WrongNumber, BadSpan, OutputTooShort}
use Rattle.writer.specs.declared.ListWriter.{ListWriter}

abbrev pub error_number : WriteError → ℕ
error_number BadState = bad_state_no
error_number WrongNumber = wrong_number_no
error_number BadSpan = bad_span_no
error_number OutputTooShort = output_too_short_no

abbrev pub place_written : Result ℕ WriteError → WriteOutcome ℕ
place_written (Ok place) = to place
place_written (Err e) = not_written (error_number e)

abbrev pub list_written : Result ListWriter WriteError → WriteOutcome ListWriter
list_written (Ok w) = to w
list_written (Err e) = not_written (error_number e)

abbrev pub after_write : {A : Type 0} → WriteOutcome A → List ℕ → AfterWrite A
after_write r out = record { answer = r; output = out }
