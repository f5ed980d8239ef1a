-- view: document 02's number and values for each answer of the reader of whole messages.
use Rattle.std.specs.Prelude.{List, ℕ, Result, Ok, Err}
use Rattle.std.specs.Prelude as P
use Rattle.std.proofs.Math.Option.{Option}
use Rattle.refusals.specs.Numbers.{bad_state_no, input_too_long_no, too_many_entries_no}
use Rattle.refusals.specs.Answers.{fault_of, opt_of}
use Rattle.refusals.specs.declared.Span.{Span}
use Rattle.message.specs.Answers.{message_start, list_end}
use Rattle.message.specs.Messages.{ListEnd}
use Rattle.message.specs.declared.GetListResponseEnd.{GetListResponseEnd}
use Rattle.whole.specs.Whole.{WholeSaid, whole_is, broken, refused_alone, AfterWhole}
use Rattle.whole.specs.declared.WholeMessage as Wholes
use Rattle.whole.specs.declared.WholeError.{WholeError}
use Rattle.whole.specs.declared.WholeError.TheVariants as Errors

abbrev pub opt_list_end : P.Option GetListResponseEnd → Option (ListEnd Span)
opt_list_end x = opt_of list_end x

abbrev pub whole_refused : WholeError → WholeSaid
whole_refused (Errors.Fault f) = broken (fault_of f)
whole_refused Errors.InputTooLong = refused_alone input_too_long_no
whole_refused Errors.BadState = refused_alone bad_state_no
whole_refused Errors.TooManyEntries = refused_alone too_many_entries_no

abbrev pub whole_read : Result Wholes.WholeMessage WholeError → WholeSaid
whole_read (Ok m) = whole_is (message_start m.start) (opt_list_end m.end) m.rows m.next
whole_read (Err e) = whole_refused e

abbrev pub after_whole : WholeSaid → List ℕ → AfterWhole
after_whole said t = record { answer = said; table = t }
