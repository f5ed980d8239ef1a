-- view: what each answer says, number for number.
use Rattle.std.specs.Prelude.{ℕ, Result, Ok, Err}
use Rattle.std.specs.Prelude as P
use Rattle.std.proofs.Math.Option.{Option, some, none}
use Rattle.refusals.specs.Numbers.{bad_span_no}
use Rattle.refusals.specs.Answers.{as_it_is, opt_of}
use Rattle.refusals.specs.declared.BadSpan.{BadSpan}
use Rattle.refusals.specs.declared.Span.{Span}

-- 16, BadSpan
abbrev pub span_check : Result (Unit {0}) BadSpan → Option ℕ
span_check (Ok u) = none
span_check (Err e) = some bad_span_no

abbrev pub opt_span : P.Option Span → Option Span
opt_span = opt_of as_it_is
