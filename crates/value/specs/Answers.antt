-- view: what each answer says, number for number.
use Rattle.std.specs.Prelude.{ℕ, ℤ}
use Rattle.std.specs.Prelude as P
use Rattle.std.proofs.Math.Option.{Option}
use Rattle.refusals.specs.Answers.{as_it_is, opt_of}
use Rattle.refusals.specs.declared.Span.{Span}
use Rattle.value.specs.Values.{Status, Value, truth, bytes, signed, unsigned, list_time}
use Rattle.value.specs.declared.Time.{Time}
use Rattle.value.specs.declared.Width.{Width}
use Rattle.value.specs.declared.Width.TheVariants as WidthC
use Rattle.value.specs.declared.Status as Statuses
use Rattle.value.specs.declared.Status.TheVariants as StatusC
use Rattle.value.specs.declared.Value as Values
use Rattle.value.specs.declared.Value.TheVariants as ValueC

-- a time is its number of seconds
abbrev pub seconds : Time → ℕ
seconds time = time.sec_index

-- a width is its number of bytes
abbrev pub width_bytes : Width → ℕ
width_bytes WidthC.One = 1
width_bytes WidthC.Two = 2
width_bytes WidthC.Four = 4
width_bytes WidthC.Eight = 8

abbrev pub status : Statuses.Status → Status
status (StatusC.Status8 n) = record { width = 1; number = n }
status (StatusC.Status16 n) = record { width = 2; number = n }
status (StatusC.Status32 n) = record { width = 4; number = n }
status (StatusC.Status64 n) = record { width = 8; number = n }

abbrev pub value : Values.Value → Value Span
value (ValueC.Bool b) = truth b
value (ValueC.Bytes p) = bytes p
value (ValueC.I8 z) = signed 1 z
value (ValueC.I16 z) = signed 2 z
value (ValueC.I32 z) = signed 4 z
value (ValueC.I64 z) = signed 8 z
value (ValueC.U8 n) = unsigned 1 n
value (ValueC.U16 n) = unsigned 2 n
value (ValueC.U32 n) = unsigned 4 n
value (ValueC.U64 n) = unsigned 8 n
value (ValueC.List x) = list_time (seconds x.time)

-- optional fields
abbrev pub opt_u8 : P.Option ℕ → Option ℕ
opt_u8 = opt_of as_it_is

abbrev pub opt_i8 : P.Option ℤ → Option ℤ
opt_i8 = opt_of as_it_is

abbrev pub opt_time : P.Option Time → Option ℕ
opt_time = opt_of seconds

abbrev pub opt_status : P.Option Statuses.Status → Option Status
opt_status = opt_of status
