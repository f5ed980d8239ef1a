-- view: document 01's number and values for each case of what every reader shares.
use Rattle.std.specs.Prelude.{ℕ, Result, Ok, Err}
use Rattle.std.specs.Prelude as P
use Rattle.std.proofs.Math.Option.{Option, some, none}
use Rattle.refusals.specs.Read.{Read, got, refused, Refusal, eof, invalid_tlf, mismatch, unexpected, crc_mismatch, wrong_end}
use Rattle.refusals.specs.declared.TlfParseError.{TlfParseError}
use Rattle.refusals.specs.declared.TlfParseError.TheVariants.{TlfLengthOverflow, TlfReserved, TlfLengthUnderflow, TlfNextByteTypeMismatch, TlfInvalidTy}
use Rattle.refusals.specs.declared.ParseError.{ParseError}
use Rattle.refusals.specs.declared.ParseError.TheVariants.{UnexpectedEOF, InvalidTlf, TlfMismatch, CrcMismatch, MsgEndMismatch, UnexpectedVariant}
use Rattle.refusals.specs.declared.Fault.{Fault}

-- the five kinds of 11
abbrev pub kind_of : TlfParseError → ℕ
kind_of TlfLengthOverflow = 1
kind_of TlfReserved = 2
kind_of TlfLengthUnderflow = 3
kind_of TlfNextByteTypeMismatch = 4
kind_of TlfInvalidTy = 5

abbrev pub overflow : ℕ → Refusal
overflow at = invalid_tlf (kind_of TlfLengthOverflow) at

abbrev pub reserved : ℕ → Refusal
reserved at = invalid_tlf (kind_of TlfReserved) at

abbrev pub underflow : ℕ → Refusal
underflow at = invalid_tlf (kind_of TlfLengthUnderflow) at

abbrev pub next_type : ℕ → Refusal
next_type at = invalid_tlf (kind_of TlfNextByteTypeMismatch) at

abbrev pub invalid_ty : ℕ → Refusal
invalid_ty at = invalid_tlf (kind_of TlfInvalidTy) at

abbrev pub refusal_of : ParseError → ℕ → Refusal
refusal_of UnexpectedEOF at = eof at
refusal_of (InvalidTlf kind) at = invalid_tlf (kind_of kind) at
refusal_of TlfMismatch at = mismatch at
refusal_of UnexpectedVariant at = unexpected at
refusal_of CrcMismatch at = crc_mismatch at
refusal_of MsgEndMismatch at = wrong_end at

abbrev pub fault_of : Fault → Refusal
fault_of f = refusal_of f.error f.place

-- a value that is told as it is
abbrev pub as_it_is : {A : Type 0} → A → A
as_it_is a = a

-- an optional field, by the view of what may be there
abbrev pub opt_of : {A B : Type 0} → (A → B) → P.Option A → Option B
opt_of view (P.Some a) = some (view a)
opt_of view P.None = none

-- a reading's answer, by the view of its value
abbrev pub reads_as : {A B : Type 0} → (A → B) → Result (A × ℕ) Fault → Read B
reads_as view (Ok r) = got (view r.0) r.1
reads_as view (Err f) = refused (fault_of f)
