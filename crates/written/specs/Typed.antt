-- claim: the records of the code, each number within its type: what a caller can lend at all.
use Rattle.std.specs.Prelude.{ℕ, ℤ, ◌^◌, ◌<◌, Option, Some, None}
use Rattle.std.specs.Int.Signed.{mag}
use Rattle.value.specs.declared.Time.{Time}
use Rattle.value.specs.declared.Status as Statuses
use Rattle.value.specs.declared.Status.TheVariants as StatusC
use Rattle.value.specs.declared.Value as Values
use Rattle.value.specs.declared.Value.TheVariants as ValueC
use Rattle.common.specs.declared.OpenResponse as Opens
use Rattle.common.specs.declared.ListEntry as Entries
use Rattle.message.specs.declared.GetListResponseStart.{GetListResponseStart}
use Rattle.message.specs.declared.GetListResponseEnd.{GetListResponseEnd}
use Rattle.writer.specs.declared.Head.{Head}

abbrev pub U8Typed : Option ℕ → Type 0
U8Typed (Some n) = n < 2 ^ 8
U8Typed None = Unit {0}

-- -128 has magnitude 127
abbrev pub I8Typed : Option ℤ → Type 0
I8Typed (Some z) = mag z < 2 ^ 7
I8Typed None = Unit {0}

abbrev pub TimeTyped : Option Time → Type 0
TimeTyped (Some t) = t.sec_index < 2 ^ 32
TimeTyped None = Unit {0}

abbrev pub StatusTyped : Statuses.Status → Type 0
StatusTyped (StatusC.Status8 n) = n < 2 ^ 8
StatusTyped (StatusC.Status16 n) = n < 2 ^ 16
StatusTyped (StatusC.Status32 n) = n < 2 ^ 32
StatusTyped (StatusC.Status64 n) = n < 2 ^ 64

abbrev pub OptStatusTyped : Option Statuses.Status → Type 0
OptStatusTyped (Some x) = StatusTyped x
OptStatusTyped None = Unit {0}

abbrev pub ValueTyped : Values.Value → Type 0
ValueTyped (ValueC.Bool b) = Unit {0}
ValueTyped (ValueC.Bytes p) = Unit {0}
ValueTyped (ValueC.I8 z) = mag z < 2 ^ 7
ValueTyped (ValueC.I16 z) = mag z < 2 ^ 15
ValueTyped (ValueC.I32 z) = mag z < 2 ^ 31
ValueTyped (ValueC.I64 z) = mag z < 2 ^ 63
ValueTyped (ValueC.U8 n) = n < 2 ^ 8
ValueTyped (ValueC.U16 n) = n < 2 ^ 16
ValueTyped (ValueC.U32 n) = n < 2 ^ 32
ValueTyped (ValueC.U64 n) = n < 2 ^ 64
ValueTyped (ValueC.List x) = x.time.sec_index < 2 ^ 32

pub record EntryTyped (x : Entries.ListEntry) : Type 0 where
  pub status : OptStatusTyped x.status
  pub val_time : TimeTyped x.val_time
  pub unit : U8Typed x.unit
  pub scaler : I8Typed x.scaler
  pub value : ValueTyped x.value

pub record OpenTyped (x : Opens.OpenResponse) : Type 0 where
  pub ref_time : TimeTyped x.ref_time
  pub sml_version : U8Typed x.sml_version

-- the number of entries is any
pub record ListStartTyped (x : GetListResponseStart) : Type 0 where
  pub act_sensor_time : TimeTyped x.act_sensor_time

pub record ListEndTyped (x : GetListResponseEnd) : Type 0 where
  pub act_gateway_time : TimeTyped x.act_gateway_time

pub record HeadTyped (x : Head) : Type 0 where
  pub group_no : x.group_no < 2 ^ 8
  pub abort_on_error : x.abort_on_error < 2 ^ 8
