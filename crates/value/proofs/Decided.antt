-- Each view can be undone, so a contract allows one outcome for each input.
use mathlib.Core.Path.{◌≡◌, refl}
use mathlib.Core.Bool.{cond}
use Prim.Native.Nat.{ℕ}
use lib.Dec.{eqb}
use Rattle.refusals.specs.Answers.{opt_of, reads_as}
use Rattle.refusals.specs.declared.Span.{Span}
use Rattle.value.specs.Values.{Status, Value, truth, bytes, signed, unsigned, list_time}
use Rattle.value.specs.Answers.{seconds, status, value}
use Rattle.value.specs.declared.Time.{Time}
use Rattle.value.specs.declared.Status as Statuses
use Rattle.value.specs.declared.Status.TheVariants as StatusC
use Rattle.value.specs.declared.Value as Values
use Rattle.value.specs.declared.Value.TheVariants as ValueC
use Rattle.decided.specs.One.{Injective}
use Rattle.decided.proofs.Laws.{injective, undone}
use Rattle.refusals.proofs.Undone.{reads_once, opt_once}
use Rattle.value.specs.Decided.{Views, Decided}

pub time_from : ℕ → Time
time_from n = record { sec_index = n }

pub status_from : Status → Statuses.Status
status_from x =
    cond (eqb x.width 1) (StatusC.Status8 x.number)
    (cond (eqb x.width 2) (StatusC.Status16 x.number) (cond (eqb x.width 4) (StatusC.Status32 x.number) (StatusC.Status64 x.number)))

pub status_from_back : (x : Statuses.Status) → status_from (status x) ≡ x
unfolding status_from
status_from_back (StatusC.Status8 n) = refl
status_from_back (StatusC.Status16 n) = refl
status_from_back (StatusC.Status32 n) = refl
status_from_back (StatusC.Status64 n) = refl

-- ---- values

pub value_from : Value Span → Values.Value
value_from (truth b) = ValueC.Bool b
value_from (bytes p) = ValueC.Bytes p
value_from (signed w z) = cond (eqb w 1) (ValueC.I8 z) (cond (eqb w 2) (ValueC.I16 z) (cond (eqb w 4) (ValueC.I32 z) (ValueC.I64 z)))
value_from (unsigned w n) = cond (eqb w 1) (ValueC.U8 n) (cond (eqb w 2) (ValueC.U16 n) (cond (eqb w 4) (ValueC.U32 n) (ValueC.U64 n)))
value_from (list_time n) = ValueC.List (record { time = time_from n })

pub value_from_back : (x : Values.Value) → value_from (value x) ≡ x
unfolding value_from time_from
value_from_back (ValueC.Bool b) = refl
value_from_back (ValueC.Bytes p) = refl
value_from_back (ValueC.I8 z) = refl
value_from_back (ValueC.I16 z) = refl
value_from_back (ValueC.I32 z) = refl
value_from_back (ValueC.I64 z) = refl
value_from_back (ValueC.U8 n) = refl
value_from_back (ValueC.U16 n) = refl
value_from_back (ValueC.U32 n) = refl
value_from_back (ValueC.U64 n) = refl
value_from_back (ValueC.List x) = refl

pub time_back : (x : Time) → time_from (seconds x) ≡ x
unfolding time_from
time_back x = refl

pub time_once : Injective seconds
time_once = undone seconds time_from time_back

pub status_once : Injective status
status_once = undone status status_from status_from_back

pub value_once : Injective value
value_once = undone value value_from value_from_back

pub views : Views
views =
    record {
      time = reads_once seconds time_once;
      status_claim = reads_once status status_once;
      value_claim = reads_once value value_once;
      optional_time = reads_once (opt_of seconds) (opt_once seconds time_once);
      optional_status = reads_once (opt_of status) (opt_once status status_once);
    }

pub decided : Decided
decided =
    record {
      time_parse = λ input at. injective (reads_as seconds) views.time _;
      option_time_parse = λ input at. injective (reads_as (opt_of seconds)) views.optional_time _;
      status_parse = λ input at. injective (reads_as status) views.status_claim _;
      option_status_parse = λ input at. injective (reads_as (opt_of status)) views.optional_status _;
      value_parse = λ input at. injective (reads_as value) views.value_claim _;
    }
