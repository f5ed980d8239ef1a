-- What the view of every reading is undone by: refusals, readings, optional fields.
use mathlib.Core.Path.{◌≡◌, refl, sym, ap, ◌∙◌}
use mathlib.Core.Bool.{Bool, true, false, cond, true≢false}
use mathlib.Core.Option.{Option, some, none}
use Prim.Native.Nat.{ℕ}
use lib.Dec.{eqb}
use Rattle.refusals.specs.Numbers.{unexpected_eof_no, invalid_tlf_no, tlf_mismatch_no, unexpected_variant_no, crc_mismatch_no}
use Rattle.refusals.specs.Read.{Read, got, refused, Refusal}
use Rattle.refusals.specs.Answers.{refusal_of, fault_of, as_it_is, opt_of, reads_as}
use Rattle.refusals.specs.declared.TlfParseError.{TlfParseError}
use Rattle.refusals.specs.declared.TlfParseError.TheVariants.{TlfLengthOverflow, TlfReserved, TlfLengthUnderflow, TlfNextByteTypeMismatch, TlfInvalidTy}
use Rattle.refusals.specs.declared.ParseError.{ParseError}
use Rattle.refusals.specs.declared.ParseError.TheVariants.{UnexpectedEOF, InvalidTlf, TlfMismatch, CrcMismatch, MsgEndMismatch, UnexpectedVariant}
use Rattle.refusals.specs.declared.Fault.{Fault}
use Rattle.decided.specs.One.{Injective}
use Rattle.std.specs.Prelude.{Ok, Err}
use Rattle.std.specs.Prelude as P

-- ---- refusals

kind_from : ℕ → TlfParseError
kind_from k =
    cond (eqb k 1) TlfLengthOverflow
    (cond (eqb k 2) TlfReserved (cond (eqb k 3) TlfLengthUnderflow (cond (eqb k 4) TlfNextByteTypeMismatch TlfInvalidTy)))

error_from : ℕ → ℕ → ParseError
error_from n k =
    cond (eqb n unexpected_eof_no) UnexpectedEOF
    (cond (eqb n invalid_tlf_no) (InvalidTlf (kind_from k)) (cond (eqb n tlf_mismatch_no) TlfMismatch (cond (eqb n unexpected_variant_no) UnexpectedVariant (cond (eqb n crc_mismatch_no) CrcMismatch MsgEndMismatch))))

pub fault_from : Refusal → Fault
fault_from r = record { error = error_from r.number r.kind; place = r.place }

pub error_back : (e : ParseError) (p : ℕ) → fault_from (refusal_of e p) ≡ record { error = e; place = p }
unfolding fault_from error_from kind_from
error_back UnexpectedEOF p = refl
error_back (InvalidTlf TlfLengthOverflow) p = refl
error_back (InvalidTlf TlfReserved) p = refl
error_back (InvalidTlf TlfLengthUnderflow) p = refl
error_back (InvalidTlf TlfNextByteTypeMismatch) p = refl
error_back (InvalidTlf TlfInvalidTy) p = refl
error_back TlfMismatch p = refl
error_back UnexpectedVariant p = refl
error_back CrcMismatch p = refl
error_back MsgEndMismatch p = refl

pub fault_back : (f : Fault) → fault_from (fault_of f) ≡ f
fault_back f = error_back f.error f.place

-- ---- readings

-- the view of a value that is told as it is loses nothing
pub same_once : {A : Type 0} → Injective (as_it_is {A = A})
same_once r r' e = e

-- what a reading was told as: its value, or one that stands for none; its place; its refusal
found_value : {A : Type 0} → A → Read A → A
found_value a (got x next) = x
found_value a (refused f) = a

place_found : {A : Type 0} → Read A → ℕ
place_found (got x next) = next
place_found (refused f) = 0

fault_found : {A : Type 0} → Fault → Read A → Fault
fault_found f (got x next) = f
fault_found f (refused r) = fault_from r

was_found : {A : Type 0} → Read A → Bool
was_found (got x next) = true
was_found (refused f) = false

-- the view of a reading loses nothing where that of its value doesn't
pub reads_once : {T A : Type 0} (view : T → A) → Injective view → Injective (reads_as view)
unfolding found_value place_found fault_found was_found
reads_once view once (Ok p) (Ok q) e =
    let a = once p.0 q.0 (ap (found_value (view p.0)) e) in
    let n = ap place_found e in
    rw (a, n)
reads_once view once (Ok p) (Err f) e = absurd (true≢false (ap was_found e))
reads_once view once (Err f) (Ok p) e = absurd (true≢false (sym (ap was_found e)))
reads_once view once (Err f) (Err g) e = ap (λ x. Err x) (sym (fault_back f) ∙ ap (fault_found f) e ∙ fault_back g)

-- ---- optional fields

one_in : {A : Type 0} → A → Option A → A
one_in a (some x) = x
one_in a none = a

has_one : {A : Type 0} → Option A → Bool
has_one (some x) = true
has_one none = false

pub opt_once : {T A : Type 0} (view : T → A) → Injective view → Injective (opt_of view)
unfolding one_in has_one
opt_once view once (P.Some a) (P.Some b) e = ap (λ x. P.Some x) (once a b (ap (one_in (view a)) e))
opt_once view once (P.Some a) P.None e = absurd (true≢false (ap has_one e))
opt_once view once P.None (P.Some b) e = absurd (true≢false (sym (ap has_one e)))
opt_once view once P.None P.None e = refl

-- an optional field that is told by `view` comes back where what may be there does
pub field_from : {T A : Type 0} → (A → T) → Option A → P.Option T
field_from from (some x) = P.Some (from x)
field_from from none = P.None

pub field_back : {T A : Type 0} (view : T → A) (from : A → T) → ((x : T) → from (view x) ≡ x) → (f : P.Option T) → field_from from (opt_of view f) ≡ f
unfolding field_from
field_back view from back (P.Some x) = ap (λ y. P.Some y) (back x)
field_back view from back P.None = refl
