-- Where the readings of time, status and value refuse: each is a length field that is judged once, though its head is read twice.
use mathlib.Core.Path.{◌≡◌, refl, ◌∙◌}
use mathlib.Core.Bool.{Bool, true, false, cond, ◌&&◌}
use mathlib.Core.List.{List, [], ◌∷◌}
use Prim.Native.Nat.{ℕ, zero, suc, ◌<◌, ◌≤◌}
use native.Mathlib.Omega.{arith}
use lib.ListN.{length, get_or}
use lib.Dec.{leb, eqb}
use borrow.Author.Tests.{eqb-true, eqb-false}
use Rattle.refusals.specs.Read.{Read, got, refused, Refusal, then, guard, mismatch, span_at}
use Rattle.refusals.specs.declared.Span.{Span}
use Rattle.refusals.proofs.Read.{and_left, and_right}
use Rattle.tlf.specs.Lengths.{is_list_of, tlf_at, list_of_at}
use Rattle.tlf.specs.declared.Ty.{Ty}
use Rattle.tlf.specs.declared.Ty.TheVariants.{OctetString, Boolean, Integer, Unsigned, ListOf}
use Rattle.tlf.specs.declared.TypeLengthField.{TypeLengthField}
use Rattle.numbers.specs.Numbers.{number, is_number, fits_width, raw_from, raw_at, unsigned_at, signed_of, signed_at, bool_from, bool_at}
use Rattle.octet_string.specs.Strings.{octets_at}
use Rattle.value.specs.Values.{is_bare_time, time_at, narrowest, Status, status_of, status_at, Value, truth, bytes, signed, unsigned, list_time, signed_value, unsigned_value, list_type_at, value_of_claim, value_at}
use Rattle.places.specs.Stands.{Instead, TagAt, time_tag}
use Rattle.places.proofs.Before.{one_fits}
use Rattle.places.proofs.Locates.{Locates, locates_as, locates_then, locates_got}
use Rattle.places.proofs.Elements.{headed, Passes, passes_headed, locates_field, want_field, locates_span}
use Rattle.places.proofs.Fields.{locates_raw_from, locates_bool_from, locates_unsigned}
use Rattle.places.proofs.Tags.{number_judged, Refutes, instead_numbered, mended_by, locates_numbered}

pub passes_as : {A : Type 0} {read : List ℕ → Read A} (r : List ℕ → Read A) {at : ℕ} → ((t : List ℕ) → read t ≡ r t) → Passes r at → Passes read at
passes_as r e p = record { passes = λ t f k. e t ∙ p.passes t f k }

-- ---- a tag 1, and what follows it

one_tagged : {A : Type 0} → (ℕ → List ℕ → Read A) → ℕ → List ℕ → Read A
one_tagged rest at t = number_judged 1 (λ tag. eqb tag 1) (λ tag n u. rest n u) at t

tag_fits : (i : ℕ) → get_or (0x62 ∷ 0x01 ∷ []) i 0 < 256
tag_fits zero = omega arith
tag_fits (suc i) = one_fits 0x01 (omega arith) i

instead_one : {A : Type 0} (rest : ℕ → List ℕ → Read A) (at start : ℕ) → ((n : ℕ) → Locates (rest n) n start) → (s : List ℕ) → at ≤ length s
    → Instead (number_judged 1 (λ tag. eqb tag 1) (λ tag n u. rest n u) at) s at (TagAt 1 1 at)
unfolding number
instead_one rest at start j s h = instead_numbered 1 _ (λ tag m u. rest m u) at start (0x01 ∷ []) (omega arith) (omega arith) (omega arith) tag_fits refl (λ tag m z. j m) s h

refutes_one : {A : Type 0} (rest : ℕ → List ℕ → Read A) (at start : ℕ) → ((n : ℕ) → Locates (rest n) n start)
    → Refutes (number_judged 1 (λ tag. eqb tag 1) (λ tag n u. rest n u) at) 1 (λ tag. eqb tag 1) at start
refutes_one rest at start j = record { refutes = λ s v n h x e k. time_tag v at n x (instead_one rest at start j s h) e (eqb-false v 1 k) }

locates_one : {A : Type 0} (rest : ℕ → List ℕ → Read A) (at start : ℕ) → ((n : ℕ) → Locates (rest n) n start) → Locates (one_tagged rest at) at start
unfolding one_tagged
locates_one rest at start j =
    locates_numbered 1 (λ tag. eqb tag 1) (λ tag n u. rest n u) at start (omega arith) (mended_by (TagAt 1 1 at) (instead_one rest at start j)) (refutes_one rest at start j) (λ v n e. j n)

-- ---- time

is_time : TypeLengthField → Bool
is_time t = cond (is_bare_time t) true (is_list_of 2 t)

time_rest : TypeLengthField → ℕ → List ℕ → Read ℕ
time_rest t n u =
    cond (is_bare_time t) (then (raw_from u n t.len) λ r m. got r.value m)
    (one_tagged (λ m l. unsigned_at 4 l m) n u)

-- four bytes fit the width of four
bare_fits : (t : TypeLengthField) → is_bare_time t ≡ true → fits_width false 4 t ≡ true
bare_fits t e = rw (and_left (is_number false t.ty) _ e, eqb-true t.len 4 (and_right (is_number false t.ty) _ e))

time_is : (at : ℕ) (u : List ℕ) → time_at u at ≡ headed is_time time_rest at u
unfolding time_at headed then guard is_time time_rest one_tagged number_judged unsigned_at raw_at
time_is at u = by (tlf_at u at) refl
  where
    on : (t : TypeLengthField) (n : ℕ) (b : Bool) → is_bare_time t ≡ b → tlf_at u at ≡ got t n → time_at u at ≡ headed is_time time_rest at u
    on t n true k e = rw (e, k, bare_fits t k)
    on t n false k e = rw (e, k)

    by : (x : Read TypeLengthField) → tlf_at u at ≡ x → time_at u at ≡ headed is_time time_rest at u
    by (got t n) e = on t n (is_bare_time t) refl e
    by (refused f) e = rw e

locates_time_rest : (t : TypeLengthField) (n start : ℕ) → Locates (time_rest t n) n start
unfolding time_rest
locates_time_rest t n start = by (is_bare_time t)
  where
    by : (b : Bool) → Locates (λ u. cond b (then (raw_from u n t.len) λ r m. got r.value m) (one_tagged (λ m l. unsigned_at 4 l m) n u)) n start
    by true = locates_then _ (λ r m u. got r.value m) n start (locates_raw_from n t.len start) (λ r m. locates_got _ m start)
    by false = locates_one (λ m l. unsigned_at 4 l m) n start (λ m. locates_unsigned 4 (omega arith) m start)

pub locates_time : (at start : ℕ) → Locates (λ t. time_at t at) at start
unfolding is_time
locates_time at start =
    locates_as (headed is_time time_rest at) (time_is at)
    (locates_field is_time time_rest at start (want_field 6 5 Unsigned (omega arith) (omega arith) (omega arith) refl refl _ refl) (λ t n e. locates_time_rest t n start))

pub passes_time : (at : ℕ) → Passes (λ t. time_at t at) at
passes_time at = passes_as (headed is_time time_rest at) (time_is at) (passes_headed is_time time_rest at)

-- a value that is made of what was read behind a test
made : {A B : Type 0} (b : Bool) (f : Refusal) (x : Read A) (g : A → B) → then (guard b f x) (λ r m. got (g r) m) ≡ guard b f (then x λ r m. got (g r) m)
unfolding then guard
made true f x g = refl
made false f x g = refl

made_twice : {A B C : Type 0} (b : Bool) (f : Refusal) (x : Read A) (g : A → B) (h : B → C)
    → then (then (guard b f x) λ r m. got (g r) m) (λ v m. got (h v) m) ≡ guard b f (then x λ r m. got (h (g r)) m)
unfolding then guard
made_twice true f (got r m) g h = refl
made_twice true f (refused k) g h = refl
made_twice false f x g h = refl

-- what follows a head that passed a test
headless : {B : Type 0} (b : Bool) (f : Refusal) (n : ℕ) (k : ℕ → Read B) → then (guard b f (got tt n)) (λ (h : Unit {0}) m. k m) ≡ guard b f (k n)
unfolding then guard
headless true f n k = refl
headless false f n k = refl

-- ---- status

fits_narrowest : Bool → TypeLengthField → Bool
fits_narrowest s t = fits_width s (narrowest t.len) t

status_rest : TypeLengthField → ℕ → List ℕ → Read Status
status_rest t n u = then (raw_from u n t.len) λ r m. got (record { width = narrowest t.len; number = r.value }) m

status_is : (at : ℕ) (u : List ℕ) → status_at u at ≡ headed (fits_narrowest false) status_rest at u
unfolding status_at status_of headed then guard fits_narrowest status_rest unsigned_at raw_at
status_is at u = by (tlf_at u at) refl
  where
    by : (x : Read TypeLengthField) → tlf_at u at ≡ x → status_at u at ≡ headed (fits_narrowest false) status_rest at u
    by (got t n) e = rw e (made_twice (fits_width false (narrowest t.len) t) (mismatch at) (raw_from u n t.len) (λ r. r.value) (λ v. record { width = narrowest t.len; number = v }))
    by (refused f) e = rw e

pub locates_status : (at start : ℕ) → Locates (λ t. status_at t at) at start
unfolding fits_narrowest status_rest
locates_status at start =
    locates_as (headed (fits_narrowest false) status_rest at) (status_is at)
    (locates_field (fits_narrowest false) status_rest at start (want_field 6 2 Unsigned (omega arith) (omega arith) (omega arith) refl refl _ refl)
    (λ t n e. locates_then _ (λ r m u. got (record { width = narrowest t.len; number = r.value }) m) n start (locates_raw_from n t.len start) (λ r m. locates_got _ m start)))

pub passes_status : (at : ℕ) → Passes (λ t. status_at t at) at
passes_status at = passes_as (headed (fits_narrowest false) status_rest at) (status_is at) (passes_headed (fits_narrowest false) status_rest at)

-- ---- value

is_value : Ty → TypeLengthField → Bool
is_value OctetString t = true
is_value Boolean t = eqb t.len 1
is_value Integer t = leb 1 t.len && leb t.len (narrowest t.len)
is_value Unsigned t = leb 1 t.len && leb t.len (narrowest t.len)
is_value ListOf t = eqb t.len 2

time_value : ℕ → List ℕ → Read (Value Span)
time_value m u = then (time_at u m) λ time k. got (list_time time) k

value_rest : Ty → TypeLengthField → ℕ → List ℕ → Read (Value Span)
value_rest OctetString t n u = then (span_at u n t.len) λ p m. got (bytes p) m
value_rest Boolean t n u = then (bool_from u n) λ b m. got (truth b) m
value_rest Integer t n u = then (raw_from u n t.len) λ r m. got (signed (narrowest t.len) (signed_of r.len r.value)) m
value_rest Unsigned t n u = then (raw_from u n t.len) λ r m. got (unsigned (narrowest t.len) r.value) m
value_rest ListOf t n u = one_tagged time_value n u

locates_value_rest : (ty : Ty) (t : TypeLengthField) (n start : ℕ) → Locates (value_rest ty t n) n start
unfolding value_rest time_value
locates_value_rest OctetString t n start = locates_then _ (λ p m u. got (bytes p) m) n start (locates_span n t.len start) (λ p m. locates_got _ m start)
locates_value_rest Boolean t n start = locates_then _ (λ b m u. got (truth b) m) n start (locates_bool_from n start) (λ b m. locates_got _ m start)
locates_value_rest Integer t n start = locates_then _ (λ r m u. got (signed (narrowest t.len) (signed_of r.len r.value)) m) n start (locates_raw_from n t.len start) (λ r m. locates_got _ m start)
locates_value_rest Unsigned t n start = locates_then _ (λ r m u. got (unsigned (narrowest t.len) r.value) m) n start (locates_raw_from n t.len start) (λ r m. locates_got _ m start)
locates_value_rest ListOf t n start = locates_one time_value n start (λ m. locates_then _ (λ time k u. got (list_time time) k) m start (locates_time m start) (λ time k. locates_got _ k start))

value_is : (at : ℕ) (u : List ℕ) → value_at u at ≡ headed (λ t. is_value t.ty t) (λ t. value_rest t.ty t) at u
unfolding value_at value_of_claim headed then guard is_value value_rest signed_value unsigned_value unsigned_at signed_at raw_at bool_at octets_at list_type_at list_of_at one_tagged number_judged time_value
value_is at u = by (tlf_at u at) refl
  where
    on : (t : TypeLengthField) (n : ℕ) (ty : Ty) → t.ty ≡ ty → tlf_at u at ≡ got t n → value_at u at ≡ headed (λ h. is_value h.ty h) (λ h. value_rest h.ty h) at u
    on t n OctetString k e = rw (e, k, e, k)
    on t n Boolean k e = rw (e, k, e, k) (made (eqb t.len 1) (mismatch at) (bool_from u n) truth)
    on t n Integer k e = rw (e, k, e, k) (made_twice (leb 1 t.len && leb t.len (narrowest t.len)) (mismatch at) (raw_from u n t.len) (λ r. signed_of r.len r.value) (signed (narrowest t.len)))
    on t n Unsigned k e = rw (e, k, e, k) (made_twice (leb 1 t.len && leb t.len (narrowest t.len)) (mismatch at) (raw_from u n t.len) (λ r. r.value) (unsigned (narrowest t.len)))
    on t n ListOf k e = rw (e, k, e, k) (headless (eqb t.len 2) (mismatch at) n (λ m. one_tagged time_value m u))

    by : (x : Read TypeLengthField) → tlf_at u at ≡ x → value_at u at ≡ headed (λ h. is_value h.ty h) (λ h. value_rest h.ty h) at u
    by (got t n) e = on t n t.ty refl e
    by (refused f) e = rw e

pub locates_value : (at start : ℕ) → Locates (λ t. value_at t at) at start
unfolding is_value
locates_value at start =
    locates_as (headed (λ t. is_value t.ty t) (λ t. value_rest t.ty t) at) (value_is at)
    (locates_field (λ t. is_value t.ty t) (λ t. value_rest t.ty t) at start (want_field 0 1 OctetString (omega arith) (omega arith) (omega arith) refl refl _ refl)
    (λ t n e. locates_value_rest t.ty t n start))

pub passes_value : (at : ℕ) → Passes (λ t. value_at t at) at
passes_value at = passes_as (headed (λ t. is_value t.ty t) (λ t. value_rest t.ty t) at) (value_is at) (passes_headed _ _ at)
