-- Where the readings of records, bodies, starts and list ends refuse: a line a field.
use mathlib.Core.Path.{◌≡◌, refl, sym}
use mathlib.Core.Bool.{Bool, true, false, cond, false≢true}
use mathlib.Core.List.{List, [], ◌∷◌}
use Prim.Native.Nat.{ℕ, zero, suc, ◌<◌, ◌≤◌}
use native.Mathlib.Omega.{arith}
use lib.ListN.{length, get_or}
use lib.Dec.{eqb}
use borrow.Author.Tests.{eqb-false}
use Rattle.refusals.specs.Read.{Read, got, refused, then, guard, unexpected}
use Rattle.refusals.specs.declared.Span.{Span}
use Rattle.tlf.specs.Lengths.{is_list}
use Rattle.numbers.specs.Numbers.{number, unsigned_at, signed_at}
use Rattle.octet_string.specs.Strings.{octets_at}
use Rattle.octet_string.specs.Optional.{optional}
use Rattle.value.specs.Values.{time_at, status_at}
use Rattle.common.specs.Fields.{open_at, close_at, entry_at}
use Rattle.message.specs.Messages.{Body, open_body, close_body, list_body, list_start_at, list_end_at, content_at, body_at, start_at}
use Rattle.places.specs.Stands.{Instead, TagAt, message_tag}
use Rattle.places.proofs.Before.{one_fits}
use Rattle.places.proofs.Locates.{Locates, locates_as, locates_then, locates_got}
use Rattle.places.proofs.Elements.{headed, locates_field, locates_list_of, want_list}
use Rattle.places.proofs.Fields.{locates_unsigned, passes_unsigned, locates_signed, passes_signed, locates_octets, passes_octets, locates_optional}
use Rattle.places.proofs.Tags.{number_judged, Refutes, instead_numbered, mended_by, locates_numbered}
use Rattle.places.proofs.Values.{locates_time, passes_time, locates_status, passes_status, locates_value}

-- ---- fields

locates_opt_octets : (at start : ℕ) → Locates (λ t. optional octets_at t at) at start
locates_opt_octets at start = locates_optional octets_at at start (passes_octets at) (locates_octets at start)

locates_opt_time : (at start : ℕ) → Locates (λ t. optional time_at t at) at start
locates_opt_time at start = locates_optional time_at at start (passes_time at) (locates_time at start)

locates_opt_status : (at start : ℕ) → Locates (λ t. optional status_at t at) at start
locates_opt_status at start = locates_optional status_at at start (passes_status at) (locates_status at start)

locates_opt_u8 : (at start : ℕ) → Locates (λ t. optional (unsigned_at 1) t at) at start
locates_opt_u8 at start = locates_optional (unsigned_at 1) at start (passes_unsigned 1 at) (locates_unsigned 1 (omega arith) at start)

locates_opt_i8 : (at start : ℕ) → Locates (λ t. optional (signed_at 1) t at) at start
locates_opt_i8 at start = locates_optional (signed_at 1) at start (passes_signed 1 at) (locates_signed 1 (omega arith) at start)

-- ---- records

pub locates_open : (at start : ℕ) → Locates (λ t. open_at t at) at start
unfolding open_at
locates_open at start =
    locates_then _ _ at start (locates_list_of 6 (omega arith) at start) (λ list n₀.
    locates_then _ _ n₀ start (locates_opt_octets n₀ start) (λ codepage n₁.
    locates_then _ _ n₁ start (locates_opt_octets n₁ start) (λ client n₂.
    locates_then _ _ n₂ start (locates_octets n₂ start) (λ file n₃.
    locates_then _ _ n₃ start (locates_octets n₃ start) (λ server n₄.
    locates_then _ _ n₄ start (locates_opt_time n₄ start) (λ time n₅.
    locates_then _ _ n₅ start (locates_opt_u8 n₅ start) (λ version n₆.
    locates_got _ n₆ start)))))))

pub locates_close : (at start : ℕ) → Locates (λ t. close_at t at) at start
unfolding close_at
locates_close at start =
    locates_then _ _ at start (locates_list_of 1 (omega arith) at start) (λ list n₀.
    locates_then _ _ n₀ start (locates_opt_octets n₀ start) (λ signature n₁.
    locates_got _ n₁ start))

pub locates_entry : (at start : ℕ) → Locates (λ t. entry_at t at) at start
unfolding entry_at
locates_entry at start =
    locates_then _ _ at start (locates_list_of 7 (omega arith) at start) (λ list n₀.
    locates_then _ _ n₀ start (locates_octets n₀ start) (λ name n₁.
    locates_then _ _ n₁ start (locates_opt_status n₁ start) (λ status n₂.
    locates_then _ _ n₂ start (locates_opt_time n₂ start) (λ time n₃.
    locates_then _ _ n₃ start (locates_opt_u8 n₃ start) (λ unit n₄.
    locates_then _ _ n₄ start (locates_opt_i8 n₄ start) (λ scaler n₅.
    locates_then _ _ n₅ start (locates_value n₅ start) (λ value n₆.
    locates_then _ _ n₆ start (locates_opt_octets n₆ start) (λ signature n₇.
    locates_got _ n₇ start))))))))

-- the head of the entries: any list
pub locates_list_start : (at start : ℕ) → Locates (λ t. list_start_at t at) at start
unfolding list_start_at headed
locates_list_start at start =
    locates_then _ _ at start (locates_list_of 7 (omega arith) at start) (λ list n₀.
    locates_then _ _ n₀ start (locates_opt_octets n₀ start) (λ client n₁.
    locates_then _ _ n₁ start (locates_octets n₁ start) (λ server n₂.
    locates_then _ _ n₂ start (locates_opt_octets n₂ start) (λ name n₃.
    locates_then _ _ n₃ start (locates_opt_time n₃ start) (λ time n₄.
    locates_field (λ t. is_list t.ty) (λ t n u. got _ n) n₄ start (want_list 0 (omega arith) _ refl) (λ t n e. locates_got _ n start))))))

pub locates_list_end : (at start : ℕ) → Locates (λ t. list_end_at t at) at start
unfolding list_end_at
locates_list_end at start =
    locates_then _ _ at start (locates_opt_octets at start) (λ signature n₁.
    locates_then _ _ n₁ start (locates_opt_time n₁ start) (λ time n₂.
    locates_got _ n₂ start))

-- ---- a body: a known tag, and its content

is_tag : ℕ → Bool
is_tag tag = cond (eqb tag 0x00000101) true (cond (eqb tag 0x00000201) true (eqb tag 0x00000701))

known : ℕ → ℕ → List ℕ → Read (Body Span)
known tag n t =
    cond (eqb tag 0x00000101) (then (open_at t n) λ b m. got (open_body b) m)
    (cond (eqb tag 0x00000201) (then (close_at t n) λ b m. got (close_body b) m)
    (then (list_start_at t n) λ b m. got (list_body b) m))

content_is : (place tag n : ℕ) (t : List ℕ) → content_at t place tag n ≡ guard (is_tag tag) (unexpected place) (known tag n t)
unfolding content_at guard is_tag known
content_is place tag n t = by (eqb tag 0x00000101) (eqb tag 0x00000201) (eqb tag 0x00000701)
  where
    by : (a b c : Bool) → cond a (then (open_at t n) λ x m. got (open_body x) m) (cond b (then (close_at t n) λ x m. got (close_body x) m) (cond c (then (list_start_at t n) λ x m. got (list_body x) m) (refused (unexpected place))))
        ≡ guard (cond a true (cond b true c)) (unexpected place) (cond a (then (open_at t n) λ x m. got (open_body x) m) (cond b (then (close_at t n) λ x m. got (close_body x) m) (then (list_start_at t n) λ x m. got (list_body x) m)))
    by true b c = refl
    by false true c = refl
    by false false true = refl
    by false false false = refl

locates_known : (tag n start : ℕ) → Locates (known tag n) n start
unfolding known
locates_known tag n start = by (eqb tag 0x00000101) (eqb tag 0x00000201)
  where
    by : (a b : Bool) → Locates (λ t. cond a (then (open_at t n) λ x m. got (open_body x) m) (cond b (then (close_at t n) λ x m. got (close_body x) m) (then (list_start_at t n) λ x m. got (list_body x) m))) n start
    by true b = locates_then _ (λ x m t. got (open_body x) m) n start (locates_open n start) (λ x m. locates_got _ m start)
    by false true = locates_then _ (λ x m t. got (close_body x) m) n start (locates_close n start) (λ x m. locates_got _ m start)
    by false false = locates_then _ (λ x m t. got (list_body x) m) n start (locates_list_start n start) (λ x m. locates_got _ m start)

no_tag : (tag : ℕ) → is_tag tag ≡ false → (tag ≡ 0x101 → ⊥) × (tag ≡ 0x201 → ⊥) × (tag ≡ 0x701 → ⊥)
unfolding is_tag
no_tag tag e = by (eqb tag 0x101) refl (eqb tag 0x201) refl e
  where
    by : (a : Bool) → eqb tag 0x101 ≡ a → (b : Bool) → eqb tag 0x201 ≡ b → cond a true (cond b true (eqb tag 0x701)) ≡ false → (tag ≡ 0x101 → ⊥) × (tag ≡ 0x201 → ⊥) × (tag ≡ 0x701 → ⊥)
    by true p b q k = absurd (false≢true (sym k))
    by false p true q k = absurd (false≢true (sym k))
    by false p false q k = (eqb-false tag 0x101 p, eqb-false tag 0x201 q, eqb-false tag 0x701 k)

tagged : ℕ → List ℕ → Read (Body Span)
tagged n t = then (unsigned_at 4 t n) λ tag m. content_at t n tag m

tagged_is : (n : ℕ) (t : List ℕ) → tagged n t ≡ number_judged 4 is_tag known n t
unfolding tagged number_judged then
tagged_is n t = by (unsigned_at 4 t n)
  where
    by : (x : Read ℕ) → then x (λ tag m. content_at t n tag m) ≡ then x (λ tag m. guard (is_tag tag) (unexpected n) (known tag m t))
    by (got tag m) = content_is n tag m t
    by (refused f) = refl

tag_fits : (i : ℕ) → get_or (0x63 ∷ 0x01 ∷ 0x01 ∷ []) i 0 < 256
tag_fits zero = omega arith
tag_fits (suc zero) = omega arith
tag_fits (suc (suc i)) = one_fits 0x01 (omega arith) i

instead_tag : (n start : ℕ) (s : List ℕ) → n ≤ length s → Instead (number_judged 4 is_tag known n) s n (TagAt 4 0x101 n)
unfolding is_tag number
instead_tag n start s h = instead_numbered 4 is_tag known n start (0x01 ∷ 0x01 ∷ []) (omega arith) (omega arith) (omega arith) tag_fits refl (λ tag i y. locates_known tag i start) s h

refutes_tag : (n start : ℕ) → Refutes (number_judged 4 is_tag known n) 4 is_tag n start
refutes_tag n start =
    record { refutes = λ s v m h x e k. let z = no_tag v k in message_tag v n m x (instead_tag n start s h) e z.0 z.1 z.2 }

locates_tagged : (n start : ℕ) → Locates (tagged n) n start
locates_tagged n start =
    locates_as (number_judged 4 is_tag known n) (tagged_is n)
    (locates_numbered 4 is_tag known n start (omega arith) (mended_by (TagAt 4 0x101 n) (instead_tag n start)) (refutes_tag n start) (λ v m e. locates_known v m start))

pub locates_body : (at start : ℕ) → Locates (λ t. body_at t at) at start
unfolding body_at tagged
locates_body at start = locates_then _ (λ list n. tagged n) at start (locates_list_of 2 (omega arith) at start) (λ list n. locates_tagged n start)

pub locates_start : (at start : ℕ) → Locates (λ t. start_at t at) at start
unfolding start_at
locates_start at start =
    locates_then _ _ at start (locates_list_of 6 (omega arith) at start) (λ list n₀.
    locates_then _ _ n₀ start (locates_octets n₀ start) (λ transaction n₁.
    locates_then _ _ n₁ start (locates_unsigned 1 (omega arith) n₁ start) (λ group n₂.
    locates_then _ _ n₂ start (locates_unsigned 1 (omega arith) n₂ start) (λ abort n₃.
    locates_then _ _ n₃ start (locates_body n₃ start) (λ body n₄.
    locates_got _ n₄ start)))))
