-- Where the readings of numbers, strings and optional fields refuse, and those that judge a number.
use mathlib.Core.Path.{◌≡◌, refl, sym, ap, ◌∙◌, subst}
use mathlib.Core.Bool.{Bool, true, false, ◌&&◌, false≢true}
use mathlib.Core.Option.{Option, some, none}
use mathlib.Core.List.{List, [], ◌∷◌, ◌++◌}
use Prim.Native.Nat.{ℕ, ◌+◌, ◌*◌, ◌≤◌, ◌<◌}
use native.Mathlib.Omega.{arith}
use lib.ListN.{length, get_or, take, length-append}
use lib.Dec.{leb, ltb, eqb}
use lib.Seq.{length-take-le, get_or_at}
use borrow.Author.Tests.{leb-true, leb-false, lt-ltb, le-ltb, le-leb, eqb-true}
use Rattle.refusals.specs.Read.{Read, got, refused, Refusal, then, guard, need, byte_at, span_at, mismatch}
use Rattle.refusals.specs.Answers.{invalid_ty}
use Rattle.refusals.proofs.Read.{and_right}
use Rattle.refusals.proofs.Codes.{refusal_number}
use Rattle.tlf.specs.Lengths.{is_boolean, tlf_at}
use Rattle.tlf.specs.declared.Ty.TheVariants.{OctetString, Boolean, Integer, Unsigned}
use Rattle.tlf.specs.declared.TypeLengthField.{TypeLengthField}
use Rattle.tlf.proofs.Ends.{tlf_end}
use Rattle.tlf.proofs.Short.{field_one}
use Rattle.numbers.specs.Numbers.{number, bytes_at_claim, fits_width, raw_from, raw_at, unsigned_at, signed_of, signed_at, bool_from, bool_at}
use Rattle.trailer.specs.Trailer.{swapped, crc_from}
use Rattle.octet_string.specs.Strings.{is_octets, octets_at}
use Rattle.octet_string.specs.Optional.{absent_at, optional}
use Rattle.octet_string.proofs.Optional.{absent_room}
use Rattle.places.specs.Stands.{SameBefore, Looked, Element, Instead, Whatever, Closed, EndByte}
use Rattle.places.specs.Readers.{NotTen}
use Rattle.places.proofs.Before.{same_cut, same_long, same_byte, same_whole, same_front, length_front, byte_front, one_fits}
use Rattle.places.proofs.Seen.{is_got, Taken, Seen}
use Rattle.places.proofs.Lengths.{cut_eof}
use Rattle.places.proofs.Grows.{number_bytes_is, number_bytes_short}
use Rattle.places.proofs.Locates.{Stood, Locates, Maps, stands_map, locates_then, locates_got}
use Rattle.places.proofs.Elements.{locates_bytes, locates_byte, locates_span, headed, Wanted, Passes, element_at_lem, passes_headed, locates_field, want_field}

pub passes_then : {A B : Type 0} (r : List ℕ → Read A) (k : A → ℕ → List ℕ → Read B) (at : ℕ) → Passes r at → Passes (λ t. then (r t) (λ a n. k a n t)) at
unfolding then
passes_then r k at p = record { passes = λ t f e. rw (p.passes t f e) }

-- ---- numbers

locates_number_bytes : (at n start : ℕ) → Locates (λ t. bytes_at_claim t at n) at start
locates_number_bytes at n start = locates_bytes _ (number 0) at n start (number_bytes_is at n) (number_bytes_short at n)

pub locates_raw_from : (at len start : ℕ) → Locates (λ t. raw_from t at len) at start
unfolding raw_from
locates_raw_from at len start = locates_then _ _ at start (locates_number_bytes at len start) (λ v n. locates_got _ n start)

want_number : (signed : Bool) (width : ℕ) → 1 ≤ width → Wanted (fits_width signed width)
want_number true width h = want_field 5 2 Integer (omega arith) (omega arith) (omega arith) refl refl _ (le-leb 1 width h)
want_number false width h = want_field 6 2 Unsigned (omega arith) (omega arith) (omega arith) refl refl _ (le-leb 1 width h)

locates_raw : (signed : Bool) (width : ℕ) → 1 ≤ width → (at start : ℕ) → Locates (λ t. raw_at signed width t at) at start
unfolding raw_at headed
locates_raw signed width h at start = locates_field (fits_width signed width) (λ t n u. raw_from u n t.len) at start (want_number signed width h) (λ t n e. locates_raw_from n t.len start)

passes_raw : (signed : Bool) (width at : ℕ) → Passes (λ t. raw_at signed width t at) at
unfolding raw_at headed
passes_raw signed width at = passes_headed (fits_width signed width) (λ t n u. raw_from u n t.len) at

pub locates_unsigned : (width : ℕ) → 1 ≤ width → (at start : ℕ) → Locates (λ t. unsigned_at width t at) at start
unfolding unsigned_at
locates_unsigned width h at start = locates_then _ _ at start (locates_raw false width h at start) (λ r n. locates_got _ n start)

pub passes_unsigned : (width at : ℕ) → Passes (λ t. unsigned_at width t at) at
unfolding unsigned_at
passes_unsigned width at = passes_then _ (λ r n t. got r.value n) at (passes_raw false width at)

pub locates_signed : (width : ℕ) → 1 ≤ width → (at start : ℕ) → Locates (λ t. signed_at width t at) at start
unfolding signed_at
locates_signed width h at start = locates_then _ _ at start (locates_raw true width h at start) (λ r n. locates_got _ n start)

pub passes_signed : (width at : ℕ) → Passes (λ t. signed_at width t at) at
unfolding signed_at
passes_signed width at = passes_then _ (λ r n t. got (signed_of r.len r.value) n) at (passes_raw true width at)

pub locates_bool_from : (at start : ℕ) → Locates (λ t. bool_from t at) at start
unfolding bool_from
locates_bool_from at start = locates_then _ _ at start (locates_byte at start) (λ b n. locates_got _ n start)

is_truth : TypeLengthField → Bool
is_truth t = is_boolean t.ty && eqb t.len 1

pub locates_bool : (at start : ℕ) → Locates (λ t. bool_at t at) at start
unfolding bool_at headed is_truth
locates_bool at start =
    locates_field is_truth (λ t n u. bool_from u n) at start (want_field 4 2 Boolean (omega arith) (omega arith) (omega arith) refl refl _ refl) (λ t n e. locates_bool_from n start)

pub passes_bool : (at : ℕ) → Passes (λ t. bool_at t at) at
unfolding bool_at headed is_truth
passes_bool at = passes_headed is_truth (λ t n u. bool_from u n) at

-- ---- strings

pub locates_octets : (at start : ℕ) → Locates (λ t. octets_at t at) at start
unfolding octets_at headed
locates_octets at start =
    locates_field (λ t. is_octets t.ty) (λ t n u. span_at u n t.len) at start (want_field 0 1 OctetString (omega arith) (omega arith) (omega arith) refl refl _ refl)
    (λ t n e. locates_span n t.len start)

pub passes_octets : (at : ℕ) → Passes (λ t. octets_at t at) at
unfolding octets_at headed
passes_octets at = passes_headed (λ t. is_octets t.ty) (λ t n u. span_at u n t.len) at

-- ---- optional fields

absent_end : (t : List ℕ) (at : ℕ) → length t ≤ at → absent_at t at ≡ false
unfolding absent_at
absent_end t at h = rw (le-ltb at (length t) h)

absent_same : {s t : List ℕ} {q : ℕ} (at : ℕ) → at < q → SameBefore q s t → absent_at t at ≡ absent_at s at
unfolding absent_at
absent_same {s} {t} {q} at h w = by (leb q (length s)) refl
  where
    by : (b : Bool) → leb q (length s) ≡ b → absent_at t at ≡ absent_at s at
    by true e = let k = leb-true q (length s) e in rw (lt-ltb at (length t) (omega (arith, same_long k w)), lt-ltb at (length s) (omega arith), same_byte at h w)
    by false e = let k = leb-false q (length s) e in ap (λ (l : List ℕ). absent_at l at) (same_whole k w)

absent_cut : (s : List ℕ) (at m : ℕ) → at ≤ m → m ≤ length s → absent_at s at ≡ false → absent_at (take m s) at ≡ false
absent_cut s at m p j e = by (leb m at) refl
  where
    by : (b : Bool) → leb m at ≡ b → absent_at (take m s) at ≡ false
    by true k = let l = leb-true m at k in absent_end (take m s) at (omega (arith, length-take-le m s j))
    by false k = let l = leb-false m at k in absent_same {q = m} at l (same_cut s {m = m} (omega arith)) ∙ e

-- 01 is a length field, of an empty string
absent_is_string : (t : List ℕ) (at : ℕ) → absent_at t at ≡ true → tlf_at t at ≡ got (record { ty = OctetString; len = 0 }) (at + 1)
unfolding absent_at
absent_is_string t at k =
    let b : get_or t at 0 ≡ 16 * 0 + 1 = eqb-true _ _ (and_right (ltb at (length t)) _ k) in
    field_one t at 0 1 OctetString (absent_room t at k) b (omega arith) (omega arith) refl refl (omega arith)

absent_is_no_refusal : (t : List ℕ) (at : ℕ) (f : Refusal) → tlf_at t at ≡ refused f → absent_at t at ≡ true → ⊥
absent_is_no_refusal t at f e k =
    let z : ◌≡◌ {A = ℕ} 1 0 = ap is_got (sym (absent_is_string t at k) ∙ e) in
    absurd (omega (arith, z))

not_absent : (t : List ℕ) (at : ℕ) (f : Refusal) → tlf_at t at ≡ refused f → absent_at t at ≡ false
not_absent t at f e = by (absent_at t at) refl
  where
    by : (b : Bool) → absent_at t at ≡ b → b ≡ false
    by true k = absurd (absent_is_no_refusal t at f e k)
    by false k = refl

pub passes_optional : {A : Type 0} (read : List ℕ → ℕ → Read A) (at : ℕ) → Passes (λ t. read t at) at → Passes (λ t. optional read t at) at
unfolding optional then
passes_optional read at p = record { passes = λ t f e. rw (not_absent t at f e, p.passes t f e) }

-- a reading that begins with a length takes a byte at least
taken_past : {A : Type 0} {read : List ℕ → Read A} {s : List ℕ} {at n : ℕ} (a : A) → Passes read at → at ≤ length s → read s ≡ got a n → Taken read s at n → at < n
taken_past {A} {read} {s} {at} {n} a p h e w = by (leb n at) refl
  where
    by : (b : Bool) → leb n at ≡ b → at < n
    by true k =
        let l = leb-true n at k in
        let g = w.looked in
        let c = p.passes (take at s) _ (tlf_end (take at s) at (omega (arith, length-take-le at s h))) in
        let z : ◌≡◌ {A = ℕ} 0 1 = ap is_got (sym c ∙ g.alike (take at s) (same_cut s l) ∙ e) in
        absurd (omega (arith, z))
    by false k = leb-false n at k

-- where an element begins no end byte stands
pub no_end_byte : {A : Type 0} {read : List ℕ → Read A} {s : List ℕ} {at : ℕ} → Passes read at → at ≤ length s → EndByte read s at → ⊥
unfolding tlf_at byte_at then guard need
no_end_byte {A} {read} {s} {at} p h e =
    let u : List ℕ = take at s ++ 0x10 ∷ [] in
    let l : at < length u = omega (arith, length_front s (0x10 ∷ []) at h) in
    let x : tlf_at u at ≡ refused (invalid_ty at) = rw (lt-ltb at (length u) l, byte_front s [] 0x10 at h) in
    let y = e.judged u (same_front s (0x10 ∷ []) at h) l (λ z. let o : ◌≡◌ {A = ℕ} 0x10 0 = sym (byte_front s [] 0x10 at h) ∙ z in absurd (omega (arith, o))) in
    let n : ◌≡◌ {A = ℕ} 11 15 = ap refusal_number (sym (p.passes u _ x) ∙ y) in
    absurd (omega (arith, n))

-- a field that is there
there : {A : Type 0} → (List ℕ → ℕ → Read A) → ℕ → List ℕ → Read (Option A)
there read at t = then (read t at) λ a n. got (some a) n

passes_there : {A : Type 0} (read : List ℕ → ℕ → Read A) (at : ℕ) → Passes (λ t. read t at) at → Passes (there read at) at
unfolding there
passes_there read at p = passes_then (λ t. read t at) (λ a n t. got (some a) n) at p

locates_there : {A : Type 0} (read : List ℕ → ℕ → Read A) (at start : ℕ) → Locates (λ t. read t at) at start → Locates (there read at) at start
unfolding there
locates_there read at start j = locates_then (λ t. read t at) (λ a n t. got (some a) n) at start j (λ a n. locates_got (some a) n start)

is_there_lem : {A : Type 0} (read : List ℕ → ℕ → Read A) (at : ℕ) (t : List ℕ) → absent_at t at ≡ false → optional read t at ≡ there read at t
unfolding optional there
is_there_lem read at t e = rw e

is_absent : {A : Type 0} (read : List ℕ → ℕ → Read A) (at : ℕ) (t : List ℕ) → absent_at t at ≡ true → optional read t at ≡ got none (at + 1)
unfolding optional
is_absent read at t e = rw e

-- an element or an end byte behind the first byte, or an element at it
optional_element : {A : Type 0} (read : List ℕ → ℕ → Read A) (at : ℕ) (s : List ℕ) → Passes (λ t. read t at) at → absent_at s at ≡ false → (m : ℕ) → at ≤ m
    → Element (there read at) s m → Element (λ t. optional read t at) s m
optional_element {A} read at s p e m l x = by (leb m at) refl
  where
    by : (b : Bool) → leb m at ≡ b → Element (λ t. optional read t at) s m
    by true k =
        let w = x.within in
        let h = leb-true m at k in
        let o : at ≡ m = omega arith in
        subst (λ (n : ℕ). Element (λ t. optional read t at) s n) o (element_at_lem (passes_optional read at p) s (omega (arith, w)))
    by false k = record { within = x.within; passed = λ t f v y. is_there_lem read at t (absent_same at (leb-false m at k) v ∙ e) ∙ x.passed t f v y }

optional_end_byte : {A : Type 0} (read : List ℕ → ℕ → Read A) (at : ℕ) (s : List ℕ) → Passes (λ t. read t at) at → absent_at s at ≡ false → (m : ℕ) → at ≤ m → m ≤ length s
    → EndByte (there read at) s m → EndByte (λ t. optional read t at) s m
optional_end_byte {A} read at s p e m l w x = by (leb m at) refl
  where
    by : (b : Bool) → leb m at ≡ b → EndByte (λ t. optional read t at) s m
    by true k =
        let i = leb-true m at k in
        let o : m ≡ at = omega arith in
        absurd (no_end_byte (passes_there read at p) (omega arith) (subst (λ (n : ℕ). EndByte (there read at) s n) o x))
    by false k =
        let u : List ℕ = take m s ++ 0x00 ∷ x.more in
        let o : optional read u at ≡ there read at u = is_there_lem read at u (absent_same at (leb-false m at k) (same_front s (0x00 ∷ x.more) m w) ∙ e) in
        record {
          judged = λ t v y z. is_there_lem read at t (absent_same at (leb-false m at k) v ∙ e) ∙ x.judged t v y z;
          more = x.more;
          bytes = x.bytes;
          closed = subst (λ (r : Read (Option A)). Closed m u r) (sym o) x.closed;
        }

-- 01 at an input's end is accepted
absent_end_one : (s : List ℕ) (at : ℕ) → length s ≡ at → absent_at (s ++ 0x01 ∷ []) at ≡ true
unfolding absent_at
absent_end_one s at h = rw (lt-ltb at (length (s ++ 0x01 ∷ [])) (omega (arith, length-append s (0x01 ∷ []))), get_or_at s 0x01 [] 0 at h)

absent_accepted : {A : Type 0} (read : List ℕ → ℕ → Read A) (s : List ℕ) (at : ℕ) → length s ≡ at → optional read (s ++ 0x01 ∷ []) at ≡ got none (length (s ++ 0x01 ∷ []))
absent_accepted read s at h =
    let l : at + 1 ≡ length (s ++ 0x01 ∷ []) = omega (arith, length-append s (0x01 ∷ [])) in
    is_absent read at (s ++ 0x01 ∷ []) (absent_end_one s at h) ∙ ap (λ (n : ℕ). got none n) l

-- other bytes that are no 01 at the field's own place
present_instead : {A : Type 0} (read : List ℕ → ℕ → Read A) (at : ℕ) (s : List ℕ) {P : List ℕ → Type 0} → (m : ℕ) → (i : Instead (there read at) s m P) → absent_at (take m s ++ i.others) at ≡ false
    → Instead (λ t. optional read t at) s m P
present_instead read at s m i e =
    record { others = i.others; bytes = i.bytes; value = i.value; accepted = is_there_lem read at (take m s ++ i.others) e ∙ i.accepted; holds = i.holds }

-- behind it they are not
behind_instead : (s x : List ℕ) (at m : ℕ) → at < m → m ≤ length s → absent_at s at ≡ false → absent_at (take m s ++ x) at ≡ false
behind_instead s x at m h w e = absent_same at h (same_front s x m w) ∙ e

optional_whatever : {A : Type 0} (read : List ℕ → ℕ → Read A) (at : ℕ) (s : List ℕ) → absent_at s at ≡ false → (m : ℕ) → at ≤ m → m ≤ length s
    → Instead (there read at) s m Whatever → Instead (λ t. optional read t at) s m Whatever
optional_whatever {A} read at s e m l w i = by (leb m at) refl (absent_at (take m s ++ i.others) at) refl
  where
    by : (b : Bool) → leb m at ≡ b → (c : Bool) → absent_at (take m s ++ i.others) at ≡ c → Instead (λ t. optional read t at) s m Whatever
    by b k false z = present_instead read at s m i z
    by true k true z =
        let h = leb-true m at k in
        record { others = 0x01 ∷ []; bytes = λ f. one_fits 0x01 (omega arith); value = none; accepted = absent_accepted read (take m s) at (omega (arith, length-take-le m s w)); holds = tt }
    by false k true z =
        let y : ◌≡◌ {A = Bool} true false = sym z ∙ behind_instead s i.others at m (leb-false m at k) w e in
        absurd (false≢true (sym y))

optional_number : {A : Type 0} (read : List ℕ → ℕ → Read A) (at : ℕ) (s : List ℕ) {P : List ℕ → Type 0} → absent_at s at ≡ false → (m : ℕ) → at ≤ m → m ≤ length s
    → ((u : List ℕ) → P u → absent_at u m ≡ true → ⊥) → Instead (there read at) s m P → Instead (λ t. optional read t at) s m P
optional_number {A} read at s {P} e m l w never i = by (leb m at) refl (absent_at (take m s ++ i.others) at) refl
  where
    by : (b : Bool) → leb m at ≡ b → (c : Bool) → absent_at (take m s ++ i.others) at ≡ c → Instead (λ t. optional read t at) s m P
    by b k false z = present_instead read at s m i z
    by true k true z =
        let h = leb-true m at k in
        let o : at ≡ m = omega arith in
        absurd (never (take m s ++ i.others) i.holds (subst (λ (q : ℕ). absent_at (take m s ++ i.others) q ≡ true) o z))
    by false k true z =
        let y : ◌≡◌ {A = Bool} true false = sym z ∙ behind_instead s i.others at m (leb-false m at k) w e in
        absurd (false≢true (sym y))

-- 01 is no number
absent_no_number : (width tag n p : ℕ) (u : List ℕ) → unsigned_at width u p ≡ got tag n → absent_at u p ≡ true → ⊥
unfolding unsigned_at raw_at then guard
absent_no_number width tag n p u h e =
    let z : ◌≡◌ {A = Read ℕ} (refused (mismatch p)) (unsigned_at width u p) = rw (absent_is_string u p e) in
    let k : ◌≡◌ {A = ℕ} 12 0 = ap refusal_number (z ∙ h) in
    omega (arith, k)

maps_optional : {A : Type 0} (read : List ℕ → ℕ → Read A) (at : ℕ) (s : List ℕ) (start : ℕ) → Passes (λ t. read t at) at → absent_at s at ≡ false
    → Maps (there read at) (λ t. optional read t at) s start (λ m. at ≤ m)
maps_optional read at s start p e =
    record {
      element = optional_element read at s p e;
      end_byte_claim = optional_end_byte read at s p e;
      whatever = optional_whatever read at s e;
      at_tag = λ width tag m l w i. optional_number read at s e m l w (λ u x z. absent_no_number width tag x.next m u x.is z) i;
      at_crc = λ m l w i. optional_number read at s e m l w (λ u x z. absent_no_number 2 (swapped (crc_from u start m)) x.next m u x.is z) i;
    }

optional_looked : {A : Type 0} (read : List ℕ → ℕ → Read A) (at : ℕ) (s : List ℕ) (q : ℕ) → absent_at s at ≡ false → at < q → Looked (there read at) s at q → Looked (λ t. optional read t at) s at q
optional_looked read at s q e h l =
    record {
      cut = λ m a b c. is_there_lem read at (take m s) (absent_cut s at m a c e) ∙ l.cut m a b c;
      alike = λ t w. is_there_lem read at t (absent_same at h w ∙ e) ∙ l.alike t w ∙ sym (is_there_lem read at s e);
    }

pub locates_optional : {A : Type 0} (read : List ℕ → ℕ → Read A) (at start : ℕ) → Passes (λ t. read t at) at → Locates (λ t. read t at) at start → Locates (λ t. optional read t at) at start
locates_optional {A} read at start p j =
    record {
      seen = λ s h. by s h (absent_at s at) refl;
      missing = λ s h.
          let m = (locates_there read at start j).missing s h in
          record { more = m.more; bytes = m.bytes; not_ten = told (s ++ m.more) m.not_ten (absent_at (s ++ m.more) at) refl };
      accepts = λ s h. record { more = 0x01 ∷ []; fit = λ f. one_fits 0x01 (omega arith); value = none; is = absent_accepted read s at h };
    }
  where
    told : (u : List ℕ) → NotTen (there read at u) → (b : Bool) → absent_at u at ≡ b → NotTen (optional read u at)
    told u h true e = rw (is_absent read at u e) tt
    told u h false e = rw (is_there_lem read at u e) h

    on : (s : List ℕ) → at ≤ length s → absent_at s at ≡ false → (x : Read (Option A)) → there read at s ≡ x → Seen (Stood (there read at) s at start) (there read at) s at x
        → Seen (Stood (λ t. optional read t at) s at start) (λ t. optional read t at) s at x
    on s h e (got a n) k w =
        let v = w.seen in
        record { seen = record { low = v.low; high = v.high; looked = optional_looked read at s n e (taken_past a (passes_there read at p) h k v) v.looked } }
    on s h e (refused f) k w =
        let v = w.seen in
        let u = v.what in
        let b = u.begun in
        let c = u.before in
        record {
          seen = record {
            behind = v.behind;
            low = v.low;
            looked = optional_looked read at s v.behind e (omega (arith, b, c)) v.looked;
            what = record { stands = stands_map (maps_optional read at s start p e) (λ n. b) u.stands; begun = b; before = c };
          };
        }

    by : (s : List ℕ) → at ≤ length s → (b : Bool) → absent_at s at ≡ b → Seen (Stood (λ t. optional read t at) s at start) (λ t. optional read t at) s at (optional read s at)
    by s h true e =
        let r = absent_room s at e in
        rw (is_absent read at s e)
        (record {
          seen = record {
            low = omega arith;
            high = omega arith;
            looked = record {
              cut = λ m a b c. (passes_optional read at p).passes (take m s) _ (tlf_end (take m s) at (omega (arith, length-take-le m s c))) ∙ cut_eof s m c;
              alike = λ t w. is_absent read at t (absent_same at (omega arith) w ∙ e) ∙ sym (is_absent read at s e);
            };
          };
        })
    by s h false e = rw (is_there_lem read at s e) (on s h e (there read at s) refl ((locates_there read at start j).seen s h))
