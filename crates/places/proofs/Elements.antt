-- Readings of one element: bytes taken, a length field that is judged, a number that is judged, an optional field.
use mathlib.Core.Path.{◌≡◌, refl, sym, ap, ◌∙◌, subst}
use mathlib.Core.Bool.{Bool, true, false, false≢true}
use mathlib.Core.Option.{some}
use mathlib.Core.List.{List, [], ◌∷◌, ◌++◌, append-nil, append_assoc}
use Prim.Native.Nat.{ℕ, zero, suc, ◌+◌, ◌*◌, ◌/◌, ◌%◌, ◌-◌, ◌^◌, ◌≤◌, ◌<◌}
use native.Mathlib.Nat.{add-zero}
use native.Mathlib.Omega.{arith}
use lib.ListN.{length, get_or, take, drop, length-append, replicate, length-replicate}
use lib.Seq.{length-take-le, get_or-take, get_or-drop, take_all}
use borrow.Author.Tests.{lt-ltb, le-ltb, le-leb, lt-leb, eq-eqb}
use Rattle.refusals.specs.Read.{Read, got, refused, Refusal, then, guard, eof, mismatch, byte_at, span_at}
use Rattle.refusals.proofs.Read.{ok_at, span_room}
use Rattle.tlf.specs.Lengths.{ty_of, is_list, is_list_of, tlf_at, list_of_at}
use Rattle.tlf.specs.declared.Ty.{Ty}
use Rattle.tlf.specs.declared.Ty.TheVariants.{ListOf}
use Rattle.tlf.specs.declared.TypeLengthField.{TypeLengthField}
use Rattle.tlf.proofs.Lengths.{tlf_ok}
use Rattle.tlf.proofs.Short.{list_one, field_one}
use Rattle.tlf.specs.Written.{more_bit, length_bytes, typed}
use Rattle.tlf.proofs.Gets.{typed_reads}
use Rattle.refusals.proofs.Rest.{reads_at}
use Rattle.places.specs.Stands.{Element, Instead, Whatever, over, bad_length, unwanted}
use Rattle.places.specs.Readers.{More}
use Rattle.places.proofs.Before.{length_front, byte_front, one_fits, both_fit, zeros_fit, front_fits}
use Rattle.places.proofs.Grows.{bytes_seen}
use Rattle.places.proofs.Seen.{Taken, Seen, Onward, looked_then, seen_on}
use Rattle.places.proofs.Lengths.{HeadWrong, no_head, bad_head, fixed_refused, tlf_seen, tlf_told}
use Rattle.places.proofs.Locates.{Stood, Accepts, Locates, stood_on, accepted_then, more_then, more_none, locates_as, locates_got}

-- ---- n bytes taken: their value, or 10
pub locates_bytes : {A : Type 0} (read : List ℕ → Read A) (value : List ℕ → A) (at n start : ℕ)
    → ((t : List ℕ) → at + n ≤ length t → read t ≡ got (value (take n (drop at t))) (at + n))
    → ((t : List ℕ) → at ≤ length t → length t < at + n → read t ≡ refused (eof (length t)))
    → Locates read at start
locates_bytes {A} read value at n start is short =
    record {
      seen = λ s h. bytes_seen read value at n is short s (record { stands = over; begun = h; before = omega arith }) h;
      missing = λ s h. record { more = replicate n 0; bytes = zeros_fit n; not_ten = rw (is (s ++ replicate n 0) (filled s h)) tt };
      accepts = λ s h.
          let l : at + n ≡ length (s ++ replicate n 0) = omega (arith, length-append s (replicate n 0), length-replicate {A = ℕ} n 0) in
          record { more = replicate n 0; fit = λ f. zeros_fit n; value = value (take n (drop at (s ++ replicate n 0))); is = is (s ++ replicate n 0) (omega arith) ∙ ap (λ (m : ℕ). got (value (take n (drop at (s ++ replicate n 0)))) m) l };
    }
  where
    filled : (s : List ℕ) → at ≤ length s → at + n ≤ length (s ++ replicate n 0)
    filled s h = omega (arith, length-append s (replicate n 0), length-replicate {A = ℕ} n 0)

pub locates_span : (at n start : ℕ) → Locates (λ t. span_at t at n) at start
unfolding span_at guard
locates_span at n start =
    locates_bytes _ (λ l. record { start = at; len = n }) at n start (λ t h. span_room t at n h)
    (λ t h k. rw (le-leb at (length t) h, lt-leb n (length t - at) (omega arith)))

-- the first of the bytes
first_byte : (t : List ℕ) (at : ℕ) → get_or (take 1 (drop at t)) 0 0 ≡ get_or t at 0
first_byte t at = get_or-take 1 (drop at t) 0 0 (omega arith) ∙ get_or-drop at t 0 0 ∙ ap (λ (k : ℕ). get_or t k 0) (add-zero at)

pub locates_byte : (at start : ℕ) → Locates (λ t. byte_at t at) at start
unfolding byte_at guard
locates_byte at start =
    locates_bytes _ (λ l. get_or l 0 0) at 1 start (λ t h. rw (lt-ltb at (length t) (omega arith), first_byte t at)) (λ t h k. rw (le-ltb at (length t) (omega arith)))

-- ---- a length field, judged

unfoldable pub headed : {A : Type 0} → (TypeLengthField → Bool) → (TypeLengthField → ℕ → List ℕ → Read A) → ℕ → List ℕ → Read A
headed test rest at t = then (tlf_at t at) λ h n. guard (test h) (mismatch at) (rest h n t)

-- bytes that are a length field which the test lets pass
pub record Wanted (test : TypeLengthField → Bool) : Type 0 where
  pub bytes : List ℕ
  pub field : TypeLengthField
  pub fit : (i : ℕ) → get_or bytes i 0 < 256
  pub is : (s : List ℕ) (at : ℕ) → at ≤ length s → tlf_at (take at s ++ bytes) at ≡ got field (at + length bytes)
  pub fits : test field ≡ true

-- with other bytes from `at` on the input is accepted
pub record Mended {A : Type 0} (read : List ℕ → Read A) (at : ℕ) : Type 0 where
  pub mended : (s : List ℕ) → at ≤ length s → Instead read s at Whatever

-- and so some bytes are accepted at its end
pub mended_accepts : {A : Type 0} {read : List ℕ → Read A} {at : ℕ} → Mended read at → (s : List ℕ) → length s ≡ at → Accepts read s
mended_accepts {A} {read} {at} m s h =
    let i = m.mended s (omega arith) in
    let o : take at s ++ i.others ≡ s ++ i.others = ap (λ (l : List ℕ). l ++ i.others) (take_all at s (omega arith)) in
    record { more = i.others; fit = i.bytes; value = i.value; is = subst (λ (v : List ℕ). read v ≡ got i.value (length v)) o i.accepted }

-- what the length reader refuses at `at` is refused
pub record Passes {A : Type 0} (read : List ℕ → Read A) (at : ℕ) : Type 0 where
  pub passes : (t : List ℕ) (f : Refusal) → tlf_at t at ≡ refused f → read t ≡ refused f

pub element_at_lem : {A : Type 0} {read : List ℕ → Read A} {at : ℕ} → Passes read at → (s : List ℕ) → at < length s → Element read s at
element_at_lem p s h = record { within = h; passed = λ t f k e. p.passes t f e }

pub passes_headed : {A : Type 0} (test : TypeLengthField → Bool) (rest : TypeLengthField → ℕ → List ℕ → Read A) (at : ℕ) → Passes (headed test rest at) at
unfolding headed then
passes_headed test rest at = record { passes = λ t f e. rw e }

tlf_taken : (u : List ℕ) (at : ℕ) (t : TypeLengthField) (n : ℕ) → at ≤ length u → tlf_at u at ≡ got t n → Taken (λ v. tlf_at v at) u at n
tlf_taken u at t n h e =
    let w : Seen (HeadWrong u at) (λ v. tlf_at v at) u at (got t n) = subst (λ (r : Read TypeLengthField). Seen (HeadWrong u at) (λ v. tlf_at v at) u at r) e (tlf_seen u at h) in
    w.seen

pub locates_headed : {A : Type 0} (test : TypeLengthField → Bool) (rest : TypeLengthField → ℕ → List ℕ → Read A) (at start : ℕ) → Mended (headed test rest at) at
    → ((h : TypeLengthField) (n : ℕ) → test h ≡ true → Locates (rest h n) n start) → Locates (headed test rest at) at start
unfolding headed then guard
locates_headed {A} test rest at start m j =
    record {
      seen = λ s h. by s h (tlf_at s at) refl (tlf_seen s at h);
      missing = λ s h.
          more_then (λ u. tlf_at u at) (λ t n u. guard (test t) (mismatch at) (rest t n u)) s at h (record { more = 0x10 ∷ []; bytes = one_fits 0x10 (omega arith); not_ten = tlf_told s at h })
          (λ u t n i e. tlf_taken u at t n i e) (λ u t n e i. told u t n i (test t) refl);
      accepts = λ s h. mended_accepts m s h;
    }
  where
    R : List ℕ → Read A
    R = headed test rest at

    told : (u : List ℕ) (t : TypeLengthField) (n : ℕ) → n ≤ length u → (b : Bool) → test t ≡ b → More (λ v. guard b (mismatch at) (rest t n v)) u
    told u t n i true e = (j t n e).missing u i
    told u t n i false e = more_none {read = λ v. refused (mismatch at)} (λ k. omega (arith, k))

    wrong : (s : List ℕ) (f : Refusal) (q : ℕ) → at ≤ length s → tlf_at s at ≡ refused f → HeadWrong s at f q → Stood R s at start f q
    wrong s f q h e no_head = record { stands = over; begun = h; before = omega arith }
    wrong s f q h e (bad_head kind q₁ w l) = record { stands = bad_length kind at q₁ (element_at_lem (passes_headed test rest at) s w) (m.mended s h) e; begun = omega arith; before = l }

    on : (s : List ℕ) (t : TypeLengthField) (n : ℕ) → tlf_at s at ≡ got t n → Taken (λ u. tlf_at u at) s at n → (b : Bool) → test t ≡ b → Seen (Stood R s at start) R s at (guard b (mismatch at) (rest t n s))
    on s t n e w true k =
        let l = w.looked in
        let o : Onward R (rest t n) s at n = record { low = w.low; cut = λ i a b c. rw (l.cut i a b c); goes_on_claim = λ u v. rw (l.alike u v, e, k) } in
        seen_on (rest t n s) o (stood_on o) ((j t n k).seen s w.high)
    on s t n e w false k =
        let l = w.looked in
        let a = ok_at (sym e) (tlf_ok s at) in
        let o : Onward R (λ u. refused (mismatch at)) s at n = record { low = w.low; cut = λ i a b c. rw (l.cut i a b c); goes_on_claim = λ u v. rw (l.alike u v, e, k) } in
        seen_on (refused (mismatch at)) o (λ f q h p. p)
        (fixed_refused s n (mismatch at) (record { stands = unwanted t at n (element_at_lem (passes_headed test rest at) s (omega (arith, a.ahead, a.within))) (m.mended s (omega (arith, a.ahead, a.within))) e; begun = omega arith; before = a.ahead }))

    by : (s : List ℕ) → at ≤ length s → (x : Read TypeLengthField) → tlf_at s at ≡ x → Seen (HeadWrong s at) (λ u. tlf_at u at) s at x
        → Seen (Stood R s at start) R s at (then x λ h n. guard (test h) (mismatch at) (rest h n s))
    by s h (refused f) e w =
        let v = w.seen in
        record {
          seen = record {
            behind = v.behind;
            low = v.low;
            looked = looked_then (λ u. tlf_at u at) (λ t n u. guard (test t) (mismatch at) (rest t n u)) s at v.behind v.looked f e;
            what = wrong s f v.behind h e v.what;
          };
        }
    by s h (got t n) e w = on s t n e w.seen (test t) refl

-- wanted length bytes, and what the rest accepts behind them
pub mended_headed : {A : Type 0} (test : TypeLengthField → Bool) (rest : TypeLengthField → ℕ → List ℕ → Read A) (at start : ℕ) → Wanted test
    → ((h : TypeLengthField) (n : ℕ) → test h ≡ true → Locates (rest h n) n start) → Mended (headed test rest at) at
unfolding headed guard
mended_headed {A} test rest at start w j = record { mended = λ s h. by s h }
  where
    R : List ℕ → Read A
    R = headed test rest at

    by : (s : List ℕ) → at ≤ length s → Instead R s at Whatever
    by s h =
        let u : List ℕ = take at s ++ w.bytes in
        let l : at + length w.bytes ≡ length u = sym (length_front s w.bytes at h) in
        let e : tlf_at u at ≡ got w.field (length u) = w.is s at h ∙ ap (λ (n : ℕ). got w.field n) l in
        let b = (j w.field (length u) w.fits).accepts u refl in
        let g : Accepts (λ v. guard (test w.field) (mismatch at) (rest w.field (length u) v)) u = record { more = b.more; fit = b.fit; value = b.value; is = rw w.fits b.is } in
        let c = accepted_then (λ v. tlf_at v at) (λ t n v. guard (test t) (mismatch at) (rest t n v)) u at w.field e (tlf_taken u at w.field (length u) (omega arith) e) g in
        record {
          others = w.bytes ++ c.more;
          bytes = λ f. both_fit w.bytes c.more w.fit (c.fit (front_fits s w.bytes at f w.fit));
          value = c.value;
          accepted = subst (λ (v : List ℕ). R v ≡ got c.value (length v)) (append_assoc (take at s) w.bytes c.more) c.is;
          holds = tt;
        }

pub locates_field : {A : Type 0} (test : TypeLengthField → Bool) (rest : TypeLengthField → ℕ → List ℕ → Read A) (at start : ℕ) → Wanted test
    → ((h : TypeLengthField) (n : ℕ) → test h ≡ true → Locates (rest h n) n start) → Locates (headed test rest at) at start
locates_field test rest at start w j = locates_headed test rest at start (mended_headed test rest at start w j) j

-- ---- length bytes that are wanted

want_one : (byte : ℕ) → byte < 256 → (field : TypeLengthField) → ((t : List ℕ) (at : ℕ) → at < length t → get_or t at 0 ≡ byte → tlf_at t at ≡ got field (at + 1))
    → (test : TypeLengthField → Bool) → test field ≡ true → Wanted test
want_one byte small field is test e =
    record {
      bytes = byte ∷ [];
      fit = one_fits byte small;
      field = field;
      is = λ s at h. is (take at s ++ byte ∷ []) at (omega (arith, length_front s (byte ∷ []) at h)) (byte_front s [] byte at h);
      fits = e;
    }

pub want_list : (n : ℕ) → n < 16 → (test : TypeLengthField → Bool) → test (record { ty = ListOf; len = n }) ≡ true → Wanted test
want_list n h test e = want_one (112 + n) (omega arith) (record { ty = ListOf; len = n }) (λ t at w b. list_one t at n w b h) test e

pub want_field : (k n : ℕ) (ty : Ty) → k < 8 → n < 16 → 1 ≤ n → ty_of k ≡ some ty → is_list ty ≡ false → (test : TypeLengthField → Bool) → test (record { ty = ty; len = n - 1 }) ≡ true → Wanted test
want_field k n ty hk hn h o l test e = want_one (16 * k + n) (omega arith) (record { ty = ty; len = n - 1 }) (λ t at w b. field_one t at k n ty w b hk hn o l h) test e

-- length bytes are bytes
length_bytes_fit : (k v i : ℕ) → get_or (length_bytes k v) i 0 < 256
unfolding length_bytes
length_bytes_fit zero v i = omega arith
length_bytes_fit (suc k) v zero = more_fits k
  where
    more_fits : (j : ℕ) → more_bit j + v / 16 ^ j % 16 < 256
    more_fits zero = omega arith
    more_fits (suc j) = omega arith
length_bytes_fit (suc k) v (suc i) = length_bytes_fit k v i

list_bytes_fit : (v i : ℕ) → get_or (typed ListOf 8 v) i 0 < 256
unfolding typed
list_bytes_fit v zero = omega arith
list_bytes_fit v (suc i) = length_bytes_fit 7 v i

-- eight length bytes hold every number of elements
want_long_list : (n : ℕ) → n < 2 ^ 32 → (test : TypeLengthField → Bool) → test (record { ty = ListOf; len = n }) ≡ true → Wanted test
unfolding typed
want_long_list n h test e =
    record {
      bytes = typed ListOf 8 n;
      fit = list_bytes_fit n;
      field = record { ty = ListOf; len = n };
      is = λ s at k.
          let r = reads_at (typed_reads ListOf 8 n (omega arith) (omega arith) h (λ b. absurd (false≢true b))) (take at s) [] in
          let i : tlf_at (take at s ++ typed ListOf 8 n) at ≡ got r.value (at + length (typed ListOf 8 n)) = rw (append-nil (typed ListOf 8 n), length-take-le at s k) at r.is in
          i ∙ ap (λ (f : TypeLengthField). got f (at + length (typed ListOf 8 n))) r.has;
      fits = e;
    }

-- ---- the length reader itself, and the head of a list

pub locates_tlf : (at start : ℕ) → Locates (λ t. tlf_at t at) at start
unfolding headed then guard
locates_tlf at start =
    locates_as (headed (λ t. true) (λ t n u. got t n) at) (λ u. by (tlf_at u at))
    (locates_field (λ t. true) (λ t n u. got t n) at start (want_list 0 (omega arith) _ refl) (λ t n e. locates_got t n start))
  where
    by : (x : Read TypeLengthField) → x ≡ then x λ t n. got t n
    by (got t n) = refl
    by (refused f) = refl

pub passes_tlf : (at : ℕ) → Passes (λ t. tlf_at t at) at
passes_tlf at = record { passes = λ t f e. e }

pub locates_list_of : (n : ℕ) → n < 2 ^ 32 → (at start : ℕ) → Locates (λ t. list_of_at n t at) at start
unfolding list_of_at headed
locates_list_of n h at start = locates_field (is_list_of n) (λ t m u. got tt m) at start (want_long_list n h (is_list_of n) (eq-eqb n n refl)) (λ t m e. locates_got tt m start)

pub passes_list_of : (n at : ℕ) → Passes (λ t. list_of_at n t at) at
unfolding list_of_at headed
passes_list_of n at = passes_headed (is_list_of n) (λ t m u. got tt m) at
