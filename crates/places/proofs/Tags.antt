-- Readings that judge a number: a tag that is not known is 13, at its own first length byte.
use mathlib.Core.Path.{◌≡◌, refl, sym, ap, ◌∙◌, subst}
use mathlib.Core.Bool.{Bool, true, false}
use mathlib.Core.List.{List, [], ◌∷◌, ◌++◌, append_assoc}
use Prim.Native.Nat.{ℕ, ◌+◌, ◌≤◌, ◌<◌}
use native.Mathlib.Omega.{arith}
use lib.ListN.{length, get_or, take, drop, length-append}
use lib.Dec.{leb}
use lib.Seq.{length-take-le, take-append_seam, drop-append-add}
use borrow.Author.Tests.{leb-true, leb-false}
use Rattle.refusals.specs.Numbers.{unexpected_eof_no}
use Rattle.refusals.specs.Read.{Read, got, refused, Refusal, then, guard, eof, unexpected, span_at}
use Rattle.tlf.specs.Lengths.{tlf_at}
use Rattle.tlf.specs.declared.TypeLengthField.{TypeLengthField}
use Rattle.tlf.proofs.Ends.{tlf_end}
use Rattle.numbers.specs.Numbers.{number, bytes_at_claim, raw_from, raw_at, unsigned_at}
use Rattle.numbers.proofs.Ahead.{unsigned_found}
use Rattle.numbers.proofs.Short.{raw_one}
use Rattle.refusals.proofs.Read.{ok_at}
use Rattle.places.specs.Stands.{Element, Instead, Whatever, TagAt, Stands, over, bad_length, unwanted, message_tag, time_tag, other_crc, other_end}
use Rattle.places.specs.Readers.{More}
use Rattle.places.proofs.Before.{length_front, byte_front, both_fit, front_fits}
use Rattle.places.proofs.Grows.{unsigned_taken, tag_grows}
use Rattle.places.proofs.Seen.{Taken, Seen, Onward, looked_then, seen_on}
use Rattle.places.proofs.Lengths.{HeadWrong, no_head, bad_head, fixed_refused, tlf_seen}
use Rattle.places.proofs.Locates.{Stood, Accepts, Locates, locates_taken, accepted_then, stood_on, more_then, more_none}
use Rattle.places.proofs.Elements.{Mended, mended_accepts, Passes, element_at_lem}
use Rattle.places.proofs.Fields.{locates_unsigned, passes_unsigned, passes_then}

-- ---- a number's refusals, but for 10, are 11 and 12 at its first length byte

abbrev AtHead : {A : Type 0} → ℕ → Read A → Type 0
AtHead at (got a n) = Unit {0}
AtHead at (refused f) = (f.number ≡ unexpected_eof_no → ⊥) → (f.place ≡ at) × (f.number ≤ 12)

record Leaf {A : Type 0} (at : ℕ) (r : Read A) : Type 0 where
  pub leaf : AtHead at r

leaf_then : {A B : Type 0} (at : ℕ) (r : Read A) (k : A → ℕ → Read B) → Leaf at r → ((a : A) (n : ℕ) → Leaf at (k a n)) → Leaf at (then r k)
unfolding then
leaf_then at (got a n) k h g = g a n
leaf_then at (refused f) k h g = record { leaf = h.leaf }

leaf_guard : {A : Type 0} (at : ℕ) (b : Bool) (f : Refusal) (r : Read A) → Leaf {A = A} at (refused f) → Leaf at r → Leaf at (guard b f r)
unfolding guard
leaf_guard at true f r h g = g
leaf_guard at false f r h g = h

leaf_got : {A : Type 0} (at : ℕ) (a : A) (n : ℕ) → Leaf at (got a n)
leaf_got at a n = record { leaf = tt }

leaf_eof : {A : Type 0} (at n : ℕ) → Leaf {A = A} at (refused (eof n))
leaf_eof at n = record { leaf = λ e. absurd (e refl) }

leaf_head : {s : List ℕ} {at : ℕ} (r : Read TypeLengthField) → Seen (HeadWrong s at) (λ t. tlf_at t at) s at r → Leaf at r
leaf_head (got t n) w = record { leaf = tt }
leaf_head {s} {at} (refused f) w = let v = w.seen in by f v.behind v.what
  where
    by : (g : Refusal) (q : ℕ) → HeadWrong s at g q → Leaf {A = TypeLengthField} at (refused g)
    by g q no_head = leaf_eof at (length s)
    by g q (bad_head kind q₁ h l) = record { leaf = λ e. (refl, omega arith) }

leaf_tlf : (s : List ℕ) (at : ℕ) → Leaf at (tlf_at s at)
leaf_tlf s at = by (leb at (length s)) refl
  where
    by : (b : Bool) → leb at (length s) ≡ b → Leaf at (tlf_at s at)
    by true e = leaf_head (tlf_at s at) (tlf_seen s at (leb-true at (length s) e))
    by false e = let k = leb-false at (length s) e in rw (tlf_end s at (omega arith)) (leaf_eof at (length s))

leaf_span : (s : List ℕ) (at p n : ℕ) → Leaf at (span_at s p n)
unfolding span_at
leaf_span s at p n = leaf_guard at _ _ _ (leaf_eof at (length s)) (leaf_guard at _ _ _ (leaf_eof at (length s)) (leaf_got at _ _))

leaf_unsigned : (width : ℕ) (s : List ℕ) (at : ℕ) → Leaf at (unsigned_at width s at)
unfolding unsigned_at raw_at raw_from bytes_at_claim
leaf_unsigned width s at =
    leaf_then at _ _ (leaf_then at _ _ (leaf_tlf s at) (λ t n. leaf_guard at _ _ _ (record { leaf = λ e. (refl, omega arith) })
    (leaf_then at _ _ (leaf_then at _ _ (leaf_span s at n t.len) (λ p m. leaf_got at _ _)) (λ v m. leaf_got at _ _)))) (λ r m. leaf_got at _ _)

pub unsigned_place : (width : ℕ) (s : List ℕ) (at : ℕ) (f : Refusal) → unsigned_at width s at ≡ refused f → (f.number ≡ unexpected_eof_no → ⊥) → (f.place ≡ at) × (f.number ≤ 12)
unsigned_place width s at f e = let w = rw e at (leaf_unsigned width s at) in w.leaf

-- ---- a number put behind the first bytes of an input

front_part : (s x l : List ℕ) (h at : ℕ) → at ≤ length s → take (length x) (drop (at + 1) (take at s ++ h ∷ (x ++ l))) ≡ x
front_part s x l h at k =
    ap (λ (n : ℕ). take (length x) (drop (n + 1) (take at s ++ h ∷ (x ++ l)))) (sym (length-take-le at s k))
    ∙ ap (λ (r : List ℕ). take (length x) r) (drop-append-add (take at s) (h ∷ (x ++ l)) 1)
    ∙ take-append_seam x l

pub unsigned_front : (width : ℕ) (s x l : List ℕ) (at : ℕ) → width ≤ 8 → 1 ≤ length x → length x ≤ width → at ≤ length s
    → unsigned_at width (take at s ++ (0x61 + length x) ∷ (x ++ l)) at ≡ got (number 0 x) (at + 1 + length x)
unfolding unsigned_at then
unsigned_front width s x l at w low high h =
    let b : List ℕ = (0x61 + length x) ∷ (x ++ l) in
    let o : at + 1 + length x ≤ length (take at s ++ b) = omega (arith, length_front s b at h, length-append x l) in
    rw (← raw_one false width (take at s ++ b) at (length x) w low o high (byte_front s (x ++ l) (0x61 + length x) at h), front_part s x l (0x61 + length x) at h)

-- 11 and 12 of a number, of what begins with it
head_stands : {A B : Type 0} {r : List ℕ → Read A} {read : List ℕ → Read B} {s : List ℕ} {at start : ℕ} {f : Refusal} {q : ℕ} → Passes read at → Mended read at
    → ((f.number ≡ unexpected_eof_no → ⊥) → (f.place ≡ at) × (f.number ≤ 12)) → Stands r s start f q → Stands read s start f q
head_stands p m h over = over
head_stands {read = read} {s = s} {at = at} {start = start} p m h (bad_length kind p₁ q e i x) =
    let k = h (λ n. omega (arith, n)) in
    let w = e.within in
    let o = k.0 in
    bad_length kind p₁ q (subst (λ (n : ℕ). Element read s n) (sym o) (element_at_lem p s (omega arith))) (subst (λ (n : ℕ). Instead read s n Whatever) (sym o) (m.mended s (omega arith))) x
head_stands {read = read} {s = s} {at = at} {start = start} p m h (unwanted t p₁ n e i x) =
    let k = h (λ n. omega (arith, n)) in
    let w = e.within in
    let o = k.0 in
    unwanted t p₁ n (subst (λ (j : ℕ). Element read s j) (sym o) (element_at_lem p s (omega arith))) (subst (λ (j : ℕ). Instead read s j Whatever) (sym o) (m.mended s (omega arith))) x
head_stands p m h (message_tag tag p₁ n e i x a b c) = let k = h (λ n. omega (arith, n)) in let z = k.1 in absurd (omega (arith, z))
head_stands p m h (time_tag tag p₁ n e i x a) = let k = h (λ n. omega (arith, n)) in let z = k.1 in absurd (omega (arith, z))
head_stands p m h (other_crc crc p₁ n e i x l y a) = let k = h (λ n. omega (arith, n)) in let z = k.1 in absurd (omega (arith, z))
head_stands p m h (other_end p₁ e w x) = let k = h (λ n. omega (arith, n)) in let z = k.1 in absurd (omega (arith, z))

-- what follows a number that is refused is not read
pub number_refused : {A : Type 0} (width : ℕ) (k : ℕ → ℕ → List ℕ → Read A) (at start : ℕ) → Mended (λ t. then (unsigned_at width t at) (λ v n. k v n t)) at
    → (s : List ℕ) (f : Refusal) → at ≤ length s → unsigned_at width s at ≡ refused f → Seen (Stood (λ t. unsigned_at width t at) s at start) (λ t. unsigned_at width t at) s at (refused f)
    → Seen (Stood (λ t. then (unsigned_at width t at) (λ v n. k v n t)) s at start) (λ t. then (unsigned_at width t at) (λ v n. k v n t)) s at (refused f)
number_refused {A} width k at start m s f h e w =
    let v = w.seen in
    let u = v.what in
    record {
      seen = record {
        behind = v.behind;
        low = v.low;
        looked = looked_then U k s at v.behind v.looked f e;
        what = record {
          stands = head_stands (passes_then U k at (passes_unsigned width at)) m (unsigned_place width s at f e) u.stands;
          begun = u.begun;
          before = u.before;
        };
      };
    }
  where
    U : List ℕ → Read ℕ
    U t = unsigned_at width t at

-- ---- a number, judged

unfoldable pub number_judged : {A : Type 0} → ℕ → (ℕ → Bool) → (ℕ → ℕ → List ℕ → Read A) → ℕ → List ℕ → Read A
number_judged width test rest at t = then (unsigned_at width t at) λ v n. guard (test v) (unexpected at) (rest v n t)

-- what is known of a number that the test refuses
pub record Refutes {A : Type 0} (read : List ℕ → Read A) (width : ℕ) (test : ℕ → Bool) (at start : ℕ) : Type 0 where
  pub refutes : (s : List ℕ) (v n : ℕ) → at ≤ length s → Element read s at → unsigned_at width s at ≡ got v n → test v ≡ false → Stands read s start (unexpected at) n

pub passes_numbered : {A : Type 0} (width : ℕ) (test : ℕ → Bool) (rest : ℕ → ℕ → List ℕ → Read A) (at : ℕ) → Passes (number_judged width test rest at) at
unfolding number_judged
passes_numbered width test rest at = passes_then _ (λ v n t. guard (test v) (unexpected at) (rest v n t)) at (passes_unsigned width at)

-- x is a number that the test lets pass
pub instead_numbered : {A : Type 0} (width : ℕ) (test : ℕ → Bool) (rest : ℕ → ℕ → List ℕ → Read A) (at start : ℕ) (x : List ℕ) → width ≤ 8 → 1 ≤ length x → length x ≤ width
    → ((i : ℕ) → get_or ((0x61 + length x) ∷ (x ++ [])) i 0 < 256) → test (number 0 x) ≡ true
    → ((v n : ℕ) → test v ≡ true → Locates (rest v n) n start) → (s : List ℕ) → at ≤ length s → Instead (number_judged width test rest at) s at (TagAt width (number 0 x) at)
unfolding number_judged guard
instead_numbered {A} width test rest at start x w low high fit e j s h =
    let b : List ℕ = (0x61 + length x) ∷ (x ++ []) in
    let u : List ℕ = take at s ++ b in
    let l : at + 1 + length x ≡ length u = omega (arith, length_front s b at h, length-append x []) in
    let is : unsigned_at width u at ≡ got (number 0 x) (length u) = unsigned_front width s x [] at w low high h ∙ ap (λ (n : ℕ). got (number 0 x) n) l in
    let r = (j (number 0 x) (length u) e).accepts u refl in
    let g : Accepts (λ v. guard (test (number 0 x)) (unexpected at) (rest (number 0 x) (length u) v)) u = record { more = r.more; fit = r.fit; value = r.value; is = rw e r.is } in
    let t = unsigned_taken width u at (number 0 x) (length u) (omega arith) is in
    let c = accepted_then (λ v. unsigned_at width v at) (λ a n v. guard (test a) (unexpected at) (rest a n v)) u at (number 0 x) is t g in
    let o : u ++ c.more ≡ take at s ++ (b ++ c.more) = append_assoc (take at s) b c.more in
    record {
      others = b ++ c.more;
      bytes = λ f. both_fit b c.more fit (c.fit (front_fits s b at f fit));
      value = c.value;
      accepted = subst (λ (v : List ℕ). number_judged width test rest at v ≡ got c.value (length v)) o c.is;
      holds = subst (λ (v : List ℕ). TagAt width (number 0 x) at v) o (tag_grows width (number 0 x) at u c.more (omega arith) (record { next = length u; is = is }));
    }

-- what holds of such an input may be forgotten
pub mended_by : {A : Type 0} {read : List ℕ → Read A} {at : ℕ} (P : List ℕ → Type 0) → ((s : List ℕ) → at ≤ length s → Instead read s at P) → Mended read at
mended_by P i = record { mended = λ s h. let x = i s h in record { others = x.others; bytes = x.bytes; value = x.value; accepted = x.accepted; holds = tt } }

pub locates_numbered : {A : Type 0} (width : ℕ) (test : ℕ → Bool) (rest : ℕ → ℕ → List ℕ → Read A) (at start : ℕ) → 1 ≤ width → Mended (number_judged width test rest at) at
    → Refutes (number_judged width test rest at) width test at start
    → ((v n : ℕ) → test v ≡ true → Locates (rest v n) n start) → Locates (number_judged width test rest at) at start
unfolding number_judged then guard
locates_numbered {A} width test rest at start one m z j =
    record {
      seen = λ s h. by s h (unsigned_at width s at) refl ((locates_unsigned width one at start).seen s h);
      missing = λ s h.
          more_then U (λ v n t. guard (test v) (unexpected at) (rest v n t)) s at h ((locates_unsigned width one at start).missing s h)
          (λ u v n i e. locates_taken (locates_unsigned width one at start) u v n i e) (λ u v n e i. told u v n i (test v) refl);
      accepts = λ s h. mended_accepts m s h;
    }
  where
    R : List ℕ → Read A
    R = number_judged width test rest at

    U : List ℕ → Read ℕ
    U t = unsigned_at width t at

    told : (u : List ℕ) (v n : ℕ) → n ≤ length u → (b : Bool) → test v ≡ b → More (λ t. guard b (unexpected at) (rest v n t)) u
    told u v n i true e = (j v n e).missing u i
    told u v n i false e = more_none {read = λ t. refused (unexpected at)} (λ k. omega (arith, k))

    element : (s : List ℕ) → at < length s → Element R s at
    element s h = element_at_lem (passes_numbered width test rest at) s h

    on : (s : List ℕ) (v n : ℕ) → unsigned_at width s at ≡ got v n → Taken U s at n → (b : Bool) → test v ≡ b → Seen (Stood R s at start) R s at (guard b (unexpected at) (rest v n s))
    on s v n e w true k =
        let l = w.looked in
        let o : Onward R (rest v n) s at n = record { low = w.low; cut = λ i a b c. rw (l.cut i a b c); goes_on_claim = λ u x. rw (l.alike u x, e, k) } in
        seen_on (rest v n s) o (stood_on o) ((j v n k).seen s w.high)
    on s v n e w false k =
        let l = w.looked in
        let a = ok_at (sym e) (unsigned_found width s at) in
        let f = a.1 in
        let o : Onward R (λ u. refused (unexpected at)) s at n = record { low = w.low; cut = λ i a b c. rw (l.cut i a b c); goes_on_claim = λ u x. rw (l.alike u x, e, k) } in
        seen_on (refused (unexpected at)) o (λ g q h p. p)
        (fixed_refused s n (unexpected at) (record { stands = z.refutes s v n (omega (arith, f.ahead, f.within)) (element s (omega (arith, f.ahead, f.within))) e k; begun = omega arith; before = f.ahead }))

    by : (s : List ℕ) → at ≤ length s → (x : Read ℕ) → unsigned_at width s at ≡ x → Seen (Stood U s at start) U s at x
        → Seen (Stood R s at start) R s at (then x λ v n. guard (test v) (unexpected at) (rest v n s))
    by s h (refused f) e w = number_refused width (λ a n t. guard (test a) (unexpected at) (rest a n t)) at start m s f h e w
    by s h (got v n) e w = on s v n e w.seen (test v) refl
