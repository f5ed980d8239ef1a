-- What a reading's law is, and how that of a chain is made of its parts: a line a field.
use mathlib.Core.Path.{◌≡◌, refl, sym, ap, ◌∙◌, subst}
use mathlib.Core.List.{List, [], ◌∷◌, ◌++◌, append-nil, append_assoc}
use Prim.Native.Nat.{ℕ, zero, suc, ◌+◌, ◌≤◌, ◌<◌}
use native.Mathlib.Omega.{arith}
use lib.ListN.{length, get_or, take, length-append}
use lib.Seq.{take-append-le}
use Rattle.refusals.specs.Numbers.{unexpected_eof_no}
use Rattle.refusals.specs.Read.{Read, got, refused, Refusal, then, many, wrong_end}
use Rattle.places.specs.Stands.{Whatever, Closed, SameBefore, Element, EndByte, Instead, TagAt, CrcAt, Stands, over, bad_length, unwanted, message_tag, time_tag, other_crc, other_end, Broke}
use Rattle.places.specs.Readers.{NotTen, More}
use Rattle.places.proofs.Before.{same_less, same_front, length_front, none_fits, one_fits, both_fit, front_fits}
use Rattle.places.proofs.Grows.{tag_grows, crc_grows}
use Rattle.places.proofs.Seen.{Taken, Lost, Seen, Onward, seen_on, onward_then, looked_then}

-- what is known of a refusal
pub record Stood {A : Type 0} (read : List ℕ → Read A) (s : List ℕ) (at start : ℕ) (f : Refusal) (behind : ℕ) : Type 0 where
  pub stands : Stands read s start f behind
  pub begun : at ≤ f.place
  pub before : f.place < behind

-- some bytes behind an input's end are accepted
pub record Accepts {A : Type 0} (read : List ℕ → Read A) (s : List ℕ) : Type 0 where
  pub more : List ℕ
  pub fit : ((i : ℕ) → get_or s i 0 < 256) → (i : ℕ) → get_or more i 0 < 256
  pub value : A
  pub is : read (s ++ more) ≡ got value (length (s ++ more))

-- the law of a reading from `at` on, in a message that begins at `start`
pub record Locates {A : Type 0} (read : List ℕ → Read A) (at start : ℕ) : Type 0 where
  pub seen : (s : List ℕ) → at ≤ length s → Seen (Stood read s at start) read s at (read s)
  pub missing : (s : List ℕ) → at ≤ length s → More read s
  pub accepts : (s : List ℕ) → length s ≡ at → Accepts read s

broke_of : {A : Type 0} {read : List ℕ → Read A} {s : List ℕ} {at start : ℕ} {f : Refusal} → read s ≡ refused f → Lost (Stood read s at start) read s at f → Broke read s at start f
broke_of e w = let k = w.what in record { refuses = e; judged_to = w.behind; stands = k.stands; looked = w.looked; begun = k.begun; before = k.before }

-- where it refuses, it broke there
pub locates_broke : {A : Type 0} {read : List ℕ → Read A} {at start : ℕ} → Locates read at start → (s : List ℕ) (f : Refusal) → at ≤ length s → read s ≡ refused f → Broke read s at start f
locates_broke {read = read} {at = at} {start = start} j s f h e =
    let w : Seen (Stood read s at start) read s at (refused f) = subst (λ (r : Read _). Seen (Stood read s at start) read s at r) e (j.seen s h) in
    broke_of e w.seen

-- where it finds something, it needs what is before the next place
pub locates_taken : {A : Type 0} {read : List ℕ → Read A} {at start : ℕ} → Locates read at start → (s : List ℕ) (a : A) (n : ℕ) → at ≤ length s → read s ≡ got a n → Taken read s at n
locates_taken {read = read} {at = at} {start = start} j s a n h e =
    let w : Seen (Stood read s at start) read s at (got a n) = subst (λ (r : Read _). Seen (Stood read s at start) read s at r) e (j.seen s h) in
    w.seen

-- ---- what holds of a part of a chain holds of the chain

-- what stands at a place of which P is known
pub record Maps {A B : Type 0} (r : List ℕ → Read A) (read : List ℕ → Read B) (s : List ℕ) (start : ℕ) (P : ℕ → Type 0) : Type 0 where
  pub element : (p : ℕ) → P p → Element r s p → Element read s p
  pub end_byte_claim : (p : ℕ) → P p → p ≤ length s → EndByte r s p → EndByte read s p
  pub whatever : (p : ℕ) → P p → p ≤ length s → Instead r s p Whatever → Instead read s p Whatever
  pub at_tag : (width tag p : ℕ) → P p → p ≤ length s → Instead r s p (TagAt width tag p) → Instead read s p (TagAt width tag p)
  pub at_crc : (p : ℕ) → P p → p ≤ length s → Instead r s p (CrcAt start p) → Instead read s p (CrcAt start p)

pub stands_map : {A B : Type 0} {r : List ℕ → Read A} {read : List ℕ → Read B} {s : List ℕ} {start : ℕ} {P : ℕ → Type 0} {f : Refusal} {q : ℕ} → Maps r read s start P
    → ((f.number ≡ unexpected_eof_no → ⊥) → P f.place) → Stands r s start f q → Stands read s start f q
stands_map m h over = over
stands_map m h (bad_length kind p q e i x) = let k = h (λ n. omega (arith, n)) in let w = e.within in bad_length kind p q (m.element p k e) (m.whatever p k (omega (arith, w)) i) x
stands_map m h (unwanted t p n e i x) = let k = h (λ n. omega (arith, n)) in let w = e.within in unwanted t p n (m.element p k e) (m.whatever p k (omega (arith, w)) i) x
stands_map m h (message_tag tag p n e i x a b c) = let k = h (λ n. omega (arith, n)) in let w = e.within in message_tag tag p n (m.element p k e) (m.at_tag 4 0x101 p k (omega (arith, w)) i) x a b c
stands_map m h (time_tag tag p n e i x a) = let k = h (λ n. omega (arith, n)) in let w = e.within in time_tag tag p n (m.element p k e) (m.at_tag 1 1 p k (omega (arith, w)) i) x a
stands_map m h (other_crc crc p n e i x l z a) = let k = h (λ n. omega (arith, n)) in let w = e.within in other_crc crc p n (m.element p k e) (m.at_crc p k (omega (arith, w)) i) x l z a
stands_map m h (other_end p e w x) = other_end p (m.end_byte_claim p (h (λ n. omega (arith, n))) (omega (arith, w)) e) w x

instead_on : {A : Type 0} {read rest : List ℕ → Read A} {s : List ℕ} {at n p : ℕ} {P : List ℕ → Type 0} → Onward read rest s at n → n ≤ p → p ≤ length s → Instead rest s p P → Instead read s p P
instead_on {s = s} {p = p} o h k i =
    record { others = i.others; bytes = i.bytes; value = i.value; accepted = o.goes_on_claim _ (same_less h (same_front s i.others p k)) ∙ i.accepted; holds = i.holds }

end_byte_on : {A : Type 0} {read rest : List ℕ → Read A} {s : List ℕ} {at n p : ℕ} → Onward read rest s at n → n ≤ p → p ≤ length s → EndByte rest s p → EndByte read s p
end_byte_on {read = read} {s = s} {p = p} o h k e =
    record {
      judged = λ t w x y. o.goes_on_claim t (same_less h w) ∙ e.judged t w x y;
      more = e.more;
      bytes = e.bytes;
      closed = subst (λ (r : Read _). Closed p (take p s ++ 0x00 ∷ e.more) r) (sym (o.goes_on_claim _ (same_less h (same_front s (0x00 ∷ e.more) p k)))) e.closed;
    }

pub maps_on : {A : Type 0} {read rest : List ℕ → Read A} {s : List ℕ} {at n start : ℕ} → Onward read rest s at n → Maps rest read s start (λ p. n ≤ p)
maps_on o =
    record {
      element = λ p h e. record { within = e.within; passed = λ t f k x. o.goes_on_claim t (same_less h k) ∙ e.passed t f k x };
      end_byte_claim = λ p h k e. end_byte_on o h k e;
      whatever = λ p h k i. instead_on o h k i;
      at_tag = λ width tag p h k i. instead_on o h k i;
      at_crc = λ p h k i. instead_on o h k i;
    }

pub stood_on : {A : Type 0} {read rest : List ℕ → Read A} {s : List ℕ} {at n start : ℕ} → Onward read rest s at n → (f : Refusal) (q : ℕ) → n ≤ q → Stood rest s n start f q → Stood read s at start f q
stood_on o f q h w =
    let b = w.begun in
    let l = o.low in
    record { stands = stands_map (maps_on o) (λ n. b) w.stands; begun = omega (arith, b, l); before = w.before }

-- ---- one reading more

-- what is accepted, and then what follows it accepts behind it
pub accepted_then : {A B : Type 0} (r : List ℕ → Read A) (k : A → ℕ → List ℕ → Read B) (u : List ℕ) (at : ℕ) (a : A) → r u ≡ got a (length u) → Taken r u at (length u) → Accepts (k a (length u)) u
    → Accepts (λ t. then (r t) (λ b m. k b m t)) u
unfolding then
accepted_then r k u at a e t b =
    let l = t.looked in
    let same : SameBefore (length u) u (u ++ b.more) = record { bytes = take-append-le (length u) u b.more (omega arith) } in
    record { more = b.more; fit = b.fit; value = b.value; is = rw (l.alike (u ++ b.more) same, e) b.is }

accepts_then : {A B : Type 0} (r : List ℕ → Read A) (k : A → ℕ → List ℕ → Read B) (s : List ℕ) (at start : ℕ) → Locates r at start → ((a : A) (n : ℕ) → Locates (k a n) n start) → length s ≡ at
    → Accepts (λ t. then (r t) (λ a n. k a n t)) s
accepts_then {A} {B} r k s at start jr jk h =
    let a = jr.accepts s h in
    let u : List ℕ = s ++ a.more in
    let t = locates_taken jr u a.value (length u) (omega (arith, length-append s a.more)) a.is in
    let c = accepted_then r k u at a.value a.is t ((jk a.value (length u)).accepts u refl) in
    record {
      more = a.more ++ c.more;
      fit = λ f. both_fit a.more c.more (a.fit f) (c.fit (both_fit s a.more f (a.fit f)));
      value = c.value;
      is = subst (λ (v : List ℕ). then (r v) (λ b m. k b m v) ≡ got c.value (length v)) (append_assoc s a.more c.more) c.is;
    }

instead_then : {A B : Type 0} (r : List ℕ → Read A) (k : A → ℕ → List ℕ → Read B) (s : List ℕ) (at start : ℕ) → Locates r at start → ((a : A) (n : ℕ) → Locates (k a n) n start)
    → (p : ℕ) {P : List ℕ → Type 0} → at ≤ p → p ≤ length s → ((u v : List ℕ) → p ≤ length u → P u → P (u ++ v)) → Instead r s p P → Instead (λ t. then (r t) (λ a n. k a n t)) s p P
instead_then {A} {B} r k s at start jr jk p {P} h w grow i =
    let u : List ℕ = take p s ++ i.others in
    let l : length u ≡ p + length i.others = length_front s i.others p w in
    let t = locates_taken jr u i.value (length u) (omega arith) i.accepted in
    let c = accepted_then r k u at i.value i.accepted t ((jk i.value (length u)).accepts u refl) in
    let o : u ++ c.more ≡ take p s ++ (i.others ++ c.more) = append_assoc (take p s) i.others c.more in
    record {
      others = i.others ++ c.more;
      bytes = λ f. both_fit i.others c.more (i.bytes f) (c.fit (front_fits s i.others p f (i.bytes f)));
      value = c.value;
      accepted = subst (λ (v : List ℕ). then (r v) (λ b m. k b m v) ≡ got c.value (length v)) o c.is;
      holds = subst P o (grow u c.more (omega arith) i.holds);
    }

pub closed_of : {A : Type 0} (p : ℕ) (u : List ℕ) (x : Read A) (a : A) → x ≡ got a (length u) → Closed p u x
closed_of p u x a e = subst (λ (y : Read _). Closed p u y) (sym e) refl

end_byte_then : {A B : Type 0} (r : List ℕ → Read A) (k : A → ℕ → List ℕ → Read B) (s : List ℕ) (at start : ℕ) → Locates r at start → ((a : A) (n : ℕ) → Locates (k a n) n start)
    → (p : ℕ) → at ≤ p → p ≤ length s → EndByte r s p → EndByte (λ t. then (r t) (λ a n. k a n t)) s p
unfolding then
end_byte_then {A} {B} r k s at start jr jk p h w e = by (r u) refl e.closed
  where
    u : List ℕ
    u = take p s ++ 0x00 ∷ e.more

    R : List ℕ → Read B
    R t = then (r t) (λ a n. k a n t)

    judged : (t : List ℕ) → SameBefore p s t → p < length t → (get_or t p 0 ≡ 0x00 → ⊥) → R t ≡ refused (wrong_end p)
    judged t g x y = rw (e.judged t g x y)

    by : (x : Read A) → r u ≡ x → Closed p u x → EndByte R s p
    by (refused f) q c = record { judged = judged; more = e.more; bytes = e.bytes; closed = subst (λ (x : Read A). Closed p u (then x (λ a n. k a n u))) (sym q) c }
    by (got a n) q c =
        let l : length u ≡ p + length (0x00 ∷ e.more) = length_front s (0x00 ∷ e.more) p w in
        let q₁ : r u ≡ got a (length u) = q ∙ ap (λ (m : ℕ). got a m) c in
        let t = locates_taken jr u a (length u) (omega arith) q₁ in
        let d = accepted_then r k u at a q₁ t ((jk a (length u)).accepts u refl) in
        let o : u ++ d.more ≡ take p s ++ 0x00 ∷ (e.more ++ d.more) = append_assoc (take p s) (0x00 ∷ e.more) d.more in
        record {
          judged = judged;
          more = e.more ++ d.more;
          bytes = λ f. both_fit e.more d.more (e.bytes f) (d.fit (front_fits s (0x00 ∷ e.more) p f (both_fit (0x00 ∷ []) e.more (one_fits 0x00 (omega arith)) (e.bytes f))));
          closed = subst (λ (v : List ℕ). Closed p v (R v)) o (closed_of p (u ++ d.more) (R (u ++ d.more)) d.value d.is);
        }

maps_then : {A B : Type 0} (r : List ℕ → Read A) (k : A → ℕ → List ℕ → Read B) (s : List ℕ) (at start : ℕ) → Locates r at start → ((a : A) (n : ℕ) → Locates (k a n) n start)
    → Maps r (λ t. then (r t) (λ a n. k a n t)) s start (λ p. at ≤ p)
unfolding then
maps_then r k s at start jr jk =
    record {
      element = λ p h e. record { within = e.within; passed = λ t f h x. rw (e.passed t f h x) };
      end_byte_claim = λ p h w e. end_byte_then r k s at start jr jk p h w e;
      whatever = λ p h w i. instead_then r k s at start jr jk p h w (λ u v l x. tt) i;
      at_tag = λ width tag p h w i. instead_then r k s at start jr jk p h w (λ u v l x. tag_grows width tag p u v l x) i;
      at_crc = λ p h w i. instead_then r k s at start jr jk p h w (λ u v l x. crc_grows start p u v l x) i;
    }

-- with some more bytes a chain's answer is not 10
pub more_then : {A B : Type 0} (r : List ℕ → Read A) (k : A → ℕ → List ℕ → Read B) (s : List ℕ) (at : ℕ) → at ≤ length s → More r s
    → ((u : List ℕ) (a : A) (n : ℕ) → at ≤ length u → r u ≡ got a n → Taken r u at n)
    → ((u : List ℕ) (a : A) (n : ℕ) → r u ≡ got a n → n ≤ length u → More (k a n) u)
    → More (λ t. then (r t) (λ a n. k a n t)) s
unfolding then
more_then {A} {B} r k s at h m taken next = by (r (s ++ m.more)) refl m.not_ten
  where
    u : List ℕ
    u = s ++ m.more

    R : List ℕ → Read B
    R t = then (r t) (λ a n. k a n t)

    by : (x : Read A) → r u ≡ x → NotTen x → More R s
    by (refused g) e w = record { more = m.more; bytes = m.bytes; not_ten = subst (λ (x : Read A). NotTen (then x (λ a n. k a n u))) (sym e) w }
    by (got a n) e w =
        let t = taken u a n (omega (arith, length-append s m.more)) e in
        let l = t.looked in
        let c = next u a n e t.high in
        let same : SameBefore n u (u ++ c.more) = record { bytes = take-append-le n u c.more t.high } in
        let d : NotTen (R (u ++ c.more)) = subst (λ (x : Read A). NotTen (then x (λ b i. k b i (u ++ c.more)))) (sym (l.alike (u ++ c.more) same ∙ e)) c.not_ten in
        record { more = m.more ++ c.more; bytes = both_fit m.more c.more m.bytes c.bytes; not_ten = subst (λ (v : List ℕ). NotTen (R v)) (append_assoc s m.more c.more) d }

pub locates_then : {A B : Type 0} (r : List ℕ → Read A) (k : A → ℕ → List ℕ → Read B) (at start : ℕ) → Locates r at start → ((a : A) (n : ℕ) → Locates (k a n) n start)
    → Locates (λ t. then (r t) (λ a n. k a n t)) at start
unfolding then
locates_then {A} {B} r k at start jr jk =
    record {
      seen = λ s h. by s (r s) refl (jr.seen s h);
      missing = λ s h. more_then r k s at h (jr.missing s h) (λ u a n i e. locates_taken jr u a n i e) (λ u a n e i. (jk a n).missing u i);
      accepts = λ s h. accepts_then r k s at start jr jk h;
    }
  where
    by : (s : List ℕ) (x : Read A) → r s ≡ x → Seen (Stood r s at start) r s at x
        → Seen (Stood (λ t. then (r t) (λ a n. k a n t)) s at start) (λ t. then (r t) (λ a n. k a n t)) s at (then x (λ a n. k a n s))
    by s (got a n) e w =
        let v = w.seen in
        let o = onward_then r k s at a n e v in
        seen_on (k a n s) o (stood_on o) ((jk a n).seen s v.high)
    by s (refused f) e w =
        let v = w.seen in
        let u = v.what in
        record {
          seen = record {
            behind = v.behind;
            low = v.low;
            looked = looked_then r k s at v.behind v.looked f e;
            what = record { stands = stands_map (maps_then r k s at start jr jk) (λ n. u.begun) u.stands; begun = u.begun; before = u.before };
          };
        }

-- where the answer is not 10 already
pub more_none : {A : Type 0} {read : List ℕ → Read A} {s : List ℕ} → NotTen (read s) → More read s
more_none {A} {read} {s} h = record { more = []; bytes = none_fits; not_ten = subst (λ (t : List ℕ). NotTen (read t)) (sym (append-nil s)) h }

-- a chain's end
pub locates_got : {A : Type 0} (a : A) (n start : ℕ) → Locates (λ t. got a n) n start
locates_got a n start =
    record {
      seen = λ s h. record { seen = record { low = omega arith; high = h; looked = record { cut = λ m p i j. absurd (omega arith); alike = λ t e. refl } } };
      missing = λ s h. record { more = []; bytes = none_fits; not_ten = tt };
      accepts = λ s h. record { more = []; fit = λ f. none_fits; value = a; is = ap (λ (m : ℕ). got a m) (sym (ap length (append-nil s) ∙ h)) };
    }

-- the same reading, said in another way
pub locates_as : {A : Type 0} {read : List ℕ → Read A} (r : List ℕ → Read A) {at start : ℕ} → ((t : List ℕ) → read t ≡ r t) → Locates r at start → Locates read at start
locates_as {A} {read} r {at} {start} e j =
    record {
      seen = λ s h. subst (λ (x : Read A). Seen (Stood read s at start) read s at x) (sym (e s)) (seen_on (r s) (o s) (stood_on (o s)) (j.seen s h));
      missing = λ s h. let m = j.missing s h in record { more = m.more; bytes = m.bytes; not_ten = subst (λ (x : Read A). NotTen x) (sym (e (s ++ m.more))) m.not_ten };
      accepts = λ s h. let m = j.accepts s h in record { more = m.more; fit = m.fit; value = m.value; is = e (s ++ m.more) ∙ m.is };
    }
  where
    o : (s : List ℕ) → Onward read r s at at
    o s = record { low = omega arith; cut = λ m p i l. absurd (omega arith); goes_on_claim = λ t k. e t }

-- one reading n times
pub locates_many : {A : Type 0} (read : ℕ → List ℕ → Read A) (start : ℕ) → ((at : ℕ) → Locates (read at) at start) → (n at : ℕ) → Locates (λ t. many n (λ m. read m t) at) at start
unfolding many
locates_many read start j zero at = locates_got [] at start
locates_many read start j (suc n) at =
    locates_then (read at) _ at start (j at) (λ a m.
    locates_then _ _ m start (locates_many read start j n m) (λ l k.
    locates_got _ k start))
