-- The length reader: its refusals are 10 at the input's length and 11 at the element's first length byte, and how far it looked.
use mathlib.Core.Path.{◌≡◌, refl, sym, ap, ◌∙◌, subst}
use mathlib.Core.Bool.{Bool, true, false, not, cond, ◌&&◌}
use mathlib.Core.Option.{Option, some, none}
use mathlib.Core.List.{List, [], ◌∷◌, ◌++◌}
use Prim.Native.Nat.{ℕ, zero, suc, ◌+◌, ◌-◌, ◌≤◌, ◌<◌}
use native.Mathlib.Omega.{arith}
use lib.ListN.{length, get_or, take, drop, length-append}
use lib.Dec.{leb, eqb}
use lib.Seq.{length-take-le, get_or_at}
use borrow.Author.Tests.{leb-true, leb-false}
use Rattle.refusals.specs.Numbers.{unexpected_eof_no}
use Rattle.refusals.specs.Read.{Read, got, refused, Refusal, then, guard, need, eof, invalid_tlf}
use Rattle.refusals.specs.Answers.{overflow, reserved, underflow, next_type, invalid_ty}
use Rattle.tlf.specs.Lengths.{more_follow, type_bits, length_bits, ty_of, is_list, is_boolean, longer, longest, length_from, less_own, tlf_at}
use Rattle.tlf.specs.declared.Ty.{Ty}
use Rattle.tlf.specs.declared.TypeLengthField.{TypeLengthField}
use Rattle.tlf.proofs.Lengths.{length_rest, head_from, head_is, length_stop, length_cut, length_next}
use Rattle.tlf.proofs.Ends.{tlf_end}
use Rattle.places.specs.Stands.{SameBefore}
use Rattle.places.specs.Readers.{LengthRefusal, end_of_input, bad_length_bytes, NotTen}
use Rattle.places.proofs.Before.{same_all, same_byte, same_long}
use Rattle.places.proofs.Seen.{Seen, Onward, seen_on, seen_then, looked_over_lem}

-- what the length reader refuses at `at`, with the place behind what it judged
pub data HeadWrong (s : List ℕ) (at : ℕ) : Refusal → ℕ → Type 0 where
  no_head : HeadWrong s at (eof (length s)) (length s + 1)
  bad_head : (kind q : ℕ) → at < length s → at < q → HeadWrong s at (invalid_tlf kind at) q

-- 10 at the end of a cut
pub cut_eof : {A : Type 0} (s : List ℕ) (m : ℕ) → m ≤ length s → ◌≡◌ {A = Read A} (refused (eof (length (take m s)))) (refused (eof m))
cut_eof {A} s m h = ap (λ (n : ℕ). refused (eof n)) (length-take-le m s h)

-- a reading that does not look at the input
pub fixed_got : {A : Type 0} {P : Refusal → ℕ → Type 0} (s : List ℕ) (n : ℕ) (a : A) → n ≤ length s → Seen P (λ t. got a n) s n (got a n)
fixed_got s n a h = record { seen = record { low = omega arith; high = h; looked = record { cut = λ m p i j. absurd (omega arith); alike = λ t e. refl } } }

pub fixed_refused : {A : Type 0} {P : Refusal → ℕ → Type 0} (s : List ℕ) (n : ℕ) (f : Refusal) → P f n → Seen {A = A} P (λ t. refused f) s n (refused f)
fixed_refused s n f h = record { seen = record { behind = n; low = omega arith; looked = record { cut = λ m p i j. absurd (omega arith); alike = λ t e. refl }; what = h } }

-- ---- the bytes behind the first

-- more follow, and the input ends
length_short : (s : List ℕ) (at i len m : ℕ) → m ≤ length s → m ≤ i → length_rest at i true len (take m s) ≡ refused (eof m)
unfolding length_rest
length_short s at i len m h k = length_cut (take m s) at i len (omega (arith, length-take-le m s h)) ∙ cut_eof s m h

-- more follow: the byte at i is judged, and what is behind it goes on
length_on : (s : List ℕ) (at i len : ℕ) (b c : Bool) → i < length s → eqb (type_bits (get_or s i 0)) 0 ≡ b → leb (longer len (get_or s i 0)) longest ≡ c → (t : List ℕ) → SameBefore (i + 1) s t
    → length_rest at i true len t ≡ guard b (next_type at) (guard c (overflow at) (length_rest at (i + 1) (more_follow (get_or s i 0)) (longer len (get_or s i 0)) t))
unfolding length_rest
length_on s at i len b c h e k t w = rw (length_next t at i len (omega (arith, same_long (omega arith) w)), same_byte i (omega arith) w, e, k)

LengthSeen : List ℕ → ℕ → ℕ → Bool → ℕ → Type 0
LengthSeen s at i more len = Seen (HeadWrong s at) (length_rest at i more len) s i (length_rest at i more len s)

length_done : (s : List ℕ) (at i len : ℕ) → i ≤ length s → LengthSeen s at i false len
unfolding length_rest LengthSeen
length_done s at i len h =
    rw (length_stop (length s) at (drop i s) i len)
    (record {
      seen = record {
        low = omega arith;
        high = h;
        looked = record {
          cut = λ m p q j. absurd (omega arith);
          alike = λ t e. length_stop (length t) at (drop i t) i len ∙ sym (length_stop (length s) at (drop i s) i len);
        };
      };
    })

length_over : (s : List ℕ) (at i : ℕ) (more : Bool) (len : ℕ) → length s ≡ i → LengthSeen s at i more len
unfolding length_rest LengthSeen
length_over s at i false len h = length_done s at i len (omega arith)
length_over s at i true len h =
    rw (length_cut s at i len (omega arith))
    (record { seen = record { behind = length s + 1; low = omega arith; looked = looked_over_lem _ s i (λ m p j. length_short s at i len m j (omega arith)); what = no_head } })

length_more : (s : List ℕ) (at i : ℕ) (more : Bool) (len : ℕ) → at < i → i < length s → LengthSeen s at (i + 1) (more_follow (get_or s i 0)) (longer len (get_or s i 0)) → LengthSeen s at i more len
unfolding length_rest LengthSeen guard
length_more s at i false len o h next = length_done s at i len (omega arith)
length_more s at i true len o h next = by (eqb (type_bits (get_or s i 0)) 0) (leb (longer len (get_or s i 0)) longest) refl refl
  where
    on : (b c : Bool) → eqb (type_bits (get_or s i 0)) 0 ≡ b → leb (longer len (get_or s i 0)) longest ≡ c
        → Onward (length_rest at i true len) (λ t. guard b (next_type at) (guard c (overflow at) (length_rest at (i + 1) (more_follow (get_or s i 0)) (longer len (get_or s i 0)) t))) s i (i + 1)
    on b c e k = record { low = omega arith; cut = λ m p q j. length_short s at i len m j (omega arith); goes_on_claim = length_on s at i len b c h e k }

    bad : (f : Refusal) → HeadWrong s at f (i + 1) → Seen {A = ℕ} (HeadWrong s at) (λ t. refused f) s (i + 1) (refused f)
    bad f w = fixed_refused s (i + 1) f w

    by : (b c : Bool) → eqb (type_bits (get_or s i 0)) 0 ≡ b → leb (longer len (get_or s i 0)) longest ≡ c → LengthSeen s at i true len
    by true true e k = rw (length_on s at i len true true h e k s (same_all (i + 1) s)) (seen_on _ (on true true e k) (λ f q n w. w) next)
    by true false e k = rw (length_on s at i len true false h e k s (same_all (i + 1) s)) (seen_on _ (on true false e k) (λ f q n w. w) (bad (overflow at) (bad_head _ (i + 1) (omega arith) (omega arith))))
    by false c e k = rw (length_on s at i len false c h e k s (same_all (i + 1) s)) (seen_on _ (on false c e k) (λ f q n w. w) (bad (next_type at) (bad_head _ (i + 1) (omega arith) (omega arith))))

length_seen : (d : ℕ) (s : List ℕ) (at i : ℕ) (more : Bool) (len : ℕ) → at < i → length s ≡ i + d → LengthSeen s at i more len
length_seen zero s at i more len o h = length_over s at i more len (omega arith)
length_seen (suc d) s at i more len o h = length_more s at i more len o (omega arith) (length_seen d s at (i + 1) _ _ (omega arith) (omega arith))

-- ---- type and length

-- except for lists, less the length bytes: nothing more is read
own_seen : (s : List ℕ) (ty : Ty) (own len at n : ℕ) → at < n → n ≤ length s → Seen (HeadWrong s at) (λ t. less_own ty own len at n) s n (less_own ty own len at n)
unfolding less_own guard
own_seen s ty own len at n h k = by (is_list ty) (leb own len)
  where
    by : (b c : Bool) → Seen {A = TypeLengthField} (HeadWrong s at) (λ t. cond b (got (record { ty = ty; len = len }) n) (guard c (underflow at) (got (record { ty = ty; len = len - own }) n))) s n
        (cond b (got (record { ty = ty; len = len }) n) (guard c (underflow at) (got (record { ty = ty; len = len - own }) n)))
    by true c = fixed_got s n _ k
    by false true = fixed_got s n _ k
    by false false = fixed_refused s n (underflow at) (bad_head _ n (omega arith) h)

head_seen : (s : List ℕ) (at b : ℕ) → at < length s → Seen (HeadWrong s at) (head_from at b) s (at + 1) (head_from at b s)
unfolding head_from need guard LengthSeen
head_seen s at b h = by (ty_of (type_bits b))
  where
    rest : Ty → List ℕ → Read TypeLengthField
    rest ty t = then (length_rest at (at + 1) (more_follow b) (length_bits b) t) λ len end. less_own ty (end - at) len at end

    on : (ty : Ty) (c : Bool) → Seen (HeadWrong s at) (λ t. guard c (reserved at) (rest ty t)) s (at + 1) (guard c (reserved at) (rest ty s))
    on ty true = seen_then _ (λ len end t. less_own ty (end - at) len at end) s (at + 1) (length_seen (length s - (at + 1)) s at (at + 1) _ _ (omega arith) (omega arith)) (λ len end e l k. own_seen s ty (end - at) len at end (omega arith) k)
    on ty false = fixed_refused s (at + 1) (reserved at) (bad_head _ (at + 1) h (omega arith))

    by : (o : Option Ty) → Seen (HeadWrong s at) (λ t. need o (invalid_ty at) λ ty. guard (not (is_boolean ty && more_follow b)) (reserved at) (rest ty t)) s (at + 1)
        (need o (invalid_ty at) λ ty. guard (not (is_boolean ty && more_follow b)) (reserved at) (rest ty s))
    by (some ty) = on ty (not (is_boolean ty && more_follow b))
    by none = fixed_refused s (at + 1) (invalid_ty at) (bad_head _ (at + 1) h (omega arith))

-- the length reader, from a place within the input
pub tlf_seen : (s : List ℕ) (at : ℕ) → at ≤ length s → Seen (HeadWrong s at) (λ t. tlf_at t at) s at (tlf_at s at)
tlf_seen s at h = by (leb (length s) at) refl
  where
    short : (m : ℕ) → m ≤ at → m ≤ length s → tlf_at (take m s) at ≡ refused (eof m)
    short m k j = tlf_end (take m s) at (omega (arith, length-take-le m s j)) ∙ cut_eof s m j

    by : (b : Bool) → leb (length s) at ≡ b → Seen (HeadWrong s at) (λ t. tlf_at t at) s at (tlf_at s at)
    by true e =
        let k = leb-true (length s) at e in
        rw (tlf_end s at k)
        (record { seen = record { behind = length s + 1; low = omega arith; looked = looked_over_lem _ s at (λ m p j. short m (omega arith) j); what = no_head } })
    by false e =
        let k = leb-false (length s) at e in
        rw (head_is s at (get_or s at 0) k refl)
        (seen_on _ (record {
          low = omega arith;
          cut = λ m p i j. short m (omega arith) j;
          goes_on_claim = λ t w. head_is t at (get_or s at 0) (omega (arith, same_long (omega arith) w)) (same_byte at (omega arith) w);
        }) (λ f q n w. w)
        (head_seen s at (get_or s at 0) k))

-- ---- its refusals, wherever it is called

head_refusal : (s : List ℕ) (at : ℕ) (f : Refusal) (q : ℕ) → HeadWrong s at f q → LengthRefusal s at f
head_refusal s at f q no_head = end_of_input
head_refusal s at f q (bad_head kind q₁ h l) = bad_length_bytes kind h

pub length_refusals : (s : List ℕ) (at : ℕ) (f : Refusal) → tlf_at s at ≡ refused f → LengthRefusal s at f
length_refusals s at f e = by (leb at (length s)) refl
  where
    by : (b : Bool) → leb at (length s) ≡ b → LengthRefusal s at f
    by true k =
        let w : Seen (HeadWrong s at) (λ t. tlf_at t at) s at (refused f) = subst (λ (r : Read TypeLengthField). Seen (HeadWrong s at) (λ t. tlf_at t at) s at r) e (tlf_seen s at (leb-true at (length s) k)) in
        let v = w.seen in
        head_refusal s at f v.behind v.what
    by false k =
        let l = leb-false at (length s) k in
        let z : ◌≡◌ {A = Read TypeLengthField} (refused (eof (length s))) (refused f) = sym (tlf_end s at (omega arith)) ∙ e in
        let same : eof (length s) ≡ f = cc in
        subst (λ (g : Refusal). LengthRefusal s at g) same end_of_input

-- ---- with one byte more, which no length field has, its answer is not 10

not_ten_then : {A B : Type 0} (r : Read A) (k : A → ℕ → Read B) → NotTen r → ((a : A) (n : ℕ) → NotTen (k a n)) → NotTen (then r k)
unfolding then
not_ten_then (got a n) k h g = g a n
not_ten_then (refused f) k h g = h

pub not_ten_guard : {A : Type 0} (b : Bool) (f : Refusal) (r : Read A) → (f.number ≡ unexpected_eof_no → ⊥) → NotTen r → NotTen (guard b f r)
unfolding guard
not_ten_guard true f r h g = g
not_ten_guard false f r h g = h

length_told : (d : ℕ) (s : List ℕ) (at i : ℕ) (more : Bool) (len : ℕ) → length s ≡ i + d → NotTen (length_rest at i more len (s ++ 0x10 ∷ []))
unfolding length_rest guard
length_told zero s at i more len h = by more
  where
    u : List ℕ
    u = s ++ 0x10 ∷ []

    l : length u ≡ length s + 1
    l = length-append s (0x10 ∷ [])

    by : (b : Bool) → NotTen (length_from (length u) at (drop i u) i b len)
    by false = subst (λ (r : Read ℕ). NotTen r) (sym (length_stop (length u) at (drop i u) i len)) tt
    by true =
        rw (length_next u at i len (omega (arith, l)), get_or_at s 0x10 [] 0 i (omega arith))
        (λ (n : ◌≡◌ {A = ℕ} 11 10). omega (arith, n))
length_told (suc d) s at i more len h = by more (λ m k. length_told d s at (i + 1) m k (omega arith))
  where
    u : List ℕ
    u = s ++ 0x10 ∷ []

    l : length u ≡ length s + 1
    l = length-append s (0x10 ∷ [])

    by : (b : Bool) → ((m : Bool) (k : ℕ) → NotTen (length_rest at (i + 1) m k u)) → NotTen (length_from (length u) at (drop i u) i b len)
    by false next = subst (λ (r : Read ℕ). NotTen r) (sym (length_stop (length u) at (drop i u) i len)) tt
    by true next =
        rw (length_next u at i len (omega (arith, l)))
        (not_ten_guard (eqb (type_bits (get_or u i 0)) 0) (next_type at) _ (λ (n : ◌≡◌ {A = ℕ} 11 10). omega (arith, n))
        (not_ten_guard (leb (longer len (get_or u i 0)) longest) (overflow at) (length_rest at (i + 1) (more_follow (get_or u i 0)) (longer len (get_or u i 0)) u) (λ (n : ◌≡◌ {A = ℕ} 11 10). omega (arith, n))
        (next (more_follow (get_or u i 0)) (longer len (get_or u i 0)))))

own_told : (ty : Ty) (own len at n : ℕ) → NotTen (less_own ty own len at n)
unfolding less_own
own_told ty own len at n = by (is_list ty)
  where
    by : (b : Bool) → NotTen {A = TypeLengthField} (cond b (got (record { ty = ty; len = len }) n) (guard (leb own len) (underflow at) (got (record { ty = ty; len = len - own }) n)))
    by true = tt
    by false = not_ten_guard (leb own len) (underflow at) (got (record { ty = ty; len = len - own }) n) (λ k. omega (arith, k)) tt

head_told : (s : List ℕ) (at b : ℕ) → at < length s → NotTen (head_from at b (s ++ 0x10 ∷ []))
unfolding head_from need
head_told s at b h = by (ty_of (type_bits b))
  where
    by : (o : Option Ty) → NotTen (need o (invalid_ty at) λ ty. guard (not (is_boolean ty && more_follow b)) (reserved at) (then (length_rest at (at + 1) (more_follow b) (length_bits b) (s ++ 0x10 ∷ [])) λ len end. less_own ty (end - at) len at end))
    by (some ty) =
        not_ten_guard _ (reserved at) _ (λ (n : ◌≡◌ {A = ℕ} 11 10). omega (arith, n)) (not_ten_then _ _ (length_told (length s - (at + 1)) s at (at + 1) _ _ (omega arith)) (λ len end. own_told ty (end - at) len at end))
    by none = λ (n : ◌≡◌ {A = ℕ} 11 10). omega (arith, n)

pub tlf_told : (s : List ℕ) (at : ℕ) → at ≤ length s → NotTen (tlf_at (s ++ 0x10 ∷ []) at)
unfolding head_from need
tlf_told s at h = by (leb (length s) at) refl
  where
    u : List ℕ
    u = s ++ 0x10 ∷ []

    l : length u ≡ length s + 1
    l = length-append s (0x10 ∷ [])

    by : (b : Bool) → leb (length s) at ≡ b → NotTen (tlf_at u at)
    by true e =
        let k = leb-true (length s) at e in
        rw (head_is u at 0x10 (omega (arith, l)) (get_or_at s 0x10 [] 0 at (omega arith))) (λ (n : ◌≡◌ {A = ℕ} 11 10). omega (arith, n))
    by false e = let k = leb-false (length s) at e in rw (head_is u at (get_or u at 0) (omega (arith, l)) refl) (head_told s at (get_or u at 0) k)
