-- The length rules answer overflow exactly where the bytes make a length pass 4,294,967,295.
use mathlib.Core.Path.{◌≡◌, refl, sym, ap, ◌∙◌}
use mathlib.Core.List.{List}
use mathlib.Core.Bool.{Bool, true, false, cond, not, ◌&&◌, true≢false}
use mathlib.Core.Option.{Option, some, none}
use Prim.Native.Nat.{ℕ, zero, suc, ◌+◌, ◌-◌, ◌<◌}
use native.Mathlib.Nat.{add-zero}
use native.Mathlib.Omega.{arith}
use lib.ListN.{length, get_or, drop}
use lib.Dec.{ltb, leb, eqb}
use borrow.Author.Tests.{leb-true, leb-false, eqb-true, eqb-false, ltb-true, ltb-false, eq-eqb}
use Rattle.refusals.specs.Read.{Read, got, refused, Refusal, then, guard, need, eof}
use Rattle.refusals.specs.Answers.{overflow, reserved, underflow, next_type, invalid_ty}
use Rattle.tlf.specs.Lengths.{more_follow, type_bits, length_bits, ty_of, is_list, is_boolean, longest, less_own, tlf_at}
use Rattle.tlf.specs.Overflow.{length_up_to, PassesLongest, Overflows}
use Rattle.tlf.specs.declared.Ty.{Ty}
use Rattle.tlf.specs.declared.TypeLengthField.{TypeLengthField}
use Rattle.tlf.proofs.Lengths.{length_rest, head_from, head_is, length_stop, length_cut, length_next}
use Rattle.tlf.proofs.Ends.{tlf_end}

-- the length, once the length byte k places behind the first is read
length_behind : List ℕ → ℕ → ℕ → Read ℕ
length_behind s at k = length_rest at (at + suc k) (more_follow (get_or s (at + k) 0)) (length_up_to s at k) s

-- more follow: the next byte's type is judged, then the length with it
behind_next : (s : List ℕ) (at k : ℕ) → at + suc k < length s → more_follow (get_or s (at + k) 0) ≡ true
    → length_behind s at k
    ≡ guard (eqb (type_bits (get_or s (at + suc k) 0)) 0) (next_type at)
    (guard (leb (length_up_to s at (suc k)) longest) (overflow at)
    (length_behind s at (suc k)))
unfolding length_behind length_rest length_up_to
behind_next s at k h m = let e : at + suc k + 1 ≡ at + suc (suc k) = omega arith in rw (m, length_next s at (at + suc k) (length_up_to s at k) h, e)

-- ---- where a byte makes it so, overflow is the answer

-- a test that fails, or what follows, refuses so
either_refuses : {A : Type 0} (b : Bool) (f : Refusal) (r : Read A) → (b ≡ true → r ≡ refused f) → guard b f r ≡ refused f
unfolding guard
either_refuses true f r h = h refl
either_refuses false f r h = refl

passed_step : (s : List ℕ) (at k : ℕ) (p : PassesLongest s at) → k < p.behind → (leb (length_up_to s at (suc k)) longest ≡ true → length_behind s at (suc k) ≡ refused (overflow at)) → length_behind s at k ≡ refused (overflow at)
unfolding guard
passed_step s at k p h next =
    let w = p.within in
    rw (behind_next s at k (omega arith) (p.more k h), eq-eqb (type_bits (get_or s (at + suc k) 0)) 0 (p.later k h))
    (either_refuses _ _ _ next)

passed_from : (d : ℕ) (s : List ℕ) (at k : ℕ) (p : PassesLongest s at) → p.behind ≡ k + suc d → length_behind s at k ≡ refused (overflow at)
passed_from zero s at k p h =
    let same : p.behind ≡ suc k = omega arith in
    let far : longest < length_up_to s at (suc k) = rw same at p.passes in
    passed_step s at k p (omega arith) (λ e. absurd (omega (arith, far, leb-true (length_up_to s at (suc k)) longest e)))
passed_from (suc d) s at k p h = passed_step s at k p (omega arith) (λ e. passed_from d s at (suc k) p (omega arith))

-- behind the first byte
behind_first : (s : List ℕ) (at : ℕ) → length_rest at (at + 1) (more_follow (get_or s at 0)) (length_bits (get_or s at 0)) s ≡ length_behind s at 0
unfolding length_behind length_up_to
behind_first s at = rw (add-zero at)

passed_refuses : (s : List ℕ) (at : ℕ) → PassesLongest s at → tlf_at s at ≡ refused (overflow at)
unfolding then guard need head_from length_up_to
passed_refuses s at p = by p.behind refl
  where
    by : (k : ℕ) → p.behind ≡ k → tlf_at s at ≡ refused (overflow at)
    by zero e = let far : longest < length_up_to s at 0 = rw e at p.passes in absurd (omega (arith, far))
    by (suc d) e =
        let w = p.within in
        rw (head_is s at _ (omega arith) refl, p.first, p.unreserved, behind_first s at, passed_from d s at 0 p (omega arith))

-- ---- and nowhere else

-- the kind of a refusal, 1 of overflow
unfoldable pub kind_in : {A : Type 0} → Read A → ℕ
kind_in (got a n) = 0
kind_in (refused f) = f.kind

unfoldable pub place_in : {A : Type 0} → Read A → ℕ
place_in (got a n) = n
place_in (refused f) = f.place

-- what is no overflow is not answered so
not_overflow : {A B : Type 0} (r : Read A) (place : ℕ) → (kind_in r ≡ 1 → ⊥) → r ≡ refused (overflow place) → B
unfolding kind_in
not_overflow r place h e = absurd (h (ap kind_in e))

-- the length bytes up to the one k places behind the first are as the rules want them
record SoundUpTo (s : List ℕ) (at k : ℕ) : Type 0 where
  pub ty : Ty
  pub first : ty_of (type_bits (get_or s at 0)) ≡ some ty
  pub unreserved : (is_boolean ty && more_follow (get_or s at 0)) ≡ false
  pub later : (i : ℕ) → i < k → type_bits (get_or s (at + suc i) 0) ≡ 0
  pub more : (i : ℕ) → i < k → more_follow (get_or s (at + i) 0) ≡ true

-- one more: what holds below k and at k holds below k + 1
below_next : {P : ℕ → Type 0} (k : ℕ) → ((i : ℕ) → i < k → P i) → P k → (i : ℕ) → i < suc k → P i
below_next {P} k h p i l = by (eqb i k) refl
  where
    by : (b : Bool) → eqb i k ≡ b → P i
    by true e = rw (eqb-true i k e) p
    by false e = let n = eqb-false i k e in h i (omega arith)

only_more : (a b : Bool) → (a && b) ≡ false → b ≡ true → a ≡ false
only_more true b e h = absurd (true≢false (sym h ∙ e))
only_more false b e h = refl

abbrev OverflowTold : List ℕ → ℕ → ℕ → Type 0
OverflowTold s at place = (place ≡ at) × PassesLongest s at

-- more follow, and the next byte is there
told_more : (s : List ℕ) (at k place : ℕ) → at + suc k < length s → more_follow (get_or s (at + k) 0) ≡ true → SoundUpTo s at k
    → (SoundUpTo s at (suc k) → length_behind s at (suc k) ≡ refused (overflow place) → OverflowTold s at place) → length_behind s at k ≡ refused (overflow place) → OverflowTold s at place
unfolding guard kind_in place_in
told_more s at k place h m o next e = by (eqb (type_bits (get_or s (at + suc k) 0)) 0) (leb (length_up_to s at (suc k)) longest) refl refl (sym (behind_next s at k h m) ∙ e)
  where
    now_sound : eqb (type_bits (get_or s (at + suc k) 0)) 0 ≡ true → SoundUpTo s at (suc k)
    now_sound t =
        record {
          ty = o.ty;
          first = o.first;
          unreserved = o.unreserved;
          later = below_next k o.later (eqb-true _ 0 t);
          more = below_next k o.more m;
        }

    by : (b c : Bool) → eqb (type_bits (get_or s (at + suc k) 0)) 0 ≡ b → leb (length_up_to s at (suc k)) longest ≡ c
        → guard b (next_type at) (guard c (overflow at) (length_behind s at (suc k))) ≡ refused (overflow place) → OverflowTold s at place
    by false c t l e' = not_overflow {A = ℕ} (refused (next_type at)) place (λ (n : ◌≡◌ {A = ℕ} 4 1). omega (arith, n)) e'
    by true true t l e' = next (now_sound t) e'
    by true false t l e' =
        let w = now_sound t in
        let p : at ≡ place = ap place_in e' in (
          sym p,
          record {
            behind = suc k;
            within = h;
            ty = w.ty;
            first = w.first;
            unreserved = only_more _ _ w.unreserved (rw add-zero at (w.more 0 (omega arith)));
            later = w.later;
            more = w.more;
            passes = leb-false _ _ l;
          },
        )

-- no more follow: a length, and no refusal
told_done : (s : List ℕ) (at k place : ℕ) → more_follow (get_or s (at + k) 0) ≡ false → length_behind s at k ≡ refused (overflow place) → OverflowTold s at place
unfolding length_behind length_rest kind_in
told_done s at k place m e =
    not_overflow (got (length_up_to s at k) (at + suc k)) place (λ (n : ◌≡◌ {A = ℕ} 0 1). omega (arith, n)) (sym (rw m (length_stop (length s) at (drop (at + suc k) s) (at + suc k) (length_up_to s at k))) ∙ e)

-- more follow, and the input has ended: 10
told_cut_lem : (s : List ℕ) (at k place : ℕ) → length s ≡ at + suc k → more_follow (get_or s (at + k) 0) ≡ true → length_behind s at k ≡ refused (overflow place) → OverflowTold s at place
unfolding length_behind length_rest kind_in
told_cut_lem s at k place h m e =
    not_overflow {A = ℕ} (refused (eof (length s))) place (λ (n : ◌≡◌ {A = ℕ} 0 1). omega (arith, n)) (sym (rw m (length_cut s at (at + suc k) (length_up_to s at k) (omega arith))) ∙ e)

told_from_lem : (d : ℕ) (s : List ℕ) (at k place : ℕ) → length s ≡ at + suc k + d → SoundUpTo s at k → length_behind s at k ≡ refused (overflow place) → OverflowTold s at place
told_from_lem zero s at k place h o e = by (more_follow (get_or s (at + k) 0)) refl
  where
    by : (b : Bool) → more_follow (get_or s (at + k) 0) ≡ b → OverflowTold s at place
    by true m = told_cut_lem s at k place (omega arith) m e
    by false m = told_done s at k place m e
told_from_lem (suc d) s at k place h o e = by (more_follow (get_or s (at + k) 0)) refl (told_from_lem d s at (suc k) place (omega arith))
  where
    by : (b : Bool) → more_follow (get_or s (at + k) 0) ≡ b → (SoundUpTo s at (suc k) → length_behind s at (suc k) ≡ refused (overflow place) → OverflowTold s at place) → OverflowTold s at place
    by true m next = told_more s at k place (omega arith) m o next e
    by false m next = told_done s at k place m e

-- ---- type and length

-- less the length bytes, it is a length, or underflow
own_kind : (ty : Ty) (own len at n : ℕ) → kind_in (less_own ty own len at n) ≡ 1 → ⊥
unfolding less_own guard kind_in
own_kind ty own len at n = by (is_list ty) (leb own len)
  where
    by : (b c : Bool) → kind_in {A = TypeLengthField} (cond b (got (record { ty = ty; len = len }) n) (guard c (underflow at) (got (record { ty = ty; len = len - own }) n))) ≡ 1 → ⊥
    by true c e = omega (arith, e)
    by false true e = omega (arith, e)
    by false false e = omega (arith, e)

-- so that what is refused as overflow is the length
told_length : (ty : Ty) (at place : ℕ) (r : Read ℕ) → (then r λ len end. less_own ty (end - at) len at end) ≡ refused (overflow place) → r ≡ refused (overflow place)
unfolding then
told_length ty at place (got len end) e = not_overflow (less_own ty (end - at) len at end) place (own_kind ty (end - at) len at end) e
told_length ty at place (refused f) e = let same : f ≡ overflow place = cc in ap refused same

told_head : (s : List ℕ) (at place : ℕ) → at < length s → head_from at (get_or s at 0) s ≡ refused (overflow place) → OverflowTold s at place
unfolding head_from need guard kind_in
told_head s at place h e = by (ty_of (type_bits (get_or s at 0))) refl e
  where
    rest : Ty → Read TypeLengthField
    rest ty = then (length_rest at (at + 1) (more_follow (get_or s at 0)) (length_bits (get_or s at 0)) s) λ len end. less_own ty (end - at) len at end

    on : (ty : Ty) → ty_of (type_bits (get_or s at 0)) ≡ some ty → (b : Bool) → (is_boolean ty && more_follow (get_or s at 0)) ≡ b → guard (not b) (reserved at) (rest ty) ≡ refused (overflow place) → OverflowTold s at place
    on ty t true r i = not_overflow {A = TypeLengthField} (refused (reserved at)) place (λ (n : ◌≡◌ {A = ℕ} 2 1). omega (arith, n)) i
    on ty t false r i =
        told_from_lem (length s - (at + 1)) s at 0 place (omega arith)
        (record { ty = ty; first = t; unreserved = r; later = λ j l. absurd (omega arith); more = λ j l. absurd (omega arith) })
        (sym (behind_first s at) ∙ told_length ty at place _ i)

    by : (o : Option Ty) → ty_of (type_bits (get_or s at 0)) ≡ o → (need o (invalid_ty at) λ ty. guard (not (is_boolean ty && more_follow (get_or s at 0))) (reserved at) (rest ty)) ≡ refused (overflow place) → OverflowTold s at place
    by none t i = not_overflow {A = TypeLengthField} (refused (invalid_ty at)) place (λ (n : ◌≡◌ {A = ℕ} 5 1). omega (arith, n)) i
    by (some ty) t i = on ty t (is_boolean ty && more_follow (get_or s at 0)) refl i

only_there : (s : List ℕ) (at place : ℕ) → tlf_at s at ≡ refused (overflow place) → OverflowTold s at place
unfolding kind_in
only_there s at place e = by (ltb at (length s)) refl
  where
    by : (b : Bool) → ltb at (length s) ≡ b → OverflowTold s at place
    by true l = let h = ltb-true at (length s) l in told_head s at place h (sym (head_is s at _ h refl) ∙ e)
    by false l = not_overflow {A = TypeLengthField} (refused (eof (length s))) place (λ (n : ◌≡◌ {A = ℕ} 0 1). omega (arith, n)) (sym (tlf_end s at (ltb-false at (length s) l)) ∙ e)

pub overflows : Overflows tlf_at
overflows = record { given = passed_refuses; only = only_there }
