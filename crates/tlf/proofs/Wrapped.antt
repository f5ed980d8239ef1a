-- The length rules before document 02's Q-2, by which a length kept its low 32 bits: what has moved since, and that nothing else has.
use mathlib.Core.Path.{◌≡◌, refl, sym, ap, ◌∙◌}
use mathlib.Core.Logic.{◌⊎◌, inl, inr, ⊎_elim}
use mathlib.Core.List.{List, [], ◌∷◌}
use mathlib.Core.Bool.{Bool, true, false, cond, not, ◌&&◌}
use mathlib.Core.Option.{Option, some, none}
use Prim.Native.Nat.{ℕ, ◌+◌, ◌*◌, ◌%◌, ◌^◌, ◌-◌, ◌<◌}
use native.Mathlib.Nat.{mod-eq_of_lt}
use native.Mathlib.Omega.{arith}
use lib.ListN.{length, drop}
use lib.Dec.{leb, eqb}
use borrow.Author.Tests.{leb-true}
use Rattle.refusals.specs.Read.{Read, got, refused, Refusal, then, guard, need, eof, byte_at}
use Rattle.refusals.specs.Answers.{overflow, reserved, next_type, invalid_ty}
use Rattle.tlf.specs.Lengths.{more_follow, type_bits, length_bits, ty_of, is_boolean, longer, longest, length_from, less_own, tlf_at}
use Rattle.tlf.specs.Overflow.{PassesLongest, Overflows}
use Rattle.tlf.specs.declared.Ty.TheVariants.{OctetString}
use Rattle.tlf.specs.declared.TypeLengthField.{TypeLengthField}
use Rattle.tlf.proofs.Overflow.{kind_in, overflows}

-- ---- the old rule

wrapped : ℕ → ℕ → ℕ
wrapped len b = (len * 16 + length_bits b) % 2 ^ 32

wrapped_from : ℕ → ℕ → List ℕ → ℕ → Bool → ℕ → Read ℕ
wrapped_from end start [] at more len = cond more (refused (eof end)) (got len at)
wrapped_from end start (b ∷ bs) at more len =
    cond more
    (guard (eqb (type_bits b) 0) (next_type start)
    (wrapped_from end start bs (at + 1) (more_follow b) (wrapped len b)))
    (got len at)

pub wrapped_at : List ℕ → ℕ → Read TypeLengthField
wrapped_at s at =
    then (byte_at s at) λ b next.
    need (ty_of (type_bits b)) (invalid_ty at) λ ty.
    guard (not (is_boolean ty && more_follow b)) (reserved at)
    (then (wrapped_from (length s) at (drop next s) next (more_follow b) (length_bits b)) λ len end.
    less_own ty (end - at) len at end)

-- ---- what has moved

-- the answer is overflow now, or what it was
abbrev pub LengthMoved : {A : Type 0} → ℕ → Read A → Read A → Type 0
LengthMoved at new old = (new ≡ refused (overflow at)) ⊎ (new ≡ old)

-- what stands before a reading stays, and so does what stands behind it
moved_guard : {A : Type 0} (at : ℕ) (b : Bool) (f : Refusal) (x y : Read A) → LengthMoved at x y → LengthMoved at (guard b f x) (guard b f y)
unfolding guard
moved_guard at true f x y h = h
moved_guard at false f x y h = inr refl

moved_need : {A B : Type 0} (at : ℕ) (o : Option A) (f : Refusal) (x y : A → Read B) → ((a : A) → LengthMoved at (x a) (y a)) → LengthMoved at (need o f x) (need o f y)
unfolding need
moved_need at (some a) f x y h = h a
moved_need at none f x y h = inr refl

moved_behind : {A B : Type 0} (at : ℕ) (r : Read A) (x y : A → ℕ → Read B) → ((a : A) (n : ℕ) → LengthMoved at (x a n) (y a n)) → LengthMoved at (then r x) (then r y)
unfolding then
moved_behind at (got a n) x y h = h a n
moved_behind at (refused f) x y h = inr refl

moved_then : {A B : Type 0} (at : ℕ) (x y : Read A) (k : A → ℕ → Read B) → LengthMoved at x y → LengthMoved at (then x k) (then y k)
unfolding then
moved_then at x y k h = ⊎_elim (λ e. inl (rw e)) (λ e. inr (rw e)) h

moved_from : (end at : ℕ) (bs : List ℕ) (i : ℕ) (more : Bool) (len : ℕ) → LengthMoved at (length_from end at bs i more len) (wrapped_from end at bs i more len)
unfolding length_from wrapped_from wrapped guard
moved_from end at [] i more len = inr refl
moved_from end at (b ∷ bs) i false len = inr refl
moved_from end at (b ∷ bs) i true len = moved_guard at (eqb (type_bits b) 0) (next_type at) _ _ (by (leb (longer len b) longest) refl (moved_from end at bs (i + 1) (more_follow b) (longer len b)))
  where
    by : (c : Bool) → leb (longer len b) longest ≡ c → LengthMoved at (length_from end at bs (i + 1) (more_follow b) (longer len b)) (wrapped_from end at bs (i + 1) (more_follow b) (longer len b))
        → LengthMoved at (guard c (overflow at) (length_from end at bs (i + 1) (more_follow b) (longer len b))) (wrapped_from end at bs (i + 1) (more_follow b) (wrapped len b))
    by true e next =
        let l = leb-true (longer len b) longest e in
        let fits : longer len b < 2 ^ 32 = omega arith in
        rw (mod-eq_of_lt fits) next
    by false e next = inl refl

-- type and length: overflow, or what the old rule answered
pub lengths_moved : (s : List ℕ) (at : ℕ) → LengthMoved at (tlf_at s at) (wrapped_at s at)
unfolding tlf_at wrapped_at
lengths_moved s at =
    moved_behind at (byte_at s at) _ _ (λ b next.
    moved_need at (ty_of (type_bits b)) (invalid_ty at) _ _ (λ ty.
    moved_guard at (not (is_boolean ty && more_follow b)) (reserved at) _ _
    (moved_then at _ _ _ (moved_from (length s) at (drop next s) next (more_follow b) (length_bits b)))))

-- where no length byte makes the length pass, the old answer stays
pub lengths_stay : (s : List ℕ) (at : ℕ) → (PassesLongest s at → ⊥) → tlf_at s at ≡ wrapped_at s at
lengths_stay s at h = ⊎_elim (λ e. absurd (h (overflows.only s at at e).1)) (λ e. e) (lengths_moved s at)

-- B14, now and before: the old rule is no longer right
b14 : List ℕ
b14 = 0x81 ∷ 0x80 ∷ 0x80 ∷ 0x80 ∷ 0x80 ∷ 0x80 ∷ 0x80 ∷ 0x80 ∷ 0x0a ∷ []

b14_moved : tlf_at b14 0 ≡ refused (overflow 0)
unfolding then guard need byte_at tlf_at length_from less_own b14
b14_moved = refl

b14_was : wrapped_at b14 0 ≡ got (record { ty = OctetString; len = 1 }) 9
unfolding then guard need byte_at wrapped_at wrapped_from wrapped less_own b14
b14_was = refl

pub wrapped_falls : Overflows wrapped_at → ⊥
unfolding kind_in
wrapped_falls h = let e : ◌≡◌ {A = ℕ} 0 1 = ap kind_in (sym b14_was ∙ h.given b14 0 (overflows.only b14 0 0 b14_moved).1) in omega (arith, e)
