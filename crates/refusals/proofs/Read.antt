-- What holds of everything that a reading finds: laws of `then`, `guard` and `need`, so that a reader's own law is a line a field.
use mathlib.Core.Path.{◌≡◌, refl}
use mathlib.Core.Bool.{Bool, true, false, cond, ◌&&◌}
use mathlib.Core.List.{List}
use mathlib.Core.Option.{Option, some, none}
use Prim.Native.Nat.{ℕ, ◌+◌, ◌-◌, ◌≤◌, ◌<◌}
use native.Mathlib.Omega.{arith}
use lib.ListN.{length, get_or}
use borrow.Author.Tests.{ltb-true, leb-true, le-leb}
use Rattle.refusals.specs.Read.{Read, got, refused, Refusal, then, guard, need, byte_at, span_at}
use Rattle.refusals.specs.declared.Span.{Span}

-- P of the value and the place, where there are any
abbrev pub Finds : {A : Type 0} → (A → ℕ → Type 0) → Read A → Type 0
Finds P (got a n) = P a n
Finds P (refused f) = Unit {0}

-- a record, so that P can be read off it
pub record Ok {A : Type 0} (P : A → ℕ → Type 0) (r : Read A) : Type 0 where
  pub holds : Finds P r

pub ok_any : {A : Type 0} (r : Read A) → Ok (λ a n. r ≡ got a n) r
ok_any (got a n) = record { holds = refl }
ok_any (refused f) = record { holds = tt }

pub ok_got : {A : Type 0} {P : A → ℕ → Type 0} (a : A) (n : ℕ) → P a n → Ok P (got a n)
ok_got a n h = record { holds = h }

-- what was found has P
pub ok_at : {A : Type 0} {P : A → ℕ → Type 0} {r : Read A} {a : A} {n : ℕ} → got a n ≡ r → Ok P r → P a n
ok_at e h = let k = rw (← e) at h in k.holds

pub ok_weak : {A : Type 0} {P Q : A → ℕ → Type 0} {r : Read A} → ((a : A) (n : ℕ) → P a n → Q a n) → Ok P r → Ok Q r
ok_weak {r = got a n} f h = record { holds = f a n h.holds }
ok_weak {r = refused x} f h = record { holds = tt }

pub ok_then : {A B : Type 0} {Q : A → ℕ → Type 0} {P : B → ℕ → Type 0} (r : Read A) (k : A → ℕ → Read B) → Ok Q r → ((a : A) (n : ℕ) → Q a n → Ok P (k a n)) → Ok P (then r k)
unfolding then
ok_then (got a n) k q h = h a n q.holds
ok_then (refused f) k q h = record { holds = tt }

pub ok_guard : {B : Type 0} {P : B → ℕ → Type 0} (p : Bool) (f : Refusal) (x : Read B) → (p ≡ true → Ok P x) → Ok P (guard p f x)
unfolding guard
ok_guard true f x h = h refl
ok_guard false f x h = record { holds = tt }

pub ok_cond : {B : Type 0} {P : B → ℕ → Type 0} (p : Bool) (x y : Read B) → (p ≡ true → Ok P x) → (p ≡ false → Ok P y) → Ok P (cond p x y)
ok_cond true x y h k = h refl
ok_cond false x y h k = k refl

pub ok_need : {A B : Type 0} {P : B → ℕ → Type 0} (m : Option A) (f : Refusal) (k : A → Read B) → ((a : A) → Ok P (k a)) → Ok P (need m f k)
unfolding need
ok_need (some a) f k h = h a
ok_need none f k h = record { holds = tt }

-- with what was found
pub ok_some : {A B : Type 0} {P : B → ℕ → Type 0} (m : Option A) (f : Refusal) (k : A → Read B) → ((a : A) → m ≡ some a → Ok P (k a)) → Ok P (need m f k)
unfolding need
ok_some (some a) f k h = h a refl
ok_some none f k h = record { holds = tt }

pub ok_both : {A : Type 0} {P Q : A → ℕ → Type 0} {r : Read A} → Ok P r → Ok Q r → Ok (λ a n. P a n × Q a n) r
ok_both {r = got a n} h k = record { holds = (h.holds, k.holds) }
ok_both {r = refused f} h k = record { holds = tt }

-- readings one behind the other, however they are bracketed
pub then_then : {A B C : Type 0} (r : Read A) (j : A → ℕ → Read B) (k : B → ℕ → Read C) → then (then r j) k ≡ then r λ a n. then (j a n) k
unfolding then
then_then (got a n) j k = refl
then_then (refused f) j k = refl

pub and_left : (p q : Bool) → (p && q) ≡ true → p ≡ true
and_left true q e = refl
and_left false q e = e

pub and_right : (p q : Bool) → (p && q) ≡ true → q ≡ true
and_right true q e = e
and_right false true e = refl
and_right false false e = e

-- the place behind what was found is ahead of `at` and within the input
pub record Ahead (s : List ℕ) (at next : ℕ) : Type 0 where
  pub ahead : at < next
  pub within : next ≤ length s

pub byte_ok : (s : List ℕ) (at : ℕ) → Ok (λ b n. (b ≡ get_or s at 0) × (n ≡ at + 1) × Ahead s at n) (byte_at s at)
unfolding byte_at
byte_ok s at =
    ok_guard _ _ _ (λ e.
    let h : at < length s = ltb-true _ _ e in
    ok_got _ _ (refl, refl, record { ahead = omega arith; within = omega arith }))

-- a part of n bytes lies within the input and ends at the next place
pub record Inside (s : List ℕ) (at n : ℕ) (p : Span) (next : ℕ) : Type 0 where
  pub start_is : p.start ≡ at
  pub len_is : p.len ≡ n
  pub next_is : next ≡ at + n
  pub within : next ≤ length s

pub span_ok : (s : List ℕ) (at n : ℕ) → Ok (λ p next. Inside s at n p next) (span_at s at n)
unfolding span_at
span_ok s at n =
    ok_guard _ _ _ (λ e. ok_guard _ _ _ (λ e'.
    ok_got _ _ (record { start_is = refl; len_is = refl; next_is = refl; within = omega (arith, leb-true at (length s) e, leb-true n _ e') })))

-- where there is room, it is that part
pub span_room : (s : List ℕ) (at n : ℕ) → at + n ≤ length s → span_at s at n ≡ got (record { start = at; len = n }) (at + n)
unfolding span_at guard
span_room s at n h = rw (le-leb at (length s) (omega arith), le-leb n (length s - at) (omega arith))
