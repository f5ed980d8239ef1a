-- What chains of readings find: each value has its property, and each place lies ahead and within the input. One line a field.
use mathlib.Core.Path.{◌≡◌, refl, ap}
use mathlib.Core.List.{List, [], ◌∷◌}
use Prim.Native.Nat.{ℕ, zero, suc, ◌+◌, ◌≤◌, ◌<◌}
use native.Mathlib.Omega.{arith}
use lib.ListN.{length}
use Rattle.refusals.specs.Read.{Read, got, then, many}
use Rattle.refusals.proofs.Read.{Ok, ok_got, ok_then, ok_weak, Ahead}

-- the value has P, and the place behind it is ahead of `at` and within the input
abbrev pub Found : {A : Type 0} → (A → Type 0) → List ℕ → ℕ → A → ℕ → Type 0
Found P s at a n = P a × Ahead s at n

-- nothing is asked of the value
abbrev pub Any : {A : Type 0} → A → Type 0
Any a = Unit {0}

-- one reading more, from `m` on, of a chain that began at `at`
pub on : {A B : Type 0} {P : A → Type 0} {Q : B → ℕ → Type 0} (s : List ℕ) (at m : ℕ) {r : Read A} {k : A → ℕ → Read B} → Ok (Found P s m) r → at ≤ m
    → ((a : A) (n : ℕ) → P a → at < n → n ≤ length s → Ok Q (k a n)) → Ok Q (then r k)
on s at m {r} {k} h p f =
    ok_then r k h (λ a n q. let w = q.1 in f a n q.0 (omega (arith, p, w.ahead)) w.within)

-- a chain's first reading
pub from : {A B : Type 0} {P : A → Type 0} {Q : B → ℕ → Type 0} (s : List ℕ) (at : ℕ) {r : Read A} {k : A → ℕ → Read B} → Ok (Found P s at) r
    → ((a : A) (n : ℕ) → P a → at < n → n ≤ length s → Ok Q (k a n)) → Ok Q (then r k)
from s at h f = on s at at h (omega arith) f

-- a chain's end
pub found : {A : Type 0} {P : A → Type 0} (s : List ℕ) (at : ℕ) (a : A) (n : ℕ) → P a → at < n → n ≤ length s → Ok (Found P s at) (got a n)
found s at a n h p q = ok_got a n (h, record { ahead = p; within = q })

-- a chain whose last reading is the whole answer
pub found_on : {A : Type 0} {P : A → Type 0} (s : List ℕ) (at m : ℕ) {r : Read A} → at ≤ m → Ok (Found P s m) r → Ok (Found P s at) r
found_on s at m p h = ok_weak (λ a n q. let w = q.1 in (q.0, record { ahead = omega (arith, p, w.ahead); within = w.within })) h

pub any : {A : Type 0} {s : List ℕ} {at : ℕ} {r : Read A} → Ok (λ a n. Ahead s at n) r → Ok (Found Any s at) r
any h = ok_weak (λ a n q. (tt, q)) h

-- each value of a list has P
abbrev pub Every : {A : Type 0} → (A → Type 0) → List A → Type 0
Every P [] = Unit {0}
Every P (a ∷ l) = P a × Every P l

-- n values, each with P; each took a byte at least, and the place behind the last lies within the input
pub record Several {A : Type 0} (P : A → Type 0) (s : List ℕ) (at n : ℕ) (l : List A) (next : ℕ) : Type 0 where
  pub every : Every P l
  pub count : length l ≡ n
  pub ahead : at + n ≤ next
  pub within : next ≤ length s

-- one reading n times
pub ok_many : {A : Type 0} {P : A → Type 0} (s : List ℕ) (read : ℕ → Read A) → ((at : ℕ) → Ok (Found P s at) (read at)) → (n at : ℕ) → at ≤ length s → Ok (Several P s at n) (many n read at)
unfolding many
ok_many s read h zero at p = ok_got _ _ (record { every = tt; count = refl; ahead = omega arith; within = p })
ok_many s read h (suc n) at p =
    from s at (h at) (λ a m q low high.
    ok_then _ _ (ok_many s read h n m high) (λ l next k.
    ok_got _ _ (record { every = (q, k.every); count = ap suc k.count; ahead = omega (arith, k.ahead); within = k.within })))
