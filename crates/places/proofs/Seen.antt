-- How far a reading looked, and how that of a chain is made of its parts.
use mathlib.Core.Path.{◌≡◌, refl, sym, ap, ◌∙◌}
use mathlib.Core.Bool.{Bool, true, false}
use mathlib.Core.List.{List}
use Prim.Native.Nat.{ℕ, ◌+◌, ◌≤◌, ◌<◌}
use native.Mathlib.Omega.{arith}
use lib.ListN.{length, take}
use lib.Dec.{leb}
use borrow.Author.Tests.{leb-true, leb-false}
use Rattle.refusals.specs.Read.{Read, got, refused, Refusal, then, eof}
use Rattle.places.specs.Stands.{SameBefore, Looked}
use Rattle.places.proofs.Before.{same_all, same_less, same_cut, same_whole}

-- whether a reading found something
abbrev pub is_got : {A : Type 0} → Read A → ℕ
is_got (got a n) = 1
is_got (refused f) = 0

-- a value was found, and n is the place behind it
pub record Taken {A : Type 0} (read : List ℕ → Read A) (s : List ℕ) (at n : ℕ) : Type 0 where
  pub low : at ≤ n
  pub high : n ≤ length s
  pub looked : Looked read s at n

-- a refusal, of which P is known
pub record Lost {A : Type 0} (P : Refusal → ℕ → Type 0) (read : List ℕ → Read A) (s : List ℕ) (at : ℕ) (f : Refusal) : Type 0 where
  pub behind : ℕ
  pub low : at ≤ behind
  pub looked : Looked read s at behind
  pub what : P f behind

abbrev pub Sees : {A : Type 0} → (Refusal → ℕ → Type 0) → (List ℕ → Read A) → List ℕ → ℕ → Read A → Type 0
Sees P read s at (got a n) = Taken read s at n
Sees P read s at (refused f) = Lost P read s at f

-- of a reading from a place within the input
pub record Seen {A : Type 0} (P : Refusal → ℕ → Type 0) (read : List ℕ → Read A) (s : List ℕ) (at : ℕ) (r : Read A) : Type 0 where
  pub seen : Sees P read s at r

-- a chain that has read up to n as `read` does, and goes on as `rest`
pub record Onward {A : Type 0} (read rest : List ℕ → Read A) (s : List ℕ) (at n : ℕ) : Type 0 where
  pub low : at ≤ n
  pub cut : (m : ℕ) → at ≤ m → m < n → m ≤ length s → read (take m s) ≡ refused (eof m)
  pub goes_on_claim : (t : List ℕ) → SameBefore n s t → read t ≡ rest t

looked_on_lem : {A : Type 0} {read rest : List ℕ → Read A} {s : List ℕ} {at n q : ℕ} → Onward read rest s at n → n ≤ q → Looked rest s n q → Looked read s at q
looked_on_lem {read = read} {rest = rest} {s = s} {at = at} {n = n} {q = q} o h l =
    record { cut = λ m p i j. by m p i j (leb n m) refl; alike = λ t e. o.goes_on_claim t (same_less h e) ∙ l.alike t e ∙ sym (o.goes_on_claim s (same_all n s)) }
  where
    by : (m : ℕ) → at ≤ m → m < q → m ≤ length s → (b : Bool) → leb n m ≡ b → read (take m s) ≡ refused (eof m)
    by m p i j true e = let k = leb-true n m e in o.goes_on_claim (take m s) (same_cut s k) ∙ l.cut m k i j
    by m p i j false e = o.cut m p (leb-false n m e) j

pub seen_on : {A : Type 0} {P Q : Refusal → ℕ → Type 0} {read rest : List ℕ → Read A} {s : List ℕ} {at n : ℕ} (r : Read A) → Onward read rest s at n
    → ((f : Refusal) (q : ℕ) → n ≤ q → P f q → Q f q) → Seen P rest s n r → Seen Q read s at r
seen_on (got a m) o k h =
    let w = h.seen in
    let a = w.low in
    let b = o.low in
    record { seen = record { low = omega (arith, a, b); high = w.high; looked = looked_on_lem o a w.looked } }
seen_on (refused f) o k h =
    let w = h.seen in
    let a = w.low in
    let b = o.low in
    record { seen = record { behind = w.behind; low = omega (arith, a, b); looked = looked_on_lem o a w.looked; what = k f w.behind a w.what } }

-- the input ended too early, wherever it is cut
pub looked_over_lem : {A : Type 0} (read : List ℕ → Read A) (s : List ℕ) (at : ℕ) → ((m : ℕ) → at ≤ m → m ≤ length s → read (take m s) ≡ refused (eof m)) → Looked read s at (length s + 1)
looked_over_lem read s at h = record { cut = λ m p i j. h m p j; alike = λ t e. ap read (same_whole (omega arith) e) }

-- a first reading, and what follows it
pub onward_then : {A B : Type 0} (r : List ℕ → Read A) (k : A → ℕ → List ℕ → Read B) (s : List ℕ) (at : ℕ) (a : A) (n : ℕ) → r s ≡ got a n → Taken r s at n
    → Onward (λ t. then (r t) (λ b m. k b m t)) (k a n) s at n
unfolding then
onward_then r k s at a n e w =
    let l = w.looked in
    record { low = w.low; cut = λ m p i j. rw (l.cut m p i j); goes_on_claim = λ t h. rw (l.alike t h, e) }

-- less is known of a refusal
pub seen_weak : {A : Type 0} {P Q : Refusal → ℕ → Type 0} {read : List ℕ → Read A} {s : List ℕ} {at : ℕ} (r : Read A) → ((f : Refusal) (q : ℕ) → P f q → Q f q) → Seen P read s at r → Seen Q read s at r
seen_weak (got a n) k h = record { seen = h.seen }
seen_weak (refused f) k h = let w = h.seen in record { seen = record { behind = w.behind; low = w.low; looked = w.looked; what = k f w.behind w.what } }

-- what follows a refusal is not read
pub looked_then : {A B : Type 0} (r : List ℕ → Read A) (k : A → ℕ → List ℕ → Read B) (s : List ℕ) (at q : ℕ) → Looked r s at q → (f : Refusal) → r s ≡ refused f
    → Looked (λ t. then (r t) (λ b m. k b m t)) s at q
unfolding then
looked_then r k s at q l f e = record { cut = λ m p i j. rw (l.cut m p i j); alike = λ t h. rw (l.alike t h, e) }

-- one reading more: what is known of a refusal is the same for both
pub seen_then : {A B : Type 0} {P : Refusal → ℕ → Type 0} (r : List ℕ → Read A) (k : A → ℕ → List ℕ → Read B) (s : List ℕ) (at : ℕ) → Seen P r s at (r s)
    → ((a : A) (n : ℕ) → r s ≡ got a n → at ≤ n → n ≤ length s → Seen P (k a n) s n (k a n s))
    → Seen P (λ t. then (r t) (λ a n. k a n t)) s at (then (r s) (λ a n. k a n s))
unfolding then
seen_then {A} {B} {P} r k s at h f = by (r s) refl h
  where
    by : (x : Read A) → r s ≡ x → Seen P r s at x → Seen P (λ t. then (r t) (λ a n. k a n t)) s at (then x (λ a n. k a n s))
    by (got a n) e w = let v = w.seen in seen_on (k a n s) (onward_then r k s at a n e v) (λ g q o p. p) (f a n e v.low v.high)
    by (refused g) e w = let v = w.seen in record { seen = record { behind = v.behind; low = v.low; looked = looked_then r k s at v.behind v.looked g e; what = v.what } }
