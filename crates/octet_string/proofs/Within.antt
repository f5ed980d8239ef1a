-- Strings that were read lie within the input, so that their part never is 16.
use mathlib.Core.List.{List}
use mathlib.Core.Option.{Option, some, none}
use Prim.Native.Nat.{ℕ, ◌+◌, ◌≤◌}
use native.Mathlib.Omega.{arith}
use lib.ListN.{length}
use Rattle.refusals.specs.Read.{Read}
use Rattle.refusals.specs.declared.Span.{Span}
use Rattle.refusals.proofs.Read.{Ok, ok_weak}
use Rattle.refusals.proofs.Found.{Found}
use Rattle.octet_string.specs.Strings.{octets_at}
use Rattle.octet_string.specs.Optional.{optional}
use Rattle.octet_string.proofs.Strings.{octets_ok}
use Rattle.octet_string.proofs.Optional.{OfField, optional_ok}

-- the span lies within the input
pub record Within (s : List ℕ) (p : Span) : Type 0 where
  pub ends : p.start + p.len ≤ length s

-- what holds of a field that is there
abbrev pub Has : {A : Type 0} → (A → Type 0) → Option A → Type 0
Has P (some a) = P a
Has P none = Unit {0}

pub octets_found : (s : List ℕ) (at : ℕ) → Ok (Found (Within s) s at) (octets_at s at)
octets_found s at =
    ok_weak (λ p n h. let a = h.place in (record { ends = omega (arith, h.ends, a.within) }, a)) (octets_ok s at)

has_of : {A : Type 0} (P : A → Type 0) (m : Option A) (n : ℕ) → OfField (λ a k. P a) m n → Has P m
has_of P (some a) n h = h
has_of P none n h = tt

pub optional_found : {A : Type 0} {P : A → Type 0} (read : List ℕ → ℕ → Read A) (s : List ℕ) (at : ℕ) → Ok (Found P s at) (read s at) → Ok (Found (Has P) s at) (optional read s at)
optional_found {P = P} read s at h = ok_weak (λ m n q. (has_of P m n q.0, q.1)) (optional_ok {P = λ a k. P a} read s at h)
