-- Bytes that an input of at most 1,048,576 can hold, part by part; and readings whose property is weakened.
use mathlib.Core.List.{List, ◌++◌}
use Prim.Native.Nat.{ℕ, ◌≤◌}
use native.Mathlib.Omega.{arith}
use lib.ListN.{length, length-append}
use Rattle.refusals.specs.Read.{Read}
use Rattle.refusals.proofs.Rest.{Reads, gets_weak}

-- a record, so that the bytes can be read off it
pub record Short (b : List ℕ) : Type 0 where
  pub short : length b ≤ 1048576

pub front : {a : List ℕ} (b : List ℕ) → Short (a ++ b) → Short a
front {a} b h = record { short = omega (arith, h.short, length-append a b) }

pub back : (a : List ℕ) {b : List ℕ} → Short (a ++ b) → Short b
back a {b} h = record { short = omega (arith, h.short, length-append a b) }

pub reads_weak : {A : Type 0} {read : List ℕ → ℕ → Read A} {P Q : List ℕ → A → Type 0} {b : List ℕ} → ((s : List ℕ) (a : A) → P s a → Q s a) → Reads read P b → Reads read Q b
reads_weak f r = record { reads = λ {s} l h. gets_weak (f s) (r.reads l h) }
