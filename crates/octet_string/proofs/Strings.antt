-- Laws of octet strings: a span that was read lies within the input, and what stands there is read back.
use mathlib.Core.Path.{◌≡◌, refl}
use mathlib.Core.List.{List, ◌++◌}
use mathlib.Core.Bool.{true}
use mathlib.Core.Option.{none}
use Prim.Native.Nat.{ℕ, ◌+◌, ◌-◌, ◌≤◌}
use native.Mathlib.Omega.{arith}
use lib.ListN.{length, take, drop}
use lib.Dec.{leb}
use borrow.Author.Tests.{leb-true, le-leb}
use Rattle.refusals.specs.declared.Span.{Span}
use Rattle.refusals.proofs.Read.{Ok, ok_then, ok_guard, ok_weak, Ahead, Inside, span_ok, and_left, and_right}
use Rattle.refusals.proofs.Rest.{Gets, gets_is, gets_guard, span_gets}
use Rattle.tlf.specs.Lengths.{tlf_at}
use Rattle.tlf.specs.declared.TypeLengthField.{TypeLengthField}
use Rattle.tlf.specs.declared.Ty.TheVariants.{OctetString}
use Rattle.tlf.proofs.Lengths.{tlf_ok}
use Rattle.octet_string.specs.Strings.{octets_at, span_within, part_of, span_refusal}

pub within_start : (s : List ℕ) (p : Span) → span_within s p ≡ true → p.start ≤ length s
unfolding span_within
within_start s p e = leb-true _ _ (and_left _ (leb p.len (length s - p.start)) e)

pub within_end : (s : List ℕ) (p : Span) → span_within s p ≡ true → p.start + p.len ≤ length s
unfolding span_within
within_end s p e =
    omega (arith, leb-true p.start (length s) (and_left _ (leb p.len (length s - p.start)) e), leb-true p.len (length s - p.start) (and_right (leb p.start (length s)) _ e))

pub is_within : (s : List ℕ) (p : Span) → p.start + p.len ≤ length s → span_within s p ≡ true
unfolding span_within
is_within s p h = rw (le-leb p.start (length s) (omega arith), le-leb p.len (length s - p.start) (omega arith))

-- a span within the input: its part, and never 16
pub part_is : (s : List ℕ) (p : Span) → p.start + p.len ≤ length s → part_of s p ≡ take p.len (drop p.start s)
unfolding part_of
part_is s p h = rw (is_within s p h)

pub never_refused : (s : List ℕ) (p : Span) → p.start + p.len ≤ length s → span_refusal s p ≡ none
unfolding span_refusal
never_refused s p h = rw (is_within s p h)

-- a string that was read: its part ends at the next place, within the input
pub record Held (s : List ℕ) (at : ℕ) (p : Span) (next : ℕ) : Type 0 where
  pub ends : p.start + p.len ≡ next
  pub place : Ahead s at next

pub octets_ok : (s : List ℕ) (at : ℕ) → Ok (λ p n. Held s at p n) (octets_at s at)
unfolding octets_at
octets_ok s at =
    ok_then _ _ (tlf_ok s at) (λ t m a. ok_guard _ _ _ (λ e.
    ok_weak (λ p n (i : Inside s m t.len p n).
    record { ends = omega (arith, i.start_is, i.len_is, i.next_is); place = record { ahead = omega (arith, a.ahead, i.next_is); within = i.within } })
    (span_ok s m t.len)))

-- behind length bytes that say as many bytes as x has, x is read
pub octets_gets : (x : List ℕ) {s : List ℕ} (at : ℕ) (l : List ℕ)
    → Gets (λ (t : TypeLengthField). t ≡ record { ty = OctetString; len = length x }) s (x ++ l) (tlf_at s at)
    → Gets (λ (p : Span). take p.len (drop p.start s) ≡ x) s l (octets_at s at)
unfolding octets_at
octets_gets x at l g = gets_is _ _ g (λ n k. gets_guard _ _ _ refl (span_gets x (length x) l refl k))
