-- What the bytes of a string and of an optional field are read as, and what they leave.
use mathlib.Core.Path.{◌≡◌, refl, ◌∙◌}
use mathlib.Core.List.{List, [], ◌∷◌, ◌++◌, append_assoc}
use mathlib.Core.Option.{some, none}
use Prim.Native.Nat.{ℕ}
use lib.ListN.{length, get_or}
use Rattle.refusals.specs.Read.{Read}
use Rattle.refusals.specs.declared.Span.{Span}
use Rattle.refusals.proofs.Rest.{Reads, Is, Made, gets_ok}
use Rattle.tlf.specs.Lengths.{tlf_at}
use Rattle.tlf.specs.declared.Ty.TheVariants.{OctetString}
use Rattle.octet_string.specs.Strings.{octets_at, part_of}
use Rattle.octet_string.specs.Optional.{optional}
use Rattle.octet_string.proofs.Strings.{octets_gets, part_is}
use Rattle.octet_string.proofs.Optional.{absent_gets, present_gets}
use Rattle.octet_string.proofs.Within.{octets_found}

-- the part of the input is x
abbrev pub Part : List ℕ → List ℕ → Span → Type 0
Part x s p = part_of s p ≡ x

-- length bytes that say as many bytes as x has, and x
pub octets_reads : (x : List ℕ) {b : List ℕ} → Reads tlf_at (Is (record { ty = OctetString; len = length x })) b → Reads octets_at (Part x) (b ++ x)
octets_reads x r =
    record { reads = λ {s} {p} l h. gets_ok (octets_found s p) (λ a n q e. let w = q.0 in part_is s a w.ends ∙ e) (octets_gets x p l (r.reads _ (rw append_assoc at h))) }

-- the byte 01
pub absent_reads : {A : Type 0} (read : List ℕ → ℕ → Read A) → Reads (optional read) (Is none) (0x01 ∷ [])
absent_reads read = record { reads = λ l h. absent_gets read l h }

-- a field's own bytes, of which the first is not 01
pub present_reads : {A : Type 0} {P : List ℕ → A → Type 0} (read : List ℕ → ℕ → Read A) (b : List ℕ) → (get_or b 0 0x01 ≡ 0x01 → ⊥) → Reads read P b → Reads (optional read) (Made some P) b
present_reads read [] ne r = absurd (ne refl)
present_reads read (c ∷ b) ne r = record { reads = λ l h. present_gets read (b ++ l) l h ne (r.reads l h) }
