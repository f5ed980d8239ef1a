-- rule: octet strings, and the part of the input that a span is.
use Rattle.std.specs.Prelude.{ℕ, ◌-◌, List, [], Bool, true, false, cond, ◌&&◌, length, take, drop, leb}
use Rattle.std.proofs.Math.Option.{Option, some, none}
use Rattle.refusals.specs.Numbers.{bad_span_no}
use Rattle.refusals.specs.Read.{Read, then, guard, mismatch, span_at}
use Rattle.refusals.specs.declared.Span.{Span}
use Rattle.tlf.specs.Lengths.{tlf_at}
use Rattle.tlf.specs.declared.Ty.{Ty}
use Rattle.tlf.specs.declared.Ty.TheVariants.{OctetString, Boolean, Integer, Unsigned, ListOf}

abbrev pub is_octets : Ty → Bool
is_octets OctetString = true
is_octets Boolean = false
is_octets Integer = false
is_octets Unsigned = false
is_octets ListOf = false

-- an octet string is the part of the input behind its length bytes
unfoldable pub octets_at : List ℕ → ℕ → Read Span
octets_at s at =
    then (tlf_at s at) λ t next.
    guard (is_octets t.ty) (mismatch at)
    (span_at s next t.len)

-- the span lies within the input
unfoldable pub span_within : List ℕ → Span → Bool
span_within s p = leb p.start (length s) && leb p.len (length s - p.start)

-- the part of the input; of a bad span the empty part
unfoldable pub part_of : List ℕ → Span → List ℕ
part_of s p = cond (span_within s p) (take p.len (drop p.start s)) []

-- where it stands in the input; the empty part of a bad span stands at the input's start
unfoldable pub part_start : List ℕ → Span → ℕ
part_start s p = cond (span_within s p) p.start 0

-- a bad span is 16
unfoldable pub span_refusal : List ℕ → Span → Option ℕ
span_refusal s p = cond (span_within s p) none (some bad_span_no)
