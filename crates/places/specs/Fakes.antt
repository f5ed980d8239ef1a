-- check: readings that tell another place or number, each wrong in one way; the claim is false of each.
use Rattle.std.specs.Prelude.{ℕ, ◌-◌, List, cond, length, get_or, ltb, eqb}
use Rattle.refusals.specs.Numbers.{tlf_mismatch_no}
use Rattle.refusals.specs.Read.{Read, got, refused, then, guard, eof, mismatch, wrong_end, byte_at, span_at}
use Rattle.refusals.specs.declared.Span.{Span}
use Rattle.tlf.specs.Lengths.{tlf_at}
use Rattle.octet_string.specs.Strings.{is_octets, octets_at}
use Rattle.common.specs.Fields.{ListEntry, entry_at}
use Rattle.places.specs.Readers.{Located}

-- the same answer, its refusal named at p
abbrev pub named : {A : Type 0} → ℕ → Read A → Read A
named p (got a n) = got a n
named p (refused f) = refused (record { number = f.number; kind = f.kind; place = p })

-- an entry whose refusals are all named at its first byte
unfoldable pub names_the_entry : List ℕ → Read (ListEntry Span)
names_the_entry s = named 0 (entry_at s 0)

-- a string whose mismatch is named at its last length byte
unfoldable pub names_the_last_byte : List ℕ → Read Span
names_the_last_byte s =
    then (tlf_at s 0) λ t next.
    guard (is_octets t.ty) (mismatch (next - 1))
    (span_at s next t.len)

-- a string that passes over an element of another type, and names the one behind it
unfoldable pub names_the_next : List ℕ → Read Span
names_the_next s =
    then (tlf_at s 0) λ t next.
    cond (is_octets t.ty) (span_at s next t.len)
    (then (span_at s next t.len) λ part behind.
    then (tlf_at s behind) λ other end.
    refused (mismatch behind))

-- 12 told as 10
abbrev pub as_ten : ℕ → Read Span → Read Span
as_ten end (got a n) = got a n
as_ten end (refused f) = cond (eqb f.number tlf_mismatch_no) (refused (eof end)) (refused f)

-- a string whose mismatch is told as 10
unfoldable pub tells_ten : List ℕ → Read Span
tells_ten s = as_ten (length s) (octets_at s 0)

-- a string whose mismatch is told as 15, at the byte behind its length
unfoldable pub tells_fifteen : List ℕ → Read Span
tells_fifteen s =
    then (tlf_at s 0) λ t next.
    cond (is_octets t.ty) (span_at s next t.len)
    (then (byte_at s next) λ byte behind.
    refused (wrong_end next))

-- the byte at 5, which names that place where it is missing
unfoldable pub names_its_own_place : List ℕ → Read ℕ
names_its_own_place s = guard (ltb 5 (length s)) (eof 5) (got (get_or s 5 0) 6)

pub record FallReaders : Type 0 where
  pub the_entry_claim : Located names_the_entry 0 0 → ⊥
  pub the_last_byte : Located names_the_last_byte 0 0 → ⊥
  pub the_next : Located names_the_next 0 0 → ⊥
  pub ten : Located tells_ten 0 0 → ⊥
  pub fifteen : Located tells_fifteen 0 0 → ⊥
  pub its_own_place : Located names_its_own_place 5 0 → ⊥
