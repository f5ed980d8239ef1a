-- rule: what a reading answers, a value and the place behind it or a refusal, and how readings follow each other.
use Rattle.std.specs.Prelude.{ℕ, zero, suc, ◌+◌, ◌-◌, Bool, true, false, List, [], ◌∷◌, length, get_or, ltb, leb}
use Rattle.std.proofs.Math.Option.{Option, some, none}
use Rattle.refusals.specs.Numbers.{unexpected_eof_no, invalid_tlf_no, tlf_mismatch_no, unexpected_variant_no, crc_mismatch_no, msg_end_mismatch_no}
use Rattle.refusals.specs.declared.Span.{Span}

-- document 01's number, of an 11 the kind (1 to 5, in the order of tlf.rs; else 0), and the place, counted from the input's start
pub record Refusal : Type 0 where
  pub number : ℕ
  pub kind : ℕ
  pub place : ℕ

pub data Read (A : Type 0) : Type 0 where
  got : A → ℕ → Read A
  refused : Refusal → Read A

-- goes on with the value and the place behind it, or hands the refusal on
unfoldable pub then : {A B : Type 0} → Read A → (A → ℕ → Read B) → Read B
then (got a n) k = k a n
then (refused f) k = refused f

-- goes on where the test holds, else refuses
unfoldable pub guard : {A : Type 0} → Bool → Refusal → Read A → Read A
guard true f r = r
guard false f r = refused f

-- goes on with what is there, else refuses
unfoldable pub need : {A B : Type 0} → Option A → Refusal → (A → Read B) → Read B
need (some a) f k = k a
need none f k = refused f

-- one reading n times, each from the place behind the one before
unfoldable pub many : {A : Type 0} → ℕ → (ℕ → Read A) → ℕ → Read (List A)
many zero read at = got [] at
many (suc n) read at =
    then (read at) λ a next.
    then (many n read next) λ more end.
    got (a ∷ more) end

-- 10, end of input: the place is the input's length
abbrev pub eof : ℕ → Refusal
eof end = record { number = unexpected_eof_no; kind = 0; place = end }

-- 11, InvalidTlf, at the element's first length byte
abbrev pub invalid_tlf : ℕ → ℕ → Refusal
invalid_tlf kind at = record { number = invalid_tlf_no; kind = kind; place = at }

-- 12, TlfMismatch, at the element's first length byte
abbrev pub mismatch : ℕ → Refusal
mismatch at = record { number = tlf_mismatch_no; kind = 0; place = at }

-- 13, UnexpectedVariant, at the tag's first length byte
abbrev pub unexpected : ℕ → Refusal
unexpected at = record { number = unexpected_variant_no; kind = 0; place = at }

-- 14, CrcMismatch, at the CRC's first length byte
abbrev pub crc_mismatch : ℕ → Refusal
crc_mismatch at = record { number = crc_mismatch_no; kind = 0; place = at }

-- 15, wrong message end, at the end byte
abbrev pub wrong_end : ℕ → Refusal
wrong_end at = record { number = msg_end_mismatch_no; kind = 0; place = at }

-- the byte at a place
unfoldable pub byte_at : List ℕ → ℕ → Read ℕ
byte_at s at = guard (ltb at (length s)) (eof (length s)) (got (get_or s at 0) (at + 1))

-- the n bytes at a place
unfoldable pub span_at : List ℕ → ℕ → ℕ → Read Span
span_at s at n =
    guard (leb at (length s)) (eof (length s))
    (guard (leb n (length s - at)) (eof (length s))
    (got (record { start = at; len = n }) (at + n)))
