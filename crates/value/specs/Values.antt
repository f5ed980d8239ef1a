-- rule: time, status and value, by the rules marked (S) of document 01, widened where common.rs accepts more.
use Rattle.std.specs.Prelude.{ℕ, List, Bool, false, cond, ◌&&◌, leb, eqb, ℤ}
use Rattle.refusals.specs.Read.{Read, got, then, guard, mismatch, unexpected}
use Rattle.refusals.specs.declared.Span.{Span}
use Rattle.tlf.specs.Lengths.{tlf_at, is_list_of, list_of_at}
use Rattle.tlf.specs.declared.Ty.{Ty}
use Rattle.tlf.specs.declared.Ty.TheVariants.{OctetString, Boolean, Integer, Unsigned, ListOf}
use Rattle.tlf.specs.declared.TypeLengthField.{TypeLengthField}
use Rattle.numbers.specs.Numbers.{is_number, unsigned_at, signed_at, bool_at}
use Rattle.octet_string.specs.Strings.{octets_at}

-- wider than the rule, as common.rs is: a time that is an Unsigned of four bytes, without list and tag
abbrev pub is_bare_time : TypeLengthField → Bool
is_bare_time t = is_number false t.ty && eqb t.len 4

-- a time is a list of 2: u8 tag 1 (another is 13) and u32
unfoldable pub time_at : List ℕ → ℕ → Read ℕ
time_at s at =
    then (tlf_at s at) λ t n₀.
    cond (is_bare_time t) (unsigned_at 4 s at)
    (guard (is_list_of 2 t) (mismatch at)
    (then (unsigned_at 1 s n₀) λ tag n₁.
    guard (eqb tag 1) (unexpected n₀)
    (unsigned_at 4 s n₁)))

-- the narrowest width of 1, 2, 4 or 8 bytes that holds so many; more than eight are refused at any
abbrev pub narrowest : ℕ → ℕ
narrowest len = cond (leb len 1) 1 (cond (leb len 2) 2 (cond (leb len 4) 4 8))

-- a status: its width in bytes and the number
pub record Status : Type 0 where
  pub width : ℕ
  pub number : ℕ

unfoldable pub status_of : ℕ → List ℕ → ℕ → Read Status
status_of width s at = then (unsigned_at width s at) λ v next. got (record { width = width; number = v }) next

unfoldable pub status_at : List ℕ → ℕ → Read Status
status_at s at = then (tlf_at s at) λ t n. status_of (narrowest t.len) s at

-- a value, with strings of type T; a number has its width in bytes
pub data Value (T : Type 0) : Type 0 where
  truth : Bool → Value T
  bytes : T → Value T
  signed : ℕ → ℤ → Value T
  unsigned : ℕ → ℕ → Value T
  list_time : ℕ → Value T

unfoldable pub signed_value : ℕ → List ℕ → ℕ → Read (Value Span)
signed_value width s at = then (signed_at width s at) λ z next. got (signed width z) next

unfoldable pub unsigned_value : ℕ → List ℕ → ℕ → Read (Value Span)
unsigned_value width s at = then (unsigned_at width s at) λ v next. got (unsigned width v) next

-- wider than the rule, as common.rs is: a list of 2, u8 tag 1 (another is 13) and a time
unfoldable pub list_type_at : List ℕ → ℕ → Read (Value Span)
list_type_at s at =
    then (list_of_at 2 s at) λ list n₀.
    then (unsigned_at 1 s n₀) λ tag n₁.
    guard (eqb tag 1) (unexpected n₀)
    (then (time_at s n₁) λ time n₂.
    got (list_time time) n₂)

-- the value at a place whose type and length are known
unfoldable pub value_of_claim : Ty → ℕ → List ℕ → ℕ → Read (Value Span)
value_of_claim OctetString len s at = then (octets_at s at) λ p next. got (bytes p) next
value_of_claim Boolean len s at = then (bool_at s at) λ b next. got (truth b) next
value_of_claim Integer len s at = signed_value (narrowest len) s at
value_of_claim Unsigned len s at = unsigned_value (narrowest len) s at
value_of_claim ListOf len s at = list_type_at s at

-- a value is a Boolean, an octet string, or a number, taken at the narrowest width that holds its length
unfoldable pub value_at : List ℕ → ℕ → Read (Value Span)
value_at s at = then (tlf_at s at) λ t n. value_of_claim t.ty t.len s at
