-- rule: the number rules of document 01, once over the width in bytes.
use Rattle.std.specs.Prelude.{ℕ, ◌+◌, ◌*◌, ◌^◌, ◌-◌, List, [], ◌∷◌, Bool, true, false, cond, not, ◌&&◌, take, drop, ltb, leb, eqb, ℤ, pos, negsuc}
use Rattle.refusals.specs.Read.{Read, got, then, guard, mismatch, byte_at, span_at}
use Rattle.tlf.specs.Lengths.{tlf_at, is_boolean}
use Rattle.tlf.specs.declared.Ty.{Ty}
use Rattle.tlf.specs.declared.Ty.TheVariants.{OctetString, Boolean, Integer, Unsigned, ListOf}
use Rattle.tlf.specs.declared.TypeLengthField.{TypeLengthField}

-- the number that bytes are behind the number `high`, high byte first
unfoldable pub number : ℕ → List ℕ → ℕ
number high [] = high
number high (b ∷ bs) = number (high * 256 + b) bs

-- the number of the n bytes at a place
unfoldable pub bytes_at_claim : List ℕ → ℕ → ℕ → Read ℕ
bytes_at_claim s at n = then (span_at s at n) λ p next. got (number 0 (take p.len (drop p.start s))) next

abbrev pub is_number : Bool → Ty → Bool
is_number signed OctetString = false
is_number signed Boolean = false
is_number signed Integer = signed
is_number signed Unsigned = not signed
is_number signed ListOf = false

-- 1 to their width in bytes
abbrev pub fits_width : Bool → ℕ → TypeLengthField → Bool
fits_width signed width t = is_number signed t.ty && (leb 1 t.len && leb t.len width)

-- the bytes of a number: how many they are, and the number that they are
pub record Raw : Type 0 where
  pub len : ℕ
  pub value : ℕ

-- a number of len bytes at a place
unfoldable pub raw_from : List ℕ → ℕ → ℕ → Read Raw
raw_from s at len = then (bytes_at_claim s at len) λ v end. got (record { len = len; value = v }) end

unfoldable pub raw_at : Bool → ℕ → List ℕ → ℕ → Read Raw
raw_at signed width s at =
    then (tlf_at s at) λ t next.
    guard (fits_width signed width t) (mismatch at)
    (raw_from s next t.len)

unfoldable pub unsigned_at : ℕ → List ℕ → ℕ → Read ℕ
unsigned_at width s at = then (raw_at false width s at) λ r next. got r.value next

-- signed ones carry their sign down: the upper half of what `len` bytes can be stands for the negative numbers
unfoldable pub signed_of : ℕ → ℕ → ℤ
signed_of len v = cond (ltb (2 * v) (256 ^ len)) (pos v) (negsuc (256 ^ len - 1 - v))

unfoldable pub signed_at : ℕ → List ℕ → ℕ → Read ℤ
signed_at width s at = then (raw_at true width s at) λ r next. got (signed_of r.len r.value) next

-- a Boolean has one byte, true if not 0
unfoldable pub bool_from : List ℕ → ℕ → Read Bool
bool_from s at = then (byte_at s at) λ b end. got (not (eqb b 0)) end

unfoldable pub bool_at : List ℕ → ℕ → Read Bool
bool_at s at =
    then (tlf_at s at) λ t next.
    guard (is_boolean t.ty && eqb t.len 1) (mismatch at)
    (bool_from s next)
