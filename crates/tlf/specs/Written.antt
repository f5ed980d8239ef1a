-- rule: how a type and a length are written, in any number of length bytes.
use Rattle.std.specs.Prelude.{ℕ, zero, suc, ◌+◌, ◌*◌, ◌/◌, ◌%◌, ◌^◌, List, [], ◌∷◌, cond}
use Rattle.tlf.specs.Lengths.{is_list}
use Rattle.tlf.specs.declared.Ty.{Ty}
use Rattle.tlf.specs.declared.Ty.TheVariants.{OctetString, Boolean, Integer, Unsigned, ListOf}

-- the number of a type, in bits 6 to 4
abbrev pub ty_number : Ty → ℕ
ty_number OctetString = 0
ty_number Boolean = 4
ty_number Integer = 5
ty_number Unsigned = 6
ty_number ListOf = 7

-- what n length bytes say of a content of `len`: except for lists they count themselves
abbrev pub total : Ty → ℕ → ℕ → ℕ
total ty len n = cond (is_list ty) len (len + n)

-- bit 7, where k more bytes follow
abbrev pub more_bit : ℕ → ℕ
more_bit zero = 0
more_bit (suc k) = 128

-- v in k length bytes, high four bits first
unfoldable pub length_bytes : ℕ → ℕ → List ℕ
length_bytes zero v = []
length_bytes (suc k) v = (more_bit k + v / 16 ^ k % 16) ∷ length_bytes k v

-- v in n length bytes, the type in the first
unfoldable pub typed : Ty → ℕ → ℕ → List ℕ
typed ty zero v = []
typed ty (suc k) v = (more_bit k + 16 * ty_number ty + v / 16 ^ k % 16) ∷ length_bytes k v
