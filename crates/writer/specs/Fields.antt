-- rule: how lengths, numbers, strings, optional fields, times, values and entries are written.
use Rattle.std.specs.Prelude.{ℕ, zero, suc, ◌/◌, ◌%◌, ◌^◌, ◌-◌, List, [], ◌∷◌, ◌++◌, Bool, cond, length, ltb, ℤ, pos, negsuc}
use Rattle.std.proofs.Math.Option.{Option, some, none}
use Rattle.std.specs.Int.Signed.{mag}
use Rattle.byte_count.specs.Count.{first_that, unsigned_count}
use Rattle.tlf.specs.Written.{total, typed}
use Rattle.tlf.specs.declared.Ty.{Ty}
use Rattle.tlf.specs.declared.Ty.TheVariants.{OctetString, Boolean, Integer, Unsigned, ListOf}
use Rattle.value.specs.Values.{Status, Value, truth, bytes, signed, unsigned, list_time}
use Rattle.common.specs.Fields.{ListEntry}

-- the fewest length bytes that hold what they say; 16 hold every length under 2 ^ 63
unfoldable pub length_count : Ty → ℕ → ℕ
length_count ty len = first_that 16 1 (λ n. ltb (total ty len n) (16 ^ n))

-- type and length, in the fewest length bytes
unfoldable pub write_tlf : Ty → ℕ → List ℕ
write_tlf ty len = typed ty (length_count ty len) (total ty len (length_count ty len))

-- v in n bytes, high byte first
unfoldable pub in_bytes : ℕ → ℕ → List ℕ
in_bytes zero v = []
in_bytes (suc k) v = (v / 256 ^ k % 256) ∷ in_bytes k v

-- the fewest bytes, at least one, that hold z with its sign
unfoldable pub signed_count : ℤ → ℕ
signed_count z = first_that 8 1 (λ n. ltb (mag z) (256 ^ n / 2))

-- z as the number of n bytes
unfoldable pub low_bytes : ℕ → ℤ → ℕ
low_bytes n (pos v) = v
low_bytes n (negsuc k) = 256 ^ n - 1 - k

unfoldable pub write_unsigned : ℕ → List ℕ
write_unsigned v = write_tlf Unsigned (unsigned_count v) ++ in_bytes (unsigned_count v) v

unfoldable pub write_signed : ℤ → List ℕ
write_signed z = write_tlf Integer (signed_count z) ++ in_bytes (signed_count z) (low_bytes (signed_count z) z)

unfoldable pub write_bool : Bool → List ℕ
write_bool b = write_tlf Boolean 1 ++ (cond b 0x01 0x00 ∷ [])

unfoldable pub write_octets : List ℕ → List ℕ
write_octets x = write_tlf OctetString (length x) ++ x

-- an optional field that is absent is one byte 01
unfoldable pub write_optional : {A : Type 0} → (A → List ℕ) → Option A → List ℕ
write_optional write none = 0x01 ∷ []
write_optional write (some a) = write a

-- a string that is present in an optional field: 80 02 if it is empty
unfoldable pub write_present : List ℕ → List ℕ
write_present [] = 0x80 ∷ 0x02 ∷ []
write_present (b ∷ x) = write_octets (b ∷ x)

-- a time is a list of 2: tag 1 and the seconds
unfoldable pub write_time : ℕ → List ℕ
write_time t = write_tlf ListOf 2 ++ write_unsigned 1 ++ write_unsigned t

-- the width does not count
unfoldable pub write_status : Status → List ℕ
write_status x = write_unsigned x.number

unfoldable pub write_value : Value (List ℕ) → List ℕ
write_value (truth b) = write_bool b
write_value (bytes x) = write_octets x
write_value (signed width z) = write_signed z
write_value (unsigned width v) = write_unsigned v
write_value (list_time t) = write_tlf ListOf 2 ++ write_unsigned 1 ++ write_time t

unfoldable pub write_entry : ListEntry (List ℕ) → List ℕ
write_entry e =
    write_tlf ListOf 7
    ++ write_octets e.obj_name
    ++ write_optional write_status e.status
    ++ write_optional write_time e.val_time
    ++ write_optional write_unsigned e.unit
    ++ write_optional write_signed e.scaler
    ++ write_value e.value
    ++ write_optional write_present e.value_signature
