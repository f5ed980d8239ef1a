-- rule: the length rules of document 01, and what document 02 (Q-2) says of lengths over 32 bits.
use Rattle.std.specs.Prelude.{ℕ, ◌+◌, ◌*◌, ◌/◌, ◌%◌, ◌-◌, List, [], ◌∷◌, Bool, true, false, cond, not, ◌&&◌, length, drop, leb, eqb}
use Rattle.std.proofs.Math.Option.{Option, some, none}
use Rattle.refusals.specs.Read.{Read, got, refused, then, guard, need, eof, mismatch, byte_at}
use Rattle.refusals.specs.Answers.{overflow, reserved, underflow, next_type, invalid_ty}
use Rattle.tlf.specs.declared.Ty.{Ty}
use Rattle.tlf.specs.declared.Ty.TheVariants.{OctetString, Boolean, Integer, Unsigned, ListOf}
use Rattle.tlf.specs.declared.TypeLengthField.{TypeLengthField}

-- bit 7: more follow
abbrev pub more_follow : ℕ → Bool
more_follow b = leb 128 b

-- bits 6 to 4: the type
abbrev pub type_bits : ℕ → ℕ
type_bits b = b / 16 % 8

-- low four bits: the length
abbrev pub length_bits : ℕ → ℕ
length_bits b = b % 16

abbrev pub ty_of : ℕ → Option Ty
ty_of n =
    cond (eqb n 0) (some OctetString)
    (cond (eqb n 4) (some Boolean)
    (cond (eqb n 5) (some Integer)
    (cond (eqb n 6) (some Unsigned)
    (cond (eqb n 7) (some ListOf)
    none))))

abbrev pub is_list : Ty → Bool
is_list OctetString = false
is_list Boolean = false
is_list Integer = false
is_list Unsigned = false
is_list ListOf = true

abbrev pub is_boolean : Ty → Bool
is_boolean OctetString = false
is_boolean Boolean = true
is_boolean Integer = false
is_boolean Unsigned = false
is_boolean ListOf = false

-- a list of n elements
abbrev pub is_list_of : ℕ → TypeLengthField → Bool
is_list_of n t = is_list t.ty && eqb t.len n

-- times 16 plus the next four bits
abbrev pub longer : ℕ → ℕ → ℕ
longer len b = len * 16 + length_bits b

-- a length that passes this while it is being built is refused
abbrev pub longest : ℕ
longest = 4294967295

-- the length of the element at `start`, from `len` on: while more follow, one more byte is taken of `bs`, which stand at `at` and end where the input does
unfoldable pub length_from : ℕ → ℕ → List ℕ → ℕ → Bool → ℕ → Read ℕ
length_from end start [] at more len = cond more (refused (eof end)) (got len at)
length_from end start (b ∷ bs) at more len =
    cond more
    (guard (eqb (type_bits b) 0) (next_type start)
    (guard (leb (longer len b) longest) (overflow start)
    (length_from end start bs (at + 1) (more_follow b) (longer len b))))
    (got len at)

-- except for lists, the number of length bytes, `own`, is taken off
unfoldable pub less_own : Ty → ℕ → ℕ → ℕ → ℕ → Read TypeLengthField
less_own ty own len start next =
    cond (is_list ty) (got (record { ty = ty; len = len }) next)
    (guard (leb own len) (underflow start)
    (got (record { ty = ty; len = len - own }) next))

-- type and length at a place
unfoldable pub tlf_at : List ℕ → ℕ → Read TypeLengthField
tlf_at s at =
    then (byte_at s at) λ b next.
    need (ty_of (type_bits b)) (invalid_ty at) λ ty.
    guard (not (is_boolean ty && more_follow b)) (reserved at)
    (then (length_from (length s) at (drop next s) next (more_follow b) (length_bits b)) λ len end.
    less_own ty (end - at) len at end)

-- the head of a list of n elements
unfoldable pub list_of_at : ℕ → List ℕ → ℕ → Read (Unit {0})
list_of_at n s at =
    then (tlf_at s at) λ t next.
    guard (is_list_of n t) (mismatch at)
    (got tt next)
