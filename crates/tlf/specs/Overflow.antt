-- claim: which length bytes are refused because they say more than 4,294,967,295, of any reader of length fields (document 02, Q-2).
use Rattle.std.specs.Prelude.{ℕ, zero, suc, ◌+◌, ◌<◌, ◌≡◌, true, false, List, length, get_or}
use Rattle.std.proofs.Math.Option.{some}
use Rattle.refusals.specs.Read.{Read, refused}
use Rattle.refusals.specs.Answers.{overflow}
use Rattle.tlf.specs.Lengths.{more_follow, type_bits, length_bits, ty_of, is_boolean, longer, longest}
use Rattle.tlf.specs.declared.Ty.{Ty}
use Rattle.tlf.specs.declared.TypeLengthField.{TypeLengthField}

-- what the length bytes from `at` on say, up to the one n places behind the first, nothing taken off
unfoldable pub length_up_to : List ℕ → ℕ → ℕ → ℕ
length_up_to s at zero = length_bits (get_or s at 0)
length_up_to s at (suc n) = longer (length_up_to s at n) (get_or s (at + suc n) 0)

-- a length byte makes the length of the element at `at` too long
pub record PassesLongest (s : List ℕ) (at : ℕ) : Type 0 where
  -- it stands within the input, so many places behind the first
  pub behind : ℕ
  pub within : at + behind < length s
  -- those up to it have their types: the first a known one, and none that has no more length bytes; the others 0
  pub ty : Ty
  pub first : ty_of (type_bits (get_or s at 0)) ≡ some ty
  pub unreserved : is_boolean ty ≡ false
  pub later : (i : ℕ) → i < behind → type_bits (get_or s (at + suc i) 0) ≡ 0
  -- all before it say that more follow
  pub more : (i : ℕ) → i < behind → more_follow (get_or s (at + i) 0) ≡ true
  pub passes : longest < length_up_to s at behind

-- overflow is the answer exactly where a length byte makes the length too long, whatever follows; it names the element's first one
pub record Overflows (read : List ℕ → ℕ → Read TypeLengthField) : Type 0 where
  pub given : (s : List ℕ) (at : ℕ) → PassesLongest s at → read s at ≡ refused (overflow at)
  pub only : (s : List ℕ) (at place : ℕ) → read s at ≡ refused (overflow place) → (place ≡ at) × PassesLongest s at
