-- What the contracts rule out: each wrong reading of docs/WRONG-READINGS.md that is told here is an outcome that the definition does not allow, at a small input.
use mathlib.Core.Path.{◌≡◌, ap, sym}
use mathlib.Core.Bool.{true, false, false≢true}
use mathlib.Core.List.{[], ◌∷◌}
use Prim.Native.Nat.{ℕ}
use native.Mathlib.Omega.{arith}
use Rattle.refusals.specs.Read.{Read, got, refused, then, guard, need, byte_at}
use Rattle.tlf.specs.Lengths.{is_list, is_boolean, is_list_of, length_from, less_own, tlf_at}
use Rattle.std.specs.Prelude.{Ok, Err}
use Rattle.refusals.specs.Answers.{as_it_is, reads_as}
use Rattle.tlf.specs.declared.Ty.TheVariants.{OctetString, Boolean, Integer, ListOf}
use Rattle.tlf.specs.declared.TypeLengthField.{TypeLengthField}
use Rattle.tlf.proofs.Overflow.{kind_in, place_in}
use Rattle.refusals.specs.declared.ParseError.TheVariants.{UnexpectedEOF, InvalidTlf}
use Rattle.refusals.specs.declared.TlfParseError.TheVariants.{TlfLengthOverflow, TlfLengthUnderflow}

string_is_a_list : true ≡ is_list OctetString → ⊥
string_is_a_list h = false≢true (sym h)

integer_is_boolean : true ≡ is_boolean Integer → ⊥
integer_is_boolean h = false≢true (sym h)

nothing_is_boolean : false ≡ is_boolean Boolean → ⊥
nothing_is_boolean h = false≢true h

-- a list of three is no list of two
list_of_any_number : true ≡ is_list_of 2 (record { ty = ListOf; len = 3 }) → ⊥
list_of_any_number h = false≢true (sym h)

-- a refusal has none
len_in : Read TypeLengthField → ℕ
len_in (got t next) = t.len
len_in (refused f) = 0

-- ---- lengths over 32 bits

-- B14's nine length bytes say 4,294,967,306: no string of nine less
length_of_more_than_32_bits : reads_as as_it_is (Ok (record { ty = OctetString; len = 4294967297 }, 9)) ≡ tlf_at (0x81 ∷ 0x80 ∷ 0x80 ∷ 0x80 ∷ 0x80 ∷ 0x80 ∷ 0x80 ∷ 0x80 ∷ 0x0a ∷ []) 0 → ⊥
unfolding then guard need byte_at tlf_at length_from less_own len_in
length_of_more_than_32_bits h = let n : ◌≡◌ {A = ℕ} 4294967297 0 = ap len_in h in omega (arith, n)

-- nor one of its low 32 bits, 10, less nine
length_wraps_round : reads_as as_it_is (Ok (record { ty = OctetString; len = 1 }, 9)) ≡ tlf_at (0x81 ∷ 0x80 ∷ 0x80 ∷ 0x80 ∷ 0x80 ∷ 0x80 ∷ 0x80 ∷ 0x80 ∷ 0x0a ∷ []) 0 → ⊥
unfolding then guard need byte_at tlf_at length_from less_own len_in
length_wraps_round h = let n : ◌≡◌ {A = ℕ} 1 0 = ap len_in h in omega (arith, n)

-- eight digits f are 4,294,967,295, which passes nothing
overflow_one_digit_early : reads_as as_it_is (Err (record { error = InvalidTlf TlfLengthOverflow; place = 0 })) ≡ tlf_at (0x8f ∷ 0x8f ∷ 0x8f ∷ 0x8f ∷ 0x8f ∷ 0x8f ∷ 0x8f ∷ 0x0f ∷ []) 0 → ⊥
unfolding then guard need byte_at tlf_at length_from less_own kind_in
overflow_one_digit_early h = let n : ◌≡◌ {A = ℕ} 1 0 = ap kind_in h in omega (arith, n)

-- the ninth byte makes the length too long; the first is named
overflow_named_at_its_byte : reads_as as_it_is (Err (record { error = InvalidTlf TlfLengthOverflow; place = 8 })) ≡ tlf_at (0x81 ∷ 0x80 ∷ 0x80 ∷ 0x80 ∷ 0x80 ∷ 0x80 ∷ 0x80 ∷ 0x80 ∷ 0x80 ∷ []) 0 → ⊥
unfolding then guard need byte_at tlf_at length_from less_own place_in
overflow_named_at_its_byte h = let n : ◌≡◌ {A = ℕ} 8 0 = ap place_in h in omega (arith, n)

-- the ninth byte says that more follow, and the input ends: it is judged all the same
overflow_behind_the_last_byte : reads_as as_it_is (Err (record { error = UnexpectedEOF; place = 9 })) ≡ tlf_at (0x81 ∷ 0x80 ∷ 0x80 ∷ 0x80 ∷ 0x80 ∷ 0x80 ∷ 0x80 ∷ 0x80 ∷ 0x80 ∷ []) 0 → ⊥
unfolding then guard need byte_at tlf_at length_from less_own kind_in
overflow_behind_the_last_byte h = let n : ◌≡◌ {A = ℕ} 0 1 = ap kind_in h in omega (arith, n)

-- the ninth byte has a type, which is judged first
overflow_before_the_type : reads_as as_it_is (Err (record { error = InvalidTlf TlfLengthOverflow; place = 0 })) ≡ tlf_at (0x81 ∷ 0x80 ∷ 0x80 ∷ 0x80 ∷ 0x80 ∷ 0x80 ∷ 0x80 ∷ 0x80 ∷ 0x10 ∷ []) 0 → ⊥
unfolding then guard need byte_at tlf_at length_from less_own kind_in
overflow_before_the_type h = let n : ◌≡◌ {A = ℕ} 1 4 = ap kind_in h in omega (arith, n)

-- a list takes nothing off, and may be no longer
list_longer_than_32_bits : reads_as as_it_is (Ok (record { ty = ListOf; len = 4294967296 }, 9)) ≡ tlf_at (0xf1 ∷ 0x80 ∷ 0x80 ∷ 0x80 ∷ 0x80 ∷ 0x80 ∷ 0x80 ∷ 0x80 ∷ 0x00 ∷ []) 0 → ⊥
unfolding then guard need byte_at tlf_at length_from less_own len_in
list_longer_than_32_bits h = let n : ◌≡◌ {A = ℕ} 4294967296 0 = ap len_in h in omega (arith, n)

-- 4,294,967,296, from which nine would be taken off, is too long by itself
own_bytes_off_before_the_overflow : reads_as as_it_is (Ok (record { ty = OctetString; len = 4294967287 }, 9)) ≡ tlf_at (0x81 ∷ 0x80 ∷ 0x80 ∷ 0x80 ∷ 0x80 ∷ 0x80 ∷ 0x80 ∷ 0x80 ∷ 0x00 ∷ []) 0 → ⊥
unfolding then guard need byte_at tlf_at length_from less_own len_in
own_bytes_off_before_the_overflow h = let n : ◌≡◌ {A = ℕ} 4294967287 0 = ap len_in h in omega (arith, n)

-- 80 in front adds nothing, however often
nine_length_bytes_are_too_many : reads_as as_it_is (Err (record { error = InvalidTlf TlfLengthOverflow; place = 0 })) ≡ tlf_at (0x80 ∷ 0x80 ∷ 0x80 ∷ 0x80 ∷ 0x80 ∷ 0x80 ∷ 0x80 ∷ 0x80 ∷ 0x80 ∷ 0x80 ∷ 0x80 ∷ 0x0d ∷ []) 0 → ⊥
unfolding then guard need byte_at tlf_at length_from less_own kind_in
nine_length_bytes_are_too_many h = let n : ◌≡◌ {A = ℕ} 1 0 = ap kind_in h in omega (arith, n)

-- of 4,294,967,301 the low 32 bits are less than its nine bytes
underflow_before_overflow : reads_as as_it_is (Err (record { error = InvalidTlf TlfLengthUnderflow; place = 0 })) ≡ tlf_at (0x81 ∷ 0x80 ∷ 0x80 ∷ 0x80 ∷ 0x80 ∷ 0x80 ∷ 0x80 ∷ 0x80 ∷ 0x05 ∷ []) 0 → ⊥
unfolding then guard need byte_at tlf_at length_from less_own kind_in
underflow_before_overflow h = let n : ◌≡◌ {A = ℕ} 3 1 = ap kind_in h in omega (arith, n)
