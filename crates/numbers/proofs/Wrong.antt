-- What the contracts rule out: each wrong reading of docs/WRONG-READINGS.md that is told here is an outcome that the definition does not allow, at a small input.
use mathlib.Core.Path.{◌≡◌, ap, ◌∙◌}
use mathlib.Core.Bool.{Bool, false, false≢true}
use mathlib.Core.List.{[], ◌∷◌}
use mathlib.Core.Option.{Option, some, none}
use lib.IntN.{pos}
use Prim.Native.Nat.{ℕ}
use native.Mathlib.Omega.{arith}
use Rattle.std.specs.Prelude.{Ok, Err}
use Rattle.std.specs.Prelude as P
use Rattle.refusals.specs.Answers.{as_it_is, opt_of, reads_as}
use Rattle.octet_string.specs.Optional.{absent_at, optional}
use Rattle.refusals.specs.Read.{Read, got, refused, then, guard, need, byte_at, span_at}
use Rattle.refusals.specs.declared.ParseError.TheVariants.{UnexpectedEOF, TlfMismatch}
use Rattle.refusals.proofs.Codes.{refusal_number, refusal_place}
use Rattle.tlf.specs.Lengths.{tlf_at, length_from, less_own}
use Rattle.numbers.specs.Numbers.{number, bytes_at_claim, raw_from, raw_at, unsigned_at, signed_of, signed_at, bool_from, bool_at}
use Rattle.numbers.proofs.Examples.{number_examples}

number_read : Read ℕ → ℕ
number_read (got n next) = n
number_read (refused f) = 0

-- 63 01 02 is 258
low_byte_first : reads_as as_it_is (Ok (513, 3)) ≡ unsigned_at 2 (0x63 ∷ 0x01 ∷ 0x02 ∷ []) 0 → ⊥
unfolding number_read
low_byte_first h = let n : ◌≡◌ {A = ℕ} 513 258 = ap number_read (h ∙ number_examples.high_first) in omega (arith, n)

-- a number's bytes

-- 61 has none: 12
number_of_no_bytes : reads_as as_it_is (Ok (0, 1)) ≡ unsigned_at 1 (0x61 ∷ []) 0 → ⊥
unfolding then guard need byte_at span_at tlf_at length_from less_own number bytes_at_claim raw_from raw_at unsigned_at
number_of_no_bytes h = let n : ◌≡◌ {A = ℕ} 0 12 = ap refusal_number h in omega (arith, n)

-- 65 00 00 00 05 has four: no u16
u16_of_four_bytes : reads_as as_it_is (Ok (5, 5)) ≡ unsigned_at 2 (0x65 ∷ 0x00 ∷ 0x00 ∷ 0x00 ∷ 0x05 ∷ []) 0 → ⊥
unfolding then guard need byte_at span_at tlf_at length_from less_own number bytes_at_claim raw_from raw_at unsigned_at
u16_of_four_bytes h = let n : ◌≡◌ {A = ℕ} 0 12 = ap refusal_number h in omega (arith, n)

-- 42 01 has one, as a Boolean must
boolean_of_no_byte : reads_as as_it_is (Err (record { error = TlfMismatch; place = 0 })) ≡ bool_at (0x42 ∷ 0x01 ∷ []) 0 → ⊥
unfolding then guard need byte_at span_at tlf_at length_from less_own number bytes_at_claim raw_from raw_at unsigned_at bool_from bool_at
boolean_of_no_byte h = let n : ◌≡◌ {A = ℕ} 12 0 = ap refusal_number h in omega (arith, n)

truth_read : Read Bool → Bool
truth_read (got b next) = b
truth_read (refused f) = false

-- 42 ff is true
only_one_is_true : reads_as as_it_is (Ok (false, 2)) ≡ bool_at (0x42 ∷ 0xff ∷ []) 0 → ⊥
unfolding truth_read
only_one_is_true h = false≢true (ap truth_read (h ∙ number_examples.yes))

-- ---- refusals, and where they stand

-- 63 00 as u8: too wide comes before too short
eof_before_mismatch : reads_as as_it_is (Err (record { error = UnexpectedEOF; place = 2 })) ≡ unsigned_at 1 (0x63 ∷ 0x00 ∷ []) 0 → ⊥
unfolding then guard need byte_at span_at tlf_at length_from less_own number bytes_at_claim raw_from raw_at unsigned_at
eof_before_mismatch h = let n : ◌≡◌ {A = ℕ} 10 12 = ap refusal_number h in omega (arith, n)

-- and 12 names the first length byte
number_mismatch_behind_its_length : reads_as as_it_is (Err (record { error = TlfMismatch; place = 1 })) ≡ unsigned_at 1 (0x63 ∷ 0x00 ∷ 0x05 ∷ []) 0 → ⊥
unfolding then guard need byte_at span_at tlf_at length_from less_own number bytes_at_claim raw_from raw_at unsigned_at
number_mismatch_behind_its_length h = let n : ◌≡◌ {A = ℕ} 1 0 = ap refusal_place h in omega (arith, n)

-- 10 names the input's length
eof_named_at_the_element : reads_as as_it_is (Err (record { error = UnexpectedEOF; place = 0 })) ≡ unsigned_at 2 (0x63 ∷ 0x01 ∷ []) 0 → ⊥
eof_named_at_the_element h = let n : ◌≡◌ {A = ℕ} 0 2 = ap refusal_place (h ∙ number_examples.cut) in omega (arith, n)

-- 10 as u8: no type comes before no number
mismatch_before_the_length_rules : reads_as as_it_is (Err (record { error = TlfMismatch; place = 0 })) ≡ unsigned_at 1 (0x10 ∷ []) 0 → ⊥
unfolding then guard need byte_at span_at tlf_at length_from less_own number bytes_at_claim raw_from raw_at unsigned_at
mismatch_before_the_length_rules h = let n : ◌≡◌ {A = ℕ} 12 11 = ap refusal_number h in omega (arith, n)

-- ---- optional fields

-- is an optional field there?
presence_of : {A : Type 0} → Read (Option A) → ℕ
presence_of (got (some a) next) = 1
presence_of (got none next) = 0
presence_of (refused f) = 2

-- 01 is absent, not 0
absent_u8_is_zero : reads_as (opt_of as_it_is) (Ok ((P.Some 0), 1)) ≡ optional (unsigned_at 1) (0x01 ∷ []) 0 → ⊥
unfolding optional absent_at presence_of
absent_u8_is_zero h = let n : ◌≡◌ {A = ℕ} 1 0 = ap presence_of h in omega (arith, n)

-- 61, a number of no bytes, is 12, not absent
number_of_no_bytes_is_absent : reads_as (opt_of as_it_is) (Ok (P.None, 1)) ≡ optional (unsigned_at 1) (0x61 ∷ []) 0 → ⊥
unfolding optional absent_at presence_of then guard need byte_at span_at tlf_at length_from less_own number bytes_at_claim raw_from raw_at unsigned_at
number_of_no_bytes_is_absent h = let n : ◌≡◌ {A = ℕ} 0 2 = ap presence_of h in omega (arith, n)

absent_i8_is_zero : reads_as (opt_of as_it_is) (Ok ((P.Some (pos 0)), 1)) ≡ optional (signed_at 1) (0x01 ∷ []) 0 → ⊥
unfolding optional absent_at presence_of
absent_i8_is_zero h = let n : ◌≡◌ {A = ℕ} 1 0 = ap presence_of h in omega (arith, n)

-- 62 05 is an Unsigned: as i8 it is 12
unsigned_taken_as_i8 : reads_as (opt_of as_it_is) (Ok ((P.Some (pos 5)), 2)) ≡ optional (signed_at 1) (0x62 ∷ 0x05 ∷ []) 0 → ⊥
unfolding optional absent_at presence_of then guard need byte_at span_at tlf_at length_from less_own number bytes_at_claim raw_from raw_at unsigned_at signed_of signed_at
unsigned_taken_as_i8 h = let n : ◌≡◌ {A = ℕ} 1 2 = ap presence_of h in omega (arith, n)
