-- What the contracts rule out: each wrong reading of docs/WRONG-READINGS.md that is told here is an outcome that the definition does not allow, at a small input.
use mathlib.Core.Path.{◌≡◌, ap}
use mathlib.Core.List.{[], ◌∷◌}
use mathlib.Core.Option.{Option, some, none}
use Prim.Native.Nat.{ℕ}
use native.Mathlib.Omega.{arith}
use Rattle.std.specs.Prelude.{Ok, Err}
use Rattle.std.specs.Prelude as P
use Rattle.refusals.specs.Answers.{opt_of, reads_as}
use Rattle.refusals.specs.Read.{Read, got, refused, then, guard, need, byte_at, span_at}
use Rattle.refusals.specs.declared.ParseError.TheVariants.{UnexpectedVariant}
use Rattle.refusals.proofs.Codes.{refusal_place}
use Rattle.tlf.specs.Lengths.{tlf_at, length_from, less_own, list_of_at}
use Rattle.numbers.specs.Numbers.{number, bytes_at_claim, raw_from, raw_at, unsigned_at}
use Rattle.octet_string.specs.Optional.{absent_at, optional}
use Rattle.value.specs.Values.{time_at, status_of, status_at, list_type_at, value_of_claim, value_at}
use Rattle.value.specs.Answers.{seconds, status, value}

-- is an optional field there?
presence : {A : Type 0} → Read (Option A) → ℕ
presence (got (some a) next) = 1
presence (got none next) = 0
presence (refused f) = 2

-- 72 62 02: the tag 2 stands at place 1, and so does the refusal
time_tag_named_at_the_time : reads_as seconds (Err (record { error = UnexpectedVariant; place = 0 })) ≡ time_at (0x72 ∷ 0x62 ∷ 0x02 ∷ []) 0 → ⊥
unfolding then guard need byte_at span_at tlf_at length_from less_own number bytes_at_claim raw_from raw_at unsigned_at time_at
time_tag_named_at_the_time h = let n : ◌≡◌ {A = ℕ} 0 1 = ap refusal_place h in omega (arith, n)

-- the same of a list value
list_value_tag_named_at_its_list : reads_as value (Err (record { error = UnexpectedVariant; place = 0 })) ≡ value_at (0x72 ∷ 0x62 ∷ 0x02 ∷ []) 0 → ⊥
unfolding then guard need byte_at span_at tlf_at length_from less_own number bytes_at_claim raw_from raw_at unsigned_at list_of_at list_type_at value_of_claim value_at
list_value_tag_named_at_its_list h = let n : ◌≡◌ {A = ℕ} 0 1 = ap refusal_place h in omega (arith, n)

-- a bare time of 7, and a status of 5, are there
optional_time_skipped : reads_as (opt_of seconds) (Ok (P.None, 5)) ≡ optional time_at (0x65 ∷ 0x00 ∷ 0x00 ∷ 0x00 ∷ 0x07 ∷ []) 0 → ⊥
unfolding optional absent_at presence then guard need byte_at span_at tlf_at length_from less_own number bytes_at_claim raw_from raw_at unsigned_at time_at
optional_time_skipped h = let n : ◌≡◌ {A = ℕ} 0 1 = ap presence h in omega (arith, n)

optional_status_skipped : reads_as (opt_of status) (Ok (P.None, 2)) ≡ optional status_at (0x62 ∷ 0x05 ∷ []) 0 → ⊥
unfolding optional absent_at presence then guard need byte_at span_at tlf_at length_from less_own number bytes_at_claim raw_from raw_at unsigned_at status_of status_at
optional_status_skipped h = let n : ◌≡◌ {A = ℕ} 0 1 = ap presence h in omega (arith, n)
