-- What `most_matched` gives behind n start bytes and one byte more: a table, for every n and every byte.
use mathlib.Core.Path.{◌≡◌, refl, ◌∙◌}
use mathlib.Core.List.{[], ◌∷◌, ◌++◌}
use Prim.Native.Nat.{ℕ, zero, suc, ◌≤◌, ◌<◌}
use native.Mathlib.Omega.{arith}
use borrow.Author.Tests.{ne_eqb}
use lib.ListN.{take}
use lib.Seq.{take-nil}
use Rattle.frame.specs.Frame.{start_seq, same}
use Rattle.search.specs.Search.{greatest, most_matched}

-- start bytes matched behind n of them and the byte b, as the last bytes say
abbrev pub last_bytes : ℕ → ℕ → ℕ
last_bytes n b = most_matched (take n start_seq ++ b ∷ [])

-- behind eight and more it is as behind eight
all_eight : (n b : ℕ) → last_bytes (suc (suc (suc (suc (suc (suc (suc (suc n)))))))) b ≡ last_bytes 8 b
all_eight n b = rw (take-nil n)

-- a byte that is in no start sequence
pub other_none : (n b : ℕ) → (b ≡ 0x1b → ⊥) → (b ≡ 0x01 → ⊥) → last_bytes n b ≡ 0
unfolding most_matched greatest same
other_none zero b no1b no01 = rw (ne_eqb b 0x1b no1b)
other_none (suc zero) b no1b no01 = rw (ne_eqb b 0x1b no1b)
other_none (suc (suc zero)) b no1b no01 = rw (ne_eqb b 0x1b no1b)
other_none (suc (suc (suc zero))) b no1b no01 = rw (ne_eqb b 0x1b no1b)
other_none (suc (suc (suc (suc zero)))) b no1b no01 = rw (ne_eqb b 0x1b no1b, ne_eqb b 0x01 no01)
other_none (suc (suc (suc (suc (suc zero))))) b no1b no01 = rw (ne_eqb b 0x1b no1b, ne_eqb b 0x01 no01)
other_none (suc (suc (suc (suc (suc (suc zero)))))) b no1b no01 = rw (ne_eqb b 0x1b no1b, ne_eqb b 0x01 no01)
other_none (suc (suc (suc (suc (suc (suc (suc zero))))))) b no1b no01 = rw (ne_eqb b 0x1b no1b, ne_eqb b 0x01 no01)
other_none (suc (suc (suc (suc (suc (suc (suc (suc n)))))))) b no1b no01 = all_eight n b ∙ rw (ne_eqb b 0x1b no1b)

-- a 1b: one more of the first four; behind four it leaves four, and anywhere else it is the first
pub esc_few : (n : ℕ) → n < 4 → last_bytes n 0x1b ≡ suc n
unfolding most_matched greatest same
esc_few zero lt = refl
esc_few (suc zero) lt = refl
esc_few (suc (suc zero)) lt = refl
esc_few (suc (suc (suc zero))) lt = refl
esc_few (suc (suc (suc (suc n)))) lt = absurd (omega arith)

pub esc_four : last_bytes 4 0x1b ≡ 4
unfolding most_matched greatest same
esc_four = refl

pub esc_many : (n : ℕ) → 4 ≤ n → (n ≡ 4 → ⊥) → last_bytes n 0x1b ≡ 1
unfolding most_matched greatest same
esc_many zero le ne = absurd (omega arith)
esc_many (suc zero) le ne = absurd (omega arith)
esc_many (suc (suc zero)) le ne = absurd (omega arith)
esc_many (suc (suc (suc zero))) le ne = absurd (omega arith)
esc_many (suc (suc (suc (suc zero)))) le ne = absurd (ne refl)
esc_many (suc (suc (suc (suc (suc zero))))) le ne = refl
esc_many (suc (suc (suc (suc (suc (suc zero)))))) le ne = refl
esc_many (suc (suc (suc (suc (suc (suc (suc zero))))))) le ne = refl
esc_many (suc (suc (suc (suc (suc (suc (suc (suc n)))))))) le ne = all_eight n 0x1b

-- a 01: one more of the last four, and anywhere else none
pub one_few : (n : ℕ) → n < 4 → last_bytes n 0x01 ≡ 0
unfolding most_matched greatest same
one_few zero lt = refl
one_few (suc zero) lt = refl
one_few (suc (suc zero)) lt = refl
one_few (suc (suc (suc zero))) lt = refl
one_few (suc (suc (suc (suc n)))) lt = absurd (omega arith)

pub one_next : (n : ℕ) → 4 ≤ n → n < 8 → last_bytes n 0x01 ≡ suc n
unfolding most_matched greatest same
one_next zero le lt = absurd (omega arith)
one_next (suc zero) le lt = absurd (omega arith)
one_next (suc (suc zero)) le lt = absurd (omega arith)
one_next (suc (suc (suc zero))) le lt = absurd (omega arith)
one_next (suc (suc (suc (suc zero)))) le lt = refl
one_next (suc (suc (suc (suc (suc zero))))) le lt = refl
one_next (suc (suc (suc (suc (suc (suc zero)))))) le lt = refl
one_next (suc (suc (suc (suc (suc (suc (suc zero))))))) le lt = refl
one_next (suc (suc (suc (suc (suc (suc (suc (suc n)))))))) le lt = absurd (omega arith)

pub one_many : (n : ℕ) → 8 ≤ n → last_bytes n 0x01 ≡ 0
unfolding most_matched greatest same
one_many zero le = absurd (omega arith)
one_many (suc zero) le = absurd (omega arith)
one_many (suc (suc zero)) le = absurd (omega arith)
one_many (suc (suc (suc zero))) le = absurd (omega arith)
one_many (suc (suc (suc (suc zero)))) le = absurd (omega arith)
one_many (suc (suc (suc (suc (suc zero))))) le = absurd (omega arith)
one_many (suc (suc (suc (suc (suc (suc zero)))))) le = absurd (omega arith)
one_many (suc (suc (suc (suc (suc (suc (suc zero))))))) le = absurd (omega arith)
one_many (suc (suc (suc (suc (suc (suc (suc (suc n)))))))) le = all_eight n 0x01

-- all of these
pub ruleset a_byte_more = (other_none, esc_few, esc_four, esc_many, one_few, one_next, one_many)
