-- The step of a search: how many start bytes are matched behind it, in either way, and the one law of its noise.
use mathlib.Core.Path.{◌≡◌, refl, ap, sym, ◌∙◌}
use mathlib.Core.Bool.{Bool, true, false, false≢true}
use mathlib.Core.List.{[], ◌∷◌, ◌++◌}
use Prim.Native.Nat.{ℕ, suc, ◌+◌, ◌-◌, ◌≤◌}
use native.Mathlib.Omega.{arith}
use native.Mathlib.Numerals.{add-one}
use lib.ListN.{take, length-append, length-take}
use lib.Dec.{ltb}
use borrow.Author.Tests.{eq-eqb, ne_eqb, eqb-true, lt-ltb, le-ltb}
use Rattle.frame.specs.Frame.{start_seq}
use Rattle.frame.proofs.Cases.{by_test, by_eq, either}
use Rattle.search.proofs.Matched.{most_short}
use Rattle.search.proofs.LastBytes.{last_bytes, other_none, esc_few, esc_many, one_next}
use Rattle.decoder.specs.Push.{Setup, first_way, second_way, stopped, starts, matched_behind, more_noise}
use Rattle.decoder.specs.Record.{unknown_way}
use Rattle.decoder.specs.Run.{KnownWay, is_first, is_second}
use Rattle.decoder.proofs.Split.{split}

-- ---- the ways

-- the way of a setup is not refused
abbrev pub Known : Setup → Type 0
Known C = unknown_way C.way ≡ false

pub known_is : (way : ℕ) → KnownWay way → unknown_way way ≡ false
known_is way (is_first e) = rw e
known_is way (is_second e) = rw e

pub unknown_is : (way : ℕ) → (KnownWay way → ⊥) → unknown_way way ≡ true
unknown_is way not_known = rw (ne_eqb way first_way (λ e. not_known (is_first e)), ne_eqb way second_way (λ e. not_known (is_second e)))

-- a known way that is not the second is the first
pub known_first : (way : ℕ) → unknown_way way ≡ false → (way ≡ second_way → ⊥) → way ≡ first_way
known_first way k other = either way first_way (λ e. e) (λ ne. absurd (false≢true (sym k ∙ rw (ne_eqb way first_way ne, ne_eqb way second_way other))))

-- ---- how many are matched

pub second_matched : (way n b : ℕ) → way ≡ second_way → matched_behind way n b ≡ last_bytes n b
second_matched way n b e = rw (eq-eqb way second_way e)

second_most : (n b : ℕ) → last_bytes n b ≤ suc n
second_most n b =
    let short = most_short (take n start_seq ++ b ∷ []) in
    omega (arith, simp (length-append, length-take) at short)

pub matched_most : (way n b : ℕ) → matched_behind way n b ≤ suc n
matched_most way n b =
    by_eq (λ (k : ℕ). k ≤ suc n) way second_way _ _ (λ e. second_most n b)
    (λ ne. by_test (λ (k : ℕ). k ≤ suc n) (starts n b) (suc n) 0 (λ t. omega arith) (λ t. omega arith))

-- in any way but the second: one more, or none
pub matched_more : (way n b : ℕ) → (way ≡ second_way → ⊥) → starts n b ≡ true → n + 1 ≡ matched_behind way n b
matched_more way n b other t = rw (ne_eqb way second_way other, t, add-one n)

pub matched_none : (way n b : ℕ) → (way ≡ second_way → ⊥) → starts n b ≡ false → 0 ≡ matched_behind way n b
matched_none way n b other t = rw (ne_eqb way second_way other, t)

-- in either way the next start byte is one more
pub matched_next : (way n b : ℕ) → n ≤ 7 → starts n b ≡ true → matched_behind way n b ≡ suc n
matched_next way n b le t =
    either way second_way
    (λ s. second_matched way n b s ∙
    split (suc n) 4
    (λ lt.
    let e : b ≡ 0x1b = eqb-true b 0x1b (rw (lt-ltb n 4 lt) at t) in
    rw e (esc_few n lt))
    (λ gt.
    let e : b ≡ 0x01 = eqb-true b 0x01 (rw (le-ltb n 4 (omega arith)) at t) in
    rw e (one_next n (omega arith) (omega arith))))
    (λ other. sym (matched_more way n b other t) ∙ add-one n)

-- the eighth is that of seven
second_eight : (b : ℕ) → last_bytes 7 b ≡ 8 → b ≡ 0x01
second_eight b e =
    either b 0x01 (λ f. f) (λ no01.
    either b 0x1b
    (λ f. absurd (let few = esc_many 7 (omega arith) (λ z. omega arith) in omega (arith, ap (last_bytes 7) f)))
    (λ no1b. absurd (omega (arith, other_none 7 b no1b no01))))

pub matched_eight : (way n b : ℕ) → n ≤ 7 → matched_behind way n b ≡ 8 → (starts n b ≡ true) × (n ≡ 7)
matched_eight way n b le =
    by_eq (λ (k : ℕ). k ≡ 8 → (starts n b ≡ true) × (n ≡ 7)) way second_way _ _
    (λ s e.
    let seven : n ≡ 7 = omega (arith, matched_most way n b, second_matched way n b s) in
    (rw (seven, second_eight b (ap (λ (i : ℕ). last_bytes i b) (sym seven) ∙ e)), seven))
    (λ other. by_test (λ (k : ℕ). k ≡ 8 → (starts n b ≡ true) × (n ≡ 7)) (starts n b) (suc n) 0 (λ t e. (t, omega arith)) (λ t e. absurd (omega arith)))

pub not_eight : (way n b : ℕ) → n ≤ 7 → starts n b ≡ false → matched_behind way n b ≡ 8 → ⊥
not_eight way n b le f e = false≢true (sym f ∙ (matched_eight way n b le e).0)

-- and a zero byte leaves none
starts_zero : (n : ℕ) → starts n 0 ≡ false
starts_zero n = by_test (λ (t : Bool). t ≡ false) (ltb n 4) false false (λ e. refl) (λ e. refl)

pub matched_zero : (way n : ℕ) → matched_behind way n 0 ≡ 0
matched_zero way n =
    either way second_way
    (λ s. second_matched way n 0 s ∙ other_none n 0 (λ e. omega arith) (λ e. omega arith))
    (λ other. sym (matched_none way n 0 other (starts_zero n)))

-- ---- the noise

-- it grows by what was matched and the byte, less what is matched then
pub noise_grows : (noise x n k : ℕ) → noise ≡ stopped x → k ≤ suc n → more_noise noise n k ≡ stopped (x + (suc n - k))
noise_grows noise x n k e le = by_eq (λ (y : ℕ). y ≡ stopped (x + (suc n - k))) k (suc n) noise _ (λ z. omega arith) (λ z. omega arith)
