-- The words of a field and of a value, one by one, and a string from its words.
use mathlib.Core.Path.{◌≡◌, refl}
use mathlib.Core.Bool.{cond}
use mathlib.Core.List.{[], ◌∷◌}
use mathlib.Core.Option.{Option, some, none}
use Prim.Native.Nat.{ℕ}
use lib.IntN.{ℤ}
use lib.Dec.{eqb}
use Rattle.refusals.specs.declared.Span.{Span}
use Rattle.value.specs.Values.{Status, Value, truth, bytes, signed, unsigned, list_time}
use Rattle.words.specs.Words.{twos_complement, signed_word, span_words, status_words, number_word, field_words, value_words}
use Rattle.words.specs.Back.{word_at}

-- whether a field is there, and a part of it, 0 where it is not
unfoldable pub present_word : {A : Type 0} → Option A → ℕ
present_word (some x) = 1
present_word none = 0

unfoldable pub part_in : {A : Type 0} → (A → ℕ) → Option A → ℕ
part_in f (some x) = f x
part_in f none = 0

pub span_words_lem : (o : Option Span) → field_words 2 span_words o ≡ present_word o ∷ part_in (λ p. p.start) o ∷ part_in (λ p. p.len) o ∷ []
unfolding present_word part_in
span_words_lem (some x) = refl
span_words_lem none = refl

pub span_back : (o : Option Span) → cond (eqb (present_word o) 1) (some (record { start = part_in (λ p. p.start) o; len = part_in (λ p. p.len) o })) none ≡ o
unfolding present_word part_in
span_back (some x) = refl
span_back none = refl

pub number_words : (o : Option ℕ) → field_words 1 number_word o ≡ present_word o ∷ part_in (λ n. n) o ∷ []
unfolding present_word part_in
number_words (some x) = refl
number_words none = refl

pub status_words_lem : (o : Option Status) → field_words 2 status_words o ≡ present_word o ∷ part_in (λ s. s.width) o ∷ part_in (λ s. s.number) o ∷ []
unfolding present_word part_in
status_words_lem (some x) = refl
status_words_lem none = refl

pub scaler_words : (o : Option ℤ) → field_words 1 signed_word o ≡ present_word o ∷ part_in twos_complement o ∷ []
unfolding present_word part_in
scaler_words (some z) = refl
scaler_words none = refl

unfoldable pub word_of : Value Span → ℕ → ℕ
word_of v k = word_at (value_words v) k

pub value_words_lem : (v : Value Span) → value_words v ≡ word_of v 0 ∷ word_of v 1 ∷ word_of v 2 ∷ word_of v 3 ∷ word_of v 4 ∷ []
unfolding word_of
value_words_lem (truth b) = refl
value_words_lem (bytes p) = refl
value_words_lem (signed width z) = refl
value_words_lem (unsigned width n) = refl
value_words_lem (list_time n) = refl
