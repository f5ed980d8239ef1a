-- The bytes that an Encoder still gives, and their sum.
use mathlib.Core.Path.{◌≡◌, refl, ap, sym, ◌∙◌, subst}
use mathlib.Core.Bool.{Bool, true, false}
use Rattle.std.specs.Prelude.{Some, None, Ok, Err}
use mathlib.Core.List.{List, [], ◌∷◌, ◌++◌, map}
use Prim.Native.Nat.{ℕ, suc, ◌+◌, ◌<◌, ◌≤◌}
use native.Mathlib.Omega.{arith}
use native.Mathlib.Nat.{zero-add}
use native.Mathlib.Numerals.{add-one}
use lib.ListN.{length, drop, get_or, drop_of_length-le}
use lib.Seq.{drop-cons}
use borrow.Author.Tests.{lt-leb, le-leb}
use Rattle.frame.specs.Frame.{frame_of}
use Rattle.decoder_slice.proofs.Runs.{never}
use Rattle.encoder.specs.declared.Encoder.{Encoder}
use Rattle.encoder.specs.declared.Given.{Given}
use Rattle.refusals.specs.Numbers.{limit}
use Rattle.refusals.proofs.Places.{from_place}
use Rattle.encoder.specs.declared.EncoderError.{EncoderError}
use Rattle.encoder.specs.declared.EncoderError.TheVariants.{PayloadTooLong, BadState}
use Rattle.encoder.specs.Encoder.{NextAnswer, byte, finished, no_byte, Step, step_of, fresh_encoder, next_step, next_answer}
use Rattle.encoder.specs.Calls.{calls}
use Rattle.encoder.proofs.Calls.{gives_the_frame}
use Rattle.decoder.proofs.Split.{split}
use Rattle.bench.specs.Bench.{sum, streamed}

-- the calls from e on give the bytes l, then finished
pub record LeftToGive (e : Encoder) (payload l : List ℕ) : Type 0 where
  pub all : calls (length l + 1) e payload ≡ map byte l ++ finished ∷ []

pub first_left : (payload : List ℕ) → length payload ≤ limit → LeftToGive fresh_encoder payload (frame_of payload)
first_left payload h = record { all = gives_the_frame payload h 1 }

is_byte : NextAnswer → Bool
is_byte (byte b) = true
is_byte finished = false
is_byte (no_byte n) = false

given : NextAnswer → ℕ
given (byte b) = b
given finished = 0
given (no_byte n) = 0

refusal_is : (e : EncoderError) → is_byte (next_answer (Err e)) ≡ false
unfolding is_byte
refusal_is PayloadTooLong = refl
refusal_is BadState = refl

head : List NextAnswer → NextAnswer
head [] = finished
head (a ∷ more) = a

tail : List NextAnswer → List NextAnswer
tail [] = []
tail (a ∷ more) = more

-- a call where bytes are left
next_gives : (e : Encoder) (payload : List ℕ) (b : ℕ) (bs : List ℕ) → LeftToGive e payload (b ∷ bs)
    → ((next_step e payload).answer ≡ byte b) × LeftToGive (next_step e payload).encoder payload bs
unfolding calls head tail
next_gives e payload b bs h =
    let n : length (b ∷ bs) + 1 ≡ suc (length bs + 1) = omega arith in
    let all : calls (suc (length bs + 1)) e payload ≡ map byte (b ∷ bs) ++ finished ∷ [] = ap (λ (k : ℕ). calls k e payload) (sym n) ∙ h.all in
    (ap head all, record { all = ap tail all })

next_done : (e : Encoder) (payload : List ℕ) → LeftToGive e payload [] → (next_step e payload).answer ≡ finished
unfolding calls head
next_done e payload h =
    let n : 1 ≡ suc 0 = refl in
    ap head h.all

sum_at : (l : List ℕ) (i : ℕ) → i < length l → sum (drop i l) ≡ get_or l i 0 + sum (drop (i + 1) l)
unfolding sum
sum_at l i h = rw (add-one, drop-cons l i 0)

sum_end : (l : List ℕ) (i : ℕ) → length l ≤ i → sum (drop i l) ≡ 0
unfolding sum
sum_end l i h = rw drop_of_length-le

pub first_sum : (l : List ℕ) → 0 + sum (drop 0 l) ≡ sum l
first_sum l = zero-add (sum l)

-- what a call tells: with i bytes of l given and the sum t of them
module _ (e : Encoder) (payload l : List ℕ) (i t : ℕ) (g : Given) (said : step_of g ≡ next_step e payload)
    (within : i ≤ length l) (left : LeftToGive e payload (drop i l)) (so_far : t + sum (drop i l) ≡ sum l) where
  answer_is : next_answer g.answer ≡ (next_step e payload).answer
  answer_is = ap (λ (s : Step). s.answer) said

  taken : i < length l → ((next_step e payload).answer ≡ byte (get_or l i 0)) × LeftToGive (next_step e payload).encoder payload (drop (i + 1) l)
  taken h = next_gives e payload (get_or l i 0) (drop (i + 1) l) (subst (LeftToGive e payload) (from_place l i h) left)

  ended : length l ≤ i → is_byte (next_answer g.answer) ≡ false
  unfolding is_byte
  ended h = ap is_byte (answer_is ∙ next_done e payload (subst (LeftToGive e payload) (drop_of_length-le l {i = i} h) left))

  number : i < length l → given (next_answer g.answer) ≡ get_or l i 0
  unfolding given
  number h = ap given (answer_is ∙ (taken h).0)

  -- a byte: one more of l
  pub byte_next : (b : ℕ) → g.answer ≡ Ok (Some b)
      → (i + 1 ≤ length l) × LeftToGive g.encoder payload (drop (i + 1) l) × (t + b + sum (drop (i + 1) l) ≡ sum l)
  unfolding is_byte given
  byte_next b is =
      split (suc i) (length l)
      (λ h. let k : b ≡ get_or l i 0 = sym (ap (λ a. given (next_answer a)) is) ∙ number h in (
        omega arith,
        subst (λ (x : Encoder). LeftToGive x payload (drop (i + 1) l)) (sym (ap (λ (s : Step). s.encoder) said)) (taken h).1,
        omega (arith, k, sum_at l i h, so_far),
      ))
      (λ h. never (sym (ended (omega arith)) ∙ ap (λ a. is_byte (next_answer a)) is))

  -- no byte: all of l were given
  no_byte_lem : is_byte (next_answer g.answer) ≡ false → t ≡ sum l
  unfolding is_byte
  no_byte_lem said-none =
      split (suc i) (length l)
      (λ h. never (sym said-none ∙ ap is_byte (answer_is ∙ (taken h).0)))
      (λ h. omega (arith, so_far, sum_end l i (omega arith)))

  pub none_given : g.answer ≡ Ok None → t ≡ sum l
  unfolding is_byte
  none_given is = no_byte_lem (ap (λ a. is_byte (next_answer a)) is)

  pub none_refused : (x : EncoderError) → g.answer ≡ Err x → t ≡ sum l
  none_refused x is = no_byte_lem (ap (λ a. is_byte (next_answer a)) is ∙ refusal_is x)

-- all calls were made
pub sum_is_all : (l : List ℕ) (i t : ℕ) → length l ≤ i → t + sum (drop i l) ≡ sum l → t ≡ sum l
sum_is_all l i t h e = omega (arith, e, sum_end l i h)

pub streamed_long : (payload : List ℕ) → limit < length payload → 0 ≡ streamed payload
streamed_long payload h = rw (lt-leb (length payload) limit h)

pub streamed_all : (payload : List ℕ) → length payload ≤ limit → sum (frame_of payload) ≡ streamed payload
streamed_all payload h = rw (le-leb (length payload) limit h)
