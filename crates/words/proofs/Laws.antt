-- There are always 24 numbers, and no word of an event is left out.
use Prim.Native.Nat.{ℕ, zero, suc, ◌-◌, ◌≤◌}
use mathlib.Core.Path.{◌≡◌, refl, ap, ◌∙◌}
use mathlib.Core.List.{List, [], ◌∷◌, ◌++◌}
use mathlib.Core.Option.{Option, some, none}
use native.Mathlib.Omega.{arith}
use lib.IntN.{ℤ}
use lib.ListN.{length, replicate, length-append, length-replicate}
use Rattle.refusals.specs.declared.Span.{Span}
use Rattle.value.specs.Values.{Status, Value, truth, bytes, signed, unsigned, list_time}
use Rattle.message.specs.Messages.{Body, open_body, close_body, list_body}
use Rattle.streaming.specs.Next.{start_event, entry_event, end_event, Said, event, no_event, failed, alone}
use Rattle.words.specs.Words.{number_word, signed_word, span_words, status_words, field_words, value_words, body_words, said_words, with_zeros, event_words}

pub with_zeros_length : (n : ℕ) (l : List ℕ) → length (with_zeros n l) ≡ n
unfolding with_zeros
with_zeros_length zero l = refl
with_zeros_length (suc n) [] = ap suc (with_zeros_length n [])
with_zeros_length (suc n) (x ∷ l) = ap suc (with_zeros_length n l)

pub event_words_length : (s : Said) → length (event_words s) ≡ 24
event_words_length s = with_zeros_length 24 (said_words s)

with_zeros_none : (n : ℕ) → with_zeros n [] ≡ replicate n 0
unfolding with_zeros
with_zeros_none zero = refl
with_zeros_none (suc n) = ap (λ (l : List ℕ). 0 ∷ l) (with_zeros_none n)

with_zeros_whole : (n : ℕ) (l : List ℕ) → length l ≤ n → with_zeros n l ≡ l ++ replicate (n - length l) 0
unfolding with_zeros
with_zeros_whole n [] h = let k : n ≡ n - 0 = omega arith in with_zeros_none n ∙ ap (λ (k : ℕ). replicate k 0) k
with_zeros_whole zero (x ∷ l) h = absurd (omega (arith, h))
with_zeros_whole (suc n) (x ∷ l) h =
    let same : n - length l ≡ suc n - suc (length l) = omega arith in
    ap (λ (k : List ℕ). x ∷ k) (with_zeros_whole n l (omega (arith, h))) ∙ ap (λ (k : ℕ). x ∷ l ++ replicate k 0) same

field_length : {A : Type 0} (n : ℕ) (words : A → List ℕ) → ((a : A) → length (words a) ≡ n) → (x : Option A) → length (field_words n words x) ≡ suc n
field_length n words h (some a) = ap suc (h a)
field_length n words h none = ap suc (length-replicate n 0)

string_field : (x : Option Span) → length (field_words 2 span_words x) ≡ 3
string_field = field_length 2 span_words (λ s. refl)

number_field_lem : (x : Option ℕ) → length (field_words 1 number_word x) ≡ 2
number_field_lem = field_length 1 number_word (λ n. refl)

status_field : (x : Option Status) → length (field_words 2 status_words x) ≡ 3
status_field = field_length 2 status_words (λ s. refl)

scaler_field : (x : Option ℤ) → length (field_words 1 signed_word x) ≡ 2
scaler_field = field_length 1 signed_word (λ z. refl)

value_length : (v : Value Span) → length (value_words v) ≡ 5
value_length (truth b) = refl
value_length (bytes s) = refl
value_length (signed width z) = refl
value_length (unsigned width n) = refl
value_length (list_time n) = refl

body_length : (b : Body Span) → length (body_words b) ≤ 15
body_length (open_body b) = simp (length-append, string_field, number_field_lem) (omega arith)
body_length (close_body b) = rw string_field (omega arith)
body_length (list_body b) = simp (length-append, string_field, number_field_lem) (omega arith)

said_length : (s : Said) → length (said_words s) ≤ 24
said_length no_event = omega arith
said_length (event (start_event m)) = simp length-append (omega (arith, body_length m.message_body))
said_length (event (end_event e)) = simp (length-append, string_field, number_field_lem) (omega arith)
said_length (event (entry_event e)) = simp (length-append, string_field, number_field_lem, status_field, scaler_field, value_length) (omega arith)
said_length (failed f) = omega arith
said_length (alone n) = omega arith

pub event_words_whole : (s : Said) → event_words s ≡ said_words s ++ replicate (24 - length (said_words s)) 0
event_words_whole s = with_zeros_whole 24 (said_words s) (said_length s)
