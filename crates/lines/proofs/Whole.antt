-- Laws of lines: each from its parts, one stored behind the other; and what line_to gives where a line fits, and where it doesn't.
use Prim.Native.Nat.{ℕ, ◌+◌, ◌*◌, ◌<◌, ◌≤◌, max}
use mathlib.Core.Bool.{Bool, true, false}
use mathlib.Core.List.{List, [], ◌∷◌, ◌++◌}
use mathlib.Core.Path.{◌≡◌, refl, ap, ◌∙◌}
use native.Mathlib.Omega.{arith}
use native.Mathlib.Nat.{zero-add}
use borrow.Author.Tests.{le-leb, lt-leb}
use lib.ListN.{length, take, drop, length-append}
use lib.Seq.{sets-eq, take_at}
use Rattle.frame.proofs.Cases.{by_le}
use Rattle.std.specs.Prelude.{Ok, Err}
use Rattle.decoder.specs.Record.{payload, refusal, flag, Event, answer_of}
use Rattle.decoder.specs.declared.DecodeErr.TheVariants.{DiscardedBytes, InvalidEsc, OutOfMemory, InvalidMessage, BadState, WrongBuffer}
use Rattle.encoder.specs.Parts.{Stored}
use Rattle.encoder.proofs.Stores.{stored_then, stored_take}
use Rattle.lines.specs.Lines.{text, hex_of, hex_four, decimal, aligned_word, refusal_line, line_of, LineAnswer, line_length, no_line, AfterLine, after_line, line_to}
use Rattle.lines.proofs.Laws.{hex_length, decimal_ten}

-- ---- into the output

pub line_refused : (line out : List ℕ) → length out < length line → after_line (no_line 18) out ≡ line_to line out
unfolding line_to
line_refused line out h = rw (lt-leb (length line) (length out) h)

pub line_put : (line out m : List ℕ) (r : ℕ) → length line ≤ length out → Stored m r out 0 line → after_line (line_length r) m ≡ line_to line out
unfolding line_to
line_put line out m r h s =
    let l : r ≡ length line = omega (arith, s.1) in
    let f : 0 + length line ≤ length out = omega arith in
    let w : m ≡ line ++ drop (length line) out = s.0 ∙ sets-eq line out 0 f ∙ ap (λ (n : ℕ). line ++ drop n out) (zero-add (length line)) in
    rw (le-leb (length line) (length out) h, l, w)

-- ---- a word and digits

hex_line_length : (w p : List ℕ) → length (w ++ hex_of p ++ 10 ∷ []) ≡ length w + 1 + 2 * length p
hex_line_length w p = simp (length-append, hex_length) (omega arith)

pub hex_line_refused : (w p out : List ℕ) → length out < length w + 1 + 2 * length p → after_line (no_line 18) out ≡ line_to (w ++ hex_of p ++ 10 ∷ []) out
hex_line_refused w p out h = line_refused (w ++ hex_of p ++ 10 ∷ []) out (omega (arith, hex_line_length w p))

pub hex_line : (w p out m₁ m₂ m₃ : List ℕ) (r₁ r₂ r₃ : ℕ) → length w + 1 + 2 * length p ≤ length out
    → Stored m₁ r₁ out 0 w → Stored m₂ r₂ m₁ r₁ (hex_of p) → Stored m₃ r₃ m₂ r₂ (10 ∷ []) → after_line (line_length r₃) m₃ ≡ line_to (w ++ hex_of p ++ 10 ∷ []) out
hex_line w p out m₁ m₂ m₃ r₁ r₂ r₃ h a b c =
    line_put (w ++ hex_of p ++ 10 ∷ []) out m₃ r₃ (omega (arith, hex_line_length w p)) (stored_then out m₂ m₃ 0 r₂ r₃ (w ++ hex_of p) (10 ∷ []) (stored_then out m₁ m₂ 0 r₁ r₂ w (hex_of p) a b) c)

pub payload_none : (p : List ℕ) → length p ≡ 0 → text "payload\n" ≡ line_of (payload p)
unfolding line_of
payload_none [] h = refl
payload_none (b ∷ p) h = absurd (omega arith)

pub payload_some : (p : List ℕ) → (length p ≡ 0 → ⊥) → text "payload " ++ hex_of p ++ 10 ∷ [] ≡ line_of (payload p)
unfolding line_of
payload_some [] h = absurd (h refl)
payload_some (b ∷ p) h = refl

-- ---- made in a part of m

-- a word, a value and the newline
three_parts : (m m₁ m₂ m₃ xs ys zs : List ℕ) (r₁ r₂ r₃ : ℕ) → length xs + length ys + length zs ≤ length m
    → Stored m₁ r₁ m 0 xs → Stored m₂ r₂ m₁ r₁ ys → Stored m₃ r₃ m₂ r₂ zs → take r₃ m₃ ≡ xs ++ ys ++ zs
three_parts m m₁ m₂ m₃ xs ys zs r₁ r₂ r₃ h a b c =
    stored_take m m₃ r₃ (xs ++ ys ++ zs) (stored_then m m₂ m₃ 0 r₂ r₃ (xs ++ ys) zs (stored_then m m₁ m₂ 0 r₁ r₂ xs ys a b) c) (simp length-append (omega arith))

pub discarded_line : (m m₁ m₂ m₃ : List ℕ) (r₁ r₂ r₃ n : ℕ) → 11 + length (decimal n) ≤ length m
    → Stored m₁ r₁ m 0 (text "discarded ") → Stored m₂ r₂ m₁ r₁ (decimal n) → Stored m₃ r₃ m₂ r₂ (text "\n") → take r₃ m₃ ≡ line_of (refusal 6 (n ∷ []))
unfolding refusal_line line_of
discarded_line m m₁ m₂ m₃ r₁ r₂ r₃ n h a b c = three_parts m m₁ m₂ m₃ (text "discarded ") (decimal n) (text "\n") r₁ r₂ r₃ (omega arith) a b c

pub aligned_short : (misaligned : Bool) → length (aligned_word (flag misaligned)) ≤ 12
aligned_short true = omega arith
aligned_short false = omega arith

pub invalid_line : (m m₁ m₂ m₃ m₄ m₅ m₆ m₇ : List ℕ) (r₁ r₂ r₃ r₄ r₅ r₆ r₇ read computed p : ℕ) (misaligned : Bool) → 30 + length (decimal p) ≤ length m
    → Stored m₁ r₁ m 0 (text "invalid ") → Stored m₂ r₂ m₁ r₁ (hex_four read) → Stored m₃ r₃ m₂ r₂ (text " ") → Stored m₄ r₄ m₃ r₃ (hex_four computed)
    → Stored m₅ r₅ m₄ r₄ (aligned_word (flag misaligned)) → Stored m₆ r₆ m₅ r₅ (decimal p) → Stored m₇ r₇ m₆ r₆ (text "\n")
    → take r₇ m₇ ≡ line_of (refusal 8 (read ∷ computed ∷ flag misaligned ∷ p ∷ []))
unfolding refusal_line line_of
invalid_line m m₁ m₂ m₃ m₄ m₅ m₆ m₇ r₁ r₂ r₃ r₄ r₅ r₆ r₇ read computed p misaligned h a b c d e f g =
    let w = text "invalid " ++ hex_four read ++ text " " ++ hex_four computed in
    let s₃ = stored_then m m₂ m₃ 0 r₂ r₃ (text "invalid " ++ hex_four read) (text " ") (stored_then m m₁ m₂ 0 r₁ r₂ (text "invalid ") (hex_four read) a b) c in
    let s₄ = stored_then m m₃ m₄ 0 r₃ r₄ (text "invalid " ++ hex_four read ++ text " ") (hex_four computed) s₃ d in
    let s₅ = stored_then m m₄ m₅ 0 r₄ r₅ w (aligned_word (flag misaligned)) s₄ e in
    let l : length w ≡ 17 = simp (length-append, hex_length) refl in
    three_parts m m₅ m₆ m₇ (w ++ aligned_word (flag misaligned)) (decimal p) (text "\n") r₅ r₆ r₇ (simp length-append (omega (arith, l, aligned_short misaligned))) s₅ f g

-- ---- none

pub line_none : (out : List ℕ) → after_line (line_length 0) out ≡ line_to [] out
unfolding line_to
line_none out = rw (le-leb 0 (length out) (omega arith))

-- ---- what a caller may conclude

length_said : LineAnswer → ℕ
length_said (line_length n) = n
length_said (no_line k) = 0

refused_said : LineAnswer → ℕ
refused_said (line_length n) = 0
refused_said (no_line k) = 1

-- a length that is answered is the line's, and the line stands there
pub line_given : (line out left : List ℕ) (n : ℕ) → after_line (line_length n) left ≡ line_to line out → (n ≤ length out) × (take n left ≡ line)
unfolding line_to length_said refused_said
line_given line out left n h =
    by_le (λ (a : AfterLine). after_line (line_length n) left ≡ a → (n ≤ length out) × (take n left ≡ line)) (length line) (length out) _ _
    (λ t e. let l : n ≡ length line = ap (λ (a : AfterLine). length_said a.answer) e in
    (omega (arith, l), rw (l, ap (λ (a : AfterLine). a.output) e) (take_at line (drop (length line) out) (length line) refl)))
    (λ t e. absurd (let z : ◌≡◌ {A = ℕ} 0 1 = ap (λ (a : AfterLine). refused_said a.answer) e in omega (arith, z))) h

-- a line that is refused does not fit
pub refused_line : (line out left : List ℕ) → after_line (no_line 18) left ≡ line_to line out → length out < length line
unfolding line_to refused_said
refused_line line out left h =
    by_le (λ (a : AfterLine). after_line (no_line 18) left ≡ a → length out < length line) (length line) (length out) _ _
    (λ t e. absurd (let z : ◌≡◌ {A = ℕ} 1 0 = ap (λ (a : AfterLine). refused_said a.answer) e in omega (arith, z))) (λ t e. t) h

payload_most : (p : List ℕ) → length (line_of (payload p)) ≤ 9 + 2 * length p
unfolding line_of
payload_most [] = omega arith
payload_most (b ∷ p) = omega (arith, hex_line_length (text "payload ") (b ∷ p))

-- the places that are enough for every line
pub line_most : (e : Event) (p : List ℕ) → length (line_of (answer_of e p)) ≤ max 40 (9 + 2 * length p)
unfolding refusal_line line_of
line_most (Ok false) p = omega arith
line_most (Ok true) p = omega (arith, payload_most p)
line_most (Err OutOfMemory) p = omega arith
line_most (Err BadState) p = omega arith
line_most (Err WrongBuffer) p = omega arith
line_most (Err (DiscardedBytes n)) p = simp length-append (omega (arith, decimal_ten n))
line_most (Err (InvalidEsc a b c d)) p = simp (length-append, hex_length) (omega arith)
line_most (Err (InvalidMessage read computed misaligned pads)) p = simp (length-append, hex_length) (omega (arith, decimal_ten pads, aligned_short misaligned))
