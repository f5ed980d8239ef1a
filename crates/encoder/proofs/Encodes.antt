-- Laws of encode_to, one for each of its answers, and of the room that a frame takes.
use Prim.Native.Nat.{ℕ, ◌+◌, ◌*◌, ◌<◌, ◌≤◌}
use mathlib.Core.Bool.{true, false}
use mathlib.Core.List.{List, ◌++◌}
use mathlib.Core.Path.{◌≡◌, ap, ◌∙◌}
use native.Mathlib.Omega.{arith}
use native.Mathlib.Nat.{zero-add}
use borrow.Author.Tests.{le-leb, lt-leb}
use lib.Dec.{leb}
use lib.ListN.{length, drop}
use lib.Seq.{sets-eq}
use Rattle.frame.specs.Frame.{escaped, missing, frame_of}
use Rattle.frame.proofs.Frames.{escaped_short, length_frame}
use Rattle.refusals.specs.Numbers.{limit}
use Rattle.encoder.specs.Encode.{length_is, no_frame, after_encode, encode_to}
use Rattle.encoder.specs.Encoder.{end_of}
use Rattle.encoder.specs.Parts.{Stored}
use Rattle.encoder.proofs.Stores.{length_end}

pub encode_long : (P out : List ℕ) → limit < length P → after_encode (no_frame 1) out ≡ encode_to P out
unfolding encode_to
encode_long P out h = rw (lt-leb (length P) limit h)

pub encode_full : (P out : List ℕ) → length P ≤ limit → leb (length (frame_of P)) (length out) ≡ false → after_encode (no_frame 2) out ≡ encode_to P out
unfolding encode_to
encode_full P out h e = rw (le-leb (length P) limit h, e)

pub encode_whole : (P out m : List ℕ) (r : ℕ) → length P ≤ limit → leb (length (frame_of P)) (length out) ≡ true → length (frame_of P) ≤ length out
    → Stored m r out 0 (frame_of P) → after_encode (length_is r) m ≡ encode_to P out
unfolding encode_to
encode_whole P out m r h e k s =
    let l : r ≡ length (frame_of P) = omega (arith, s.1) in
    let f : 0 + length (frame_of P) ≤ length out = omega arith in
    let w : m ≡ frame_of P ++ drop (length (frame_of P)) out = s.0 ∙ sets-eq (frame_of P) out 0 f ∙ ap (λ (n : ℕ). frame_of P ++ drop n out) (zero-add (length (frame_of P))) in
    rw (le-leb (length P) limit h, e, l, w)

-- a frame has at most two bytes for each of the payload, and nineteen
pub frame_short : (P : List ℕ) → length (frame_of P) ≤ 2 * length P + 19
frame_short P = omega (arith, length_frame P, escaped_short 0 P (omega arith))

-- the escaped payload has at most two for each of the payload, and three
pub escaped_twice : (P : List ℕ) → length (escaped 0 P) ≤ 2 * length P + 3
escaped_twice P = omega (arith, escaped_short 0 P (omega arith))

-- room at each part of a frame
pub frame_room : (P : List ℕ) (N : ℕ) → length (frame_of P) ≤ N → 8 + length (escaped 0 P) + missing (length P) + 8 ≤ N
frame_room P N h = omega (arith, length_frame P)

-- behind the end there is room for the CRC
pub end_room : (P : List ℕ) (N r₁ r₂ r₃ n : ℕ) → r₁ ≡ 0 + 8 → r₂ ≡ r₁ + length (escaped 0 P) → n ≡ missing (length P) → r₃ ≡ r₂ + length (end_of n)
    → length (frame_of P) ≤ N → r₃ + 2 ≤ N
end_room P N r₁ r₂ r₃ n a b c d h = omega (arith, length_end n, frame_room P N h)
