-- Laws of whole frames: their parts, their length, and that a payload's frame is sound.
use mathlib.Core.Path.{◌≡◌, refl, ap, sym, ◌∙◌}
use mathlib.Core.List.{List, [], ◌∷◌, ◌++◌, append_assoc}
use Prim.Native.Nat.{ℕ, suc, ◌+◌, ◌*◌, ◌-◌, ◌≤◌}
use native.Mathlib.Omega.{arith}
use lib.ListN.{length, replicate, length-append, length-replicate}
use lib.Seq.{take_at}
use Rattle.frame.specs.Frame.{esc_seq, start_seq, run_with, four_more, missing, escaped, closed, frame_of, framed, Sound, run_behind}
use Rattle.frame.proofs.Cases.{either}
use Rattle.frame.proofs.Escapes.{escaped_other, escaped_wait, escaped_fourth, escaped_append, escaped_zeros, escaped_nil}

-- the clause of a byte
pub escaped_cons : (r b : ℕ) (p : List ℕ) → escaped r (b ∷ p) ≡ b ∷ (four_more r b ++ escaped (run_with r b) p)
unfolding escaped
escaped_cons r b p = refl

-- an escaped payload has at most two bytes for each of its own
pub escaped_short : (r : ℕ) (p : List ℕ) → r ≤ 3 → length (escaped r p) ≤ 2 * length p + r
escaped_short r [] h = rw (escaped_nil r) (omega arith)
escaped_short r (b ∷ p) h =
    either b 0x1b
    (λ e. either r 3
    (λ f. rw (e, f, escaped_fourth p) (omega (arith, escaped_short 0 p (omega arith))))
    (λ n. rw (e, escaped_wait r p n) (omega (arith, escaped_short (suc r) p (omega arith)))))
    (λ n. rw (escaped_other r b p n) (omega (arith, escaped_short 0 p (omega arith))))

-- a frame is its start, its escaped payload, its end, and the CRC over these
pub frame_parts : (P : List ℕ) → frame_of P ≡ closed (start_seq ++ escaped 0 P ++ (replicate (missing (length P)) 0x00 ++ esc_seq ++ (0x1a ∷ missing (length P) ∷ [])))
unfolding frame_of
frame_parts P = ap closed (regroup start_seq (escaped 0 P) (replicate (missing (length P)) 0) esc_seq (0x1a ∷ missing (length P) ∷ []))
  where
    regroup : (s e z f t : List ℕ) → s ++ e ++ z ++ f ++ t ≡ s ++ e ++ (z ++ f ++ t)
    regroup s e z f t = simp append_assoc

pub length_closed : (bs : List ℕ) → length (closed bs) ≡ length bs + 2
unfolding closed
length_closed bs = length-append bs _

pub length_frame : (P : List ℕ) → length (frame_of P) ≡ 8 + length (escaped 0 P) + missing (length P) + 8
length_frame P =
    ap length (frame_parts P) ∙ length_closed (start_seq ++ escaped 0 P ++ (replicate (missing (length P)) 0x00 ++ esc_seq ++ (0x1a ∷ missing (length P) ∷ [])))
    ∙ simp (length-append, length-replicate) (omega arith)

-- what encode writes is a sound frame
pub frame_sound : (P : List ℕ) → Sound (frame_of P) P
unfolding frame_of framed
frame_sound P = record {
  D = P ++ zeros;
  p = n;
  whole = ap (λ (l : List ℕ). closed (l ++ esc_seq ++ (0x1a ∷ n ∷ [])))
      (append_assoc start_seq (escaped 0 P) zeros ∙ ap (λ (l : List ℕ). start_seq ++ l) (sym (escaped_append 0 P zeros ∙ rw (escaped_zeros n (run_behind 0 P)))));
  aligned = simp (length-append, length-replicate) (omega arith);
  small = omega arith;
  within = simp (length-append, length-replicate) (omega arith);
  cut = sym (take_at P zeros (length (P ++ zeros) - n) (simp (length-append, length-replicate) (omega arith)));
}
  where
    n : ℕ
    n = missing (length P)

    zeros : List ℕ
    zeros = replicate n 0
