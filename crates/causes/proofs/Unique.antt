-- Lists cut in two, and that a frame's data is determined by its bytes.
use mathlib.Core.Path.{◌≡◌, refl, ap, sym, ◌∙◌}
use mathlib.Core.List.{List, [], ◌∷◌, ◌++◌, append_assoc}
use Prim.Native.Nat.{ℕ, suc, ◌+◌}
use native.Mathlib.Omega.{arith}
use lib.ListN.{length, drop, take, get_or, length-append}
use lib.Seq.{take-append_seam, drop-append_seam}
use Rattle.frame.specs.Frame.{start_seq, esc_seq, escaped, four_more, run_with}
use Rattle.since.specs.Since.{frame_head}

-- ---- lists

pub same_back : (a b c d : List ℕ) → a ++ c ≡ b ++ d → length c ≡ length d → (a ≡ b) × (c ≡ d)
same_back a b c d e l =
    let m : length a + length c ≡ length b + length d = sym (length-append a c) ∙ ap length e ∙ length-append b d in
    let n : length a ≡ length b = omega arith in (
      sym (take-append_seam a c) ∙ ap (take (length a)) e ∙ rw n (take-append_seam b d),
      sym (drop-append_seam a c) ∙ ap (drop (length a)) e ∙ rw n (drop-append_seam b d),
    )

pub front_same : (a b c d : List ℕ) → a ++ c ≡ b ++ d → length a ≡ length b → (a ≡ b) × (c ≡ d)
front_same a b c d e n = (
  sym (take-append_seam a c) ∙ ap (take (length a)) e ∙ rw n (take-append_seam b d),
  sym (drop-append_seam a c) ∙ ap (drop (length a)) e ∙ rw n (drop-append_seam b d),
)

cancel_front : (a b c : List ℕ) → a ++ b ≡ a ++ c → b ≡ c
cancel_front a b c e = sym (drop-append_seam a b) ∙ ap (drop (length a)) e ∙ drop-append_seam a c

-- all but the last byte of a start behind w
pub all_but_last : (h w : List ℕ) (b : ℕ) → h ++ b ∷ [] ≡ w ++ start_seq → h ≡ w ++ take 7 start_seq
all_but_last h w b e = (same_back h (w ++ take 7 start_seq) (b ∷ []) (0x01 ∷ []) (e ∙ sym (append_assoc w (take 7 start_seq) (0x01 ∷ []))) refl).0

-- ---- a frame's data by its bytes

escaped_inj : (n : ℕ) (a b : List ℕ) → escaped n a ≡ escaped n b → a ≡ b
unfolding escaped
escaped_inj n [] [] e = refl
escaped_inj n [] (y ∷ b) e = absurd (let z : ◌≡◌ {A = ℕ} 0 (suc (length (four_more n y ++ escaped (run_with n y) b))) = ap length e in omega arith)
escaped_inj n (x ∷ a) [] e = absurd (let z : ◌≡◌ {A = ℕ} (suc (length (four_more n x ++ escaped (run_with n x) a))) 0 = ap length e in omega arith)
escaped_inj n (x ∷ a) (y ∷ b) e =
    let first : x ≡ y = ap (λ (l : List ℕ). get_or l 0 0) e in
    let more : four_more n x ++ escaped (run_with n x) a ≡ four_more n y ++ escaped (run_with n y) b = ap (drop 1) e in
    let rest : a ≡ b = escaped_inj (run_with n x) a b (cancel_front (four_more n x) _ _ (rw (← first) at more)) in
    cc

pub head_inj : (a b : List ℕ) → frame_head a ≡ frame_head b → a ≡ b
unfolding frame_head
head_inj a b e = escaped_inj 0 a b (ap (drop 8) e)

-- data and the four bytes behind an escape
pub four_one : (D E p q : List ℕ) → frame_head D ++ esc_seq ++ p ≡ frame_head E ++ esc_seq ++ q → length p ≡ length q → (D ≡ E) × (p ≡ q)
four_one D E p q e n =
    let k = same_back (frame_head D ++ esc_seq) (frame_head E ++ esc_seq) p q e n in
    (head_inj D E (same_back (frame_head D) (frame_head E) esc_seq esc_seq k.0 refl).0, k.1)
