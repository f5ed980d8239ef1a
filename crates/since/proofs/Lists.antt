-- Laws of lists, of a frame's beginning and of the start sequence.
use mathlib.Core.Path.{◌≡◌, refl, ap, sym, ◌∙◌}
use mathlib.Core.Bool.{true, false}
use mathlib.Core.List.{List, [], ◌∷◌, ◌++◌, append_assoc}
use Prim.Native.Nat.{ℕ, zero, suc, ◌-◌, ◌≤◌}
use native.Mathlib.Omega.{arith}
use lib.ListN.{length, replicate, drop, take, length-append}
use lib.Seq.{drop_at, take_at, take-append-le, length-take-le}
use borrow.Author.Tests.{eqb-true}
use Rattle.crc_x25.specs.Crc.{register, final_xor}
use Rattle.frame.specs.Frame.{esc_seq, start_seq, escaped, run_behind}
use Rattle.frame.proofs.Escapes.{swap_esc_seq, escaped_append, run_append, escaped_few, escaped_other, run_other, escaped_nil, run_nil}
use Rattle.decoder.specs.Push.{Mem, starts, computed}
use Rattle.since.specs.Since.{frame_head, Misses, none_passed, miss, AllBytes}

pub last_four : (s S : List ℕ) (w x y z : ℕ) → s ≡ S ++ w ∷ x ∷ y ∷ z ∷ [] → drop (length s - 4) s ≡ w ∷ x ∷ y ∷ z ∷ []
last_four s S w x y z e = rw e (drop_at S (w ∷ x ∷ y ∷ z ∷ []) (length (S ++ w ∷ x ∷ y ∷ z ∷ []) - 4) (simp length-append (omega arith)))

-- the CRC that an end sequence is compared with
pub computed_is : (m : Mem) (S : List ℕ) (y z : ℕ) → m.stored ≡ S ++ y ∷ z ∷ [] → computed m ≡ final_xor (register m.reg (drop m.idx S))
computed_is m S y z e = ap (λ (l : List ℕ). final_xor (register m.reg (drop m.idx l))) front
  where
    front : take (length m.stored - 2) m.stored ≡ S
    front = rw e (take_at S (y ∷ z ∷ []) (length (S ++ y ∷ z ∷ []) - 2) (simp length-append (omega arith)))

-- the payload: the stored bytes without the end sequence and the pad bytes
pub trimmed : (s D t : List ℕ) (p : ℕ) → s ≡ D ++ t → length t ≡ 4 → p ≤ length D → take (length s - 4 - p) s ≡ take (length D - p) D
trimmed s D t p e f h =
    let n : length (D ++ t) - 4 - p ≡ length D - p = simp length-append (omega arith) in
    rw (e, n) (take-append-le (length D - p) D t (omega arith))

pub three : (l : List ℕ) → length l ≡ 3 → (w x y : ℕ) × (l ≡ w ∷ x ∷ y ∷ [])
three [] e = absurd (omega arith)
three (w ∷ []) e = absurd (omega arith)
three (w ∷ x ∷ []) e = absurd (omega arith)
three (w ∷ x ∷ y ∷ []) e = (w, x, y, refl)
three (w ∷ x ∷ y ∷ z ∷ l) e = absurd (omega arith)

pub empty : (l : List ℕ) → length l ≡ 0 → l ≡ []
empty [] e = refl
empty (x ∷ l) e = absurd (omega arith)

pub bytes_back : (a b : List ℕ) → AllBytes (a ++ b) → AllBytes b
bytes_back [] b h = h
bytes_back (x ∷ a) b h = bytes_back a b h.1

-- ---- the start sequence

pub starts_is : (n b : ℕ) → n ≤ 7 → starts n b ≡ true → take n start_seq ++ b ∷ [] ≡ take (suc n) start_seq
starts_is zero b h e = rw (eqb-true b 0x1b e)
starts_is (suc zero) b h e = rw (eqb-true b 0x1b e)
starts_is (suc (suc zero)) b h e = rw (eqb-true b 0x1b e)
starts_is (suc (suc (suc zero))) b h e = rw (eqb-true b 0x1b e)
starts_is (suc (suc (suc (suc zero)))) b h e = rw (eqb-true b 1 e)
starts_is (suc (suc (suc (suc (suc zero))))) b h e = rw (eqb-true b 1 e)
starts_is (suc (suc (suc (suc (suc (suc zero)))))) b h e = rw (eqb-true b 1 e)
starts_is (suc (suc (suc (suc (suc (suc (suc zero))))))) b h e = rw (eqb-true b 1 e)
starts_is (suc (suc (suc (suc (suc (suc (suc (suc n)))))))) b h e = absurd (omega arith)

pub misses_snoc : {x : List ℕ} (n b : ℕ) → n ≤ 7 → starts n b ≡ false → Misses x → Misses (x ++ (take n start_seq ++ b ∷ []))
misses_snoc n b le f none_passed = miss n b le f none_passed
misses_snoc n b le f (miss k c {l} lk g rest) =
    rw (append_assoc (take k start_seq) (c ∷ l) (take n start_seq ++ b ∷ [])) (miss k c lk g (misses_snoc n b le f rest))

pub matched_long : (n : ℕ) → n ≤ 7 → length (take n start_seq) ≡ n
matched_long n le = length-take-le n start_seq (omega arith)

-- ---- a frame's beginning

pub head_none : frame_head [] ≡ start_seq
unfolding frame_head escaped
head_none = refl

-- one to three 1b and another byte are what they are when escaped
pub head_other : (S : List ℕ) (r b : ℕ) → run_behind 0 S ≡ 0 → r ≤ 3 → (b ≡ 0x1b → ⊥) → frame_head (S ++ (replicate r 0x1b ++ b ∷ [])) ≡ frame_head S ++ replicate r 0x1b ++ b ∷ []
unfolding frame_head
head_other S r b clean few ne =
    ap (λ (l : List ℕ). start_seq ++ l) (escaped_append 0 S w ∙ ap (λ (l : List ℕ). escaped 0 S ++ l) same' ∙ sym (append_assoc (escaped 0 S) (replicate r 0x1b) (b ∷ [])))
  where
    w : List ℕ
    w = replicate r 0x1b ++ b ∷ []

    same' : escaped (run_behind 0 S) w ≡ w
    same' = rw (clean, escaped_append 0 (replicate r 0x1b) (b ∷ []), escaped_few r 0 (omega arith), escaped_other (run_behind 0 (replicate r 0x1b)) b [] ne, escaped_nil 0)

pub run_back : (S : List ℕ) (r b : ℕ) → (b ≡ 0x1b → ⊥) → run_behind 0 (S ++ (replicate r 0x1b ++ b ∷ [])) ≡ 0
run_back S r b ne = rw (← append_assoc S, run_append 0 (S ++ replicate r 0x1b), run_other (run_behind 0 (S ++ replicate r 0x1b)) b [] ne, run_nil 0)

pub head_few : (D : List ℕ) (a : ℕ) → run_behind 0 D ≡ 0 → a ≤ 3 → frame_head (D ++ replicate a 0x1b) ≡ frame_head D ++ replicate a 0x1b
unfolding frame_head
head_few D a e le = ap (λ (l : List ℕ). start_seq ++ l) (escaped_append 0 D (replicate a 0x1b) ∙ rw (e, escaped_few a 0 (omega arith)))

pub head_esc_seq : (D : List ℕ) → run_behind 0 D ≡ 0 → frame_head (D ++ esc_seq) ≡ frame_head D ++ esc_seq ++ esc_seq
unfolding frame_head escaped
head_esc_seq D e = ap (λ (l : List ℕ). start_seq ++ l) (escaped_append 0 D esc_seq ∙ rw e (sym (append_assoc (escaped 0 D) esc_seq esc_seq)))

pub head_shift : (D : List ℕ) (a : ℕ) → run_behind 0 D ≡ 0 → a ≤ 3 → frame_head (D ++ replicate a 0x1b) ++ esc_seq ≡ frame_head D ++ esc_seq ++ replicate a 0x1b
head_shift D a e le = rw (head_few D a e le, append_assoc (frame_head D) (replicate a 0x1b) esc_seq, swap_esc_seq a, ← append_assoc (frame_head D))
