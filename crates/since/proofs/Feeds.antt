-- The bytes of a frame, pushed one after another: its data, and those behind an escape.
use mathlib.Core.Path.{◌≡◌, refl, ap, sym, ◌∙◌, subst, subst₂}
use mathlib.Core.List.{List, [], ◌∷◌, ◌++◌, append_assoc, append-nil}
use Prim.Native.Nat.{ℕ, suc, ◌+◌, ◌≤◌}
use native.Mathlib.Omega.{arith}
use lib.ListN.{length, replicate, drop, length-append, length-replicate}
use lib.Seq.{drop-append_seam}
use Rattle.crc_x25.specs.Crc.{register}
use Rattle.crc_x25.proofs.Laws.{register_append, register_none}
use Rattle.frame.specs.Frame.{esc_seq, escaped, run_behind, same}
use Rattle.frame.proofs.Cases.{either}
use Rattle.frame.proofs.Escapes.{escaped_other, run_other, escaped_wait, run_wait}
use Rattle.decoder.specs.Push.{Mem, body, escape, put, opened, judge}
use Rattle.decoder.specs.declared.Setup.{Setup}
use Rattle.since.proofs.Rules.{Silent, stop, silent_on, and_then, step_other, step_wait, step_open, step_read, step_judge}
use Rattle.since.proofs.Inside.{InsideFrame, inside_other, inside_wait}

-- ---- the data

-- a fourth 1b and the four behind it: the four are data
quad : Mem → Mem
quad m = put (put (put (put (opened m) (0x1b ∷ [])) (0x1b ∷ [])) (0x1b ∷ [])) (0x1b ∷ [])

silent_quad : (C : Setup) (m : Mem) → length m.stored + 4 ≤ C.capacity → Silent C (body 3 m) (0x1b ∷ esc_seq) (body 0 (quad m))
unfolding quad judge same
silent_quad C m fit =
    let m₀ : Mem = opened m in
    let m₁ : Mem = put m₀ (0x1b ∷ []) in
    let m₂ : Mem = put m₁ (0x1b ∷ []) in
    let m₃ : Mem = put m₂ (0x1b ∷ []) in
    silent_on (step_open C m)
    (silent_on (step_read C m₀ 0 0x1b (omega arith) (omega arith))
    (silent_on (step_read C m₁ 1 0x1b (omega arith) (simp length-append (omega arith)))
    (silent_on (step_read C m₂ 2 0x1b (omega arith) (simp length-append (omega arith)))
    (silent_on (step_judge C m₃ m.stored 0x1b 0x1b 0x1b 0x1b (simp append_assoc) (simp length-append (omega arith))) stop))))

inside_quad : (m : Mem) (D h : List ℕ) → InsideFrame 3 m D h → InsideFrame 0 (quad m) (D ++ 0x1b ∷ []) (h ++ 0x1b ∷ esc_seq)
unfolding quad
inside_quad m D h c =
    let X : ℕ = register m.reg (drop m.idx m.stored) in
    record {
      data' = rw (← c.data') (simp (append_assoc, append-nil));
      index = simp length-append (omega arith);
      sum = simp (append_assoc, drop-append_seam)
          (register_none _ ∙ sym (register_append X esc_seq esc_seq) ∙ register_append X (replicate 3 0x1b) (0x1b ∷ esc_seq)
          ∙ ap (λ (r : ℕ). register r (0x1b ∷ esc_seq)) c.sum ∙ sym (register_append 0xffff h (0x1b ∷ esc_seq)));
    }

-- the data p, fed as its escaped bytes
pub record Fed (C : Setup) (r : ℕ) (m : Mem) (D h p l : List ℕ) (r' : ℕ) : Type 0 where
  pub m' : Mem
  pub quietly : Silent C (body r m) l (body r' m')
  pub inside : InsideFrame r' m' (D ++ p) (h ++ l)

fed_cons : (C : Setup) (r r₁ : ℕ) (m m₁ : Mem) (D h l p k : List ℕ) (b r' : ℕ) → Silent C (body r m) l (body r₁ m₁)
    → Fed C r₁ m₁ (D ++ b ∷ []) (h ++ l) p k r' → Fed C r m D h (b ∷ p) (l ++ k) r'
fed_cons C r r₁ m m₁ D h l p k b r' q f = record {
  m' = f.m';
  quietly = and_then q f.quietly;
  inside = rw (append_assoc D (b ∷ []) p, append_assoc h l k) at f.inside;
}

pub feed : (C : Setup) (p : List ℕ) (r : ℕ) (m : Mem) (D h : List ℕ) → r ≤ 3 → InsideFrame r m D h → length D + length p ≤ C.capacity → Fed C r m D h p (escaped r p) (run_behind r p)
unfolding escaped run_behind
feed C [] r m D h le c fit = record { m' = m; quietly = stop; inside = rw (append-nil D, append-nil h) c }
feed C (b ∷ p) r m D h le c fit =
    let fit' : (x : ℕ) → length (D ++ x ∷ []) + length p ≤ C.capacity = λ x. simp length-append (omega arith) in
    let big : length m.stored + r ≡ length D = simp (length-append, length-replicate) at (ap length c.data') in
    either b 0x1b
    (λ e. subst (λ (x : ℕ). Fed C r m D h (x ∷ p) (escaped r (x ∷ p)) (run_behind r (x ∷ p))) (sym e)
    (either r 3
    (λ f. subst (λ (k : ℕ). Fed C k m D h (0x1b ∷ p) (escaped k (0x1b ∷ p)) (run_behind k (0x1b ∷ p))) (sym f)
    (fed_cons C 3 0 m (quad m) D h (0x1b ∷ esc_seq) p _ 0x1b _ (silent_quad C m (omega arith))
    (feed C p 0 (quad m) _ _ (omega arith) (inside_quad m D h (rw f at c)) (fit' 0x1b))))
    (λ n. subst₂ (λ (l : List ℕ) (k : ℕ). Fed C r m D h (0x1b ∷ p) l k) (sym (escaped_wait r p n)) (sym (run_wait r p n))
    (fed_cons C r (suc r) m _ D h (0x1b ∷ []) p _ 0x1b _ (silent_on (step_wait C m r n) stop)
    (feed C p (suc r) _ _ _ (omega arith) (inside_wait r m D h c) (fit' 0x1b))))))
    (λ n. subst₂ (λ (l : List ℕ) (k : ℕ). Fed C r m D h (b ∷ p) l k) (sym (escaped_other r b p n)) (sym (run_other r b p n))
    (fed_cons C r 0 m _ D h (b ∷ []) p _ b _ (silent_on (step_other C m r b n (omega arith)) stop)
    (feed C p 0 _ _ _ (omega arith) (inside_other r m D h c b) (fit' b))))

-- ---- behind an escape

-- bytes of an escape, read one after another
unfoldable pub puts : Mem → List ℕ → Mem
puts m [] = m
puts m (b ∷ l) = puts (put m (b ∷ [])) l

pub reads_back : (C : Setup) (l : List ℕ) (m : Mem) (k k' : ℕ) → k + length l ≡ k' → k' ≤ 3 → length m.stored + length l ≤ C.capacity → Silent C (escape k m) l (escape k' (puts m l))
unfolding puts
reads_back C [] m k k' e le fit = subst (λ (n : ℕ). Silent C (escape k m) [] (escape n m)) (let f : k ≡ k' = omega arith in f) stop
reads_back C (b ∷ l) m k k' e le fit =
    silent_on (step_read C m k b (omega arith) (omega arith)) (reads_back C l (put m (b ∷ [])) (suc k) k' (omega arith) le (simp length-append (omega arith)))

pub puts_is : (l : List ℕ) (m : Mem) → ((puts m l).stored ≡ m.stored ++ l) × ((puts m l).reg ≡ m.reg) × ((puts m l).idx ≡ m.idx)
unfolding puts
puts_is [] m = (sym (append-nil m.stored), refl, refl)
puts_is (b ∷ l) m = let q = puts_is l (put m (b ∷ [])) in (q.0 ∙ append_assoc m.stored (b ∷ []) l, q.1, q.2)
