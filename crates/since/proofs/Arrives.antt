-- A frame's bytes up to what stands behind an escape lead, from where the frame begins, to the decoder that has read them.
use mathlib.Core.Path.{◌≡◌, refl, ap, sym, ◌∙◌, subst}
use mathlib.Core.List.{List, [], ◌∷◌, ◌++◌, append_assoc, append-nil}
use Prim.Native.Nat.{ℕ, zero, suc, ◌+◌, ◌-◌, ◌%◌, ◌≤◌}
use native.Mathlib.Omega.{arith}
use lib.ListN.{length, replicate, length-append, length-replicate}
use Rattle.frame.specs.Frame.{esc_seq, missing, escaped, run_behind, same, start_seq}
use Rattle.frame.proofs.Escapes.{run_le}
use Rattle.decoder.specs.Push.{Mem, State, body, escape, silent, says, begun, tick, opened, put, step, judge}
use Rattle.decoder.specs.declared.Setup.{Setup}
use Rattle.since.specs.Exactly.{OpensExactly, tidy_exactly, early_end_exactly}
use Rattle.since.proofs.Rules.{Silent, stop, silent_on, and_then, step_judge}
use Rattle.since.proofs.Inside.{begins}
use Rattle.since.proofs.Feeds.{feed, puts, reads_back, puts_is}

-- ---- the data

-- behind the data D, r 1b of which wait
pub record BehindData (C : Setup) (D : List ℕ) (r : ℕ) : Type 0 where
  pub m : Mem
  pub quietly : Silent C begun (escaped 0 D) (body r m)
  pub has : m.stored ++ replicate r 0x1b ≡ D

pub behind_data : (C : Setup) (D : List ℕ) → length D ≤ C.capacity → BehindData C D (run_behind 0 D)
behind_data C D fit =
    let f = feed C D 0 _ [] start_seq (omega arith) begins (omega arith) in
    record { m = f.m'; quietly = f.quietly; has = f.inside.data' }

-- data that leaves none waiting
pub record StoredData (C : Setup) (D : List ℕ) : Type 0 where
  pub m : Mem
  pub quietly : Silent C begun (escaped 0 D) (body 0 m)
  pub has : m.stored ≡ D

pub stored_data : (C : Setup) (D : List ℕ) → run_behind 0 D ≡ 0 → length D ≤ C.capacity → StoredData C D
stored_data C D clean fit =
    let b : BehindData C D 0 = rw clean at (behind_data C D fit) in
    record { m = b.m; quietly = b.quietly; has = sym (append-nil b.m.stored) ∙ b.has }

-- and up to three more, which wait
pub record Waits (C : Setup) (m : Mem) (r : ℕ) : Type 0 where
  pub m' : Mem
  pub quietly : Silent C (body 0 m) (replicate r 0x1b) (body r m')
  pub has : m'.stored ≡ m.stored

pub waits_for : (C : Setup) (m : Mem) (r : ℕ) → r ≤ 3 → Waits C m r
unfolding step
waits_for C m zero le = record { m' = m; quietly = stop; has = refl }
waits_for C m (suc zero) le = record { m' = tick m; quietly = silent_on refl stop; has = refl }
waits_for C m (suc (suc zero)) le = record { m' = tick (tick m); quietly = silent_on refl (silent_on refl stop); has = refl }
waits_for C m (suc (suc (suc zero))) le = record { m' = tick (tick (tick m)); quietly = silent_on refl (silent_on refl (silent_on refl stop)); has = refl }
waits_for C m (suc (suc (suc (suc n)))) le = absurd (omega arith)

-- ---- behind an escape

-- up to three bytes l behind it, all stored
pub record ArrivesAt (C : Setup) (s : State) (bytes D l : List ℕ) : Type 0 where
  pub k : ℕ
  pub m : Mem
  pub quietly : Silent C s bytes (escape k m)
  pub has : m.stored ≡ D ++ l
  pub three : length l ≡ 3 → k ≡ 3

-- where none waits
from_tidy : (C : Setup) (m : Mem) (l : List ℕ) → length l ≤ 3 → length m.stored + length l ≤ C.capacity → ArrivesAt C (body 0 m) (esc_seq ++ l) m.stored l
unfolding step
from_tidy C m l few fit =
    let m₀ : Mem = opened (tick (tick (tick m))) in
    let q = puts_is l m₀ in
    record {
      k = length l;
      m = puts m₀ l;
      quietly = silent_on refl (silent_on refl (silent_on refl (silent_on refl (reads_back C l m₀ 0 (length l) (omega arith) few fit))));
      has = q.0;
      three = λ e. e;
    }

-- where a 1b waited, the escape opens early, and an end sequence is known by its fourth byte
module _ (C : Setup) (m₀ : Mem) (a : ℕ) (l : List ℕ) (few : length l ≤ 3) (le : a ≤ 3) (aligned : (length m₀.stored + a) % 4 ≡ 0)
    (fit : length m₀.stored + a + length l ≤ C.capacity) where
  abbrev S : List ℕ
  S = m₀.stored

  abbrev ones : List ℕ
  ones = replicate a 0x1b

  -- fewer than four are read
  from_few : a + length l ≤ 3 → ArrivesAt C (escape 0 m₀) (ones ++ l) (S ++ ones) l
  from_few short =
      let n : length (ones ++ l) ≡ a + length l = simp (length-append, length-replicate) in
      let q = puts_is (ones ++ l) m₀ in
      record {
        k = a + length l;
        m = puts m₀ (ones ++ l);
        quietly = reads_back C (ones ++ l) m₀ 0 (a + length l) (omega arith) (omega arith) (omega arith);
        has = q.0 ∙ sym (append_assoc S ones l);
        three = λ e. omega arith;
      }

  -- four and some more
  from_four : (w x y z : ℕ) (rest : List ℕ) → ones ++ l ≡ w ∷ x ∷ y ∷ z ∷ rest
      → ((q : Mem) → missing (length q.stored) ≡ a → judge q (w ∷ x ∷ y ∷ z ∷ []) ≡ says (escape (4 - a) q) silent) → ArrivesAt C (escape 0 m₀) (ones ++ l) (S ++ ones) l
  unfolding puts
  from_four w x y z rest tail shift =
      let n : a + length l ≡ suc (suc (suc (suc (length rest)))) = simp (length-append, length-replicate) at (ap length tail) in
      let m₃ : Mem = puts m₀ (w ∷ x ∷ y ∷ []) in
      let m₄ : Mem = put m₃ (z ∷ []) in
      let has₃ : m₃.stored ≡ S ++ w ∷ x ∷ y ∷ [] = simp append_assoc in
      let has₄ : m₄.stored ≡ S ++ w ∷ x ∷ y ∷ z ∷ [] = simp append_assoc in
      let n₃ : length m₃.stored ≡ length S + 3 = ap length has₃ ∙ simp length-append in
      let n₄ : length m₄.stored ≡ length S + 4 = ap length has₄ ∙ simp length-append in
      let q = puts_is rest m₄ in
      record {
        k = length l;
        m = puts m₄ rest;
        quietly = subst (λ (t : List ℕ). Silent C (escape 0 m₀) t (escape (length l) (puts m₄ rest))) (sym tail)
            (and_then (reads_back C (w ∷ x ∷ y ∷ []) m₀ 0 3 refl (omega arith) (omega arith))
            (silent_on (step_judge C m₃ S w x y z has₃ (omega arith) ∙ shift m₄ (omega arith)) (reads_back C rest m₄ (4 - a) (length l) (omega arith) few (omega arith))));
        has = q.0 ∙ rw has₄ (append_assoc S (w ∷ x ∷ y ∷ z ∷ []) rest) ∙ ap (λ (t : List ℕ). S ++ t) (sym tail) ∙ sym (append_assoc S ones l);
        three = λ e. e;
      }

-- l begins with 1a
from_end : (C : Setup) (m₀ : Mem) (a : ℕ) (k : List ℕ) → length (0x1a ∷ k) ≤ 3 → a ≤ 3 → (length m₀.stored + a) % 4 ≡ 0 → length m₀.stored + a + length (0x1a ∷ k) ≤ C.capacity
    → ArrivesAt C (escape 0 m₀) (replicate a 0x1b ++ (0x1a ∷ k)) (m₀.stored ++ replicate a 0x1b) (0x1a ∷ k)
unfolding judge same
from_end C m₀ (suc (suc (suc (suc n)))) k few le al fit = absurd (omega arith)
from_end C m₀ zero k few le al fit = from_few C m₀ 0 (0x1a ∷ k) few le al fit (omega arith)
from_end C m₀ (suc zero) [] few le al fit = from_few C m₀ 1 (0x1a ∷ []) few le al fit (omega arith)
from_end C m₀ (suc zero) (x ∷ []) few le al fit = from_few C m₀ 1 (0x1a ∷ x ∷ []) few le al fit (omega arith)
from_end C m₀ (suc zero) (x ∷ y ∷ k) few le al fit = from_four C m₀ 1 (0x1a ∷ x ∷ y ∷ k) few le al fit 0x1b 0x1a x y k refl (λ q e. rw e)
from_end C m₀ (suc (suc zero)) [] few le al fit = from_few C m₀ 2 (0x1a ∷ []) few le al fit (omega arith)
from_end C m₀ (suc (suc zero)) (x ∷ k) few le al fit = from_four C m₀ 2 (0x1a ∷ x ∷ k) few le al fit 0x1b 0x1b 0x1a x k refl (λ q e. rw e)
from_end C m₀ (suc (suc (suc zero))) k few le al fit = from_four C m₀ 3 (0x1a ∷ k) few le al fit 0x1b 0x1b 0x1b 0x1a k refl (λ q e. rw e)

-- the escape opens: of its four 1b and the a that waited the first four open it
record OpensEarly (C : Setup) (a : ℕ) (m : Mem) : Type 0 where
  m₀ : Mem
  first : List ℕ
  quietly : Silent C (body a m) first (escape 0 m₀)
  has : m₀.stored ≡ m.stored
  turns : esc_seq ≡ first ++ replicate a 0x1b

opens_early : (C : Setup) (a : ℕ) (m : Mem) → a ≤ 3 → OpensEarly C a m
unfolding step
opens_early C zero m le = record { m₀ = opened (tick (tick (tick m))); first = esc_seq; quietly = silent_on refl (silent_on refl (silent_on refl (silent_on refl stop))); has = refl; turns = refl }
opens_early C (suc zero) m le = record { m₀ = opened (tick (tick m)); first = 0x1b ∷ 0x1b ∷ 0x1b ∷ []; quietly = silent_on refl (silent_on refl (silent_on refl stop)); has = refl; turns = refl }
opens_early C (suc (suc zero)) m le = record { m₀ = opened (tick m); first = 0x1b ∷ 0x1b ∷ []; quietly = silent_on refl (silent_on refl stop); has = refl; turns = refl }
opens_early C (suc (suc (suc zero))) m le = record { m₀ = opened m; first = 0x1b ∷ []; quietly = silent_on refl stop; has = refl; turns = refl }
opens_early C (suc (suc (suc (suc n)))) m le = absurd (omega arith)

from_early : (C : Setup) (m : Mem) (a : ℕ) (k : List ℕ) → length (0x1a ∷ k) ≤ 3 → a ≤ 3 → (length m.stored + a) % 4 ≡ 0 → length m.stored + a + length (0x1a ∷ k) ≤ C.capacity
    → ArrivesAt C (body a m) (esc_seq ++ (0x1a ∷ k)) (m.stored ++ replicate a 0x1b) (0x1a ∷ k)
from_early C m a k few le al fit =
    let o = opens_early C a m le in
    let n : length o.m₀.stored ≡ length m.stored = ap length o.has in
    let r = from_end C o.m₀ a k few le (rw n al) (rw n fit) in
    record {
      k = r.k;
      m = r.m;
      quietly = subst (λ (t : List ℕ). Silent C (body a m) t (escape r.k r.m)) (sym (ap (λ (t : List ℕ). t ++ (0x1a ∷ k)) o.turns ∙ append_assoc o.first (replicate a 0x1b) (0x1a ∷ k))) (and_then o.quietly r.quietly);
      has = r.has ∙ ap (λ (t : List ℕ). t ++ replicate a 0x1b ++ (0x1a ∷ k)) o.has;
      three = r.three;
    }

-- from where the frame begins
pub arrives_at : (C : Setup) (D l : List ℕ) → OpensExactly D l → length l ≤ 3 → length D + length l ≤ C.capacity → ArrivesAt C begun (escaped 0 D ++ (esc_seq ++ l)) D l
arrives_at C D l (tidy_exactly clean) few fit =
    let s = stored_data C D clean (omega arith) in
    let n : length s.m.stored ≡ length D = ap length s.has in
    let r = from_tidy C s.m l few (omega arith) in
    record { k = r.k; m = r.m; quietly = and_then s.quietly r.quietly; has = r.has ∙ rw s.has; three = r.three }
arrives_at C D l (early_end_exactly k al e) few fit =
    let b = behind_data C D (omega arith) in
    let a : ℕ = run_behind 0 D in
    let n : length b.m.stored + a ≡ length D = simp (length-append, length-replicate) at (ap length b.has) in
    let r = from_early C b.m a k (rw e at few) (run_le 0 D (omega arith)) (rw n al) (rw n (rw e at fit)) in
    rw e (record { k = r.k; m = r.m; quietly = and_then b.quietly r.quietly; has = r.has ∙ rw b.has; three = r.three })

-- and with no byte behind the escape, whatever waited
pub arrives_open : (C : Setup) (D : List ℕ) → length D ≤ C.capacity → ArrivesAt C begun (escaped 0 D ++ esc_seq) D []
arrives_open C D fit =
    let b = behind_data C D fit in
    let a : ℕ = run_behind 0 D in
    let n : length b.m.stored + a ≡ length D = simp (length-append, length-replicate) at (ap length b.has) in
    let o = opens_early C a b.m (run_le 0 D (omega arith)) in
    let n₀ : length o.m₀.stored ≡ length b.m.stored = ap length o.has in
    let q = puts_is (replicate a 0x1b) o.m₀ in
    let ones : Silent C (escape 0 o.m₀) (replicate a 0x1b) (escape a (puts o.m₀ (replicate a 0x1b))) =
    reads_back C (replicate a 0x1b) o.m₀ 0 a (simp length-replicate (omega arith)) (run_le 0 D (omega arith)) (simp length-replicate (omega arith)) in
    record {
      k = a;
      m = puts o.m₀ (replicate a 0x1b);
      quietly = and_then b.quietly (subst (λ (t : List ℕ). Silent C (body a b.m) t (escape a (puts o.m₀ (replicate a 0x1b)))) (sym o.turns) (and_then o.quietly ones));
      has = q.0 ∙ ap (λ (t : List ℕ). t ++ replicate a 0x1b) o.has ∙ b.has ∙ sym (append-nil D);
      three = λ e. absurd (let z : ◌≡◌ {A = ℕ} 0 3 = e in omega arith);
    }
