-- A sound frame is decoded.
use mathlib.Core.Path.{◌≡◌, refl, ap, sym, ◌∙◌}
use mathlib.Core.List.{List, [], ◌∷◌, ◌++◌, append_assoc, append-nil, map}
use Prim.Native.Nat.{ℕ, zero, suc, ◌+◌, ◌-◌, ◌*◌, ◌%◌, ◌/◌, ◌≤◌, ◌<◌}
use native.Mathlib.Omega.{arith}
use native.Mathlib.Nat.{mod-add-div}
use lib.ListN.{length, replicate, drop, take, length-append, length-replicate}
use lib.Seq.{take_at, drop-append_seam}
use borrow.Author.Tests.{eq-eqb, le-leb, lt-leb}
use Rattle.crc_x25.specs.Crc.{register, final_xor, crc_of}
use Rattle.crc_x25.proofs.Laws.{register_append, crc_is}
use Rattle.frame.specs.Frame.{Sound, missing, esc_seq, start_seq, escaped, closed, framed, frame_of, run_behind, same}
use Rattle.decoder.specs.Push.{Mem, State, body, escape, done, silent, pays_out, Out, begun, says, put, tick, opened, store, judge, finish, computed, step, noticed, fresh, memory}
use Rattle.decoder.specs.Record.{DecoderAnswer, nothing, payload, numbered}
use Rattle.decoder.specs.Run as R
use Rattle.decoder.specs.Run.{Op}
use Rattle.decoder.proofs.States.{run_state, act_state, answer_state}
use Rattle.decoder.specs.declared.Setup.{Setup}
use Rattle.marks.specs.Decoders.{frame_says}
use Rattle.frame.proofs.Escapes.{swap_esc_seq, run_le, escaped_append, escaped_zeros}
use Rattle.since.proofs.Rules.{Silent, stop, silent_on, and_then, step_judge, silent_run, nothings}
use Rattle.since.proofs.Starts.{Starts}
use Rattle.since.proofs.Inside.{InsideFrame, begins}
use Rattle.since.proofs.Feeds.{Fed, feed, puts, reads_back, puts_is}
use Rattle.since.proofs.Lists.{computed_is, trimmed}

-- ---- the end sequence

-- the four last bytes are a right end sequence behind the data D
module _ (m : Mem) (D : List ℕ) (p y z : ℕ) (has : m.stored ≡ D ++ 0x1a ∷ p ∷ y ∷ z ∷ []) (right : y + 256 * z ≡ computed m)
    (aligned : length D % 4 ≡ 0) (small : p ≤ 3) (within : p ≤ length D) where
  judge_end : judge m (0x1a ∷ p ∷ y ∷ z ∷ []) ≡ says (done (take (length D - p) D)) (pays_out (take (length D - p) D))
  unfolding judge finish same
  judge_end =
      let long : length m.stored ≡ length D + 4 = simp length-append at (ap length has) in
      rw (eq-eqb (y + 256 * z) (computed m) right, eq-eqb (length m.stored % 4) 0 (omega arith), le-leb p 3 small, le-leb (p + 4) (length m.stored) (omega arith), trimmed m.stored D (0x1a ∷ p ∷ y ∷ z ∷ []) p has refl within)

-- the last byte gives the payload P, if there is room for all that the frame needs
pub record Ends (C : Setup) (s : State) (l : List ℕ) (z : ℕ) (P : List ℕ) (need : ℕ) : Type 0 where
  pub s' : State
  pub quietly : Silent C s l s'
  pub last : step C s' z ≡ says (done P) (pays_out P)
  pub full : (C₀ : Setup) → C₀.capacity < need → step C₀ s' z ≡ says fresh memory

module _ (C : Setup) (m : Mem) (D h : List ℕ) (p y z : ℕ) (right : y + 256 * z ≡ final_xor (register 0xffff (h ++ esc_seq ++ 0x1a ∷ p ∷ [])))
    (aligned : length D % 4 ≡ 0) (small : p ≤ 3) (within : p ≤ length D) (fit : length D + 4 ≤ C.capacity) where
  abbrev S : List ℕ
  S = m.stored

  abbrev P : List ℕ
  P = take (length D - p) D

  -- the end of all four cases: m' is m where the escape opened, w are the waiting 1b, now stored
  last_judged : (w : List ℕ) (m' : Mem) → S ++ w ≡ D → register (register (register m.reg (drop m.idx S)) esc_seq) w ≡ register (register 0xffff h) esc_seq
      → m'.stored ≡ S ++ (w ++ 0x1a ∷ p ∷ y ∷ []) → m'.reg ≡ register (register m.reg (drop m.idx S)) esc_seq → m'.idx ≡ length S
      → step C (escape 3 m') z ≡ says (done P) (pays_out P)
  last_judged w m' whole sum has reg idx =
      step_judge C m' (S ++ w) 0x1a p y z (rw (has, append_assoc S)) (rw has (simp length-append (omega (arith, long))))
      ∙ judge_end (put m' (z ∷ [])) D p y z all checked aligned small within
    where
      long : length S + length w ≡ length D
      long = simp length-append at (ap length whole)

      all : m'.stored ++ z ∷ [] ≡ D ++ 0x1a ∷ p ∷ y ∷ z ∷ []
      all = rw (has, ← whole) (simp append_assoc)

      crcs : register m'.reg (drop m'.idx (S ++ (w ++ 0x1a ∷ p ∷ []))) ≡ register 0xffff (h ++ esc_seq ++ 0x1a ∷ p ∷ [])
      crcs = rw (reg, idx, drop-append_seam S (w ++ 0x1a ∷ p ∷ []), register_append _ w, sum, register_append 0xffff (h ++ esc_seq), register_append 0xffff h)

      checked : y + 256 * z ≡ computed (put m' (z ∷ []))
      checked = right ∙ sym (computed_is (put m' (z ∷ [])) (S ++ (w ++ 0x1a ∷ p ∷ [])) y z (rw has (simp append_assoc)) ∙ ap final_xor crcs)

  last_full : (w : List ℕ) (m' : Mem) → S ++ w ≡ D → m'.stored ≡ S ++ (w ++ 0x1a ∷ p ∷ y ∷ []) → (C₀ : Setup) → C₀.capacity < length D + 4
      → step C₀ (escape 3 m') z ≡ says fresh memory
  unfolding step store
  last_full w m' whole has C₀ small' =
      let long : length S + length w ≡ length D = simp length-append at (ap length whole) in
      let all : length m'.stored ≡ length D + 3 = ap length has ∙ simp length-append (omega arith) in
      rw (lt-leb (length m'.stored + 1) C₀.capacity (omega arith))

  -- the CRC counts the escape's 1b and the waiting restart, in either order
  swapped : (a : ℕ) → InsideFrame a m D h → register (register (register m.reg (drop m.idx S)) esc_seq) (replicate a 0x1b) ≡ register (register 0xffff h) esc_seq
  swapped a c =
      sym (register_append (register m.reg (drop m.idx S)) esc_seq (replicate a 0x1b)) ∙ ap (register (register m.reg (drop m.idx S))) (sym (swap_esc_seq a))
      ∙ register_append (register m.reg (drop m.idx S)) (replicate a 0x1b) esc_seq ∙ ap (λ (x : ℕ). register x esc_seq) c.sum

  -- where the escape has opened: m₀ is m, its four 1b counted
  abbrev Open : Mem → Type 0
  Open m₀ = (m₀.stored ≡ S) × (m₀.reg ≡ register (register m.reg (drop m.idx S)) esc_seq) × (m₀.idx ≡ length S)

  end_0 : InsideFrame 0 m D h → Ends C (body 0 m) (esc_seq ++ 0x1a ∷ p ∷ y ∷ []) z P (length D + 4)
  unfolding step puts
  end_0 c =
      let long : length S ≡ length D = ap length (sym (append-nil S) ∙ c.data') in
      let m₀ : Mem = opened (tick (tick (tick m))) in
      record {
        s' = escape 3 (puts m₀ (0x1a ∷ p ∷ y ∷ []));
        quietly = silent_on refl (silent_on refl (silent_on refl (silent_on refl (reads_back C (0x1a ∷ p ∷ y ∷ []) m₀ 0 3 refl (omega arith) (omega arith)))));
        last = last_judged [] (puts m₀ (0x1a ∷ p ∷ y ∷ [])) c.data' (swapped 0 c) (simp append_assoc) refl refl;
        full = last_full [] (puts m₀ (0x1a ∷ p ∷ y ∷ [])) c.data' (simp append_assoc);
      }

  -- where a 1b waited, the escape opens early. The first four bytes behind it are w₁ to w₄, and `shift` is what the judge makes of them
  module _ (a w₁ w₂ w₃ w₄ : ℕ) (rest : List ℕ) (m₀ : Mem) (o : Open m₀) (tail : replicate a 0x1b ++ 0x1a ∷ p ∷ y ∷ [] ≡ w₁ ∷ w₂ ∷ w₃ ∷ w₄ ∷ rest) (few : suc (length rest) ≡ a) (le : a ≤ 3)
      (shift : (q : Mem) → missing (length q.stored) ≡ a → judge q (w₁ ∷ w₂ ∷ w₃ ∷ w₄ ∷ []) ≡ says (escape (4 - a) q) silent) where
    end_early : (l : List ℕ) → Silent C (body a m) l (escape 0 m₀) → InsideFrame a m D h → Ends C (body a m) (l ++ w₁ ∷ w₂ ∷ w₃ ∷ w₄ ∷ rest) z P (length D + 4)
    unfolding puts
    end_early l opening c =
        let long : length S + a ≡ length D = simp (length-append, length-replicate) at (ap length c.data') in
        let m₃ : Mem = puts m₀ (w₁ ∷ w₂ ∷ w₃ ∷ []) in
        let m₄ : Mem = put m₃ (w₄ ∷ []) in
        let has₃ : m₃.stored ≡ S ++ w₁ ∷ w₂ ∷ w₃ ∷ [] = rw o.0 (simp append_assoc) in
        let has₄ : m₄.stored ≡ S ++ w₁ ∷ w₂ ∷ w₃ ∷ w₄ ∷ [] = rw o.0 (simp append_assoc) in
        let n₀ : length m₀.stored ≡ length S = ap length o.0 in
        let n₃ : length m₃.stored ≡ length S + 3 = ap length has₃ ∙ simp length-append in
        let n₄ : length m₄.stored ≡ length S + 4 = ap length has₄ ∙ simp length-append in
        let q : ((puts m₄ rest).stored ≡ m₄.stored ++ rest) × ((puts m₄ rest).reg ≡ m₄.reg) × ((puts m₄ rest).idx ≡ m₄.idx) = puts_is rest m₄ in
        record {
          s' = escape 3 (puts m₄ rest);
          quietly = and_then opening (and_then (reads_back C (w₁ ∷ w₂ ∷ w₃ ∷ []) m₀ 0 3 refl (omega arith) (omega arith))
              (silent_on (step_judge C m₃ S w₁ w₂ w₃ w₄ has₃ (omega arith) ∙ shift m₄ (omega arith)) (reads_back C rest m₄ (4 - a) 3 (omega arith) (omega arith) (omega arith))));
          last = last_judged (replicate a 0x1b) (puts m₄ rest) c.data' (swapped a c) (q.0 ∙ rw (has₄, append_assoc S, tail)) (q.1 ∙ o.1) (q.2 ∙ o.2);
          full = last_full (replicate a 0x1b) (puts m₄ rest) c.data' (q.0 ∙ rw (has₄, append_assoc S, tail));
        }

  ending : (r : ℕ) → r ≤ 3 → InsideFrame r m D h → Ends C (body r m) (esc_seq ++ 0x1a ∷ p ∷ y ∷ []) z P (length D + 4)
  unfolding step judge same
  ending zero le c = end_0 c
  ending (suc zero) le c = end_early 1 0x1b 0x1a p y [] (opened (tick (tick m))) (refl, refl, refl) refl refl le (λ q e. rw e) (0x1b ∷ 0x1b ∷ 0x1b ∷ []) (silent_on refl (silent_on refl (silent_on refl stop))) c
  ending (suc (suc zero)) le c = end_early 2 0x1b 0x1b 0x1a p (y ∷ []) (opened (tick m)) (refl, refl, refl) refl refl le (λ q e. rw e) (0x1b ∷ 0x1b ∷ []) (silent_on refl (silent_on refl stop)) c
  ending (suc (suc (suc zero))) le c = end_early 3 0x1b 0x1b 0x1b 0x1a (p ∷ y ∷ []) (opened m) (refl, refl, refl) refl refl le (λ q e. rw e) (0x1b ∷ []) (silent_on refl stop) c
  ending (suc (suc (suc (suc n)))) le c = absurd (omega arith)

-- ---- the theorem

-- a frame, pushed byte by byte in a state
pub record Decodes (C : Setup) (s : State) (noise : ℕ) (f P : List ℕ) : Type 0 where
  pub answers' : (os : List Op) → run_state C s (map R.push f ++ os) ≡ frame_says (numbered (noticed noise)) f P ++ run_state C (done P) os

pub quiet_replicate : (l : List ℕ) → nothings l ≡ replicate (length l) nothing
quiet_replicate [] = refl
quiet_replicate (x ∷ l) = ap (λ (k : List DecoderAnswer). nothing ∷ k) (quiet_replicate l)

map-append : (a b : List ℕ) (os : List Op) → map R.push (a ++ b) ++ os ≡ map R.push a ++ (map R.push b ++ os)
map-append [] b os = refl
map-append (x ∷ a) b os = ap (λ (l : List Op). R.push x ∷ l) (map-append a b os)

module _ (C : Setup) (s : State) (noise : ℕ) (finds : Starts C s noise) (l : List ℕ) (z : ℕ) (P : List ℕ) (need : ℕ) (t : Ends C begun l z P need) (os : List Op) where
  ends_run : run_state C begun (map R.push (l ++ z ∷ []) ++ os) ≡ nothings l ++ payload P ∷ run_state C (done P) os
  unfolding run_state act_state answer_state
  ends_run = ap (run_state C begun) (map-append l (z ∷ []) os) ∙ silent_run t.quietly (R.push z ∷ os)
      ∙ ap (λ (o : Out). nothings l ++ numbered o.event ∷ run_state C o.state os) t.last

  says_all_lem : run_state C s (map R.push (start_seq ++ (l ++ z ∷ [])) ++ os) ≡ frame_says (numbered (noticed noise)) (start_seq ++ (l ++ z ∷ [])) P ++ run_state C (done P) os
  says_all_lem =
      finds.leads (l ++ z ∷ []) os
      ∙ ap (λ (k : List DecoderAnswer). replicate 7 nothing ++ numbered (noticed noise) ∷ k)
      (ends_run ∙ ap (λ (k : List DecoderAnswer). k ++ payload P ∷ run_state C (done P) os) (quiet_replicate l ∙ ap (λ (n : ℕ). replicate n nothing) long)
      ∙ sym (append_assoc (replicate (length (start_seq ++ (l ++ z ∷ [])) - 9) nothing) (payload P ∷ []) (run_state C (done P) os)))
    where
      long : length l ≡ length (start_seq ++ (l ++ z ∷ [])) - 9
      long = simp length-append (omega arith)

regroup : (s e f t u v : List ℕ) → s ++ e ++ f ++ t ++ (u ++ v) ≡ s ++ ((e ++ (f ++ (t ++ u))) ++ v)
regroup s e f t u v = simp append_assoc

-- what a sound frame's bytes are, and where they lead behind the start
pub record Runs (C : Setup) (D : List ℕ) (p : ℕ) (P : List ℕ) : Type 0 where
  pub l : List ℕ
  pub z : ℕ
  pub shape : framed D p ≡ start_seq ++ (l ++ z ∷ [])
  pub ends : Ends C begun l z P (length D + 4)

pub framed_runs : (C : Setup) (D : List ℕ) (p : ℕ) → length D % 4 ≡ 0 → p ≤ 3 → p ≤ length D → length D + 4 ≤ C.capacity → Runs C D p (take (length D - p) D)
unfolding framed closed
framed_runs C D p aligned small within fit = record { l = l; z = z; shape = shape; ends = t }
  where
    P : List ℕ
    P = take (length D - p) D

    x : ℕ
    x = crc_of (start_seq ++ escaped 0 D ++ esc_seq ++ (0x1a ∷ p ∷ []))

    z : ℕ
    z = x / 256

    l : List ℕ
    l = escaped 0 D ++ (esc_seq ++ 0x1a ∷ p ∷ x % 256 ∷ [])

    shape : framed D p ≡ start_seq ++ (l ++ z ∷ [])
    shape = regroup start_seq (escaped 0 D) esc_seq (0x1a ∷ p ∷ []) (x % 256 ∷ []) (z ∷ [])

    fed : Fed C 0 (record { stored = []; reg = register 0xffff start_seq; idx = 0; raw = 8 }) [] start_seq D (escaped 0 D) (run_behind 0 D)
    fed = feed C D 0 _ [] start_seq (omega arith) begins (omega arith)

    e : Ends C (body (run_behind 0 D) fed.m') (esc_seq ++ 0x1a ∷ p ∷ x % 256 ∷ []) z P (length D + 4)
    e = ending C fed.m' D (start_seq ++ escaped 0 D) p (x % 256) z (mod-add-div x 256 ∙ crc_is _) aligned small within fit (run_behind 0 D) (run_le 0 D (omega arith)) fed.inside

    t : Ends C begun l z P (length D + 4)
    t = record { s' = e.s'; quietly = and_then fed.quietly e.quietly; last = e.last; full = e.full }

pub sound_decodes : (C : Setup) (s : State) (noise : ℕ) → Starts C s noise → (f P : List ℕ) (t : Sound f P) → length t.D + 4 ≤ C.capacity → Decodes C s noise f P
sound_decodes C s noise finds f P t fit =
    let r = framed_runs C t.D t.p t.aligned t.small t.within fit in
    rw (t.whole ∙ r.shape, t.cut) (record { answers' = says_all_lem C s noise finds r.l r.z (take (length t.D - t.p) t.D) _ r.ends })

-- what encode writes, as a frame of the padded payload
frame_framed : (P : List ℕ) → frame_of P ≡ framed (P ++ replicate (missing (length P)) 0) (missing (length P))
unfolding frame_of framed
frame_framed P =
    let n = missing (length P) in
    ap (λ (l : List ℕ). closed (l ++ esc_seq ++ (0x1a ∷ n ∷ [])))
    (append_assoc start_seq (escaped 0 P) (replicate n 0)
    ∙ ap (λ (l : List ℕ). start_seq ++ l) (sym (escaped_append 0 P (replicate n 0) ∙ rw (escaped_zeros n (run_behind 0 P)))))

pub round_trip : (C : Setup) (s : State) (noise : ℕ) → Starts C s noise → (P : List ℕ) → length P + missing (length P) + 4 ≤ C.capacity → Decodes C s noise (frame_of P) P
round_trip C s noise finds P fit = sound_decodes C s noise finds (frame_of P) P padded (simp (length-append, length-replicate) fit)
  where
    n : ℕ
    n = missing (length P)

    zeros : List ℕ
    zeros = replicate n 0

    padded : Sound (frame_of P) P
    padded =
        record {
          D = P ++ zeros;
          p = n;
          whole = frame_framed P;
          aligned = simp (length-append, length-replicate) (omega arith);
          small = omega arith;
          within = simp (length-append, length-replicate) (omega arith);
          cut = sym (take_at P zeros (length (P ++ zeros) - n) (simp (length-append, length-replicate) (omega arith)));
        }
