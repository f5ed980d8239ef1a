-- Every push keeps what is exactly known of the bytes since the search or frame began, and each event says what it says exactly of them: the same way as in proofs/Kept, with more at an escape and at each refusal.
use mathlib.Core.Path.{◌≡◌, refl, ap, sym, ◌∙◌, subst}
use mathlib.Core.Bool.{false, not}
use mathlib.Core.List.{List, [], ◌∷◌, ◌++◌, append_assoc, append-nil}
use Prim.Native.Nat.{ℕ, zero, suc, ◌+◌, ◌-◌, ◌*◌, ◌%◌, ◌/◌, ◌≤◌, ◌<◌}
use native.Mathlib.Omega.{arith}
use native.Mathlib.Numerals.{add-one}
use lib.ListN.{length, replicate, drop, take, get_or, length-append, length-take, length-replicate}
use lib.Dec.{eqb}
use lib.Seq.{drop-append-le, drop-length, take_at}
use Rattle.crc_x25.specs.Crc.{start, register, final_xor, crc_of}
use Rattle.crc_x25.proofs.Laws.{register_append, register_none, crc_is}
use Rattle.frame.specs.Frame.{esc_seq, restart_seq, start_seq, missing, closed, framed, run_behind}
use Rattle.frame.proofs.Cases.{by_eq, either}
use Rattle.frame.proofs.Escapes.{run_append, replicate_snoc}
use Rattle.search.specs.Search.{most_matched}
use Rattle.search.specs.Found.{NoneWhole}
use Rattle.search.proofs.Matched.{most_ends, most_step, most_nil, none_in_nil, start_matched, start_last}
use Rattle.search.proofs.LastBytes.{last_bytes}
use Rattle.decoder.specs.Push.{first_way, second_way, Mem, State, search, body, escape, done, PushEvent, silent, discarded, pays_out, memory, bad_escape, bad_message, Out, begun, says, put, tick, opened, starts, matched_behind, more_noise, early, computed, misaligned, noticed, fresh, stopped, step}
use Rattle.decoder.specs.Record.{numbered}
use Rattle.decoder.specs.Run.{Op, push, finalize, reset}
use Rattle.decoder.proofs.States.{run_state, state_behind, act_state, answer_state}
use Rattle.decoder.specs.Saw as W
use Rattle.decoder.specs.Saw.{Passed, Saw}
use Rattle.decoder.specs.declared.Setup.{Setup}
use Rattle.decoder.proofs.Saw.{saw}
use Rattle.decoder.proofs.Search.{second_matched, matched_most, matched_more, matched_none, matched_eight, noise_grows}
use Rattle.decoder.proofs.Split.{cases}
use Rattle.since.specs.Bytes.{grown_since, grown_since_op, since_from}
use Rattle.since.specs.Since.{frame_head, Misses, none_passed, InSearch, InBody}
use Rattle.since.specs.Exactly.{OpensExactly, tidy_exactly, early_end_exactly, InEscapeExactly, ReadExactly, none_for_data, none_behind_escape, SaysExactly, goes_on_exactly, start_found_exactly, start_inside_exactly, no_room_exactly, no_escape_exactly, no_message_exactly, frame_ends_exactly}
use Rattle.since.proofs.Lists.{last_four, computed_is, trimmed, three, empty, starts_is, misses_snoc, matched_long, bytes_back, head_none, head_other, run_back, head_esc_seq, head_shift}

pub record KeptExactly (C : Setup) (h : List ℕ) (b : ℕ) (o : Out) : Type 0 where
  pub reads : ReadExactly C (grown_since (numbered o.event) h b) o.state
  pub told : SaysExactly C (h ++ b ∷ []) o.event

longer_since : (h : List ℕ) (b : ℕ) → length (h ++ b ∷ []) ≡ suc (length h)
longer_since h b = simp length-append (omega arith)

-- ---- a search

pub reads_fresh_exactly : (C : Setup) → ReadExactly C [] fresh
reads_fresh_exactly C = record { passed = []; here = refl; most = omega arith; misses = λ w. none_passed; matched = λ w. most_nil; none_whole = λ w. none_in_nil; dropped = refl; long = refl }

reads_begun : (C : Setup) → ReadExactly C start_seq begun
unfolding run_behind
reads_begun C = record { here = rw head_none; few = omega arith; clean = refl; fits = omega arith; long = refl; index = omega arith; sum = rw (register_none, head_none) }

-- a refusal that leaves a fresh search
lost : {C : Setup} {h : List ℕ} {b : ℕ} {e : PushEvent} → grown_since (numbered e) h b ≡ [] → SaysExactly C (h ++ b ∷ []) e → KeptExactly C h b (says fresh e)
lost {C} g t = record { reads = rw g (reads_fresh_exactly C); told = t }

module _ (C : Setup) (h : List ℕ) (b n noise raw : ℕ) (k : InSearch C h n noise raw) where
  -- j are matched behind the byte, and x is what was passed over then
  kept_look : (j : ℕ) (x : List ℕ) → h ++ b ∷ [] ≡ x ++ take j start_seq → j ≤ 7 → j ≤ suc n
      → (C.way ≡ first_way → Misses x) → (C.way ≡ second_way → j ≡ most_matched (h ++ b ∷ [])) → (C.way ≡ second_way → NoneWhole (h ++ b ∷ []))
      → KeptExactly C h b (says (search j (more_noise noise n j) (stopped (suc raw))) silent)
  kept_look j x here most le misses matched none_whole =
      let was : length h ≡ length k.passed + n = ap length k.here ∙ simp (length-append, matched_long n k.most) in
      let is : length (h ++ b ∷ []) ≡ length x + j = ap length here ∙ simp (length-append, matched_long j most) in
      let long : length x ≡ length k.passed + (suc n - j) = omega (arith, is, was, longer_since h b) in
      record {
        reads = record {
          passed = x;
          here = here;
          most = most;
          misses = misses;
          matched = matched;
          none_whole = none_whole;
          dropped = noise_grows noise (length k.passed) n j k.dropped le ∙ ap stopped (sym long);
          long = let i = k.long in rw (longer_since h b) (omega arith);
        };
        told = goes_on_exactly;
      }

  -- in the second way as many are matched as the bytes with b end with
  pub second_most_matched_exactly : C.way ≡ second_way → matched_behind C.way n b ≡ most_matched (h ++ b ∷ [])
  second_most_matched_exactly s = second_matched C.way n b s ∙ ap (λ (i : ℕ). last_bytes i b) (k.matched s) ∙ most_step h b

  kept_second : C.way ≡ second_way → (j : ℕ) → j ≡ matched_behind C.way n b → (j ≡ 8 → ⊥) → KeptExactly C h b (says (search j (more_noise noise n j) (stopped (suc raw))) silent)
  kept_second s j e ne =
      let g : List ℕ = h ++ b ∷ [] in
      let all : j ≡ most_matched g = e ∙ second_most_matched_exactly s in
      let x = most_ends g in
      let le : j ≤ suc n = omega (arith, e, matched_most C.way n b) in
      kept_look j x.before (x.is ∙ rw all) (omega (arith, le, k.most)) le (λ f. absurd (let z = sym f ∙ s in omega arith)) (λ t. all)
      (λ t has. ne (all ∙ start_matched g (start_last h b (k.none_whole s) has)))

  kept_first : (C.way ≡ second_way → ⊥) → (j : ℕ) → j ≡ matched_behind C.way n b → (j ≡ 8 → ⊥) → KeptExactly C h b (says (search j (more_noise noise n j) (stopped (suc raw))) silent)
  kept_first other j e ne =
      let most = k.most in
      cases (starts n b)
      (λ t.
      let m : j ≡ suc n = e ∙ sym (matched_more C.way n b other t) ∙ add-one n in
      kept_look j k.passed (rw (m, k.here, append_assoc, starts_is n b most t)) (omega arith) (omega arith) k.misses (λ s. absurd (other s)) (λ s. absurd (other s)))
      (λ f.
      let m : j ≡ 0 = e ∙ sym (matched_none C.way n b other f) in
      kept_look j (k.passed ++ (take n start_seq ++ b ∷ [])) (rw (m, k.here, append-nil) (append_assoc k.passed (take n start_seq) (b ∷ []))) (omega arith) (omega arith)
      (λ w. misses_snoc n b most f (k.misses w)) (λ s. absurd (other s)) (λ s. absurd (other s)))

  kept_sought : (j : ℕ) → j ≡ matched_behind C.way n b → (j ≡ 8 → ⊥) → KeptExactly C h b (says (search j (more_noise noise n j) (stopped (suc raw))) silent)
  kept_sought j e ne = either C.way second_way (λ s. kept_second s j e ne) (λ other. kept_first other j e ne)

  kept_began : matched_behind C.way n b ≡ 8 → KeptExactly C h b (says begun (noticed noise))
  kept_began eight =
      let (t, e) = matched_eight C.way n b k.most eight in
      let on : h ++ b ∷ [] ≡ k.passed ++ start_seq = rw (k.here, append_assoc, starts_is n b k.most t, e) in
      let before : h ≡ k.passed ++ take 7 start_seq = k.here ∙ rw e in
      by_eq (λ (v : PushEvent). KeptExactly C h b (says begun v)) noise 0 _ _
      (λ z.
      let none' : k.passed ≡ [] = empty k.passed (let i = k.dropped in omega arith) in
      record { reads = rw (on, none') (reads_begun C); told = goes_on_exactly })
      (λ ne. record {
        reads = reads_begun C;
        told = start_found_exactly noise k.passed on k.misses (λ s. subst NoneWhole before (k.none_whole s)) (let i = k.dropped in omega arith) k.dropped;
      })

-- ---- the body

module _ (C : Setup) (h : List ℕ) (b r : ℕ) (m : Mem) (k : InBody C h r m) where
  abbrev S : List ℕ
  S = m.stored

  on : h ++ b ∷ [] ≡ frame_head S ++ replicate r 0x1b ++ b ∷ []
  on = rw k.here

  on_other : (b ≡ 0x1b → ⊥) → h ++ b ∷ [] ≡ frame_head (S ++ (replicate r 0x1b ++ b ∷ []))
  on_other ne = on ∙ sym (head_other S r b k.clean k.few ne)

  kept_opens : b ≡ 0x1b → r ≡ 3 → KeptExactly C h b (says (escape 0 (opened m)) silent)
  kept_opens e f = record {
    reads = record {
      D = S;
      l = [];
      here = on ∙ rw (e, f) (simp (append_assoc, append-nil));
      has = sym (append-nil S);
      count = refl;
      few = omega arith;
      opens = tidy_exactly k.clean;
      fits = k.fits;
      long = let i = k.long in rw (longer_since h b) (omega arith);
      index = omega arith;
      sum = rw (drop-length S, k.sum, register_append start (frame_head S), register_none);
    };
    told = goes_on_exactly;
  }

  kept_waits : b ≡ 0x1b → (r ≡ 3 → ⊥) → KeptExactly C h b (says (body (suc r) (tick m)) silent)
  kept_waits e ne = record {
    reads = record {
      here = on ∙ rw (e, append_assoc (frame_head S), ← replicate_snoc r 0x1b);
      few = let i = k.few in omega arith;
      clean = k.clean;
      fits = k.fits;
      long = let i = k.long in rw (longer_since h b) (omega arith);
      index = k.index;
      sum = k.sum;
    };
    told = goes_on_exactly;
  }

  kept_stores : (b ≡ 0x1b → ⊥) → length S + length (replicate r 0x1b ++ b ∷ []) ≤ C.capacity → KeptExactly C h b (says (body 0 (put m (replicate r 0x1b ++ b ∷ []))) silent)
  kept_stores ne fit = record {
    reads = record {
      here = on_other ne ∙ sym (append-nil _);
      few = omega arith;
      clean = run_back S r b ne;
      fits = rw (length-append S) fit;
      long = let i = k.long in rw (longer_since h b) (omega arith);
      index = let i = k.index in simp length-append (omega arith);
      sum = rw (head_other S r b k.clean k.few ne, append_assoc (frame_head S), register_append start (frame_head S), drop-append-le m.idx S (replicate r 0x1b ++ b ∷ []) k.index, register_append m.reg (drop m.idx S), k.sum);
    };
    told = goes_on_exactly;
  }

  kept_full : (b ≡ 0x1b → ⊥) → C.capacity < length S + length (replicate r 0x1b ++ b ∷ []) → KeptExactly C h b (says fresh memory)
  kept_full ne over = lost refl (no_room_exactly (none_for_data S r b (on_other ne) k.clean k.few ne k.fits (let n : length (replicate r 0x1b ++ b ∷ []) ≡ suc r = simp (length-append, length-replicate) (omega arith) in omega arith)))

-- ---- an escape

framed_is : (D : List ℕ) (x y z : ℕ) → y ≡ crc_of (frame_head D ++ esc_seq ++ 0x1a ∷ x ∷ []) % 256
    → z ≡ crc_of (frame_head D ++ esc_seq ++ 0x1a ∷ x ∷ []) / 256 → frame_head D ++ esc_seq ++ 0x1a ∷ x ∷ y ∷ z ∷ [] ≡ framed D x
unfolding framed closed frame_head
framed_is D x y z q r =
    let X : ℕ = crc_of (frame_head D ++ esc_seq ++ 0x1a ∷ x ∷ []) in
    let e : ◌≡◌ {A = List ℕ} (0x1a ∷ x ∷ y ∷ z ∷ []) (0x1a ∷ x ∷ X % 256 ∷ X / 256 ∷ []) = cc in
    ap (λ (l : List ℕ). frame_head D ++ esc_seq ++ l) e ∙ sym (append_assoc (frame_head D ++ esc_seq) (0x1a ∷ x ∷ []) (X % 256 ∷ X / 256 ∷ []))

-- the four bytes behind an escape are judged
module _ (C : Setup) (h D : List ℕ) (m : Mem) (w x y z : ℕ) (here : h ++ z ∷ [] ≡ frame_head D ++ esc_seq ++ w ∷ x ∷ y ∷ z ∷ [])
    (has : m.stored ≡ D ++ w ∷ x ∷ y ∷ z ∷ []) (opens : OpensExactly D (w ∷ x ∷ y ∷ z ∷ [])) (fits : length m.stored ≤ C.capacity)
    (long : m.raw ≡ stopped (length (h ++ z ∷ []))) (index : m.idx ≤ length D) (sum : register m.reg (drop m.idx D) ≡ register start (frame_head D ++ esc_seq)) where
  abbrev four : List ℕ
  four = w ∷ x ∷ y ∷ z ∷ []

  stored_long : length m.stored ≡ length D + 4
  stored_long = simp length-append at (ap length has)

  -- where the first of the four is no 1a, the data ends no run of 1b
  tidied_by : (w ≡ 0x1a → ⊥) → run_behind 0 D ≡ 0
  tidied_by ne = elim opens [ tidy_exactly f ↦ f | early_end_exactly k al f ↦ absurd (ne (ap (λ (l : List ℕ). get_or l 0 0) f)) ]

  tidied : w ≡ 0x1b → run_behind 0 D ≡ 0
  tidied e = tidied_by (λ z. omega arith)

  kept_data : four ≡ esc_seq → KeptExactly C h z (says (body 0 m) silent)
  unfolding run_behind
  kept_data e =
      let all : m.stored ≡ D ++ esc_seq = rw e at has in
      let t : run_behind 0 D ≡ 0 = tidied (ap (λ (l : List ℕ). get_or l 0 0) e) in
      record {
        reads = record {
          here = here ∙ rw (e, all, head_esc_seq D t, append-nil);
          few = omega arith;
          clean = rw (all, run_append 0 D esc_seq, t);
          fits = fits;
          long = long;
          index = rw all (simp length-append (omega arith));
          sum = rw (all, drop-append-le m.idx D esc_seq index, register_append m.reg (drop m.idx D), sum, head_esc_seq D t, register_append start (frame_head D ++ esc_seq));
        };
        told = goes_on_exactly;
      }

  kept_restarts : four ≡ restart_seq → KeptExactly C h z (says begun (discarded (m.raw - 8)))
  kept_restarts e = record { reads = reads_begun C; told = start_inside_exactly (m.raw - 8) D (here ∙ rw e (simp append_assoc)) (tidied_by (λ z. let q : w ≡ 0x01 = ap (λ (l : List ℕ). get_or l 0 0) e in omega arith)) (omega (arith, stored_long, fits)) (ap (λ (k : ℕ). k - 8) long) }

  -- an end sequence: what is computed is the CRC of all before the last two bytes
  pub computed_all : w ≡ 0x1a → computed m ≡ crc_of (frame_head D ++ esc_seq ++ 0x1a ∷ x ∷ [])
  computed_all e =
      computed_is m (D ++ w ∷ x ∷ []) y z (rw has (sym (append_assoc D (w ∷ x ∷ []) (y ∷ z ∷ []))))
      ∙ ap final_xor (rw (e, drop-append-le m.idx D (0x1a ∷ x ∷ []) index, register_append m.reg (drop m.idx D), sum, register_append start (frame_head D ++ esc_seq)))
      ∙ sym (crc_is (frame_head D ++ esc_seq ++ 0x1a ∷ x ∷ []))

  kept_good : w ≡ 0x1a → Passed m x (y + 256 * z) → let P : List ℕ = take (length m.stored - 4 - x) m.stored in KeptExactly C h z (says (done P) (pays_out P))
  kept_good e ok = record {
    reads = (refl, simp length-take (omega arith));
    told = frame_ends_exactly _ (λ bs.
        let fine : y < 256 = (bytes_back (frame_head D ++ esc_seq) four (rw here at bs)).1.1.0 in
        let X : ℕ = crc_of (frame_head D ++ esc_seq ++ 0x1a ∷ x ∷ []) in
        let read : y + 256 * z ≡ X = ok.0 ∙ computed_all e in
        let low : y ≡ X % 256 = omega arith in
        let high : z ≡ X / 256 = omega arith in
        let n : length m.stored ≡ length D + 4 = stored_long in
        let a = ok.1 in
        let p = ok.3 in
        record {
          sound = record {
            D = D;
            p = x;
            whole = here ∙ rw e (framed_is D x y z low high);
            aligned = omega arith;
            small = ok.2;
            within = omega arith;
            cut = trimmed m.stored D four x has refl (omega arith);
          };
          fits = omega arith;
        });
  }

  -- all of w before its last two bytes
  pub before_crc : w ≡ 0x1a → take (length (h ++ z ∷ []) - 2) (h ++ z ∷ []) ≡ frame_head D ++ esc_seq ++ 0x1a ∷ x ∷ []
  before_crc e =
      let f : List ℕ = frame_head D ++ esc_seq ++ 0x1a ∷ x ∷ [] in
      let is : h ++ z ∷ [] ≡ f ++ y ∷ z ∷ [] = here ∙ rw e (sym (append_assoc (frame_head D ++ esc_seq) (0x1a ∷ x ∷ []) (y ∷ z ∷ []))) in
      rw is (take_at f (y ∷ z ∷ []) (length (f ++ y ∷ z ∷ []) - 2) (simp length-append (omega arith)))

  -- an end sequence of which something is wrong
  kept_bad : w ≡ 0x1a → (Passed m x (y + 256 * z) → ⊥) → KeptExactly C h z (says fresh (bad_message (y + 256 * z) (computed m) (misaligned m) x))
  kept_bad e bad =
      let n : length m.stored ≡ length D + 4 = stored_long in
      let over : length m.stored % 4 ≡ length D % 4 = omega arith in
      lost refl (no_message_exactly D (record { lo = y; hi = z; is = here ∙ rw e; reads = refl; opens = rw e at opens; fits = omega arith })
      (computed_all e ∙ ap crc_of (sym (before_crc e))) (ap (λ (k : ℕ). not (eqb k 0)) over)
      (λ a b c d. bad (a, over ∙ b, c, omega arith)))

  -- four bytes that mean nothing
  kept_unknown : (four ≡ esc_seq → ⊥) → (four ≡ restart_seq → ⊥) → (w ≡ 0x1a → ⊥) → early (missing (length m.stored)) four ≡ false → KeptExactly C h z (says fresh (bad_escape w x y z))
  kept_unknown no1 no2 no3 no4 =
      let n : length m.stored ≡ length D + 4 = stored_long in
      let over : missing (length m.stored) ≡ missing (length D) = omega arith in
      lost refl (no_escape_exactly (record { D = D; is = here; long = refl; clean = tidied_by no3; fits = omega arith; no_data = no1; no_start = no2; no_end_claim = no3; no_early = ap (λ (k : ℕ). early k four) (sym over) ∙ no4 }))

  -- the escape opened early: a of the bytes read are data, and the rest is the first part of an end sequence
  shifted : (a : ℕ) (l k : List ℕ) → a ≤ 3 → 1 ≤ a → a ≡ missing (length m.stored) → w ≡ 0x1b → four ≡ replicate a 0x1b ++ l → l ≡ 0x1a ∷ k → length l ≡ 4 - a → KeptExactly C h z (says (escape (4 - a) m) silent)
  shifted a l k le pos few first e f n =
      let t : run_behind 0 D ≡ 0 = tidied first in
      record {
        reads = record {
          D = D ++ replicate a 0x1b;
          l = l;
          here = here ∙ rw (e, head_shift D a t le, append_assoc (frame_head D ++ esc_seq) (replicate a 0x1b) l);
          has = has ∙ rw (e, append_assoc D);
          count = n;
          few = omega arith;
          opens = early_end_exactly k (let n : length m.stored ≡ length D + 4 = stored_long in simp (length-append, length-replicate) (omega arith)) f;
          fits = fits;
          long = long;
          index = simp length-append (omega arith);
          sum = rw (head_shift D a t le, register_append start (frame_head D ++ esc_seq) (replicate a 0x1b), drop-append-le m.idx D (replicate a 0x1b) index, register_append m.reg (drop m.idx D), sum);
        };
        told = goes_on_exactly;
      }

  kept_shifts : (a : ℕ) → a ≡ missing (length m.stored) → 1 ≤ a → a ≤ 3 → take (suc a) four ≡ replicate a 0x1b ++ 0x1a ∷ [] → KeptExactly C h z (says (escape (4 - a) m) silent)
  kept_shifts zero q lo le e = absurd (omega arith)
  kept_shifts (suc zero) q lo le e = shifted 1 (x ∷ y ∷ z ∷ []) (y ∷ z ∷ []) le lo q (cc) (cc) (cc) refl
  kept_shifts (suc (suc zero)) q lo le e = shifted 2 (y ∷ z ∷ []) (z ∷ []) le lo q (cc) (cc) (cc) refl
  kept_shifts (suc (suc (suc zero))) q lo le e = shifted 3 (z ∷ []) [] le lo q (cc) (cc) (cc) refl
  kept_shifts (suc (suc (suc (suc n)))) q lo le e = absurd (omega arith)

  kept_judged : (o : Out) → W.Judged m four o → KeptExactly C h z o
  kept_judged o (W.is_data e) = kept_data e
  kept_judged o (W.restarts e) = kept_restarts e
  kept_judged o (W.good e p) = kept_good e p
  kept_judged o (W.bad e p) = kept_bad e p
  kept_judged o (W.shifts a e lo hi t) = kept_shifts a e lo hi t
  kept_judged o (W.unknown f₁ f₂ f₃ f₄) = kept_unknown f₁ f₂ f₃ f₄

opens_more : {D l : List ℕ} (b : ℕ) → OpensExactly D l → OpensExactly D (l ++ b ∷ [])
opens_more b (tidy_exactly e) = tidy_exactly e
opens_more b (early_end_exactly k al e) = early_end_exactly (k ++ b ∷ []) al (rw e)

module _ (C : Setup) (h : List ℕ) (b k : ℕ) (m : Mem) (c : InEscapeExactly C h k m) where
  pushed : h ++ b ∷ [] ≡ frame_head c.D ++ esc_seq ++ (c.l ++ b ∷ [])
  pushed = rw c.here (simp append_assoc)

  kept_has : m.stored ++ b ∷ [] ≡ c.D ++ (c.l ++ b ∷ [])
  kept_has = rw c.has (append_assoc c.D c.l (b ∷ []))

  kept_long : stopped (suc m.raw) ≡ stopped (length (h ++ b ∷ []))
  kept_long = let i = c.long in rw (longer_since h b) (omega arith)

  kept_reads : length m.stored + 1 ≤ C.capacity → k < 3 → KeptExactly C h b (says (escape (suc k) (put m (b ∷ []))) silent)
  kept_reads fit lt = record {
    reads = record {
      D = c.D;
      l = c.l ++ b ∷ [];
      here = pushed;
      has = kept_has;
      count = simp length-append (let n = c.count in omega arith);
      few = lt;
      opens = opens_more b c.opens;
      fits = simp length-append fit;
      long = kept_long;
      index = c.index;
      sum = c.sum;
    };
    told = goes_on_exactly;
  }

  kept_four : (w x y : ℕ) → c.l ≡ w ∷ x ∷ y ∷ [] → length m.stored + 1 ≤ C.capacity → (o : Out)
      → W.Judged (put m (b ∷ [])) (drop (length (m.stored ++ b ∷ []) - 4) (m.stored ++ b ∷ [])) o → KeptExactly C h b o
  kept_four w x y e fit o j =
      let f : c.l ++ b ∷ [] ≡ w ∷ x ∷ y ∷ b ∷ [] = rw e in
      let has : m.stored ++ b ∷ [] ≡ c.D ++ w ∷ x ∷ y ∷ b ∷ [] = rw f at kept_has in
      kept_judged C h c.D (put m (b ∷ [])) w x y b (rw f at pushed) has (rw f at (opens_more b c.opens)) (simp length-append fit) kept_long c.index c.sum o
      (rw (last_four (m.stored ++ b ∷ []) c.D w x y b has) at j)

  kept_judges : length m.stored + 1 ≤ C.capacity → 3 ≤ k → (o : Out)
      → W.Judged (put m (b ∷ [])) (drop (length (m.stored ++ b ∷ []) - 4) (m.stored ++ b ∷ [])) o → KeptExactly C h b o
  kept_judges fit ge o j =
      let n : length c.l ≡ 3 = let i = c.few in let j = c.count in omega arith in
      let (w, x, y, e) = three c.l n in
      kept_four w x y e fit o j

  kept_full' : C.capacity < length m.stored + 1 → KeptExactly C h b (says fresh memory)
  kept_full' over =
      let n : length (c.l ++ b ∷ []) ≡ suc (length c.l) = simp length-append (omega arith) in
      let long : length m.stored ≡ length c.D + length c.l = ap length c.has ∙ length-append c.D c.l in
      lost refl (no_room_exactly (none_behind_escape c.D (c.l ++ b ∷ []) pushed (opens_more b c.opens) (omega arith) (let f = c.few in let q = c.count in omega arith) (let f = c.fits in omega arith)))

-- ---- every push

kept_saw : (C : Setup) (h : List ℕ) (s : State) (b : ℕ) (o : Out) → ReadExactly C h s → Saw C s b o → KeptExactly C h b o
kept_saw C h s b o k (W.sought {n} {noise} {raw} j e ne) = kept_sought C h b n noise raw k j e ne
kept_saw C h s b o k (W.began {n} {noise} {raw} e) = kept_began C h b n noise raw k e
kept_saw C h s b o k (W.again w) = kept_saw C h fresh b o (rw k.0 (reads_fresh_exactly C)) w
kept_saw C h s b o k (W.waits {n = n} {m = m} e ne) = kept_waits C h b n m k e ne
kept_saw C h s b o k (W.opens {n = n} {m = m} e f) = kept_opens C h b n m k e f
kept_saw C h s b o k (W.stores {n = n} {m = m} ne fit) = kept_stores C h b n m k ne fit
kept_saw C h s b o k (W.full {n = n} {m = m} ne over) = kept_full C h b n m k ne over
kept_saw C h s b o k (W.collects {k = j} {m = m} fit lt) = kept_reads C h b j m k fit lt
kept_saw C h s b o k (W.judges {k = j} {m = m} fit ge w) = kept_judges C h b j m k fit ge o w
kept_saw C h s b o k (W.full' {k = j} {m = m} over) = kept_full' C h b j m k over

pub kept_exactly : (C : Setup) (h : List ℕ) (s : State) (b : ℕ) → ReadExactly C h s → KeptExactly C h b (step C s b)
kept_exactly C h s b k = kept_saw C h s b (step C s b) k (saw C s b)

-- ---- any operations on a fresh decoder

pub reads_act_exactly : (C : Setup) (h : List ℕ) (s : State) (o : Op) → ReadExactly C h s → ReadExactly C (grown_since_op o (answer_state C s o) h) (act_state C s o)
unfolding act_state answer_state
reads_act_exactly C h s (push b) k = (kept_exactly C h s b k).reads
reads_act_exactly C h s finalize k = reads_fresh_exactly C
reads_act_exactly C h s reset k = reads_fresh_exactly C

pub reads_from_exactly : (C : Setup) (os : List Op) (h : List ℕ) (s : State) → ReadExactly C h s → ReadExactly C (since_from h os (run_state C s os)) (state_behind C s os)
unfolding run_state state_behind since_from
reads_from_exactly C [] h s k = k
reads_from_exactly C (o ∷ os) h s k = reads_from_exactly C os (grown_since_op o (answer_state C s o) h) (act_state C s o) (reads_act_exactly C h s o k)

pub reads_behind_exactly : (C : Setup) (os : List Op) → ReadExactly C (since_from [] os (run_state C fresh os)) (state_behind C fresh os)
reads_behind_exactly C os = reads_from_exactly C os [] fresh (reads_fresh_exactly C)
