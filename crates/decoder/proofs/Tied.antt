-- What the code is proved to answer (specs/Cut.antt) is what the push rules say: one law, for every record that is not refused and the buffer that it wants.
use mathlib.Core.Path.{◌≡◌, refl, ap, ap₂, sym, ◌∙◌}
use mathlib.Core.Bool.{true, false, cond}
use mathlib.Core.List.{List, [], ◌∷◌, ◌++◌, append_assoc}
use Rattle.std.specs.Prelude.{Err}
use Prim.Native.Nat.{ℕ, zero, suc, ◌+◌, ◌-◌, ◌≤◌, ◌<◌}
use native.Mathlib.Omega.{arith}
use native.Mathlib.Numerals.{add-one}
use native.Mathlib.Nat.{sub-zero, zero-sub, suc-sub-suc, mul_comm, add-zero}
use lib.ListN.{length, replicate, drop, take, get_or, length-append, length-take, take-append-drop}
use lib.Seq.{take-nil, take_at, take-take, length-take-le, sets, sets-eq, get_or-take, get_or-drop}
use lib.Dec.{eqb}
use borrow.Author.Tests.{eq-eqb, ne_eqb, le-leb, lt-leb, lt-ltb, le-ltb}
use Rattle.crc_x25.specs.Crc.{register, final_xor}
use Rattle.frame.specs.Frame.{missing, esc_seq, restart_seq, same}
use Rattle.frame.proofs.Cases.{either}
use Rattle.decoder.specs.Push as P
use Rattle.decoder.specs.Push.{Setup, Mem, State, body, escape, done, silent, discarded, bad_escape, says, put, searching, store, judge, finish, begun, fresh, early, sound?, computed, pad_of, crc_read, step}
use Rattle.decoder.specs.Record.{after, answer_of, numbered, setup, mem_of, state_as, state_of, waiting, record_with, recounted, record_of, wrote, written, bad_decoder, wrong_buffer, pushed, push_record, DecoderAnswer, payload}
use Rattle.decoder.specs.Cut.{code_event, code, Cut, cut, told_cut, stored_on, store_step, normal_step, escape_at, wait_step, four, judged_at, sound, verdict, computed_crc, end_step, other_step, judge_step, escape_step, step_cut}
use Rattle.decoder.specs.declared.DecodeState.{DecodeState}
use Rattle.decoder.specs.declared.DecodeState.TheVariants.{LookingForMessageStart, ParsingNormal, ParsingEscChars, ParsingEscPayload, Done}
use Rattle.decoder.specs.declared.Decoder.{Decoder}
use Rattle.decoder.specs.declared.DecodeErr.TheVariants.{BadState, WrongBuffer}
use Rattle.decoder.specs.declared.Pushed.{Pushed}
use Rattle.decoder.proofs.Valid.{sane, sane_wait, sane_escape}
use Rattle.decoder.proofs.Split.{cases, split}
use Rattle.decoder.proofs.Payload.{got_done}
use Rattle.decoder.proofs.Faithful.{contents, HeldIn, kept_first, holds_view, fill_view, Fit, fit_length, push_good}

-- the code's answer, made from the step
abbrev pub coded : Setup → List ℕ → State → ℕ → Cut
coded C m s b = cut (code C (step C s b)) (written m (length (contents s)) (wrote C s b))

-- ---- the memory

written_nil : (m : List ℕ) (n : ℕ) → written m n [] ≡ m
written_nil m n = rw (add-zero n) (take-append-drop n m)

written_sets : (m vs : List ℕ) (n : ℕ) → n + length vs ≤ length m → sets m n vs ≡ written m n vs
written_sets m vs n h = sets-eq vs m n h ∙ append_assoc (take n m) vs _

-- the part of the memory that the CRC has not gone over
drop_take : (i n : ℕ) (l : List ℕ) → drop i (take n l) ≡ take (n - i) (drop i l)
drop_take zero n l = rw (sub-zero n)
drop_take (suc i) zero l = rw (zero-sub (suc i))
drop_take (suc i) (suc n) [] = sym (take-nil (suc n - suc i))
drop_take (suc i) (suc n) (x ∷ l) = rw (suc-sub-suc n i) (drop_take i n l)

-- ---- the body

normal_other : (d : Decoder) (m : List ℕ) (b : ℕ) → (b ≡ 0x1b → ⊥) → normal_step d m b ≡ store_step d m (b ∷ [])
unfolding normal_step
normal_other d m b ne = rw (ne_eqb b 0x1b ne)

wait_other : (d : Decoder) (m : List ℕ) (n b : ℕ) → (b ≡ 0x1b → ⊥) → wait_step d m n b ≡ store_step d m (replicate n 0x1b ++ b ∷ [])
unfolding wait_step
wait_other d m n b ne = rw (ne_eqb b 0x1b ne)

module _ (C : Setup) (b : ℕ) (m : List ℕ) (q : Mem) (holds : take (length q.stored) m ≡ q.stored) (lent : length m ≡ C.capacity) where
  abbrev f : ℕ
  f = length q.stored

  -- one law for the bytes stored behind n waiting ones
  tied_store : (n : ℕ) → (b ≡ 0x1b → ⊥) → (d : Decoder) → d ≡ record_of C (body n q) → store_step d m (replicate n 0x1b ++ b ∷ []) ≡ coded C m (body n q) b
  unfolding step wrote store
  tied_store n ne d e =
      let w : List ℕ = replicate n 0x1b ++ b ∷ [] in
      split (f + length w) C.capacity
      (λ fit. rw (e, ne_eqb b 0x1b ne, lent, le-leb (f + length w) C.capacity fit, written_sets m w f (rw lent fit), length-append q.stored w))
      (λ full. rw (e, ne_eqb b 0x1b ne, lent, lt-leb (f + length w) C.capacity full, written_nil m f))

  unseen : take (f - q.idx) (drop q.idx m) ≡ drop q.idx q.stored
  unseen = sym (drop_take q.idx f m) ∙ ap (drop q.idx) holds

  tied_body : (n : ℕ) → step_cut (waiting n) (record_of C (body n q)) m b ≡ coded C m (body n q) b
  unfolding step_cut normal_step wait_step escape_at step wrote
  tied_body zero =
      either b 0x1b
      (λ e. rw (eq-eqb b 0x1b e, written_nil m f))
      (λ ne. normal_other (record_of C (body 0 q)) m b ne ∙ tied_store 0 ne (record_of C (body 0 q)) refl)
  tied_body (suc n) =
      either b 0x1b
      (λ e. either (suc n) 3
      (λ g. rw (eq-eqb b 0x1b e, eq-eqb (suc n) 3 g, unseen, written_nil m f))
      (λ g. rw (eq-eqb b 0x1b e, ne_eqb (suc n) 3 g, add-one (suc n), written_nil m f)))
      (λ ne. wait_other (record_of C (body (suc n) q)) m (suc n) b ne ∙ tied_store (suc n) ne (record_of C (body (suc n) q)) refl)

-- ---- the judge

module _ (C : Setup) (m : List ℕ) (q : Mem) (holds : take (length q.stored) m ≡ q.stored) (four≤ : 4 ≤ length q.stored) where
  abbrev g : ℕ
  g = length q.stored

  abbrev last : List ℕ
  last = drop (g - 4) q.stored

  abbrev d : Decoder
  d = record_of C (escape 3 q)

  four_is : four g m ≡ last
  four_is =
      let e : 4 ≡ g - (g - 4) = omega arith in
      ap (λ (n : ℕ). take n (drop (g - 4) m)) e ∙ sym (drop_take (g - 4) g m) ∙ ap (drop (g - 4)) holds

  judged_is : (k : ℕ) → k < 4 → judged_at g m k ≡ get_or last k 0
  judged_is k h = sym (get_or-drop (g - 4) m k 0) ∙ sym (get_or-take 4 (drop (g - 4) m) k 0 h) ∙ ap (λ (l : List ℕ). get_or l k 0) four_is

  computed_same : computed_crc d m ≡ computed q
  computed_same =
      ap (λ (l : List ℕ). final_xor (register q.reg l))
      (sym (drop_take q.idx (g - 2) m) ∙ ap (drop q.idx) (sym (take-take (g - 2) g m (omega arith)) ∙ ap (take (g - 2)) holds))

  tied_verdict : (p read : ℕ) → verdict C g read (computed q) p ≡ code C (finish q p read)
  unfolding verdict sound finish
  tied_verdict p read =
      let n : length (take (g - 4 - p) q.stored) ≡ g - (p + 4) = length-take (g - 4 - p) q.stored ∙ omega arith in
      cases (sound? q p read) (λ t. rw (t, n)) (λ t. rw t)

  tied_end : end_step d m ≡ code C (finish q (pad_of last) (crc_read last))
  unfolding end_step
  tied_end = rw (judged_is 2 (omega arith), judged_is 3 (omega arith), judged_is 1 (omega arith), computed_same, mul_comm (get_or last 3 0) 256) (tied_verdict _ _)

  tied_other : other_step d m ≡
      cond (early (missing g) last) (code C (says (escape (4 - missing g) q) silent))
      (code C (says fresh (bad_escape (get_or last 0 0) (get_or last 1 0) (get_or last 2 0) (get_or last 3 0))))
  unfolding other_step
  tied_other = rw (four_is, judged_is 0 (omega arith), judged_is 1 (omega arith), judged_is 2 (omega arith), judged_is 3 (omega arith))

  -- the same tests, at the stored bytes
  judge_tests : judge_step d m ≡
      cond (same last esc_seq) (code C (says (body 0 q) silent))
      (cond (same last restart_seq) (code C (says begun (discarded (q.raw - 8))))
      (cond (eqb (get_or last 0 0) 0x1a) (code C (finish q (pad_of last) (crc_read last)))
      (cond (early (missing g) last) (code C (says (escape (4 - missing g) q) silent))
      (code C (says fresh (bad_escape (get_or last 0 0) (get_or last 1 0) (get_or last 2 0) (get_or last 3 0)))))))
  unfolding judge_step
  judge_tests = rw (four_is, judged_is 0 (omega arith), tied_end, tied_other)

  tied_judge : judge_step d m ≡ code C (judge q last)
  unfolding judge
  tied_judge = judge_tests ∙
      cases (same last esc_seq) (λ t₁. rw t₁) (λ t₁.
      cases (same last restart_seq) (λ t₂. rw (t₁, t₂)) (λ t₂.
      cases (eqb (get_or last 0 0) 0x1a) (λ t₃. rw (t₁, t₂, t₃)) (λ t₃.
      cases (early (missing g) last) (λ t₄. rw (t₁, t₂, t₃, t₄)) (λ t₄. rw (t₁, t₂, t₃, t₄)))))

-- ---- an escape

tied_last : (C : Setup) (b k : ℕ) (m : List ℕ) (q : Mem) → take (length q.stored) m ≡ q.stored → length q.stored + 1 ≤ length m → 3 ≤ length q.stored
    → judge_step (stored_on (record_of C (escape k q)) 1 (ParsingEscPayload 3)) (sets m (length q.stored) (b ∷ []))
    ≡ code C (judge (put q (b ∷ [])) (drop (length (q.stored ++ b ∷ []) - 4) (q.stored ++ b ∷ [])))
tied_last C b k m q holds fit long =
    let f : ℕ = length q.stored in
    let M : List ℕ = sets m f (b ∷ []) in
    let d : stored_on (record_of C (escape k q)) 1 (ParsingEscPayload 3) ≡ record_of C (escape 3 (put q (b ∷ []))) = rw (length-append q.stored (b ∷ [])) in
    let w : M ≡ (q.stored ++ b ∷ []) ++ drop (f + 1) m = written_sets m (b ∷ []) f fit ∙ rw holds (sym (append_assoc q.stored (b ∷ []) (drop (f + 1) m))) in
    let h : take (length (q.stored ++ b ∷ [])) M ≡ q.stored ++ b ∷ [] = rw w (take_at (q.stored ++ b ∷ []) (drop (f + 1) m) (length (q.stored ++ b ∷ [])) refl) in
    ap (λ (x : Decoder). judge_step x M) d ∙ tied_judge C M (put q (b ∷ [])) h (simp length-append (omega arith))

tied_escape : (C : Setup) (b k : ℕ) (m : List ℕ) (q : Mem) → take (length q.stored) m ≡ q.stored → length m ≡ C.capacity → k ≤ 3 → k ≤ length q.stored
    → step_cut (ParsingEscPayload k) (record_of C (escape k q)) m b ≡ coded C m (escape k q) b
unfolding step_cut escape_step step wrote store
tied_escape C b k m q holds lent le long =
    split (f + 1) C.capacity
    (λ fit.
    let w : sets m f (b ∷ []) ≡ written m f (b ∷ []) = written_sets m (b ∷ []) f (rw lent fit) in
    split (suc k) 3
    (λ lt. rw (lent, le-leb (f + 1) C.capacity fit, lt-ltb k 3 lt, w, add-one k, length-append q.stored (b ∷ [])))
    (λ ge. rw (lent, le-leb (f + 1) C.capacity fit, le-ltb k 3 (omega arith)) (ap₂ (λ (r : Pushed) (l : List ℕ). cut r l) (tied_last C b k m q holds (rw lent fit) (omega arith)) w)))
    (λ full. rw (lent, lt-leb (f + 1) C.capacity full, written_nil m f))
  where
    f : ℕ
    f = length q.stored

-- ---- every record that is not refused

-- inside a frame a record is the code's form of its state
same_record : (d : Decoder) (m : List ℕ) (s : DecodeState) → d.state ≡ s → d.fill ≤ length m
    → d ≡ record_with (setup d) (length (take d.fill m)) d.raw_msg_len d.crc d.crc_idx s
same_record d m s e l =
    let n : d.fill ≡ length (take d.fill m) = sym (length-take-le d.fill m l) in
    λ i. recounted d (n i) d.raw_msg_len (e i)

tied_wait : (d : Decoder) (m : List ℕ) (b n : ℕ) → d.state ≡ waiting n → d.fill ≤ length m → length m ≡ d.capacity
    → step_cut (waiting n) d m b ≡ coded (setup d) m (body n (mem_of d m)) b
tied_wait d m b n e l lent =
    ap (λ (x : Decoder). step_cut (waiting n) x m b) (same_record d m (waiting n) e l)
    ∙ tied_body (setup d) b m (mem_of d m) (rw (length-take-le d.fill m l)) lent n

tied_as : (d : Decoder) (m : List ℕ) (b : ℕ) (s : DecodeState) → d.state ≡ s → bad_decoder d ≡ false → length m ≡ d.capacity
    → step_cut s d m b ≡ coded (setup d) m (state_as s d m) b
unfolding step_cut step wrote
tied_as d m b (LookingForMessageStart n noise) e g lent = refl
tied_as d m b Done e g lent = ap (cut (code (setup d) (searching d.way 0 0 0 b))) (sym (written_nil m (length (take d.fill m))))
tied_as d m b ParsingNormal e g lent = tied_wait d m b 0 e (omega (arith, (sane d g).0)) lent
tied_as d m b (ParsingEscChars zero) e g lent = absurd (omega (arith, (sane_wait d g 0 e).0))
tied_as d m b (ParsingEscChars (suc n)) e g lent = tied_wait d m b (suc n) e (omega (arith, (sane d g).0)) lent
tied_as d m b (ParsingEscPayload k) e g lent =
    let l : d.fill ≤ length m = omega (arith, (sane d g).0) in
    let h = sane_escape d g k e in
    let n : length (take d.fill m) ≡ d.fill = length-take-le d.fill m l in
    ap (λ (x : Decoder). step_cut (ParsingEscPayload k) x m b) (same_record d m (ParsingEscPayload k) e l)
    ∙ tied_escape (setup d) b k m (mem_of d m) (rw n) lent h.1 (rw n (omega arith))

-- the code's event has document 01's number and values of the step's; a payload is the first bytes of the memory
told_event : (e : P.PushEvent) (bytes : List ℕ) → ((l : List ℕ) → e ≡ P.pays_out l → bytes ≡ l) → answer_of (code_event e) bytes ≡ numbered e
told_event P.silent bytes h = refl
told_event (P.discarded n) bytes h = refl
told_event (P.pays_out l) bytes h = ap payload (h l refl)
told_event P.memory bytes h = refl
told_event (P.bad_escape a b c d) bytes h = refl
told_event (P.bad_message read c mis p) bytes h = refl

held_tied : (C : Setup) (s : State) (m l : List ℕ) → s ≡ done l → HeldIn s m → take (record_of C s).fill m ≡ l
unfolding HeldIn
held_tied C s m l e h =
    let k : HeldIn (done l) m = rw e at h in
    rw e k

told_coded : (C : Setup) (m : List ℕ) (s : State) (b : ℕ) → HeldIn s m
    → told_cut (coded C m s b) ≡ after (numbered (step C s b).event) (record_of C (step C s b).state) (written m (length (contents s)) (wrote C s b))
told_coded C m s b h =
    ap (λ (a : DecoderAnswer). after a (record_of C (step C s b).state) (written m (length (contents s)) (wrote C s b)))
    (told_event (step C s b).event _ (λ l e. held_tied C (step C s b).state _ l (got_done C s b l e) (kept_first C s b m h)))

-- the law
pub tied : (d : Decoder) (m : List ℕ) (b : ℕ) → Fit d m → told_cut (step_cut d.state d m b) ≡ push_record d m b
unfolding pushed
tied d m b f =
    let lent : length m ≡ d.capacity = fit_length d m f in
    ap told_cut (tied_as d m b d.state refl f.state lent)
    ∙ told_coded (setup d) m (state_of d m) b (holds_view d m f.state lent)
    ∙ ap (λ (n : ℕ). after (numbered (step (setup d) (state_of d m) b).event) (record_of (setup d) (step (setup d) (state_of d m) b).state) (written m n (wrote (setup d) (state_of d m) b)))
    (sym (fill_view d m f.state lent))
    ∙ sym (push_good d m b f)

-- ---- a push, by what the tests said

pub push_bad : (d : Decoder) (m : List ℕ) (b : ℕ) → bad_decoder d ≡ true → told_cut (cut (record { decoder = d; event = Err BadState }) m) ≡ push_record d m b
unfolding push_record
push_bad d m b e = rw e

pub push_wrong : (d : Decoder) (m : List ℕ) (b : ℕ) → bad_decoder d ≡ false → wrong_buffer d.capacity (length m) ≡ true
    → told_cut (cut (record { decoder = d; event = Err WrongBuffer }) m) ≡ push_record d m b
unfolding push_record
push_wrong d m b e w = rw (e, w)

pub push_step : (d : Decoder) (m : List ℕ) (b : ℕ) (s : DecodeState) (r : Cut) → bad_decoder d ≡ false → wrong_buffer d.capacity (length m) ≡ false
    → d.state ≡ s → r ≡ step_cut s d m b → told_cut r ≡ push_record d m b
push_step d m b s r e w q h = ap told_cut (h ∙ ap (λ (x : DecodeState). step_cut x d m b) (sym q)) ∙ tied d m b (record { state = e; buffer = w })
