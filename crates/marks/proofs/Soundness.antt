-- A payload is given only at the last byte of a sound frame for it.
use mathlib.Core.Path.{◌≡◌, refl, ap, sym, ◌∙◌, subst}
use mathlib.Core.Bool.{true, false}
use mathlib.Core.List.{List, [], ◌∷◌, ◌++◌, append_assoc, append-nil}
use Prim.Native.Nat.{ℕ, ◌≤◌, ◌<◌}
use native.Mathlib.Omega.{arith}
use lib.ListN.{length}
use Rattle.frame.specs.Frame.{Sound, start_seq}
use Rattle.frame.proofs.Cases.{by_eq}
use Rattle.decoder.specs.Push.{State, search, body, escape, done, PushEvent, silent, discarded, pays_out, memory, bad_escape, bad_message, step, fresh, finalized, reset_count}
use Rattle.decoder.specs.Record.{DecoderAnswer, nothing, payload, count, refusal, numbered, After, after, setup, state_of, new_record, bad_decoder, wrong_buffer, push_record, finalize_record, reset_record, has_payload, payload_record}
use Rattle.decoder.specs.Run as R
use Rattle.decoder.specs.Run.{Op, push, finalize, reset, act, brought}
use Rattle.decoder.proofs.States.{run_state, state_behind, act_state, answer_state}
use Rattle.decoder.specs.declared.Decoder.{Decoder}
use Rattle.decoder.specs.declared.Setup.{Setup}
use Rattle.decoder.proofs.Payload.{held_payload, act_brings, payload_held_lem}
use Rattle.decoder.proofs.Search.{Known}
use Rattle.decoder.proofs.Valid.{sane_way, right_buffer}
use Rattle.decoder.proofs.Split.{cases}
use Rattle.decoder.proofs.Runs.{acts, Leads, leads, new_fit}
use Rattle.since.specs.Bytes.{grown_since, grown_since_op, since_from}
use Rattle.since.specs.Since.{frame_head, ReadSince, AllBytes, EventSays, goes_on, start_found, start_inside, no_room, no_escape, no_message, frame_ends}
use Rattle.since.proofs.Lists.{bytes_back}
use Rattle.since.proofs.Kept.{kept, reads_fresh, reads_act, reads_behind}
use Rattle.marks.specs.Decoders.{Gave, gave, ours, answers, behind_of, bytes_from}
use Rattle.marks.specs.Mark2.{PushesBytes, EndsFrame, Soundness}
use Rattle.marks.proofs.Recovery.{answers_new}

-- ---- operations

-- the bytes since the last payload, finalize or reset, with one operation more
abbrev grown : Op → DecoderAnswer → List ℕ → List ℕ
grown (push b) nothing h = h ++ b ∷ []
grown (push b) (payload bytes) h = []
grown (push b) (count k) h = h ++ b ∷ []
grown (push b) (refusal k values) h = h ++ b ∷ []
grown finalize a h = []
grown reset a h = []

bytes_cons : (h : List ℕ) (o : Op) (a : DecoderAnswer) (os : List Op) (more : List DecoderAnswer) → bytes_from h (o ∷ os) (a ∷ more) ≡ bytes_from (grown o a h) os more
unfolding bytes_from
bytes_cons h (push b) nothing os more = refl
bytes_cons h (push b) (payload bytes) os more = refl
bytes_cons h (push b) (count k) os more = refl
bytes_cons h (push b) (refusal k values) os more = refl
bytes_cons h finalize a os more = refl
bytes_cons h reset a os more = refl

-- the bytes since the last payload, finalize or reset end with those since the search or frame began
record EndsWith (g h : List ℕ) : Type 0 where
  pre : List ℕ
  here : g ≡ pre ++ h

nothing_left : (g : List ℕ) → EndsWith g []
nothing_left g = record { pre = g; here = sym (append-nil g) }

ends_told : (C : Setup) (g h : List ℕ) (b : ℕ) (e : PushEvent) → EndsWith g h → EventSays C (h ++ b ∷ []) e → EndsWith (grown (push b) (numbered e) g) (grown_since (numbered e) h b)
ends_told C g h b e k goes_on = record { pre = k.pre; here = rw k.here (append_assoc k.pre h (b ∷ [])) }
ends_told C g h b e k (start_found v x is m n pos c) = record { pre = k.pre ++ x; here = rw (k.here, append_assoc k.pre h (b ∷ []), is) (sym (append_assoc k.pre x start_seq)) }
ends_told C g h b e k (start_inside v D is c) = record { pre = k.pre ++ frame_head D; here = rw (k.here, append_assoc k.pre h (b ∷ []), is) (sym (append_assoc k.pre (frame_head D) start_seq)) }
ends_told C g h b e k no_room = nothing_left (g ++ b ∷ [])
ends_told C g h b e k no_escape = nothing_left (g ++ b ∷ [])
ends_told C g h b e k no_message = nothing_left (g ++ b ∷ [])
ends_told C g h b e k (frame_ends P f) = nothing_left []

ends_act : (C : Setup) (g h : List ℕ) (s : State) (o : Op) → ReadSince C h s → EndsWith g h → EndsWith (grown o (answer_state C s o) g) (grown_since_op o (answer_state C s o) h)
unfolding answer_state
ends_act C g h s (push b) r k = ends_told C g h b (step C s b).event k (kept C h s b r).told
ends_act C g h s finalize r k = nothing_left []
ends_act C g h s reset r k = nothing_left []

ends_behind : (C : Setup) (os : List Op) (g h : List ℕ) (s : State) → ReadSince C h s → EndsWith g h → EndsWith (bytes_from g os (run_state C s os)) (since_from h os (run_state C s os))
unfolding run_state since_from bytes_from
ends_behind C [] g h s r k = k
ends_behind C (o ∷ os) g h s r k =
    subst (λ (l : List ℕ). EndsWith l (since_from (grown_since_op o (answer_state C s o) h) os (run_state C (act_state C s o) os))) (sym (bytes_cons g o (answer_state C s o) os (run_state C (act_state C s o) os)))
    (ends_behind C os (grown o (answer_state C s o) g) (grown_since_op o (answer_state C s o) h) (act_state C s o) (reads_act C h s o r) (ends_act C g h s o r k))

-- they are bytes
bytes_snoc : (h : List ℕ) (b : ℕ) → AllBytes h → b < 256 → AllBytes (h ++ b ∷ [])
bytes_snoc [] b h lt = (lt, tt)
bytes_snoc (x ∷ l) b h lt = (h.0, bytes_snoc l b h.1 lt)

bytes_grown : (h : List ℕ) (o : Op) (a : DecoderAnswer) (os : List Op) → AllBytes h → PushesBytes (o ∷ os) → AllBytes (grown o a h) × PushesBytes os
bytes_grown h (push b) nothing os t p = (bytes_snoc h b t p.0, p.1)
bytes_grown h (push b) (payload bytes) os t p = (tt, p.1)
bytes_grown h (push b) (count k) os t p = (bytes_snoc h b t p.0, p.1)
bytes_grown h (push b) (refusal k values) os t p = (bytes_snoc h b t p.0, p.1)
bytes_grown h finalize a os t p = (tt, p)
bytes_grown h reset a os t p = (tt, p)

bytes_behind : (C : Setup) (os : List Op) (h : List ℕ) (s : State) (b : ℕ) → AllBytes h → PushesBytes (os ++ push b ∷ []) → AllBytes (bytes_from h os (run_state C s os) ++ b ∷ [])
unfolding run_state bytes_from
bytes_behind C [] h s b t p = bytes_snoc h b t p.0
bytes_behind C (o ∷ os) h s b t p =
    let q = bytes_grown h o (answer_state C s o) (os ++ push b ∷ []) t p in
    subst (λ (l : List ℕ). AllBytes (l ++ b ∷ [])) (sym (bytes_cons h o (answer_state C s o) os (run_state C (act_state C s o) os)))
    (bytes_behind C os (grown o (answer_state C s o) h) (act_state C s o) b q.0 q.1)

told_sound : {C : Setup} {w : List ℕ} (e : PushEvent) (P : List ℕ) → e ≡ pays_out P → EventSays C w e → AllBytes w → Sound w P
told_sound e P q goes_on bs = absurd (let z : ◌≡◌ {A = ℕ} 0 1 = cc in omega arith)
told_sound e P q (start_found v x is m n pos c) bs = absurd (let z : ◌≡◌ {A = ℕ} 0 1 = cc in omega arith)
told_sound e P q (start_inside v D is c) bs = absurd (let z : ◌≡◌ {A = ℕ} 0 1 = cc in omega arith)
told_sound e P q no_room bs = absurd (let z : ◌≡◌ {A = ℕ} 0 1 = cc in omega arith)
told_sound e P q no_escape bs = absurd (let z : ◌≡◌ {A = ℕ} 0 1 = cc in omega arith)
told_sound e P q no_message bs = absurd (let z : ◌≡◌ {A = ℕ} 0 1 = cc in omega arith)
told_sound {w = w} e P q (frame_ends Q f) bs = let same' : Q ≡ P = cc in subst (Sound w) same' (f bs)

-- ---- the record

behind_is : (os : List Op) (a : After) (o : Op) → behind_of ours a.decoder a.memory os o ≡ gave (act (R.behind a os).decoder (R.behind a os).memory o)
unfolding behind_of R.behind
behind_is [] a o = refl
behind_is (p ∷ os) a o = behind_is os (act a.decoder a.memory p) o

pub got_back : (e : PushEvent) (P : List ℕ) → numbered e ≡ payload P → e ≡ pays_out P
got_back silent P h = cc
got_back (discarded n) P h = cc
got_back (pays_out Q) P h = cc
got_back memory P h = cc
got_back (bad_escape w x y z) P h = cc
got_back (bad_message w x y z) P h = cc

-- an event that is no payload
abbrev NoPayload : PushEvent → Type 0
NoPayload silent = Unit {0}
NoPayload (discarded n) = Unit {0}
NoPayload (pays_out P) = ⊥
NoPayload memory = Unit {0}
NoPayload (bad_escape a b c d) = Unit {0}
NoPayload (bad_message a b c d) = Unit {0}

plain_final : (s : State) → NoPayload (finalized s)
unfolding finalized
plain_final (search n noise raw) = by_eq NoPayload n 0 _ _ (λ e. by_eq NoPayload noise 0 _ _ (λ f. tt) (λ f. tt)) (λ e. tt)
plain_final (body n m) = tt
plain_final (escape k m) = tt
plain_final (done P) = tt

never_final : (s : State) (P : List ℕ) → numbered (finalized s) ≡ payload P → ⊥
never_final s P h = subst NoPayload (got_back (finalized s) P h) (plain_final s)

never_count : (k : ℕ) (P : List ℕ) → count k ≡ payload P → ⊥
never_count k P h = let z : ◌≡◌ {A = ℕ} 0 1 = cc in omega arith

never_nothing : (P : List ℕ) → nothing ≡ payload P → ⊥
never_nothing P h = let z : ◌≡◌ {A = ℕ} 0 1 = cc in omega arith

never_refusal : (k : ℕ) (P : List ℕ) → refusal k [] ≡ payload P → ⊥
never_refusal k P h = let z : ◌≡◌ {A = ℕ} 0 1 = cc in omega arith

-- ---- the claim, where the buffer is as long as the capacity

module _ (C : Setup) (m : List ℕ) (w : Known C) (l : length m ≡ C.capacity) (le : C.capacity ≤ 1048576) (os : List Op) where
  -- behind the operations: the record and the memory, the state, the bytes
  abbrev x : After
  x = R.behind (after nothing (new_record C) m) os

  abbrev s : State
  s = state_behind C fresh os

  abbrev h : List ℕ
  h = bytes_from [] os (run_state C fresh os)

  -- and those since the search or frame began
  abbrev since : List ℕ
  since = since_from [] os (run_state C fresh os)

  there : Leads (new_record C) m os x
  there = leads os (after nothing (new_record C) m) (new_fit C m w l le)

  answer_is : (o : Op) → (act x.decoder x.memory o).answer ≡ answer_state C s o
  answer_is o = (acts x.decoder x.memory o there.fit).answer ∙ rw (there.setup', there.view')

  -- what is handed back is what the answer brings
  hands_back : (o : Op) → payload_record (act x.decoder x.memory o).decoder (act x.decoder x.memory o).memory ≡ brought (act x.decoder x.memory o).answer
  hands_back o =
      let a = acts x.decoder x.memory o there.fit in
      payload_held_lem _ _ a.fit ∙ ap held_payload a.view' ∙ act_brings (setup x.decoder) (state_of x.decoder x.memory) o ∙ ap brought (sym a.answer)

  -- the answer is a payload, so the push gave it
  ends_frame : (o : Op) (P : List ℕ) → PushesBytes (os ++ o ∷ []) → (act x.decoder x.memory o).answer ≡ payload P → EndsFrame h o P
  unfolding answer_state
  ends_frame (push b) P bytes e =
      let g : (step C s b).event ≡ pays_out P = got_back _ P (sym (answer_is (push b)) ∙ e) in
      let k = ends_behind C os [] [] fresh (reads_fresh C) (nothing_left []) in
      let on : h ++ b ∷ [] ≡ k.pre ++ (since ++ b ∷ []) = rw k.here (append_assoc k.pre since (b ∷ [])) in
      let fine : AllBytes (since ++ b ∷ []) = bytes_back k.pre (since ++ b ∷ []) (rw on at (bytes_behind C os [] fresh b tt bytes)) in
      record { last = b; pushes = refl; before = k.pre; frame = since ++ b ∷ []; ends = on; sound = told_sound (step C s b).event P g (kept C since s b (reads_behind C os)).told fine }
  ends_frame finalize P bytes e = absurd (never_final s P (sym (answer_is finalize) ∙ e))
  ends_frame reset P bytes e = absurd (never_count _ P (sym (answer_is reset) ∙ e))

-- ---- and where it is not: every push is 5, or 4 where the way is unknown, and the decoder stays new

data Unfit (C : Setup) (m : List ℕ) : Type 0 where
  by_way : bad_decoder (new_record C) ≡ true → Unfit C m
  by_buffer : bad_decoder (new_record C) ≡ false → wrong_buffer C.capacity (length m) ≡ true → Unfit C m

module _ (C : Setup) (m : List ℕ) where
  record Stays (a : After) : Type 0 where
    decoder_is : a.decoder ≡ new_record C
    memory_is : a.memory ≡ m
    brings_none : [] ≡ brought a.answer
    no_payload : (P : List ℕ) → a.answer ≡ payload P → ⊥

  stays_act : (o : Op) → Unfit C m → Stays (act (new_record C) m o)
  unfolding act push_record finalize_record reset_record finalized reset_count
  stays_act (push b) (by_way u) = rw u (record { decoder_is = refl; memory_is = refl; brings_none = refl; no_payload = λ P e. never_refusal 4 P e })
  stays_act (push b) (by_buffer g w) = rw (g, w) (record { decoder_is = refl; memory_is = refl; brings_none = refl; no_payload = λ P e. never_refusal 5 P e })
  stays_act finalize (by_way u) = rw u (record { decoder_is = refl; memory_is = refl; brings_none = refl; no_payload = λ P e. never_refusal 4 P e })
  stays_act finalize (by_buffer g w) = rw g (record { decoder_is = refl; memory_is = refl; brings_none = refl; no_payload = λ P e. never_nothing P e })
  stays_act reset u = record { decoder_is = refl; memory_is = refl; brings_none = refl; no_payload = λ P e. never_count 0 P e }

  stays_behind : Unfit C m → (os : List Op) (a : After) → a.decoder ≡ new_record C → a.memory ≡ m → (o : Op) → Stays (act (R.behind a os).decoder (R.behind a os).memory o)
  unfolding R.behind
  stays_behind u [] a d n o = rw (d, n) (stays_act o u)
  stays_behind u (p ∷ os) a d n o =
      let b : Stays (act a.decoder a.memory p) = rw (d, n) (stays_act p u) in
      stays_behind u os (act a.decoder a.memory p) b.decoder_is b.memory_is o

  new_empty : Unfit C m → payload_record (new_record C) m ≡ []
  unfolding payload_record has_payload
  new_empty (by_way u) = rw u
  new_empty (by_buffer g w) = rw (g, w)

-- ---- either way

-- the claim for one setup and one buffer
abbrev ClaimFor : Setup → List ℕ → Type 0
ClaimFor C m =
    (payload_record (new_record C) m ≡ [])
    × ((os : List Op) (o : Op)
    → let a : Gave Decoder = behind_of ours (new_record C) m os o in
    (payload_record a.decoder a.memory ≡ brought a.answer)
    × ((P : List ℕ) → PushesBytes (os ++ o ∷ []) → a.answer ≡ payload P → EndsFrame (bytes_from [] os (answers ours (new_record C) m os)) o P))

unfit_sound : (C : Setup) (m : List ℕ) → Unfit C m → ClaimFor C m
unfit_sound C m u = (
  new_empty C m u,
  λ os o.
      let x : After = R.behind (after nothing (new_record C) m) os in
      let b : Stays C m (act x.decoder x.memory o) = stays_behind C m u os (after nothing (new_record C) m) refl refl o in
      rw (behind_is os (after nothing (new_record C) m) o) (
        rw (b.decoder_is, b.memory_is) (new_empty C m u) ∙ b.brings_none,
        λ P bytes e. absurd (b.no_payload P e),
      ),
)

fit_sound : (C : Setup) (m : List ℕ) → bad_decoder (new_record C) ≡ false → wrong_buffer C.capacity (length m) ≡ false → ClaimFor C m
fit_sound C m g b =
    let w : Known C = sane_way (new_record C) g in
    let r = right_buffer C.capacity (length m) b in
    let le : C.capacity ≤ 1048576 = omega (arith, r.0, r.1) in (
      payload_held_lem _ _ (new_fit C m w r.0 le),
      λ os o.
          rw (answers_new C m os w r.0 le, behind_is os (after nothing (new_record C) m) o)
          (hands_back C m w r.0 le os o, ends_frame C m w r.0 le os o),
    )

pub soundness : Soundness ours
soundness C m =
    cases (bad_decoder (new_record C)) (λ u. unfit_sound C m (by_way u))
    (λ g. cases (wrong_buffer C.capacity (length m)) (λ w. unfit_sound C m (by_buffer g w)) (fit_sound C m g))
