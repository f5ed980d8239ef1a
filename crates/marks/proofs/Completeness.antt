-- Every sound frame that fits is handed out; where one doesn't fit, the first event behind its start is 3.
use mathlib.Core.Path.{◌≡◌, refl, ap, sym, ◌∙◌}
use mathlib.Core.Bool.{Bool, true, false, cond}
use mathlib.Core.List.{List, [], ◌∷◌, ◌++◌, append-nil, map}
use Prim.Native.Nat.{ℕ, suc, ◌+◌, ◌≤◌, ◌<◌}
use native.Mathlib.Omega.{arith}
use lib.ListN.{length, take, replicate}
use lib.Dec.{eqb}
use Rattle.frame.specs.Frame.{Sound, start_seq}
use Rattle.decoder.specs.Push.{in_way, State, silent, discarded, memory, Out, says, step, begun, noticed, fresh}
use Rattle.decoder.specs.Record.{DecoderAnswer, nothing, refusal, numbered, setup, state_of, new_record}
use Rattle.decoder.specs.Run as R
use Rattle.decoder.specs.Run.{KnownWay, Op}
use Rattle.decoder.proofs.States.{run_state, act_state, answer_state}
use Rattle.decoder.specs.declared.Decoder.{Decoder}
use Rattle.decoder.specs.declared.Setup.{Setup}
use Rattle.decoder.proofs.Search.{known_is}
use Rattle.decoder.proofs.Valid.{sane_search}
use Rattle.decoder.proofs.Faithful.{Fit}
use Rattle.decoder.proofs.Runs.{run_is, acts, new_fit}
use Rattle.marks.specs.Decoders.{Gave, ours, answers, behind_of, frame_says}
use Rattle.marks.specs.Mark2.{eighth, NoRoom, Completeness, Ready, nothing_matched, some_matched, behind_payload, OurSearch}
use Rattle.marks.proofs.Less.{step_less}
use Rattle.since.proofs.Rules.{Silent, stop, silent_on}
use Rattle.since.proofs.Starts.{Starts, starts_none, starts_done, starts_second}
use Rattle.marks.proofs.RoundTrip.{framed_runs, sound_decodes}
use Rattle.marks.proofs.Recovery.{answers_run}

-- ---- pushes that say nothing with more room, and a last one that finds none

record Stops (C : Setup) (s : State) (bytes : List ℕ) : Type 0 where
  quiet : ℕ
  rest : List DecoderAnswer
  is : run_state C s (map R.push bytes) ≡ replicate quiet nothing ++ refusal 3 [] ∷ rest

stops_here : (C : Setup) (s : State) (b : ℕ) (l : List ℕ) → step C s b ≡ says fresh memory → Stops C s (b ∷ l)
unfolding run_state act_state answer_state
stops_here C s b l e =
    record { quiet = 0; rest = run_state C fresh (map R.push l); is = ap (λ (o : Out). numbered o.event ∷ run_state C o.state (map R.push l)) e }

stops_later : (C : Setup) (s t : State) (b : ℕ) (l : List ℕ) → step C s b ≡ says t silent → Stops C t l → Stops C s (b ∷ l)
unfolding run_state act_state answer_state
stops_later C s t b l e r =
    record {
      quiet = suc r.quiet;
      rest = r.rest;
      is = ap (λ (o : Out). numbered o.event ∷ run_state C o.state (map R.push l)) e ∙ ap (λ (k : List DecoderAnswer). nothing ∷ k) r.is;
    }

stops_short : (C D : Setup) {s t : State} {l : List ℕ} (z : ℕ) → C.way ≡ D.way → C.capacity ≤ D.capacity → Silent D s l t → step C t z ≡ says fresh memory → Stops C s (l ++ z ∷ [])
stops_short C D {s = s} z w le stop e = stops_here C s z [] e
stops_short C D {s = s} z w le (silent_on {t = t} {b = b} {l = l} e' q) e =
    step_less C D s b w le (λ full. stops_here C s b (l ++ z ∷ []) full) (λ same. stops_later C s t b (l ++ z ∷ []) (same ∙ e') (stops_short C D z w le q e))

-- ---- the claim

pub eighth_is : (noise : ℕ) → numbered (noticed noise) ≡ eighth noise
eighth_is noise = told (eqb noise 0)
  where
    told : (t : Bool) → numbered (cond t silent (discarded noise)) ≡ cond t nothing (refusal 6 (noise ∷ []))
    told true = refl
    told false = refl

module _ (C : Setup) (x : State) (noise : ℕ) (finds : Starts C x noise) (frame P : List ℕ) (s : Sound frame P) where
  fits : length s.D + 4 ≤ C.capacity → run_state C x (map R.push frame) ≡ frame_says (eighth noise) frame P
  unfolding run_state
  fits room =
      ap (run_state C x) (sym (append-nil (map R.push frame)))
      ∙ (sound_decodes C x noise finds frame P s room).answers' []
      ∙ append-nil (frame_says (numbered (noticed noise)) frame P)
      ∙ ap (λ (a : DecoderAnswer). frame_says a frame P) (eighth_is noise)

  lacks_at : (l : List ℕ) (z : ℕ) → frame ≡ start_seq ++ (l ++ z ∷ []) → Stops C begun (l ++ z ∷ []) → NoRoom noise (run_state C x (map R.push frame))
  lacks_at l z shape t =
      record {
        quiet = t.quiet;
        rest = t.rest;
        is = ap (λ (f : List ℕ). run_state C x (map R.push f)) shape
            ∙ ap (run_state C x) (sym (append-nil (map R.push (start_seq ++ (l ++ z ∷ [])))))
            ∙ finds.leads (l ++ z ∷ []) []
            ∙ ap (λ (k : List Op). replicate 7 nothing ++ numbered (noticed noise) ∷ run_state C begun k) (append-nil (map R.push (l ++ z ∷ [])))
            ∙ ap (λ (k : List DecoderAnswer). replicate 7 nothing ++ numbered (noticed noise) ∷ k) t.is
            ∙ ap (λ (a : DecoderAnswer). replicate 7 nothing ++ a ∷ (replicate t.quiet nothing ++ refusal 3 [] ∷ t.rest)) (eighth_is noise);
      }

  lacks : C.capacity < length s.D + 4 → NoRoom noise (run_state C x (map R.push frame))
  lacks small =
      let B : Setup = in_way C.way (length s.D + 4) in
      let r = framed_runs B s.D s.p s.aligned s.small s.within (omega arith) in
      lacks_at r.l r.z (s.whole ∙ r.shape) (stops_short C B r.z refl (omega arith) r.ends.quietly (r.ends.full C small))

-- ours is in such a state
starts_from : (C : Setup) (d : Decoder) (m : List ℕ) (noise : ℕ) → OurSearch C d m noise → Starts C (state_of d m) noise
starts_from C d m noise h = from_ready h.searches
  where
    from_ready : Ready d.way d.state noise → Starts C (state_of d m) noise
    from_ready (nothing_matched e) = rw e (starts_none C noise d.raw_msg_len)
    from_ready (some_matched n before s e small z) =
        rw (e, z) (starts_second C n before d.raw_msg_len (ap (λ (x : Setup). x.way) (sym h.setup') ∙ s) (let lt = (sane_search d h.good before n e).1 in omega arith) small)
    from_ready (behind_payload e z) = rw (e, z) (starts_done C (take d.fill m))

pub completeness : Completeness ours OurSearch
completeness C d m noise h frame P s =
    let t = starts_from C d m noise h in
    let f : Fit d m = record { state = h.good; buffer = h.lent } in
    let e : answers ours d m (map R.push frame) ≡ run_state C (state_of d m) (map R.push frame) =
    answers_run (map R.push frame) d m ∙ run_is (map R.push frame) d m f ∙ ap (λ (x : Setup). run_state x (state_of d m) (map R.push frame)) h.setup' in (
      λ room. e ∙ fits C (state_of d m) noise t frame P s room,
      λ small. rw e (lacks C (state_of d m) noise t frame P s small),
    )

-- a new decoder is such a search
pub new_searches : (C : Setup) (m : List ℕ) → KnownWay C.way → length m ≡ C.capacity → C.capacity ≤ 1048576 → OurSearch C (new_record C) m 0
new_searches C m way l le =
    let f = new_fit C m (known_is C.way way) l le in
    record { searches = nothing_matched refl; good = f.state; lent = f.buffer; setup' = refl }

-- and so is what operations leave, wherever its state is such
act_searches : (C : Setup) (d : Decoder) (m : List ℕ) (o : Op) (noise : ℕ) → Fit d m → setup d ≡ C
    → Ready (R.act d m o).decoder.way (R.act d m o).decoder.state noise → OurSearch C (R.act d m o).decoder (R.act d m o).memory noise
act_searches C d m o noise f e u =
    let a = acts d m o f in
    record { searches = u; good = a.fit.state; lent = a.fit.buffer; setup' = a.setup' ∙ e }

behind_searches : (C : Setup) (os : List Op) (d : Decoder) (m : List ℕ) (o : Op) (noise : ℕ) → Fit d m → setup d ≡ C
    → let a : Gave Decoder = behind_of ours d m os o in
    Ready a.decoder.way a.decoder.state noise → OurSearch C a.decoder a.memory noise
unfolding behind_of
behind_searches C [] d m o noise f e u = act_searches C d m o noise f e u
behind_searches C (p ∷ os) d m o noise f e u =
    let a = acts d m p f in
    behind_searches C os (R.act d m p).decoder (R.act d m p).memory o noise a.fit (a.setup' ∙ e) u

pub reached_searches : (C : Setup) (m : List ℕ) → KnownWay C.way → length m ≡ C.capacity → C.capacity ≤ 1048576 → (os : List Op) (o : Op) (noise : ℕ)
    → let a : Gave Decoder = behind_of ours (ours.new C) m os o in
    Ready a.decoder.way a.decoder.state noise → OurSearch C a.decoder a.memory noise
reached_searches C m way l le os o noise u = behind_searches C os (new_record C) m o noise (new_fit C m (known_is C.way way) l le) refl u
