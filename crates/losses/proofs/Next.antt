-- The next loss by a watch is the next loss by the bytes themselves; and slices, one after another, tell it.
use Prim.Native.Nat.{ℕ, suc, ◌+◌, ◌-◌}
use mathlib.Core.Path.{◌≡◌, refl, sym, ap, ◌∙◌, subst}
use mathlib.Core.Bool.{Bool, true, false, cond, not, false≢true}
use mathlib.Core.List.{List, [], ◌∷◌, ◌++◌}
use native.Mathlib.Omega.{arith}
use lib.ListN.{length, take, length-append}
use lib.Seq.{length-take-le}
use lib.Dec.{eqb}
use Rattle.frame.specs.Frame.{start_seq}
use Rattle.search.specs.Found.{EndsInStart}
use Rattle.decoder.proofs.Split.{cases}
use Rattle.decoder.proofs.Faithful.{Fit, Steps, push_is_step}
use Rattle.decoder.specs.declared.Decoder.{Decoder}
use Rattle.decoder.specs.declared.Setup.{Setup}
use Rattle.decoder.specs.Push.{State, PushEvent, silent, discarded, pays_out, memory, bad_escape, bad_message, Out, step}
use Rattle.decoder.specs.Record.{DecoderAnswer, nothing, payload, count, refusal, After, numbered, setup, state_of, push_record, finalize_record}
use Rattle.decoder_slice.specs.Slice.{says_nothing}
use Rattle.decoder_slice.proofs.Taken.{is_nothing}
use Rattle.since.specs.Bytes.{grown_since}
use Rattle.since.specs.Since.{frame_head}
use Rattle.since.specs.Exactly.{ReadExactly, SaysExactly, start_found_exactly, start_inside_exactly}
use Rattle.since.proofs.KeptExactly.{KeptExactly, kept_exactly}
use Rattle.losses.specs.Loss.{begins_in_start, has_start, cause_of, piece_of, loss_over, loss_at, loss_after, lost_is, none_lost, is_refusal, hands_out, next_behind}
use Rattle.losses.specs.Watch.{no_look, over_of, look_behind, loss_seen, watched, moved_on, watch_behind}
use Rattle.losses.specs.Cut.{next_seen}
use Rattle.losses.specs.declared.Loss.{Loss}
use Rattle.losses.specs.declared.Watch.{Watch}
use Rattle.losses.proofs.Tracks.{Tracks, tracks_new, tracks_start, tracks_on, piece_hides}

-- a watch whose decoder, which is not refused, has read the bytes h since its search or frame began
pub record WatchReads (w : Watch) (m : List ℕ) (begun : ℕ) (h : List ℕ) : Type 0 where
  pub tracks : Tracks w begun h
  pub fit : Fit w.decoder m
  pub reads : ReadExactly (setup w.decoder) h (state_of w.decoder m)

-- ---- a DiscardedBytes comes with the last byte of a start

says_start : {C : Setup} {w : List ℕ} {k : ℕ} → SaysExactly C w (discarded k) → EndsInStart w
says_start (start_found_exactly k x is p q r s) = record { before = x; is = is }
says_start (start_inside_exactly k D is p q r) = record { before = frame_head D; is = is }

-- ---- a push, by its event

module _ (C : Setup) (w : Watch) (begun : ℕ) (h : List ℕ) (b : ℕ) (t : Tracks w begun h) where
  abbrev g : List ℕ
  g = h ++ b ∷ []

  long_is : suc w.pushed - w.begun ≡ length g
  long_is = omega (arith, t.begun', t.pushed', length-append h (b ∷ []))

  -- what is told of a piece of so many bytes
  told_same : (a : DecoderAnswer) (hides hides' : Bool) (long : ℕ) → hides ≡ hides'
      → loss_over (cause_of false (eqb w.look.start_end 8) hides long a) w.begun long ≡ loss_over (cause_of false (begins_in_start h) hides' long a) begun long
  told_same a hides hides' long e = rw (t.begun', t.running, e)

  loss_same : (e : PushEvent) → SaysExactly C g e → is_refusal (numbered e) ≡ true
      → loss_seen false (numbered e) w.look w.begun (over_of (numbered e) (suc w.pushed - w.begun)) ≡ loss_at false (numbered e) begun h (piece_of (numbered e) g)
  unfolding cause_of
  loss_same silent said r = absurd (false≢true r)
  loss_same (pays_out P) said r = absurd (false≢true r)
  loss_same (discarded k) said r =
      let piece : length (take (length g - 8) g) ≡ length g - 8 = length-take-le (length g - 8) g (omega arith) in
      rw (long_is, piece) (told_same (refusal 6 (k ∷ [])) (not (eqb w.look.start_end 0)) (has_start (take (length g - 8) g)) (length g - 8) (sym t.hides ∙ sym (piece_hides h b (says_start said))))
  loss_same memory said r = rw (long_is, t.begun')
  loss_same (bad_escape x y z u) said r = rw (long_is, t.begun')
  loss_same (bad_message read computed mis p) said r = rw (long_is, t.begun')

  -- the watch behind an event
  anew : (d : Decoder) (n begun' : ℕ) → w.begun + n ≡ begun' → suc w.pushed ≡ begun' → Tracks (watched d (suc w.pushed) (w.begun + n) no_look) begun' []
  anew d n begun' e f = rw (e, f) (tracks_new d begun')

  tracks_behind : (d : Decoder) (e : PushEvent) → SaysExactly C g e → says_nothing (numbered e) ≡ false
      → Tracks (watched d (suc w.pushed) (w.begun + over_of (numbered e) (suc w.pushed - w.begun)) (look_behind (numbered e))) (begun + over_of (numbered e) (length g)) (grown_since (numbered e) h b)
  tracks_behind d silent said q = absurd (false≢true (sym q))
  tracks_behind d (pays_out P) said q = anew d _ _ (rw (long_is, t.begun')) (omega (arith, t.pushed', length-append h (b ∷ [])))
  tracks_behind d (discarded k) said q =
      let x = says_start said in
      let n : suc w.pushed ≡ begun + (length g - 8) + 8 = omega (arith, t.pushed', length-append h (b ∷ []), ap length x.is ∙ length-append x.before start_seq) in
      rw (long_is, t.begun', n) (tracks_start d (begun + (length g - 8)))
  tracks_behind d memory said q = anew d _ _ (rw (long_is, t.begun')) (omega (arith, t.pushed', length-append h (b ∷ [])))
  tracks_behind d (bad_escape x y z u) said q = anew d _ _ (rw (long_is, t.begun')) (omega (arith, t.pushed', length-append h (b ∷ [])))
  tracks_behind d (bad_message read computed mis p) said q = anew d _ _ (rw (long_is, t.begun')) (omega (arith, t.pushed', length-append h (b ∷ [])))

-- ---- a push, whatever it says

module _ (w : Watch) (m : List ℕ) (begun : ℕ) (h : List ℕ) (k : WatchReads w m begun h) (b : ℕ) where
  abbrev pushed : After
  pushed = push_record w.decoder m b

  abbrev out : Out
  out = step (setup w.decoder) (state_of w.decoder m) b

  steps : Steps w.decoder m b pushed
  steps = push_is_step w.decoder m b k.fit

  said : KeptExactly (setup w.decoder) h b out
  said = kept_exactly (setup w.decoder) h (state_of w.decoder m) b k.reads

  -- its answer is that of an event
  pub push_event : (e : PushEvent) × (pushed.answer ≡ numbered e)
  push_event = (out.event, steps.answer)

  reads_on : ReadExactly (setup pushed.decoder) (grown_since pushed.answer h b) (state_of pushed.decoder pushed.memory)
  reads_on =
      subst (λ (C : Setup). ReadExactly C (grown_since pushed.answer h b) (state_of pushed.decoder pushed.memory)) (sym steps.setup')
      (subst (λ (s : State). ReadExactly (setup w.decoder) (grown_since pushed.answer h b) s) (sym steps.view')
      (subst (λ (a : DecoderAnswer). ReadExactly (setup w.decoder) (grown_since a h b) out.state) (sym steps.answer) said.reads))

  pub push_quiet : says_nothing pushed.answer ≡ true → WatchReads (moved_on w pushed.decoder b) pushed.memory begun (h ++ b ∷ [])
  push_quiet q = record {
    tracks = tracks_on w begun h pushed.decoder b k.tracks;
    fit = steps.fit;
    reads = subst (λ (a : DecoderAnswer). ReadExactly (setup pushed.decoder) (grown_since a h b) (state_of pushed.decoder pushed.memory)) (is_nothing pushed.answer q) reads_on;
  }

  pub push_loud : says_nothing pushed.answer ≡ false
      → WatchReads (watch_behind w pushed) pushed.memory (begun + over_of pushed.answer (length (h ++ b ∷ []))) (grown_since pushed.answer h b)
  push_loud q = record {
    tracks = subst (λ (a : DecoderAnswer). Tracks (watched pushed.decoder (suc w.pushed) (w.begun + over_of a (suc w.pushed - w.begun)) (look_behind a)) (begun + over_of a (length (h ++ b ∷ []))) (grown_since a h b))
        (sym steps.answer) (tracks_behind (setup w.decoder) w begun h b k.tracks pushed.decoder out.event said.told (ap says_nothing (sym steps.answer) ∙ q));
    fit = steps.fit;
    reads = reads_on;
  }

  pub push_loss : is_refusal pushed.answer ≡ true
      → loss_seen false pushed.answer w.look w.begun (over_of pushed.answer (suc w.pushed - w.begun)) ≡ loss_at false pushed.answer begun h (piece_of pushed.answer (h ++ b ∷ []))
  push_loss r = rw steps.answer (loss_same (setup w.decoder) w begun h b k.tracks out.event said.told (ap is_refusal (sym steps.answer) ∙ r))

-- a payload leaves no byte
pays : (a : DecoderAnswer) (h : List ℕ) (b n : ℕ) → hands_out a ≡ true → (says_nothing a ≡ false) × (grown_since a h b ≡ []) × (over_of a n ≡ n)
pays nothing h b n t = absurd (false≢true t)
pays (payload bytes) h b n t = (refl, refl, refl)
pays (count k) h b n t = absurd (false≢true t)
pays (refusal k v) h b n t = absurd (false≢true t)

-- of an event nothing else is said
says_rest : (e : PushEvent) → is_refusal (numbered e) ≡ false → hands_out (numbered e) ≡ false → says_nothing (numbered e) ≡ true
says_rest silent r t = refl
says_rest (pays_out P) r t = absurd (false≢true (sym t))
says_rest (discarded k) r t = absurd (false≢true (sym r))
says_rest memory r t = absurd (false≢true (sym r))
says_rest (bad_escape x y z u) r t = absurd (false≢true (sym r))
says_rest (bad_message read computed mis p) r t = absurd (false≢true (sym r))

-- ---- the next loss

pub loss_at_end : (w : Watch) (begun : ℕ) (h : List ℕ) (a : DecoderAnswer) → Tracks w begun h → loss_seen true a w.look w.begun (w.pushed - w.begun) ≡ loss_at true a begun h h
loss_at_end w begun h a t =
    let n : w.pushed - w.begun ≡ length h = omega (arith, t.begun', t.pushed') in
    rw (n, t.begun', t.running, t.hides)

-- by the watch and by the bytes
pub seen_is : (bytes : List ℕ) (w : Watch) (m : List ℕ) (begun : ℕ) (h : List ℕ) → WatchReads w m begun h → next_seen w m bytes ≡ next_behind w.decoder m begun h bytes
unfolding next_seen next_behind
seen_is [] w m begun h k =
    ap (λ (l : Loss). loss_after (cond (is_refusal (finalize_record w.decoder).answer) (lost_is l) none_lost) m) (loss_at_end w begun h (finalize_record w.decoder).answer k.tracks)
seen_is (b ∷ bytes) w m begun h k =
    let a : After = push_record w.decoder m b in
    let g : List ℕ = h ++ b ∷ [] in
    cases (is_refusal a.answer)
    (λ r. rw r (ap (λ (l : Loss). loss_after (lost_is l) a.memory) (push_loss w m begun h k b r)))
    (λ r. cases (hands_out a.answer)
    (λ t.
    let p = pays a.answer h b (length g) t in
    let i = seen_is bytes (watch_behind w a) a.memory (begun + over_of a.answer (length g)) (grown_since a.answer h b) (push_loud w m begun h k b p.0) in
    rw (r, t) (i ∙ rw (p.1, p.2)))
    (λ t.
    let q : says_nothing a.answer ≡ true = rw (steps w m begun h k b).answer (says_rest (out w m begun h k b).event (ap is_refusal (sym (steps w m begun h k b).answer) ∙ r) (ap hands_out (sym (steps w m begun h k b).answer) ∙ t)) in
    rw (r, t) (seen_is bytes (moved_on w a.decoder b) a.memory begun g (push_quiet w m begun h k b q))))
