-- A recording in slices, cut anyhow: the watch tells what the recording's bytes tell, and so the losses that calls tell.
use mathlib.Core.Path.{◌≡◌, refl, ap, sym, ◌∙◌, subst}
use mathlib.Core.Bool.{◌||◌, true, false, cond, false≢true, Bool, not}
use mathlib.Core.List.{List, [], ◌∷◌, ◌++◌, map}
use Prim.Native.Nat.{ℕ, zero, suc, ◌+◌, ◌-◌, ◌^◌, ◌≤◌, ◌<◌}
use native.Mathlib.Omega.{arith}
use lib.ListN.{length, drop, length-append, length-drop, take}
use borrow.Author.Tests.{le-ltb, lt-ltb}
use Rattle.decoder.specs.Push.{in_way, State, PushEvent, silent, discarded, pays_out, memory, bad_escape, bad_message, fresh, step, finalized, Out}
use Rattle.decoder.specs.Record.{DecoderAnswer, nothing, payload, count, refusal, numbered, After, setup, state_of, new_record, push_record, finalize_record, after, unknown_way, bad_decoder, wrong_buffer}
use Rattle.decoder.specs.Run.{KnownWay, push, finalize, act, behind, Op}
use Rattle.decoder.specs.declared.Decoder.{Decoder}
use Rattle.decoder.specs.declared.Setup.{Setup}
use Rattle.decoder.proofs.Search.{known_is, unknown_is}
use Rattle.decoder.proofs.Split.{cases}
use Rattle.decoder.proofs.States.{answer_state}
use Rattle.decoder.proofs.Faithful.{Fit, Steps, push_is_step}
use Rattle.decoder.proofs.Runs.{acts, new_fit, run_new}
use Rattle.decoder_slice.specs.Slice.{says_nothing}
use Rattle.since.specs.Bytes.{grown_since}
use Rattle.since.proofs.KeptExactly.{reads_fresh_exactly, kept_exactly}
use Rattle.losses.specs.Loss.{lost_is, none_lost, is_refusal, cause_of}
use Rattle.losses.specs.Watch.{WatchSaid, quietly, kept_over, lost_over, WatchAfter, watch_after, watch_new, over_of, moved_on, watch_behind, sight_at, watches_from, bad_watch, watch_slice, said_at_end, watch_end, loss_seen, watch_refused}
use Rattle.losses.specs.declared.Loss.{Loss}
use Rattle.losses.specs.declared.Watch.{Watch}
use Rattle.losses.proofs.Tracks.{tracks_new}
use Rattle.losses.proofs.Next.{WatchReads, push_quiet, push_loud, push_loss, loss_at_end}
use Rattle.losses.proofs.Slices.{watches_pushed}
use Rattle.losses.proofs.Taken.{slice_watches}
use lib.Dec.{eqb}
use lib.Seq.{length-take-le}
use Rattle.since.specs.Exactly.{SaysExactly}
use Rattle.refusals.specs.Numbers.{limit}
use Rattle.causes.proofs.Tools.{dropped_ends}
use Rattle.causes.proofs.Links.{ends_start}
use Rattle.decoder.proofs.Valid.{not_bad}
use Rattle.frame.proofs.Cases.{by_eq}
use Rattle.causes.specs.Tools.{ends_at_start, buffer_behind}
use Rattle.causes.specs.Watchers.{our_watcher, Watches, watches_over, watches_quiet, watches_kept, watches_lost, joined, WatchesAsCalled, told_at, RefusesAtSlices, GoodWatcher}
use Rattle.causes.proofs.Calls.{our_calls}
use Rattle.causes.proofs.Seen.{seen_by, seen_in, end_in, seen_losses}
use Rattle.causes.proofs.Parts.{parted_new}

-- ---- byte by byte

-- what is seen of the bytes, and the watch and the buffer behind them
pub record SeenBytes : Type 0 where
  pub seen : List WatchSaid
  pub watch : Watch
  pub buffer : List ℕ

abbrev seen_more : WatchSaid → SeenBytes → SeenBytes
seen_more s x = record { seen = s ∷ x.seen; watch = x.watch; buffer = x.buffer }

unfoldable pub seen_over : Watch → List ℕ → List ℕ → SeenBytes
seen_over w m [] = record { seen = []; watch = w; buffer = m }
seen_over w m (b ∷ bytes) =
    let a : After = push_record w.decoder m b in
    cond (says_nothing a.answer) (seen_over (moved_on w a.decoder b) a.memory bytes) (seen_more (sight_at w a.answer) (seen_over (watch_behind w a) a.memory bytes))

-- a frame or a loss, told with the byte behind which so many were pushed
pub data Loud (pushed : ℕ) : WatchSaid → Type 0 where
  loud_kept : (first last : ℕ) → last ≡ pushed → Loud pushed (kept_over first last)
  loud_lost : (l : Loss) → told_at l ≡ pushed → Loud pushed (lost_over l)

module _ (w : Watch) (m : List ℕ) (at : ℕ) (h : List ℕ) (k : WatchReads w m at h) (b : ℕ) where
  abbrev long : ℕ
  long = suc w.pushed - w.begun

  all_long : w.begun + long ≡ suc w.pushed
  all_long = let t = k.tracks in omega (arith, t.begun', t.pushed')

  -- a refusal that is no 6 is told with the piece's last byte
  loud_alone : (a : DecoderAnswer) → over_of a long ≡ long → ((running hides : Bool) (n : ℕ) → ends_at_start (cause_of false running hides n a) ≡ false) → told_at (loss_seen false a w.look w.begun (over_of a long)) ≡ suc w.pushed
  loud_alone a over ends = rw (over, ends (eqb w.look.start_end 8) (not (eqb w.look.start_end 0)) long) (omega (arith, all_long))

  loud_start : (n : ℕ) → SaysExactly (setup w.decoder) (h ++ b ∷ []) (discarded n) → told_at (loss_seen false (refusal 6 (n ∷ [])) w.look w.begun (long - 8)) ≡ suc w.pushed
  loud_start n e =
      let x = ends_start (setup w.decoder) (h ++ b ∷ []) n (discarded n) refl e in
      let g : length (h ++ b ∷ []) ≡ suc (length h) = simp length-append (omega arith) in
      let y : length (h ++ b ∷ []) ≡ length x.0 + 8 = ap length x.1 ∙ simp length-append in
      let t = k.tracks in
      rw (dropped_ends (eqb w.look.start_end 8) (not (eqb w.look.start_end 0)) (long - 8) (n ∷ [])) (omega (arith, all_long, g, y, t.begun', t.pushed'))

  sight_loud : (e : PushEvent) → SaysExactly (setup w.decoder) (h ++ b ∷ []) e → says_nothing (numbered e) ≡ false → Loud (suc w.pushed) (sight_at w (numbered e))
  unfolding cause_of
  sight_loud silent said q = absurd (false≢true (sym q))
  sight_loud (discarded n) said q = loud_lost _ (loud_start n said)
  sight_loud (pays_out P) said q = loud_kept _ _ all_long
  sight_loud memory said q = loud_lost _ (loud_alone (numbered memory) refl (λ r i n. refl))
  sight_loud (bad_escape x y z u) said q = loud_lost _ (loud_alone (numbered (bad_escape x y z u)) refl (λ r i n. refl))
  sight_loud (bad_message read computed mis p) said q = loud_lost _ (loud_alone (numbered (bad_message read computed mis p)) refl (λ r i n. refl))

-- the decoder and the buffer behind bytes l are the watch's
pub record Went (w : Watch) (m l : List ℕ) (w' : Watch) (m' : List ℕ) : Type 0 where
  pub decoder' : (z : DecoderAnswer) → (behind (after z w.decoder m) (map push l)).decoder ≡ w'.decoder
  pub memory' : (z : DecoderAnswer) → (behind (after z w.decoder m) (map push l)).memory ≡ m'

went_none : (w : Watch) (m : List ℕ) → Went w m [] w m
unfolding behind
went_none w m = record { decoder' = λ z. refl; memory' = λ z. refl }

went_more : (w w₁ w' : Watch) (m m₁ m' l : List ℕ) (b : ℕ) → (push_record w.decoder m b).decoder ≡ w₁.decoder → (push_record w.decoder m b).memory ≡ m₁ → Went w₁ m₁ l w' m' → Went w m (b ∷ l) w' m'
unfolding behind act
went_more w w₁ w' m m₁ m' l b d e k =
    let a : After = push_record w.decoder m b in
    let same' : a ≡ after a.answer w₁.decoder m₁ = (λ i. after a.answer (d i) (e i)) in
    record {
      decoder' = λ z. ap (λ (x : After). (behind x (map push l)).decoder) same' ∙ k.decoder' a.answer;
      memory' = λ z. ap (λ (x : After). (behind x (map push l)).memory) same' ∙ k.memory' a.answer;
    }

-- ---- one slice c of them, what is left of the recording being `rest`

pub data SliceOf (w : Watch) (m : List ℕ) (c rest : List ℕ) (n : ℕ) : WatchAfter → Type 0 where
  slice_quiet : (w' : Watch) (m' : List ℕ) (at : ℕ) (h : List ℕ) → WatchReads w' m' at h → Went w m c w' m' → seen_over w m (c ++ rest) ≡ seen_over w' m' rest → SliceOf w m c rest n (watch_after quietly w' (n + length c) m')
  slice_loud : (s : WatchSaid) (w' : Watch) (m' : List ℕ) (at : ℕ) (h : List ℕ) (k : ℕ) → Loud (w.pushed + suc k) s → suc k ≤ length c → WatchReads w' m' at h → Went w m (take (suc k) c) w' m'
      → seen_over w m (c ++ rest) ≡ seen_more s (seen_over w' m' (drop (suc k) c ++ rest)) → SliceOf w m c rest n (watch_after s w' (n + suc k) m')

slice_later : (w : Watch) (m : List ℕ) (b : ℕ) (c rest : List ℕ) (n : ℕ) (t : WatchAfter)
    → let w₁ : Watch = moved_on w (push_record w.decoder m b).decoder b in
    let m₁ : List ℕ = (push_record w.decoder m b).memory in
    seen_over w m (b ∷ (c ++ rest)) ≡ seen_over w₁ m₁ (c ++ rest) → SliceOf w₁ m₁ c rest (suc n) t → SliceOf w m (b ∷ c) rest n t
slice_later w m b c rest n t e (slice_quiet w₁ m₁ at h k g q) =
    subst (λ (j : ℕ). SliceOf w m (b ∷ c) rest n (watch_after quietly w₁ j m₁)) (let i : n + suc (length c) ≡ suc n + length c = omega arith in i) (slice_quiet w₁ m₁ at h k (went_more w _ w₁ m _ m₁ c b refl refl g) (e ∙ q))
slice_later w m b c rest n t e (slice_loud s w₁ m₁ at h k loud le r g q) =
    subst (λ (j : ℕ). SliceOf w m (b ∷ c) rest n (watch_after s w₁ j m₁)) (let i : n + suc (suc k) ≡ suc n + suc k = omega arith in i)
    (slice_loud s w₁ m₁ at h (suc k) (subst (λ (j : ℕ). Loud j s) (let i : suc w.pushed + suc k ≡ w.pushed + suc (suc k) = omega arith in i) loud) (omega arith) r (went_more w _ w₁ m _ m₁ (take (suc k) c) b refl refl g) (e ∙ q))

slice_loud_lem : (b : ℕ) (c rest : List ℕ) (n : ℕ) (w : Watch) (m : List ℕ) (at : ℕ) (h : List ℕ) → WatchReads w m at h → says_nothing (push_record w.decoder m b).answer ≡ false
    → let a : After = push_record w.decoder m b in
    seen_over w m (b ∷ (c ++ rest)) ≡ seen_more (sight_at w a.answer) (seen_over (watch_behind w a) a.memory (c ++ rest)) → SliceOf w m (b ∷ c) rest n (watch_after (sight_at w a.answer) (watch_behind w a) (suc n) a.memory)
slice_loud_lem b c rest n w m at h k q seen' =
    let a : After = push_record w.decoder m b in
    let o : Out = step (setup w.decoder) (state_of w.decoder m) b in
    let is : a.answer ≡ numbered o.event = (push_is_step w.decoder m b k.fit).answer in
    let told = (kept_exactly (setup w.decoder) h (state_of w.decoder m) b k.reads).told in
    let loud : Loud (suc w.pushed) (sight_at w a.answer) = subst (λ (x : DecoderAnswer). Loud (suc w.pushed) (sight_at w x)) (sym is) (sight_loud w m at h k b o.event told (ap says_nothing (sym is) ∙ q)) in
    subst (λ (j : ℕ). SliceOf w m (b ∷ c) rest n (watch_after (sight_at w a.answer) (watch_behind w a) j a.memory)) (let i : n + suc 0 ≡ suc n = omega arith in i)
    (slice_loud (sight_at w a.answer) (watch_behind w a) a.memory _ _ 0 (subst (λ (j : ℕ). Loud j (sight_at w a.answer)) (let i : suc w.pushed ≡ w.pushed + suc 0 = omega arith in i) loud) (omega arith) (push_loud w m at h k b q)
    (went_more w (watch_behind w a) (watch_behind w a) m a.memory a.memory [] b refl refl (went_none (watch_behind w a) a.memory)) seen')

slice_of : (c rest : List ℕ) (n : ℕ) (w : Watch) (m : List ℕ) (at : ℕ) (h : List ℕ) → WatchReads w m at h → SliceOf w m c rest n (watches_from n w m c)
unfolding watches_from seen_over
slice_of [] rest n w m at h k = subst (λ (j : ℕ). SliceOf w m [] rest n (watch_after quietly w j m)) (let i : n + 0 ≡ n = omega arith in i) (slice_quiet w m at h k (went_none w m) refl)
slice_of (b ∷ c) rest n w m at h k =
    let a : After = push_record w.decoder m b in
    cases (says_nothing a.answer)
    (λ q. rw q (slice_later w m b c rest n _ (rw q) (slice_of c rest (suc n) (moved_on w a.decoder b) a.memory at (h ++ b ∷ []) (push_quiet w m at h k b q))))
    (λ q. rw q (slice_loud_lem b c rest n w m at h k q (rw q)))

-- ---- slices, one behind another

watch_good : (w : Watch) (m : List ℕ) (at : ℕ) (h : List ℕ) (n : ℕ) → WatchReads w m at h → w.pushed + n ≤ 2 ^ 64 - 2 → bad_watch w n ≡ false
unfolding bad_watch
watch_good w m at h n k le =
    let t = k.tracks in
    rw (le-ltb w.pushed w.begun (omega (arith, t.begun', t.pushed')), le-ltb (2 ^ 64 - 2) (w.pushed + n) le)

-- what is left behind the bytes x
abbrev pushed_bytes : ℕ → List ℕ → List ℕ → After
pushed_bytes way m₀ x = behind (after nothing (new_record (in_way way (length m₀))) m₀) (map push x)

map_more : (x y : List ℕ) → map push (x ++ y) ≡ map push x ++ map push y
map_more [] y = refl
map_more (b ∷ x) y = ap (λ (l : List Op). push b ∷ l) (map_more x y)

behind_more : (os ps : List Op) (a : After) → behind a (os ++ ps) ≡ behind (behind a os) ps
unfolding behind
behind_more [] ps a = refl
behind_more (o ∷ os) ps a = behind_more os ps (act a.decoder a.memory o)

-- the watch stands behind the bytes x
record BehindBytes (way : ℕ) (m₀ x : List ℕ) (w : Watch) (m : List ℕ) : Type 0 where
  decoder' : (pushed_bytes way m₀ x).decoder ≡ w.decoder
  memory' : (pushed_bytes way m₀ x).memory ≡ m
  pushed' : w.pushed ≡ length x

stands_more : (way : ℕ) (m₀ x l : List ℕ) (w w' : Watch) (m m' : List ℕ) → BehindBytes way m₀ x w m → Went w m l w' m' → w'.pushed ≡ w.pushed + length l → BehindBytes way m₀ (x ++ l) w' m'
stands_more way m₀ x l w w' m m' k g p =
    let a : After = pushed_bytes way m₀ x in
    let e : pushed_bytes way m₀ (x ++ l) ≡ behind (after a.answer w.decoder m) (map push l) =
    ap (behind (after nothing (new_record (in_way way (length m₀))) m₀)) (map_more x l) ∙ behind_more (map push x) (map push l) (after nothing (new_record (in_way way (length m₀))) m₀)
    ∙ (λ i. behind (after a.answer (k.decoder' i) (k.memory' i)) (map push l)) in
    record {
      decoder' = ap (λ (z : After). z.decoder) e ∙ g.decoder' a.answer;
      memory' = ap (λ (z : After). z.memory) e ∙ g.memory' a.answer;
      pushed' = p ∙ ap (λ (n : ℕ). n + length l) k.pushed' ∙ sym (length-append x l);
    }

abbrev AllSeen : ℕ → List ℕ → Watch → List ℕ → List ℕ → List (List ℕ) → List ℕ → Type 0
AllSeen way m₀ w m x chunks bytes = Watches our_watcher way m₀ w x chunks (seen_over w m bytes).seen (watch_end (seen_over w m bytes).watch).told

abbrev SlicesFrom : ℕ → Type 0
SlicesFrom fuel = (way : ℕ) (m₀ x : List ℕ) (chunks : List (List ℕ)) (w : Watch) (m : List ℕ) (at : ℕ) (h : List ℕ) → WatchReads w m at h → BehindBytes way m₀ x w m
    → w.pushed + length (joined chunks) ≤ 2 ^ 64 - 2 → length (joined chunks) + length chunks < fuel → AllSeen way m₀ w m x chunks (joined chunks)

module _ (fuel : ℕ) (ih : SlicesFrom fuel) (way : ℕ) (m₀ x : List ℕ) (w : Watch) (m c : List ℕ) (more : List (List ℕ)) (stands : BehindBytes way m₀ x w m) (small : w.pushed + length (c ++ joined more) ≤ 2 ^ 64 - 2)
    (enough : length (c ++ joined more) + suc (length more) < suc fuel) where
  -- what the slice gives, with the buffer that is lent
  lent_slice : (s : WatchSaid) (w' : Watch) (n : ℕ) (m' y : List ℕ) → watch_slice w m c ≡ watch_after s w' n m' → (pushed_bytes way m₀ y).memory ≡ m'
      → our_watcher.slice w (buffer_behind way m₀ x) c ≡ record { said = s; state = w'; taken = n; memory = buffer_behind way m₀ y }
  lent_slice s w' n m' y e left =
      ap (λ (z : List ℕ). our_watcher.slice w z c) stands.memory' ∙ ap (λ (a : WatchAfter). record { said = a.seen; state = a.watch; taken = a.taken; memory = a.memory }) (e ∙ ap (watch_after s w' n) (sym left))

  by_loud : (s : WatchSaid) (w' : Watch) (m' : List ℕ) (k : ℕ) → Loud (w.pushed + suc k) s → suc k ≤ length c → watch_slice w m c ≡ watch_after s w' (suc k) m' → BehindBytes way m₀ (x ++ take (suc k) c) w' m'
      → AllSeen way m₀ w' m' (x ++ take (suc k) c) (drop (suc k) c ∷ more) (drop (suc k) c ++ joined more)
      → Watches our_watcher way m₀ w x (c ∷ more) (s ∷ (seen_over w' m' (drop (suc k) c ++ joined more)).seen) (watch_end (seen_over w' m' (drop (suc k) c ++ joined more)).watch).told
  by_loud s w' m' k (loud_kept first last e) le z g on =
      let at_last : last ≡ length x + suc k = e ∙ ap (λ (n : ℕ). n + suc k) stands.pushed' in
      rw at_last (watches_kept {first = first} {n = suc k} (omega arith) le (lent_slice (kept_over first (length x + suc k)) w' (suc k) m' (x ++ take (suc k) c) (z ∙ rw at_last) g.memory') on)
  by_loud s w' m' k (loud_lost l e) le z g on =
      watches_lost {n = suc k} (omega arith) le (e ∙ ap (λ (n : ℕ). n + suc k) stands.pushed') (lent_slice (lost_over l) w' (suc k) m' (x ++ take (suc k) c) z g.memory') on

  by_slice : (t : WatchAfter) → watch_slice w m c ≡ t → t.watch.pushed ≡ w.pushed + t.taken → SliceOf w m c (joined more) 0 t → AllSeen way m₀ w m x (c ∷ more) (c ++ joined more)
  unfolding joined
  by_slice t e p (slice_quiet w' m' at h k g q) =
      let n : length (c ++ joined more) ≡ length c + length (joined more) = length-append c (joined more) in
      let z : watch_slice w m c ≡ watch_after quietly w' (length c) m' = e ∙ ap (λ (j : ℕ). watch_after quietly w' j m') (let i : 0 + length c ≡ length c = omega arith in i) in
      let s = stands_more way m₀ x c w w' m m' stands g (omega (arith, p)) in
      rw q (watches_quiet (lent_slice quietly w' (length c) m' (x ++ c) z s.memory') (ih way m₀ (x ++ c) more w' m' at h k s (omega arith) (omega arith)))
  by_slice t e p (slice_loud s w' m' at h k loud le r g q) =
      let n : length (c ++ joined more) ≡ length c + length (joined more) = length-append c (joined more) in
      let d : length (drop (suc k) c ++ joined more) ≡ (length c - suc k) + length (joined more) = length-append (drop (suc k) c) (joined more) ∙ ap (λ (j : ℕ). j + length (joined more)) (length-drop (suc k) c) in
      let z : watch_slice w m c ≡ watch_after s w' (suc k) m' = e ∙ ap (λ (j : ℕ). watch_after s w' j m') (let i : 0 + suc k ≡ suc k = omega arith in i) in
      let size : length (take (suc k) c) ≡ suc k = length-take-le (suc k) c le in
      let st = stands_more way m₀ x (take (suc k) c) w w' m m' stands g (omega (arith, p, size)) in
      let on : AllSeen way m₀ w' m' (x ++ take (suc k) c) (drop (suc k) c ∷ more) (drop (suc k) c ++ joined more) = ih way m₀ (x ++ take (suc k) c) (drop (suc k) c ∷ more) w' m' at h r st (omega arith) (omega arith) in
      rw q (by_loud s w' m' k loud le z st on)

watches_from_lem : (fuel : ℕ) → SlicesFrom fuel
unfolding joined seen_over
watches_from_lem zero way m₀ x chunks w m at h k st small lt = absurd (omega arith)
watches_from_lem (suc fuel) way m₀ x [] w m at h k st small lt = watches_over refl
watches_from_lem (suc fuel) way m₀ x (c ∷ more) w m at h k st small lt =
    let n : length (c ++ joined more) ≡ length c + length (joined more) = length-append c (joined more) in
    let good = watch_good w m at h (length c) k (omega arith) in
    by_slice fuel (watches_from_lem fuel) way m₀ x w m c more st small lt (watches_from 0 w m c) (sym (slice_watches w m c good k.fit.state k.fit.buffer))
    (let p = watches_pushed c 0 w m in omega arith) (slice_of c (joined more) 0 w m at h k)

-- ---- by the state of the push rules

-- what was seen, what the end says, and the buffer, are those of the bytes; n bytes were pushed
record SeenAs (w : Watch) (m : List ℕ) (at : ℕ) (h bytes : List ℕ) (x : SeenBytes) : Type 0 where
  seen' : x.seen ≡ seen_in (setup w.decoder) (state_of w.decoder m) at h bytes
  end' : said_at_end x.watch (finalize_record x.watch.decoder).answer ≡ end_in (setup w.decoder) (state_of w.decoder m) at h bytes
  left' : (a : DecoderAnswer) → x.buffer ≡ (behind (record { answer = a; decoder = w.decoder; memory = m }) (map push bytes)).memory
  begun : ℕ
  read : List ℕ
  reads : WatchReads x.watch x.buffer begun read
  pushed' : x.watch.pushed ≡ w.pushed + length bytes

final_answer_lem : (d : Decoder) (m : List ℕ) → Fit d m → (finalize_record d).answer ≡ numbered (finalized (state_of d m))
unfolding act answer_state
final_answer_lem d m f = (acts d m finalize f).answer

-- one byte: what is seen of it
sight_same : (w : Watch) (m : List ℕ) (at : ℕ) (h : List ℕ) (k : WatchReads w m at h) (b : ℕ) (a : DecoderAnswer) → (push_record w.decoder m b).answer ≡ a → sight_at w a ≡ seen_by at h b a
sight_same w m at h k b nothing e = refl
sight_same w m at h k b (payload P) e =
    let t = k.tracks in
    let g : length (h ++ b ∷ []) ≡ suc (length h) = simp length-append (omega arith) in
    let first : suc w.begun ≡ suc at = omega (arith, t.begun') in
    let last : w.begun + (suc w.pushed - w.begun) ≡ at + length (h ++ b ∷ []) = omega (arith, t.begun', t.pushed', g) in
    (λ i. kept_over (first i) (last i))
sight_same w m at h k b (count n) e = refl
sight_same w m at h k b (refusal n v) e = ap lost_over (rw e at (push_loss w m at h k b (rw e)))

module _ (bytes : List ℕ) (ih : (w : Watch) (m : List ℕ) (at : ℕ) (h : List ℕ) → WatchReads w m at h → SeenAs w m at h bytes (seen_over w m bytes))
    (w : Watch) (m : List ℕ) (at : ℕ) (h : List ℕ) (k : WatchReads w m at h) (b : ℕ) where
  abbrev C : Setup
  C = setup w.decoder

  abbrev a : After
  a = push_record w.decoder m b

  steps' : Steps w.decoder m b a
  steps' = push_is_step w.decoder m b k.fit

  abbrev t : State
  t = (step C (state_of w.decoder m) b).state

  -- the record's state is the rules' state
  to_state : {A : Type 0} (f : Setup → State → A) → f (setup a.decoder) (state_of a.decoder a.memory) ≡ f C t
  to_state f = (λ i. f (steps'.setup' i) (steps'.view' i))

  as_quiet : says_nothing a.answer ≡ true → SeenAs w m at h (b ∷ bytes) (seen_over (moved_on w a.decoder b) a.memory bytes)
  unfolding seen_in end_in behind act
  as_quiet q =
      let i = ih (moved_on w a.decoder b) a.memory at (h ++ b ∷ []) (push_quiet w m at h k b q) in
      let q' : says_nothing (numbered (step C (state_of w.decoder m) b).event) ≡ true = ap says_nothing (sym steps'.answer) ∙ q in
      record {
        seen' = rw q' (i.seen' ∙ to_state (λ (x : Setup) (y : State). seen_in x y at (h ++ b ∷ []) bytes));
        end' = rw q' (i.end' ∙ to_state (λ (x : Setup) (y : State). end_in x y at (h ++ b ∷ []) bytes));
        left' = λ z. i.left' a.answer;
        begun = i.begun;
        read = i.read;
        reads = i.reads;
        pushed' = i.pushed' ∙ omega arith;
      }

  as_loud : says_nothing a.answer ≡ false → SeenAs w m at h (b ∷ bytes) (seen_more (sight_at w a.answer) (seen_over (watch_behind w a) a.memory bytes))
  unfolding seen_in end_in behind act
  as_loud q =
      let g : List ℕ = h ++ b ∷ [] in
      let e : DecoderAnswer = numbered (step C (state_of w.decoder m) b).event in
      let i = ih (watch_behind w a) a.memory (at + over_of a.answer (length g)) (grown_since a.answer h b) (push_loud w m at h k b q) in
      let q' : says_nothing e ≡ false = ap says_nothing (sym steps'.answer) ∙ q in
      let s : sight_at w a.answer ≡ seen_by at h b e = sight_same w m at h k b a.answer refl ∙ ap (seen_by at h b) steps'.answer in
      let on : (seen_over (watch_behind w a) a.memory bytes).seen ≡ seen_in C t (at + over_of e (length g)) (grown_since e h b) bytes =
      i.seen' ∙ to_state (λ (x : Setup) (y : State). seen_in x y (at + over_of a.answer (length g)) (grown_since a.answer h b) bytes) ∙ ap (λ (z : DecoderAnswer). seen_in C t (at + over_of z (length g)) (grown_since z h b) bytes) steps'.answer in
      record {
        seen' = rw q' (λ j. s j ∷ on j);
        end' = rw q' (i.end' ∙ to_state (λ (x : Setup) (y : State). end_in x y (at + over_of a.answer (length g)) (grown_since a.answer h b) bytes) ∙ ap (λ (z : DecoderAnswer). end_in C t (at + over_of z (length g)) (grown_since z h b) bytes) steps'.answer);
        left' = λ z. i.left' a.answer;
        begun = i.begun;
        read = i.read;
        reads = i.reads;
        pushed' = i.pushed' ∙ omega arith;
      }

module _ (w : Watch) (m : List ℕ) (b : ℕ) (bytes : List ℕ) where
  seen_quiet : says_nothing (push_record w.decoder m b).answer ≡ true → seen_over w m (b ∷ bytes) ≡ seen_over (moved_on w (push_record w.decoder m b).decoder b) (push_record w.decoder m b).memory bytes
  unfolding seen_over
  seen_quiet q = rw q

  seen_loud : says_nothing (push_record w.decoder m b).answer ≡ false
      → seen_over w m (b ∷ bytes) ≡ seen_more (sight_at w (push_record w.decoder m b).answer) (seen_over (watch_behind w (push_record w.decoder m b)) (push_record w.decoder m b).memory bytes)
  unfolding seen_over
  seen_loud q = rw q

as_none : (w : Watch) (m : List ℕ) (at : ℕ) (h : List ℕ) → WatchReads w m at h → SeenAs w m at h [] (seen_over w m [])
unfolding seen_over seen_in end_in behind
as_none w m at h k = record {
  seen' = refl;
  end' = ap (said_at_end w) (final_answer_lem w.decoder m k.fit) ∙ ap (λ (l : Loss). cond (is_refusal (numbered (finalized (state_of w.decoder m)))) (lost_is l) none_lost) (loss_at_end w at h (numbered (finalized (state_of w.decoder m))) k.tracks);
  left' = λ z. refl;
  begun = at;
  read = h;
  reads = k;
  pushed' = omega arith;
}

seen_as_lem : (bytes : List ℕ) (w : Watch) (m : List ℕ) (at : ℕ) (h : List ℕ) → WatchReads w m at h → SeenAs w m at h bytes (seen_over w m bytes)
seen_as_lem [] w m at h k = as_none w m at h k
seen_as_lem (b ∷ bytes) w m at h k =
    cases (says_nothing (push_record w.decoder m b).answer)
    (λ q. subst (SeenAs w m at h (b ∷ bytes)) (sym (seen_quiet w m b bytes q)) (as_quiet bytes (seen_as_lem bytes) w m at h k b q))
    (λ q. subst (SeenAs w m at h (b ∷ bytes)) (sym (seen_loud w m b bytes q)) (as_loud bytes (seen_as_lem bytes) w m at h k b q))

-- ---- the claim

end_said_lem : (w : Watch) (m : List ℕ) (at : ℕ) (h : List ℕ) → WatchReads w m at h → w.pushed ≤ 2 ^ 64 - 2 → (watch_end w).told ≡ said_at_end w (finalize_record w.decoder).answer
unfolding watch_end
end_said_lem w m at h k le = rw (watch_good w m at h 0 k (omega arith), k.fit.state)

new_stands : (way : ℕ) (m : List ℕ) → BehindBytes way m [] (watch_new (length m) way 0) m
unfolding behind
new_stands way m = record { decoder' = refl; memory' = refl; pushed' = refl }

pub watches_as_called : WatchesAsCalled our_watcher
watches_as_called recording way m chunks fine small known le join =
    let C : Setup = in_way way (length m) in
    let w : Watch = watch_new (length m) way 0 in
    let k : WatchReads w m 0 [] = record { tracks = tracks_new (new_record C) 0; fit = new_fit C m (known_is way known) refl le; reads = reads_fresh_exactly C } in
    let x : SeenBytes = seen_over w m recording in
    let s = seen_as_lem recording w m 0 [] k in
    let all : AllSeen way m w m [] chunks recording = subst (AllSeen way m w m [] chunks) join (watches_from_lem (suc (length (joined chunks) + length chunks)) way m [] chunks w m 0 [] k (new_stands way m) (rw join (omega arith)) (omega arith)) in
    let final : (watch_end x.watch).told ≡ end_in C fresh 0 [] recording = end_said_lem x.watch x.buffer s.begun s.read s.reads (let p = s.pushed' in omega arith) ∙ s.end' in
    record {
      seen = seen_in C fresh 0 [] recording;
      final = end_in C fresh 0 [] recording;
      watches = rw (s.seen', final) at all;
      as_called = rw (seen_losses C recording fresh 0 []) (our_calls recording way m fine known le);
      parted = rw (run_new C m (map push recording) (known_is way known) refl le) (parted_new C known recording fine);
    }

-- ---- what is refused

new_bad : (capacity way n : ℕ) → unknown_way way ≡ true → bad_watch (watch_new capacity way 0) n || bad_decoder (new_record (in_way way capacity)) ≡ true
unfolding bad_decoder
new_bad capacity way n u = rw u (either_bad (bad_watch (watch_new capacity way 0) n))
  where
    either_bad : (t : Bool) → t || true ≡ true
    either_bad true = refl
    either_bad false = refl

large_wrong : (capacity n : ℕ) → limit < capacity → wrong_buffer capacity n ≡ true
unfolding wrong_buffer
large_wrong capacity n lt = by_eq (λ (t : Bool). t ≡ true) n capacity _ _ (λ e. lt-ltb limit n (omega (arith, e, lt))) (λ ne. refl)

too_large_slice : (capacity way : ℕ) (m c : List ℕ) → KnownWay way → limit < capacity → length c ≤ 2 ^ 64 - 2 → watch_slice (watch_new capacity way 0) m c ≡ watch_after (watch_refused 5) (watch_new capacity way 0) 0 m
unfolding watch_slice bad_watch
too_large_slice capacity way m c known lt small =
    rw (le-ltb (2 ^ 64 - 2) (0 + length c) (omega arith), not_bad (in_way way capacity) fresh (known_is way known) (omega arith), large_wrong capacity (length m) lt)

our_refuses : RefusesAtSlices our_watcher
unfolding watch_slice watch_end
our_refuses = record {
  way_first = λ capacity way m c n. rw (new_bad capacity way (length c) (unknown_is way n));
  way_end = λ capacity way n. rw (new_bad capacity way 0 (unknown_is way n));
  too_large_claim = λ capacity way m c known lt small. ap (λ (a : WatchAfter). record { said = a.seen; state = a.watch; taken = a.taken; memory = a.memory }) (too_large_slice capacity way m c known lt small);
}

pub our_watcher_lem : GoodWatcher our_watcher
our_watcher_lem = record { refuses_first = our_refuses; as_called = watches_as_called }
