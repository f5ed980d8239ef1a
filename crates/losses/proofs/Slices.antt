-- Slices, one after another: where one leaves the watch, and how the next loss goes on behind it.
use Prim.Native.Nat.{ℕ, suc, ◌+◌, ◌-◌, ◌≤◌}
use mathlib.Core.Path.{◌≡◌, refl, sym, ap, ◌∙◌, subst}
use mathlib.Core.Bool.{true, false, cond, false≢true}
use mathlib.Core.List.{List, [], ◌∷◌, ◌++◌}
use native.Mathlib.Omega.{arith}
use native.Mathlib.Nat.{sub-zero}
use lib.ListN.{length, drop}
use lib.Seq.{drop-nil}
use Rattle.decoder.proofs.Split.{cases}
use Rattle.decoder.specs.Push.{PushEvent, silent, discarded, pays_out, memory, bad_escape, bad_message}
use Rattle.decoder.specs.Record.{DecoderAnswer, nothing, payload, count, refusal, After, numbered, push_record}
use Rattle.decoder_slice.specs.Slice.{says_nothing}
use Rattle.losses.specs.Loss.{LossAfter, loss_after, lost_is, is_refusal, hands_out}
use Rattle.losses.specs.Watch.{WatchSaid, quietly, kept_over, lost_over, watch_refused, WatchAfter, watch_after, over_of, loss_seen, sight_of, sight_at, moved_on, watch_behind, watches_from}
use Rattle.losses.specs.Cut.{next_seen}
use Rattle.losses.specs.declared.Look.{Look}
use Rattle.losses.specs.declared.Watch.{Watch}
use Rattle.losses.proofs.Next.{WatchReads, push_quiet, push_loud, push_event}

-- ---- how far it goes

pub watches_taken : (bytes : List ℕ) (n : ℕ) (w : Watch) (m : List ℕ) → (n ≤ (watches_from n w m bytes).taken) × ((watches_from n w m bytes).taken ≤ n + length bytes)
unfolding watches_from
watches_taken [] n w m = (omega arith, omega arith)
watches_taken (b ∷ bytes) n w m =
    let a : After = push_record w.decoder m b in
    let i = watches_taken bytes (suc n) (moved_on w a.decoder b) a.memory in
    cases (says_nothing a.answer) (λ e. rw e (omega arith, omega arith)) (λ e. rw e (omega arith, omega arith))

-- a first byte is taken whatever it says
pub watches_some : (bytes : List ℕ) (w : Watch) (m : List ℕ) → 1 ≤ length bytes → 1 ≤ (watches_from 0 w m bytes).taken
unfolding watches_from
watches_some [] w m le = absurd (omega arith)
watches_some (b ∷ bytes) w m le =
    let a : After = push_record w.decoder m b in
    let i = watches_taken bytes 1 (moved_on w a.decoder b) a.memory in
    cases (says_nothing a.answer) (λ e. rw e i.0) (λ e. rw e (omega arith))

pub watches_pushed : (bytes : List ℕ) (n : ℕ) (w : Watch) (m : List ℕ) → (watches_from n w m bytes).watch.pushed + n ≡ w.pushed + (watches_from n w m bytes).taken
unfolding watches_from
watches_pushed [] n w m = refl
watches_pushed (b ∷ bytes) n w m =
    let a : After = push_record w.decoder m b in
    let i = watches_pushed bytes (suc n) (moved_on w a.decoder b) a.memory in
    cases (says_nothing a.answer) (λ e. rw e (omega arith)) (λ e. rw e (omega arith))

-- what is kept or lost begins where the watch began, and ends where it begins anew
abbrev pub SeenBetween : WatchSaid → ℕ → ℕ → Type 0
SeenBetween quietly begun end = Unit {0}
SeenBetween (kept_over first last) begun end = (first ≡ suc begun) × (last ≡ end)
SeenBetween (lost_over l) begun end = (l.first ≡ suc begun) × (l.last ≡ end)
SeenBetween (watch_refused k) begun end = Unit {0}

sight_between : (a : DecoderAnswer) (l : Look) (begun long : ℕ) → SeenBetween (sight_of a l begun long) begun (begun + long)
sight_between nothing l begun long = tt
sight_between (payload bytes) l begun long = (refl, refl)
sight_between (count k) l begun long = tt
sight_between (refusal k v) l begun long = (refl, refl)

pub watches_between : (bytes : List ℕ) (n : ℕ) (w : Watch) (m : List ℕ) → SeenBetween (watches_from n w m bytes).seen w.begun (watches_from n w m bytes).watch.begun
unfolding watches_from
watches_between [] n w m = tt
watches_between (b ∷ bytes) n w m =
    let a : After = push_record w.decoder m b in
    cases (says_nothing a.answer)
    (λ e. rw e (watches_between bytes (suc n) (moved_on w a.decoder b) a.memory))
    (λ e. rw e (sight_between a.answer w.look w.begun (over_of a.answer (suc w.pushed - w.begun))))

-- bytes that are pushed bring no refusal of 4 or 5
abbrev pub Unrefused : WatchSaid → Type 0
Unrefused quietly = Unit {0}
Unrefused (kept_over first last) = Unit {0}
Unrefused (lost_over l) = Unit {0}
Unrefused (watch_refused k) = ⊥

sight_unrefused : (a : DecoderAnswer) (l : Look) (begun long : ℕ) → Unrefused (sight_of a l begun long)
sight_unrefused nothing l begun long = tt
sight_unrefused (payload bytes) l begun long = tt
sight_unrefused (count k) l begun long = tt
sight_unrefused (refusal k v) l begun long = tt

pub watches_unrefused : (bytes : List ℕ) (n : ℕ) (w : Watch) (m : List ℕ) → Unrefused (watches_from n w m bytes).seen
unfolding watches_from
watches_unrefused [] n w m = tt
watches_unrefused (b ∷ bytes) n w m =
    let a : After = push_record w.decoder m b in
    cases (says_nothing a.answer)
    (λ e. rw e (watches_unrefused bytes (suc n) (moved_on w a.decoder b) a.memory))
    (λ e. rw e (sight_unrefused a.answer w.look w.begun (over_of a.answer (suc w.pushed - w.begun))))

-- ---- where it leaves the watch

-- of some bytes the watch is that of a decoder that has read them
pub record StillReads (w : Watch) (m : List ℕ) : Type 0 where
  pub begun : ℕ
  pub bytes : List ℕ
  pub is : WatchReads w m begun bytes

pub slice_reads : (bytes : List ℕ) (n : ℕ) (w : Watch) (m : List ℕ) (begun : ℕ) (h : List ℕ) → WatchReads w m begun h → StillReads (watches_from n w m bytes).watch (watches_from n w m bytes).memory
unfolding watches_from
slice_reads [] n w m begun h k = record { begun = begun; bytes = h; is = k }
slice_reads (b ∷ bytes) n w m begun h k =
    let a : After = push_record w.decoder m b in
    cases (says_nothing a.answer)
    (λ q. rw q (slice_reads bytes (suc n) (moved_on w a.decoder b) a.memory begun (h ++ b ∷ []) (push_quiet w m begun h k b q)))
    (λ q. rw q (record { begun = _; bytes = _; is = push_loud w m begun h k b q }))

-- ---- the next loss

-- it is the slice's, or that of the bytes behind it
abbrev pub next_by : WatchSaid → WatchAfter → List ℕ → LossAfter
next_by quietly t rest = next_seen t.watch t.memory rest
next_by (kept_over first last) t rest = next_seen t.watch t.memory rest
next_by (lost_over l) t rest = loss_after (lost_is l) t.memory
next_by (watch_refused k) t rest = next_seen t.watch t.memory rest

quiet_rest : (a : DecoderAnswer) → says_nothing a ≡ true → (is_refusal a ≡ false) × (hands_out a ≡ false)
quiet_rest nothing q = (refl, refl)
quiet_rest (payload bytes) q = absurd (false≢true q)
quiet_rest (count k) q = absurd (false≢true q)
quiet_rest (refusal k v) q = absurd (false≢true q)

loud_by : (e : PushEvent) (w : Watch) (t : WatchAfter) (rest : List ℕ) (other : LossAfter) → says_nothing (numbered e) ≡ false
    → cond (is_refusal (numbered e)) (loss_after (lost_is (loss_seen false (numbered e) w.look w.begun (over_of (numbered e) (suc w.pushed - w.begun)))) t.memory)
    (cond (hands_out (numbered e)) (next_seen t.watch t.memory rest) other)
    ≡ next_by (sight_at w (numbered e)) t rest
loud_by silent w t rest other q = absurd (false≢true (sym q))
loud_by (pays_out P) w t rest other q = refl
loud_by (discarded k) w t rest other q = refl
loud_by memory w t rest other q = refl
loud_by (bad_escape x y z u) w t rest other q = refl
loud_by (bad_message read computed mis p) w t rest other q = refl

slice_from : (bytes : List ℕ) (n : ℕ) (w : Watch) (m : List ℕ) (begun : ℕ) (h : List ℕ) → WatchReads w m begun h
    → next_seen w m bytes ≡ next_by (watches_from n w m bytes).seen (watches_from n w m bytes) (drop ((watches_from n w m bytes).taken - n) bytes)
unfolding watches_from next_seen
slice_from [] n w m begun h k = rw (drop-nil {A = ℕ} (n - n))
slice_from (b ∷ bytes) n w m begun h k =
    let a : After = push_record w.decoder m b in
    cases (says_nothing a.answer)
    (λ q.
    let r = quiet_rest a.answer q in
    let v : Watch = moved_on w a.decoder b in
    let less : (watches_from (suc n) v a.memory bytes).taken - n ≡ suc ((watches_from (suc n) v a.memory bytes).taken - suc n) = omega (arith, (watches_taken bytes (suc n) v a.memory).0) in
    rw (q, r.0, r.1, less) (slice_from bytes (suc n) v a.memory begun (h ++ b ∷ []) (push_quiet w m begun h k b q)))
    (λ q.
    let e = push_event w m begun h k b in
    let one : suc n - n ≡ 1 = omega arith in
    let t : WatchAfter = watch_after (sight_at w a.answer) (watch_behind w a) (suc n) a.memory in
    rw (q, one) (subst (λ (x : DecoderAnswer). cond (is_refusal x) (loss_after (lost_is (loss_seen false x w.look w.begun (over_of x (suc w.pushed - w.begun)))) a.memory)
    (cond (hands_out x) (next_seen (watch_behind w a) a.memory bytes) (next_seen (moved_on w a.decoder b) a.memory bytes)) ≡ next_by (sight_at w x) t bytes)
    (sym e.1) (loud_by e.0 w t bytes (next_seen (moved_on w a.decoder b) a.memory bytes) (ap says_nothing (sym e.1) ∙ q))))

pub watch_next : (bytes : List ℕ) (w : Watch) (m : List ℕ) (begun : ℕ) (h : List ℕ) → WatchReads w m begun h
    → next_seen w m bytes ≡ next_by (watches_from 0 w m bytes).seen (watches_from 0 w m bytes) (drop (watches_from 0 w m bytes).taken bytes)
watch_next bytes w m begun h k =
    slice_from bytes 0 w m begun h k
    ∙ ap (λ (i : ℕ). next_by (watches_from 0 w m bytes).seen (watches_from 0 w m bytes) (drop i bytes)) (sub-zero (watches_from 0 w m bytes).taken)
