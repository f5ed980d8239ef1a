-- A slice is its bytes one by one: what a push of a slice gave, told as a watch, is what its bytes bring one after another.
use Prim.Native.Nat.{ℕ, suc, ◌+◌, ◌-◌, ◌<◌, ◌≤◌, ◌^◌}
use mathlib.Core.Path.{◌≡◌, refl, sym, ap, ◌∙◌}
use mathlib.Core.Bool.{true, false, false≢true}
use mathlib.Core.List.{List, [], ◌∷◌, ◌++◌, append_assoc}
use native.Mathlib.Omega.{arith}
use native.Mathlib.Nat.{add-zero}
use lib.ListN.{length, take, length-append}
use lib.Seq.{take-append_seam}
use lib.Dec.{eqb}
use Rattle.refusals.specs.Numbers.{discarded_bytes_no}
use Rattle.decoder.proofs.Split.{cases}
use Rattle.decoder.specs.Record.{Event, DecoderAnswer, nothing, payload, count, refusal, answer_of, After, bad_decoder, wrong_buffer, push_record}
use Rattle.decoder.specs.declared.Decoder.{Decoder}
use Rattle.std.specs.Prelude.{Ok, Err}
use Rattle.decoder_slice.specs.Slice.{says_nothing, Took, took, after_slice, pushes_from, slice_record}
use Rattle.decoder_slice.specs.declared.Sliced.{Sliced}
use Rattle.decoder_slice.proofs.Taken.{slice_pushes, taken_from}
use Rattle.losses.specs.Watch.{WatchSaid, quietly, watch_refused, WatchAfter, watch_after, over_of, look_behind, sight_of, watched, moved_on, watch_behind, sight_at, watches_from, bad_watch, watch_slice}
use Rattle.losses.specs.Cut.{looked_over, looked_at, watched_of}
use Rattle.losses.specs.declared.Look.{Look}
use Rattle.losses.specs.declared.Watch.{Watch}
use Rattle.losses.proofs.Events.{good_watch}
use Rattle.losses.proofs.Looks.{looked_append}

-- no more is over than there is
pub over_most : (a : DecoderAnswer) (long : ℕ) → over_of a long ≤ long
over_most nothing long = omega arith
over_most (payload bytes) long = omega arith
over_most (count k) long = omega arith
over_most (refusal k v) long = cases (eqb k discarded_bytes_no) (λ t. rw t (omega arith)) (λ t. rw t (omega arith))

module _ (w : Watch) (chunk : List ℕ) (t : Took) where
  pub watched_quiet : (v : Watch) (on : Look) → says_nothing t.answer ≡ true → on ≡ looked_at w chunk t.taken
      → v ≡ watched t.decoder (w.pushed + t.taken) w.begun on → watch_after quietly v t.taken t.memory ≡ watched_of w chunk t
  unfolding watched_of
  watched_quiet v on q look is = rw (q, is, look)

  pub watched_loud : (v : Watch) (before behind : Look) (over : ℕ) (s : WatchSaid) → says_nothing t.answer ≡ false → before ≡ looked_at w chunk (t.taken - 1)
      → over ≡ over_of t.answer (w.pushed - w.begun + t.taken) → behind ≡ look_behind t.answer
      → v ≡ watched t.decoder (w.pushed + t.taken) (w.begun + over) behind → s ≡ sight_of t.answer before w.begun over
      → watch_after s v t.taken t.memory ≡ watched_of w chunk t
  unfolding watched_of
  watched_loud v before behind over s q look o b is sees = rw (q, is, sees, look, o, b)

-- what a push said doesn't hang on a payload's bytes
pub watched_same : (w : Watch) (chunk : List ℕ) (e : Event) (bytes : List ℕ) (d : Decoder) (n : ℕ) (m : List ℕ)
    → watched_of w chunk (took (answer_of e []) d n m) ≡ watched_of w chunk (took (answer_of e bytes) d n m)
unfolding watched_of
watched_same w chunk (Ok false) bytes d n m = refl
watched_same w chunk (Ok true) bytes d n m = refl
watched_same w chunk (Err e) bytes d n m = refl

same_said : (e : Event) (bytes : List ℕ) → says_nothing (answer_of e []) ≡ says_nothing (answer_of e bytes)
same_said (Ok false) bytes = refl
same_said (Ok true) bytes = refl
same_said (Err e) bytes = refl

-- what says something has taken a byte
loud_taken : (bs : List ℕ) (n : ℕ) (d : Decoder) (m : List ℕ) → says_nothing (pushes_from n d m bs).answer ≡ false → suc n ≤ (pushes_from n d m bs).taken
unfolding pushes_from
loud_taken [] n d m = λ q. absurd (false≢true (sym q))
loud_taken (b ∷ bs) n d m =
    let a : After = push_record d m b in
    cases (says_nothing a.answer) (λ e. rw e (λ q. omega (arith, (taken_from bs (suc n) a.decoder a.memory).0))) (λ e. rw e (λ q. omega arith))

-- ---- byte by byte

-- the watch w behind the bytes of which the first n, pre, were taken and said nothing
module _ (w : Watch) (fits : w.begun ≤ w.pushed) where
  abbrev since : ℕ
  since = w.pushed - w.begun

  abbrev behind : Decoder → List ℕ → Watch
  behind d pre = watched d (w.pushed + length pre) w.begun (looked_over w.look since pre)

  long_is : (n : ℕ) → suc (w.pushed + n) - w.begun ≡ since + suc n
  long_is n = omega arith

  first_of : (pre bytes : List ℕ) → looked_over w.look since pre ≡ looked_at w (pre ++ bytes) (length pre)
  first_of pre bytes = ap (looked_over w.look since) (sym (take-append_seam pre bytes))

  behind_more : (d : Decoder) (pre : List ℕ) (b : ℕ) (e : Decoder) → moved_on (behind e pre) d b ≡ behind d (pre ++ b ∷ [])
  unfolding looked_over
  behind_more d pre b e =
      let n : w.pushed + length (pre ++ b ∷ []) ≡ suc (w.pushed + length pre) = simp length-append (omega arith) in
      let l : w.pushed + length pre - w.begun ≡ since + length pre = omega arith in
      rw (n, l, looked_append w.look since pre (b ∷ []))

  watches_from_lem : (bytes pre : List ℕ) (d : Decoder) (m : List ℕ) → watches_from (length pre) (behind d pre) m bytes ≡ watched_of w (pre ++ bytes) (pushes_from (length pre) d m bytes)
  unfolding watches_from pushes_from
  watches_from_lem [] pre d m = watched_quiet w (pre ++ []) (took nothing d (length pre) m) (behind d pre) (looked_over w.look since pre) refl (first_of pre []) refl
  watches_from_lem (b ∷ bytes) pre d m =
      let a : After = push_record d m b in
      let n : length (pre ++ b ∷ []) ≡ suc (length pre) = simp length-append (omega arith) in
      let one : length pre ≡ suc (length pre) - 1 = omega arith in
      let more : w.pushed + suc (length pre) ≡ suc (w.pushed + length pre) = omega arith in
      cases (says_nothing a.answer)
      (λ q. rw (q, behind_more a.decoder pre b d, ← n, ← append_assoc pre (b ∷ []) bytes) (watches_from_lem bytes (pre ++ b ∷ []) a.decoder a.memory))
      (λ q. rw q (watched_loud w (pre ++ b ∷ bytes) (took a.answer a.decoder (suc (length pre)) a.memory) (watch_behind (behind d pre) a)
      (looked_over w.look since pre) (look_behind a.answer) (over_of a.answer (suc (w.pushed + length pre) - w.begun)) (sight_at (behind d pre) a.answer) q
      (first_of pre (b ∷ bytes) ∙ ap (looked_at w (pre ++ b ∷ bytes)) one) (ap (over_of a.answer) (long_is (length pre))) refl (rw more) refl))

  pub watches_is : (m bytes : List ℕ) → watches_from 0 w m bytes ≡ watched_of w bytes (pushes_from 0 w.decoder m bytes)
  unfolding looked_over
  watches_is m bytes = rw (add-zero w.pushed) at (watches_from_lem bytes [] w.decoder m)

-- ---- the checks

module _ (w : Watch) (m bytes : List ℕ) where
  pub slice_bad_watch : bad_watch w (length bytes) ≡ true → watch_after (watch_refused 4) w 0 m ≡ watch_slice w m bytes
  unfolding watch_slice
  slice_bad_watch e = rw e

  pub slice_bad_decoder : bad_watch w (length bytes) ≡ false → bad_decoder w.decoder ≡ true → watch_after (watch_refused 4) w 0 m ≡ watch_slice w m bytes
  unfolding watch_slice
  slice_bad_decoder e b = rw (e, b)

  pub slice_wrong_buffer : bad_watch w (length bytes) ≡ false → bad_decoder w.decoder ≡ false → wrong_buffer w.decoder.capacity (length m) ≡ true
      → watch_after (watch_refused 5) w 0 m ≡ watch_slice w m bytes
  unfolding watch_slice
  slice_wrong_buffer e b o = rw (e, b, o)

  pub slice_watches : bad_watch w (length bytes) ≡ false → bad_decoder w.decoder ≡ false → wrong_buffer w.decoder.capacity (length m) ≡ false
      → watches_from 0 w m bytes ≡ watch_slice w m bytes
  unfolding watch_slice
  slice_watches e b o = rw (e, b, o)

  -- the code's: a push of the slice, and what it gave told as a watch
  module _ (good : bad_watch w (length bytes) ≡ false) (sane : bad_decoder w.decoder ≡ false) (room : wrong_buffer w.decoder.capacity (length m) ≡ false)
      (s : Sliced) (m' : List ℕ) (pushes : after_slice s m' ≡ slice_record w.decoder m bytes) where
    is_pushes : after_slice s m' ≡ pushes_from 0 w.decoder m bytes
    is_pushes = pushes ∙ sym (slice_pushes w.decoder m bytes sane room)

    pub slice_needs : (w.begun ≤ w.pushed) × (w.pushed + s.taken < 2 ^ 64 - 1) × (s.taken ≤ length bytes) × (says_nothing (answer_of s.event []) ≡ false → 1 ≤ s.taken)
    slice_needs =
        let g = good_watch w (length bytes) good in
        let n : s.taken ≡ (pushes_from 0 w.decoder m bytes).taken = ap (λ (t : Took). t.taken) is_pushes in
        let le : s.taken ≤ length bytes = omega (arith, n, (taken_from bytes 0 w.decoder m).1) in
        (g.0, omega (arith, le, g.1), le, λ q. rw n (loud_taken bytes 0 w.decoder m (ap (λ (t : Took). says_nothing t.answer) (sym is_pushes) ∙ sym (same_said s.event _) ∙ q)))

    pub slice_watched : (r : WatchAfter) → r ≡ watched_of w bytes (took (answer_of s.event []) s.decoder s.taken m') → r ≡ watch_slice w m bytes
    slice_watched r e =
        e ∙ watched_same w bytes s.event (take s.decoder.fill m') s.decoder s.taken m' ∙ ap (watched_of w bytes) is_pushes
        ∙ sym (watches_is w (good_watch w (length bytes) good).0 m bytes) ∙ slice_watches good sane room
