-- What next_loss's loop goes by: behind the slices so far, the next loss of the rest is that of the recording.
use Prim.Native.Nat.{ℕ, ◌+◌, ◌-◌, ◌<◌, ◌≤◌, ◌^◌}
use mathlib.Core.Path.{◌≡◌, refl, sym, ap, ◌∙◌, subst}
use mathlib.Core.Bool.{true, false}
use mathlib.Core.List.{List, []}
use native.Mathlib.Omega.{arith}
use borrow.Author.Tests.{eq-eqb, le-ltb, ltb-false}
use lib.ListN.{length, take, drop, length-drop, drop_of_length-le}
use lib.Seq.{take-length, drop-drop}
use lib.Dec.{ltb}
use Rattle.decoder.proofs.Split.{cases}
use Rattle.decoder.proofs.Faithful.{Fit}
use Rattle.decoder.proofs.Runs.{new_fit}
use Rattle.decoder.specs.Push.{in_way, finalized}
use Rattle.decoder.specs.Record.{new_record, unknown_way, bad_decoder, wrong_buffer, finalize_record}
use Rattle.since.proofs.KeptExactly.{reads_fresh_exactly}
use Rattle.losses.specs.Loss.{LossSaid, loss_after, lost_is, none_lost, loss_refused, next_behind, next_loss}
use Rattle.losses.specs.Watch.{WatchSaid, quietly, kept_over, lost_over, watch_refused, seen_as, WatchAfter, after_watch, watch_new, watch_slice, watches_from, EndAfter, said_at_end, watch_end}
use Rattle.losses.specs.Cut.{next_seen}
use Rattle.std.specs.Prelude.{Err}
use Rattle.losses.specs.declared.LossError.{LossError}
use Rattle.losses.specs.declared.LossError.TheVariants.{BadState, WrongBuffer}
use Rattle.losses.specs.declared.Watch.{Watch}
use Rattle.losses.specs.declared.Watched.{Watched}
use Rattle.losses.proofs.Events.{is_good_watch, end_good}
use Rattle.losses.proofs.Taken.{slice_watches}
use Rattle.losses.proofs.Tracks.{tracks_new}
use Rattle.losses.proofs.Next.{WatchReads, seen_is}
use Rattle.losses.proofs.Slices.{watches_taken, watches_some, watches_pushed, Unrefused, watches_unrefused, StillReads, slice_reads, next_by, watch_next}

-- ---- the checks

new_bad : (way n : ℕ) → bad_decoder (new_record (in_way way n)) ≡ unknown_way way
unfolding bad_decoder
new_bad way n = cases (unknown_way way) (λ t. rw t) (λ t. rw (t, le-ltb n 0 (omega arith)))

own_wrong : (n : ℕ) → wrong_buffer n n ≡ ltb 1048576 n
unfolding wrong_buffer
own_wrong n = rw (eq-eqb n n refl)

module _ (recording : List ℕ) (way : ℕ) (m : List ℕ) (from : ℕ) where
  pub loss_bad : bad_decoder (new_record (in_way way (length m))) ≡ true → loss_after (loss_refused 4) m ≡ next_loss recording way m from
  unfolding next_loss
  loss_bad e = rw (sym (new_bad way (length m)) ∙ e)

  module _ (good : bad_decoder (new_record (in_way way (length m))) ≡ false) where
    known : unknown_way way ≡ false
    known = sym (new_bad way (length m)) ∙ good

    pub loss_wrong : wrong_buffer (length m) (length m) ≡ true → loss_after (loss_refused 5) m ≡ next_loss recording way m from
    unfolding next_loss
    loss_wrong e = rw (known, sym (own_wrong (length m)) ∙ e)

    module _ (room : wrong_buffer (length m) (length m) ≡ false) where
      short : ltb 1048576 (length m) ≡ false
      short = sym (own_wrong (length m)) ∙ room

      loss_from : next_behind (new_record (in_way way (length m))) m from [] (drop from recording) ≡ next_loss recording way m from
      unfolding next_loss
      loss_from = rw (known, short)

      none_left_lem : next_behind (new_record (in_way way (length m))) m from [] [] ≡ loss_after none_lost m
      unfolding next_behind finalize_record finalized
      none_left_lem = rw good

      pub loss_past : length recording ≤ from → loss_after none_lost m ≡ next_loss recording way m from
      loss_past le = sym none_left_lem ∙ ap (next_behind (new_record (in_way way (length m))) m from []) (sym (drop_of_length-le recording le)) ∙ loss_from

      -- a new decoder has read nothing
      pub new_reads : WatchReads (watch_new (length m) way from) m from []
      new_reads = record {
        tracks = tracks_new (new_record (in_way way (length m))) from;
        fit = new_fit (in_way way (length m)) m known refl (ltb-false 1048576 (length m) short);
        reads = reads_fresh_exactly (in_way way (length m));
      }

      pub new_next_lem : next_seen (watch_new (length m) way from) m (drop from recording) ≡ next_loss recording way m from
      new_next_lem = seen_is (drop from recording) (watch_new (length m) way from) m from [] new_reads ∙ loss_from

-- ---- the loop

-- the watch w stands behind the recording's first `at` bytes, and what is lost of the others next is what is lost behind the first `from`
pub record Going (recording : List ℕ) (way : ℕ) (m₀ : List ℕ) (from : ℕ) (w : Watch) (m : List ℕ) (at : ℕ) : Type 0 where
  pub there : w.pushed ≡ at
  pub still : StillReads w m
  pub next : next_seen w m (drop at recording) ≡ next_loss recording way m₀ from

pub going_new : (recording : List ℕ) (way : ℕ) (m : List ℕ) (from : ℕ) (w : Watch) → bad_decoder (new_record (in_way way (length m))) ≡ false → wrong_buffer (length m) (length m) ≡ false
    → w ≡ watch_new (length m) way from → Going recording way m from w m from
going_new recording way m from w good room is =
    subst (λ (x : Watch). Going recording way m from x m from) (sym is)
    (record { there = refl; still = record { begun = from; bytes = []; is = new_reads recording way m from good room }; next = new_next_lem recording way m from good room })

-- what a slice of all the rest brings: it goes on behind the bytes that were taken, or the loss is there; it isn't refused
abbrev pub GoesBy : WatchSaid → List ℕ → ℕ → List ℕ → ℕ → Watched → List ℕ → ℕ → Type 0
GoesBy quietly recording way m₀ from r m at = Going recording way m₀ from r.watch m at
GoesBy (kept_over first last) recording way m₀ from r m at = Going recording way m₀ from r.watch m at
GoesBy (lost_over l) recording way m₀ from r m at = loss_after (lost_is l) m ≡ next_loss recording way m₀ from
GoesBy (watch_refused n) recording way m₀ from r m at = ⊥

pub record Gone (recording : List ℕ) (way : ℕ) (m₀ : List ℕ) (from : ℕ) (at : ℕ) (r : Watched) (m : List ℕ) : Type 0 where
  pub some : 1 ≤ r.taken
  pub room : at + r.taken ≤ length recording
  pub by : GoesBy (after_watch r m).seen recording way m₀ from r m (at + r.taken)

pub refused_never_goes : {G : Type 0} (e : LossError) (recording : List ℕ) (way : ℕ) (m₀ : List ℕ) (from : ℕ) (r : Watched) (m : List ℕ) (at : ℕ) → GoesBy (seen_as (Err e)) recording way m₀ from r m at → G
refused_never_goes BadState recording way m₀ from r m at g = absurd g
refused_never_goes WrongBuffer recording way m₀ from r m at g = absurd g

module _ (recording : List ℕ) (way : ℕ) (m₀ : List ℕ) (from : ℕ) (w : Watch) (m : List ℕ) (at : ℕ) (k : Going recording way m₀ from w m at) (small : length recording < 2 ^ 63) where
  ordered : w.begun ≤ w.pushed
  ordered = let t = k.still.is.tracks in omega (arith, t.begun', t.pushed')

  -- a slice of all the rest
  module _ (lt : at < length recording) (r : Watched) (m' : List ℕ) (said : after_watch r m' ≡ watch_slice w m (take (length recording - at) (drop at recording))) where
    abbrev rest : List ℕ
    rest = drop at recording

    abbrev t : WatchAfter
    t = watches_from 0 w m rest

    is_watches : after_watch r m' ≡ t
    is_watches =
        let all : take (length recording - at) rest ≡ rest = ap (λ (i : ℕ). take i rest) (sym (length-drop at recording)) ∙ take-length rest in
        let fit : Fit w.decoder m = k.still.is.fit in
        let n : length rest ≡ length recording - at = length-drop at recording in
        said ∙ ap (watch_slice w m) all ∙ sym (slice_watches w m rest (is_good_watch w (length rest) ordered (omega (arith, n, k.there, small, lt))) fit.state fit.buffer)

    taken_is : r.taken ≡ t.taken
    taken_is = ap (λ (x : WatchAfter). x.taken) is_watches

    going_room : at + r.taken ≤ length recording
    going_room = omega (arith, taken_is, (watches_taken rest 0 w m).1, length-drop at recording, lt)

    going_some : 1 ≤ r.taken
    going_some = rw taken_is (watches_some rest w m (omega (arith, length-drop at recording, lt)))

    next_is : next_by (after_watch r m').seen (after_watch r m') (drop (at + r.taken) recording) ≡ next_loss recording way m₀ from
    next_is =
        ap (next_by (after_watch r m').seen (after_watch r m')) (sym (drop-drop r.taken at recording))
        ∙ ap (λ (x : WatchAfter). next_by x.seen x (drop x.taken rest)) is_watches
        ∙ sym (watch_next rest w m k.still.begun k.still.bytes k.still.is) ∙ k.next

    goes : next_seen r.watch m' (drop (at + r.taken) recording) ≡ next_loss recording way m₀ from → Going recording way m₀ from r.watch m' (at + r.taken)
    goes next = record {
      there = ap (λ (x : WatchAfter). x.watch.pushed) is_watches ∙ omega (arith, watches_pushed rest 0 w m, k.there, taken_is);
      still = subst (λ (x : WatchAfter). StillReads x.watch x.memory) (sym is_watches) (slice_reads rest 0 w m k.still.begun k.still.bytes k.still.is);
      next = next;
    }

    goes_by : (s : WatchSaid) → (after_watch r m').seen ≡ s → GoesBy s recording way m₀ from r m' (at + r.taken)
    goes_by quietly e = goes (ap (λ (s : WatchSaid). next_by s (after_watch r m') (drop (at + r.taken) recording)) (sym e) ∙ next_is)
    goes_by (kept_over first last) e = goes (ap (λ (s : WatchSaid). next_by s (after_watch r m') (drop (at + r.taken) recording)) (sym e) ∙ next_is)
    goes_by (lost_over l) e = ap (λ (s : WatchSaid). next_by s (after_watch r m') (drop (at + r.taken) recording)) (sym e) ∙ next_is
    goes_by (watch_refused n) e = subst Unrefused (sym (ap (λ (x : WatchAfter). x.seen) is_watches) ∙ e) (watches_unrefused rest 0 w m)

    pub going_on : Gone recording way m₀ from at r m'
    going_on = record { some = going_some; room = going_room; by = goes_by (after_watch r m').seen refl }

  -- the recording's end
  pub going_ends : length recording ≤ at → at ≤ length recording → (e : EndAfter) → e ≡ watch_end w → loss_after e.told m ≡ next_loss recording way m₀ from
  unfolding next_seen
  going_ends ge le e is =
      let good = is_good_watch w 0 ordered (omega (arith, k.there, small, le)) in
      let said : e.told ≡ said_at_end w (finalize_record w.decoder).answer = ap (λ (x : EndAfter). x.told) (is ∙ sym (end_good w good k.still.is.fit.state)) in
      ap (λ (s : LossSaid). loss_after s m) said ∙ ap (next_seen w m) (sym (drop_of_length-le recording ge)) ∙ k.next
