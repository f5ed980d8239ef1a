-- Each view can be undone, so a contract allows one outcome for each input.
use mathlib.Core.Path.{◌≡◌, refl, ap}
use mathlib.Core.Bool.{cond}
use lib.Dec.{eqb}
use Rattle.refusals.specs.Numbers.{bad_state_no}
use Rattle.losses.specs.Loss.{LossSaid, lost_is, none_lost, loss_refused, loss_told, LossAfter, loss_after}
use Rattle.losses.specs.Watch.{WatchSaid, quietly, kept_over, lost_over, watch_refused, seen_as, WatchAfter, after_watch, EndAfter, after_end}
use Rattle.losses.specs.declared.Loss.{Loss}
use Rattle.losses.specs.declared.LossError.{LossError}
use Rattle.losses.specs.declared.LossError.TheVariants.{BadState, WrongBuffer}
use Rattle.losses.specs.declared.Seen.{Seen}
use Rattle.losses.specs.declared.Seen.TheVariants.{Kept, Lost}
use Rattle.std.specs.Prelude.{ℕ, Option, Some, None, Result, Ok, Err}
use Rattle.losses.specs.declared.Watched.{Watched}
use Rattle.losses.specs.declared.WatchEnded.{WatchEnded}
use Rattle.decided.specs.One.{With}
use Rattle.decided.proofs.Laws.{one_outcome, injective, undone}
use Rattle.losses.specs.Decided.{Views, Decided}

error_from : ℕ → LossError
error_from n = cond (eqb n bad_state_no) BadState WrongBuffer

told_from : LossSaid → Result (Option Loss) LossError
told_from (lost_is l) = Ok (Some l)
told_from none_lost = Ok None
told_from (loss_refused n) = Err (error_from n)

told_back : (t : Result (Option Loss) LossError) → told_from (loss_told t) ≡ t
unfolding told_from error_from
told_back (Ok (Some l)) = refl
told_back (Ok None) = refl
told_back (Err BadState) = refl
told_back (Err WrongBuffer) = refl

seen_from : WatchSaid → Result (Option Seen) LossError
seen_from quietly = Ok None
seen_from (kept_over first last) = Ok (Some (Kept first last))
seen_from (lost_over l) = Ok (Some (Lost l))
seen_from (watch_refused n) = Err (error_from n)

seen_back : (s : Result (Option Seen) LossError) → seen_from (seen_as s) ≡ s
unfolding seen_from error_from
seen_back (Ok None) = refl
seen_back (Ok (Some (Kept first last))) = refl
seen_back (Ok (Some (Lost l))) = refl
seen_back (Err BadState) = refl
seen_back (Err WrongBuffer) = refl

told_both : (r r' : With (Result (Option Loss) LossError)) → loss_after (loss_told r.answer) r.memory ≡ loss_after (loss_told r'.answer) r'.memory → r ≡ r'
told_both r r' h =
    let t : r.answer ≡ r'.answer = undone loss_told told_from told_back r.answer r'.answer (ap (λ (a : LossAfter). a.said) h) in
    let m : r.memory ≡ r'.memory = ap (λ (a : LossAfter). a.memory) h in
    λ i. record { answer = t i; memory = m i }

watched_both : (r r' : With Watched) → after_watch r.answer r.memory ≡ after_watch r'.answer r'.memory → r ≡ r'
watched_both r r' h =
    let s : r.answer.seen ≡ r'.answer.seen = undone seen_as seen_from seen_back r.answer.seen r'.answer.seen (ap (λ (a : WatchAfter). a.seen) h) in
    let w : r.answer.watch ≡ r'.answer.watch = ap (λ (a : WatchAfter). a.watch) h in
    let n : r.answer.taken ≡ r'.answer.taken = ap (λ (a : WatchAfter). a.taken) h in
    let m : r.memory ≡ r'.memory = ap (λ (a : WatchAfter). a.memory) h in
    λ i. record { answer = record { watch = w i; seen = s i; taken = n i }; memory = m i }

ended_one : (r r' : WatchEnded) → after_end r ≡ after_end r' → r ≡ r'
ended_one r r' h =
    let t : r.told ≡ r'.told = undone loss_told told_from told_back r.told r'.told (ap (λ (a : EndAfter). a.told) h) in
    let w : r.watch ≡ r'.watch = ap (λ (a : EndAfter). a.watch) h in
    λ i. record { watch = w i; told = t i }

pub views : Views
views = record { told = told_both; watched = watched_both; ended = ended_one }

pub decided : Decided
decided =
    record {
      new = λ capacity way. one_outcome _;
      watch_slice_claim = λ w buf chunk. injective (λ (r : With Watched). after_watch r.answer r.memory) views.watched _;
      watch_end_claim = λ w. injective after_end views.ended _;
      next_loss_claim = λ recording way buf from. injective (λ (r : With (Result (Option Loss) LossError)). loss_after (loss_told r.answer) r.memory) views.told _;
    }
