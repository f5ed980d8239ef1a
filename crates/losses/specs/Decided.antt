-- check: mark 1 of crate losses. Its contracts allow one outcome for each input, and its views lose nothing. Each crate has such a file.
use Rattle.std.specs.Prelude.{◌≡◌, List, ℕ, Option, Result}
use Rattle.losses.specs.Loss.{loss_told, loss_after, next_loss}
use Rattle.losses.specs.Watch.{watch_new, after_watch, watch_slice, after_end, watch_end}
use Rattle.losses.specs.declared.Loss.{Loss}
use Rattle.losses.specs.declared.LossError.{LossError}
use Rattle.losses.specs.declared.Watch.{Watch}
use Rattle.losses.specs.declared.Watched.{Watched}
use Rattle.losses.specs.declared.WatchEnded.{WatchEnded}
use Rattle.decided.specs.One.{One, With, Injective}

-- every view that a contract cites; where memory is lent, the view of the answer together with it
pub record Views : Type 0 where
  pub told : Injective (λ (r : With (Result (Option Loss) LossError)). loss_after (loss_told r.answer) r.memory)
  pub watched : Injective (λ (r : With Watched). after_watch r.answer r.memory)
  pub ended : Injective after_end

-- every public function: over its parameters, what its `ensures` allows. A slice that is lent stands for what it holds at the call
pub record Decided : Type 0 where
  pub new : (capacity way : ℕ) → One (λ (r : Watch). r ≡ watch_new capacity way 0)
  pub watch_slice_claim : (w : Watch) (buf chunk : List ℕ) → One (λ (r : With Watched). after_watch r.answer r.memory ≡ watch_slice w buf chunk)
  pub watch_end_claim : (w : Watch) → One (λ (r : WatchEnded). after_end r ≡ watch_end w)
  pub next_loss_claim : (recording : List ℕ) (way : ℕ) (buf : List ℕ) (from : ℕ) → One (λ (r : With (Result (Option Loss) LossError)). loss_after (loss_told r.answer) r.memory ≡ next_loss recording way buf from)
