-- claim: a recording that comes in slices, cut anyhow, to something that keeps a state: it tells the losses that calls over the whole recording tell, and with the frames that it tells they are the recording.
use Rattle.std.specs.Prelude.{◌≡◌, cond, List, [], ◌∷◌, ◌++◌, ℕ, ◌+◌, ◌-◌, ◌^◌, ◌≤◌, ◌<◌, length, take, drop}
use Rattle.refusals.specs.Numbers.{bad_state_no, wrong_buffer_no, limit}
use Rattle.decoder.specs.Run.{KnownWay}
use Rattle.since.specs.Since.{AllBytes}
use Rattle.losses.specs.Loss.{LossSaid, loss_refused, next_loss}
use Rattle.losses.specs.Watch.{WatchSaid, quietly, kept_over, lost_over, watch_refused, watch_new, watch_slice, watch_end}
use Rattle.losses.specs.declared.Loss.{Loss}
use Rattle.losses.specs.declared.Watch.{Watch}
use Rattle.causes.specs.Tools.{ends_at_start, buffer_behind}
use Rattle.causes.specs.Calls.{Calls, losses_among, Parted, payloads_in}

-- what a slice brings, how many of its bytes were taken, the state and the buffer behind them
pub record SliceSeen (State : Type 0) : Type 0 where
  pub said : WatchSaid
  pub state : State
  pub taken : ℕ
  pub memory : List ℕ

pub record Watcher : Type 1 where
  pub State : Type 0
  pub new : ℕ → ℕ → State  -- capacity, way of searching
  pub slice : State → List ℕ → List ℕ → SliceSeen State  -- with the lent buffer, the slice
  pub end : State → LossSaid

-- ours
abbrev pub our_watcher : Watcher
our_watcher = record {
  State = Watch;
  new = λ capacity way. watch_new capacity way 0;
  slice = λ w m c. let a = watch_slice w m c in record { said = a.seen; state = a.watch; taken = a.taken; memory = a.memory };
  end = λ w. (watch_end w).told;
}

-- the byte that brings a loss: its last one, or where a start ends it that start's eighth
abbrev pub told_at : Loss → ℕ
told_at l = l.last + cond (ends_at_start l.cause) 8 0

-- slices, one behind another, x being all bytes that were taken before, and the buffer m at first: what pushes of x leave is lent, and what pushes of the bytes that are taken leave is left. Behind a frame or a loss, which is told with the byte that brings it, the rest of the slice is lent again. What was seen, and what the end says
pub data Watches (W : Watcher) (way : ℕ) (m : List ℕ) : W.State → List ℕ → List (List ℕ) → List WatchSaid → LossSaid → Type 0 where
  watches_over : {w : W.State} {x : List ℕ} {final : LossSaid} → W.end w ≡ final → Watches W way m w x [] [] final
  watches_quiet : {w w' : W.State} {x c : List ℕ} {more : List (List ℕ)} {seen : List WatchSaid} {final : LossSaid}
      → W.slice w (buffer_behind way m x) c ≡ record { said = quietly; state = w'; taken = length c; memory = buffer_behind way m (x ++ c) }
      → Watches W way m w' (x ++ c) more seen final → Watches W way m w x (c ∷ more) seen final
  watches_kept : {w w' : W.State} {x c : List ℕ} {more : List (List ℕ)} {seen : List WatchSaid} {final : LossSaid} {first n : ℕ} → 1 ≤ n → n ≤ length c
      → W.slice w (buffer_behind way m x) c ≡ record { said = kept_over first (length x + n); state = w'; taken = n; memory = buffer_behind way m (x ++ take n c) }
      → Watches W way m w' (x ++ take n c) (drop n c ∷ more) seen final → Watches W way m w x (c ∷ more) (kept_over first (length x + n) ∷ seen) final
  watches_lost : {w w' : W.State} {x c : List ℕ} {more : List (List ℕ)} {seen : List WatchSaid} {final : LossSaid} {l : Loss} {n : ℕ} → 1 ≤ n → n ≤ length c → told_at l ≡ length x + n
      → W.slice w (buffer_behind way m x) c ≡ record { said = lost_over l; state = w'; taken = n; memory = buffer_behind way m (x ++ take n c) }
      → Watches W way m w' (x ++ take n c) (drop n c ∷ more) seen final → Watches W way m w x (c ∷ more) (lost_over l ∷ seen) final

-- the slices one behind another
unfoldable pub joined : List (List ℕ) → List ℕ
joined [] = []
joined (c ∷ more) = c ++ joined more

pub record TellsInSlices (W : Watcher) (recording : List ℕ) (way : ℕ) (m : List ℕ) (chunks : List (List ℕ)) : Type 0 where
  pub seen : List WatchSaid
  pub final : LossSaid
  pub watches : Watches W way m (W.new (length m) way) [] chunks seen final
  pub as_called : Calls next_loss recording way 0 m (losses_among seen final) (buffer_behind way m recording)
  pub parted : Parted way (length m) 0 recording seen final (payloads_in way m recording)

-- of every recording of bytes whose places 64 bits hold
abbrev pub WatchesAsCalled : Watcher → Type 0
WatchesAsCalled W =
    (recording : List ℕ) (way : ℕ) (m : List ℕ) (chunks : List (List ℕ)) → AllBytes recording → length recording ≤ 2 ^ 64 - 2 → KnownWay way → length m ≤ limit
    → joined chunks ≡ recording → TellsInSlices W recording way m chunks

-- 4 for an unknown way, at every slice, an empty one too, and at the end; 5 for a capacity over the limit, at every slice. State and buffer are unchanged, and no byte is taken
pub record RefusesAtSlices (W : Watcher) : Type 0 where
  pub way_first : (capacity way : ℕ) (m c : List ℕ) → (KnownWay way → ⊥) → let w = W.new capacity way in W.slice w m c ≡ record { said = watch_refused bad_state_no; state = w; taken = 0; memory = m }
  pub way_end : (capacity way : ℕ) → (KnownWay way → ⊥) → W.end (W.new capacity way) ≡ loss_refused bad_state_no
  pub too_large_claim : (capacity way : ℕ) (m c : List ℕ) → KnownWay way → limit < capacity → length c ≤ 2 ^ 64 - 2 → let w = W.new capacity way in W.slice w m c ≡ record { said = watch_refused wrong_buffer_no; state = w; taken = 0; memory = m }

pub record GoodWatcher (W : Watcher) : Type 0 where
  pub refuses_first : RefusesAtSlices W
  pub as_called : WatchesAsCalled W
