-- claim: what a tool that names the losses of a recording one by one must answer, over any such tool.
use Rattle.std.specs.Prelude.{◌≡◌, Bool, true, false, cond, ◌&&◌, List, [], ◌++◌, map, ℕ, suc, ◌+◌, ◌-◌, ◌≤◌, ◌<◌, length, take, drop, ltb}
use Rattle.refusals.specs.Numbers.{bad_state_no, wrong_buffer_no, limit}
use Rattle.decoder.specs.Push.{in_way}
use Rattle.decoder.specs.Record.{nothing, after, new_record}
use Rattle.decoder.specs.Run.{KnownWay, push, behind}
use Rattle.since.specs.Since.{AllBytes}
use Rattle.since.specs.Exactly.{SoundWithin}
use Rattle.losses.specs.Loss.{LossSaid, lost_is, none_lost, loss_refused, LossAfter, loss_after, next_loss}
use Rattle.losses.specs.declared.Loss.{Loss}
use Rattle.losses.specs.declared.Cause.{Cause}
use Rattle.losses.specs.declared.Cause.TheVariants.{Noise, Unfinished, Hidden, Cut, UnknownEscape, NoRoom, Invalid}
use Rattle.causes.specs.Causes.{Reason, TrueOf, Names}

-- a recording, a way of searching, a lent buffer, and the place behind which the next loss is asked for
abbrev pub Tool : Type 0
Tool = List ℕ → ℕ → List ℕ → ℕ → LossAfter

-- sound frames that fit, one behind another
pub data Frames (C : ℕ) : List ℕ → Type 0 where
  no_frames : Frames C []
  frame_more : {w l : List ℕ} (P : List ℕ) → SoundWithin C w P → Frames C l → Frames C (w ++ l)

-- the bytes behind the first `from` of a recording are frames, then a piece that is lost, with at least one cause: a cause is named exactly if it is true
pub record LostNext (way C : ℕ) (bytes : List ℕ) (from : ℕ) (l : Loss) : Type 0 where
  pub frames : List ℕ
  pub piece : List ℕ
  pub rest : List ℕ
  pub is : bytes ≡ frames ++ (piece ++ rest)
  pub kept : Frames C frames
  pub first' : l.first ≡ suc (from + length frames)
  pub last' : l.last ≡ from + length frames + length piece
  pub reason : Reason
  pub some : Names l.cause reason
  pub truly : (r : Reason) → Names l.cause r → TrueOf way C piece rest r
  pub all : (r : Reason) → TrueOf way C piece rest r → Names l.cause r

-- nothing is lost where all is frames
abbrev pub Accounts : ℕ → ℕ → List ℕ → ℕ → LossSaid → Type 0
Accounts way C bytes from (lost_is l) = LostNext way C bytes from l
Accounts way C bytes from none_lost = Frames C bytes
Accounts way C bytes from (loss_refused n) = ⊥

-- what ends where a start follows, if a byte follows
abbrev pub ends_at_start : Cause → Bool
ends_at_start Noise = true
ends_at_start Hidden = true
ends_at_start Cut = true
ends_at_start Unfinished = false
ends_at_start UnknownEscape = false
ends_at_start NoRoom = false
ends_at_start (Invalid crc misaligned pads) = false

-- so many of the bytes behind the first `from` were pushed for an answer: up to the piece's last, with the eight of the start that ends it, or all
abbrev pub pushed_for : ℕ → ℕ → LossSaid → ℕ
pushed_for many from (lost_is l) = l.last - from + cond (ends_at_start l.cause && ltb (l.last - from) many) 8 0
pushed_for many from none_lost = many
pushed_for many from (loss_refused n) = 0

-- the buffer behind the pushes of these bytes to a new decoder
abbrev pub buffer_behind : ℕ → List ℕ → List ℕ → List ℕ
buffer_behind way m bytes = (behind (after nothing (new_record (in_way way (length m))) m) (map push bytes)).memory

-- ---- the claims

-- 4 for an unknown way, before all else; the buffer is unchanged
abbrev pub RefusesWayFirst : Tool → Type 0
RefusesWayFirst T = (recording : List ℕ) (way : ℕ) (m : List ℕ) (from : ℕ) → (KnownWay way → ⊥) → T recording way m from ≡ loss_after (loss_refused bad_state_no) m

-- then 5 for a capacity over the limit
abbrev pub RefusesTooLarge : Tool → Type 0
RefusesTooLarge T = (recording : List ℕ) (way : ℕ) (m : List ℕ) (from : ℕ) → KnownWay way → limit < length m → T recording way m from ≡ loss_after (loss_refused wrong_buffer_no) m

-- else an account of the bytes behind the place
abbrev pub AccountsExactly : Tool → Type 0
AccountsExactly T = (recording : List ℕ) (way : ℕ) (m : List ℕ) (from : ℕ) → AllBytes recording → KnownWay way → length m ≤ limit
    → Accounts way (length m) (drop from recording) from (T recording way m from).said

-- and the buffer is what the pushes for it leave
abbrev pub LeavesPushes : Tool → Type 0
LeavesPushes T = (recording : List ℕ) (way : ℕ) (m : List ℕ) (from : ℕ) → AllBytes recording → KnownWay way → length m ≤ limit
    → (T recording way m from).memory ≡ buffer_behind way m (take (pushed_for (length (drop from recording)) from (T recording way m from).said) (drop from recording))

pub record GoodTool (T : Tool) : Type 0 where
  pub way_first : RefusesWayFirst T
  pub too_large_claim : RefusesTooLarge T
  pub accounts : AccountsExactly T
  pub pushes : LeavesPushes T

-- who keeps them answers every recording of bytes as ours does
abbrev pub OnlyOurTool : Type 0
OnlyOurTool = (T : Tool) → GoodTool T → (recording : List ℕ) (way : ℕ) (m : List ℕ) (from : ℕ) → AllBytes recording → T recording way m from ≡ next_loss recording way m from

-- so what is said depends on the buffer's length alone: asked again behind the last loss, with whatever content, such a tool says again that nothing more is lost
abbrev pub AlwaysByLength : Type 0
AlwaysByLength = (T : Tool) → GoodTool T → (recording : List ℕ) (way : ℕ) (m m' : List ℕ) (from : ℕ) → AllBytes recording → length m ≡ length m' → (T recording way m from).said ≡ (T recording way m' from).said

-- and a loss has its first byte behind the place, its last one not before it, and within the recording
pub record WithinRecording (bytes : List ℕ) (from : ℕ) (l : Loss) : Type 0 where
  pub first_behind : from < l.first
  pub some_bytes : l.first ≤ l.last
  pub last_within : l.last ≤ from + length bytes

abbrev pub AlwaysWithin : Type 0
AlwaysWithin = (way C : ℕ) (bytes : List ℕ) (from : ℕ) (l : Loss) → LostNext way C bytes from l → WithinRecording bytes from l
