-- claim: when a cause is true of a piece of a recording: by the way of searching, the capacity, the piece's bytes and those behind it. No state and no step of a decoder occurs.
use Rattle.std.specs.Prelude.{◌≡◌, Bool, true, List, [], ◌++◌, ℕ, ◌+◌, ◌-◌, ◌%◌, ◌≤◌, ◌<◌, length, take, replicate}
use Rattle.crc_x25.specs.Crc.{crc_of}
use Rattle.frame.specs.Frame.{start_seq, esc_seq, run_behind}
use Rattle.search.specs.Found.{HasStart, NoneWhole}
use Rattle.decoder.specs.Push.{first_way}
use Rattle.since.specs.Since.{frame_head, Misses}
use Rattle.since.specs.Exactly.{OpensExactly, NoRoomFor, Meaningless, EndOf}
use Rattle.losses.specs.declared.Cause.{Cause}
use Rattle.losses.specs.declared.Cause.TheVariants.{Noise, Unfinished, Hidden, Cut, UnknownEscape, NoRoom, Invalid}

-- document 02's nine
pub data Reason : Type 0 where
  is_noise : Reason
  is_unfinished : Reason
  is_hidden : Reason
  is_cut : Reason
  is_escape : Reason
  is_room_claim : Reason
  is_crc : Reason
  is_misaligned : Reason
  is_pads : Reason

-- ---- a search's bytes

-- behind w the recording ends, or a start follows that is found: in the first way it is where nothing is matched behind w
pub data SearchOver (way : ℕ) (w behind : List ℕ) : Type 0 where
  over_at_start : (rest : List ℕ) → behind ≡ start_seq ++ rest → (way ≡ first_way → Misses w) → SearchOver way w behind
  over_at_end : behind ≡ [] → SearchOver way w behind

-- the first way finds no start in w: it has passed bytes over, and matched the first n of a start
pub record Overlooks (w : List ℕ) : Type 0 where
  pub passed : List ℕ
  pub n : ℕ
  pub is : w ≡ passed ++ take n start_seq
  pub most : n ≤ 7
  pub misses : Misses passed

-- ---- a frame's bytes

-- a new start follows
pub record CutShort (C : ℕ) (w behind : List ℕ) : Type 0 where
  pub D : List ℕ
  pub is : w ≡ frame_head D
  pub clean : run_behind 0 D ≡ 0
  pub fits : length D + 4 ≤ C
  pub rest : List ℕ
  pub start : behind ≡ start_seq ++ rest

-- the recording ends in the data, r 1b of which are waited with, or among the bytes l behind an escape
pub data LeftOpen (C : ℕ) (w : List ℕ) : Type 0 where
  open_in_data : (E : List ℕ) (r : ℕ) → w ≡ frame_head E ++ replicate r 0x1b → run_behind 0 E ≡ 0 → r ≤ 3 → length E ≤ C → LeftOpen C w
  open_behind_escape : (D l : List ℕ) → w ≡ frame_head D ++ esc_seq ++ l → OpensExactly D l → length l ≤ 3 → length D + length l ≤ C → LeftOpen C w

-- an end sequence of which something is wrong: by the data, the pad count and the CRC that it says
pub record WrongEnd (C : ℕ) (w : List ℕ) (Wrong : List ℕ → ℕ → ℕ → Type 0) : Type 0 where
  pub D : List ℕ
  pub p : ℕ
  pub read : ℕ
  pub is : EndOf C w D p read
  pub wrong : Wrong D p read

pub data TooManyPads (D : List ℕ) (p : ℕ) : Type 0 where
  over_three : 3 < p → TooManyPads D p
  over_data : length D < p → TooManyPads D p

-- ---- the nine

abbrev pub TrueOf : ℕ → ℕ → List ℕ → List ℕ → Reason → Type 0
TrueOf way C w behind is_noise = (1 ≤ length w) × NoneWhole w × SearchOver way w behind
TrueOf way C w behind is_hidden = (way ≡ first_way) × HasStart w × Overlooks w × SearchOver way w behind
TrueOf way C w behind is_cut = CutShort C w behind
TrueOf way C w behind is_unfinished = (behind ≡ []) × LeftOpen C w
TrueOf way C w behind is_escape = (four : List ℕ) × Meaningless C w four
TrueOf way C w behind is_room_claim = NoRoomFor C w
TrueOf way C w behind is_crc = WrongEnd C w (λ D p read. read ≡ crc_of (take (length w - 2) w) → ⊥)
TrueOf way C w behind is_misaligned = WrongEnd C w (λ D p read. length D % 4 ≡ 0 → ⊥)
TrueOf way C w behind is_pads = WrongEnd C w (λ D p read. TooManyPads D p)

-- ---- what a told cause names

pub data Names : Cause → Reason → Type 0 where
  names_noise : Names Noise is_noise
  names_unfinished : Names Unfinished is_unfinished
  names_hidden : Names Hidden is_hidden
  names_cut : Names Cut is_cut
  names_escape : Names UnknownEscape is_escape
  names_room : Names NoRoom is_room_claim
  names_crc : {misaligned pads : Bool} → Names (Invalid true misaligned pads) is_crc
  names_misaligned : {crc pads : Bool} → Names (Invalid crc true pads) is_misaligned
  names_pads : {crc misaligned : Bool} → Names (Invalid crc misaligned true) is_pads
