-- claim: what the causes of a loss need beyond specs/Since: the bytes since a reached decoder's search or frame began, with where an end sequence that was found early stands, and what they are at each refusal.
use Rattle.std.specs.Prelude.{◌≡◌, Bool, false, not, List, [], ◌∷◌, ◌++◌, ℕ, suc, ◌+◌, ◌-◌, ◌*◌, ◌%◌, ◌≤◌, ◌<◌, length, take, drop, get_or, replicate, eqb}
use Rattle.crc_x25.specs.Crc.{start, register, crc_of}
use Rattle.frame.specs.Frame.{start_seq, esc_seq, restart_seq, missing, Sound, run_behind}
use Rattle.search.specs.Found.{NoneWhole}
use Rattle.decoder.specs.Push.{first_way, second_way, Mem, State, search, body, escape, done, PushEvent, silent, discarded, pays_out, memory, bad_escape, bad_message, stopped, early}
use Rattle.decoder.specs.declared.Setup.{Setup}
use Rattle.since.specs.Since.{frame_head, Misses, InSearch, InBody, AllBytes}

-- the data ends no run of 1b but whole fours; or it has a multiple of 4 bytes and what follows the escape begins with 1a: an end sequence that was found early has 1 to 3 of the data's 1b before it
pub data OpensExactly (D l : List ℕ) : Type 0 where
  tidy_exactly : run_behind 0 D ≡ 0 → OpensExactly D l
  early_end_exactly : (k : List ℕ) → length D % 4 ≡ 0 → l ≡ 0x1a ∷ k → OpensExactly D l

-- behind an escape: the data D, and k bytes l behind the escape, all stored
pub record InEscapeExactly (C : Setup) (h : List ℕ) (k : ℕ) (m : Mem) : Type 0 where
  pub D : List ℕ
  pub l : List ℕ
  pub here : h ≡ frame_head D ++ esc_seq ++ l
  pub has : m.stored ≡ D ++ l
  pub count : length l ≡ k
  pub few : k ≤ 3
  pub opens : OpensExactly D l
  pub fits : length m.stored ≤ C.capacity
  pub long : m.raw ≡ stopped (length h)
  pub index : m.idx ≤ length D
  pub sum : register m.reg (drop m.idx D) ≡ register start (frame_head D ++ esc_seq)

abbrev pub ReadExactly : Setup → List ℕ → State → Type 0
ReadExactly C h (search n noise raw) = InSearch C h n noise raw
ReadExactly C h (body r m) = InBody C h r m
ReadExactly C h (escape k m) = InEscapeExactly C h k m
ReadExactly C h (done P) = (h ≡ []) × (length P ≤ C.capacity)

-- ---- what the bytes w are at a refusal, for a capacity C: no state and no step of a decoder occurs

-- a byte that there is no room for: of the data, with the 1b that waited before it; or of those behind an escape
pub data NoRoomFor (C : ℕ) (w : List ℕ) : Type 0 where
  none_for_data : (E : List ℕ) (r b : ℕ) → w ≡ frame_head (E ++ (replicate r 0x1b ++ b ∷ [])) → run_behind 0 E ≡ 0 → r ≤ 3 → (b ≡ 0x1b → ⊥)
      → length E ≤ C → C < length E + suc r → NoRoomFor C w
  none_behind_escape : (D l : List ℕ) → w ≡ frame_head D ++ esc_seq ++ l → OpensExactly D l → 1 ≤ length l → length l ≤ 4 → length D + length l ≡ suc C → NoRoomFor C w

-- four bytes behind an escape that mean nothing: no data, no start, no end sequence, and none that was found early
pub record Meaningless (C : ℕ) (w four : List ℕ) : Type 0 where
  pub D : List ℕ
  pub is : w ≡ frame_head D ++ esc_seq ++ four
  pub long : length four ≡ 4
  pub clean : run_behind 0 D ≡ 0
  pub fits : length D + 4 ≤ C
  pub no_data : four ≡ esc_seq → ⊥
  pub no_start : four ≡ restart_seq → ⊥
  pub no_end_claim : get_or four 0 0 ≡ 0x1a → ⊥
  pub no_early : early (missing (length D)) four ≡ false

-- an end sequence: p pad bytes, and a CRC
pub record EndOf (C : ℕ) (w D : List ℕ) (p read : ℕ) : Type 0 where
  pub lo : ℕ
  pub hi : ℕ
  pub is : w ≡ frame_head D ++ esc_seq ++ (0x1a ∷ p ∷ lo ∷ hi ∷ [])
  pub reads : read ≡ lo + 256 * hi
  pub opens : OpensExactly D (0x1a ∷ p ∷ lo ∷ hi ∷ [])
  pub fits : length D + 4 ≤ C

-- a sound frame that fits
pub record SoundWithin (C : ℕ) (w P : List ℕ) : Type 0 where
  pub sound : Sound w P
  pub fits : length sound.D + 4 ≤ C

-- ---- what an event says of w, the bytes since the search or frame began with the one that brought it. Of no event nothing is said here

pub data SaysExactly (C : Setup) (w : List ℕ) : PushEvent → Type 0 where
  goes_on_exactly : SaysExactly C w silent
  -- a start behind bytes that were passed over; in the second way none lies whole in them and its own first seven bytes together
  start_found_exactly : (k : ℕ) (x : List ℕ) → w ≡ x ++ start_seq → (C.way ≡ first_way → Misses x) → (C.way ≡ second_way → NoneWhole (x ++ take 7 start_seq))
      → 1 ≤ length x → k ≡ stopped (length x) → SaysExactly C w (discarded k)
  -- a start inside a frame
  start_inside_exactly : (k : ℕ) (D : List ℕ) → w ≡ frame_head D ++ start_seq → run_behind 0 D ≡ 0 → length D + 4 ≤ C.capacity
      → k ≡ stopped (length w) - 8 → SaysExactly C w (discarded k)
  no_room_exactly : NoRoomFor C.capacity w → SaysExactly C w memory
  no_escape_exactly : {a b c d : ℕ} → Meaningless C.capacity w (a ∷ b ∷ c ∷ d ∷ []) → SaysExactly C w (bad_escape a b c d)
  -- what is told is what the end sequence says, and some of it is wrong
  no_message_exactly : {read computed : ℕ} {mis : Bool} {p : ℕ} (D : List ℕ) → EndOf C.capacity w D p read → computed ≡ crc_of (take (length w - 2) w)
      → mis ≡ not (eqb (length D % 4) 0) → (read ≡ computed → length D % 4 ≡ 0 → p ≤ 3 → p ≤ length D → ⊥) → SaysExactly C w (bad_message read computed mis p)
  -- the last byte of a sound frame, where all that was pushed are bytes
  frame_ends_exactly : (P : List ℕ) → (AllBytes w → SoundWithin C.capacity w P) → SaysExactly C w (pays_out P)
