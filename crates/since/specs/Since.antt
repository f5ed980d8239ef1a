-- claim: what the bytes since a reached decoder's search or frame began are in each state, and what an event says of them.
use Rattle.std.specs.Prelude.{◌≡◌, Bool, false, List, [], ◌∷◌, ◌++◌, ℕ, ◌-◌, ◌≤◌, ◌<◌, length, take, drop, replicate}
use Rattle.crc_x25.specs.Crc.{start, register}
use Rattle.frame.specs.Frame.{start_seq, esc_seq, escaped, Sound, run_behind}
use Rattle.search.specs.Search.{most_matched}
use Rattle.search.specs.Found.{NoneWhole}
use Rattle.decoder.specs.Push.{first_way, second_way, Mem, State, search, body, escape, done, PushEvent, silent, discarded, pays_out, memory, bad_escape, bad_message, stopped, starts}
use Rattle.decoder.specs.declared.Setup.{Setup}

-- ---- what they are in each state

-- a frame up to where the data D is read
unfoldable pub frame_head : List ℕ → List ℕ
frame_head D = start_seq ++ escaped 0 D

-- what a search in the first way has passed over: again and again some first bytes of the start sequence, and a byte that doesn't go on with it
pub data Misses : List ℕ → Type 0 where
  none_passed : Misses []
  miss : (n b : ℕ) {l : List ℕ} → n ≤ 7 → starts n b ≡ false → Misses l → Misses (take n start_seq ++ (b ∷ l))

-- a search: bytes that were passed over, and the first n bytes of the start sequence. In the second way no whole start sequence lies in them together, and they end with no more of one
pub record InSearch (C : Setup) (h : List ℕ) (n noise raw : ℕ) : Type 0 where
  pub passed : List ℕ
  pub here : h ≡ passed ++ take n start_seq
  pub most : n ≤ 7
  pub misses : C.way ≡ first_way → Misses passed
  pub matched : C.way ≡ second_way → n ≡ most_matched h
  pub none_whole : C.way ≡ second_way → NoneWhole h
  pub dropped : noise ≡ stopped (length passed)
  pub long : raw ≡ stopped (length h)

-- a frame's data: the stored bytes, behind which no 1b of a run but whole fours stand, and r 1b that wait; the register, taken on over the stored bytes that it has not gone over, is that of all bytes but the waiting ones
pub record InBody (C : Setup) (h : List ℕ) (r : ℕ) (m : Mem) : Type 0 where
  pub here : h ≡ frame_head m.stored ++ replicate r 0x1b
  pub few : r ≤ 3
  pub clean : run_behind 0 m.stored ≡ 0
  pub fits : length m.stored ≤ C.capacity
  pub long : m.raw ≡ stopped (length h)
  pub index : m.idx ≤ length m.stored
  pub sum : register m.reg (drop m.idx m.stored) ≡ register start (frame_head m.stored)

-- the data ends no run of 1b but whole fours, or what follows the escape begins with 1a: an end sequence that was found early has 1 to 3 of the data's 1b before it
pub data Opens (D l : List ℕ) : Type 0 where
  tidy : run_behind 0 D ≡ 0 → Opens D l
  early_end : (k : List ℕ) → l ≡ 0x1a ∷ k → Opens D l

-- behind an escape: the data D, and k bytes l behind the escape, all stored
pub record InEscape (C : Setup) (h : List ℕ) (k : ℕ) (m : Mem) : Type 0 where
  pub D : List ℕ
  pub l : List ℕ
  pub here : h ≡ frame_head D ++ esc_seq ++ l
  pub has : m.stored ≡ D ++ l
  pub count : length l ≡ k
  pub few : k ≤ 3
  pub opens : Opens D l
  pub fits : length m.stored ≤ C.capacity
  pub long : m.raw ≡ stopped (length h)
  pub index : m.idx ≤ length D
  pub sum : register m.reg (drop m.idx D) ≡ register start (frame_head D ++ esc_seq)

abbrev pub ReadSince : Setup → List ℕ → State → Type 0
ReadSince C h (search n noise raw) = InSearch C h n noise raw
ReadSince C h (body r m) = InBody C h r m
ReadSince C h (escape k m) = InEscape C h k m
ReadSince C h (done P) = (h ≡ []) × (length P ≤ C.capacity)

-- ---- what an event says of w, the bytes since the search or frame began with the one that brought it. Of no event and of the refusals 3, 7 and 8 nothing is said here

-- all bytes
abbrev pub AllBytes : List ℕ → Type 0
AllBytes [] = Unit {0}
AllBytes (x ∷ l) = (x < 256) × AllBytes l

pub data EventSays (C : Setup) (w : List ℕ) : PushEvent → Type 0 where
  goes_on : EventSays C w silent
  -- a start behind bytes that were passed over; in the second way none lies whole in them and its own first seven bytes together
  start_found : (k : ℕ) (x : List ℕ) → w ≡ x ++ start_seq → (C.way ≡ first_way → Misses x) → (C.way ≡ second_way → NoneWhole (x ++ take 7 start_seq))
      → 1 ≤ length x → k ≡ stopped (length x) → EventSays C w (discarded k)
  -- a start inside a frame
  start_inside : (k : ℕ) (D : List ℕ) → w ≡ frame_head D ++ start_seq → k ≡ stopped (length w) - 8 → EventSays C w (discarded k)
  no_room : EventSays C w memory
  no_escape : {a b c d : ℕ} → EventSays C w (bad_escape a b c d)
  no_message : {read computed : ℕ} {mis : Bool} {p : ℕ} → EventSays C w (bad_message read computed mis p)
  -- the last byte of a sound frame, where all that was pushed are bytes
  frame_ends : (P : List ℕ) → (AllBytes w → Sound w P) → EventSays C w (pays_out P)
