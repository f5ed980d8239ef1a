-- check: the vectors of Q-10, and the limits of its sentences.
use Rattle.std.specs.Prelude.{◌≡◌, true, false, List, [], ◌∷◌, ◌++◌, ℕ, length, replicate}
use Rattle.frame.specs.Frame.{start_seq, esc_seq}
use Rattle.losses.specs.Loss.{lost_is, none_lost, loss_refused, LossAfter, loss_after}
use Rattle.losses.specs.declared.Cause.{Cause}
use Rattle.losses.specs.declared.Cause.TheVariants.{Noise, Unfinished, Hidden, Cut, UnknownEscape, NoRoom, Invalid}
use Rattle.losses.specs.declared.Loss.{Loss}
use Rattle.causes.specs.Tools.{Tool}

-- an end sequence of p pad bytes, and the CRC's two bytes
abbrev pub end_saying : ℕ → ℕ → ℕ → List ℕ
end_saying p low high = esc_seq ++ 0x1a ∷ p ∷ low ∷ high ∷ []

-- B1's frame, whose payload is 12345678
abbrev pub frame_kept : List ℕ
frame_kept = start_seq ++ 0x12 ∷ 0x34 ∷ 0x56 ∷ 0x78 ∷ end_saying 0x00 0xb8 0x7b

-- a piece from its first byte to its last, for this cause
abbrev pub lost_for : Cause → ℕ → ℕ → Loss
lost_for cause first last = record { cause = cause; first = first; last = last }

-- a call with so many bytes 00 lent
abbrev pub called : Tool → ℕ → ℕ → List ℕ → ℕ → LossAfter
called T way capacity recording from = T recording way (replicate capacity 0) from

-- calls from a place on, each from the last byte of the loss before: these losses, then no more
abbrev pub TellsFrom : Tool → ℕ → ℕ → List ℕ → ℕ → List Loss → Type 0
TellsFrom T way capacity recording from [] = (called T way capacity recording from).said ≡ none_lost
TellsFrom T way capacity recording from (l ∷ more) = ((called T way capacity recording from).said ≡ lost_is l) × TellsFrom T way capacity recording l.last more

pub record LossBench (T : Tool) : Type 0 where
  -- B5: a stray 1b before a frame
  pub stray : TellsFrom T 1 8 (0x1b ∷ frame_kept) 0 (lost_for Hidden 1 21 ∷ [])
  pub stray_second : TellsFrom T 2 8 (0x1b ∷ frame_kept) 0 (lost_for Noise 1 1 ∷ [])
  pub zero_before : TellsFrom T 1 8 (0x00 ∷ frame_kept) 0 (lost_for Noise 1 1 ∷ [])
  pub new_start : TellsFrom T 1 8 (start_seq ++ 0xaa ∷ 0xbb ∷ frame_kept) 0 (lost_for Cut 1 10 ∷ [])
  pub three_losses : TellsFrom T 1 8 (start_seq ++ esc_seq ++ 0x02 ∷ 0x00 ∷ 0x00 ∷ 0x00 ∷ 0xaa ∷ start_seq ++ 0x12 ∷ 0x34 ∷ 0x56 ∷ []) 0
      (lost_for UnknownEscape 1 16 ∷ lost_for Noise 17 17 ∷ lost_for Unfinished 18 28 ∷ [])
  pub no_room_claim : TellsFrom T 1 7 frame_kept 0 (lost_for NoRoom 1 20 ∷ [])
  pub wrong_crc : TellsFrom T 1 8 (start_seq ++ 0x12 ∷ 0x34 ∷ 0x56 ∷ 0x78 ∷ end_saying 0x00 0xb8 0x7a) 0 (lost_for (Invalid true false false) 1 20 ∷ [])
  -- two stray 1b hide the second frame; behind a 00 the third is found
  pub hidden_between : TellsFrom T 1 8 (frame_kept ++ 0x1b ∷ 0x1b ∷ frame_kept ++ 0x00 ∷ frame_kept) 0 (lost_for Hidden 21 43 ∷ [])
  pub all_three : TellsFrom T 1 12 (start_seq ++ 0x01 ∷ 0x02 ∷ 0x03 ∷ 0x04 ∷ 0x05 ∷ end_saying 0x04 0x07 0x4f) 0 (lost_for (Invalid true true true) 1 21 ∷ [])
  pub one_pad_of_none : TellsFrom T 1 12 (start_seq ++ end_saying 0x01 0x4f 0xf4) 0 (lost_for (Invalid false false true) 1 16 ∷ [])
  pub two_pads_of_one : TellsFrom T 1 12 (start_seq ++ 0x01 ∷ end_saying 0x02 0x16 0x1e) 0 (lost_for (Invalid false true true) 1 17 ∷ [])
  pub three_pads_of_three : TellsFrom T 2 12 (start_seq ++ 0x01 ∷ 0x02 ∷ 0x03 ∷ end_saying 0x03 0xed 0xf4) 0 (lost_for (Invalid false true false) 1 19 ∷ [])
  pub two_starts_claim : TellsFrom T 1 8 (start_seq ++ start_seq ++ 0x12 ∷ 0x34 ∷ []) 0 (lost_for Cut 1 8 ∷ lost_for Unfinished 9 18 ∷ [])
  pub seven_of_a_start : TellsFrom T 1 8 (0x1b ∷ 0x1b ∷ 0x1b ∷ 0x1b ∷ 0x01 ∷ 0x01 ∷ 0x01 ∷ []) 0 (lost_for Noise 1 7 ∷ [])
  pub a_frame : TellsFrom T 1 8 frame_kept 0 []
  pub nothing_at_all : TellsFrom T 1 8 [] 0 []
  pub no_capacity : TellsFrom T 1 0 (start_seq ++ start_seq) 0 (lost_for NoRoom 1 13 ∷ lost_for Noise 14 16 ∷ [])
  pub waits_at_the_end : TellsFrom T 2 8 (0x1b ∷ start_seq ++ 0x1b ∷ 0x1b ∷ 0x1b ∷ 0x1b ∷ 0x1b ∷ []) 0 (lost_for Noise 1 1 ∷ lost_for Unfinished 2 14 ∷ [])
  -- five 1b and a start are no hidden start: the first way finds it
  pub behind_five : TellsFrom T 1 8 (0x1b ∷ 0x1b ∷ 0x1b ∷ 0x1b ∷ 0x1b ∷ start_seq) 0 (lost_for Noise 1 5 ∷ lost_for Unfinished 6 13 ∷ [])
  -- from a place inside: what stands before it is not looked at, and places are the recording's
  pub from_inside : TellsFrom T 1 8 (0x00 ∷ 0x00 ∷ frame_kept) 1 (lost_for Noise 2 2 ∷ [])
  pub at_the_end_claim : TellsFrom T 1 8 (0x00 ∷ 0x00 ∷ []) 2 []
  pub past_the_end : TellsFrom T 1 8 (0x00 ∷ 0x00 ∷ []) 3 []
  pub far_past : TellsFrom T 2 8 (0x00 ∷ []) 18446744073709551615 []
  -- the buffer: behind a frame; behind the start that ends a piece, four of whose bytes were stored; behind the byte that has no room; and where nothing is stored
  pub writes : (called T 1 8 frame_kept 0).memory ≡ 0x12 ∷ 0x34 ∷ 0x56 ∷ 0x78 ∷ 0x1a ∷ 0x00 ∷ 0xb8 ∷ 0x7b ∷ []
  pub writes_the_start : (called T 1 8 (start_seq ++ 0xaa ∷ 0xbb ∷ start_seq ++ 0x12 ∷ []) 0).memory ≡ 0xaa ∷ 0xbb ∷ 0x01 ∷ 0x01 ∷ 0x01 ∷ 0x01 ∷ 0x00 ∷ 0x00 ∷ []
  pub writes_what_fits : (T (start_seq ++ 0x12 ∷ 0x34 ∷ 0x56 ∷ []) 1 (0x07 ∷ 0x07 ∷ []) 0).memory ≡ 0x12 ∷ 0x34 ∷ []
  pub writes_no_noise : (T (0x12 ∷ 0x34 ∷ []) 1 (0x07 ∷ 0x07 ∷ []) 0).memory ≡ 0x07 ∷ 0x07 ∷ []
  -- way 3 is 4, with a buffer over the limit too; way 2 with such a buffer is 5
  pub way_refused : T frame_kept 3 (0x07 ∷ []) 0 ≡ loss_after (loss_refused 4) (0x07 ∷ [])
  pub way_before_capacity : (m : List ℕ) → length m ≡ 1048577 → T frame_kept 3 m 0 ≡ loss_after (loss_refused 4) m
  pub capacity_refused : (m : List ℕ) → length m ≡ 1048577 → T frame_kept 2 m 0 ≡ loss_after (loss_refused 5) m
