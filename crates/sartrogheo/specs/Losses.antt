-- rule: what the library's calls for lost bytes answer in plain numbers, and what they leave in all that they are lent.
use Rattle.std.specs.Prelude.{Bool, cond, List, [], ◌∷◌, ℕ, ◌+◌, get_or, ltb}
use Rattle.std.proofs.Math.Option.{Option, some, none}
use Rattle.refusals.specs.Numbers.{bad_state_no}
use Rattle.packed.specs.Layout.{packed_in}
use Rattle.packed.specs.Packed.{Unpacked, holds, no_record, unpack_of}
use Rattle.losses.specs.Loss.{LossSaid, lost_is, none_lost, loss_refused, LossAfter, next_loss}
use Rattle.losses.specs.Watch.{look, watched, WatchSaid, quietly, kept_over, lost_over, watch_refused, WatchAfter, watch_slice, EndAfter, watch_end}
use Rattle.losses.specs.declared.Cause.{Cause}
use Rattle.losses.specs.declared.Cause.TheVariants.{Noise, Unfinished, Hidden, Cut, UnknownEscape, NoRoom, Invalid}
use Rattle.losses.specs.declared.Loss.{Loss}
use Rattle.losses.specs.declared.Watch.{Watch}
use Rattle.sartrogheo.specs.Calls.{good_no, payload_no, finished_no, lost_no, Reply, reply}

-- ---- a loss in three numbers: its causes, its first and its last byte

-- a bit for each cause, since several may be true of an end sequence
abbrev pub bit_if : Bool → ℕ → ℕ
bit_if b bit = cond b bit 0

abbrev pub cause_bits : Cause → ℕ
cause_bits Noise = 1
cause_bits Unfinished = 2
cause_bits Hidden = 4
cause_bits Cut = 8
cause_bits UnknownEscape = 16
cause_bits NoRoom = 32
cause_bits (Invalid crc misaligned pads) = bit_if crc 64 + (bit_if misaligned 128 + bit_if pads 256)

abbrev pub loss_words : Loss → List ℕ
loss_words l = cause_bits l.cause ∷ l.first ∷ l.last ∷ []

-- nothing is lost
abbrev pub no_loss_words : List ℕ
no_loss_words = 0 ∷ 0 ∷ 0 ∷ []

-- ---- the next loss

abbrev pub loss_said_no : LossSaid → ℕ
loss_said_no (lost_is l) = lost_no
loss_said_no none_lost = finished_no
loss_said_no (loss_refused n) = n

abbrev pub loss_said_words : LossSaid → List ℕ
loss_said_words (lost_is l) = loss_words l
loss_said_words none_lost = no_loss_words
loss_said_words (loss_refused n) = no_loss_words

unfoldable pub sgh_next_loss : List ℕ → ℕ → List ℕ → ℕ → Reply
sgh_next_loss recording way m from =
    let a : LossAfter = next_loss recording way m from in
    reply (loss_said_no a.said) (a.memory ∷ loss_said_words a.said ∷ [])

-- ---- a watch: a decoder's 28 bytes, and four numbers beside them. Four zeros are a new one beside a new decoder

abbrev pub watch_words : Watch → List ℕ
watch_words w = w.pushed ∷ w.begun ∷ w.look.matched ∷ w.look.start_end ∷ []

-- none where the bytes hold no decoder, and where the count of matched bytes is over 255, which no byte holds
abbrev pub watch_held : Unpacked → ℕ → ℕ → ℕ → ℕ → Option Watch
watch_held (no_record n) pushed begun matched end = none
watch_held (holds d) pushed begun matched end = cond (ltb 255 matched) none (some (watched d pushed begun (look matched end)))

unfoldable pub watch_in : List ℕ → List ℕ → Option Watch
watch_in l v = watch_held (unpack_of l) (get_or v 0 0) (get_or v 1 0) (get_or v 2 0) (get_or v 3 0)

-- what a slice brings: of a frame that was handed out no cause, and its first and last byte
abbrev pub sight_no : WatchSaid → ℕ
sight_no quietly = good_no
sight_no (kept_over first last) = payload_no
sight_no (lost_over l) = lost_no
sight_no (watch_refused n) = n

abbrev pub sight_words : WatchSaid → List ℕ
sight_words quietly = no_loss_words
sight_words (kept_over first last) = 0 ∷ first ∷ last ∷ []
sight_words (lost_over l) = loss_words l
sight_words (watch_refused n) = no_loss_words

abbrev pub watch_slice_or : Option Watch → List ℕ → List ℕ → List ℕ → List ℕ → Reply
watch_slice_or none l v m chunk = reply bad_state_no (l ∷ v ∷ m ∷ (0 ∷ []) ∷ no_loss_words ∷ [])
watch_slice_or (some w) l v m chunk =
    let a : WatchAfter = watch_slice w m chunk in
    reply (sight_no a.seen) (packed_in a.watch.decoder l ∷ watch_words a.watch ∷ a.memory ∷ (a.taken ∷ []) ∷ sight_words a.seen ∷ [])

unfoldable pub sgh_watch_slice : List ℕ → List ℕ → List ℕ → List ℕ → Reply
sgh_watch_slice l v m chunk = watch_slice_or (watch_in l v) l v m chunk

abbrev pub watch_end_or : Option Watch → List ℕ → List ℕ → Reply
watch_end_or none l v = reply bad_state_no (l ∷ v ∷ no_loss_words ∷ [])
watch_end_or (some w) l v =
    let a : EndAfter = watch_end w in
    reply (loss_said_no a.told) (packed_in a.watch.decoder l ∷ watch_words a.watch ∷ loss_said_words a.told ∷ [])

unfoldable pub sgh_watch_end : List ℕ → List ℕ → Reply
sgh_watch_end l v = watch_end_or (watch_in l v) l v
