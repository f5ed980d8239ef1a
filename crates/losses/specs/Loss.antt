-- rule: what was lost of a recording and why, document 02's Q-10: the answers of a new decoder that is pushed the recording's bytes, then finalized.
use Rattle.std.specs.Prelude.{Bool, true, false, cond, not, ◌||◌, Option, Some, None, Result, Ok, Err, List, [], ◌∷◌, ◌++◌, ℕ, suc, ◌+◌, ◌-◌, length, take, drop, get_or, eqb, ltb}
use Rattle.refusals.specs.Numbers.{bad_state_no, wrong_buffer_no, discarded_bytes_no, invalid_esc_no, invalid_message_no, limit}
use Rattle.frame.specs.Frame.{start_seq, same}
use Rattle.decoder.specs.Push.{in_way}
use Rattle.decoder.specs.Record.{DecoderAnswer, nothing, payload, count, refusal, After, new_record, unknown_way, push_record, finalize_record}
use Rattle.decoder.specs.declared.Decoder.{Decoder}
use Rattle.losses.specs.declared.Cause.{Cause}
use Rattle.losses.specs.declared.Cause.TheVariants.{Noise, Unfinished, Hidden, Cut, UnknownEscape, NoRoom, Invalid}
use Rattle.losses.specs.declared.Loss.{Loss}
use Rattle.losses.specs.declared.LossError.{LossError}
use Rattle.losses.specs.declared.LossError.TheVariants.{BadState, WrongBuffer}

-- ---- whole start sequences

-- do the bytes l begin with one? does one lie in them?
abbrev pub begins_in_start : List ℕ → Bool
begins_in_start l = same (take 8 l) start_seq

unfoldable pub has_start : List ℕ → Bool
has_start [] = false
has_start (b ∷ l) = begins_in_start (b ∷ l) || has_start l

-- ---- the cause

-- of a DiscardedBytes: in a frame that was running a new start, or the recording's end; in a search by whether a whole start lies in the bytes that were passed over
abbrev pub dropped_for : Bool → Bool → Bool → Cause
dropped_for at_end running hides = cond running (cond at_end Unfinished Cut) (cond hides Hidden Noise)

-- an end sequence says p pad bytes, too many: over three, or more than there are data bytes. Start and end sequence are 16 bytes, and below four bytes of data nothing is escaped
abbrev pub wrong_pads : ℕ → ℕ → Bool
wrong_pads long p = ltb 3 p || ltb long (p + 16)

-- of an InvalidMessage, by its values: CRC read, CRC computed, 1 if misaligned, pad bytes
abbrev pub invalid_for : ℕ → List ℕ → Cause
invalid_for long v = Invalid (not (eqb (get_or v 0 0) (get_or v 1 0))) (eqb (get_or v 2 0) 1) (wrong_pads long (get_or v 3 0))

-- of a refusal whose piece has so many bytes; another answer has none, which Noise stands for
unfoldable pub cause_of : Bool → Bool → Bool → ℕ → DecoderAnswer → Cause
cause_of at_end running hides long nothing = Noise
cause_of at_end running hides long (payload bytes) = Noise
cause_of at_end running hides long (count k) = Noise
cause_of at_end running hides long (refusal k v) =
    cond (eqb k discarded_bytes_no) (dropped_for at_end running hides)
    (cond (eqb k invalid_esc_no) UnknownEscape (cond (eqb k invalid_message_no) (invalid_for long v) NoRoom))

-- ---- its piece of the recording

-- a refusal at the last of the bytes h since the search or frame began: all of them, less the eight of a new start
abbrev pub piece_of : DecoderAnswer → List ℕ → List ℕ
piece_of nothing h = h
piece_of (payload bytes) h = h
piece_of (count k) h = h
piece_of (refusal k v) h = cond (eqb k discarded_bytes_no) (take (length h - 8) h) h

-- `begun` bytes of the recording stand before the piece
abbrev pub loss_over : Cause → ℕ → ℕ → Loss
loss_over cause begun long = record { cause = cause; first = suc begun; last = begun + long }

-- whether a frame was running is told by its bytes h: exactly then they begin with a start (`frame-begins` of crate causes)
abbrev pub loss_at : Bool → DecoderAnswer → ℕ → List ℕ → List ℕ → Loss
loss_at at_end a begun h piece = loss_over (cause_of at_end (begins_in_start h) (has_start piece) (length piece) a) begun (length piece)

-- ---- the next loss

pub data LossSaid : Type 0 where
  lost_is : Loss → LossSaid
  none_lost : LossSaid  -- nothing more is lost
  loss_refused : ℕ → LossSaid  -- document 01's number

abbrev pub loss_told : Result (Option Loss) LossError → LossSaid
loss_told (Ok (Some l)) = lost_is l
loss_told (Ok None) = none_lost
loss_told (Err BadState) = loss_refused bad_state_no
loss_told (Err WrongBuffer) = loss_refused wrong_buffer_no

-- an answer, and the lent memory as it is then
pub record LossAfter : Type 0 where
  pub said : LossSaid
  pub memory : List ℕ

abbrev pub loss_after : LossSaid → List ℕ → LossAfter
loss_after s m = record { said = s; memory = m }

abbrev pub is_refusal : DecoderAnswer → Bool
is_refusal nothing = false
is_refusal (payload bytes) = false
is_refusal (count k) = false
is_refusal (refusal k v) = true

abbrev pub hands_out : DecoderAnswer → Bool
hands_out nothing = false
hands_out (payload bytes) = true
hands_out (count k) = false
hands_out (refusal k v) = false

-- the first refusal of a decoder that is pushed the bytes, then finalized: behind `begun` bytes its search or frame began, of which it has read h
unfoldable pub next_behind : Decoder → List ℕ → ℕ → List ℕ → List ℕ → LossAfter
next_behind d m begun h [] =
    let a : DecoderAnswer = (finalize_record d).answer in
    loss_after (cond (is_refusal a) (lost_is (loss_at true a begun h h)) none_lost) m
next_behind d m begun h (b ∷ bytes) =
    let a : After = push_record d m b in
    let g : List ℕ = h ++ b ∷ [] in
    cond (is_refusal a.answer) (loss_after (lost_is (loss_at false a.answer begun h (piece_of a.answer g))) a.memory)
    (cond (hands_out a.answer) (next_behind a.decoder a.memory (begun + length g) [] bytes) (next_behind a.decoder a.memory begun g bytes))

-- what is lost next behind the recording's first `from` bytes: 4 for an unknown way, 5 for a buffer over the limit, else by a new decoder of its length
unfoldable pub next_loss : List ℕ → ℕ → List ℕ → ℕ → LossAfter
next_loss recording way m from =
    cond (unknown_way way) (loss_after (loss_refused bad_state_no) m)
    (cond (ltb limit (length m)) (loss_after (loss_refused wrong_buffer_no) m) (next_behind (new_record (in_way way (length m))) m from [] (drop from recording)))
