-- rule: the same byte by byte, in a few numbers in place of the bytes since the search or frame began.
use Rattle.std.specs.Prelude.{Bool, true, false, cond, not, ◌||◌, Option, Some, None, Result, Ok, Err, List, [], ◌∷◌, ◌++◌, ℕ, suc, ◌+◌, ◌-◌, ◌^◌, length, take, eqb, ltb}
use Rattle.refusals.specs.Numbers.{bad_state_no, wrong_buffer_no, discarded_bytes_no}
use Rattle.frame.specs.Frame.{start_seq}
use Rattle.search.specs.Search.{most_matched}
use Rattle.decoder.specs.Push.{in_way}
use Rattle.decoder.specs.Record.{DecoderAnswer, nothing, payload, count, refusal, After, Left, new_record, bad_decoder, wrong_buffer, push_record, finalize_record}
use Rattle.decoder.specs.declared.Decoder.{Decoder}
use Rattle.decoder_slice.specs.Slice.{says_nothing}
use Rattle.losses.specs.Loss.{cause_of, loss_over, LossSaid, lost_is, none_lost, loss_refused, loss_told, is_refusal}
use Rattle.losses.specs.declared.Loss.{Loss}
use Rattle.losses.specs.declared.Look.{Look}
use Rattle.losses.specs.declared.Watch.{Watch}
use Rattle.losses.specs.declared.LossError.{LossError}
use Rattle.losses.specs.declared.LossError.TheVariants.{BadState, WrongBuffer}
use Rattle.losses.specs.declared.Seen.{Seen}
use Rattle.losses.specs.declared.Seen.TheVariants.{Kept, Lost}
use Rattle.losses.specs.declared.Watched.{Watched}
use Rattle.losses.specs.declared.WatchEnded.{WatchEnded}

-- ---- the first whole start sequence among the bytes since the search or frame began

abbrev pub look : ℕ → ℕ → Look
look matched end = record { matched = matched; start_end = end }

-- none of them yet
abbrev pub no_look : Look
no_look = look 0 0

-- those of a start
abbrev pub start_look : Look
start_look = look 8 8

-- one byte more behind n of them: where a start has been found nothing changes
abbrev pub looked_on : Look → ℕ → ℕ → Look
looked_on l n b =
    let k : ℕ = most_matched (take l.matched start_seq ++ b ∷ []) in
    cond (eqb l.start_end 0) (look k (cond (eqb k 8) (suc n) 0)) l

-- ---- one byte

-- a decoder, how many bytes were pushed, and how many of them stand before the running search or frame
abbrev pub watched : Decoder → ℕ → ℕ → Look → Watch
watched d pushed begun l = record { decoder = d; pushed = pushed; begun = begun; look = l }

-- behind the recording's first `from` bytes
abbrev pub watch_new : ℕ → ℕ → ℕ → Watch
watch_new capacity way from = watched (new_record (in_way way capacity)) from from no_look

-- what a byte or a slice brings
pub data WatchSaid : Type 0 where
  quietly : WatchSaid
  kept_over : ℕ → ℕ → WatchSaid  -- a frame's first and last byte
  lost_over : Loss → WatchSaid
  watch_refused : ℕ → WatchSaid  -- document 01's number

abbrev pub seen_as : Result (Option Seen) LossError → WatchSaid
seen_as (Ok None) = quietly
seen_as (Ok (Some (Kept first last))) = kept_over first last
seen_as (Ok (Some (Lost l))) = lost_over l
seen_as (Err BadState) = watch_refused bad_state_no
seen_as (Err WrongBuffer) = watch_refused wrong_buffer_no

-- what is seen, how many bytes were taken, with the watch and the lent memory as they are then
pub record WatchAfter : Type 0 where
  pub seen : WatchSaid
  pub watch : Watch
  pub taken : ℕ
  pub memory : List ℕ

abbrev pub watch_after : WatchSaid → Watch → ℕ → List ℕ → WatchAfter
watch_after s w n m = record { seen = s; watch = w; taken = n; memory = m }

abbrev pub after_watch : Watched → List ℕ → WatchAfter
after_watch r m = watch_after (seen_as r.seen) r.watch r.taken m

-- of so many bytes since the search or frame began, with the one that brought the answer: those that are over, all but the eight of a new start
abbrev pub over_of : DecoderAnswer → ℕ → ℕ
over_of nothing long = 0
over_of (payload bytes) long = long
over_of (count k) long = 0
over_of (refusal k v) long = cond (eqb k discarded_bytes_no) (long - 8) long

-- and how those that have begun look
abbrev pub look_behind : DecoderAnswer → Look
look_behind nothing = no_look
look_behind (payload bytes) = no_look
look_behind (count k) = no_look
look_behind (refusal k v) = cond (eqb k discarded_bytes_no) start_look no_look

-- a loss of so many bytes, by a look at those before the one that brought it
abbrev pub loss_seen : Bool → DecoderAnswer → Look → ℕ → ℕ → Loss
loss_seen at_end a l begun long = loss_over (cause_of at_end (eqb l.start_end 8) (not (eqb l.start_end 0)) long a) begun long

abbrev pub sight_of : DecoderAnswer → Look → ℕ → ℕ → WatchSaid
sight_of nothing l begun long = quietly
sight_of (payload bytes) l begun long = kept_over (suc begun) (begun + long)
sight_of (count k) l begun long = quietly
sight_of (refusal k v) l begun long = lost_over (loss_seen false (refusal k v) l begun long)

-- one byte more, of which nothing is said; or something, of a piece or frame of so many bytes
abbrev pub moved_on : Watch → Decoder → ℕ → Watch
moved_on w d b = watched d (suc w.pushed) w.begun (looked_on w.look (w.pushed - w.begun) b)

abbrev pub watch_behind : Watch → After → Watch
watch_behind w a = watched a.decoder (suc w.pushed) (w.begun + over_of a.answer (suc w.pushed - w.begun)) (look_behind a.answer)

abbrev pub sight_at : Watch → DecoderAnswer → WatchSaid
sight_at w a = sight_of a w.look w.begun (over_of a (suc w.pushed - w.begun))

-- n bytes were taken before: another one, and if nothing is said those behind it
unfoldable pub watches_from : ℕ → Watch → List ℕ → List ℕ → WatchAfter
watches_from n w m [] = watch_after quietly w n m
watches_from n w m (b ∷ bytes) =
    let a : After = push_record w.decoder m b in
    cond (says_nothing a.answer) (watches_from (suc n) (moved_on w a.decoder b) a.memory bytes)
    (watch_after (sight_at w a.answer) (watch_behind w a) (suc n) a.memory)

-- counts that can't be, or such that n bytes more could not be counted
unfoldable pub bad_watch : Watch → ℕ → Bool
bad_watch w n = ltb w.pushed w.begun || ltb (2 ^ 64 - 2) (w.pushed + n)

-- the checks for 4 and 5 come first: a refused slice takes no byte
unfoldable pub watch_slice : Watch → List ℕ → List ℕ → WatchAfter
watch_slice w m bytes =
    cond (bad_watch w (length bytes) || bad_decoder w.decoder) (watch_after (watch_refused bad_state_no) w 0 m)
    (cond (wrong_buffer w.decoder.capacity (length m)) (watch_after (watch_refused wrong_buffer_no) w 0 m) (watches_from 0 w m bytes))

-- ---- the recording's end

pub record EndAfter : Type 0 where
  pub told : LossSaid
  pub watch : Watch

abbrev pub end_after : LossSaid → Watch → EndAfter
end_after s w = record { told = s; watch = w }

abbrev pub after_end : WatchEnded → EndAfter
after_end r = end_after (loss_told r.told) r.watch

abbrev pub said_at_end : Watch → DecoderAnswer → LossSaid
said_at_end w a = cond (is_refusal a) (lost_is (loss_seen true a w.look w.begun (w.pushed - w.begun))) none_lost

-- what is left is lost, and the next byte begins a search
unfoldable pub watch_end : Watch → EndAfter
watch_end w =
    let a : Left = finalize_record w.decoder in
    cond (bad_watch w 0 || bad_decoder w.decoder) (end_after (loss_refused bad_state_no) w)
    (end_after (said_at_end w a.answer) (watched a.decoder w.pushed w.pushed no_look))
