-- claim: calls one behind another, each from the last byte of the loss before: one loss for each refusal of the one run, in order, and with the frames between they are the recording.
use Rattle.std.specs.Prelude.{◌≡◌, cond, List, [], ◌∷◌, ◌++◌, map, ℕ, suc, ◌+◌, ◌-◌, ◌≤◌, length, eqb}
use Rattle.refusals.specs.Numbers.{decoder_out_of_memory_no, discarded_bytes_no, invalid_esc_no, invalid_message_no, limit}
use Rattle.decoder.specs.Push.{in_way, stopped}
use Rattle.decoder.specs.Record.{DecoderAnswer, nothing, payload, count, refusal, after, new_record, finalize_record}
use Rattle.decoder.specs.Run.{KnownWay, push, run, behind}
use Rattle.decoder.specs.declared.Decoder.{Decoder}
use Rattle.since.specs.Since.{AllBytes}
use Rattle.since.specs.Exactly.{SoundWithin}
use Rattle.losses.specs.Loss.{LossSaid, lost_is, none_lost, loss_refused, loss_after}
use Rattle.losses.specs.Watch.{WatchSaid, quietly, kept_over, lost_over, watch_refused}
use Rattle.losses.specs.declared.Loss.{Loss}
use Rattle.losses.specs.declared.Cause.{Cause}
use Rattle.losses.specs.declared.Cause.TheVariants.{Noise, Unfinished, Hidden, Cut, UnknownEscape, NoRoom, Invalid}
use Rattle.causes.specs.Tools.{Tool, LostNext, buffer_behind, GoodTool}

-- with one buffer, m at first and m' at last: these losses, then no more
pub data Calls (T : Tool) (recording : List ℕ) (way : ℕ) : ℕ → List ℕ → List Loss → List ℕ → Type 0 where
  calls_over : {from : ℕ} {m m' : List ℕ} → T recording way m from ≡ loss_after none_lost m' → Calls T recording way from m [] m'
  calls_again : {from : ℕ} {m m₁ m' : List ℕ} {l : Loss} {more : List Loss} → T recording way m from ≡ loss_after (lost_is l) m₁ → Calls T recording way l.last m₁ more m'
      → Calls T recording way from m (l ∷ more) m'

-- ---- the one run, by its answers alone

pub record Place : Type 0 where
  pub first : ℕ
  pub last : ℕ

abbrev pub place_of_loss : Loss → Place
place_of_loss l = record { first = l.first; last = l.last }

-- n bytes were pushed, `begun` of them before the running search or frame: a piece for each refusal of the pushes that follow, and for that of finalize
unfoldable pub places_from : ℕ → ℕ → List DecoderAnswer → DecoderAnswer → List Place
places_from begun n [] nothing = []
places_from begun n [] (payload bytes) = []
places_from begun n [] (count k) = []
places_from begun n [] (refusal k v) = record { first = suc begun; last = n } ∷ []
places_from begun n (nothing ∷ more) final = places_from begun (suc n) more final
places_from begun n (payload bytes ∷ more) final = places_from (suc n) (suc n) more final
places_from begun n (count k ∷ more) final = places_from begun (suc n) more final
places_from begun n (refusal k v ∷ more) final =
    let last : ℕ = cond (eqb k discarded_bytes_no) (suc n - 8) (suc n) in
    record { first = suc begun; last = last } ∷ places_from last (suc n) more final

-- of a new decoder that is pushed the recording, then finalized
abbrev pub final_answer : Decoder → List ℕ → List ℕ → DecoderAnswer
final_answer d m recording = (finalize_record (behind (after nothing d m) (map push recording)).decoder).answer

abbrev pub places_of : ℕ → List ℕ → List ℕ → List Place
places_of way m recording =
    let d : Decoder = new_record (in_way way (length m)) in
    places_from 0 0 (run d m (map push recording)) (final_answer d m recording)

-- ---- the numbers of the refusals

-- the refusals among the answers, and finalize's
unfoldable pub refusals_of : List DecoderAnswer → DecoderAnswer → List DecoderAnswer
refusals_of [] nothing = []
refusals_of [] (payload bytes) = []
refusals_of [] (count k) = []
refusals_of [] (refusal k v) = refusal k v ∷ []
refusals_of (nothing ∷ more) final = refusals_of more final
refusals_of (payload bytes ∷ more) final = refusals_of more final
refusals_of (count k ∷ more) final = refusals_of more final
refusals_of (refusal k v ∷ more) final = refusal k v ∷ refusals_of more final

abbrev pub refusals_in : ℕ → List ℕ → List ℕ → List DecoderAnswer
refusals_in way m recording =
    let d : Decoder = new_record (in_way way (length m)) in
    refusals_of (run d m (map push recording)) (final_answer d m recording)

-- the refusal that a cause belongs to
abbrev pub refusal_for : Cause → ℕ
refusal_for Noise = discarded_bytes_no
refusal_for Hidden = discarded_bytes_no
refusal_for Cut = discarded_bytes_no
refusal_for Unfinished = discarded_bytes_no
refusal_for UnknownEscape = invalid_esc_no
refusal_for NoRoom = decoder_out_of_memory_no
refusal_for (Invalid crc misaligned pads) = invalid_message_no

-- what a DiscardedBytes says of a piece of so many bytes: all of them, but the count stops; a cut message's stops before the new start's eight are taken off
abbrev pub piece_number : Cause → ℕ → ℕ
piece_number Cut long = stopped (long + 8) - 8
piece_number Noise long = stopped long
piece_number Hidden long = stopped long
piece_number Unfinished long = stopped long
piece_number UnknownEscape long = 0
piece_number NoRoom long = 0
piece_number (Invalid crc misaligned pads) long = 0

-- of a refusal and the loss that is told for it: the cause is one of that refusal's, and a DiscardedBytes counts the piece
abbrev pub CountsPiece : Loss → DecoderAnswer → Type 0
CountsPiece l a = (k : ℕ) (v : List ℕ) → a ≡ refusal k v → (k ≡ refusal_for l.cause) × (k ≡ discarded_bytes_no → v ≡ piece_number l.cause (suc l.last - l.first) ∷ [])

-- a loss for each refusal, in order
abbrev pub CountsAll : List Loss → List DecoderAnswer → Type 0
CountsAll [] [] = Unit {0}
CountsAll [] (a ∷ more) = ⊥
CountsAll (l ∷ losses) [] = ⊥
CountsAll (l ∷ losses) (a ∷ more) = CountsPiece l a × CountsAll losses more

-- ---- one behind another

-- the payloads among the answers
unfoldable pub payloads_of : List DecoderAnswer → List (List ℕ)
payloads_of [] = []
payloads_of (nothing ∷ more) = payloads_of more
payloads_of (payload bytes ∷ more) = bytes ∷ payloads_of more
payloads_of (count k ∷ more) = payloads_of more
payloads_of (refusal k v ∷ more) = payloads_of more

abbrev pub payloads_in : ℕ → List ℕ → List ℕ → List (List ℕ)
payloads_in way m recording = payloads_of (run (new_record (in_way way (length m))) m (map push recording))

-- what is seen of a recording: frames and losses, and what its end says; the losses among them
unfoldable pub losses_among : List WatchSaid → LossSaid → List Loss
losses_among [] (lost_is l) = l ∷ []
losses_among [] none_lost = []
losses_among [] (loss_refused n) = []
losses_among (quietly ∷ more) final = losses_among more final
losses_among (kept_over first end ∷ more) final = losses_among more final
losses_among (lost_over l ∷ more) final = l ∷ losses_among more final
losses_among (watch_refused n ∷ more) final = losses_among more final

-- the bytes behind the first `at` are what was seen, one behind another: frames that fit, sound for the payloads, at their places; and pieces whose causes are named exactly if they are true
pub data Parted (way C : ℕ) : ℕ → List ℕ → List WatchSaid → LossSaid → List (List ℕ) → Type 0 where
  parted_over : {at : ℕ} → Parted way C at [] [] none_lost []
  parted_left : {at : ℕ} {bytes : List ℕ} {l : Loss} (a : LostNext way C bytes at l) → a.frames ≡ [] → a.rest ≡ [] → Parted way C at bytes [] (lost_is l) []
  parted_kept : {at : ℕ} {w rest : List ℕ} {seen : List WatchSaid} {final : LossSaid} {more : List (List ℕ)} (P : List ℕ) → SoundWithin C w P → Parted way C (at + length w) rest seen final more
      → Parted way C at (w ++ rest) (kept_over (suc at) (at + length w) ∷ seen) final (P ∷ more)
  parted_lost : {at : ℕ} {bytes : List ℕ} {l : Loss} {seen : List WatchSaid} {final : LossSaid} {more : List (List ℕ)} (a : LostNext way C bytes at l) → a.frames ≡ []
      → Parted way C l.last a.rest seen final more → Parted way C at bytes (lost_over l ∷ seen) final more

-- ---- the claim

pub record TellsAll (T : Tool) (recording : List ℕ) (way : ℕ) (m : List ℕ) : Type 0 where
  pub losses : List Loss
  -- one for each refusal, in order; and the buffer is that of the one run
  pub calls : Calls T recording way 0 m losses (buffer_behind way m recording)
  pub each : map place_of_loss losses ≡ places_of way m recording
  pub counted : CountsAll losses (refusals_in way m recording)
  -- the pieces and the frames whose payloads were handed out are the recording
  pub seen : List WatchSaid
  pub final : LossSaid
  pub among : losses_among seen final ≡ losses
  pub parted : Parted way (length m) 0 recording seen final (payloads_in way m recording)

abbrev pub TellsEvery : Tool → Type 0
TellsEvery T = (recording : List ℕ) (way : ℕ) (m : List ℕ) → AllBytes recording → KnownWay way → length m ≤ limit → TellsAll T recording way m

-- whoever keeps the claims on one call keeps this
abbrev pub AlwaysTellsAll : Type 0
AlwaysTellsAll = (T : Tool) → GoodTool T → TellsEvery T
