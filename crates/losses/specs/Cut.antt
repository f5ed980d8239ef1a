-- cut: what each private function answers. proofs/Taken.antt ties a slice to its bytes one by one, proofs/Tracks.antt the watch to the bytes themselves.
use Rattle.std.specs.Prelude.{Bool, false, cond, List, [], ◌∷◌, ℕ, suc, ◌+◌, ◌-◌, take, eqb}
use Rattle.refusals.specs.Numbers.{discarded_bytes_no}
use Rattle.decoder.specs.Record.{DecoderAnswer, nothing, payload, count, refusal, After, push_record, finalize_record}
use Rattle.decoder_slice.specs.Slice.{says_nothing, Took}
use Rattle.losses.specs.Loss.{LossAfter, loss_after, lost_is, is_refusal, hands_out}
use Rattle.losses.specs.Watch.{looked_on, quietly, WatchAfter, watch_after, over_of, look_behind, loss_seen, sight_of, watched, moved_on, watch_behind, said_at_end}
use Rattle.losses.specs.declared.Look.{Look}
use Rattle.losses.specs.declared.Watch.{Watch}

-- the eight bytes of a new start have begun
abbrev pub found_start : DecoderAnswer → Bool
found_start nothing = false
found_start (payload bytes) = false
found_start (count k) = false
found_start (refusal k v) = eqb k discarded_bytes_no

-- a look at bytes one behind another, behind n of them
unfoldable pub looked_over : Look → ℕ → List ℕ → Look
looked_over l n [] = l
looked_over l n (b ∷ bytes) = looked_over (looked_on l n b) (suc n) bytes

-- a look at the first n bytes of a slice
abbrev pub looked_at : Watch → List ℕ → ℕ → Look
looked_at w chunk n = looked_over w.look (w.pushed - w.begun) (take n chunk)

-- what the push of a slice gave, told as a watch
unfoldable pub watched_of : Watch → List ℕ → Took → WatchAfter
watched_of w chunk t =
    let long : ℕ = w.pushed - w.begun + t.taken in
    let over : ℕ = over_of t.answer long in
    cond (says_nothing t.answer)
    (watch_after quietly (watched t.decoder (w.pushed + t.taken) w.begun (looked_at w chunk t.taken)) t.taken t.memory)
    (watch_after (sight_of t.answer (looked_at w chunk (t.taken - 1)) w.begun over)
    (watched t.decoder (w.pushed + t.taken) (w.begun + over) (look_behind t.answer)) t.taken t.memory)

-- the next loss, by a watch
unfoldable pub next_seen : Watch → List ℕ → List ℕ → LossAfter
next_seen w m [] = loss_after (said_at_end w (finalize_record w.decoder).answer) m
next_seen w m (b ∷ bytes) =
    let a : After = push_record w.decoder m b in
    cond (is_refusal a.answer) (loss_after (lost_is (loss_seen false a.answer w.look w.begun (over_of a.answer (suc w.pushed - w.begun)))) a.memory)
    (cond (hands_out a.answer) (next_seen (watch_behind w a) a.memory bytes) (next_seen (moved_on w a.decoder b) a.memory bytes))
