-- Several messages written by any writer that does what it must: each stands behind the one before, and the event reader tells them in their order.
use mathlib.Core.Path.{◌≡◌, refl, sym, ap, ◌∙◌}
use mathlib.Core.List.{List, [], ◌∷◌, ◌++◌, map}
use Prim.Native.Nat.{ℕ, ◌+◌, ◌≤◌}
use native.Mathlib.Omega.{arith}
use lib.ListN.{length, take, drop, length-append, take-append-drop}
use lib.Seq.{length-take-le}
use Rattle.refusals.proofs.Read.{ok_at}
use Rattle.streaming.specs.Meaning.{entry_means}
use Rattle.writer.specs.Calls.{put_in, WriteOutcome, to, not_written, AfterWrite}
use Rattle.writer.specs.declared.ListWriter.{ListWriter}
use Rattle.writer.proofs.Puts.{put_then, put_length}
use Rattle.events.specs.Message.{Message}
use Rattle.written.specs.Messages.{write_message}
use Rattle.written.specs.Fits.{MessageFits}
use Rattle.written.specs.Round.{ToldTo, messages_told, write_messages, MessagesFit}
use Rattle.written.specs.Calls.{Writer, list_to}
use Rattle.written.specs.Writers.{Accepting, Accepted, Back, GoodWriter}
use Rattle.written.specs.Jobs.{MessageJob, open_job, close_job, list_job, job_means, JobFits, JobsFit, writer_place, place_after, job_to, jobs_to, TellsSeveral}
use Rattle.written.proofs.Events.{message_ahead, back_to_back}
use Rattle.written.proofs.Calls.{then_accepted, accept_weak}
use Rattle.written.proofs.Writers.{map_length}

-- exactly the bytes b stand at the place, and `next` is behind them
record PutThere (out : List ℕ) (at : ℕ) (b : List ℕ) (next : ℕ) (o : List ℕ) : Type 0 where
  place : next ≡ at + length b
  bytes : o ≡ put_in out at b
  room : at + length b ≤ length out

both_at : {A : Type 0} (P Q : A → List ℕ → Type 0) (a : WriteOutcome A) (o : List ℕ) → Accepting P a o → Accepting Q a o → Accepting (λ w o. P w o × Q w o) a o
both_at P Q (to w) o h k = (h, k)
both_at P Q (not_written n) o h k = tt

both_accepted : {A : Type 0} {P Q : A → List ℕ → Type 0} {l : AfterWrite A} → Accepted P l → Accepted Q l → Accepted (λ w o. P w o × Q w o) l
both_accepted {P = P} {Q = Q} {l = l} h k = record { holds = both_at P Q l.answer l.output h.holds k.holds }

place_at : (P : ℕ → List ℕ → Type 0) (a : WriteOutcome ListWriter) (o : List ℕ) → Accepting (λ w o. P w.place o) a o → Accepting P (writer_place a) o
place_at P (to w) o h = h
place_at P (not_written n) o h = tt

place_accepted : {P : ℕ → List ℕ → Type 0} (l : AfterWrite ListWriter) → Accepted (λ w o. P w.place o) l → Accepted P (place_after l)
place_accepted {P} l h = record { holds = place_at P l.answer l.output h.holds }

-- what is read back ends within the output
there : (m : Message (List ℕ)) (out : List ℕ) (at next : ℕ) (o : List ℕ) → Back m out at next o → next ≡ at + length (write_message m) → o ≡ put_in out at (write_message m) → PutThere out at (write_message m) next o
there m out at next o b p q = let a = ok_at (sym b.is) (message_ahead o at) in record { place = p; bytes = q; room = omega (arith, p, a.within, b.same_length) }

job_put : (W : Writer) → GoodWriter W → (out : List ℕ) (at : ℕ) (strings : List ℕ) (j : MessageJob) → JobFits strings j → length out ≤ 1048576
    → Accepted (λ next o. PutThere out at (write_message (job_means strings j)) next o × MessageFits (job_means strings j)) (job_to W out at strings j)
unfolding job_to
job_put W good out at strings (open_job head x) f h =
    accept_weak (λ next o k. (there _ out at next o k.0 k.1.0 k.1.1, record { start = f; content = (refl, refl) }))
    (both_accepted (good.back.opens out at strings head x f h) (good.exactly.opens out at strings head x))
job_put W good out at strings (close_job head x) f h =
    accept_weak (λ next o k. (there _ out at next o k.0 k.1.0 k.1.1, record { start = f; content = (refl, refl) }))
    (both_accepted (good.back.closes out at strings head x f h) (good.exactly.closes out at strings head x))
job_put W good out at strings (list_job head list es x) f h =
    place_accepted (list_to W out at strings head list es x)
    (accept_weak (λ w o k. (there _ out at w.place o k.0 k.1.0 k.1.1, record { start = f.0; content = (k.1.2 ∙ sym (map_length (entry_means strings) es), f.1, f.2) }))
    (both_accepted (good.back.lists out at strings head list es x f.0 f.1 f.2 h) (good.exactly.lists out at strings head list es x)))

put_none : (out : List ℕ) (at : ℕ) → at ≤ length out → put_in out at [] ≡ out
unfolding put_in
put_none out at h = let e : at + 0 ≡ at = omega arith in rw e (take-append-drop at out)

jobs_put : (W : Writer) → GoodWriter W → (js : List MessageJob) (out : List ℕ) (at : ℕ) (strings : List ℕ) → JobsFit strings js → length out ≤ 1048576 → at ≤ length out
    → Accepted (λ next o. PutThere out at (write_messages (map (job_means strings) js)) next o × MessagesFit (map (job_means strings) js)) (jobs_to W out at strings js)
unfolding jobs_to write_messages
jobs_put W good [] out at strings f h i = record { holds = (record { place = omega arith; bytes = sym (put_none out at i); room = omega arith }, tt) }
jobs_put W good (j ∷ js) out at strings f h i =
    let b = write_message (job_means strings j) in
    let c = write_messages (map (job_means strings) js) in
    then_accepted _ _ (job_put W good out at strings j f.0 h) (λ next o k. by out at b c next o k.0 k.1 h (λ l g. jobs_put W good js o next strings f.1 l g))
  where
    by : (out : List ℕ) (at : ℕ) (b c : List ℕ) (next : ℕ) (o : List ℕ) → PutThere out at b next o → MessageFits (job_means strings j) → length out ≤ 1048576
        → (length o ≤ 1048576 → next ≤ length o → Accepted (λ n p. PutThere o next c n p × MessagesFit (map (job_means strings) js)) (jobs_to W o next strings js))
        → Accepted (λ n p. PutThere out at (b ++ c) n p × (MessageFits (job_means strings j) × MessagesFit (map (job_means strings) js))) (jobs_to W o next strings js)
    by out at b c next o s m h f =
        let long : length o ≡ length out = ap length s.bytes ∙ put_length out at b s.room in
        accept_weak (λ n p k. (join out at b c next o n p s k.0 long, (m, k.1))) (f (omega (arith, long, h)) (omega (arith, s.place, s.room, long)))
      where
        join : (out : List ℕ) (at : ℕ) (b c : List ℕ) (next : ℕ) (o : List ℕ) (n : ℕ) (p : List ℕ) → PutThere out at b next o → PutThere o next c n p → length o ≡ length out → PutThere out at (b ++ c) n p
        join out at b c next o n p s k long =
            record {
              place = omega (arith, k.place, s.place, length-append b c);
              bytes = k.bytes ∙ rw (s.bytes, s.place) (put_then out at b c s.room);
              room = omega (arith, k.room, s.place, long, length-append b c);
            }

told_there : (out : List ℕ) (at : ℕ) (ms : List (Message (List ℕ))) → MessagesFit ms → length out ≤ 1048576 → at + length (write_messages ms) ≤ length out
    → ToldTo (put_in out at (write_messages ms)) at (at + length (write_messages ms)) (messages_told ms)
unfolding put_in
told_there out at ms f h room =
    let b = write_messages ms in
    let n : length (take at out) ≡ at = length-take-le at out (omega arith) in
    rw n at (back_to_back ms (take at out) (drop (at + length b) out) f (omega (arith, put_length out at b room)))

told_by_place : (out : List ℕ) (at : ℕ) (ms : List (Message (List ℕ))) (next : ℕ) (o : List ℕ) → MessagesFit ms → length out ≤ 1048576 → PutThere out at (write_messages ms) next o → ToldTo o at next (messages_told ms)
told_by_place out at ms next o f h s = rw (s.place, s.bytes) (told_there out at ms f h s.room)

-- any writer that does what it must
pub tells_several : (W : Writer) → GoodWriter W → TellsSeveral W
tells_several W good =
    record { several = λ out at strings js f h i. accept_weak (λ next o k. told_by_place out at (map (job_means strings) js) next o k.1 h k.0) (jobs_put W good js out at strings f h i) }
