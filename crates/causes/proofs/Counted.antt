-- The number of each DiscardedBytes is the length of the piece that is told for it.
use mathlib.Core.Path.{◌≡◌, refl, ap, sym, ◌∙◌}
use mathlib.Core.Bool.{Bool, true, false, cond, false≢true}
use mathlib.Core.List.{List, [], ◌∷◌, ◌++◌, map}
use Prim.Native.Nat.{ℕ, suc, ◌+◌, ◌-◌}
use native.Mathlib.Omega.{arith}
use lib.ListN.{length, take, length-append}
use lib.Dec.{eqb}
use Rattle.frame.specs.Frame.{start_seq}
use Rattle.frame.proofs.Cases.{by_eq}
use Rattle.decoder.specs.Push.{State, search, body, escape, done, PushEvent, discarded, Out, fresh, begun, stopped, step, finalized}
use Rattle.decoder.specs.Record.{DecoderAnswer, nothing, payload, count, refusal, numbered}
use Rattle.decoder.specs.Run.{KnownWay, is_first, is_second, push}
use Rattle.decoder.specs.declared.Setup.{Setup}
use Rattle.decoder.proofs.Saw.{saw}
use Rattle.decoder.proofs.States.{run_state, state_behind, act_state, answer_state}
use Rattle.since.specs.Bytes.{grown_since}
use Rattle.since.specs.Since.{frame_head}
use Rattle.since.specs.Exactly.{ReadExactly, SaysExactly, start_found_exactly, start_inside_exactly}
use Rattle.since.proofs.KeptExactly.{kept_exactly, reads_fresh_exactly}
use Rattle.losses.specs.Loss.{begins_in_start, has_start, cause_of, piece_of, loss_over, loss_at, is_refusal, hands_out}
use Rattle.losses.specs.declared.Loss.{Loss}
use Rattle.losses.specs.declared.Cause.{Cause}
use Rattle.losses.specs.declared.Cause.TheVariants.{Noise, Hidden}
use Rattle.losses.proofs.Starts.{none_at_first}
use Rattle.causes.specs.Calls.{refusals_of, refusal_for, piece_number, CountsPiece, CountsAll}
use Rattle.causes.proofs.Unique.{all_but_last}
use Rattle.causes.proofs.Overlooked.{search_not}
use Rattle.causes.proofs.Told.{head_begins, frame_begins}
use Rattle.causes.proofs.Links.{LeftBy, quiet_left, paid_left, start_left, gone_left, left_saw, losses_in}
use Rattle.causes.proofs.Seen.{less_eight_claim}

-- a search's piece: all its bytes
search_number : (hides : Bool) (long : ℕ) → piece_number (cond hides Hidden Noise) long ≡ stopped long
search_number true long = refl
search_number false long = refl

no_of : DecoderAnswer → ℕ
no_of nothing = 0
no_of (payload P) = 0
no_of (count n) = 0
no_of (refusal n w) = n

said_values : DecoderAnswer → List ℕ
said_values nothing = []
said_values (payload P) = []
said_values (count n) = []
said_values (refusal n w) = w

counts_six : (k : ℕ) (c : Cause) (at long : ℕ) → refusal_for c ≡ 6 → k ≡ piece_number c long → CountsPiece (loss_over c at long) (refusal 6 (k ∷ []))
unfolding no_of said_values
counts_six k c at long six e j v q =
    let n : suc (at + long) - suc at ≡ long = omega arith in
    (sym (ap no_of q) ∙ sym six, λ z. rw n (sym (ap said_values q) ∙ rw e))

counts_other : (l : Loss) (k : ℕ) (v : List ℕ) → eqb k 6 ≡ false → k ≡ refusal_for l.cause → CountsPiece l (refusal k v)
unfolding no_of
counts_other l k v ne of j u q = (sym (ap no_of q) ∙ of, λ z. absurd (false≢true (sym ne ∙ ap (λ (n : ℕ). eqb n 6) (ap no_of q ∙ z))))

-- a 6 has one of four causes
six_of : (at_end running hides : Bool) (long : ℕ) (v : List ℕ) → refusal_for (cause_of at_end running hides long (refusal 6 v)) ≡ 6
unfolding cause_of
six_of true true hides long v = refl
six_of false true hides long v = refl
six_of at_end false true long v = refl
six_of at_end false false long v = refl

module _ (C : Setup) (known : KnownWay C.way) (at : ℕ) (h : List ℕ) (b : ℕ) where
  abbrev g : List ℕ
  g = h ++ b ∷ []

  -- a 6 of a push
  counts_start : (k : ℕ) → SaysExactly C g (discarded k) → CountsPiece (loss_at false (refusal 6 (k ∷ [])) at h (take (length g - 8) g)) (refusal 6 (k ∷ []))
  unfolding cause_of
  counts_start k (start_found_exactly j x found misses none some c) =
      let w = less_eight_claim g x found in
      let dull : begins_in_start h ≡ false = searched known in
      counts_six k (cause_of false (begins_in_start h) (has_start (take (length g - 8) g)) (length (take (length g - 8) g)) (refusal 6 (k ∷ []))) at (length (take (length g - 8) g)) (six_of false (begins_in_start h) (has_start (take (length g - 8) g)) (length (take (length g - 8) g)) (k ∷ []))
      (rw (w, dull) (c ∙ sym (search_number (has_start x) (length x))))
    where
      before : h ≡ x ++ take 7 start_seq
      before = all_but_last h x b found

      searched : KnownWay C.way → begins_in_start h ≡ false
      searched (is_first f) = rw before (search_not (misses f) 7 (omega arith))
      searched (is_second z) = rw before (none_at_first (x ++ take 7 start_seq) (none z))
  counts_start k (start_inside_exactly j D found clean fits c) =
      let w = less_eight_claim g (frame_head D) found in
      let bright : begins_in_start h ≡ true = rw (all_but_last h (frame_head D) b found) (head_begins D (take 7 start_seq)) in
      let long : length g ≡ length (frame_head D) + 8 = ap length found ∙ simp length-append in
      counts_six k (cause_of false (begins_in_start h) (has_start (take (length g - 8) g)) (length (take (length g - 8) g)) (refusal 6 (k ∷ []))) at (length (take (length g - 8) g)) (six_of false (begins_in_start h) (has_start (take (length g - 8) g)) (length (take (length g - 8) g)) (k ∷ []))
      (rw (w, bright) (c ∙ ap (λ (n : ℕ). stopped n - 8) long))

-- finalize's
final_counts : (C : Setup) (known : KnownWay C.way) (at : ℕ) (h : List ℕ) (s : State) → ReadExactly C h s
    → let a : DecoderAnswer = numbered (finalized s) in CountsAll (cond (is_refusal a) (loss_at true a at h h ∷ []) []) (refusals_of [] a)
unfolding finalized refusals_of cause_of
final_counts C known at h (search n noise raw) k =
    by_eq (λ (e : PushEvent). CountsAll (cond (is_refusal (numbered e)) (loss_at true (numbered e) at h h ∷ []) []) (refusals_of [] (numbered e))) n 0 _ _
    (λ z. by_eq (λ (e : PushEvent). CountsAll (cond (is_refusal (numbered e)) (loss_at true (numbered e) at h h ∷ []) []) (refusals_of [] (numbered e))) noise 0 _ _ (λ y. tt) (λ ne. (six, tt)))
    (λ ne. (six, tt))
  where
    dull : begins_in_start h ≡ false
    dull = frame_begins C h (search n noise raw) known k

    six : CountsPiece (loss_at true (refusal 6 (raw ∷ [])) at h h) (refusal 6 (raw ∷ []))
    six = counts_six raw (cause_of true (begins_in_start h) (has_start h) (length h) (refusal 6 (raw ∷ []))) at (length h) (six_of true (begins_in_start h) (has_start h) (length h) (raw ∷ [])) (rw dull (k.long ∙ sym (search_number (has_start h) (length h))))
final_counts C known at h (body r m) k =
    (counts_six m.raw (cause_of true (begins_in_start h) (has_start h) (length h) (refusal 6 (m.raw ∷ []))) at (length h) (six_of true (begins_in_start h) (has_start h) (length h) (m.raw ∷ [])) (rw (frame_begins C h (body r m) known k) k.long), tt)
final_counts C known at h (escape j m) k =
    (counts_six m.raw (cause_of true (begins_in_start h) (has_start h) (length h) (refusal 6 (m.raw ∷ []))) at (length h) (six_of true (begins_in_start h) (has_start h) (length h) (m.raw ∷ [])) (rw (frame_begins C h (escape j m) known k) k.long), tt)
final_counts C known at h (done P) k = tt

abbrev CountsFrom : Setup → List ℕ → Type 0
CountsFrom C bytes = (s : State) (at : ℕ) (h : List ℕ) → ReadExactly C h s → CountsAll (losses_in C s at h bytes) (refusals_of (run_state C s (map push bytes)) (numbered (finalized (state_behind C s (map push bytes)))))

module _ (C : Setup) (known : KnownWay C.way) (bytes : List ℕ) (ih : CountsFrom C bytes) (at : ℕ) (h : List ℕ) (b : ℕ) where
  counts_event : (o : Out) → LeftBy o → ReadExactly C (grown_since (numbered o.event) h b) o.state → SaysExactly C (h ++ b ∷ []) o.event
      → (let a : DecoderAnswer = numbered o.event in
      let l : List ℕ = h ++ b ∷ [] in
      CountsAll (cond (is_refusal a) (loss_at false a at h (piece_of a l) ∷ losses_in C o.state (at + length (piece_of a l)) (grown_since a h b) bytes)
      (cond (hands_out a) (losses_in C o.state (at + length l) [] bytes) (losses_in C o.state at l bytes)))
      (refusals_of (a ∷ run_state C o.state (map push bytes)) (numbered (finalized (state_behind C o.state (map push bytes))))))
  unfolding refusals_of
  counts_event o (quiet_left t) r said' = ih t at (h ++ b ∷ []) r
  counts_event o (paid_left P) r said' = ih (done P) (at + length (h ++ b ∷ [])) [] r
  counts_event o (start_left k) r said' = (counts_start C known at h b k said', ih begun (at + length (take (length (h ++ b ∷ []) - 8) (h ++ b ∷ []))) start_seq r)
  counts_event o (gone_left e k v q ne of) r said' = rw (q, ne) (counts_other (loss_at false (refusal k v) at h (h ++ b ∷ [])) k v ne (of (begins_in_start h) (has_start (h ++ b ∷ [])) (length (h ++ b ∷ []))), ih fresh (at + length (h ++ b ∷ [])) [] (reads_fresh_exactly C))

pub counts_from : (C : Setup) → KnownWay C.way → (bytes : List ℕ) → CountsFrom C bytes
unfolding run_state state_behind act_state answer_state losses_in
counts_from C known [] s at h r = final_counts C known at h s r
counts_from C known (b ∷ bytes) s at h r =
    let o = kept_exactly C h s b r in
    counts_event C known bytes (counts_from C known bytes) at h b (step C s b) (left_saw C s b (step C s b) (saw C s b)) o.reads o.told
