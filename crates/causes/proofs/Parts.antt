-- What is seen of a recording is the recording: sound frames, and pieces for the causes that are true of them, one behind another.
use mathlib.Core.Path.{◌≡◌, refl, ap, sym, ◌∙◌, subst}
use mathlib.Core.Bool.{true, false, cond, false≢true}
use mathlib.Core.List.{List, [], ◌∷◌, ◌++◌, append_assoc, map}
use Prim.Native.Nat.{ℕ, suc, ◌+◌, ◌-◌}
use native.Mathlib.Omega.{arith}
use lib.ListN.{length, take, length-append}
use Rattle.frame.specs.Frame.{start_seq}
use Rattle.frame.proofs.Cases.{by_eq}
use Rattle.decoder.specs.Push.{State, search, body, escape, done, PushEvent, discarded, pays_out, Out, fresh, begun, step, finalized}
use Rattle.decoder.specs.Record.{DecoderAnswer, nothing, payload, count, refusal, numbered}
use Rattle.decoder.specs.Run.{KnownWay, push}
use Rattle.decoder.proofs.States.{run_state, act_state, answer_state}
use Rattle.decoder.specs.declared.Setup.{Setup}
use Rattle.decoder.proofs.Saw.{saw}
use Rattle.decoder_slice.specs.Slice.{says_nothing}
use Rattle.since.specs.Bytes.{grown_since}
use Rattle.since.specs.Since.{AllBytes}
use Rattle.since.specs.Exactly.{ReadExactly, SoundWithin, SaysExactly, frame_ends_exactly}
use Rattle.since.proofs.Lists.{empty, matched_long}
use Rattle.since.proofs.KeptExactly.{kept_exactly, reads_fresh_exactly}
use Rattle.since.proofs.Starts.{start_silent}
use Rattle.losses.specs.Loss.{loss_at, LossSaid, lost_is, none_lost, is_refusal}
use Rattle.losses.specs.Watch.{WatchSaid, lost_over, over_of}
use Rattle.losses.specs.declared.Loss.{Loss}
use Rattle.causes.specs.Tools.{Accounts, LostNext}
use Rattle.causes.specs.Calls.{payloads_of, Parted, parted_over, parted_left, parted_kept, parted_lost}
use Rattle.causes.proofs.Next.{next_in_state, next_step_lem, next_silent, done_next}
use Rattle.causes.proofs.Unique.{front_same}
use Rattle.causes.proofs.Accounts.{accounts_from, bytes_front, bytes_rest}
use Rattle.causes.proofs.Links.{LeftBy, quiet_left, paid_left, start_left, gone_left, left_saw, ends_start}
use Rattle.causes.proofs.Seen.{seen_by, seen_in, end_in, over_eight, less_eight_claim}

-- ---- frames and pieces, one behind another

-- a loss that is told of the bytes from `at` on has no frame before it, and its piece is w
record PieceOf (way C : ℕ) (bytes : List ℕ) (at : ℕ) (l : Loss) (rest : List ℕ) : Type 0 where
  account : LostNext way C bytes at l
  none_kept : account.frames ≡ []
  behind : account.rest ≡ rest

piece_of_lem : (way C : ℕ) (bytes : List ℕ) (at : ℕ) (l : Loss) (w rest : List ℕ) → bytes ≡ w ++ rest → l.first ≡ suc at → l.last ≡ at + length w → LostNext way C bytes at l → PieceOf way C bytes at l rest
piece_of_lem way C bytes at l w rest e first last a =
    let none : a.frames ≡ [] = empty a.frames (let q = a.first' in omega arith) in
    let size : length w ≡ length a.piece = let q = a.last' in let z : length a.frames ≡ 0 = ap length none in omega arith in
    let is : a.piece ++ a.rest ≡ w ++ rest = sym (a.is ∙ ap (λ (x : List ℕ). x ++ (a.piece ++ a.rest)) none) ∙ e in
    record { account = a; none_kept = none; behind = (front_same a.piece w a.rest rest is (sym size)).1 }

sound_of : {C : Setup} {g P : List ℕ} → SaysExactly C g (pays_out P) → AllBytes g → SoundWithin C.capacity g P
sound_of (frame_ends_exactly P f) bs = f bs

abbrev PartsFrom : Setup → List ℕ → Type 0
PartsFrom C bytes = (s : State) (at : ℕ) (h : List ℕ) → ReadExactly C h s → AllBytes (h ++ bytes) → next_in_state C fresh at [] (h ++ bytes) ≡ next_in_state C s at h bytes
    → Parted C.way C.capacity at (h ++ bytes) (seen_in C s at h bytes) (end_in C s at h bytes) (payloads_of (run_state C s (map push bytes)))

-- finalize: what is left is lost, or nothing is left
parted_final : (way C at : ℕ) (h : List ℕ) (a : DecoderAnswer) → Accounts way C (h ++ []) at (cond (is_refusal a) (lost_is (loss_at true a at h h)) none_lost) → (is_refusal a ≡ false → h ≡ [])
    → Parted way C at (h ++ []) [] (cond (is_refusal a) (lost_is (loss_at true a at h h)) none_lost) []
parted_final way C at h nothing k none = rw (none refl) parted_over
parted_final way C at h (payload P) k none = rw (none refl) parted_over
parted_final way C at h (count n) k none = rw (none refl) parted_over
parted_final way C at h (refusal n v) k none =
    let p = piece_of_lem way C (h ++ []) at (loss_at true (refusal n v) at h h) h [] refl refl refl k in
    parted_left p.account p.none_kept p.behind

final_none : (C : Setup) (h : List ℕ) (s : State) → ReadExactly C h s → is_refusal (numbered (finalized s)) ≡ false → h ≡ []
unfolding finalized
final_none C h (search n noise raw) k =
    let l : length h ≡ length k.passed + n = ap length k.here ∙ simp (length-append, matched_long n k.most) in
    by_eq (λ (e : PushEvent). is_refusal (numbered e) ≡ false → h ≡ []) n 0 _ _
    (λ z. by_eq (λ (e : PushEvent). is_refusal (numbered e) ≡ false → h ≡ []) noise 0 _ _ (λ y f. empty h (let d = k.dropped in omega arith)) (λ ne f. absurd (false≢true (sym f))))
    (λ ne f. absurd (false≢true (sym f)))
final_none C h (body r m) k = λ f. absurd (false≢true (sym f))
final_none C h (escape j m) k = λ f. absurd (false≢true (sym f))
final_none C h (done P) k = λ f. k.0

module _ (C : Setup) (known : KnownWay C.way) (bytes : List ℕ) (ih : PartsFrom C bytes) (s : State) (at : ℕ) (h : List ℕ) (b : ℕ) (fine : AllBytes (h ++ (b ∷ bytes)))
    (same' : next_in_state C fresh at [] (h ++ (b ∷ bytes)) ≡ next_in_state C s at h (b ∷ bytes)) (account' : Accounts C.way C.capacity (h ++ (b ∷ bytes)) at (next_in_state C s at h (b ∷ bytes))) where
  abbrev g : List ℕ
  g = h ++ b ∷ []

  grouped : h ++ (b ∷ bytes) ≡ g ++ bytes
  grouped = sym (append_assoc h (b ∷ []) bytes)

  fine_g : AllBytes (g ++ bytes)
  fine_g = subst AllBytes grouped fine

  abbrev seen_with : Out → List WatchSaid
  seen_with o =
      let a : DecoderAnswer = numbered o.event in
      cond (says_nothing a) (seen_in C o.state at g bytes) (seen_by at h b a ∷ seen_in C o.state (at + over_of a (length g)) (grown_since a h b) bytes)

  abbrev end_with : Out → LossSaid
  end_with o =
      let a : DecoderAnswer = numbered o.event in
      cond (says_nothing a) (end_in C o.state at g bytes) (end_in C o.state (at + over_of a (length g)) (grown_since a h b) bytes)

  -- a piece w is lost, and x has begun behind it, read by t
  parted_lost_lem : (l : Loss) (w x : List ℕ) (t : State) → next_in_state C s at h (b ∷ bytes) ≡ lost_is l → h ++ (b ∷ bytes) ≡ w ++ (x ++ bytes) → l.first ≡ suc at → l.last ≡ at + length w
      → ReadExactly C x t → next_in_state C fresh l.last [] (x ++ bytes) ≡ next_in_state C t l.last x bytes → (n : ℕ) → n ≡ l.last
      → Parted C.way C.capacity at (h ++ (b ∷ bytes)) (lost_over l ∷ seen_in C t n x bytes) (end_in C t n x bytes) (payloads_of (run_state C t (map push bytes)))
  parted_lost_lem l w x t told e first last r again n is =
      let p = piece_of_lem C.way C.capacity (h ++ (b ∷ bytes)) at l w (x ++ bytes) e first last (subst (Accounts C.way C.capacity (h ++ (b ∷ bytes)) at) told account') in
      let more : AllBytes (x ++ bytes) = bytes_rest w (x ++ bytes) (subst AllBytes e fine) in
      rw is (parted_lost {final = end_in C t l.last x bytes} p.account p.none_kept (subst (λ (y : List ℕ). Parted C.way C.capacity l.last y (seen_in C t l.last x bytes) (end_in C t l.last x bytes) (payloads_of (run_state C t (map push bytes)))) (sym p.behind) (ih t l.last x r more again)))

  parted_event : (o : Out) → LeftBy o → step C s b ≡ o → ReadExactly C (grown_since (numbered o.event) h b) o.state → SaysExactly C g o.event
      → Parted C.way C.capacity at (h ++ (b ∷ bytes)) (seen_with o) (end_with o) (payloads_of (numbered o.event ∷ run_state C o.state (map push bytes)))
  unfolding payloads_of
  parted_event o (quiet_left t) is r said' =
      rw grouped (ih t at g r fine_g (ap (next_in_state C fresh at []) (sym grouped) ∙ same' ∙ next_step_lem C s at h b bytes o is))
  parted_event o (paid_left P) is r said' =
      rw grouped (parted_kept P (sound_of said' (bytes_front g bytes fine_g)) (ih (done P) (at + length g) [] r (bytes_rest g bytes fine_g) (sym (done_next C P (at + length g) bytes))))
  parted_event o (start_left k) is r said' =
      let w = ends_start C g k (discarded k) refl said' in
      let eight : take (length g - 8) g ≡ w.0 = less_eight_claim g w.0 w.1 in
      let size : length g - 8 ≡ length (take (length g - 8) g) = over_eight g in
      parted_lost_lem (loss_at false (refusal 6 (k ∷ [])) at h (take (length g - 8) g)) w.0 start_seq begun
      (next_step_lem C s at h b bytes o is) (grouped ∙ ap (λ (x : List ℕ). x ++ bytes) w.1 ∙ append_assoc w.0 start_seq bytes) refl (ap (λ (x : List ℕ). at + length x) eight) r
      (next_silent (start_silent C) _ [] bytes) (at + (length g - 8)) (ap (λ (n : ℕ). at + n) size)
  parted_event o (gone_left e k v q ne of) is r said' =
      let told : next_in_state C s at h (b ∷ bytes) ≡ lost_is (loss_at false (refusal k v) at h g) = next_step_lem C s at h b bytes o is ∙ rw (q, ne) in
      rw (q, ne) (parted_lost_lem (loss_at false (refusal k v) at h g) g [] fresh told grouped refl refl (reads_fresh_exactly C) refl (at + length g) refl)

parted_from : (C : Setup) → KnownWay C.way → (bytes : List ℕ) → PartsFrom C bytes
unfolding seen_in end_in next_in_state run_state act_state answer_state payloads_of
parted_from C known [] s at h r fine same' = parted_final C.way C.capacity at h (numbered (finalized s)) (accounts_from C known [] at h s r fine same') (final_none C h s r)
parted_from C known (b ∷ bytes) s at h r fine same' =
    let o = kept_exactly C h s b r in
    parted_event C known bytes (parted_from C known bytes) s at h b fine same' (accounts_from C known (b ∷ bytes) at h s r fine same') (step C s b) (left_saw C s b (step C s b) (saw C s b)) refl o.reads o.told

pub parted_new : (C : Setup) → KnownWay C.way → (recording : List ℕ) → AllBytes recording → Parted C.way C.capacity 0 recording (seen_in C fresh 0 [] recording) (end_in C fresh 0 [] recording) (payloads_of (run_state C fresh (map push recording)))
parted_new C known recording fine = parted_from C known recording fresh 0 [] (reads_fresh_exactly C) fine refl
