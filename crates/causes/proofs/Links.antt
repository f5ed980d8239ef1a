-- A new decoder from the byte behind a loss goes on as the running one: what is behind the first loss is what it loses from there on, and the buffer is the same.
use mathlib.Core.Path.{◌≡◌, refl, ap, sym, ◌∙◌}
use mathlib.Core.Bool.{Bool, true, false, cond}
use mathlib.Core.List.{List, [], ◌∷◌, ◌++◌, append_assoc, append-nil}
use Prim.Native.Nat.{ℕ, ◌+◌, ◌-◌, ◌≤◌}
use native.Mathlib.Omega.{arith}
use lib.ListN.{length, take, drop, length-append}
use lib.Seq.{take_at, drop-append_seam, drop-append-add}
use lib.Dec.{eqb}
use Rattle.frame.specs.Frame.{start_seq}
use Rattle.frame.proofs.Cases.{by_eq}
use Rattle.decoder.specs.Push.{Mem, State, search, done, PushEvent, silent, discarded, pays_out, memory, Out, says, fresh, begun, noticed, step, finalized}
use Rattle.decoder.specs.Record.{DecoderAnswer, nothing, payload, count, refusal, numbered, wrote, written}
use Rattle.decoder.specs.Saw as W
use Rattle.decoder.specs.Saw.{Saw}
use Rattle.decoder.specs.declared.Setup.{Setup}
use Rattle.decoder.proofs.Saw.{saw}
use Rattle.decoder.proofs.Faithful.{contents}
use Rattle.since.specs.Bytes.{grown_since}
use Rattle.since.specs.Since.{frame_head}
use Rattle.since.specs.Exactly.{ReadExactly, SaysExactly, goes_on_exactly, start_found_exactly, start_inside_exactly, no_room_exactly, no_escape_exactly, no_message_exactly, frame_ends_exactly}
use Rattle.since.proofs.KeptExactly.{kept_exactly}
use Rattle.since.proofs.Rules.{Silent, stop, silent_on}
use Rattle.since.proofs.Starts.{seek_on, seek_last, start_silent}
use Rattle.losses.specs.Loss.{cause_of, piece_of, loss_at, LossSaid, lost_is, none_lost, loss_refused, is_refusal, hands_out}
use Rattle.losses.specs.declared.Loss.{Loss}
use Rattle.causes.specs.Calls.{refusal_for}
use Rattle.causes.proofs.Next.{next_in_state}

-- ---- the state that an event leaves

pub data LeftBy : Out → Type 0 where
  quiet_left : (t : State) → LeftBy (says t silent)
  paid_left : (P : List ℕ) → LeftBy (says (done P) (pays_out P))
  start_left : (k : ℕ) → LeftBy (says begun (discarded k))
  gone_left : (e : PushEvent) (k : ℕ) (v : List ℕ) → numbered e ≡ refusal k v → eqb k 6 ≡ false → ((running hides : Bool) (long : ℕ) → k ≡ refusal_for (cause_of false running hides long (refusal k v))) → LeftBy (says fresh e)

left_judged : (m : Mem) (four : List ℕ) (o : Out) → W.Judged m four o → LeftBy o
unfolding cause_of
left_judged m four o (W.is_data e) = quiet_left _
left_judged m four o (W.restarts e) = start_left _
left_judged m four o (W.good e p) = paid_left _
left_judged m four o (W.bad e p) = gone_left _ 8 _ refl refl (λ r h n. refl)
left_judged m four o (W.shifts a e lo hi t) = quiet_left _
left_judged m four o (W.unknown a b c d) = gone_left _ 7 _ refl refl (λ r h n. refl)

pub left_saw : (C : Setup) (s : State) (b : ℕ) (o : Out) → Saw C s b o → LeftBy o
unfolding cause_of
left_saw C s b o (W.sought k e ne) = quiet_left _
left_saw C s b o (W.began {noise = noise} e) = by_eq (λ (v : PushEvent). LeftBy (says begun v)) noise 0 _ _ (λ z. quiet_left begun) (λ z. start_left noise)
left_saw C s b o (W.again w) = left_saw C fresh b o w
left_saw C s b o (W.waits e ne) = quiet_left _
left_saw C s b o (W.opens e f) = quiet_left _
left_saw C s b o (W.stores ne fit) = quiet_left _
left_saw C s b o (W.full ne h) = gone_left memory 3 [] refl refl (λ r h n. refl)
left_saw C s b o (W.collects fit lt) = quiet_left _
left_saw C s b o (W.judges fit ge j) = left_judged _ _ o j
left_saw C s b o (W.full' h) = gone_left memory 3 [] refl refl (λ r h n. refl)

pub ends_start : (C : Setup) (g : List ℕ) (k : ℕ) (e : PushEvent) → e ≡ discarded k → SaysExactly C g e → (w : List ℕ) × (g ≡ w ++ start_seq)
ends_start C g k e q goes_on_exactly = absurd (let z : ◌≡◌ {A = ℕ} 0 1 = cc in omega arith)
ends_start C g k e q (start_found_exactly u x is m n pos c) = (x, is)
ends_start C g k e q (start_inside_exactly u D is t f c) = (frame_head D, is)
ends_start C g k e q (no_room_exactly f) = absurd (let z : ◌≡◌ {A = ℕ} 0 1 = cc in omega arith)
ends_start C g k e q (no_escape_exactly f) = absurd (let z : ◌≡◌ {A = ℕ} 0 1 = cc in omega arith)
ends_start C g k e q (no_message_exactly D f₁ f₂ f₃ f₄) = absurd (let z : ◌≡◌ {A = ℕ} 0 1 = cc in omega arith)
ends_start C g k e q (frame_ends_exactly P f) = absurd (let z : ◌≡◌ {A = ℕ} 0 1 = cc in omega arith)

-- ---- all losses of the one run, and its buffer, over the state of the push rules

unfoldable pub losses_in : Setup → State → ℕ → List ℕ → List ℕ → List Loss
losses_in C s begun h [] =
    let a : DecoderAnswer = numbered (finalized s) in
    cond (is_refusal a) (loss_at true a begun h h ∷ []) []
losses_in C s begun h (b ∷ bytes) =
    let o : Out = step C s b in
    let a : DecoderAnswer = numbered o.event in
    let g : List ℕ = h ++ b ∷ [] in
    cond (is_refusal a) (loss_at false a begun h (piece_of a g) ∷ losses_in C o.state (begun + length (piece_of a g)) (grown_since a h b) bytes)
    (cond (hands_out a) (losses_in C o.state (begun + length g) [] bytes) (losses_in C o.state begun g bytes))

abbrev pub wrote_to : Setup → State → List ℕ → ℕ → List ℕ
wrote_to C s m b = written m (length (contents s)) (wrote C s b)

unfoldable pub memory_of : Setup → State → List ℕ → List ℕ → List ℕ
memory_of C s m [] = m
memory_of C s m (b ∷ bytes) = memory_of C (step C s b).state (wrote_to C s m b) bytes

-- at the first refusal
unfoldable pub next_memory : Setup → State → List ℕ → List ℕ → List ℕ
next_memory C s m [] = m
next_memory C s m (b ∷ bytes) =
    let o : Out = step C s b in
    cond (is_refusal (numbered o.event)) (wrote_to C s m b) (next_memory C o.state (wrote_to C s m b) bytes)

-- ---- a start's eight bytes say nothing to a new decoder, and store nothing

losses_step : (C : Setup) (s t : State) (begun : ℕ) (h : List ℕ) (b : ℕ) (bytes : List ℕ) → step C s b ≡ says t silent → losses_in C s begun h (b ∷ bytes) ≡ losses_in C t begun (h ++ b ∷ []) bytes
unfolding losses_in
losses_step C s t begun h b bytes e =
    ap (λ (o : Out).
    let a : DecoderAnswer = numbered o.event in
    let g : List ℕ = h ++ b ∷ [] in
    cond (is_refusal a) (loss_at false a begun h (piece_of a g) ∷ losses_in C o.state (begun + length (piece_of a g)) (grown_since a h b) bytes)
    (cond (hands_out a) (losses_in C o.state (begun + length g) [] bytes) (losses_in C o.state begun g bytes))) e

losses_silent : {C : Setup} {s t : State} {a : List ℕ} → Silent C s a t → (begun : ℕ) (h rest : List ℕ) → losses_in C s begun h (a ++ rest) ≡ losses_in C t begun (h ++ a) rest
losses_silent {C} {s} stop begun h rest = ap (λ (l : List ℕ). losses_in C s begun l rest) (sym (append-nil h))
losses_silent {C} {s} (silent_on {t = t} {u = u} {b = b} {l = l} e q) begun h rest =
    losses_step C s t begun h b (l ++ rest) e ∙ losses_silent q begun (h ++ b ∷ []) rest ∙ ap (λ (k : List ℕ). losses_in C u begun k rest) (append_assoc h (b ∷ []) l)

seek_memory : (C : Setup) (n noise raw b : ℕ) (t : State) (e : PushEvent) (m bytes : List ℕ) → step C (search n noise raw) b ≡ says t e → memory_of C (search n noise raw) m (b ∷ bytes) ≡ memory_of C t m bytes
unfolding memory_of wrote
seek_memory C n noise raw b t e m bytes q = ap (λ (o : Out). memory_of C o.state m bytes) q

memory_again : (C : Setup) (m rest : List ℕ) → memory_of C fresh m (start_seq ++ rest) ≡ memory_of C begun m rest
memory_again C m rest =
    seek_memory C 0 0 0 0x1b _ silent m _ (seek_on C 0 0 0 0x1b (omega arith) refl)
    ∙ seek_memory C 1 0 _ 0x1b _ silent m _ (seek_on C 0 _ 1 0x1b (omega arith) refl)
    ∙ seek_memory C 2 0 _ 0x1b _ silent m _ (seek_on C 0 _ 2 0x1b (omega arith) refl)
    ∙ seek_memory C 3 0 _ 0x1b _ silent m _ (seek_on C 0 _ 3 0x1b (omega arith) refl)
    ∙ seek_memory C 4 0 _ 0x01 _ silent m _ (seek_on C 0 _ 4 0x01 (omega arith) refl)
    ∙ seek_memory C 5 0 _ 0x01 _ silent m _ (seek_on C 0 _ 5 0x01 (omega arith) refl)
    ∙ seek_memory C 6 0 _ 0x01 _ silent m _ (seek_on C 0 _ 6 0x01 (omega arith) refl)
    ∙ seek_memory C 7 0 _ 0x01 begun (noticed 0) m rest (seek_last C 0 _)

-- ---- what is behind the first loss

-- the losses behind what is said of bytes that begin behind the first `begun`: those of a new decoder
abbrev pub losses_onwards : Setup → ℕ → List ℕ → LossSaid → List Loss
losses_onwards C begun bytes (lost_is l) = l ∷ losses_in C fresh l.last [] (drop (l.last - begun) bytes)
losses_onwards C begun bytes none_lost = []
losses_onwards C begun bytes (loss_refused n) = []

-- and the buffer, which is m at the loss
abbrev pub buffer_onwards : Setup → ℕ → List ℕ → List ℕ → LossSaid → List ℕ
buffer_onwards C begun m bytes (lost_is l) = memory_of C fresh m (drop (l.last - begun) bytes)
buffer_onwards C begun m bytes none_lost = m
buffer_onwards C begun m bytes (loss_refused n) = m

abbrev pub LastBehind : ℕ → LossSaid → Type 0
LastBehind begun (lost_is l) = begun ≤ l.last
LastBehind begun none_lost = Unit {0}
LastBehind begun (loss_refused n) = Unit {0}

pub record LinkedTo (C : Setup) (begun : ℕ) (bytes m : List ℕ) (said : LossSaid) (losses : List Loss) (last : List ℕ) : Type 0 where
  pub losses' : losses ≡ losses_onwards C begun bytes said
  pub memory' : last ≡ buffer_onwards C begun m bytes said
  pub later : LastBehind begun said

abbrev pub Linked : Setup → State → ℕ → List ℕ → List ℕ → List ℕ → Type 0
Linked C s begun h m bytes = LinkedTo C begun (h ++ bytes) (next_memory C s m bytes) (next_in_state C s begun h bytes) (losses_in C s begun h bytes) (memory_of C s m bytes)

-- a part of so many bytes is over
linked_behind : (C : Setup) (begun : ℕ) (g bytes m : List ℕ) (said : LossSaid) (losses : List Loss) (last : List ℕ)
    → LinkedTo C (begun + length g) bytes m said losses last → LinkedTo C begun (g ++ bytes) m said losses last
linked_behind C begun g bytes m (lost_is l) losses last k =
    let n : l.last - begun ≡ length g + (l.last - (begun + length g)) = let i = k.later in omega arith in
    let cut' : drop (l.last - begun) (g ++ bytes) ≡ drop (l.last - (begun + length g)) bytes = ap (λ (j : ℕ). drop j (g ++ bytes)) n ∙ drop-append-add g bytes (l.last - (begun + length g)) in
    record { losses' = k.losses' ∙ ap (λ (x : List ℕ). l ∷ losses_in C fresh l.last [] x) (sym cut'); memory' = k.memory' ∙ ap (memory_of C fresh m) (sym cut'); later = let i = k.later in omega arith }
linked_behind C begun g bytes m none_lost losses last k = record { losses' = k.losses'; memory' = k.memory'; later = tt }
linked_behind C begun g bytes m (loss_refused n) losses last k = record { losses' = k.losses'; memory' = k.memory'; later = tt }

-- finalize
none_behind : (C : Setup) (at : ℕ) → losses_in C fresh at [] [] ≡ []
unfolding losses_in finalized
none_behind C at = refl

linked_final : (C : Setup) (at : ℕ) (h m : List ℕ) (a : DecoderAnswer)
    → LinkedTo C at (h ++ []) m (cond (is_refusal a) (lost_is (loss_at true a at h h)) none_lost) (cond (is_refusal a) (loss_at true a at h h ∷ []) []) m
unfolding memory_of
linked_final C at h m nothing = record { losses' = refl; memory' = refl; later = tt }
linked_final C at h m (payload P) = record { losses' = refl; memory' = refl; later = tt }
linked_final C at h m (count k) = record { losses' = refl; memory' = refl; later = tt }
linked_final C at h m (refusal k v) =
    let l : Loss = loss_at true (refusal k v) at h h in
    let n : l.last - at ≡ length h = omega arith in
    let cut' : drop (l.last - at) (h ++ []) ≡ [] = ap (λ (j : ℕ). drop j (h ++ [])) n ∙ drop-append_seam h [] in
    record { losses' = ap (λ (x : List Loss). l ∷ x) (sym (ap (losses_in C fresh l.last []) cut' ∙ none_behind C l.last)); memory' = sym (ap (memory_of C fresh m) cut'); later = omega arith }

abbrev pub LinksFrom : Setup → List ℕ → Type 0
LinksFrom C bytes = (s : State) (at : ℕ) (h m : List ℕ) → ReadExactly C h s → Linked C s at h m bytes

module _ (C : Setup) (bytes : List ℕ) (ih : LinksFrom C bytes) (at : ℕ) (h : List ℕ) (b : ℕ) (m : List ℕ) where
  abbrev g : List ℕ
  g = h ++ b ∷ []

  grouped : h ++ (b ∷ bytes) ≡ g ++ bytes
  grouped = sym (append_assoc h (b ∷ []) bytes)

  abbrev said_by : Out → LossSaid
  said_by o =
      let a : DecoderAnswer = numbered o.event in
      cond (is_refusal a) (lost_is (loss_at false a at h (piece_of a g))) (cond (hands_out a) (next_in_state C o.state (at + length g) [] bytes) (next_in_state C o.state at g bytes))

  abbrev losses_by : Out → List Loss
  losses_by o =
      let a : DecoderAnswer = numbered o.event in
      cond (is_refusal a) (loss_at false a at h (piece_of a g) ∷ losses_in C o.state (at + length (piece_of a g)) (grown_since a h b) bytes)
      (cond (hands_out a) (losses_in C o.state (at + length g) [] bytes) (losses_in C o.state at g bytes))

  abbrev next_memory_by : Out → List ℕ
  next_memory_by o = cond (is_refusal (numbered o.event)) m (next_memory C o.state m bytes)

  abbrev LinkedBy : Out → Type 0
  LinkedBy o = LinkedTo C at (h ++ (b ∷ bytes)) (next_memory_by o) (said_by o) (losses_by o) (memory_of C o.state m bytes)

  -- a piece w is lost, and x has begun behind it
  linked_lost : (l : Loss) (w x : List ℕ) (t : State) → h ++ (b ∷ bytes) ≡ w ++ x → l.last ≡ at + length w
      → (losses : List Loss) → losses ≡ losses_in C fresh l.last [] x → memory_of C t m bytes ≡ memory_of C fresh m x → LinkedTo C at (h ++ (b ∷ bytes)) m (lost_is l) (l ∷ losses) (memory_of C t m bytes)
  linked_lost l w x t e last losses behind' left =
      let n : l.last - at ≡ length w = omega arith in
      let cut' : drop (l.last - at) (h ++ (b ∷ bytes)) ≡ x = ap (λ (j : ℕ). drop j (h ++ (b ∷ bytes))) n ∙ ap (drop (length w)) e ∙ drop-append_seam w x in
      record { losses' = ap (λ (k : List Loss). l ∷ k) (behind' ∙ ap (losses_in C fresh l.last []) (sym cut')); memory' = left ∙ ap (memory_of C fresh m) (sym cut'); later = omega arith }

  linked_start : (k : ℕ) (w : List ℕ) → g ≡ w ++ start_seq → LinkedBy (says begun (discarded k))
  linked_start k w e =
      let eight : take (length g - 8) g ≡ w = rw e (take_at w start_seq (length (w ++ start_seq) - 8) (simp length-append (omega arith))) in
      rw eight (linked_lost (loss_at false (refusal 6 (k ∷ [])) at h w) w (start_seq ++ bytes) begun (grouped ∙ rw e (append_assoc w start_seq bytes)) refl
      (losses_in C begun (at + length w) start_seq bytes) (sym (losses_silent (start_silent C) (at + length w) [] bytes)) (sym (memory_again C m bytes)))

  linked_gone : (e : PushEvent) (k : ℕ) (v : List ℕ) → numbered e ≡ refusal k v → eqb k 6 ≡ false → LinkedBy (says fresh e)
  linked_gone e k v q ne =
      rw (q, ne) (linked_lost (loss_at false (refusal k v) at h g) g bytes fresh grouped refl (losses_in C fresh (at + length g) [] bytes) refl refl)

  linked_event : (o : Out) → LeftBy o → ReadExactly C (grown_since (numbered o.event) h b) o.state → SaysExactly C g o.event → LinkedBy o
  linked_event o (quiet_left t) r says' = rw grouped (ih t at g m r)
  linked_event o (paid_left P) r says' = rw grouped (linked_behind C at g bytes _ _ _ _ (ih (done P) (at + length g) [] m r))
  linked_event o (start_left k) r says' = let w = ends_start C g k (discarded k) refl says' in linked_start k w.0 w.1
  linked_event o (gone_left e k v q ne of) r says' = linked_gone e k v q ne

pub linked_from : (C : Setup) (bytes : List ℕ) → LinksFrom C bytes
unfolding next_in_state losses_in next_memory memory_of
linked_from C [] s at h m r = linked_final C at h m (numbered (finalized s))
linked_from C (b ∷ bytes) s at h m r =
    let o = kept_exactly C h s b r in
    linked_event C bytes (linked_from C bytes) at h b (wrote_to C s m b) (step C s b) (left_saw C s b (step C s b) (saw C s b)) o.reads o.told
