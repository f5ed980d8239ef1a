-- What a call's number, its values and the buffer say is the decoder's answer.
use mathlib.Core.Path.{◌≡◌, refl, ap, sym, ◌∙◌}
use mathlib.Core.Bool.{true, false}
use mathlib.Core.List.{List, [], ◌∷◌}
use Prim.Native.Nat.{ℕ, suc, ◌+◌, ◌≤◌}
use native.Mathlib.Omega.{arith}
use lib.ListN.{length, take, drop, get_or, set}
use lib.Seq.{get_or-set_same, sets, sets-eq, take-append_seam}
use lib.Dec.{eqb}
use borrow.Author.Tests.{ne_eqb}
use Rattle.decoder.specs.Push as P
use Rattle.decoder.specs.Push.{State, search, body, escape, done, step, finalized, reset_count}
use Rattle.decoder.specs.Record.{DecoderAnswer, nothing, payload, count, refusal, numbered, setup, state_of, bad_decoder, wrong_buffer, push_record, finalize_record, reset_record}
use Rattle.decoder.specs.declared.Decoder.{Decoder}
use Rattle.decoder.proofs.Split.{cases}
use Rattle.decoder.proofs.Faithful.{Fit, push_is_step}
use Rattle.decoder.proofs.Payload.{payload_leaves, got_done}
use Rattle.decoder_slice.specs.Slice.{says_nothing, pushes_from, slice_record}
use Rattle.packed.specs.Packed.{Unpacked, holds, no_record, unpack_of, push_held, push_packed, slice_held, slice_packed, left_held, finalize_packed, reset_packed}
use Rattle.sartrogheo.specs.Calls.{answer_no, values_by}
use Rattle.marks.specs.Library.{values_of, heard_answer, heard_reset}
use Rattle.marks.proofs.Packed.{exactly, bad_push, wrong_push}
use Rattle.marks.proofs.Soundness.{got_back}
use Rattle.marks.proofs.HeardEvent.{IsRefusal, not_good}

-- what can be heard of an answer, with the buffer m: a payload is its first bytes, and a refusal has the values that its number says; a reset's count is heard otherwise
unfoldable pub Hearable : DecoderAnswer → List ℕ → Type 0
Hearable nothing m = Unit {0}
Hearable (payload p) m = take (length p) m ≡ p
Hearable (count n) m = ⊥
Hearable (refusal n values) m = IsRefusal n × (length values ≡ values_of n) × (length values ≤ 4)

first_set : (v : List ℕ) (n : ℕ) → length v ≡ 4 → get_or (set v 0 n) 0 0 ≡ n
first_set v n h = get_or-set_same v 0 n 0 (omega (arith, h))

values_front : (v l : List ℕ) → length v ≡ 4 → length l ≤ 4 → take (length l) (sets v 0 l) ≡ l
values_front v l h k = rw (sets-eq l v 0 (omega (arith, h, k))) (take-append_seam l (drop (0 + length l) v))

pub answer_heard : (a : DecoderAnswer) (v m : List ℕ) → length v ≡ 4 → Hearable a m → heard_answer (answer_no a) (values_by a v) m ≡ a
unfolding Hearable
answer_heard nothing v m four h = refl
answer_heard (payload p) v m four h = ap payload (ap (λ (n : ℕ). take n m) (first_set v (length p) four) ∙ h)
answer_heard (count n) v m four h = absurd h
answer_heard (refusal n values) v m four h =
    rw (not_good n h.0, ne_eqb n 100 (λ e. omega (arith, h.0, e)), ← h.1) (ap (refusal n) (values_front v values four h.2))

-- ---- our answers can be heard

event_hearable : (e : P.PushEvent) (m : List ℕ) → ((p : List ℕ) → numbered e ≡ payload p → take (length p) m ≡ p) → Hearable (numbered e) m
unfolding Hearable
event_hearable P.silent m h = tt
event_hearable (P.pays_out p) m h = h p refl
event_hearable P.memory m h = ((omega arith, omega arith), refl, omega arith)
event_hearable (P.discarded n) m h = ((omega arith, omega arith), refl, omega arith)
event_hearable (P.bad_escape a b c d) m h = ((omega arith, omega arith), refl, omega arith)
event_hearable (P.bad_message a b c d) m h = ((omega arith, omega arith), refl, omega arith)

-- a payload that is given stands at the buffer's front
payload_front : (d : Decoder) (m : List ℕ) (b : ℕ) → Fit d m → (p : List ℕ) → (push_record d m b).answer ≡ payload p → take (length p) (push_record d m b).memory ≡ p
payload_front d m b f p e =
    let s = push_is_step d m b f in
    let g : (step (setup d) (state_of d m) b).state ≡ done p = got_done (setup d) (state_of d m) b p (got_back _ p (sym s.answer ∙ e)) in
    let v : done (take (length p) (push_record d m b).memory) ≡ (step (setup d) (state_of d m) b).state = rw (payload_leaves d m b p e) at s.view' in
    let z : done (take (length p) (push_record d m b).memory) ≡ done p = v ∙ g in
    cc

refused_hearable : (n : ℕ) (m : List ℕ) → IsRefusal n → values_of n ≡ 0 → Hearable (refusal n []) m
unfolding Hearable
refused_hearable n m h e = (h, sym e, omega arith)

fit_hearable : (d : Decoder) (m : List ℕ) (b : ℕ) → Fit d m → Hearable (push_record d m b).answer (push_record d m b).memory
fit_hearable d m b f =
    let a = (push_is_step d m b f).answer in
    rw a (event_hearable (step (setup d) (state_of d m) b).event _ (λ p e. payload_front d m b f p (a ∙ e)))

push_hearable : (d : Decoder) (m : List ℕ) (b : ℕ) → Hearable (push_record d m b).answer (push_record d m b).memory
push_hearable d m b =
    cases (bad_decoder d) (bad d m b) (λ g.
    cases (wrong_buffer d.capacity (length m)) (wrong d m b g) (λ w. fit_hearable d m b (record { state = g; buffer = w })))
  where
    bad : (d : Decoder) (m : List ℕ) (b : ℕ) → bad_decoder d ≡ true → Hearable (push_record d m b).answer (push_record d m b).memory
    bad d m b t = rw (bad_push d m b t) (refused_hearable 4 _ (omega arith, omega arith) refl)

    wrong : (d : Decoder) (m : List ℕ) (b : ℕ) → bad_decoder d ≡ false → wrong_buffer d.capacity (length m) ≡ true → Hearable (push_record d m b).answer (push_record d m b).memory
    wrong d m b g t = rw (wrong_push d m b g t) (refused_hearable 5 _ (omega arith, omega arith) refl)

-- a slice answers what its last push answers, or nothing
pushes_hearable : (bs : List ℕ) (n : ℕ) (d : Decoder) (m : List ℕ) → Hearable (pushes_from n d m bs).answer (pushes_from n d m bs).memory
unfolding pushes_from Hearable
pushes_hearable [] n d m = tt
pushes_hearable (b ∷ bs) n d m =
    cases (says_nothing (push_record d m b).answer)
    (λ t. rw t (pushes_hearable bs (suc n) (push_record d m b).decoder (push_record d m b).memory))
    (λ t. rw t (push_hearable d m b))

slice_hearable : (d : Decoder) (m bs : List ℕ) → Hearable (slice_record d m bs).answer (slice_record d m bs).memory
unfolding slice_record
slice_hearable d m bs =
    cases (bad_decoder d) (λ t. rw t (refused_hearable 4 m (omega arith, omega arith) refl)) (λ g.
    cases (wrong_buffer d.capacity (length m)) (λ t. rw (g, t) (refused_hearable 5 m (omega arith, omega arith) refl)) (λ w. rw (g, w) (pushes_hearable bs 0 d m)))

final_hearable : (s : State) (m : List ℕ) → Hearable (numbered (finalized s)) m
unfolding finalized Hearable
final_hearable (search n noise raw) m =
    cases (eqb n 0) (λ t. cases (eqb noise 0) (λ u. rw (t, u) tt) (λ u. rw (t, u) ((omega arith, omega arith), refl, omega arith)))
    (λ t. rw t ((omega arith, omega arith), refl, omega arith))
final_hearable (body n q) m = ((omega arith, omega arith), refl, omega arith)
final_hearable (escape k q) m = ((omega arith, omega arith), refl, omega arith)
final_hearable (done p) m = tt

finalize_hearable : (d : Decoder) (m : List ℕ) → Hearable (finalize_record d).answer m
unfolding finalize_record
finalize_hearable d m = cases (bad_decoder d) (λ t. rw t (refused_hearable 4 m (omega arith, omega arith) refl)) (λ g. rw g (final_hearable (state_of d []) m))

-- ---- over bytes

-- bytes that hold no record are 4
none_hearable : (l m : List ℕ) (n : ℕ) → unpack_of l ≡ no_record n → Hearable (refusal n []) m
none_hearable l m n e = rw (exactly.else_four l n e) (refused_hearable 4 m (omega arith, omega arith) refl)

module _ (l m : List ℕ) where
  pub push_bytes_hearable : (b : ℕ) → Hearable (push_packed l m b).answer (push_packed l m b).memory
  unfolding push_packed
  push_bytes_hearable b = by (unpack_of l) refl
    where
      by : (u : Unpacked) → unpack_of l ≡ u → Hearable (push_held u l m b).answer (push_held u l m b).memory
      by (holds d) e = push_hearable d m b
      by (no_record n) e = none_hearable l m n e

  pub slice_bytes_hearable : (chunk : List ℕ) → Hearable (slice_packed l m chunk).answer (slice_packed l m chunk).memory
  unfolding slice_packed
  slice_bytes_hearable chunk = by (unpack_of l) refl
    where
      by : (u : Unpacked) → unpack_of l ≡ u → Hearable (slice_held u l m chunk).answer (slice_held u l m chunk).memory
      by (holds d) e = slice_hearable d m chunk
      by (no_record n) e = none_hearable l m n e

  pub finalize_bytes_hearable : Hearable (finalize_packed l).answer m
  unfolding finalize_packed
  finalize_bytes_hearable = by (unpack_of l) refl
    where
      by : (u : Unpacked) → unpack_of l ≡ u → Hearable (left_held finalize_record u l).answer m
      by (holds d) e = finalize_hearable d m
      by (no_record n) e = none_hearable l m n e

-- a reset's count
pub reset_heard : (l v : List ℕ) → length v ≡ 4 → heard_reset (answer_no (reset_packed l).answer) (values_by (reset_packed l).answer v) ≡ (reset_packed l).answer
unfolding reset_packed reset_record
reset_heard l v four = by (unpack_of l) refl
  where
    by : (u : Unpacked) → unpack_of l ≡ u → heard_reset (answer_no (left_held reset_record u l).answer) (values_by (left_held reset_record u l).answer v) ≡ (left_held reset_record u l).answer
    by (holds d) e = ap count (first_set v (reset_count (state_of d [])) four)
    by (no_record n) e = rw (exactly.else_four l n e) refl
