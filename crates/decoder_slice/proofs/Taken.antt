-- What a push of a slice is, by what the checks said; and what its callers need of it: a slice is taken as far as it says, and the rest goes on from there.
use Prim.Native.Nat.{ℕ, suc, ◌+◌, ◌-◌, ◌<◌, ◌≤◌}
use mathlib.Core.List.{List, [], ◌∷◌}
use mathlib.Core.Path.{◌≡◌, refl, sym, ap, ◌∙◌}
use mathlib.Core.Bool.{true, false, cond}
use native.Mathlib.Omega.{arith}
use native.Mathlib.Nat.{sub-zero}
use lib.ListN.{length, take, drop, length-drop}
use lib.Seq.{take-length}
use Rattle.decoder.specs.declared.Decoder.{Decoder}
use Rattle.decoder.specs.Record.{DecoderAnswer, nothing, payload, count, refusal, After, after, push_record, bad_decoder, wrong_buffer}
use Rattle.decoder.proofs.Split.{cases}
use Rattle.decoder_slice.specs.Slice.{Took, took, says_nothing, pushes_from, after_slice, slice_record}
use Rattle.decoder_slice.specs.declared.Sliced.{Sliced}

-- ---- the checks

module _ (d : Decoder) (m bs : List ℕ) where
  pub slice_bad : bad_decoder d ≡ true → took (refusal 4 []) d 0 m ≡ slice_record d m bs
  unfolding slice_record
  slice_bad e = rw e

  pub slice_wrong : bad_decoder d ≡ false → wrong_buffer d.capacity (length m) ≡ true → took (refusal 5 []) d 0 m ≡ slice_record d m bs
  unfolding slice_record
  slice_wrong e w = rw (e, w)

  pub slice_pushes : bad_decoder d ≡ false → wrong_buffer d.capacity (length m) ≡ false → pushes_from 0 d m bs ≡ slice_record d m bs
  unfolding slice_record
  slice_pushes e w = rw (e, w)

-- ---- how many bytes are taken

pub taken_from : (bs : List ℕ) (n : ℕ) (d : Decoder) (m : List ℕ) → (n ≤ (pushes_from n d m bs).taken) × ((pushes_from n d m bs).taken ≤ n + length bs)
unfolding pushes_from
taken_from [] n d m = (omega arith, omega arith)
taken_from (b ∷ bs) n d m =
    let a : After = push_record d m b in
    let h = taken_from bs (suc n) a.decoder a.memory in
    cases (says_nothing a.answer) (λ e. rw e (omega arith, omega arith)) (λ e. rw e (omega arith, omega arith))

pub taken_le : (d : Decoder) (m bs : List ℕ) → (slice_record d m bs).taken ≤ length bs
unfolding slice_record
taken_le d m bs =
    cases (bad_decoder d) (λ e. rw e (omega arith)) (λ e.
    cases (wrong_buffer d.capacity (length m)) (λ w. rw (e, w) (omega arith)) (λ w. rw (e, w) (omega (arith, (taken_from bs 0 d m).1))))

-- a first byte is taken whatever it says
taken_one : (b : ℕ) (bs : List ℕ) (d : Decoder) (m : List ℕ) → (pushes_from 0 d m (b ∷ bs)).taken ≡ 0 → ⊥
unfolding pushes_from
taken_one b bs d m =
    let a : After = push_record d m b in
    cases (says_nothing a.answer) (λ e. rw e (λ z. omega (arith, (taken_from bs 1 a.decoder a.memory).0))) (λ e. rw e (λ z. omega arith))

-- no byte of some: the slice is refused, and so is each push
pub none_took : (d : Decoder) (m bs : List ℕ) → 0 < length bs → (slice_record d m bs).taken ≡ 0 → slice_record d m bs ≡ took (refusal (cond (bad_decoder d) 4 5) []) d 0 m
unfolding slice_record
none_took d m [] h z = absurd (omega arith)
none_took d m (c ∷ cs) h z =
    cases (bad_decoder d) (λ e. rw e) (λ e.
    cases (wrong_buffer d.capacity (length m)) (λ w. rw (e, w)) (λ w. absurd (taken_one c cs d m (rw (e, w) at z))))

pub none_taken : (d : Decoder) (m bs : List ℕ) → 0 < length bs → (slice_record d m bs).taken ≡ 0
    → (b : ℕ) → push_record d m b ≡ after (refusal (cond (bad_decoder d) 4 5) []) d m
unfolding slice_record push_record
none_taken d m [] h z b = absurd (omega arith)
none_taken d m (c ∷ cs) h z b =
    cases (bad_decoder d) (λ e. rw e) (λ e.
    cases (wrong_buffer d.capacity (length m)) (λ w. rw (e, w)) (λ w. absurd (taken_one c cs d m (rw (e, w) at z))))

-- ---- the rest goes on from there

pub is_nothing : (a : DecoderAnswer) → says_nothing a ≡ true → a ≡ nothing
is_nothing nothing e = refl
is_nothing (payload bytes) e = cc
is_nothing (count n) e = cc
is_nothing (refusal n v) e = cc

-- F takes all bytes, G those behind a push and what it answered; a push that says nothing is one of F's
module _ {X : Type 0} (F : Decoder → List ℕ → List ℕ → X) (G : DecoderAnswer → Decoder → List ℕ → List ℕ → X)
    (one : (d : Decoder) (m : List ℕ) (b : ℕ) (bs : List ℕ) → G (push_record d m b).answer (push_record d m b).decoder (push_record d m b).memory bs ≡ F d m (b ∷ bs))
    (none : (d : Decoder) (m bs : List ℕ) → G nothing d m bs ≡ F d m bs) where
  abbrev behind : Took → List ℕ → X
  behind t bs = G t.answer t.decoder t.memory bs

  goes_from : (bs : List ℕ) (n : ℕ) (d : Decoder) (m : List ℕ) → behind (pushes_from n d m bs) (drop ((pushes_from n d m bs).taken - n) bs) ≡ F d m bs
  unfolding pushes_from
  goes_from [] n d m =
      let z : n - n ≡ 0 = omega arith in
      rw z (none d m [])
  goes_from (b ∷ bs) n d m =
      let a : After = push_record d m b in
      let t : Took = pushes_from (suc n) a.decoder a.memory bs in
      let k : t.taken - n ≡ suc (t.taken - suc n) = omega (arith, (taken_from bs (suc n) a.decoder a.memory).0) in
      let z : suc n - n ≡ 1 = omega arith in
      cases (says_nothing a.answer)
      (λ e. rw (e, k) (goes_from bs (suc n) a.decoder a.memory ∙ sym (none a.decoder a.memory bs)
      ∙ ap (λ (x : DecoderAnswer). G x a.decoder a.memory bs) (sym (is_nothing a.answer e)) ∙ one d m b bs))
      (λ e. rw (e, z) (one d m b bs))

  pub goes_on_claim : (d : Decoder) (m bs : List ℕ) → ((slice_record d m bs).taken ≡ 0 → ⊥) → behind (slice_record d m bs) (drop (slice_record d m bs).taken bs) ≡ F d m bs
  unfolding slice_record
  goes_on_claim d m bs h =
      cases (bad_decoder d) (λ e. absurd (h (rw e))) (λ e.
      cases (wrong_buffer d.capacity (length m)) (λ w. absurd (h (rw (e, w)))) (λ w.
      rw (e, w) (ap (λ (k : ℕ). behind (pushes_from 0 d m bs) (drop k bs)) (sym (sub-zero (pushes_from 0 d m bs).taken)) ∙ goes_from bs 0 d m)))

-- ---- the part of s from i on is pushed

module _ (d : Decoder) (m s : List ℕ) (i : ℕ) (r : Sliced) (n : List ℕ) (said : after_slice r n ≡ slice_record d m (take (length s - i) (drop i s))) where
  pub part_pushed : after_slice r n ≡ slice_record d m (drop i s)
  part_pushed = said ∙ ap (slice_record d m) (ap (λ (k : ℕ). take k (drop i s)) (sym (length-drop i s)) ∙ take-length (drop i s))

  pub part_taken : r.taken ≡ (slice_record d m (drop i s)).taken
  part_taken = ap (λ (t : Took). t.taken) part_pushed

  pub part_room : i < length s → i + r.taken ≤ length s
  part_room h = omega (arith, part_taken, length-drop i s, taken_le d m (drop i s))
