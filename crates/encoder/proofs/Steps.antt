-- Laws of the Encoder's step, one for each of its cases.
use Prim.Native.Nat.{ℕ, ◌+◌, ◌≤◌, ◌<◌}
use mathlib.Core.Bool.{true, false}
use mathlib.Core.List.{List, [], ◌∷◌, ◌++◌}
use mathlib.Core.Path.{◌≡◌, refl, sym, ap, ◌∙◌, subst}
use native.Mathlib.Numerals.{add-one}
use borrow.Author.Tests.{lt-ltb, le-ltb, le-leb, lt-leb}
use lib.Dec.{ltb, leb}
use lib.IntN.{ℤ, pos, neg_ℤ, suc_ℤ}
use lib.ListN.{length, get_or, take, replicate}
use Rattle.crc_x25.specs.Crc.{start, byte_step, register, final_xor}
use Rattle.crc_x25.proofs.Laws.{register_append}
use Rattle.frame.specs.Frame.{esc_seq, start_seq, missing}
use Rattle.frame.proofs.Cases.{by_test}
use Rattle.encoder.specs.declared.Encoder.{Encoder}
use Rattle.encoder.specs.declared.EncoderState.{EncoderState}
use Rattle.encoder.specs.declared.EncoderState.TheVariants.{Init, LookingForEscape, HandlingEscape, End}
use Rattle.refusals.specs.Numbers.{limit}
use Rattle.encoder.specs.Encoder.{Step, byte, finished, no_byte, step_to, encoder_at, fresh_encoder, end_of, end_byte, last_end, ended, run_of, looked, step_from, bad_count, bad_encoder, next_step}
use Rattle.encoder.proofs.Stores.{zeros_take}

-- the register over the end, part by part
pub end_register : (reg pad a b c : ℕ) → pad ≤ 3 → a ≡ register reg (take {A = ℕ} pad (0x00 ∷ 0x00 ∷ 0x00 ∷ [])) → b ≡ register a esc_seq
    → c ≡ register b (0x1a ∷ pad ∷ []) → c ≡ register reg (end_of pad)
end_register reg pad a b c h e f g =
    let z : a ≡ register reg (replicate pad 0x00) = e ∙ ap (register reg) (zeros_take pad h) in
    g ∙ ap (λ (x : ℕ). register x (0x1a ∷ pad ∷ [])) (f ∙ ap (λ (x : ℕ). register x esc_seq) z ∙ sym (register_append reg (replicate pad 0x00) esc_seq))
    ∙ sym (register_append reg (replicate pad 0x00 ++ esc_seq) (0x1a ∷ pad ∷ []))

pub new_is : (d x : ℕ) → d ≡ start → x ≡ register d start_seq → encoder_at (Init 0) 0 x ≡ fresh_encoder
unfolding fresh_encoder
new_is d x e f = rw (f, e)

pub ended_is : (n z : ℤ) (place reg pad b x : ℕ) → pad ≡ missing place → x ≡ final_xor reg → b ≡ end_byte n pad x → z ≡ suc_ℤ n
    → step_to (byte b) (encoder_at (End z) place reg) ≡ ended n place reg
unfolding ended
ended_is n z place reg pad b x e f g h = rw (h, g, f, e)

pub look_byte : (n place reg r x : ℕ) (p : List ℕ) → place < length p → r ≡ run_of n (get_or p place 0) → x ≡ byte_step reg (get_or p place 0)
    → step_to (byte (get_or p place 0)) (encoder_at (LookingForEscape r) (place + 1) x) ≡ looked n place reg p
unfolding looked
look_byte n place reg r x p h e f = rw (lt-ltb place (length p) h, e, f, add-one)

pub look_end : (n place reg pad x : ℕ) (z : ℤ) (p : List ℕ) → length p ≤ place → pad ≡ missing place → z ≡ neg_ℤ (pos pad) → x ≡ register reg (end_of pad)
    → ended z place x ≡ looked n place reg p
unfolding looked
look_end n place reg pad x z p h e f g = rw (le-ltb place (length p) h, f, g, e)

module _ (place reg : ℕ) (p : List ℕ) where
  pub at_start : (s : EncoderState) (n : ℕ) → s ≡ Init n → n < 8 → step_to (byte (get_or start_seq n 0)) (encoder_at (Init (n + 1)) place reg) ≡ step_from s place reg p
  unfolding step_from
  at_start s n q h = rw (q, lt-ltb n 8 h, add-one)

  pub behind_start : (s : EncoderState) (n : ℕ) → s ≡ Init n → 8 ≤ n → looked 0 place reg p ≡ step_from s place reg p
  unfolding step_from
  behind_start s n q h = rw (q, le-ltb n 8 h)

  pub step_looks : (s : EncoderState) (n : ℕ) → s ≡ LookingForEscape n → n < 4 → looked n place reg p ≡ step_from s place reg p
  unfolding step_from
  step_looks s n q h = rw (q, lt-ltb n 4 h)

  pub fourth : (s : EncoderState) (n x : ℕ) → s ≡ LookingForEscape n → 4 ≤ n → x ≡ register reg esc_seq → step_to (byte 0x1b) (encoder_at (HandlingEscape 1) place x) ≡ step_from s place reg p
  unfolding step_from
  fourth s n x q h e = rw (q, le-ltb n 4 h, e)

  pub at_escape : (s : EncoderState) (n : ℕ) → s ≡ HandlingEscape n → n < 4 → step_to (byte 0x1b) (encoder_at (HandlingEscape (n + 1)) place reg) ≡ step_from s place reg p
  unfolding step_from
  at_escape s n q h = rw (q, lt-ltb n 4 h, add-one)

  pub behind_escape : (s : EncoderState) (n : ℕ) → s ≡ HandlingEscape n → 4 ≤ n → looked 0 place reg p ≡ step_from s place reg p
  unfolding step_from
  behind_escape s n q h = rw (q, le-ltb n 4 h)

  pub all_given_lem : (s : EncoderState) (n : ℤ) → s ≡ End n → last_end n ≡ true → step_to finished (encoder_at s place reg) ≡ step_from s place reg p
  unfolding step_from
  all_given_lem s n q e = rw (q, e)

  pub at_end_lem : (s : EncoderState) (n : ℤ) → s ≡ End n → last_end n ≡ false → ended n place reg ≡ step_from s place reg p
  unfolding step_from
  at_end_lem s n q e = rw (q, e)

-- all of these
pub ruleset steps = (at_start, behind_start, step_looks, fourth, at_escape, behind_escape, all_given_lem, at_end_lem)

module _ (e : Encoder) where
  pub bad_beyond : (len : ℕ) → len < e.place → true ≡ bad_encoder e len
  unfolding bad_encoder
  bad_beyond len h = rw (lt-ltb len e.place h)

  pub bad_inside : (len : ℕ) → e.place ≤ len → bad_count e.state ≡ bad_encoder e len
  unfolding bad_encoder
  bad_inside len h = rw (le-ltb len e.place h)

module _ (e : Encoder) (p : List ℕ) where
  pub next_long : limit < length p → step_to (no_byte 1) e ≡ next_step e p
  unfolding next_step
  next_long h = rw (lt-leb (length p) limit h)

  pub next_bad : length p ≤ limit → bad_encoder e (length p) ≡ true → step_to (no_byte 4) e ≡ next_step e p
  unfolding next_step
  next_bad h b = rw (le-leb (length p) limit h, b)

  pub next_good : length p ≤ limit → bad_encoder e (length p) ≡ false → step_from e.state e.place e.crc p ≡ next_step e p
  unfolding next_step
  next_good h b = rw (le-leb (length p) limit h, b)

-- a call that gives no byte leaves the Encoder as it was: finished, 1 or 4
pub data StepsKept (e : Encoder) : Step → Type 0 where
  moves : (b : ℕ) (e' : Encoder) → StepsKept e (step_to (byte b) e')
  finishes : StepsKept e (step_to finished e)
  is_long : StepsKept e (step_to (no_byte 1) e)
  is_bad : StepsKept e (step_to (no_byte 4) e)

ended_moves : (e : Encoder) (n : ℤ) (place reg : ℕ) → StepsKept e (ended n place reg)
unfolding ended
ended_moves e n place reg = moves _ _

looked_moves : (e : Encoder) (n place reg : ℕ) (p : List ℕ) → StepsKept e (looked n place reg p)
unfolding looked
looked_moves e n place reg p = by_test (StepsKept e) (ltb place (length p)) _ _ (λ t. moves _ _) (λ f. ended_moves e _ place _)

step_keeps : (e : Encoder) (p : List ℕ) (s : EncoderState) → e.state ≡ s → StepsKept e (step_from s e.place e.crc p)
unfolding step_from
step_keeps e p (Init n) q = by_test (StepsKept e) (ltb n 8) _ _ (λ t. moves _ _) (λ f. looked_moves e 0 e.place e.crc p)
step_keeps e p (LookingForEscape n) q = by_test (StepsKept e) (ltb n 4) _ _ (λ t. looked_moves e n e.place e.crc p) (λ f. moves _ _)
step_keeps e p (HandlingEscape n) q = by_test (StepsKept e) (ltb n 4) _ _ (λ t. moves _ _) (λ f. looked_moves e 0 e.place e.crc p)
step_keeps e p (End n) q =
    by_test (StepsKept e) (last_end n) _ _
    (λ t. subst (λ (s : EncoderState). StepsKept e (step_to finished (encoder_at s e.place e.crc))) q finishes)
    (λ f. ended_moves e n e.place e.crc)

pub next_keeps : (e : Encoder) (p : List ℕ) → StepsKept e (next_step e p)
unfolding next_step
next_keeps e p =
    by_test (StepsKept e) (leb (length p) limit) _ _
    (λ t. by_test (StepsKept e) (bad_encoder e (length p)) _ _ (λ b. is_bad) (λ g. step_keeps e p e.state refl))
    (λ f. is_long)
