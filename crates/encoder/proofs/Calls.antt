-- The Encoder gives the frame's bytes, one a call, then says finished: by the bytes that are still to come.
use mathlib.Core.Path.{◌≡◌, refl, ap, sym, ◌∙◌, subst}
use mathlib.Core.Bool.{Bool, true, false, cond, false≢true}
use mathlib.Core.List.{List, [], ◌∷◌, ◌++◌, map, append_assoc}
use Prim.Native.Nat.{ℕ, zero, suc, ◌+◌, ◌%◌, ◌/◌, ◌≤◌, ◌<◌}
use native.Mathlib.Omega.{arith}
use native.Mathlib.Nat.{zero-add, suc-add}
use lib.IntN.{ℤ, pos, negsuc, neg_ℤ}
use lib.ListN.{length, replicate, drop, get_or, get_or-replicate, drop_of_length-le}
use lib.Seq.{drop-cons}
use lib.Dec.{ltb, leb}
use borrow.Author.Tests.{ne_eqb, lt-ltb, le-ltb, leb-true, leb-false, ltb-false}
use Rattle.crc_x25.specs.Crc.{start, byte_step, register, final_xor}
use Rattle.crc_x25.proofs.Laws.{register_append, register_one, register_none, crc_is}
use Rattle.frame.specs.Frame.{esc_seq, start_seq, missing, escaped, closed, frame_of}
use Rattle.frame.proofs.Cases.{by_test, by_lt, either}
use Rattle.frame.proofs.Escapes.{escaped_other, escaped_wait, escaped_fourth, escaped_nil}
use Rattle.frame.proofs.Frames.{frame_parts}
use Rattle.encoder.specs.declared.Encoder.{Encoder}
use Rattle.encoder.specs.declared.EncoderState.{EncoderState}
use Rattle.encoder.specs.declared.EncoderState.TheVariants.{Init, LookingForEscape, HandlingEscape, End}
use Rattle.refusals.specs.Numbers.{limit}
use Rattle.encoder.specs.Encoder.{NextAnswer, byte, finished, Step, step_to, encoder_at, fresh_encoder, end_of, bad_end, last_end, ended, run_of, looked, step_from, bad_count, bad_encoder, next_step}
use Rattle.encoder.specs.Calls.{calls, GivesTheFrame}
use Rattle.encoder.proofs.Ends.{not_last}
use Rattle.encoder.proofs.Steps.{next_good, bad_inside}

-- the end behind its pad bytes
tail_of : ℕ → ℕ → List ℕ
tail_of pad reg = esc_seq ++ (0x1a ∷ pad ∷ final_xor reg % 256 ∷ final_xor reg / 256 ∷ [])

-- what an End count still gives: pad bytes where it is negative, then the end from its place on
end_from : ℤ → ℕ → ℕ → List ℕ
end_from (negsuc n) pad reg = replicate (suc n) 0x00 ++ tail_of pad reg
end_from (pos n) pad reg = drop n (tail_of pad reg)

-- what comes from a place of the payload on, behind n 1b of a run
comes : ℕ → ℕ → ℕ → List ℕ → List ℕ
comes n place reg P =
    let pad = missing (length P) in
    escaped n (drop place P) ++ end_from (neg_ℤ (pos pad)) pad (register (register reg (escaped n (drop place P))) (end_of pad))

coming : EncoderState → ℕ → ℕ → List ℕ → List ℕ
coming (Init n) place reg P = drop n start_seq ++ comes 0 place reg P
coming (LookingForEscape n) place reg P = cond (ltb n 4) (comes n place reg P) (esc_seq ++ comes 0 place (register reg esc_seq) P)
coming (HandlingEscape n) place reg P = drop n esc_seq ++ comes 0 place reg P
coming (End n) place reg P = end_from n (missing place) reg

-- a call gives the first byte to come and leaves the others, with an Encoder that is as good; or all is given, and stays so
data Gives (P : List ℕ) (l : List ℕ) : Step → Type 0 where
  gives : (b : ℕ) (s : EncoderState) (place reg : ℕ) → l ≡ b ∷ coming s place reg P → bad_count s ≡ false → place ≤ length P
      → Gives P l (step_to (byte b) (encoder_at s place reg))
  gave_all : (s : EncoderState) (place reg : ℕ) → l ≡ [] → coming s place reg P ≡ [] → bad_count s ≡ false → place ≤ length P
      → Gives P l (step_to finished (encoder_at s place reg))

gives_end : (P : List ℕ) (n : ℤ) (place reg : ℕ) → last_end n ≡ false → bad_end n ≡ false → place ≤ length P → Gives P (end_from n (missing place) reg) (ended n place reg)
unfolding ended end_from coming tail_of
gives_end P (pos n) place reg l b h =
    let k : n < 8 = leb-false 8 n l in
    gives _ (End (pos (suc n))) place reg (drop-cons (tail_of (missing place) reg) n 0 k) (le-ltb 8 (suc n) k) h
gives_end P (negsuc zero) place reg l b h = gives 0x00 (End (pos 0)) place reg refl refl h
gives_end P (negsuc (suc n)) place reg l b h = gives 0x00 (End (negsuc n)) place reg refl (le-ltb 2 n (omega (arith, ltb-false 2 (suc n) b))) h

-- a payload byte is given: what comes behind it, with l the bytes that its escape puts in between
comes_cons : (n n' place reg b : ℕ) (l P : List ℕ) → drop place P ≡ b ∷ drop (suc place) P
    → escaped n (b ∷ drop (suc place) P) ≡ b ∷ (l ++ escaped n' (drop (suc place) P))
    → comes n place reg P ≡ b ∷ (l ++ comes n' (suc place) (register (byte_step reg b) l) P)
unfolding comes
comes_cons n n' place reg b l P d e =
    let rest = escaped n' (drop (suc place) P) in
    let t : escaped n (drop place P) ≡ b ∷ (l ++ rest) = ap (escaped n) d ∙ e in
    let r : register reg (b ∷ (l ++ rest)) ≡ register (register (byte_step reg b) l) rest =
    register_append reg (b ∷ []) (l ++ rest) ∙ ap (λ (x : ℕ). register x (l ++ rest)) (register_one reg b) ∙ register_append (byte_step reg b) l rest in
    rw (t, r) (ap (λ (q : List ℕ). b ∷ q) (append_assoc l rest _))

comes_plain : (n n' place reg b : ℕ) (P : List ℕ) → drop place P ≡ b ∷ drop (suc place) P → escaped n (b ∷ drop (suc place) P) ≡ b ∷ escaped n' (drop (suc place) P)
    → comes n place reg P ≡ b ∷ comes n' (suc place) (byte_step reg b) P
comes_plain n n' place reg b P d e =
    comes_cons n n' place reg b [] P d e ∙ ap (λ (x : ℕ). b ∷ comes n' (suc place) x P) (register_none (byte_step reg b))

comes_done : (n place reg : ℕ) (P : List ℕ) → place ≡ length P
    → comes n place reg P ≡ end_from (neg_ℤ (pos (missing place))) (missing place) (register reg (end_of (missing place)))
unfolding comes
comes_done n place reg P e =
    let d : escaped n (drop place P) ≡ [] = ap (escaped n) (drop_of_length-le P {i = place} (omega arith)) ∙ escaped_nil n in
    rw (d, register_none, ← e) refl

gives_byte : (P : List ℕ) (n place reg b : ℕ) → n ≤ 3 → drop place P ≡ b ∷ drop (suc place) P → place < length P
    → Gives P (comes n place reg P) (step_to (byte b) (encoder_at (LookingForEscape (run_of n b)) (suc place) (byte_step reg b)))
unfolding coming
gives_byte P n place reg b le d h =
    either b 0x1b
    (λ e. either n 3
    (λ f. rw (e, f) (gives 0x1b (LookingForEscape 4) (suc place) (byte_step reg 0x1b) (comes_cons 3 0 place reg 0x1b esc_seq P (rw e at d) (escaped_fourth (drop (suc place) P))) refl h))
    (λ ne. rw e (gives 0x1b (LookingForEscape (suc n)) (suc place) (byte_step reg 0x1b)
    (rw (lt-ltb (suc n) 4 (omega arith)) (comes_plain n (suc n) place reg 0x1b P (rw e at d) (escaped_wait n (drop (suc place) P) ne))) (le-ltb 4 (suc n) (omega arith)) h)))
    (λ ne. rw (ne_eqb b 0x1b ne) (gives b (LookingForEscape 0) (suc place) (byte_step reg b) (comes_plain n 0 place reg b P d (escaped_other n b (drop (suc place) P) ne)) refl h))

not_bad_encoder : (n : ℕ) → n ≤ 3 → bad_end (neg_ℤ (pos n)) ≡ false
not_bad_encoder zero h = refl
not_bad_encoder (suc n) h = le-ltb 2 n (omega arith)

gives_looked : (P : List ℕ) (n place reg : ℕ) → n ≤ 3 → place ≤ length P → Gives P (comes n place reg P) (looked n place reg P)
unfolding looked
gives_looked P n place reg le h =
    by_lt (Gives P (comes n place reg P)) place (length P) _ _
    (λ lt. gives_byte P n place reg (get_or P place 0) le (drop-cons P place 0 lt) lt)
    (λ ge.
    subst (λ (l : List ℕ). Gives P l (ended (neg_ℤ (pos (missing place))) place (register reg (end_of (missing place))))) (sym (comes_done n place reg P (omega arith)))
    (gives_end P (neg_ℤ (pos (missing place))) place (register reg (end_of (missing place))) (not_last (missing place)) (not_bad_encoder (missing place) (omega arith)) h))

gives_step : (P : List ℕ) (s : EncoderState) (place reg : ℕ) → bad_count s ≡ false → place ≤ length P → Gives P (coming s place reg P) (step_from s place reg P)
unfolding step_from coming tail_of end_from
gives_step P (Init n) place reg b h =
    by_lt (Gives P (drop n start_seq ++ comes 0 place reg P)) n 8 _ _
    (λ lt. gives (get_or start_seq n 0) (Init (suc n)) place reg (ap (λ (l : List ℕ). l ++ comes 0 place reg P) (drop-cons start_seq n 0 lt)) (le-ltb 8 (suc n) lt) h)
    (λ ge. (let e : n ≡ 8 = omega (arith, ltb-false 8 n b) in rw e (gives_looked P 0 place reg (omega arith) h)))
gives_step P (LookingForEscape n) place reg b h =
    by_lt (Gives P (coming (LookingForEscape n) place reg P)) n 4 _ _
    (λ lt. rw (lt-ltb n 4 lt) (gives_looked P n place reg (omega arith) h))
    (λ ge. rw (le-ltb n 4 ge) (gives 0x1b (HandlingEscape 1) place (register reg esc_seq) refl refl h))
gives_step P (HandlingEscape n) place reg b h =
    by_lt (Gives P (drop n esc_seq ++ comes 0 place reg P)) n 4 _ _
    (λ lt. gives 0x1b (HandlingEscape (suc n)) place reg (ap (λ (l : List ℕ). l ++ comes 0 place reg P) (drop-cons esc_seq n 0 lt ∙ ap (λ (x : ℕ). x ∷ drop (suc n) esc_seq) (get_or-replicate 4 n 0x1b 0 lt))) (le-ltb 4 (suc n) lt) h)
    (λ ge. (let e : n ≡ 4 = omega (arith, ltb-false 4 n b) in rw e (gives_looked P 0 place reg (omega arith) h)))
gives_step P (End n) place reg b h =
    by_test (Gives P (end_from n (missing place) reg)) (last_end n) _ _
    (λ t. (let e = given_all n t in gave_all (End n) place reg e e b h))
    (λ f. gives_end P n place reg f b h)
  where
    given_all : (n : ℤ) → last_end n ≡ true → end_from n (missing place) reg ≡ []
    given_all (pos n) t = drop_of_length-le (tail_of (missing place) reg) (leb-true 8 n t)
    given_all (negsuc n) t = let z : ◌≡◌ {A = ℕ} 0 1 = cc in absurd (omega arith)

-- a good Encoder's call is its step
next_is : (P : List ℕ) (s : EncoderState) (place reg : ℕ) → length P ≤ limit → bad_count s ≡ false → place ≤ length P
    → Gives P (coming s place reg P) (next_step (encoder_at s place reg) P)
next_is P s place reg lim b h =
    subst (Gives P (coming s place reg P)) (next_good (encoder_at s place reg) P lim (sym (bad_inside (encoder_at s place reg) (length P) h) ∙ b)) (gives_step P s place reg b h)

-- a call leaves good counts where they were good, whatever it answers
gives_counts : {P l : List ℕ} {x : Step} → Gives P l x → bad_count x.encoder.state ≡ false
gives_counts (gives b s place reg e g h) = g
gives_counts (gave_all s place reg e k g h) = g

place_within : (e : Encoder) (len : ℕ) → bad_encoder e len ≡ false → e.place ≤ len
unfolding bad_encoder
place_within e len = by_lt (λ (t : Bool). t ≡ false → e.place ≤ len) len e.place _ _ (λ beyond h. absurd (false≢true (sym h))) (λ within h. within)

pub next_counts : (e : Encoder) (P : List ℕ) → bad_count e.state ≡ false → bad_count (next_step e P).encoder.state ≡ false
unfolding next_step
next_counts e P b =
    by_test (λ (x : Step). bad_count x.encoder.state ≡ false) (leb (length P) limit) _ _
    (λ short. by_test (λ (x : Step). bad_count x.encoder.state ≡ false) (bad_encoder e (length P)) _ _ (λ bad. b)
    (λ good. gives_counts (gives_step P e.state e.place e.crc b (place_within e (length P) good))))
    (λ long. b)

-- calls give the bytes to come, then finished
module _ (P : List ℕ) (lim : length P ≤ limit) where
  abbrev Says : ℕ → List ℕ → EncoderState → ℕ → ℕ → Type 0
  Says more l s place reg = calls (length l + more) (encoder_at s place reg) P ≡ map byte l ++ replicate more finished

  abbrev All : ℕ → List ℕ → Type 0
  All more l = (s : EncoderState) (place reg : ℕ) → coming s place reg P ≡ l → bad_count s ≡ false → place ≤ length P → Says more l s place reg

  call : (more : ℕ) (b : ℕ) (l : List ℕ) (x : Step) → All more l → Gives P (b ∷ l) x
      → x.answer ∷ calls (length l + more) x.encoder P ≡ byte b ∷ (map byte l ++ replicate more finished)
  call more b l x ih (gives b' s place reg e g h) =
      let f : b ≡ b' = cc in
      let k : coming s place reg P ≡ l = cc in
      rw f (ap (λ (q : List NextAnswer). byte b' ∷ q) (ih s place reg k g h))
  call more b l x ih (gave_all s place reg e k g h) = let z : ◌≡◌ {A = ℕ} 0 1 = cc in absurd (omega arith)

  over : (more : ℕ) (x : Step) → All more [] → Gives P [] x → x.answer ∷ calls (0 + more) x.encoder P ≡ finished ∷ replicate more finished
  over more x ih (gives b s place reg e g h) = let z : ◌≡◌ {A = ℕ} 0 1 = cc in absurd (omega arith)
  over more x ih (gave_all s place reg e k g h) = ap (λ (q : List NextAnswer). finished ∷ q) (ih s place reg k g h)

  calls_suc : (n : ℕ) (e : Encoder) → calls (suc n) e P ≡ (next_step e P).answer ∷ calls n (next_step e P).encoder P
  unfolding calls
  calls_suc n e = refl

  silent : (more : ℕ) → All more []
  unfolding calls
  silent zero s place reg e b h = refl
  silent (suc more) s place reg e b h =
      ap (λ (n : ℕ). calls n (encoder_at s place reg) P) (zero-add (suc more) ∙ ap suc (sym (zero-add more))) ∙ calls_suc (0 + more) (encoder_at s place reg)
      ∙ over more (next_step (encoder_at s place reg) P) (silent more) (subst (λ (l : List ℕ). Gives P l (next_step (encoder_at s place reg) P)) e (next_is P s place reg lim b h))

  says : (l : List ℕ) (more : ℕ) → All more l
  says [] more = silent more
  says (a ∷ l) more =
      λ s place reg e b h.
      ap (λ (n : ℕ). calls n (encoder_at s place reg) P) (suc-add (length l) more) ∙ calls_suc (length l + more) (encoder_at s place reg)
      ∙ call more a l (next_step (encoder_at s place reg) P) (says l more) (subst (λ (l : List ℕ). Gives P l (next_step (encoder_at s place reg) P)) e (next_is P s place reg lim b h))

-- what comes from a fresh Encoder is the frame
end_is : (pad reg : ℕ) → end_from (neg_ℤ (pos pad)) pad reg ≡ end_of pad ++ (final_xor reg % 256 ∷ final_xor reg / 256 ∷ [])
unfolding end_from tail_of
end_is zero reg = refl
end_is (suc pad) reg = sym (append_assoc (replicate (suc pad) 0x00 ++ esc_seq) (0x1a ∷ suc pad ∷ []) _ ∙ append_assoc (replicate (suc pad) 0x00) esc_seq _)

coming_frame : (P : List ℕ) → coming (Init 0) 0 (register start start_seq) P ≡ frame_of P
unfolding coming comes closed
coming_frame P =
    let e = escaped 0 P in
    let z = end_of (missing (length P)) in
    let r : register (register (register start start_seq) e) z ≡ register start (start_seq ++ e ++ z) =
    ap (λ (x : ℕ). register x z) (sym (register_append start start_seq e)) ∙ sym (register_append start (start_seq ++ e) z) in
    ap (λ (l : List ℕ). start_seq ++ (e ++ l)) (end_is (missing (length P)) _)
    ∙ sym (append_assoc start_seq e _) ∙ sym (append_assoc (start_seq ++ e) z _)
    ∙ ap (λ (x : ℕ). start_seq ++ e ++ z ++ (x % 256 ∷ x / 256 ∷ [])) (ap final_xor r ∙ sym (crc_is (start_seq ++ e ++ z)))
    ∙ sym (frame_parts P)

pub gives_the_frame : GivesTheFrame
unfolding fresh_encoder
gives_the_frame P lim more = ap (λ (l : List ℕ). calls (length l + more) fresh_encoder P) (sym (coming_frame P)) ∙ says P lim _ more (Init 0) 0 (register start start_seq) refl refl (omega arith) ∙ ap (λ (l : List ℕ). map byte l ++ replicate more finished) (coming_frame P)
