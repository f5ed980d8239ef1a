-- In the first way a push and finalize are what they were before there was a second: the one proof that knows the rules as they stood. What else asks for `bad_decoder` and `step` cites only these.
use mathlib.Core.Path.{◌≡◌, refl, ap, ◌∙◌}
use mathlib.Core.Bool.{Bool, true, false, cond}
use mathlib.Core.List.{List, []}
use Prim.Native.Nat.{ℕ, suc, ◌+◌}
use native.Mathlib.Omega.{arith}
use native.Mathlib.Nat.{sub-zero}
use lib.ListN.{length}
use lib.Dec.{eqb, ltb}
use borrow.Author.Tests.{eq-eqb, ne_eqb}
use Rattle.refusals.specs.Numbers.{bad_state_no, wrong_buffer_no}
use Rattle.decoder.specs.Push.{Setup, first_way, in_way, Mem, State, search, body, escape, done, silent, Out, begun, says, starts, more_noise, searching, noticed, stopped, store, step, finalized}
use Rattle.decoder.specs.Record.{refusal, After, after, Left, left, numbered, setup, state_of, new_record, bad_in, bad_decoder, wrong_buffer, pushed, push_record, finalize_record}
use Rattle.decoder.specs.declared.Decoder.{Decoder}

-- ---- the rules as they stood, with no way in them

pub searching_before : ℕ → ℕ → ℕ → ℕ → Out
searching_before n noise raw b =
    let k : ℕ = cond (starts n b) (suc n) 0 in
    cond (eqb k 8) (says begun (noticed noise)) (says (search k (more_noise noise n k) (stopped (suc raw))) silent)

pub step_before : Setup → State → ℕ → Out
step_before C (search n noise raw) b = searching_before n noise raw b
step_before C (done P) b = searching_before 0 0 0 b
step_before C (body n m) b = step C (body n m) b
step_before C (escape k m) b = step C (escape k m) b

pub bad_before : Decoder → Bool
bad_before d =
    cond (ltb d.capacity d.fill) true
    (cond (ltb d.fill d.crc_idx) true (bad_in d.fill d.crc_idx d.raw_msg_len d.state))

pub push_before : Decoder → List ℕ → ℕ → After
push_before d m b =
    cond (bad_before d) (after (refusal bad_state_no []) d m)
    (cond (wrong_buffer d.capacity (length m)) (after (refusal wrong_buffer_no []) d m) (pushed d m b (step_before (setup d) (state_of d m) b)))

pub finalize_before : Decoder → Left
finalize_before d = cond (bad_before d) (left (refusal bad_state_no []) d) (left (numbered (finalized (state_of d []))) (new_record (setup d)))

-- ---- in the first way they are those of now, for every number

pub first_searches : (n noise raw b : ℕ) → searching first_way n noise raw b ≡ searching_before n noise raw b
unfolding searching searching_before
first_searches n noise raw b = refl

pub first_steps : (C : Setup) (s : State) (b : ℕ) → C.way ≡ first_way → step C s b ≡ step_before C s b
unfolding step step_before
first_steps C (search n noise raw) b w = ap (λ (x : ℕ). searching x n noise raw b) w ∙ first_searches n noise raw b
first_steps C (done P) b w = ap (λ (x : ℕ). searching x 0 0 0 b) w ∙ first_searches 0 0 0 b
first_steps C (body n m) b w = refl
first_steps C (escape k m) b w = refl

pub first_bad : (d : Decoder) → d.way ≡ first_way → bad_decoder d ≡ bad_before d
unfolding bad_decoder bad_before
first_bad d w = rw w

pub first_as_before : (d : Decoder) (m : List ℕ) (b : ℕ) → d.way ≡ first_way → push_record d m b ≡ push_before d m b
unfolding push_record push_before
first_as_before d m b w = rw (first_bad d w, first_steps (setup d) (state_of d m) b w)

pub first_finalizes_as_before : (d : Decoder) → d.way ≡ first_way → finalize_record d ≡ finalize_before d
unfolding finalize_record finalize_before
first_finalizes_as_before d w = rw (first_bad d w)

-- ---- and document 01's own words of a search: any other byte adds n + 1 to the noise and sets n to 0; the next start byte adds one; at the eighth the frame begins

pub first_misses : (n noise raw b : ℕ) → starts n b ≡ false → searching first_way n noise raw b ≡ says (search 0 (stopped (noise + suc n)) (stopped (suc raw))) silent
unfolding searching
first_misses n noise raw b f = rw (f, ne_eqb 0 (suc n) (λ e. omega arith), sub-zero)

pub first_matches : (n noise raw b : ℕ) → starts n b ≡ true → (n ≡ 7 → ⊥) → searching first_way n noise raw b ≡ says (search (suc n) noise (stopped (suc raw))) silent
unfolding searching
first_matches n noise raw b t ne = rw (t, ne_eqb (suc n) 8 (λ e. ne (omega arith)), eq-eqb (suc n) (suc n) refl)

pub first_begins : (noise raw : ℕ) → searching first_way 7 noise raw 0x01 ≡ says begun (noticed noise)
unfolding searching
first_begins noise raw = refl

-- inside a frame the way is not asked for
pub inside_alike : (C : Setup) (way n b : ℕ) (m : Mem) → (step C (body n m) b ≡ step (in_way way C.capacity) (body n m) b) × (step C (escape n m) b ≡ step (in_way way C.capacity) (escape n m) b)
unfolding step store
inside_alike C way n b m = (refl, refl)
