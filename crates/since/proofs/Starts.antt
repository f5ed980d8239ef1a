-- From a state the start sequence leads to a frame: from a search with nothing matched in either way, from any in the second, and behind a payload.
use mathlib.Core.Path.{◌≡◌, refl, ap, sym, ◌∙◌, subst}
use mathlib.Core.Bool.{true}
use mathlib.Core.List.{List, [], ◌∷◌, ◌++◌, map}
use Prim.Native.Nat.{ℕ, zero, suc, ◌+◌, ◌≤◌}
use native.Mathlib.Omega.{arith}
use lib.ListN.{take, replicate}
use borrow.Author.Tests.{eq-eqb, ne_eqb}
use Rattle.frame.specs.Frame.{esc_seq, start_seq, same}
use Rattle.search.specs.Search.{greatest, most_matched}
use Rattle.decoder.specs.Push.{second_way, in_way, State, search, done, silent, Out, begun, says, starts, searching, noticed, fresh, stopped, step}
use Rattle.decoder.specs.Record.{nothing, numbered}
use Rattle.decoder.specs.Run as R
use Rattle.decoder.specs.Run.{Op}
use Rattle.decoder.specs.declared.Setup.{Setup}
use Rattle.decoder.proofs.States.{run_state, act_state, answer_state}
use Rattle.decoder.proofs.Search.{matched_next}
use Rattle.since.proofs.Rules.{Silent, stop, silent_on, and_then, silent_run}

-- the seven first bytes say nothing, and the eighth tells the noise
pub record Starts (C : Setup) (s : State) (noise : ℕ) : Type 0 where
  pub leads : (l : List ℕ) (os : List Op) → run_state C s (map R.push (start_seq ++ l) ++ os) ≡ replicate 7 nothing ++ numbered (noticed noise) ∷ run_state C begun (map R.push l ++ os)

-- ---- the next start byte, in either way

module _ (C : Setup) (noise raw : ℕ) where
  pub seek_on : (n b : ℕ) → n ≤ 6 → starts n b ≡ true → step C (search n noise raw) b ≡ says (search (suc n) noise (stopped (suc raw))) silent
  unfolding step searching
  seek_on n b le t = rw (matched_next C.way n b (omega arith) t, ne_eqb (suc n) 8 (λ e. omega arith), eq-eqb (suc n) (suc n) refl)

  pub seek_last : step C (search 7 noise raw) 0x01 ≡ says begun (noticed noise)
  unfolding step searching
  seek_last = rw (matched_next C.way 7 0x01 (omega arith) refl)

-- four 1b lead to four matched ones
pub record Fours (C : Setup) (s : State) (noise : ℕ) : Type 0 where
  pub raw : ℕ
  pub told : ℕ
  pub quietly : Silent C s esc_seq (search 4 told raw)
  pub is : told ≡ noise

-- and so seven start bytes say nothing, and with the eighth a frame begins
pub record Sevens (C : Setup) (s : State) (noise : ℕ) : Type 0 where
  pub raw : ℕ
  pub quietly : Silent C s (take 7 start_seq) (search 7 noise raw)
  pub eighth' : step C (search 7 noise raw) 0x01 ≡ says begun (noticed noise)

pub sevens : (C : Setup) (s : State) (noise : ℕ) → Fours C s noise → Sevens C s noise
sevens C s noise f =
    let up : ℕ → ℕ = λ r. stopped (suc r) in
    let ones : Silent C (search 4 noise f.raw) (0x01 ∷ 0x01 ∷ 0x01 ∷ []) (search 7 noise (up (up (up f.raw)))) =
    silent_on (seek_on C noise _ 4 0x01 (omega arith) refl) (silent_on (seek_on C noise _ 5 0x01 (omega arith) refl) (silent_on (seek_on C noise _ 6 0x01 (omega arith) refl) stop)) in
    record { raw = up (up (up f.raw)); quietly = and_then (subst (λ (x : ℕ). Silent C s esc_seq (search 4 x f.raw)) f.is f.quietly) ones; eighth' = seek_last C noise (up (up (up f.raw))) }

starts_four : (C : Setup) (s : State) (noise : ℕ) → Fours C s noise → Starts C s noise
unfolding run_state act_state answer_state
starts_four C s noise f =
    let v = sevens C s noise f in
    record {
      leads = λ l os.
          silent_run v.quietly (R.push 0x01 ∷ (map R.push l ++ os))
          ∙ ap (λ (o : Out). replicate 7 nothing ++ numbered o.event ∷ run_state C o.state (map R.push l ++ os)) v.eighth';
    }

-- nothing matched
pub fours_none : (C : Setup) (noise raw : ℕ) → Fours C (search 0 noise raw) noise
fours_none C noise raw = record {
  raw = _;
  quietly = silent_on (seek_on C noise _ 0 0x1b (omega arith) refl) (silent_on (seek_on C noise _ 1 0x1b (omega arith) refl) (silent_on (seek_on C noise _ 2 0x1b (omega arith) refl) (silent_on (seek_on C noise _ 3 0x1b (omega arith) refl) stop)));
  told = noise;
  is = refl;
}

pub starts_none : (C : Setup) (noise raw : ℕ) → Starts C (search 0 noise raw) noise
starts_none C noise raw = starts_four C (search 0 noise raw) noise (fours_none C noise raw)

-- from fresh nothing is said at all
pub start_silent : (C : Setup) → Silent C fresh start_seq begun
start_silent C =
    let v = sevens C fresh 0 (fours_none C 0 0) in
    and_then v.quietly (silent_on v.eighth' stop)

-- behind a payload it is as if from fresh
pub starts_done : (C : Setup) (P : List ℕ) → Starts C (done P) 0
unfolding run_state act_state answer_state step
starts_done C P = record { leads = (starts_none C 0 0).leads }

-- ---- any search, in the second way: what was matched becomes noise

-- over a setup whose way is the number 2, so that all steps compute
fours_second : (capacity n noise raw : ℕ) → n ≤ 7 → noise ≤ 4294967295 → Fours (in_way second_way capacity) (search n noise raw) (stopped (noise + n))
unfolding step searching most_matched greatest same
fours_second c zero noise raw le small = record { raw = _; told = _; quietly = silent_on refl (silent_on refl (silent_on refl (silent_on refl stop))); is = omega arith }
fours_second c (suc zero) noise raw le small = record { raw = _; told = _; quietly = silent_on refl (silent_on refl (silent_on refl (silent_on refl stop))); is = omega arith }
fours_second c (suc (suc zero)) noise raw le small = record { raw = _; told = _; quietly = silent_on refl (silent_on refl (silent_on refl (silent_on refl stop))); is = omega arith }
fours_second c (suc (suc (suc zero))) noise raw le small = record { raw = _; told = _; quietly = silent_on refl (silent_on refl (silent_on refl (silent_on refl stop))); is = omega arith }
fours_second c (suc (suc (suc (suc zero)))) noise raw le small = record { raw = _; told = _; quietly = silent_on refl (silent_on refl (silent_on refl (silent_on refl stop))); is = omega arith }
fours_second c (suc (suc (suc (suc (suc zero))))) noise raw le small = record { raw = _; told = _; quietly = silent_on refl (silent_on refl (silent_on refl (silent_on refl stop))); is = omega arith }
fours_second c (suc (suc (suc (suc (suc (suc zero)))))) noise raw le small = record { raw = _; told = _; quietly = silent_on refl (silent_on refl (silent_on refl (silent_on refl stop))); is = omega arith }
fours_second c (suc (suc (suc (suc (suc (suc (suc zero))))))) noise raw le small = record { raw = _; told = _; quietly = silent_on refl (silent_on refl (silent_on refl (silent_on refl stop))); is = omega arith }
fours_second c (suc (suc (suc (suc (suc (suc (suc (suc n)))))))) noise raw le small = absurd (omega arith)

pub fours_any : (C : Setup) (n noise raw : ℕ) → C.way ≡ second_way → n ≤ 7 → noise ≤ 4294967295 → Fours C (search n noise raw) (stopped (noise + n))
fours_any C n noise raw s le small =
    let is : C ≡ in_way second_way C.capacity = λ i. in_way (s i) C.capacity in
    subst (λ (x : Setup). Fours x (search n noise raw) (stopped (noise + n))) (sym is) (fours_second C.capacity n noise raw le small)

pub starts_second : (C : Setup) (n noise raw : ℕ) → C.way ≡ second_way → n ≤ 7 → noise ≤ 4294967295 → Starts C (search n noise raw) (stopped (noise + n))
starts_second C n noise raw s le small = starts_four C (search n noise raw) (stopped (noise + n)) (fours_any C n noise raw s le small)
