-- A search goes over bytes in which it finds no start, and says nothing.
use mathlib.Core.Path.{◌≡◌, sym, ◌∙◌, subst}
use mathlib.Core.Bool.{false}
use mathlib.Core.List.{List, [], ◌∷◌, ◌++◌, append_assoc, append-nil}
use Prim.Native.Nat.{ℕ, zero, suc, ◌≤◌}
use native.Mathlib.Omega.{arith}
use lib.ListN.{take, get_or}
use borrow.Author.Tests.{ne_eqb}
use Rattle.frame.specs.Frame.{start_seq}
use Rattle.search.specs.Found.{HasStart, NoneWhole}
use Rattle.search.proofs.Matched.{has_more, ends_has}
use Rattle.decoder.specs.Push.{second_way, State, search, silent, says, starts, matched_behind, more_noise, searching, step, stopped, fresh}
use Rattle.decoder.specs.declared.Setup.{Setup}
use Rattle.decoder.proofs.Search.{matched_none, matched_eight}
use Rattle.since.specs.Since.{Misses, none_passed, miss, InSearch}
use Rattle.since.specs.Exactly.{ReadExactly}
use Rattle.since.proofs.Lists.{starts_is}
use Rattle.since.proofs.KeptExactly.{kept_exactly, reads_fresh_exactly}
use Rattle.since.proofs.Rules.{Silent, stop, silent_on, and_then}
use Rattle.since.proofs.Starts.{seek_on}
use Rattle.causes.specs.Causes.{Overlooks}
use Rattle.causes.proofs.Overlooked.{starts_at_lem}

-- what is known of the bytes goes on with them
pub reads_silent : {C : Setup} {s t : State} {a : List ℕ} → Silent C s a t → (h : List ℕ) → ReadExactly C h s → ReadExactly C (h ++ a) t
reads_silent {C} {s} stop h k = subst (λ (l : List ℕ). ReadExactly C l s) (sym (append-nil h)) k
reads_silent {C} {s} (silent_on {t = t} {u = u} {b = b} {l = l} e q) h k =
    let r : ReadExactly C (h ++ b ∷ []) t = rw e at (kept_exactly C h s b k).reads in
    subst (λ (x : List ℕ). ReadExactly C x u) (append_assoc h (b ∷ []) l) (reads_silent q (h ++ b ∷ []) r)

-- over the bytes to a search, n of a start matched
pub record Seeks (C : Setup) (s : State) (bytes : List ℕ) : Type 0 where
  pub n : ℕ
  pub noise : ℕ
  pub raw : ℕ
  pub quietly : Silent C s bytes (search n noise raw)

step_sought : (C : Setup) (n noise raw b : ℕ) → (matched_behind C.way n b ≡ 8 → ⊥)
    → step C (search n noise raw) b ≡ says (search (matched_behind C.way n b) (more_noise noise n (matched_behind C.way n b)) (stopped (suc raw))) silent
unfolding step searching
step_sought C n noise raw b ne = rw (ne_eqb (matched_behind C.way n b) 8 ne)

-- no start lies in them, in either way
seeks_from : (C : Setup) (bytes h : List ℕ) (n noise raw : ℕ) → InSearch C h n noise raw → NoneWhole (h ++ bytes) → Seeks C (search n noise raw) bytes
seeks_from C [] h n noise raw k none = record { n = n; noise = noise; raw = raw; quietly = stop }
seeks_from C (b ∷ bytes) h n noise raw k none =
    let j : ℕ = matched_behind C.way n b in
    let one : h ++ (b ∷ bytes) ≡ (h ++ b ∷ []) ++ bytes = sym (append_assoc h (b ∷ []) bytes) in
    let ne : j ≡ 8 → ⊥ = λ eight.
    let (t, e) = matched_eight C.way n b k.most eight in
    let on : h ++ b ∷ [] ≡ k.passed ++ start_seq = rw (k.here, append_assoc, starts_is n b k.most t, e) in
    none (subst HasStart (sym one) (has_more bytes (ends_has (record { before = k.passed; is = on })))) in
    let s = step_sought C n noise raw b ne in
    let r : InSearch C (h ++ b ∷ []) j (more_noise noise n j) (stopped (suc raw)) = rw s at (kept_exactly C h (search n noise raw) b k).reads in
    let q = seeks_from C bytes (h ++ b ∷ []) j (more_noise noise n j) (stopped (suc raw)) r (subst NoneWhole one none) in
    record { n = q.n; noise = q.noise; raw = q.raw; quietly = silent_on s q.quietly }

pub seeks_none : (C : Setup) (w : List ℕ) → NoneWhole w → Seeks C fresh w
seeks_none C w none = seeks_from C w [] 0 0 0 (reads_fresh_exactly C) none

-- ---- the first way passes starts by

module _ (C : Setup) (other : C.way ≡ second_way → ⊥) where
  step_missed : (n noise raw b : ℕ) → starts n b ≡ false → step C (search n noise raw) b ≡ says (search 0 (more_noise noise n 0) (stopped (suc raw))) silent
  step_missed n noise raw b f =
      let z : matched_behind C.way n b ≡ 0 = sym (matched_none C.way n b other f) in
      step_sought C n noise raw b (λ e. let q : ◌≡◌ {A = ℕ} 0 8 = sym z ∙ e in omega arith) ∙ rw z

  -- the first n start bytes
  firsts : (n noise raw : ℕ) → n ≤ 7 → (raw' : ℕ) × Silent C (search 0 noise raw) (take n start_seq) (search n noise raw')
  firsts zero noise raw le = (raw, stop)
  firsts (suc n) noise raw le =
      let (r, q) = firsts n noise raw (omega arith) in
      let c : ℕ = get_or start_seq n 0 in
      let t = starts_at_lem n (omega arith) in
      (stopped (suc r), subst (λ (l : List ℕ). Silent C (search 0 noise raw) l (search (suc n) noise (stopped (suc r)))) (starts_is n c (omega arith) t) (and_then q (silent_on (seek_on C noise r n c (omega arith) t) stop)))

  -- what was passed over leaves nothing matched
  pub passes_over : {x : List ℕ} → Misses x → (noise raw : ℕ) → (noise' raw' : ℕ) × Silent C (search 0 noise raw) x (search 0 noise' raw')
  passes_over none_passed noise raw = (noise, raw, stop)
  passes_over (miss n b {l} le f rest) noise raw =
      let (r, q) = firsts n noise raw le in
      let (noise', raw', p) = passes_over rest (more_noise noise n 0) (stopped (suc r)) in
      (noise', raw', and_then q (silent_on (step_missed n noise r b f) p))

  pub overlooks : (w : List ℕ) → Overlooks w → Seeks C fresh w
  overlooks w o =
      let (noise, raw, p) = passes_over o.misses 0 0 in
      let (r, q) = firsts o.n noise raw o.most in
      record { n = o.n; noise = noise; raw = r; quietly = subst (λ (l : List ℕ). Silent C fresh l (search o.n noise r)) (sym o.is) (and_then p q) }
