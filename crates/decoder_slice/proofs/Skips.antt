-- Bytes that a search skips: those that are no 1b while nothing is matched; behind four matched ones fives of 1b in the first way, and any 1b in the second.
use Prim.Native.Nat.{ℕ, zero, suc, ◌+◌, ◌-◌, ◌*◌, ◌/◌, ◌%◌, ◌<◌, ◌≤◌}
use mathlib.Core.List.{List, []}
use mathlib.Core.Bool.{false}
use mathlib.Core.Path.{◌≡◌, refl, sym, ap, ◌∙◌, subst}
use native.Mathlib.Omega.{arith}
use native.Mathlib.Nat.{add-zero, zero-mul, suc-mul}
use borrow.Author.Tests.{eq-eqb, ne_eqb}
use lib.ListN.{length, take, drop, get_or}
use Rattle.std.proofs.lemmas.Grind.{common_steps}
use Rattle.std.proofs.lemmas.List.{drop-drop}
use Rattle.std.specs.Simd.{first_chunks}
use Rattle.decoder.specs.declared.DecodeState.TheVariants.{LookingForMessageStart}
use Rattle.decoder.specs.declared.Decoder.{Decoder}
use Rattle.frame.proofs.Cases.{either}
use Rattle.search.proofs.LastBytes.{last_bytes, other_none, esc_four, one_few}
use Rattle.decoder.specs.Push.{second_way, stopped, matched_behind}
use Rattle.decoder.specs.Record.{unknown_way}
use Rattle.decoder.proofs.Search.{second_matched, matched_more, matched_none}
use Rattle.decoder.proofs.Split.{split}
use Rattle.decoder_slice.specs.Slice.{Took, pushes_from}
use Rattle.decoder_slice.specs.Stretch.{moved_by, Plain, Escapes}
use Rattle.decoder_slice.proofs.Runs as runs

-- ---- places

-- what holds at a, .. k - 1 and at k
pub among_next : (P : ℕ → Type 0) (a k z : ℕ) → z ≡ k + 1 → ((i : ℕ) → a ≤ i → i < k → P i) → P k → (i : ℕ) → a ≤ i → i < z → P i
among_next P a k z e all here i le lt =
    split k i
    (λ w.
    let same : k ≡ i = omega arith in
    subst P same here)
    (λ w. all i le w)

pub among_both : (P : ℕ → Type 0) (a k z : ℕ) → ((i : ℕ) → a ≤ i → i < k → P i) → ((i : ℕ) → k ≤ i → i < z → P i) → (i : ℕ) → a ≤ i → i < z → P i
among_both P a k z low high i le lt = split k i (λ w. high i w lt) (λ w. low i le w)

-- what holds of the first r bytes of a part of s holds of those of s
pub in_part : (P : ℕ → Type 0) (s : List ℕ) (from n r : ℕ) → r ≤ n → from + n ≤ length s → ((i : ℕ) → 0 ≤ i → i < r → P (get_or (take n (drop from s)) i 0)) → (i : ℕ) → from ≤ i → i < from + r → P (get_or s i 0)
in_part P s from n r h room all i le lt =
    let e : from + (i - from) ≡ i = omega arith in
    let here : get_or (take n (drop from s)) (i - from) 0 ≡ get_or s i 0 = grind (arith, common_steps, e) in
    subst P here (all (i - from) (omega arith) (omega arith))

-- the r-th of the k chunks of n bytes that s begins with
chunk_at : (n k r : ℕ) (s : List ℕ) → r < k → get_or (first_chunks n k s) r [] ≡ take n (drop (r * n) s)
chunk_at n zero r s h = absurd (omega (arith, h))
chunk_at n (suc k) zero s h = rw zero-mul
chunk_at n (suc k) (suc r) s h =
    let e : n + r * n ≡ r * n + n = omega arith in
    rw (suc-mul r n) (chunk_at n k r (drop n s) (omega arith) ∙ ap (take n) (drop-drop (r * n) n s ∙ ap (λ (x : ℕ). drop x s) e))

-- what holds of the first r chunks of n bytes holds of r * n bytes
module _ (P : ℕ → Type 0) (n k : ℕ) (s : List ℕ) (more : (x y : ℕ) → x < y → x * n + n ≤ y * n) (room : k * n ≤ length s) where
  from_chunks : (r : ℕ) → r ≤ k → ((j : ℕ) → j < r → (i : ℕ) → 0 ≤ i → i < n → P (get_or (get_or (first_chunks n k s) j []) i 0)) → (i : ℕ) → 0 ≤ i → i < r * n → P (get_or s i 0)
  from_chunks zero h all = λ i le lt. absurd (omega (arith, rw zero-mul at lt))
  from_chunks (suc r) h all =
      let whole : r * n + n ≤ length s = omega (arith, more r k h, room) in
      let last : (i : ℕ) → r * n ≤ i → i < r * n + n → P (get_or s i 0) = in_part P s (r * n) n n (omega arith) whole (λ j a b. subst (λ (x : List ℕ). P (get_or x j 0)) (chunk_at n k r s h) (all r (omega arith) j a b)) in
      among_both (λ (i : ℕ). P (get_or s i 0)) 0 (r * n) (suc r * n) (from_chunks r (omega arith) (λ j w. all j (omega arith))) (λ i le lt. last i le (rw suc-mul at lt))

  pub in_runs : (cs : List (List ℕ)) → cs ≡ first_chunks n k s → (r : ℕ) → r ≤ k → ((j : ℕ) → j < r → (i : ℕ) → 0 ≤ i → i < n → P (get_or (get_or cs j []) i 0)) → (i : ℕ) → 0 ≤ i → i < r * n → P (get_or s i 0)
  in_runs cs e r h all = from_chunks r h (subst (λ (x : List (List ℕ)). (j : ℕ) → j < r → (i : ℕ) → 0 ≤ i → i < n → P (get_or (get_or x j []) i 0)) e all)

-- ---- what is matched

-- a byte that is no 1b, behind nothing matched
last_none : (b : ℕ) → (b ≡ 0x1b → ⊥) → last_bytes 0 b ≡ 0
last_none b ne = either b 0x01 (λ e. ap (last_bytes 0) e ∙ one_few 0 (omega arith)) (λ other. other_none 0 b ne other)

noise_none : (way b : ℕ) → (b ≡ 0x1b → ⊥) → 0 ≡ matched_behind way 0 b
noise_none way b ne = either way second_way (λ e. sym (second_matched way 0 b e ∙ last_none b ne)) (λ other. matched_none way 0 b other (ne_eqb b 0x1b ne))

-- a further 1b in the second way
still_four : (way b : ℕ) → way ≡ second_way → b ≡ 0x1b → 4 ≡ matched_behind way 4 b
still_four way b e esc = sym (second_matched way 4 b e ∙ ap (last_bytes 4) esc ∙ esc_four)

-- ---- a search

-- what is left of s behind k bytes of a search, with q matched
abbrev pub left_over : Decoder → ℕ → ℕ → List ℕ → ℕ → List ℕ → ℕ → ℕ → Took
left_over d noise n s i m k q = pushes_from (i + k) (moved_by d 0 k (LookingForMessageStart q (stopped (noise + (n + k - q))))) m (drop (i + k) s)

module _ (d : Decoder) (noise n : ℕ) (s : List ℕ) (i : ℕ) (w : unknown_way d.way ≡ false) (f : d.fill ≡ 0) (x : d.crc_idx ≡ 0) (c : d.crc ≡ 0xffff) (small : d.capacity ≤ 1048576) (m : List ℕ) (l : length m ≡ d.capacity) where
  one : (k k' q q' : ℕ) → k' ≡ k + 1 → i + k < length s → q < 8 → q ≤ n + k → q' ≡ matched_behind d.way q (get_or s (i + k) 0) → (q' ≡ 8 → ⊥)
      → left_over d noise n s i m k' q' ≡ left_over d noise n s i m k q
  one k k' q q' e h q8 qn z ne = rw e ((runs.search_next d noise n q q' s i k w f x c small h q8 qn z ne).2 m l)

  noise_run : (j k : ℕ) → i + (k + j) ≤ length s → Plain s (i + k) (i + (k + j)) → left_over d noise n s i m (k + j) 0 ≡ left_over d noise n s i m k 0
  noise_run zero k h p = rw (add-zero k)
  noise_run (suc j) k h p =
      one (k + j) (k + suc j) 0 0 (omega arith) (omega arith) (omega arith) (omega arith) (noise_none d.way (get_or s (i + (k + j)) 0) (p (i + (k + j)) (omega arith) (omega arith))) (λ v. omega arith)
      ∙ noise_run j k (omega arith) (λ y a b. p y a (omega arith))

  pub noise_to : (k r q : ℕ) → q ≡ 0 → i + k ≤ r → r ≤ length s → Plain s (i + k) r → left_over d noise n s i m (r - i) q ≡ left_over d noise n s i m k q
  noise_to k r q none h g p =
      let e : k + (r - (i + k)) ≡ r - i = omega arith in
      rw (none, ← e) (noise_run (r - (i + k)) k (omega arith) (λ y a b. p y a (omega arith)))

  five : (k : ℕ) → (d.way ≡ second_way → ⊥) → 4 ≤ n + k → i + (k + 5) ≤ length s → Escapes s (i + k) (i + (k + 5)) → left_over d noise n s i m (k + 5) 4 ≡ left_over d noise n s i m k 4
  five k other q h p =
      let b0 : get_or s (i + k) 0 ≡ 0x1b = p (i + k) (omega arith) (omega arith) in
      let b1 : get_or s (i + (k + 1)) 0 ≡ 0x1b = p (i + (k + 1)) (omega arith) (omega arith) in
      let b2 : get_or s (i + (k + 2)) 0 ≡ 0x1b = p (i + (k + 2)) (omega arith) (omega arith) in
      let b3 : get_or s (i + (k + 3)) 0 ≡ 0x1b = p (i + (k + 3)) (omega arith) (omega arith) in
      let b4 : get_or s (i + (k + 4)) 0 ≡ 0x1b = p (i + (k + 4)) (omega arith) (omega arith) in
      one (k + 4) (k + 5) 3 4 (omega arith) (omega arith) (omega arith) (omega arith) (matched_more d.way 3 (get_or s (i + (k + 4)) 0) other (eq-eqb _ 0x1b b4)) (λ v. omega arith)
      ∙ one (k + 3) (k + 4) 2 3 (omega arith) (omega arith) (omega arith) (omega arith) (matched_more d.way 2 (get_or s (i + (k + 3)) 0) other (eq-eqb _ 0x1b b3)) (λ v. omega arith)
      ∙ one (k + 2) (k + 3) 1 2 (omega arith) (omega arith) (omega arith) (omega arith) (matched_more d.way 1 (get_or s (i + (k + 2)) 0) other (eq-eqb _ 0x1b b2)) (λ v. omega arith)
      ∙ one (k + 1) (k + 2) 0 1 (omega arith) (omega arith) (omega arith) (omega arith) (matched_more d.way 0 (get_or s (i + (k + 1)) 0) other (eq-eqb _ 0x1b b1)) (λ v. omega arith)
      ∙ one k (k + 1) 4 0 refl (omega arith) (omega arith) q (matched_none d.way 4 (get_or s (i + k) 0) other (ne_eqb (get_or s (i + k) 0) 0x01 (λ v. omega arith))) (λ v. omega arith)

  fives_run : (j k : ℕ) → (d.way ≡ second_way → ⊥) → 4 ≤ n + k → i + (k + 5 * j) ≤ length s → Escapes s (i + k) (i + (k + 5 * j)) → left_over d noise n s i m (k + 5 * j) 4 ≡ left_over d noise n s i m k 4
  fives_run zero k other q h p = rw (add-zero k)
  fives_run (suc j) k other q h p =
      let e : k + 5 * suc j ≡ k + 5 * j + 5 = omega arith in
      rw e (five (k + 5 * j) other (omega arith) (omega arith) (λ y a b. p y (omega arith) (omega arith)))
      ∙ fives_run j k other q (omega arith) (λ y a b. p y a (omega arith))

  pub fives_to : (k r q : ℕ) → (d.way ≡ second_way → ⊥) → q ≡ 4 → q ≤ n + k → i + k ≤ r → r ≤ length s → (r - (i + k)) % 5 ≡ 0 → Escapes s (i + k) r → left_over d noise n s i m (r - i) q ≡ left_over d noise n s i m k q
  fives_to k r q other four le h g z p =
      let e : k + 5 * ((r - (i + k)) / 5) ≡ r - i = omega arith in
      rw (four, ← e) (fives_run ((r - (i + k)) / 5) k other (omega arith) (omega arith) (λ y a b. p y a (omega arith)))

  fours_run : (j k : ℕ) → d.way ≡ second_way → 4 ≤ n + k → i + (k + j) ≤ length s → Escapes s (i + k) (i + (k + j)) → left_over d noise n s i m (k + j) 4 ≡ left_over d noise n s i m k 4
  fours_run zero k second q h p = rw (add-zero k)
  fours_run (suc j) k second q h p =
      one (k + j) (k + suc j) 4 4 (omega arith) (omega arith) (omega arith) (omega arith) (still_four d.way (get_or s (i + (k + j)) 0) second (p (i + (k + j)) (omega arith) (omega arith))) (λ v. omega arith)
      ∙ fours_run j k second q (omega arith) (λ y a b. p y a (omega arith))

  pub fours_to : (k r q : ℕ) → d.way ≡ second_way → q ≡ 4 → q ≤ n + k → i + k ≤ r → r ≤ length s → Escapes s (i + k) r → left_over d noise n s i m (r - i) q ≡ left_over d noise n s i m k q
  fours_to k r q second four le h g p =
      let e : k + (r - (i + k)) ≡ r - i = omega arith in
      rw (four, ← e) (fours_run (r - (i + k)) k second (omega arith) (omega arith) (λ y a b. p y a (omega arith)))
