-- Packing again what bytes say: which of the bytes have to be looked at.
use mathlib.Core.Path.{◌≡◌, refl, sym, ◌∙◌}
use mathlib.Core.Bool.{Bool, true, false, cond, false≢true}
use mathlib.Core.List.{List, ◌∷◌, ◌++◌, append_assoc}
use Prim.Native.Nat.{ℕ, zero, suc, ◌+◌, ◌*◌, ◌%◌, ◌/◌, ◌<◌, ◌≤◌}
use native.Mathlib.Omega.{arith}
use native.Mathlib.Nat.{add-zero}
use lib.ListN.{length, drop, get_or}
use lib.Seq.{drop-cons}
use lib.Dec.{eqb}
use borrow.Author.Tests.{eq-eqb, ne_eqb, eqb-true, eqb-false}
use Rattle.frame.specs.Frame.{same}
use Rattle.frame.proofs.Same.{same_self}
use Rattle.decoder.specs.declared.DecodeState.{DecodeState}
use Rattle.decoder.specs.declared.DecodeState.TheVariants.{LookingForMessageStart, ParsingNormal, ParsingEscChars, ParsingEscPayload, Done}
use Rattle.decoder.specs.declared.Decoder.{Decoder}
use Rattle.decoder.proofs.Split.{cases}
use Rattle.packed.specs.Layout.{low_first, number_at_claim, kind_no, small_count, noise_count, used_in, state_in, packed_bytes, packed_in, record_in}

-- 256 to the k
unfoldable pub top : ℕ → ℕ
top zero = 1
top (suc k) = 256 * top k

low_and_high : (v g n : ℕ) (r : Bool) → g < 256 → cond (eqb (v % 256) g) (cond (eqb (v / 256) n) r false) false ≡ cond (eqb v (g + 256 * n)) r false
low_and_high v g n r small =
    cases (eqb v (g + 256 * n))
    (λ yes.
    let e : v ≡ g + 256 * n = eqb-true _ _ yes in
    let low : v % 256 ≡ g = omega arith in
    let high : v / 256 ≡ n = omega arith in
    rw (eq-eqb _ _ low, eq-eqb _ _ high, yes))
    (λ no.
    let e : v ≡ g + 256 * n → ⊥ = eqb-false _ _ no in
    cases (eqb (v % 256) g)
    (λ low.
    let l : v % 256 ≡ g = eqb-true _ _ low in
    let high : v / 256 ≡ n → ⊥ = λ h. e (omega arith) in
    rw (low, ne_eqb _ _ high, no))
    (λ low. rw (low, no)))

-- all but the last of the tests
pub record AsPacked (l : List ℕ) (d : Decoder) : Type 0 where
  pub kind : kind_no d.state ≡ get_or l 0 0
  pub count : small_count d.state ≡ get_or l 1 0
  pub third : get_or l 3 0 ≡ 0
  pub sixth : get_or l 6 0 ≡ 0
  pub seventh : get_or l 7 0 ≡ 0
  pub index : used_in d.state d.crc_idx ≡ d.crc_idx
  pub raw : used_in d.state d.raw_msg_len ≡ d.raw_msg_len

and_both : (a b : Bool) → cond a b false ≡ true → (a ≡ true) × (b ≡ true)
and_both true b e = (refl, e)
and_both false b e = absurd (false≢true e)

-- the bytes l, each below 256
module _ (l : List ℕ) (small : (i : ℕ) → get_or l i 0 < 256) where
  -- one byte against the one at i
  one_at : (i x : ℕ) (xs : List ℕ) → i < length l → same (x ∷ xs) (drop i l) ≡ cond (eqb x (get_or l i 0)) (same xs (drop (suc i) l)) false
  unfolding same
  one_at i x xs h = rw (drop-cons l i 0 h)

  -- the bytes of a number against those at i
  number_at : (k i v : ℕ) (xs : List ℕ) → i + k ≤ length l → v < top k
      → same (low_first k v ++ xs) (drop i l) ≡ cond (eqb v (number_at_claim l i k)) (same xs (drop (i + k) l)) false
  unfolding low_first number_at_claim top
  number_at zero i v xs h b =
      let z : v ≡ 0 = omega arith in
      rw (z, add-zero)
  number_at (suc k) i v xs h b =
      let here : i < length l = omega arith in
      let more : suc i + k ≤ length l = omega arith in
      let less : v / 256 < top k = omega arith in
      let next : suc i + k ≡ i + suc k = omega arith in
      rw (one_at i (v % 256) (low_first k (v / 256) ++ xs) here, number_at k (suc i) (v / 256) xs more less, next)
      (low_and_high v (get_or l i 0) (number_at_claim l (suc i) k) (same xs (drop (i + suc k) l)) (small i))

  pub number_under : (i k : ℕ) → number_at_claim l i k < top k
  unfolding number_at_claim top
  number_under i zero = omega arith
  number_under i (suc k) = omega (arith, small i, number_under (suc i) k)

  -- the 28 bytes of a record one behind another
  spread : (d : Decoder)
      → packed_in d l
      ≡ kind_no d.state ∷ small_count d.state ∷ d.way ∷ 0 ∷ (low_first 2 d.crc
      ++ (0 ∷ 0 ∷ (low_first 4 d.fill
      ++ (low_first 4 (used_in d.state d.crc_idx)
      ++ (low_first 4 (used_in d.state d.raw_msg_len) ++ (low_first 4 (noise_count d.state) ++ (low_first 4 d.capacity ++ drop 28 l)))))))
  unfolding packed_in packed_bytes
  spread d = simp append_assoc

  last_test : (t : Bool) → cond t true false ≡ t
  last_test true = refl
  last_test false = refl

  all_tests : (d : Decoder) → 28 ≤ length l → d.crc < top 2 → d.fill < top 4 → used_in d.state d.crc_idx < top 4 → used_in d.state d.raw_msg_len < top 4
      → noise_count d.state < top 4 → d.capacity < top 4
      → same (packed_in d l) l
      ≡ cond (eqb (kind_no d.state) (get_or l 0 0))
      (cond (eqb (small_count d.state) (get_or l 1 0))
      (cond (eqb d.way (get_or l 2 0))
      (cond (eqb 0 (get_or l 3 0))
      (cond (eqb d.crc (number_at_claim l 4 2))
      (cond (eqb 0 (get_or l 6 0))
      (cond (eqb 0 (get_or l 7 0))
      (cond (eqb d.fill (number_at_claim l 8 4))
      (cond (eqb (used_in d.state d.crc_idx) (number_at_claim l 12 4))
      (cond (eqb (used_in d.state d.raw_msg_len) (number_at_claim l 16 4))
      (cond (eqb (noise_count d.state) (number_at_claim l 20 4)) (eqb d.capacity (number_at_claim l 24 4)) false)
      false)
      false)
      false)
      false)
      false)
      false)
      false)
      false)
      false)
      false
  all_tests d long b4 b8 b12 b16 b20 b24 =
      let h0 : 0 < length l = omega arith in
      let h1 : 1 < length l = omega arith in
      let h2 : 2 < length l = omega arith in
      let h3 : 3 < length l = omega arith in
      let h4 : 4 + 2 ≤ length l = omega arith in
      let h6 : 6 < length l = omega arith in
      let h7 : 7 < length l = omega arith in
      let h8 : 8 + 4 ≤ length l = omega arith in
      let h12 : 12 + 4 ≤ length l = omega arith in
      let h16 : 16 + 4 ≤ length l = omega arith in
      let h20 : 20 + 4 ≤ length l = omega arith in
      let h24 : 24 + 4 ≤ length l = omega arith in
      rw
      (spread d, one_at 0, one_at 1, one_at 2, one_at 3, number_at 2 4, one_at 6, one_at 7, number_at 4 8, number_at 4 12, number_at 4 16, number_at 4 20, number_at 4 24, same_self (drop 28 l), last_test)

  used_below : (s : DecodeState) (v : ℕ) → v < top 4 → used_in s v < top 4
  unfolding top
  used_below (LookingForMessageStart n noise) v h = h
  used_below ParsingNormal v h = h
  used_below (ParsingEscChars n) v h = h
  used_below (ParsingEscPayload n) v h = h
  used_below Done v h = omega arith

  pub noise_below : (k n v : ℕ) → v < top 4 → noise_count (state_in k n v) < top 4
  unfolding state_in top
  noise_below zero n v h = h
  noise_below (suc zero) n v h = omega arith
  noise_below (suc (suc zero)) n v h = omega arith
  noise_below (suc (suc (suc zero))) n v h = omega arith
  noise_below (suc (suc (suc (suc k)))) n v h = omega arith

  -- the bytes that have to be looked at
  unfoldable pub as_packed : Decoder → Bool
  as_packed d =
      cond (eqb (kind_no d.state) (get_or l 0 0))
      (cond (eqb (small_count d.state) (get_or l 1 0))
      (cond (eqb 0 (get_or l 3 0))
      (cond (eqb 0 (get_or l 6 0))
      (cond (eqb 0 (get_or l 7 0))
      (cond (eqb (used_in d.state d.crc_idx) d.crc_idx)
      (cond (eqb (used_in d.state d.raw_msg_len) d.raw_msg_len) (eqb (noise_count d.state) (number_at_claim l 20 4)) false)
      false)
      false)
      false)
      false)
      false)
      false

  as_record : 28 ≤ length l → same (packed_in (record_in l) l) l ≡ as_packed (record_in l)
  unfolding record_in as_packed
  as_record long =
      let state = state_in (get_or l 0 0) (get_or l 1 0) (number_at_claim l 20 4) in
      all_tests (record_in l) long (number_under 4 2) (number_under 8 4) (used_below state (number_at_claim l 12 4) (number_under 12 4))
      (used_below state (number_at_claim l 16 4) (number_under 16 4))
      (noise_below (get_or l 0 0) (get_or l 1 0) (number_at_claim l 20 4) (number_under 20 4))
      (number_under 24 4)
      ∙ simp
      (eq-eqb (get_or l 2 0) (get_or l 2 0) refl, eq-eqb (number_at_claim l 4 2) (number_at_claim l 4 2) refl, eq-eqb (number_at_claim l 8 4) (number_at_claim l 8 4) refl, eq-eqb (number_at_claim l 24 4) (number_at_claim l 24 4) refl, last_test)

-- packing again what bytes say gives these bytes exactly if those that have to be looked at are as they should
module _ (l : List ℕ) (small : (i : ℕ) → get_or l i 0 < 256) (d : Decoder) (long : 28 ≤ length l) (is : d ≡ record_in l) where
  pub packs_again : same (packed_in d l) l ≡ as_packed l small d
  packs_again = rw is (as_record l small long)

  pub noise_left : AsPacked l d → eqb (noise_count d.state) (number_at_claim l 20 4) ≡ same (packed_in d l) l
  unfolding as_packed
  noise_left p =
      sym (packs_again ∙ simp (eq-eqb _ _ p.kind, eq-eqb _ _ p.count, eq-eqb _ _ (sym p.third), eq-eqb _ _ (sym p.sixth), eq-eqb _ _ (sym p.seventh), eq-eqb _ _ p.index, eq-eqb _ _ p.raw))

  pub not_packing : (AsPacked l d → ⊥) → false ≡ same (packed_in d l) l
  unfolding as_packed
  not_packing n =
      cases (same (packed_in d l) l)
      (λ t.
      let e : as_packed l small d ≡ true = sym packs_again ∙ t in
      let k = and_both _ _ e in
      let c = and_both _ _ k.1 in
      let third = and_both _ _ c.1 in
      let sixth = and_both _ _ third.1 in
      let seventh = and_both _ _ sixth.1 in
      let index = and_both _ _ seventh.1 in
      let raw = and_both _ _ index.1 in
      absurd
      (n
      (record {
        kind = eqb-true _ _ k.0;
        count = eqb-true _ _ c.0;
        third = sym (eqb-true _ _ third.0);
        sixth = sym (eqb-true _ _ sixth.0);
        seventh = sym (eqb-true _ _ seventh.0);
        index = eqb-true _ _ index.0;
        raw = eqb-true _ _ raw.0;
      })))
      sym
