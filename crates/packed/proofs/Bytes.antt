-- Numbers in bytes, low byte first, and the state of a kind.
use mathlib.Core.Path.{◌≡◌, refl, sym, ◌∙◌}
use mathlib.Core.List.{List, append_assoc}
use Prim.Native.Nat.{ℕ, zero, suc, ◌+◌, ◌*◌, ◌%◌, ◌/◌, ◌≤◌}
use native.Mathlib.Omega.{arith}
use lib.ListN.{length, take, drop, get_or}
use lib.Seq.{sets, sets-eq, drop-drop}
use borrow.Rule.Slice.PartMut.{put_mid}
use Rattle.std.specs.Int.{byte_at, to_le_bytes, w64}
use Rattle.decoder.specs.declared.DecodeState.TheVariants.{Done}
use Rattle.decoder.specs.declared.Decoder.{Decoder}
use Rattle.packed.specs.Layout.{low_first, number_at_claim, head_of, counts_of, kind_no, small_count, noise_count, used_in, state_in, tidied, packed_bytes, packed_in}

-- what the exports add up of four bytes
pub four_at : (l : List ℕ) (at : ℕ) → get_or l at 0 + 256 * (get_or l (at + 1) 0 + 256 * (get_or l (at + 2) 0 + 256 * get_or l (at + 3) 0)) ≡ number_at_claim l at 4
unfolding number_at_claim
four_at l at =
    let one : at + 1 ≡ suc at = omega arith in
    let two : at + 2 ≡ suc (suc at) = omega arith in
    let three : at + 3 ≡ suc (suc (suc at)) = omega arith in
    rw (one, two, three) (omega arith)

-- what a copy over a part leaves
pub put_all : (l : List ℕ) (at k : ℕ) (ys vs : List ℕ) → ys ≡ vs → k ≡ length vs → at + k ≤ length l → put_mid at k l ys ≡ sets l at vs
put_all l at k ys vs e n h =
    let m : at + length vs ≤ length l = omega arith in
    rw (e, n, drop-drop (length vs) at l) (sym (sets-eq vs l at m ∙ append_assoc (take at l) vs (drop (at + length vs) l)))

-- four of a number's eight bytes
pub put_low : (l : List ℕ) (at x k : ℕ) → k ≡ 4 → at + 4 ≤ length l → put_mid at k l (take 4 (to_le_bytes w64 x)) ≡ sets l at (low_first 4 x)
unfolding low_first
put_low l at x k n h =
    let second : byte_at 1 x ≡ x / 256 % 256 = omega arith in
    let third : byte_at 2 x ≡ x / 256 / 256 % 256 = omega arith in
    let fourth : byte_at 3 x ≡ x / 256 / 256 / 256 % 256 = omega arith in
    put_all l at k (take 4 (to_le_bytes w64 x)) (low_first 4 x) (rw (second, third, fourth)) n (omega arith)

-- a kind over 3
pub state_over : (k n noise : ℕ) → (k ≡ 0 → ⊥) → (k ≡ 1 → ⊥) → (k ≡ 2 → ⊥) → (k ≡ 3 → ⊥) → Done ≡ state_in k n noise
unfolding state_in
state_over zero n noise a b c d = absurd (a refl)
state_over (suc zero) n noise a b c d = absurd (b refl)
state_over (suc (suc zero)) n noise a b c d = absurd (c refl)
state_over (suc (suc (suc zero))) n noise a b c d = absurd (d refl)
state_over (suc (suc (suc (suc k)))) n noise a b c d = refl

-- head and counts behind each other are the bytes of a record
pub put_record : (l : List ℕ) (d : Decoder) → 28 ≤ length l
    → sets (sets l 0 (head_of (kind_no d.state) (small_count d.state) d.way d.crc)) 8
    (counts_of d.fill (used_in d.state d.crc_idx) (used_in d.state d.raw_msg_len) (noise_count d.state) d.capacity)
    ≡ packed_in d l
unfolding low_first packed_bytes packed_in
put_record l d long = sets-eq (packed_bytes (tidied d)) l 0 long
