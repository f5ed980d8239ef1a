-- Why bits may go through the register several at a time: what stands above those that go out is only moved down. Four bits by the table, four bytes or eight as one number.
use Prim.Native.Nat.{ℕ, zero, suc, ◌+◌, ◌*◌, ◌/◌, ◌%◌, ◌^◌, ◌<◌}
use mathlib.Core.List.{List, [], ◌∷◌, ◌++◌}
use mathlib.Core.Bool.{Bool, true, false, cond}
use mathlib.Core.Path.{◌≡◌, refl, sym, ap, ap₂, ◌∙◌}
use native.Mathlib.Omega.{arith}
use native.Mathlib.Nat.{mod-lt, div-add-mod', zero-lt-suc, mul-one, zero-add, suc-add, add-zero, add-suc, le_of_suc-le-suc, not-suc-le-zero}
use lib.Bits.{bit_xor, xor_comm, xor_shifted, shifted_half, shifted_even}
use lib.Dec.{eqb}
use lib.ListN.{length, get_or, take, drop}
use Rattle.std.specs.Int.{from_le_bytes}
use Rattle.std.specs.List.{concat}
use Rattle.std.specs.Simd.{first_chunks}
use Rattle.std.proofs.Common.{w64}
use Rattle.std.proofs.Math.Nat.{zero-mul}
use Rattle.std.proofs.lemmas.List.{append-nil, append_assoc, drop-drop, take-append-drop, take_more}
use Rattle.std.proofs.lemmas.List.Folds.{concat-append}
use Rattle.crc_x25.specs.Crc.{reflect, polynomial, bit_step, bit_steps, byte_step, register}
use Rattle.crc_x25.specs.Table.{table_from, table}
use Rattle.crc_x25.specs.declared.TheConstants.{TABLE}
use Rattle.std.specs.Int.Bits.{xor_assoc}
use Rattle.std.proofs.lemmas.Nat.{xor_shr, xor_mod}
use Rattle.crc_x25.proofs.Laws.{register_append, register_one}

-- ---- what stands above comes down

chosen_under : (p : Bool) (h q x : ℕ) → cond p (bit_xor (bit_xor h q) x) (bit_xor h q) ≡ bit_xor h (cond p (bit_xor q x) q)
chosen_under true h q x = xor_assoc h q x
chosen_under false h q x = refl

bit_under : (h k l : ℕ) → bit_step (bit_xor (h * 2 ^ suc k) l) ≡ bit_xor (h * 2 ^ k) (bit_step l)
unfolding bit_step
bit_under h k l =
    ap₂ (λ (q m : ℕ). cond (eqb m 1) (bit_xor q polynomial) q)
    (xor_shr (h * 2 ^ suc k) l 1 ∙ ap (λ (x : ℕ). bit_xor x (l / 2)) (shifted_half h k))
    (xor_mod (h * 2 ^ suc k) l 1 ∙ ap (λ (x : ℕ). bit_xor x (l % 2)) (shifted_even h k))
    ∙ chosen_under (eqb (l % 2) 1) (h * 2 ^ k) (l / 2) polynomial

bits_under : (k h l : ℕ) → bit_steps k (bit_xor (h * 2 ^ k) l) ≡ bit_xor h (bit_steps k l)
unfolding bit_steps
bits_under zero h l = rw mul-one
bits_under (suc k) h l = ap (bit_steps k) (bit_under h k l) ∙ bits_under k h (bit_step l)

pub bits_more : (m n r : ℕ) → bit_steps n (bit_steps m r) ≡ bit_steps (m + n) r
unfolding bit_steps
bits_more zero n r = rw zero-add
bits_more (suc m) n r = bits_more m n (bit_step r) ∙ sym (rw suc-add)

-- ---- four bits, by the table

table_entry : (n i k : ℕ) → k < n → get_or (table_from n i) k 0 ≡ bit_steps 4 (i + k)
unfolding table_from
table_entry zero i k h = absurd (not-suc-le-zero h)
table_entry (suc n) i zero h = ap (bit_steps 4) (sym (add-zero i))
table_entry (suc n) i (suc k) h = table_entry n (suc i) k (le_of_suc-le-suc h) ∙ ap (bit_steps 4) (suc-add i k ∙ sym (add-suc i k))

-- the sixteen numbers of the code are the table's
table_is : TABLE ≡ table
unfolding reflect polynomial bit_step bit_steps table_from table
table_is = refl

pub by_table : (r : ℕ) → bit_xor (r / 16) (get_or TABLE (r % 16) 0) ≡ bit_steps 4 r
unfolding table
by_table r =
    let low : r % 16 < 16 = mod-lt r (zero-lt-suc 15) in
    ap (λ (l : List ℕ). bit_xor (r / 16) (get_or l (r % 16) 0)) table_is
    ∙ ap (bit_xor (r / 16)) (table_entry 16 0 (r % 16) low ∙ ap (bit_steps 4) (zero-add (r % 16)))
    ∙ sym (bits_under 4 (r / 16) (r % 16))
    ∙ ap (bit_steps 4) (xor_shifted (r / 16) 4 (r % 16) low ∙ div-add-mod' r 16)

-- ---- bytes, as one number

-- the byte a, with w above it
above : (r a w : ℕ) → a < 256 → bit_xor r (a + w * 256) ≡ bit_xor (w * 2 ^ 8) (bit_xor r a)
above r a w h =
    let sum : a + w * 256 ≡ w * 2 ^ 8 + a = omega arith in
    ap (bit_xor r) (sum ∙ sym (xor_shifted w 8 a h) ∙ xor_comm (w * 2 ^ 8) a)
    ∙ sym (xor_assoc r a (w * 2 ^ 8))
    ∙ xor_comm (bit_xor r a) (w * 2 ^ 8)

byte_out : (k r a w : ℕ) → a < 256 → bit_steps (8 + k) (bit_xor r (a + w * 256)) ≡ bit_steps k (bit_xor (byte_step r a) w)
unfolding byte_step
byte_out k r a w h =
    ap (bit_steps (8 + k)) (above r a w h)
    ∙ sym (bits_more 8 k (bit_xor (w * 2 ^ 8) (bit_xor r a)))
    ∙ ap (bit_steps k) (bits_under 8 w (bit_xor r a) ∙ xor_comm w (bit_steps 8 (bit_xor r a)))

pub byte_is_lem : (r b : ℕ) → bit_steps 8 (bit_xor r b) ≡ byte_step r b
unfolding byte_step
byte_is_lem r b = refl

pub bytes_out : (r a b c d : ℕ) → a < 256 → b < 256 → c < 256
    → bit_steps 32 (bit_xor r (a + (b + (c + d * 256) * 256) * 256)) ≡ byte_step (byte_step (byte_step (byte_step r a) b) c) d
bytes_out r a b c d ha hb hc =
    byte_out 24 r a (b + (c + d * 256) * 256) ha
    ∙ byte_out 16 (byte_step r a) b (c + d * 256) hb
    ∙ byte_out 8 (byte_step (byte_step r a) b) c d hc
    ∙ byte_is_lem (byte_step (byte_step (byte_step r a) b) c) d

as_one : (r : ℕ) (s : List ℕ) → length s ≡ 8 → ((i : ℕ) → get_or s i 0 < 256) → bit_steps 64 (bit_xor r (from_le_bytes w64 s)) ≡ register r s
unfolding register byte_step
as_one r (a ∷ b ∷ c ∷ d ∷ e ∷ f ∷ g ∷ h ∷ []) n fits =
    let one_number : from_le_bytes w64 (a ∷ b ∷ c ∷ d ∷ e ∷ f ∷ g ∷ h ∷ []) ≡ a + (b + (c + (d + (e + (f + (g + h * 256) * 256) * 256) * 256) * 256) * 256) * 256 = omega arith in
    ap (λ (w : ℕ). bit_steps 64 (bit_xor r w)) one_number
    ∙ byte_out 56 r a (b + (c + (d + (e + (f + (g + h * 256) * 256) * 256) * 256) * 256) * 256) (fits 0)
    ∙ byte_out 48 (byte_step r a) b (c + (d + (e + (f + (g + h * 256) * 256) * 256) * 256) * 256) (fits 1)
    ∙ byte_out 40 (byte_step (byte_step r a) b) c (d + (e + (f + (g + h * 256) * 256) * 256) * 256) (fits 2)
    ∙ byte_out 32 (byte_step (byte_step (byte_step r a) b) c) d (e + (f + (g + h * 256) * 256) * 256) (fits 3)
    ∙ byte_out 24 (byte_step (byte_step (byte_step (byte_step r a) b) c) d) e (f + (g + h * 256) * 256) (fits 4)
    ∙ byte_out 16 (byte_step (byte_step (byte_step (byte_step (byte_step r a) b) c) d) e) f (g + h * 256) (fits 5)
    ∙ byte_out 8 (byte_step (byte_step (byte_step (byte_step (byte_step (byte_step r a) b) c) d) e) f) g h (fits 6)
as_one r [] n fits = absurd (omega arith)
as_one r (a ∷ []) n fits = absurd (omega arith)
as_one r (a ∷ b ∷ []) n fits = absurd (omega arith)
as_one r (a ∷ b ∷ c ∷ []) n fits = absurd (omega arith)
as_one r (a ∷ b ∷ c ∷ d ∷ []) n fits = absurd (omega arith)
as_one r (a ∷ b ∷ c ∷ d ∷ e ∷ []) n fits = absurd (omega arith)
as_one r (a ∷ b ∷ c ∷ d ∷ e ∷ f ∷ []) n fits = absurd (omega arith)
as_one r (a ∷ b ∷ c ∷ d ∷ e ∷ f ∷ g ∷ []) n fits = absurd (omega arith)
as_one r (a ∷ b ∷ c ∷ d ∷ e ∷ f ∷ g ∷ h ∷ x ∷ s) n fits = absurd (omega arith)

-- eight bits at a time
pub eight_more : (k x r : ℕ) → x ≡ bit_steps (8 * k) r → bit_steps 8 x ≡ bit_steps (8 * (k + 1)) r
eight_more k x r e = let n : 8 * k + 8 ≡ 8 * (k + 1) = omega arith in ap (bit_steps 8) e ∙ bits_more (8 * k) 8 r ∙ ap (λ (m : ℕ). bit_steps m r) n

pub eight_out : (r x k w : ℕ) (s : List ℕ) → length s ≡ 8 → ((i : ℕ) → get_or s i 0 < 256) → w ≡ from_le_bytes w64 s → 8 ≡ k → x ≡ bit_steps (8 * k) (bit_xor r w) → x ≡ register r s
eight_out r x k w s n fits e f h = h ∙ ap (λ (m : ℕ). bit_steps (8 * m) (bit_xor r w)) (sym f) ∙ ap (λ (w : ℕ). bit_steps 64 (bit_xor r w)) e ∙ as_one r s n fits

rest_more : (n k : ℕ) (s : List ℕ) → drop (suc k * n) s ≡ drop (k * n) (drop n s)
rest_more n k s = let e : n + k * n ≡ suc k * n = omega arith in sym (drop-drop (k * n) n s ∙ ap (λ (m : ℕ). drop m s) e)

-- chunks of n bytes, one behind the other, and the rest are all
chunks_are : (n k : ℕ) (s : List ℕ) → concat (first_chunks n k s) ++ drop (k * n) s ≡ s
chunks_are n zero s = rw zero-mul
chunks_are n (suc k) s =
    append_assoc (take n s) (concat (first_chunks n k (drop n s))) (drop (suc k * n) s)
    ∙ ap (λ (t : List ℕ). take n s ++ t) (ap (λ (t : List ℕ). concat (first_chunks n k (drop n s)) ++ t) (rest_more n k s) ∙ chunks_are n k (drop n s))
    ∙ take-append-drop n s

pub in_chunks : (r : ℕ) (s : List ℕ) (n k : ℕ) → register (register r (concat (first_chunks n k s))) (drop (k * n) s) ≡ register r s
in_chunks r s n k = sym (register_append r (concat (first_chunks n k s)) (drop (k * n) s)) ∙ ap (register r) (chunks_are n k s)

-- the register behind one more byte, and behind one more chunk
pub register_more : (r : ℕ) (s : List ℕ) (i : ℕ) → i < length s → register r (take (i + 1) s) ≡ byte_step (register r (take i s)) (get_or s i 0)
register_more r s i h = ap (register r) (take_more s i 0 h) ∙ register_append r (take i s) (get_or s i 0 ∷ []) ∙ register_one (register r (take i s)) (get_or s i 0)

pub chunk_more : (r : ℕ) (ss : List (List ℕ)) (i : ℕ) (d : List ℕ) → i < length ss → register r (concat (take (i + 1) ss)) ≡ register (register r (concat (take i ss))) (get_or ss i d)
chunk_more r ss i d h =
    ap (λ (t : List (List ℕ)). register r (concat t)) (take_more ss i d h)
    ∙ ap (register r) (concat-append (take i ss) (get_or ss i d ∷ []) ∙ ap (λ (t : List ℕ). concat (take i ss) ++ t) (append-nil (get_or ss i d)))
    ∙ register_append r (concat (take i ss)) (get_or ss i d)
