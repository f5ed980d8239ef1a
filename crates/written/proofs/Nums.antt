-- Numbers as written: read back at every width that holds them, and in the fewest bytes.
use mathlib.Core.Path.{◌≡◌, refl, ap, ◌∙◌}
use mathlib.Core.Bool.{Bool, true, false, cond, not}
use Prim.Native.Nat.{ℕ, zero, suc, ◌*◌, ◌/◌, ◌^◌, ◌-◌, ◌≤◌, ◌<◌}
use native.Mathlib.Nat.{pow-suc, pow-succ', one-le-pow, div-div-eq-div-mul, div-eq_of_lt}
use native.Mathlib.Omega.{arith}
use lib.ListN.{length}
use lib.Dec.{ltb, eqb, lit<}
use lib.IntN.{ℤ, pos, negsuc}
use lib.Signed.{mag}
use borrow.Author.Tests.{ltb-true, lt-ltb, le-ltb}
use Rattle.tlf.specs.Lengths.{tlf_at}
use Rattle.tlf.specs.declared.Ty.{Ty}
use Rattle.tlf.specs.declared.Ty.TheVariants.{Boolean, Integer, Unsigned}
use Rattle.refusals.proofs.Rest.{Reads, Is}
use Rattle.numbers.specs.Numbers.{number, unsigned_at, signed_of, signed_at, bool_at}
use Rattle.numbers.proofs.Gets.{unsigned_reads, signed_reads, bool_reads}
use Rattle.writer.specs.Fields.{write_tlf, in_bytes, signed_count, low_bytes, write_unsigned, write_signed, write_bool}
use Rattle.byte_count.specs.Count.{unsigned_count}
use Rattle.byte_count.proofs.Least.{Least, first_that_is}
use Rattle.byte_count.proofs.Bytes.{count_least}
use Rattle.numbers.proofs.Numbers.{pow_up}
use Rattle.writer.proofs.Bounds.{bytes_length}
use Rattle.written.proofs.Short.{reads_weak}
use Rattle.written.proofs.Lens.{tlf_reads, not_so, NotOne, tlf_not_one}

bytes_number : (n v : ℕ) → number (v / 256 ^ n) (in_bytes n v) ≡ v
unfolding number in_bytes
bytes_number zero v = omega arith
bytes_number (suc k) v =
    let e : v / 256 ^ suc k ≡ v / 256 ^ k / 256 = rw (pow-suc 256 k, div-div-eq-div-mul) in
    ap (λ (x : ℕ). number x (in_bytes k v)) (omega arith) ∙ bytes_number k v

pub bytes_of_back : (n v : ℕ) → v < 256 ^ n → number 0 (in_bytes n v) ≡ v
bytes_of_back n v h = rw (div-eq_of_lt h) at (bytes_number n v)

-- a number that some width up to eight holds
pub unsigned_count_lem : (v w : ℕ) → w ≤ 8 → v < 256 ^ w → Least (λ n. ltb v (256 ^ n)) 1 9 (unsigned_count v)
unsigned_count_lem v w high h = count_least v (omega (arith, h, pow_up w 8 high))

pub signed_count_lem : (z : ℤ) (w : ℕ) → 1 ≤ w → w ≤ 8 → mag z < 256 ^ w / 2 → Least (λ n. ltb (mag z) (256 ^ n / 2)) 1 9 (signed_count z)
unfolding signed_count
signed_count_lem z w low high h = first_that_is 8 1 (λ n. ltb (mag z) (256 ^ n / 2)) w low (omega arith) (lt-ltb (mag z) (256 ^ w / 2) h)

-- the length bytes of n bytes of a number
pub number_tlf : (n v : ℕ) (ty : Ty) → Reads tlf_at (Is (record { ty = ty; len = n })) (write_tlf ty n) → Reads tlf_at (Is (record { ty = ty; len = length (in_bytes n v) })) (write_tlf ty n)
number_tlf n v ty r = rw (bytes_length n v) r

pub unsigned_tlf : (w v : ℕ) → 1 ≤ w → w ≤ 8 → v < 256 ^ w → Reads tlf_at (Is (record { ty = Unsigned; len = unsigned_count v })) (write_tlf Unsigned (unsigned_count v))
unsigned_tlf w v low high h = let c = unsigned_count_lem v w high h in tlf_reads Unsigned (unsigned_count v) (omega (arith, c.below)) not_so

pub signed_tlf : (w : ℕ) (z : ℤ) → 1 ≤ w → w ≤ 8 → mag z < 256 ^ w / 2 → Reads tlf_at (Is (record { ty = Integer; len = signed_count z })) (write_tlf Integer (signed_count z))
signed_tlf w z low high h = let c = signed_count_lem z w low high h in tlf_reads Integer (signed_count z) (omega (arith, c.below)) not_so

-- an unsigned number, at every width that holds it
pub written_unsigned : (w v : ℕ) → 1 ≤ w → w ≤ 8 → v < 256 ^ w → Reads (unsigned_at w) (Is v) (write_unsigned v)
unfolding write_unsigned
written_unsigned w v low high h =
    let c = unsigned_count_lem v w high h in
    let n = unsigned_count v in
    let e = bytes_length n v in
    reads_weak (λ s a q. q ∙ bytes_of_back n v (ltb-true _ _ c.holds))
    (unsigned_reads w (in_bytes n v) (omega (arith, e, c.from)) (omega (arith, e, c.least w low (lt-ltb v (256 ^ w) h))) (number_tlf n v Unsigned (unsigned_tlf w v low high h)))

sign_back : (n : ℕ) (z : ℤ) → 1 ≤ n → mag z < 256 ^ n / 2 → signed_of n (low_bytes n z) ≡ z
unfolding signed_of low_bytes
sign_back zero z low h = absurd (omega arith)
sign_back (suc n) (pos v) low h = rw (lt-ltb (2 * v) (256 ^ suc n) (omega (arith, pow-succ' 256 n, one-le-pow n 256 (lit< tt))))
sign_back (suc n) (negsuc k) low h =
    let e : 256 ^ suc n - 1 - (256 ^ suc n - 1 - k) ≡ k = omega (arith, pow-succ' 256 n) in
    rw (le-ltb (2 * (256 ^ suc n - 1 - k)) (256 ^ suc n) (omega (arith, pow-succ' 256 n)), e)

low_small : (n : ℕ) (z : ℤ) → mag z < 256 ^ n / 2 → low_bytes n z < 256 ^ n
unfolding low_bytes
low_small n (pos v) h = omega arith
low_small n (negsuc k) h = omega arith

-- a signed number, at every width that holds it
pub written_signed : (w : ℕ) (z : ℤ) → 1 ≤ w → w ≤ 8 → mag z < 256 ^ w / 2 → Reads (signed_at w) (Is z) (write_signed z)
unfolding write_signed
written_signed w z low high h =
    let c = signed_count_lem z w low high h in
    let n = signed_count z in
    let v = low_bytes n z in
    let f : mag z < 256 ^ n / 2 = ltb-true _ _ c.holds in
    let e = bytes_length n v in
    reads_weak (λ s a q. q ∙ (rw (e, bytes_of_back n v (low_small n z f)) (sign_back n z c.from f)))
    (signed_reads w (in_bytes n v) (omega (arith, e, c.from)) (omega (arith, e, c.least w low (lt-ltb (mag z) (256 ^ w / 2) h))) (number_tlf n v Integer (signed_tlf w z low high h)))

truth_back : (b : Bool) → not (eqb (cond b 0x01 0x00) 0) ≡ b
truth_back true = refl
truth_back false = refl

pub bool_tlf : Reads tlf_at (Is (record { ty = Boolean; len = 1 })) (write_tlf Boolean 1)
bool_tlf = tlf_reads Boolean 1 (omega arith) (λ e. omega arith)

pub written_bool : (b : Bool) → Reads bool_at (Is b) (write_bool b)
unfolding write_bool
written_bool b = reads_weak (λ s a q. q ∙ truth_back b) (bool_reads (cond b 0x01 0x00) bool_tlf)

pub unsigned_not_one : (w v : ℕ) → 1 ≤ w → w ≤ 8 → v < 256 ^ w → NotOne (write_unsigned v)
unfolding write_unsigned
unsigned_not_one w v low high h = let c = unsigned_count_lem v w high h in tlf_not_one Unsigned (unsigned_count v) _ (omega (arith, c.below)) (omega arith)

pub signed_not_one : (w : ℕ) (z : ℤ) → 1 ≤ w → w ≤ 8 → mag z < 256 ^ w / 2 → NotOne (write_signed z)
unfolding write_signed
signed_not_one w z low high h = let c = signed_count_lem z w low high h in tlf_not_one Integer (signed_count z) _ (omega (arith, c.below)) (omega arith)
