-- Fewest bytes: whatever is read as a number or as a type and length is no shorter than what is written for it.
use mathlib.Core.Path.{◌≡◌, refl, sym}
use mathlib.Core.List.{List, [], ◌∷◌}
use mathlib.Core.Bool.{Bool, true, false}
use Prim.Native.Nat.{ℕ, suc, ◌+◌, ◌/◌, ◌%◌, ◌^◌, ◌-◌, ◌≤◌, ◌<◌}
use native.Mathlib.Nat.{pow-suc}
use native.Mathlib.Omega.{arith}
use lib.ListN.{length, drop, length-append}
use lib.IntN.{ℤ}
use lib.Signed.{mag}
use borrow.Author.Tests.{lt-ltb, leb-true}
use Rattle.refusals.specs.Read.{got}
use Rattle.tlf.specs.Lengths.{tlf_at, length_from, less_own, longer, more_follow}
use Rattle.tlf.specs.declared.Ty.{Ty}
use Rattle.tlf.specs.declared.Ty.TheVariants.{OctetString, Boolean, Integer, Unsigned, ListOf}
use Rattle.tlf.specs.declared.TypeLengthField.{TypeLengthField}
use Rattle.refusals.proofs.Read.{Ok, ok_at, ok_got, ok_then, ok_guard, ok_cond, ok_weak, ok_need, byte_ok}
use Rattle.tlf.proofs.Lengths.{tlf_ok, tlf_small}
use Rattle.tlf.specs.Written.{total}
use Rattle.numbers.specs.Numbers.{Raw, raw_from, raw_at, unsigned_at, signed_at}
use Rattle.numbers.proofs.Numbers as N
use Rattle.numbers.proofs.Numbers.{RawOk, bytes_ok, fits_low, fits_high, sign_lt}
use Rattle.written.specs.Fits.{OnlyBytes}
use Rattle.writer.specs.Fields.{write_tlf, in_bytes, signed_count, low_bytes, write_unsigned, write_signed}
use Rattle.byte_count.specs.Count.{unsigned_count}
use Rattle.writer.proofs.Bounds.{bytes_length}
use Rattle.writer.proofs.Numbers.{total_le}
use Rattle.written.proofs.Lens.{length_count_by, length_count_is, tlf_length}
use Rattle.written.proofs.Nums.{unsigned_count_lem, signed_count_lem}

-- the bytes of a number stand behind a length byte at least
record TookBytes (width at : ℕ) (r : Raw) (next : ℕ) : Type 0 where
  ok : RawOk r.len r
  wide : r.len ≤ width
  long : at + 1 + r.len ≤ next

raw_took : (signed : Bool) (width : ℕ) (s : List ℕ) (at : ℕ) → N.Bytes s → Ok (λ r n. TookBytes width at r n) (raw_at signed width s at)
unfolding raw_at raw_from
raw_took signed width s at h =
    ok_then _ _ (tlf_ok s at) (λ t m a. ok_guard _ _ _ (λ e.
    ok_then _ _ (bytes_ok s m t.len h) (λ v end b.
    let i = b.1 in
    ok_got _ _ (record { ok = record { low = fits_low signed width t e; high = omega arith; small = b.0 }; wide = fits_high signed width t e; long = omega (arith, a.ahead, i) }))))

-- k bytes hold v, and stand behind a length byte
record HeldByBytes (width at next : ℕ) (P : ℕ → Type 0) : Type 0 where
  count : ℕ
  some : 1 ≤ count
  wide : count ≤ width
  long : at + 1 + count ≤ next
  holds : P count

unsigned_took : (width : ℕ) (s : List ℕ) (at : ℕ) → N.Bytes s → Ok (λ v n. HeldByBytes width at n (λ k. v < 256 ^ k)) (unsigned_at width s at)
unfolding unsigned_at
unsigned_took width s at h =
    ok_then _ _ (raw_took false width s at h) (λ r n q. let o = q.ok in ok_got _ _ (record { count = r.len; some = o.low; wide = q.wide; long = q.long; holds = o.small }))

signed_took : (width : ℕ) (s : List ℕ) (at : ℕ) → N.Bytes s → Ok (λ z n. HeldByBytes width at n (λ k. mag z < 256 ^ k / 2)) (signed_at width s at)
unfolding signed_at
signed_took width s at h =
    ok_then _ _ (raw_took true width s at h) (λ r n q. let o = q.ok in ok_got _ _ (record { count = r.len; some = o.low; wide = q.wide; long = q.long; holds = sign_lt o }))

-- up to 14 bytes have one length byte
one_length : (ty : Ty) (len : ℕ) → len ≤ 14 → length (write_tlf ty len) ≡ 1
one_length ty len h =
    let c = length_count_is ty len (omega arith) in
    omega (arith, tlf_length ty len, c.from, c.least 1 (omega arith) (lt-ltb (total ty len 1) 16 (omega (arith, total_le ty len 1))))

pub unsigned_length : (w v : ℕ) → 1 ≤ w → w ≤ 8 → v < 256 ^ w → length (write_unsigned v) ≡ 1 + unsigned_count v
unfolding write_unsigned
unsigned_length w v low high h =
    let n = unsigned_count v in
    let c = unsigned_count_lem v w high h in
    omega (arith, length-append (write_tlf Unsigned n) (in_bytes n v), one_length Unsigned n (omega (arith, c.below)), bytes_length n v)

pub signed_length : (w : ℕ) (z : ℤ) → 1 ≤ w → w ≤ 8 → mag z < 256 ^ w / 2 → length (write_signed z) ≡ 1 + signed_count z
unfolding write_signed
signed_length w z low high h =
    let n = signed_count z in
    let c = signed_count_lem z w low high h in
    omega (arith, length-append (write_tlf Integer n) (in_bytes n (low_bytes n z)), one_length Integer n (omega (arith, c.below)), bytes_length n (low_bytes n z))

pub bytes_of : {b : List ℕ} → OnlyBytes b → N.Bytes b
bytes_of h = λ j. record { fits = h.byte j }

-- what is read as v, wherever it stands, is no shorter than what is written for v
pub fewest_unsigned : (w v : ℕ) (s : List ℕ) (at n : ℕ) → w ≤ 8 → OnlyBytes s → unsigned_at w s at ≡ got v n → at + length (write_unsigned v) ≤ n
fewest_unsigned w v s at n high h e =
    let q = ok_at (sym e) (unsigned_took w s at (bytes_of h)) in
    let c = unsigned_count_lem v q.count (omega (arith, q.wide)) q.holds in
    omega (arith, unsigned_length q.count v q.some (omega (arith, q.wide)) q.holds, q.long, c.least q.count q.some (lt-ltb v (256 ^ q.count) q.holds))

pub fewest_signed : (w : ℕ) (z : ℤ) (s : List ℕ) (at n : ℕ) → w ≤ 8 → OnlyBytes s → signed_at w s at ≡ got z n → at + length (write_signed z) ≤ n
fewest_signed w z s at n high h e =
    let q = ok_at (sym e) (signed_took w s at (bytes_of h)) in
    let c = signed_count_lem z q.count q.some (omega (arith, q.wide)) q.holds in
    omega (arith, signed_length q.count z q.some (omega (arith, q.wide)) q.holds, q.long, c.least q.count q.some (lt-ltb (mag z) (256 ^ q.count / 2) q.holds))

-- a length that `more` further bytes end: k bytes before them held what was read before
record LengthFilled (k i v next : ℕ) : Type 0 where
  more : ℕ
  place : next ≡ i + more
  small : v < 16 ^ (k + more)

longer_small : (len b k : ℕ) → len < 16 ^ k → longer len b < 16 ^ suc k
longer_small len b k h = omega (arith, pow-suc 16 k)

filled_now : (k i len : ℕ) → len < 16 ^ k → LengthFilled k i len i
filled_now k i len h = let x : k + 0 ≡ k = omega arith in record { more = 0; place = omega arith; small = rw x h }

length_filled : (end start : ℕ) (bs : List ℕ) (i : ℕ) (more : Bool) (len k : ℕ) → len < 16 ^ k → Ok (λ v n. LengthFilled k i v n) (length_from end start bs i more len)
unfolding length_from
length_filled end start [] i more len k h = ok_cond more _ _ (λ e. record { holds = tt }) (λ e. ok_got _ _ (filled_now k i len h))
length_filled end start (b ∷ bs) i more len k h =
    ok_cond more _ _
    (λ e. ok_guard _ _ _ (λ e'. ok_guard _ _ _ (λ e''.
    ok_weak (λ v n (q : LengthFilled (suc k) (i + 1) v n). let x : k + suc q.more ≡ suc k + q.more = omega arith in record { more = suc q.more; place = omega (arith, q.place); small = rw x q.small })
    (length_filled end start bs (i + 1) (more_follow b) (longer len b) (suc k) (longer_small len b k h)))))
    (λ e. ok_got _ _ (filled_now k i len h))

own_total : (ty : Ty) (own len start next : ℕ) → Ok (λ t n. (n ≡ next) × (total t.ty t.len own ≡ len)) (less_own ty own len start next)
unfolding less_own
own_total OctetString own len start next = ok_guard _ _ _ (λ e. ok_got _ _ (refl, omega (arith, leb-true own len e)))
own_total Boolean own len start next = ok_guard _ _ _ (λ e. ok_got _ _ (refl, omega (arith, leb-true own len e)))
own_total Integer own len start next = ok_guard _ _ _ (λ e. ok_got _ _ (refl, omega (arith, leb-true own len e)))
own_total Unsigned own len start next = ok_guard _ _ _ (λ e. ok_got _ _ (refl, omega (arith, leb-true own len e)))
own_total ListOf own len start next = ok_got _ _ (refl, refl)

-- what a type and length say fits into their own bytes
record LengthSays (at : ℕ) (t : TypeLengthField) (next : ℕ) : Type 0 where
  count : ℕ
  some : 1 ≤ count
  place : next ≡ at + count
  holds : total t.ty t.len count < 16 ^ count

tlf_said : (s : List ℕ) (at : ℕ) → Ok (λ t n. LengthSays at t n) (tlf_at s at)
unfolding tlf_at
tlf_said s at =
    ok_then _ _ (byte_ok s at) (λ b next h. ok_need _ _ _ (λ ty. ok_guard _ _ _ (λ e.
    ok_then _ _ (length_filled (length s) at (drop next s) next (more_follow b) (b % 16) 1 (omega arith)) (λ len end q.
    let own : end - at ≡ 1 + q.more = omega (arith, h.1, q.place) in
    ok_weak (λ t n k. record { count = 1 + q.more; some = omega arith; place = omega (arith, k.0, h.1, q.place); holds = let x : total t.ty t.len (1 + q.more) ≡ len = rw own at k.1 in rw x q.small })
    (own_total ty (end - at) len at end)))))

-- what is read as this type and length, wherever it stands, is no shorter than what is written for it
pub shortest_length : (ty : Ty) (len : ℕ) (s : List ℕ) (at n : ℕ) → tlf_at s at ≡ got (record { ty = ty; len = len }) n → at + length (write_tlf ty len) ≤ n
shortest_length ty len s at n e =
    let q = ok_at (sym e) (tlf_said s at) in
    let small : len < 2 ^ 32 = ok_at (sym e) (tlf_small s at) in
    let c = length_count_by ty len 9 (omega arith) (omega arith) (omega (arith, total_le ty len 9)) in
    omega (arith, tlf_length ty len, q.place, c.least q.count q.some (lt-ltb (total ty len q.count) (16 ^ q.count) q.holds))
