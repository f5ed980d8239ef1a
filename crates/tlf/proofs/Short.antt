-- A length field of one byte: what its type bits k and its low four bits n say, and the next place is the one behind it.
use mathlib.Core.Path.{◌≡◌, refl}
use mathlib.Core.List.{List}
use mathlib.Core.Bool.{Bool, true, false, ◌&&◌}
use mathlib.Core.Option.{some}
use Prim.Native.Nat.{ℕ, ◌+◌, ◌*◌, ◌-◌, ◌≤◌, ◌<◌}
use native.Mathlib.Omega.{arith}
use lib.ListN.{length, get_or}
use borrow.Author.Tests.{lt-ltb, lt-leb, le-leb, eq-eqb}
use Rattle.refusals.specs.Read.{got, then, guard, need, byte_at}
use Rattle.tlf.specs.Lengths.{more_follow, type_bits, length_bits, ty_of, is_list, less_own, tlf_at, list_of_at}
use Rattle.tlf.specs.declared.Ty.{Ty}
use Rattle.tlf.specs.declared.Ty.TheVariants.{ListOf}
use Rattle.tlf.proofs.Lengths.{length_stop}

and_none : (p : Bool) → (p && false) ≡ false
and_none true = refl
and_none false = refl

-- the law of one length byte
pub tlf_one : (s : List ℕ) (at k n : ℕ) (ty : Ty) → at < length s → get_or s at 0 ≡ 16 * k + n → k < 8 → n < 16 → ty_of k ≡ some ty
    → tlf_at s at ≡ less_own ty 1 n at (at + 1)
unfolding tlf_at byte_at then guard need
tlf_one s at k n ty h e hk hn t =
    let m : more_follow (16 * k + n) ≡ false = lt-leb 128 (16 * k + n) (omega arith) in
    let a : type_bits (16 * k + n) ≡ k = omega arith in
    let b : length_bits (16 * k + n) ≡ n = omega arith in
    let o : at + 1 - at ≡ 1 = omega arith in
    rw (lt-ltb at (length s) h, e, a, t, m, and_none, length_stop, b, o)

-- a list: the low four bits are its length
pub list_one : (s : List ℕ) (at n : ℕ) → at < length s → get_or s at 0 ≡ 112 + n → n < 16 → tlf_at s at ≡ got (record { ty = ListOf; len = n }) (at + 1)
unfolding less_own
list_one s at n h e hn = rw (tlf_one s at 7 n ListOf h e (omega arith) hn refl)

-- anything else: the length byte is taken off
pub field_one : (s : List ℕ) (at k n : ℕ) (ty : Ty) → at < length s → get_or s at 0 ≡ 16 * k + n → k < 8 → n < 16 → ty_of k ≡ some ty → is_list ty ≡ false → 1 ≤ n
    → tlf_at s at ≡ got (record { ty = ty; len = n - 1 }) (at + 1)
unfolding less_own guard
field_one s at k n ty h e hk hn t l p = rw (tlf_one s at k n ty h e hk hn t, l, le-leb 1 n p)

pub list_of_one : (s : List ℕ) (at n : ℕ) → at < length s → n < 16 → get_or s at 0 ≡ 112 + n → got tt (at + 1) ≡ list_of_at n s at
unfolding list_of_at then guard
list_of_one s at n h hn e = rw (list_one s at n h e hn, eq-eqb n n refl)
