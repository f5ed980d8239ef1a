-- Type and length as written: read back, in the fewest length bytes.
use mathlib.Core.Path.{◌≡◌, refl, ap}
use mathlib.Core.List.{List, ◌++◌}
use mathlib.Core.Bool.{true, false}
use Prim.Native.Nat.{ℕ, zero, suc, ◌+◌, ◌^◌, ◌≤◌, ◌<◌}
use native.Mathlib.Omega.{arith}
use lib.ListN.{length, get_or}
use lib.Dec.{ltb}
use borrow.Author.Tests.{ltb-true, lt-ltb}
use Rattle.tlf.specs.Lengths.{is_boolean, tlf_at, list_of_at}
use Rattle.tlf.specs.declared.Ty.{Ty}
use Rattle.tlf.specs.declared.Ty.TheVariants.{ListOf}
use Rattle.refusals.proofs.Rest.{Reads, Is}
use Rattle.tlf.specs.Written.{ty_number, total, length_bytes, typed}
use Rattle.tlf.proofs.Gets.{typed_reads, typed_not_one, list_of_reads}
use Rattle.writer.specs.Fields.{length_count, write_tlf}
use Rattle.writer.proofs.Numbers.{total_le}
use Rattle.byte_count.proofs.Least.{Least, first_that_is}

-- the number of length bytes is the least that holds what it says, for any length that some m hold
pub length_count_by : (ty : Ty) (len m : ℕ) → 1 ≤ m → m ≤ 16 → total ty len m < 16 ^ m → Least (λ n. ltb (total ty len n) (16 ^ n)) 1 17 (length_count ty len)
unfolding length_count
length_count_by ty len m low high h = first_that_is 16 1 (λ n. ltb (total ty len n) (16 ^ n)) m low (omega arith) (lt-ltb (total ty len m) (16 ^ m) h)

pub length_count_is : (ty : Ty) (len : ℕ) → len ≤ 1048576 → Least (λ n. ltb (total ty len n) (16 ^ n)) 1 17 (length_count ty len)
length_count_is ty len h = length_count_by ty len 6 (omega arith) (omega arith) (omega (arith, total_le ty len 6))

pub tlf_reads : (ty : Ty) (len : ℕ) → len ≤ 1048576 → (is_boolean ty ≡ true → len ≤ 14) → Reads tlf_at (Is (record { ty = ty; len = len })) (write_tlf ty len)
unfolding write_tlf
tlf_reads ty len small b =
    let c = length_count_is ty len small in
    let n = length_count ty len in
    typed_reads ty n len c.from (ltb-true _ _ c.holds) (omega (arith, total_le ty len n, c.below))
    (λ t. omega (arith, c.from, c.least 1 (omega arith) (lt-ltb (total ty len 1) 16 (omega (arith, total_le ty len 1, b t)))))

pub not_so : {A : Type 0} → false ≡ true → A
not_so e = let z : ◌≡◌ {A = ℕ} 0 1 = cc in absurd (omega arith)

-- a list's head
pub list_reads : (n : ℕ) → n ≤ 1048576 → Reads tlf_at (Is (record { ty = ListOf; len = n })) (write_tlf ListOf n)
list_reads n small = tlf_reads ListOf n small not_so

pub head_reads : (n : ℕ) → n ≤ 1048576 → Reads (list_of_at n) (Is tt) (write_tlf ListOf n)
head_reads n small = list_of_reads n (list_reads n small)

-- bytes that do not begin with 01
abbrev pub NotOne : List ℕ → Type 0
NotOne b = get_or b 0 0x01 ≡ 0x01 → ⊥

pub tlf_not_one : (ty : Ty) (len : ℕ) (x : List ℕ) → len ≤ 1048576 → 1 ≤ ty_number ty + len → NotOne (write_tlf ty len ++ x)
unfolding write_tlf
tlf_not_one ty len x small h =
    let c = length_count_is ty len small in
    typed_not_one ty (length_count ty len) len x c.from (ltb-true _ _ c.holds) (omega (arith, c.from))

length_bytes_lem : (k v : ℕ) → length (length_bytes k v) ≡ k
unfolding length_bytes
length_bytes_lem zero v = refl
length_bytes_lem (suc k) v = ap suc (length_bytes_lem k v)

pub typed_long : (ty : Ty) (k v : ℕ) → length (typed ty k v) ≡ k
unfolding typed
typed_long ty zero v = refl
typed_long ty (suc k) v = ap suc (length_bytes_lem k v)

pub tlf_length : (ty : Ty) (len : ℕ) → length (write_tlf ty len) ≡ length_count ty len
unfolding write_tlf
tlf_length ty len = typed_long ty (length_count ty len) (total ty len (length_count ty len))
