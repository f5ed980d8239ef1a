-- A number behind one length byte, all of it within the input: its bytes, and the place behind them.
use mathlib.Core.Path.{◌≡◌, refl, ◌∙◌}
use mathlib.Core.List.{List}
use mathlib.Core.Bool.{Bool, true, false, cond}
use Prim.Native.Nat.{ℕ, ◌+◌, ◌*◌, ◌-◌, ◌≤◌, ◌<◌}
use native.Mathlib.Nat.{zero-add}
use native.Mathlib.Numerals.{unary_clauses}
use native.Mathlib.Omega.{arith}
use lib.ListN.{length, get_or, take, drop, length-drop}
use borrow.Author.Tests.{le-leb}
use Rattle.refusals.specs.Read.{got, then, guard}
use Rattle.refusals.proofs.Read.{span_room}
use Rattle.tlf.specs.Lengths.{tlf_at}
use Rattle.tlf.specs.declared.Ty.TheVariants.{Integer, Unsigned}
use Rattle.tlf.proofs.Short.{field_one}
use Rattle.numbers.specs.Numbers.{number, bytes_at_claim, raw_from, raw_at, unsigned_at, signed_of, signed_at}
use Rattle.numbers.proofs.Numbers.{number_next}

signed_head : (s : List ℕ) (at len : ℕ) → at < length s → 1 ≤ len → len ≤ 8 → get_or s at 0 ≡ 0x51 + len → tlf_at s at ≡ got (record { ty = Integer; len = len }) (at + 1)
signed_head s at len h p q e =
    let b : get_or s at 0 ≡ 16 * 5 + (len + 1) = omega (arith, e) in
    let o : len + 1 - 1 ≡ len = omega arith in
    rw (field_one s at 5 (len + 1) Integer h b (omega arith) (omega arith) refl refl (omega arith), o)

unsigned_head : (s : List ℕ) (at len : ℕ) → at < length s → 1 ≤ len → len ≤ 8 → get_or s at 0 ≡ 0x61 + len → tlf_at s at ≡ got (record { ty = Unsigned; len = len }) (at + 1)
unsigned_head s at len h p q e =
    let b : get_or s at 0 ≡ 16 * 6 + (len + 1) = omega (arith, e) in
    let o : len + 1 - 1 ≡ len = omega arith in
    rw (field_one s at 6 (len + 1) Unsigned h b (omega arith) (omega arith) refl refl (omega arith), o)

-- where there are so many bytes, they are read
from_room : (s : List ℕ) (at len : ℕ) → at + len ≤ length s → got (record { len = len; value = number 0 (take len (drop at s)) }) (at + len) ≡ raw_from s at len
unfolding raw_from bytes_at_claim then
from_room s at len h = rw (span_room s at len h)

-- the law of a number behind one length byte
pub raw_one : (signed : Bool) (width : ℕ) (s : List ℕ) (at len : ℕ) → width ≤ 8 → 1 ≤ len → at + 1 + len ≤ length s → len ≤ width → get_or s at 0 ≡ cond signed 0x51 0x61 + len
    → got (record { len = len; value = number 0 (take len (drop (at + 1) s)) }) (at + 1 + len) ≡ raw_at signed width s at
unfolding raw_at then guard
raw_one true width s at len w p h q e =
    rw (signed_head s at len (omega arith) p (omega arith) e, le-leb 1 len p, le-leb len width q) (from_room s (at + 1) len h)
raw_one false width s at len w p h q e =
    rw (unsigned_head s at len (omega arith) p (omega arith) e, le-leb 1 len p, le-leb len width q) (from_room s (at + 1) len h)

-- one byte is its own number
one_byte : (s : List ℕ) (at : ℕ) → at < length s → number 0 (take 1 (drop at s)) ≡ get_or s at 0
unfolding number
one_byte s at h = simp unary_clauses at (number_next s at 0 (rw length-drop (omega arith))) ∙ zero-add _

pub unsigned_one : (s : List ℕ) (at : ℕ) → at + 1 < length s → get_or s at 0 ≡ 0x62 → got (get_or s (at + 1) 0) (at + 2) ≡ unsigned_at 1 s at
unfolding unsigned_at then
unsigned_one s at h e =
    let o : at + 1 + 1 ≡ at + 2 = omega arith in
    rw (← raw_one false 1 s at 1 (omega arith) (omega arith) (omega arith) (omega arith) e, one_byte s (at + 1) h, o)

pub signed_one : (s : List ℕ) (at : ℕ) → at + 1 < length s → get_or s at 0 ≡ 0x52 → got (signed_of 1 (get_or s (at + 1) 0)) (at + 2) ≡ signed_at 1 s at
unfolding signed_at then
signed_one s at h e =
    let o : at + 1 + 1 ≡ at + 2 = omega arith in
    rw (← raw_one true 1 s at 1 (omega arith) (omega arith) (omega arith) (omega arith) e, one_byte s (at + 1) h, o)
