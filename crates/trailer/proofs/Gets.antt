-- What the bytes of an end byte and of a trailer are read as, and what they leave; and 15 before 14.
use mathlib.Core.Path.{◌≡◌, refl}
use mathlib.Core.List.{List, [], ◌∷◌, ◌++◌, append_assoc}
use Prim.Native.Nat.{ℕ, ◌-◌}
use native.Mathlib.Omega.{arith}
use lib.ListN.{length}
use borrow.Author.Tests.{eq-eqb}
use Rattle.refusals.specs.Read.{got, refused, Refusal, then}
use Rattle.refusals.proofs.Rest.{Rest, Gets, Reads, Is, rest_place, rest_take, gets_is, gets_guard, gets_got, byte_gets}
use Rattle.numbers.specs.Numbers.{unsigned_at}
use Rattle.crc_x25.specs.Crc.{crc_of}
use Rattle.trailer.specs.Trailer.{message_end_at, swapped, crc_from, trailer_at}

pub message_end_reads : Reads message_end_at (Is tt) (0x00 ∷ [])
unfolding message_end_at
message_end_reads = record { reads = λ l h. gets_is _ _ (byte_gets h) (λ n k. gets_guard _ _ _ refl (gets_got refl k)) }

-- a wrong end byte is refused whatever the CRC is
pub end_byte_first : (s : List ℕ) (start at crc n : ℕ) (f : Refusal) → unsigned_at 2 s at ≡ got crc n → message_end_at s n ≡ refused f → trailer_at s start at ≡ refused f
unfolding trailer_at then
end_byte_first s start at crc n f h k = rw (h, k)

-- the CRC goes over the bytes that stand between the two places
trailer_crc_is : (m : List ℕ) {s : List ℕ} {start at : ℕ} (l : List ℕ) → Rest s start (m ++ l) → Rest s at l → crc_from s start at ≡ crc_of m
unfolding crc_from
trailer_crc_is m {s} {start} {at} l h k = let e : at - start ≡ length m = omega (arith, rest_place m h k) in rw (e, rest_take m l h)

-- `m` are the message's bytes up to the CRC's length byte
pub trailer_reads : (m : List ℕ) {c e : List ℕ} {s : List ℕ} {start at : ℕ} (l : List ℕ)
    → Reads (unsigned_at 2) (Is (swapped (crc_of m))) c
    → Reads message_end_at (Is tt) e
    → Rest s start (m ++ (c ++ e ++ l)) → Rest s at (c ++ e ++ l) → Gets (Is tt s) s l (trailer_at s start at)
unfolding trailer_at
trailer_reads m l r₁ r₂ h k =
    gets_is _ _ (r₁.reads _ (simp append_assoc at k)) (λ n₁ k₁.
    gets_is _ _ (r₂.reads l k₁) (λ n₂ k₂. gets_guard _ _ _ (rw (trailer_crc_is m _ h k) (eq-eqb (swapped (crc_of m)) (swapped (crc_of m)) refl))
    (gets_got refl k₂)))
