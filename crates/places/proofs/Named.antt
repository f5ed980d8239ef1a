-- What a refusal's number says of its place, and the two cuts: before the place, and behind what was judged.
use mathlib.Core.Path.{◌≡◌, refl, ◌∙◌}
use mathlib.Core.List.{List}
use Prim.Native.Nat.{ℕ, ◌≤◌}
use native.Mathlib.Omega.{arith}
use lib.ListN.{length, take}
use Rattle.refusals.specs.Numbers.{unexpected_eof_no, invalid_tlf_no, tlf_mismatch_no, msg_end_mismatch_no}
use Rattle.refusals.specs.Read.{Read, refused, Refusal, eof}
use Rattle.tlf.specs.Lengths.{tlf_at}
use Rattle.places.specs.Stands.{Element, Stands, over, bad_length, unwanted, message_tag, time_tag, other_crc, other_end, Broke, Instead, Whatever, EndByte}
use Rattle.places.proofs.Before.{same_cut}

-- the place of a refusal lies in the input, or is its length
pub stands_within : {A : Type 0} {read : List ℕ → Read A} {s : List ℕ} {start : ℕ} {f : Refusal} {q : ℕ} → Stands read s start f q → f.place ≤ length s
stands_within over = omega arith
stands_within (bad_length kind p q e i r) = let w = e.within in omega (arith, w)
stands_within (unwanted t p n e i r) = let w = e.within in omega (arith, w)
stands_within (message_tag tag p n e i r x y z) = let w = e.within in omega (arith, w)
stands_within (time_tag tag p n e i r x) = let w = e.within in omega (arith, w)
stands_within (other_crc crc p n e i r l z x) = let w = e.within in omega (arith, w)
stands_within (other_end p e w x) = omega (arith, w)

-- up to the place nothing was wrong but that the input ended
pub before_it : {A : Type 0} {read : List ℕ → Read A} {s : List ℕ} {at start : ℕ} {f : Refusal} → Broke read s at start f → read (take f.place s) ≡ refused (eof f.place)
before_it b = b.looked.cut _ b.begun b.before (stands_within b.stands)

-- with what was judged it is refused so
pub there_it : {A : Type 0} {read : List ℕ → Read A} {s : List ℕ} {at start : ℕ} {f : Refusal} (b : Broke read s at start f) → read (take b.judged_to s) ≡ refused f
there_it {s = s} b = b.looked.alike (take b.judged_to s) (same_cut s {m = b.judged_to} (omega arith)) ∙ b.refuses

-- 10 is named at the input's length
pub eof_place : {A : Type 0} {read : List ℕ → Read A} {s : List ℕ} {start : ℕ} {f : Refusal} {q : ℕ} → Stands read s start f q → f.number ≡ unexpected_eof_no → f ≡ eof (length s)
eof_place over n = refl
eof_place (bad_length kind p q e i r) n = absurd (omega (arith, n))
eof_place (unwanted t p m e i r) n = absurd (omega (arith, n))
eof_place (message_tag tag p m e i r x y z) n = absurd (omega (arith, n))
eof_place (time_tag tag p m e i r x) n = absurd (omega (arith, n))
eof_place (other_crc crc p m e i r l z x) n = absurd (omega (arith, n))
eof_place (other_end p e w x) n = absurd (omega (arith, n))

-- 11 is what the length reader refuses there
pub bad_length_place : {A : Type 0} {read : List ℕ → Read A} {s : List ℕ} {start : ℕ} {f : Refusal} {q : ℕ} → Stands read s start f q → f.number ≡ invalid_tlf_no → tlf_at s f.place ≡ refused f
bad_length_place over n = absurd (omega (arith, n))
bad_length_place (bad_length kind p q e i r) n = r
bad_length_place (unwanted t p m e i r) n = absurd (omega (arith, n))
bad_length_place (message_tag tag p m e i r x y z) n = absurd (omega (arith, n))
bad_length_place (time_tag tag p m e i r x) n = absurd (omega (arith, n))
bad_length_place (other_crc crc p m e i r l z x) n = absurd (omega (arith, n))
bad_length_place (other_end p e w x) n = absurd (omega (arith, n))

-- 11 to 14 are named where an element begins
pub element_place : {A : Type 0} {read : List ℕ → Read A} {s : List ℕ} {start : ℕ} {f : Refusal} {q : ℕ} → Stands read s start f q → (f.number ≡ unexpected_eof_no → ⊥) → (f.number ≡ msg_end_mismatch_no → ⊥) → Element read s f.place
element_place over n m = absurd (n refl)
element_place (bad_length kind p q e i r) n m = e
element_place (unwanted t p k e i r) n m = e
element_place (message_tag tag p k e i r x y z) n m = e
element_place (time_tag tag p k e i r x) n m = e
element_place (other_crc crc p k e i r l z x) n m = e
element_place (other_end p e w x) n m = absurd (m refl)

-- 12 would not be given for some other bytes
pub mismatch_instead : {A : Type 0} {read : List ℕ → Read A} {s : List ℕ} {start : ℕ} {f : Refusal} {q : ℕ} → Stands read s start f q → f.number ≡ tlf_mismatch_no → Instead read s f.place Whatever
mismatch_instead over n = absurd (omega (arith, n))
mismatch_instead (bad_length kind p q e i r) n = absurd (omega (arith, n))
mismatch_instead (unwanted t p k e i r) n = i
mismatch_instead (message_tag tag p k e i r x y z) n = absurd (omega (arith, n))
mismatch_instead (time_tag tag p k e i r x) n = absurd (omega (arith, n))
mismatch_instead (other_crc crc p k e i r l z x) n = absurd (omega (arith, n))
mismatch_instead (other_end p e w x) n = absurd (omega (arith, n))

-- 15 is named at an end byte
pub end_place : {A : Type 0} {read : List ℕ → Read A} {s : List ℕ} {start : ℕ} {f : Refusal} {q : ℕ} → Stands read s start f q → f.number ≡ msg_end_mismatch_no → EndByte read s f.place
end_place over n = absurd (omega (arith, n))
end_place (bad_length kind p q e i r) n = absurd (omega (arith, n))
end_place (unwanted t p k e i r) n = absurd (omega (arith, n))
end_place (message_tag tag p k e i r x y z) n = absurd (omega (arith, n))
end_place (time_tag tag p k e i r x) n = absurd (omega (arith, n))
end_place (other_crc crc p k e i r l z x) n = absurd (omega (arith, n))
end_place (other_end p e w x) n = e
