-- Laws of optional fields, once over the field's own reading.
use mathlib.Core.Path.{◌≡◌, refl, sym, ◌∙◌}
use mathlib.Core.List.{List, ◌∷◌}
use mathlib.Core.Bool.{true}
use mathlib.Core.Option.{Option, some, none}
use Prim.Native.Nat.{ℕ, ◌<◌}
use native.Mathlib.Omega.{arith}
use lib.ListN.{length, get_or}
use lib.Dec.{eqb}
use borrow.Author.Tests.{ltb-true, lt-ltb, eq-eqb, ne_eqb}
use Rattle.refusals.specs.Read.{Read}
use Rattle.refusals.proofs.Read.{Ok, ok_got, ok_then, ok_cond, Ahead, and_left}
use Rattle.refusals.proofs.Rest.{Rest, Gets, Made, gets_got, gets_made, rest_length, rest_byte, rest_next}
use Rattle.octet_string.specs.Optional.{absent_at, optional}

-- an absent field's byte stands in the input
pub absent_room : (s : List ℕ) (at : ℕ) → absent_at s at ≡ true → at < length s
unfolding absent_at
absent_room s at e = ltb-true at (length s) (and_left _ (eqb (get_or s at 0) 0x01) e)

-- what holds of a field that is there, or of none
abbrev pub OfField : {A : Type 0} → (A → ℕ → Type 0) → Option A → ℕ → Type 0
OfField P (some a) n = P a n
OfField P none n = Unit {0}

pub optional_ok : {A : Type 0} {P : A → ℕ → Type 0} (read : List ℕ → ℕ → Read A) (s : List ℕ) (at : ℕ)
    → Ok (λ a n. P a n × Ahead s at n) (read s at)
    → Ok (λ m n. OfField P m n × Ahead s at n) (optional read s at)
unfolding optional
optional_ok read s at h =
    ok_cond (absent_at s at) _ _
    (λ e. let k = absent_room s at e in ok_got _ _ (tt, record { ahead = omega arith; within = omega arith }))
    (λ e. ok_then _ _ h (λ a n q. ok_got _ _ (q.0, q.1)))

-- the byte 01 is an absent field
pub absent_gets : {A : Type 0} (read : List ℕ → ℕ → Read A) {s : List ℕ} {p : ℕ} (l : List ℕ) → Rest s p (0x01 ∷ l)
    → Gets (λ (m : Option A). m ≡ none) s l (optional read s p)
unfolding optional absent_at
absent_gets read {s} {p} l h =
    rw (lt-ltb p (length s) (omega (arith, rest_length h)), eq-eqb (get_or s p 0) 0x01 (rest_byte h)) (gets_got refl (rest_next h))

-- anything else is the field's own reading
pub present_gets : {A : Type 0} {P : List ℕ → A → Type 0} (read : List ℕ → ℕ → Read A) {s : List ℕ} {p b : ℕ} (k l : List ℕ)
    → Rest s p (b ∷ k) → (b ≡ 0x01 → ⊥) → Gets (P s) s l (read s p)
    → Gets (Made some P s) s l (optional read s p)
unfolding optional absent_at
present_gets read {s} {p} {b} k l h ne g =
    rw (lt-ltb p (length s) (omega (arith, rest_length h)), ne_eqb (get_or s p 0) 0x01 (λ e. ne (sym (rest_byte h) ∙ e)))
    (gets_made some _ g)
