-- A number behind a known length is the same at the widest width and at the narrowest that holds its length.
use mathlib.Core.Path.{◌≡◌, refl}
use mathlib.Core.List.{List}
use mathlib.Core.Bool.{Bool, true, false, cond}
use Prim.Native.Nat.{ℕ}
use native.Mathlib.Omega.{arith}
use lib.Dec.{leb}
use borrow.Author.Tests.{le-leb, leb-true}
use Rattle.refusals.specs.Read.{got, then}
use Rattle.tlf.specs.Lengths.{tlf_at}
use Rattle.tlf.specs.declared.TypeLengthField.{TypeLengthField}
use Rattle.numbers.specs.Numbers.{raw_at, unsigned_at, signed_at}
use Rattle.value.specs.Values.{narrowest}

narrow_holds : (len : ℕ) (a b c : Bool) → leb len 1 ≡ a → leb len 2 ≡ b → leb len 4 ≡ c → leb len 8 ≡ leb len (cond a 1 (cond b 2 (cond c 4 8)))
narrow_holds len true b c p q r = rw (p, le-leb len 8 (omega (arith, leb-true len 1 p)))
narrow_holds len false true c p q r = rw (q, le-leb len 8 (omega (arith, leb-true len 2 q)))
narrow_holds len false false true p q r = rw (r, le-leb len 8 (omega (arith, leb-true len 4 r)))
narrow_holds len false false false p q r = refl

raw_narrow : (signed : Bool) (s : List ℕ) (at : ℕ) {t : TypeLengthField} {n : ℕ} → got t n ≡ tlf_at s at → raw_at signed 8 s at ≡ raw_at signed (narrowest t.len) s at
unfolding raw_at then
raw_narrow signed s at {t} h = rw (← h, narrow_holds t.len _ _ _ refl refl refl)

pub unsigned_narrow : (s : List ℕ) (at : ℕ) {t : TypeLengthField} {n : ℕ} → got t n ≡ tlf_at s at → unsigned_at 8 s at ≡ unsigned_at (narrowest t.len) s at
unfolding unsigned_at
unsigned_narrow s at h = rw (raw_narrow false s at h)

pub signed_narrow : (s : List ℕ) (at : ℕ) {t : TypeLengthField} {n : ℕ} → got t n ≡ tlf_at s at → signed_at 8 s at ≡ signed_at (narrowest t.len) s at
unfolding signed_at
signed_narrow s at h = rw (raw_narrow true s at h)
