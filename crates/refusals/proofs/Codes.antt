-- What a wrong reading is told apart by: the number and place of a refusal, and the place behind what was read; 0 where there is none.
use Prim.Native.Nat.{ℕ}
use Rattle.refusals.specs.Read.{Read, got, refused}

abbrev pub refusal_number : {A : Type 0} → Read A → ℕ
refusal_number (got a next) = 0
refusal_number (refused f) = f.number

abbrev pub refusal_place : {A : Type 0} → Read A → ℕ
refusal_place (got a next) = 0
refusal_place (refused f) = f.place

abbrev pub place_behind : {A : Type 0} → Read A → ℕ
place_behind (got a next) = next
place_behind (refused f) = 0
