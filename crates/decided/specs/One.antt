-- check: what each crate says of its own functions. A description allows one outcome for each input: answer, record and the content of lent memory.
use Rattle.std.specs.Prelude.{◌≡◌, List, ℕ}

-- any two outcomes that a description allows are equal
abbrev pub One : {R : Type 0} → (R → Type 0) → Type 0
One {R} allows = (r r' : R) → allows r → allows r' → r ≡ r'

-- an answer, and what lent memory holds then
pub record With (R : Type 0) : Type 0 where
  pub answer : R
  pub memory : List ℕ

-- an answer, and what a record that was lent to be changed in place is then
pub record Beside (R D : Type 0) : Type 0 where
  pub answer : R
  pub lent : D

-- a view gives document 01's number and values for each case of an answer; it loses nothing where two answers that look the same in it are the same
abbrev pub Injective : {R A : Type 0} → (R → A) → Type 0
Injective {R} view = (r r' : R) → view r ≡ view r' → r ≡ r'
