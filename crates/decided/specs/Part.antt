-- view: a part of lent memory that a function hands back, by its place and its bytes.
use Rattle.std.specs.Prelude.{List, ℕ, ◌+◌}
use Rattle.std.specs.Borrow.{Bor}

-- where it lies, a block of memory and a place there, and what it holds
pub record LentPart : Type 0 where
  pub block : ℕ
  pub place : ℕ
  pub bytes : List ℕ

-- a slice that is lent or handed back, but for the name under which the logic keeps it
abbrev pub handed : Bor (List ℕ) → LentPart
handed r = record { block = r.ref_ptr.0; place = r.ref_ptr.1; bytes = r.now }

-- these bytes, from a place of the part p on
abbrev pub part_at : LentPart → ℕ → List ℕ → LentPart
part_at p at bytes = record { block = p.block; place = p.place + at; bytes = bytes }
