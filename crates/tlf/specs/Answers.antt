-- view: document 01's number and place for the head of a list, of which nothing is handed on but the place behind it.
use Rattle.std.specs.Prelude.{ℕ, Result, Ok, Err}
use Rattle.refusals.specs.Read.{Read, got, refused}
use Rattle.refusals.specs.Answers.{fault_of}
use Rattle.refusals.specs.declared.Fault.{Fault}

abbrev pub place_read : Result ℕ Fault → Read (Unit {0})
place_read (Ok next) = got tt next
place_read (Err f) = refused (fault_of f)
