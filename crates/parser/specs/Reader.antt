-- rule: a reader that holds its input, and what a call of next says and leaves.
use Rattle.std.specs.Prelude.{ℕ, List, Option, Result}
use Rattle.std.specs.Borrow.{Bor}
use Rattle.streaming.specs.Next.{Said, ReaderAfter, next_at}
use Rattle.streaming.specs.Answers.{said as said_by}
use Rattle.streaming.specs.declared.ParseEvent.{ParseEvent}
use Rattle.streaming.specs.declared.ReadError.{ReadError}
use Rattle.parser.specs.declared.Parser.{Parser}

-- a new reader: nothing of the input is read yet
abbrev pub reader_of : Bor (List ℕ) → Parser
reader_of input = record { input = input; reader = record { place = 0; start = 0; pending = 0 } }

-- what a call says, and the whole reader behind it
pub record Called : Type 0 where
  pub said : Said
  pub reader : Parser

-- the same input, and what a step in it says and leaves
abbrev pub onward_by : Parser → ReaderAfter → Called
onward_by p a = record { said = a.answer; reader = record { input = p.input; reader = record { place = a.place; start = a.start; pending = a.pending } } }

-- the step from the reader's three numbers in the content of its input
abbrev pub called_next : Parser → Called
called_next p = onward_by p (next_at p.input.now p.reader.place p.reader.start p.reader.pending)

-- the answer and the reader that the code leaves
abbrev pub after_next : Result (Option ParseEvent) ReadError → Parser → Called
after_next r p = record { said = said_by r; reader = p }
