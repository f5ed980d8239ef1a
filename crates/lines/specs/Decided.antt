-- check: mark 1 of crate lines. Its contracts allow one outcome for each input, and its views lose nothing. Each crate has such a file.
use Rattle.std.specs.Prelude.{◌≡◌, List, ℕ, Result}
use Rattle.decoder.specs.Record.{Event, answer_of}
use Rattle.lines.specs.Lines.{line_of, line_answer, after_line, line_to}
use Rattle.lines.specs.declared.OutputTooShort.{OutputTooShort}
use Rattle.decided.specs.One.{One, With, Injective}

-- every view that a contract cites; where memory is lent, the view of the answer together with it
pub record Views : Type 0 where
  pub line : Injective (λ (r : With (Result ℕ OutputTooShort)). after_line (line_answer r.answer) r.memory)

-- every public function: over its parameters, what its `ensures` allows. A slice that is lent stands for what it holds at the call
pub record Decided : Type 0 where
  pub write_line : (event : Event) (payload out : List ℕ) → One (λ (r : With (Result ℕ OutputTooShort)). after_line (line_answer r.answer) r.memory ≡ line_to (line_of (answer_of event payload)) out)
