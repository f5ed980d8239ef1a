-- check: mark 1 of crate parser. Its contracts allow one outcome for each input, and its views lose nothing. Each crate has such a file.
use Rattle.std.specs.Prelude.{◌≡◌, List, ℕ, Option, Result}
use Rattle.std.specs.Borrow.{Bor}
use Rattle.streaming.specs.Next.{next_at}
use Rattle.streaming.specs.Answers.{reader_after}
use Rattle.streaming.specs.declared.ParseEvent.{ParseEvent}
use Rattle.streaming.specs.declared.ReadError.{ReadError}
use Rattle.streaming.specs.declared.Next.{Next}
use Rattle.parser.specs.Reader.{reader_of, called_next, after_next}
use Rattle.parser.specs.declared.Parser.{Parser}
use Rattle.decided.specs.One.{One, Beside, Injective}

-- every view that a contract cites, of the answer together with the reader that is lent
pub record Views : Type 0 where
  pub event_in_place : Injective (λ (r : Beside (Result (Option ParseEvent) ReadError) Parser). after_next r.answer r.lent)

-- every public function: over its parameters, what its `ensures` allows. The input is held as it was lent, a reference; self is the reader at the call
pub record Decided : Type 0 where
  pub new : (input : Bor (List ℕ)) → One (λ (r : Parser). r ≡ reader_of input)
  pub next : (self : Parser) → One (λ (r : Beside (Result (Option ParseEvent) ReadError) Parser). after_next r.answer r.lent ≡ called_next self)
  pub next_from : (input : List ℕ) (at start pending : ℕ) → One (λ (r : Next). reader_after r ≡ next_at input at start pending)
