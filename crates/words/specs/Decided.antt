-- check: mark 1 of crate words. Its contracts allow one outcome for each input, and its view loses nothing. Each crate has such a file.
use Rattle.std.specs.Prelude.{◌≡◌, List, ℕ, Result, Option}
use Rattle.streaming.specs.Answers.{said}
use Rattle.streaming.specs.declared.ParseEvent.{ParseEvent}
use Rattle.streaming.specs.declared.ReadError.{ReadError}
use Rattle.words.specs.Words.{event_words}
use Rattle.words.specs.Back.{event_of}
use Rattle.words.specs.Answers.{opt_event}
use Rattle.decided.specs.One.{One, Injective}

-- every view that a contract cites
pub record Views : Type 0 where
  pub event : Injective opt_event

-- every public function: over its parameters, what its `ensures` allows. An array that is lent stands for what it holds at the call
pub record Decided : Type 0 where
  pub event_words_claim : (answer : Result (Option ParseEvent) ReadError) → One (λ (r : List ℕ). r ≡ event_words (said answer))
  pub event_of_claim : (words : List ℕ) → One (λ (r : Option ParseEvent). opt_event r ≡ event_of words)
