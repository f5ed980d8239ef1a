-- check: mark 1 of crate streaming. Its contracts allow one outcome for each input, and its views lose nothing. Each crate has such a file.
use Rattle.std.specs.Prelude.{◌≡◌, List, ℕ}
use Rattle.streaming.specs.Next.{next_at}
use Rattle.streaming.specs.Answers.{reader_after}
use Rattle.streaming.specs.declared.Next.{Next}
use Rattle.streaming.specs.declared.Reader.{Reader}
use Rattle.decided.specs.One.{One, Injective}

-- every view that a contract cites
pub record Views : Type 0 where
  pub event : Injective reader_after

-- every public function: over its parameters, what its `ensures` allows. A slice that is lent stands for what it holds at the call
pub record Decided : Type 0 where
  pub parse_next : (self : Reader) (input : List ℕ) → One (λ (r : Next). reader_after r ≡ next_at input self.place self.start self.pending)
