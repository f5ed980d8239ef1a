-- What the reader's two refusals leave: at 9, InputTooLong, and at 4, BadState, the reader is unchanged.
use mathlib.Core.Path.{◌≡◌, ap}
use mathlib.Core.Bool.{Bool, true, false, cond}
use lib.Dec.{ltb}
use lib.ListN.{length}
use Rattle.refusals.specs.Numbers.{bad_state_no, input_too_long_no, limit}
use Rattle.streaming.specs.Next.{ReaderAfter, alone, is_sound, step_at, next_at}
use Rattle.parser.specs.Reader.{onward_by, called_next}
use Rattle.parser.specs.declared.Parser.{Parser}

module _ (p : Parser) where
  abbrev long : ReaderAfter
  long = record { answer = alone input_too_long_no; place = p.reader.place; start = p.reader.start; pending = p.reader.pending }

  abbrev bad : ReaderAfter
  bad = record { answer = alone bad_state_no; place = p.reader.place; start = p.reader.start; pending = p.reader.pending }

  abbrev step : ReaderAfter
  step = step_at p.input.now p.reader.place p.reader.start p.reader.pending

  abbrev sound : Bool
  sound = is_sound (length p.input.now) p.reader.place p.reader.start p.reader.pending

  pub next_too_long : ltb limit (length p.input.now) ≡ true → called_next p ≡ record { said = alone input_too_long_no; reader = p }
  unfolding next_at
  next_too_long e = ap (λ b. onward_by p (cond b long (cond sound step bad))) e

  pub next_bad_state : ltb limit (length p.input.now) ≡ false → is_sound (length p.input.now) p.reader.place p.reader.start p.reader.pending ≡ false → called_next p ≡ record { said = alone bad_state_no; reader = p }
  unfolding next_at
  next_bad_state e f = λ i. onward_by p (cond (e i) long (cond (f i) step bad))
