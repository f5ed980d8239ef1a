use Rattle.value.specs.Answers.{opt_u8, opt_time}
use Rattle.words.specs.Words.{with_zeros}
use Rattle.words.specs.Cut.{put_at}
use Rattle.words.proofs.Parts.{span_words_lem, number_words, status_words_lem, scaler_words, value_words_lem}
use Rattle.words.proofs.entry_words.Goals as goal

pub returns : goal.returns
unfolding with_zeros put_at
returns c =
    rw (
      c.put_optional-5.ensures,
      c.put_words-2.ensures,
      c.put_optional-4.ensures,
      c.put_optional-3.ensures,
      c.put_optional-2.ensures,
      c.put_optional.ensures,
      c.put_words.ensures,
      span_words_lem,
      status_words_lem,
      number_words (opt_time c.args.e.val_time),
      number_words (opt_u8 c.args.e.unit),
      scaler_words,
      value_words_lem,
    )
