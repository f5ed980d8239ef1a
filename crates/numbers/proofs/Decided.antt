-- Each view can be undone, so a contract allows one outcome for each input.
use Rattle.refusals.specs.Answers.{as_it_is, opt_of, reads_as}
use Rattle.decided.proofs.Laws.{injective}
use Rattle.refusals.proofs.Undone.{reads_once, same_once, opt_once}
use Rattle.numbers.specs.Decided.{Views, Decided}

pub views : Views
views =
    record {
      span = reads_once as_it_is same_once;
      natural = reads_once as_it_is same_once;
      integer = reads_once as_it_is same_once;
      bool = reads_once as_it_is same_once;
      optional_span = reads_once (opt_of as_it_is) (opt_once as_it_is same_once);
      optional_natural = reads_once (opt_of as_it_is) (opt_once as_it_is same_once);
      optional_integer = reads_once (opt_of as_it_is) (opt_once as_it_is same_once);
    }

pub decided : Decided
decided =
    record {
      span_parse = λ input at. injective (reads_as as_it_is) views.span _;
      option_span_parse = λ input at. injective (reads_as (opt_of as_it_is)) views.optional_span _;
      u8_parse = λ input at. injective (reads_as as_it_is) views.natural _;
      u16_parse = λ input at. injective (reads_as as_it_is) views.natural _;
      u32_parse = λ input at. injective (reads_as as_it_is) views.natural _;
      u64_parse = λ input at. injective (reads_as as_it_is) views.natural _;
      option_u8_parse = λ input at. injective (reads_as (opt_of as_it_is)) views.optional_natural _;
      i8_parse = λ input at. injective (reads_as as_it_is) views.integer _;
      i16_parse = λ input at. injective (reads_as as_it_is) views.integer _;
      i32_parse = λ input at. injective (reads_as as_it_is) views.integer _;
      i64_parse = λ input at. injective (reads_as as_it_is) views.integer _;
      option_i8_parse = λ input at. injective (reads_as (opt_of as_it_is)) views.optional_integer _;
      bool_parse = λ input at. injective (reads_as as_it_is) views.bool _;
    }
