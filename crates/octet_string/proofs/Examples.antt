-- Strings whole and cut, absent fields, parts of the input, of the definitions.
use mathlib.Core.Path.{◌≡◌, refl}
use mathlib.Core.List.{[], ◌∷◌}
use mathlib.Core.Option.{some, none}
use Rattle.refusals.specs.Read.{got, refused, then, guard, need, eof, mismatch, byte_at, span_at}
use Rattle.refusals.specs.Answers.{underflow}
use Rattle.tlf.specs.Lengths.{tlf_at, length_from, less_own}
use Rattle.octet_string.specs.Strings.{octets_at, span_within, part_of, span_refusal}
use Rattle.octet_string.specs.Optional.{absent_at, optional}

pub record StringExamples : Type 0 where
  pub six : octets_at (0x07 ∷ 1 ∷ 2 ∷ 3 ∷ 4 ∷ 5 ∷ 6 ∷ []) 0 ≡ got (record { start = 1; len = 6 }) 7
  pub cut : octets_at (0x07 ∷ 1 ∷ 2 ∷ 3 ∷ 4 ∷ 5 ∷ []) 0 ≡ refused (eof 6)
  pub absent : optional octets_at (0x01 ∷ []) 0 ≡ got none 1
  pub mandatory_empty : octets_at (0x01 ∷ []) 0 ≡ got (record { start = 1; len = 0 }) 1
  pub neither : optional octets_at (0x80 ∷ 0x01 ∷ []) 0 ≡ refused (underflow 0)
  pub number : octets_at (0x62 ∷ 0x05 ∷ []) 0 ≡ refused (mismatch 0)
  pub part : part_of (1 ∷ 2 ∷ 3 ∷ []) (record { start = 1; len = 2 }) ≡ 2 ∷ 3 ∷ []
  pub bad_part : part_of (1 ∷ 2 ∷ 3 ∷ []) (record { start = 2; len = 2 }) ≡ []
  pub bad_span : span_refusal (1 ∷ 2 ∷ 3 ∷ []) (record { start = 2; len = 2 }) ≡ some 16

pub string_examples : StringExamples
unfolding then guard need byte_at span_at tlf_at length_from less_own octets_at span_within part_of span_refusal absent_at optional
string_examples =
    record {
      six = refl;
      cut = refl;
      absent = refl;
      mandatory_empty = refl;
      neither = refl;
      number = refl;
      part = refl;
      bad_part = refl;
      bad_span = refl;
    }
