-- The edges of each number rule, of the definitions.
use mathlib.Core.Path.{◌≡◌, refl}
use mathlib.Core.Bool.{true, false}
use mathlib.Core.List.{[], ◌∷◌}
use lib.IntN.{pos, negsuc}
use Rattle.refusals.specs.Read.{got, refused, then, guard, need, eof, mismatch, byte_at, span_at}
use Rattle.tlf.specs.Lengths.{tlf_at, length_from, less_own}
use Rattle.numbers.specs.Numbers.{number, bytes_at_claim, raw_from, raw_at, unsigned_at, signed_of, signed_at, bool_from, bool_at}

pub record NumberExamples : Type 0 where
  pub high_first : unsigned_at 2 (0x63 ∷ 0x01 ∷ 0x02 ∷ []) 0 ≡ got 258 3
  pub least : signed_at 1 (0x52 ∷ 0x80 ∷ []) 0 ≡ got (negsuc 127) 2
  pub greatest : signed_at 1 (0x52 ∷ 0x7f ∷ []) 0 ≡ got (pos 127) 2
  pub three : signed_at 4 (0x54 ∷ 0xff ∷ 0x00 ∷ 0x00 ∷ []) 0 ≡ got (negsuc 65535) 4
  pub no_bytes : unsigned_at 8 (0x61 ∷ []) 0 ≡ refused (mismatch 0)
  pub cut : unsigned_at 2 (0x63 ∷ 0x01 ∷ []) 0 ≡ refused (eof 2)
  pub yes : bool_at (0x42 ∷ 0xff ∷ []) 0 ≡ got true 2
  pub no : bool_at (0x42 ∷ 0x00 ∷ []) 0 ≡ got false 2
  pub two : bool_at (0x43 ∷ 0x00 ∷ 0x01 ∷ []) 0 ≡ refused (mismatch 0)

pub number_examples : NumberExamples
unfolding then guard need byte_at span_at tlf_at length_from less_own number bytes_at_claim raw_from raw_at unsigned_at signed_of signed_at bool_from bool_at
number_examples =
    record {
      high_first = refl;
      least = refl;
      greatest = refl;
      three = refl;
      no_bytes = refl;
      cut = refl;
      yes = refl;
      no = refl;
      two = refl;
    }
