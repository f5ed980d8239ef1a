-- Where a length passes 4,294,967,295, and the last that don't, of the definition: document 02's Q-2, but for B14, which the bench sheet has.
use mathlib.Core.Path.{◌≡◌, refl}
use mathlib.Core.List.{[], ◌∷◌}
use Rattle.refusals.specs.Read.{got, refused, then, guard, need, eof, byte_at}
use Rattle.refusals.specs.Answers.{overflow, reserved, underflow, next_type, invalid_ty}
use Rattle.tlf.specs.Lengths.{length_from, less_own, tlf_at}
use Rattle.tlf.specs.declared.Ty.TheVariants.{OctetString, ListOf}

pub record LengthExamples : Type 0 where
  pub the_longest_string : tlf_at (0x8f ∷ 0x8f ∷ 0x8f ∷ 0x8f ∷ 0x8f ∷ 0x8f ∷ 0x8f ∷ 0x0f ∷ []) 0 ≡ got (record { ty = OctetString; len = 4294967287 }) 8
  pub the_longest_list : tlf_at (0xff ∷ 0x8f ∷ 0x8f ∷ 0x8f ∷ 0x8f ∷ 0x8f ∷ 0x8f ∷ 0x0f ∷ []) 0 ≡ got (record { ty = ListOf; len = 4294967295 }) 8
  pub list_cut_before_it : tlf_at (0xf1 ∷ 0x80 ∷ 0x80 ∷ 0x80 ∷ 0x80 ∷ 0x80 ∷ 0x80 ∷ 0x80 ∷ []) 0 ≡ refused (eof 8)
  pub list : tlf_at (0xf1 ∷ 0x80 ∷ 0x80 ∷ 0x80 ∷ 0x80 ∷ 0x80 ∷ 0x80 ∷ 0x80 ∷ 0x00 ∷ []) 0 ≡ refused (overflow 0)
  pub cut_before_it : tlf_at (0x81 ∷ 0x80 ∷ 0x80 ∷ 0x80 ∷ 0x80 ∷ 0x80 ∷ 0x80 ∷ 0x80 ∷ []) 0 ≡ refused (eof 8)
  pub type_first : tlf_at (0x81 ∷ 0x80 ∷ 0x80 ∷ 0x80 ∷ 0x80 ∷ 0x80 ∷ 0x80 ∷ 0x80 ∷ 0x10 ∷ []) 0 ≡ refused (next_type 0)
  pub type_first_with_more : tlf_at (0x81 ∷ 0x80 ∷ 0x80 ∷ 0x80 ∷ 0x80 ∷ 0x80 ∷ 0x80 ∷ 0x80 ∷ 0x90 ∷ []) 0 ≡ refused (next_type 0)
  pub at_once : tlf_at (0x81 ∷ 0x80 ∷ 0x80 ∷ 0x80 ∷ 0x80 ∷ 0x80 ∷ 0x80 ∷ 0x80 ∷ 0x80 ∷ []) 0 ≡ refused (overflow 0)
  pub leading_zeros : tlf_at (0x80 ∷ 0x80 ∷ 0x80 ∷ 0x80 ∷ 0x80 ∷ 0x80 ∷ 0x80 ∷ 0x80 ∷ 0x80 ∷ 0x80 ∷ 0x80 ∷ 0x0d ∷ []) 0 ≡ got (record { ty = OctetString; len = 1 }) 12
  pub leading_zeros_underflow : tlf_at (0x80 ∷ 0x80 ∷ 0x80 ∷ 0x80 ∷ 0x80 ∷ 0x80 ∷ 0x80 ∷ 0x80 ∷ 0x80 ∷ 0x80 ∷ 0x0a ∷ []) 0 ≡ refused (underflow 0)
  pub nine_digits : tlf_at (0xdf ∷ 0x8f ∷ 0x8f ∷ 0x8f ∷ 0x8f ∷ 0x8f ∷ 0x8f ∷ 0x8f ∷ 0x0f ∷ []) 0 ≡ refused (overflow 0)
  pub reserved_first : tlf_at (0xc1 ∷ 0x80 ∷ 0x80 ∷ 0x80 ∷ 0x80 ∷ 0x80 ∷ 0x80 ∷ 0x80 ∷ 0x0a ∷ []) 0 ≡ refused (reserved 0)
  pub unknown_type_first : tlf_at (0x91 ∷ 0x80 ∷ 0x80 ∷ 0x80 ∷ 0x80 ∷ 0x80 ∷ 0x80 ∷ 0x80 ∷ 0x00 ∷ []) 0 ≡ refused (invalid_ty 0)
  pub behind_leading_zeros : tlf_at (0x80 ∷ 0x80 ∷ 0x80 ∷ 0x80 ∷ 0x80 ∷ 0x80 ∷ 0x80 ∷ 0x80 ∷ 0x81 ∷ 0x80 ∷ 0x80 ∷ 0x80 ∷ 0x80 ∷ 0x80 ∷ 0x80 ∷ 0x80 ∷ 0x05 ∷ []) 0 ≡ refused (overflow 0)

pub length_examples : LengthExamples
unfolding then guard need byte_at tlf_at length_from less_own
length_examples =
    record {
      the_longest_string = refl;
      the_longest_list = refl;
      list_cut_before_it = refl;
      list = refl;
      cut_before_it = refl;
      type_first = refl;
      type_first_with_more = refl;
      at_once = refl;
      leading_zeros = refl;
      leading_zeros_underflow = refl;
      nine_digits = refl;
      reserved_first = refl;
      unknown_type_first = refl;
      behind_leading_zeros = refl;
    }
