-- check: mark 1 of crate decoder_slice. Its contracts allow one outcome for each input, and its views lose nothing. Each crate has such a file.
use Rattle.std.specs.Prelude.{◌≡◌, List, ℕ}
use Rattle.decoder.specs.declared.Decoder.{Decoder}
use Rattle.decoder_slice.specs.Slice.{after_slice, slice_record}
use Rattle.decoder_slice.specs.declared.Sliced.{Sliced}
use Rattle.decided.specs.One.{One, With, Injective}

-- every view that a contract cites, of the answer together with the lent memory
pub record Views : Type 0 where
  pub sliced : Injective (λ (r : With Sliced). after_slice r.answer r.memory)

-- every public function: over its parameters, what its `ensures` allows. A slice that is lent stands for what it holds at the call
pub record Decided : Type 0 where
  pub push_slice_claim : (d : Decoder) (buf chunk : List ℕ) → One (λ (r : With Sliced). after_slice r.answer r.memory ≡ slice_record d buf chunk)
