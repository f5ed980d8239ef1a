-- claim: a decoder and its memory behind a list of bytes, pushed one after another by the definition that push_byte's contract cites.
use Rattle.std.specs.Prelude.{◌≡◌, List, [], ◌∷◌, ℕ, ◌≤◌, length, drop}
use Rattle.decoder.specs.Record.{push_record}
use Rattle.decoder.specs.declared.Decoder.{Decoder}

pub record Holding : Type 0 where
  pub decoder : Decoder
  pub memory : List ℕ

abbrev pub held : Decoder → List ℕ → Holding
held d m = record { decoder = d; memory = m }

unfoldable pub fed : Decoder → List ℕ → List ℕ → Holding
fed d m [] = held d m
fed d m (b ∷ bs) = fed (push_record d m b).decoder (push_record d m b).memory bs

-- memory that a stop between two pushes leaves: with some decoder, the bytes behind some place lead from it where all of them lead
abbrev pub StoppedIn : Decoder → List ℕ → List ℕ → List ℕ → Type 0
StoppedIn d m bytes left = (at : Decoder) × (n : ℕ) × (n ≤ length bytes) × (fed at left (drop n bytes) ≡ fed d m bytes)
