-- check: the vectors of Q-4, and the limits of its sentences.
use Rattle.std.specs.Prelude.{◌≡◌, List, [], ◌∷◌, ◌++◌, ℕ, replicate}
use Rattle.refusals.specs.Read.{eof}
use Rattle.refusals.specs.Answers.{underflow, next_type}
use Rattle.walk.specs.Walk.{too_deep, walk_is, walk_broken}
use Rattle.elements.specs.Walkers.{Walker}

-- sixteen lists of one, each inside the one before, and what stands in the innermost
abbrev pub in_sixteen : List ℕ → List ℕ
in_sixteen b = replicate 16 0x71 ++ b

-- a close message
abbrev pub close_vector : List ℕ
close_vector = 0x76 ∷ 0x05 ∷ 0xdd ∷ 0x43 ∷ 0x44 ∷ 0x00 ∷ 0x62 ∷ 0x00 ∷ 0x62 ∷ 0x00 ∷ 0x72 ∷ 0x63 ∷ 0x02 ∷ 0x01 ∷ 0x71 ∷ 0x01 ∷ 0x63 ∷ 0xfd ∷ 0x56 ∷ 0x00 ∷ []

pub record WalkBench (W : Walker) : Type 0 where
  pub empty : W [] 0 ≡ walk_broken (eof 0)
  pub mark : W (0x00 ∷ []) 0 ≡ walk_is 1 1
  pub none : W (0x70 ∷ []) 0 ≡ walk_is 1 0
  pub none_in_two : W (0xf0 ∷ 0x00 ∷ []) 0 ≡ walk_is 2 0
  pub two_is_no_mark : W (0x80 ∷ 0x00 ∷ []) 0 ≡ walk_broken (underflow 0)
  pub three : W (0x73 ∷ 0x00 ∷ 0x02 ∷ 0x41 ∷ 0x01 ∷ []) 0 ≡ walk_is 5 3
  pub any_content : W (0x72 ∷ 0x71 ∷ 0x41 ∷ 0x42 ∷ 0xff ∷ []) 0 ≡ walk_is 5 2
  pub cut : W (0x72 ∷ 0x07 ∷ []) 0 ≡ walk_broken (eof 2)
  pub many_wanted : W (0xff ∷ 0x8f ∷ 0x8f ∷ 0x8f ∷ 0x8f ∷ 0x8f ∷ 0x8f ∷ 0x0f ∷ 0x00 ∷ []) 0 ≡ walk_broken (eof 9)
  pub sixteen : W (in_sixteen (0x01 ∷ [])) 0 ≡ walk_is 17 1
  pub seventeenth : W (in_sixteen (0x70 ∷ [])) 0 ≡ walk_broken (too_deep 16)
  pub its_length_first : W (in_sixteen (0xf1 ∷ [])) 0 ≡ walk_broken (eof 17)
  pub its_bytes_first : W (in_sixteen (0xf1 ∷ 0x10 ∷ [])) 0 ≡ walk_broken (next_type 16)
  -- sixteen lists side by side are not deep
  pub beside : W (0xf1 ∷ 0x00 ∷ replicate 16 0x70) 0 ≡ walk_is 18 0
  -- a public key: 48 bytes behind the two bytes that say so
  pub two_byte_length : W (0x83 ∷ 0x02 ∷ replicate 48 0xab) 0 ≡ walk_is 50 1
  pub close_message_claim : W close_vector 0 ≡ walk_is 20 7
  pub close_message_at : W (0x00 ∷ 0x00 ∷ close_vector ++ 0x76 ∷ 0x05 ∷ []) 2 ≡ walk_is 20 7
  pub beyond : W (0x00 ∷ 0x00 ∷ []) 3 ≡ walk_broken (eof 2)
  pub far_beyond : W (0x00 ∷ []) 18446744073709551615 ≡ walk_broken (eof 1)
