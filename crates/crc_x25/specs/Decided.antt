-- check: mark 1 of crate crc_x25. Its contracts allow one outcome for each input. Each crate has such a file.
use Rattle.std.specs.Prelude.{◌≡◌, List, ℕ}
use Rattle.crc_x25.specs.Crc.{start, byte_step, register, final_xor, crc_of}
use Rattle.decided.specs.One.{One}

-- every public function: over its parameters, what its `ensures` allows
pub record Decided : Type 0 where
  pub digest : One (λ (r : ℕ). r ≡ start)
  pub update_byte : (reg b : ℕ) → One (λ (r : ℕ). r ≡ byte_step reg b)
  pub update : (reg : ℕ) (s : List ℕ) → One (λ (r : ℕ). r ≡ register reg s)
  pub finalize : (reg : ℕ) → One (λ (r : ℕ). r ≡ final_xor reg)
  pub checksum : (s : List ℕ) → One (λ (r : ℕ). r ≡ crc_of s)
