-- cut: the table by which the code takes four bits at a time.
use Rattle.std.specs.Prelude.{ℕ, zero, suc, List, [], ◌∷◌}
use Rattle.crc_x25.specs.Crc.{bit_steps}

-- what four bits come to, for n numbers from i on
unfoldable pub table_from : ℕ → ℕ → List ℕ
table_from zero i = []
table_from (suc n) i = bit_steps 4 i ∷ table_from n (suc i)

unfoldable pub table : List ℕ
table = table_from 16 0
