-- claim: calling for the next event again and again.
use Rattle.std.specs.Prelude.{ℕ, zero, suc, List}
use Rattle.streaming.specs.Next.{Said, next_at}

-- what call k answers, counted from 0, of a reader with these three numbers: each call goes on from the numbers that the one before left
unfoldable pub call : ℕ → List ℕ → ℕ → ℕ → ℕ → Said
call zero s at start pending = (next_at s at start pending).answer
call (suc k) s at start pending =
    call k s (next_at s at start pending).place (next_at s at start pending).start (next_at s at start pending).pending
