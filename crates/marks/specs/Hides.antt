-- claim: in a given way of searching a stray 1b hides the frame behind it, whose start is taken for noise. It does so in the first way, and not in the second.
use Rattle.std.specs.Prelude.{◌≡◌, List, ◌∷◌, map, ℕ, ◌+◌, replicate}
use Rattle.frame.specs.Frame.{start_seq}
use Rattle.decoder.specs.Push.{stopped}
use Rattle.decoder.specs.Record.{nothing}
use Rattle.decoder.specs.Run.{Op, push}
use Rattle.decoder.specs.declared.Setup.{Setup}
use Rattle.marks.specs.Decoders.{Machine, LeftBehind, answers, left_behind}

-- From any search of that way from which a start sequence pushed next is found (`Searching` as in mark 2), a stray 1b and then a start sequence bring no event. They leave such a search with nine bytes more of noise, stopped at 4,294,967,295
abbrev pub Hides : {S : Type 0} → ℕ → Machine S → (Setup → S → List ℕ → ℕ → Type 0) → Type 0
Hides {S} way M Searching =
    (C : Setup) (d : S) (m : List ℕ) (noise : ℕ) → C.way ≡ way → Searching C d m noise
    → let os : List Op = map push (0x1b ∷ start_seq) in
    let k : LeftBehind S = left_behind M d m os in
    (answers M d m os ≡ replicate 9 nothing) × Searching C k.decoder k.memory (stopped (noise + 9))
