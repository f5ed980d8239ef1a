-- claim: a decoder in use. Pushes, finalize and reset one after another, by the definitions that the functions' contracts cite, and what they answer.
use Rattle.std.specs.Prelude.{◌≡◌, List, [], ◌∷◌, ℕ}
use Rattle.decoder.specs.Push.{first_way, second_way}
use Rattle.decoder.specs.Record.{DecoderAnswer, nothing, payload, count, refusal, After, after, push_record, finalize_record, reset_record}
use Rattle.decoder.specs.declared.Decoder.{Decoder}

-- a way of searching that is not refused
pub data KnownWay (way : ℕ) : Type 0 where
  is_first : way ≡ first_way → KnownWay way
  is_second : way ≡ second_way → KnownWay way

pub data Op : Type 0 where
  push : ℕ → Op
  finalize : Op
  reset : Op

unfoldable pub act : Decoder → List ℕ → Op → After
act d m (push b) = push_record d m b
act d m finalize = after (finalize_record d).answer (finalize_record d).decoder m
act d m reset = after (reset_record d).answer (reset_record d).decoder m

-- the payload that an answer brings; any other brings none
abbrev pub brought : DecoderAnswer → List ℕ
brought nothing = []
brought (payload bytes) = bytes
brought (count n) = []
brought (refusal n values) = []

-- an answer for each operation
unfoldable pub run : Decoder → List ℕ → List Op → List DecoderAnswer
run d m [] = []
run d m (o ∷ os) =
    let a : After = act d m o in
    a.answer ∷ run a.decoder a.memory os

-- the record and the memory behind them, with what the last operation answered
unfoldable pub behind : After → List Op → After
behind a [] = a
behind a (o ∷ os) = behind (act a.decoder a.memory o) os
