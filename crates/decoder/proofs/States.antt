-- A decoder in use, over the state of the push rules: what the runs of specs/Run.antt are proved to say.
use mathlib.Core.List.{List, [], ◌∷◌}
use Rattle.decoder.specs.Push.{State, fresh, step, finalized, reset_count}
use Rattle.decoder.specs.Record.{DecoderAnswer, count, numbered}
use Rattle.decoder.specs.Run.{Op, push, finalize, reset}
use Rattle.decoder.specs.declared.Setup.{Setup}

unfoldable pub act_state : Setup → State → Op → State
act_state C s (push b) = (step C s b).state
act_state C s finalize = fresh
act_state C s reset = fresh

unfoldable pub answer_state : Setup → State → Op → DecoderAnswer
answer_state C s (push b) = numbered (step C s b).event
answer_state C s finalize = numbered (finalized s)
answer_state C s reset = count (reset_count s)

unfoldable pub run_state : Setup → State → List Op → List DecoderAnswer
run_state C s [] = []
run_state C s (o ∷ os) = answer_state C s o ∷ run_state C (act_state C s o) os

unfoldable pub state_behind : Setup → State → List Op → State
state_behind C s [] = s
state_behind C s (o ∷ os) = state_behind C (act_state C s o) os
