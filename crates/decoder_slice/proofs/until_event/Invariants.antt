use Prim.Native.Nat.{◌-◌, ◌<◌, ◌≤◌}
use mathlib.Core.Path.{◌≡◌}
use mathlib.Core.Bool.{false}
use lib.ListN.{length, drop}
use Rattle.decoder.specs.Record.{bad_decoder, wrong_buffer}
use Rattle.decoder_slice.specs.Slice.{pushes_from}
use Rattle.decoder_slice.proofs.until_event.Given as goal

abbrev pub invariant-loop-i : goal.invariant-loop-i
invariant-loop-i l = (l.i ≤ length l.chunk) × (length l.buf ≡ length l.initial.buf) × (pushes_from l.i l.now l.buf (drop l.i l.chunk) ≡ pushes_from 0 l.initial.now l.initial.buf l.chunk) × (l.i < length l.chunk → (bad_decoder l.now ≡ false) × (wrong_buffer l.now.capacity (length l.buf) ≡ false))

abbrev pub decreases-loop-i : goal.decreases-loop-i
decreases-loop-i l = length l.chunk - l.i
