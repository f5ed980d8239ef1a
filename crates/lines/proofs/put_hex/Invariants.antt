use Prim.Native.Nat.{◌+◌, ◌*◌, ◌≤◌}
use mathlib.Core.Path.{◌≡◌}
use lib.ListN.{length, drop}
use lib.Seq.{sets}
use Rattle.lines.specs.Lines.{hex_of}
use Rattle.lines.proofs.put_hex.Given as goal

abbrev pub invariant-loop-b : goal.invariant-loop-b
invariant-loop-b l = (length l.out ≡ length l.initial.out) × (l.at + 2 * length l.bytes ≤ length l.initial.out) × (l.o ≡ l.at + 2 * l.b-index) × (sets l.out l.o (hex_of (drop l.b-index l.bytes)) ≡ sets l.initial.out l.at (hex_of l.bytes))
