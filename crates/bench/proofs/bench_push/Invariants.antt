use mathlib.Core.Path.{◌≡◌}
use Prim.Native.Nat.{◌≤◌}
use lib.ListN.{length, drop}
use Rattle.bench.specs.Bench.{payloads_from}
use Rattle.bench.proofs.bench_push.Given as goal

abbrev pub invariant-loop-b : goal.invariant-loop-b
invariant-loop-b l = (l.n ≤ l.b-index) × (length l.buf ≡ length l.initial.buf) × (payloads_from l.n l.at l.buf (drop l.b-index l.src) ≡ payloads_from 0 l.initial.at l.initial.buf l.src)
