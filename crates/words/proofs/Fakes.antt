-- Each way back that is none falls at one small event or at a list of no words.
use Prim.Native.Nat.{ℕ}
use mathlib.Core.Path.{◌≡◌, refl, ap, ◌∙◌}
use mathlib.Core.List.{[]}
use mathlib.Core.Option.{some, none}
use native.Mathlib.Omega.{arith}
use lib.ListN.{length}
use Rattle.frame.proofs.Same.{same_self}
use Rattle.streaming.specs.Next.{end_event, event}
use Rattle.words.specs.Words.{event_words}
use Rattle.words.specs.Back.{event_back}
use Rattle.words.specs.Claims.{TakesEvents, TakesOnlyTheirs, GivesTyped}
use Rattle.words.specs.Fakes.{reads_none, reads_any, late_end, reads_late, BackFakes}
use Rattle.words.proofs.Laws.{event_words_length}

reads_none_claim : TakesEvents reads_none → ⊥
reads_none_claim h =
    let f : none ≡ some (end_event (record { list_signature = none; act_gateway_time = none })) = h _ tt in
    let z : ◌≡◌ {A = ℕ} 0 1 = cc in
    omega arith

reads_any_claim : TakesOnlyTheirs reads_any → ⊥
reads_any_claim h =
    let z : ◌≡◌ {A = ℕ} 0 24 = ap length (h [] (event_back []) refl) ∙ event_words_length (event (event_back [])) in
    omega (arith, z)

reads_late_claim : GivesTyped reads_late → ⊥
reads_late_claim h = omega (arith, h (event_words (event late_end)) late_end (rw same_self))

pub back_fakes : BackFakes
back_fakes =
    record {
      reads_none_claim = reads_none_claim;
      reads_any_claim = reads_any_claim;
      reads_late_claim = reads_late_claim;
    }
