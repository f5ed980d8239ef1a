-- Where message_at refuses, a call refuses alike, and no call before it: of a reader at the message's first byte.
use mathlib.Core.Path.{◌≡◌, refl, ap, ◌∙◌, subst}
use mathlib.Core.Bool.{false}
use mathlib.Core.List.{List, [], ◌∷◌}
use mathlib.Core.Option.{some}
use Prim.Native.Nat.{ℕ, zero, suc, ◌<◌}
use native.Mathlib.Omega.{arith}
use lib.ListN.{length}
use Rattle.refusals.specs.Read.{Read, refused, Refusal}
use Rattle.refusals.specs.declared.Span.{Span}
use Rattle.streaming.specs.Next.{Said, event, no_event, failed, alone}
use Rattle.events.specs.Message.{Message, message_at}
use Rattle.events.specs.Events.{Answers, nth, answer, messages_from}
use Rattle.events.specs.Telling.{message_events, is_refused, first_refusal, Tells, RefusesFirst}
use Rattle.events.specs.Calls.{call}
use Rattle.events.proofs.Calls.{SoundReader, messages_give}
use Rattle.events.proofs.Whole.{message_tells}

one_more_said : (x : Said) (l : List Said) (later : Said) (f : Refusal) → is_refused x ≡ false → RefusesFirst (nth l later) f → RefusesFirst (nth (x ∷ l) later) f
unfolding nth
one_more_said x l later f other r = record { k = suc r.k; refuses = r.refuses; before = past }
  where
    past : (j : ℕ) → j < suc r.k → is_refused (nth (x ∷ l) later j) ≡ false
    past zero h = other
    past (suc j) h = r.before j (omega arith)

first : (l : List Said) (later : Said) (f : Refusal) → first_refusal l ≡ some f → RefusesFirst (nth l later) f
unfolding first_refusal nth
first [] later f e = let z : ◌≡◌ {A = ℕ} 0 1 = cc in absurd (omega arith)
first (event x ∷ l) later f e = one_more_said (event x) l later f refl (first l later f e)
first (no_event ∷ l) later f e = one_more_said no_event l later f refl (first l later f e)
first (failed g ∷ l) later f e = let same : g ≡ f = cc in record { k = 0; refuses = ap failed same; before = λ j h. absurd (omega arith) }
first (alone n ∷ l) later f e = let z : ◌≡◌ {A = ℕ} 0 1 = cc in absurd (omega arith)

pub message_refuses : (s : List ℕ) (at start : ℕ) (f : Refusal) → SoundReader s at start 0 → at < length s → message_at s at ≡ refused f → RefusesFirst (λ k. call k s at start 0) f
unfolding answer
message_refuses s at start f h lt e =
    let a : Answers = messages_from (suc (length s)) s at in
    let t : Tells message_events (refused f) a (messages_from (length s) s) = subst (λ (r : Read (Message Span)). Tells message_events r a (messages_from (length s) s)) e (message_tells (length s) s at lt) in
    let g = messages_give (suc (length s)) at start h (omega arith) in
    let r = first a.first a.later f t.tells in
    record { k = r.k; refuses = g.gives r.k ∙ r.refuses; before = λ j l. ap is_refused (g.gives j) ∙ r.before j l }
