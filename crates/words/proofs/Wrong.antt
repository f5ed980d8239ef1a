-- What the contract rules out: each wrong reading of docs/WRONG-READINGS.md that is told here is an outcome that the definition does not allow, at a small event.
use mathlib.Core.Path.{◌≡◌, ap, sym, ◌∙◌}
use mathlib.Core.List.{List, [], ◌∷◌}
use mathlib.Core.Option.{some}
use Prim.Native.Nat.{ℕ, ◌≤◌}
use native.Mathlib.Omega.{arith}
use lib.IntN.{ℤ, negsuc}
use lib.ListN.{get_or}
use Rattle.std.specs.Prelude.{Result, Ok, Option, Some, None}
use Rattle.streaming.specs.declared.ReadError.{ReadError}
use Rattle.value.specs.declared.Value.{Value}
use Rattle.value.specs.declared.Value.TheVariants as ValueC
use Rattle.streaming.specs.Answers.{said, parse_event}
use Rattle.streaming.specs.declared.ParseEvent.{ParseEvent}
use Rattle.streaming.specs.declared.ParseEvent.TheVariants as EventC
use Rattle.refusals.specs.declared.Span.{Span}
use Rattle.streaming.specs.Next.{MessageEvent, start_event, entry_event, end_event, event}
use Rattle.words.specs.Words.{with_zeros, event_words}
use Rattle.words.specs.Back.{event_of}
use Rattle.words.specs.Answers.{opt_event}
use Rattle.words.proofs.Back.{back_claims}

-- an entry of this scaler and value, whose name of six bytes stands at 84; nothing else is there
abbrev scaled : Option ℤ → Value → Result (Option ParseEvent) ReadError
scaled scaler value =
    Ok (Some
    (EventC.ListEntry
    (record {
      obj_name = record { start = 84; len = 6 };
      status = None;
      val_time = None;
      unit = None;
      scaler = scaler;
      value = value;
      value_signature = None;
    })))

-- no scaler is 0 and 0, not 1 and 0
absent_scaler_is_zero_present : (r : List ℕ) → get_or r 10 0 ≡ 1 → r ≡ event_words (said (scaled None (ValueC.U8 7))) → ⊥
unfolding with_zeros
absent_scaler_is_zero_present r wrong h = let n : ◌≡◌ {A = ℕ} 1 0 = sym wrong ∙ ap (λ (l : List ℕ). get_or l 10 0) h in omega (arith, n)

-- a scaler of -1 has all 64 bits, not its byte's eight
scaler_below_zero_as_a_byte : (r : List ℕ) → get_or r 11 0 ≡ 255 → r ≡ event_words (said (scaled (Some (negsuc 0)) (ValueC.U8 7))) → ⊥
unfolding with_zeros
scaler_below_zero_as_a_byte r wrong h = let n : ◌≡◌ {A = ℕ} 255 18446744073709551615 = sym wrong ∙ ap (λ (l : List ℕ). get_or l 11 0) h in omega (arith, n)

-- ---- the way back

-- the first word of an event is 1, 2 or 3
first_word : (e : MessageEvent Span) (n : ℕ) → n ≡ get_or (event_words (event e)) 0 0 → (1 ≤ n) × (n ≤ 3)
unfolding with_zeros
first_word (start_event m) n h = (omega (arith, h), omega (arith, h))
first_word (entry_event x) n h = (omega (arith, h), omega (arith, h))
first_word (end_event x) n h = (omega (arith, h), omega (arith, h))

pub never_zeros : (e : MessageEvent Span) → some e ≡ event_of (with_zeros 24 (0 ∷ [])) → ⊥
unfolding with_zeros
never_zeros e h = let f = first_word e 0 (ap (λ (l : List ℕ). get_or l 0 0) (back_claims.theirs (with_zeros 24 (0 ∷ [])) e (sym h))) in omega (arith, f.0)

zeros_are_an_event : (e : ParseEvent) → opt_event (Some e) ≡ event_of (with_zeros 24 (0 ∷ [])) → ⊥
zeros_are_an_event e h = never_zeros (parse_event e) h

refusal_is_an_event : (e : ParseEvent) → opt_event (Some e) ≡ event_of (with_zeros 24 (4 ∷ 12 ∷ 0 ∷ 7 ∷ [])) → ⊥
unfolding with_zeros
refusal_is_an_event e h =
    let f = first_word (parse_event e) 4 (ap (λ (l : List ℕ). get_or l 0 0) (back_claims.theirs (with_zeros 24 (4 ∷ 12 ∷ 0 ∷ 7 ∷ [])) (parse_event e) (sym h))) in
    omega (arith, f.1)
