-- Strings within the strings, one after the other.
use mathlib.Core.Path.{◌≡◌, refl}
use mathlib.Core.List.{List, [], ◌∷◌}
use mathlib.Core.Bool.{Bool, true, false, cond}
use mathlib.Core.Option.{Option, some, none}
use Prim.Native.Nat.{ℕ}
use Rattle.refusals.specs.declared.Span.{Span}
use Rattle.octet_string.specs.Strings.{span_within}
use Rattle.value.specs.Values.{Value, truth, bytes, signed, unsigned, list_time}
use Rattle.streaming.specs.Meaning.{opt, value_strings}
use Rattle.writer.specs.Calls.{all_within}

either_way : (b : Bool) → cond b true false ≡ b
either_way true = refl
either_way false = refl

pub within_none : (s : List ℕ) → all_within s [] ≡ true
unfolding all_within
within_none s = refl

pub within_first : (s : List ℕ) (p : Span) (l : List Span) → all_within s (p ∷ l) ≡ cond (span_within s p) (all_within s l) false
unfolding all_within
within_first s p l = refl

pub within_one : (s : List ℕ) (p : Span) → all_within s (p ∷ []) ≡ span_within s p
unfolding all_within
within_one s p = either_way (span_within s p)

-- an optional string before others
pub within_opt : (s : List ℕ) (m : Option Span) (l : List Span) → all_within s (opt m l) ≡ cond (all_within s (opt m [])) (all_within s l) false
within_opt s (some p) l = rw (within_one s p) (within_first s p l)
within_opt s none l = rw (within_none s)

-- the string of a value, if it has one, before others
pub within_value : (s : List ℕ) (v : Value Span) (l : List Span) → all_within s (value_strings v l) ≡ cond (all_within s (value_strings v [])) (all_within s l) false
within_value s (bytes p) l = rw (within_one s p) (within_first s p l)
within_value s (truth b) l = rw (within_none s)
within_value s (signed w z) l = rw (within_none s)
within_value s (unsigned w n) l = rw (within_none s)
within_value s (list_time n) l = rw (within_none s)
