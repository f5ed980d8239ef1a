-- What each call says in numbers, from what the call below it says.
use mathlib.Core.Path.{◌≡◌, refl, ap, ◌∙◌}
use mathlib.Core.Bool.{Bool, true, false}
use mathlib.Core.List.{List, [], ◌∷◌}
use Prim.Native.Nat.{ℕ}
use native.Mathlib.Nat.{min-eq_left, min-eq_right, le_of_lt}
use native.Mathlib.Omega.{arith}
use lib.ListN.{length, get_or, take, length-take}
use lib.Dec.{ltb}
use lib.Seq.{sets}
use borrow.Author.Tests.{le-ltb, ltb-true, ltb-false}
use Rattle.std.specs.Prelude.{Ok, Err}
use Rattle.decoder.specs.Record.{Event, answer_of}
use Rattle.decoder.proofs.Split.{cases}
use Rattle.packed.specs.Layout.{number_at_claim}
use Rattle.packed.specs.Packed.{tried, plain_packed}
use Rattle.packed.proofs.Plain.{did_push, did_not}
use Rattle.sartrogheo.specs.Calls.{Reply, reply, answer_no, answer_values, sgh_push_byte}
use Rattle.sartrogheo.specs.Cut.{event_no, event_values, fill_in}

-- four values written at once
pub four_over : (l vs : List ℕ) → length l ≡ 4 → length vs ≡ 4 → vs ≡ sets l 0 vs
four_over (a ∷ b ∷ c ∷ d ∷ []) (p ∷ q ∷ r ∷ s ∷ []) h k = refl
four_over [] vs h k = absurd (omega (arith, h))
four_over (a ∷ []) vs h k = absurd (omega (arith, h))
four_over (a ∷ b ∷ []) vs h k = absurd (omega (arith, h))
four_over (a ∷ b ∷ c ∷ []) vs h k = absurd (omega (arith, h))
four_over (a ∷ b ∷ c ∷ d ∷ e ∷ l) vs h k = absurd (omega (arith, h))
four_over (a ∷ b ∷ c ∷ d ∷ []) [] h k = absurd (omega (arith, k))
four_over (a ∷ b ∷ c ∷ d ∷ []) (p ∷ []) h k = absurd (omega (arith, k))
four_over (a ∷ b ∷ c ∷ d ∷ []) (p ∷ q ∷ []) h k = absurd (omega (arith, k))
four_over (a ∷ b ∷ c ∷ d ∷ []) (p ∷ q ∷ r ∷ []) h k = absurd (omega (arith, k))
four_over (a ∷ b ∷ c ∷ d ∷ []) (p ∷ q ∷ r ∷ s ∷ t ∷ vs) h k = absurd (omega (arith, k))

pub four_taken : (l vs : List ℕ) → length l ≡ 4 → length vs ≡ 4 → get_or vs 0 0 ∷ get_or vs 1 0 ∷ get_or vs 2 0 ∷ get_or vs 3 0 ∷ [] ≡ sets l 0 vs
four_taken l (p ∷ q ∷ r ∷ s ∷ []) h k = four_over l (p ∷ q ∷ r ∷ s ∷ []) h k
four_taken l [] h k = absurd (omega (arith, k))
four_taken l (p ∷ []) h k = absurd (omega (arith, k))
four_taken l (p ∷ q ∷ []) h k = absurd (omega (arith, k))
four_taken l (p ∷ q ∷ r ∷ []) h k = absurd (omega (arith, k))
four_taken l (p ∷ q ∷ r ∷ s ∷ t ∷ vs) h k = absurd (omega (arith, k))

-- a payload's number doesn't depend on its bytes, nor its length on more than how many they are
pub no_told : (e : Event) (p : List ℕ) → event_no e ≡ answer_no (answer_of e p)
no_told (Ok false) p = refl
no_told (Ok true) p = refl
no_told (Err e) p = refl

values_told : (e : Event) (p : List ℕ) → event_values e (length p) ≡ answer_values (answer_of e p)
values_told (Ok false) p = refl
values_told (Ok true) p = refl
values_told (Err e) p = refl

fill_told : (l m : List ℕ) → fill_in l (length m) ≡ length (take (number_at_claim l 8 4) m)
unfolding fill_in
fill_told l m =
    cases (ltb (number_at_claim l 8 4) (length m))
    (λ t. rw (t, length-take (number_at_claim l 8 4) m, min-eq_left (le_of_lt (ltb-true _ _ t))))
    (λ t. rw (t, length-take (number_at_claim l 8 4) m, min-eq_right (ltb-false _ _ t)))

pub long_told : (e : Event) (l m : List ℕ) → event_values e (fill_in l (length m)) ≡ answer_values (answer_of e (take (number_at_claim l 8 4) m))
long_told e l m = ap (event_values e) (fill_told l m) ∙ values_told e _

-- finalize hands out no payload
pub none_told : (e : Event) (l : List ℕ) → event_values e (fill_in l 0) ≡ answer_values (answer_of e [])
unfolding fill_in
none_told e l = rw (le-ltb (number_at_claim l 8 4) 0 (omega arith)) (values_told e [])

-- a byte was pushed the short way, or not
module _ (did : Bool) (l m l' m' v : List ℕ) (b : ℕ) (q : tried did l' m' ≡ plain_packed l m b) where
  pub plain_told : did ≡ true → reply 0 (l' ∷ m' ∷ v ∷ []) ≡ sgh_push_byte l m b v
  unfolding sgh_push_byte
  plain_told t = rw (← did_push l m l' m' b (rw t at q))

  pub any_told : did ≡ false → (a : Reply) → a ≡ sgh_push_byte l' m' b v → a ≡ sgh_push_byte l m b v
  any_told f a e =
      let same = did_not l m l' m' b (rw f at q) in
      rw (same.0, same.1) at e
