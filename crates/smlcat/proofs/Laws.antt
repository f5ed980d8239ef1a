-- The bytes fed so far, and those that a push of a slice takes.
use mathlib.Core.Path.{◌≡◌, refl, ap, sym, ◌∙◌}
use mathlib.Core.Bool.{cond}
use mathlib.Core.List.{List, [], ◌∷◌}
use Prim.Native.Nat.{ℕ, zero, suc, ◌+◌, ◌-◌, ◌<◌, ◌≤◌}
use native.Mathlib.Omega.{arith}
use lib.ListN.{length, take, drop, drop_of_length-le, length-drop}
use lib.Seq.{drop-drop}
use Rattle.decoder.specs.Record.{After, after, refusal, bad_decoder, push_record}
use Rattle.decoder.specs.declared.Decoder.{Decoder}
use Rattle.decoder_slice.specs.Slice.{Took, after_slice, slice_record}
use Rattle.decoder_slice.specs.declared.Sliced.{Sliced}
use Rattle.decoder_slice.proofs.Taken.{none_took, none_taken, goes_on_claim, part_pushed, part_taken, part_room}
use Rattle.smlcat.specs.Fed.{held, fed, StoppedIn}

one_byte : (d : Decoder) (m : List ℕ) (b : ℕ) (bs : List ℕ) → fed (push_record d m b).decoder (push_record d m b).memory bs ≡ fed d m (b ∷ bs)
unfolding fed
one_byte d m b bs = refl

-- pushes that are all refused
fed_refused : (bs : List ℕ) (d : Decoder) (m : List ℕ) → ((b : ℕ) → push_record d m b ≡ after (refusal (cond (bad_decoder d) 4 5) []) d m) → held d m ≡ fed d m bs
unfolding fed
fed_refused [] d m h = refl
fed_refused (b ∷ bs) d m h = fed_refused bs d m h ∙ ap (λ (a : After). fed a.decoder a.memory bs) (sym (h b))

pub fed_done : (d : Decoder) (m bs : List ℕ) (i : ℕ) → length bs ≤ i → fed d m (drop i bs) ≡ held d m
unfolding fed
fed_done d m bs i h = rw drop_of_length-le

-- the part of s from i on is pushed
module _ (d : Decoder) (m s : List ℕ) (i : ℕ) (r : Sliced) (n : List ℕ) (said : after_slice r n ≡ slice_record d m (take (length s - i) (drop i s))) (in-s : i < length s) where
  left : length (drop i s) ≡ length s - i
  left = length-drop i s

  part : after_slice r n ≡ slice_record d m (drop i s)
  part = part_pushed d m s i r n said

  taken_is : r.taken ≡ (slice_record d m (drop i s)).taken
  taken_is = part_taken d m s i r n said

  pub fed_on : (r.taken ≡ 0 → ⊥) → fed r.decoder n (drop (i + r.taken) s) ≡ fed d m (drop i s)
  fed_on h =
      ap (fed r.decoder n) (sym (drop-drop r.taken i s))
      ∙ ap (λ (t : Took). fed t.decoder t.memory (drop t.taken (drop i s))) part
      ∙ goes_on_claim fed (λ a e l cs. fed e l cs) one_byte (λ e l cs. refl) d m (drop i s) (λ z. h (taken_is ∙ z))

  pub fed_stop : r.taken ≡ 0 → held r.decoder n ≡ fed d m (drop i s)
  fed_stop z =
      let some : 0 < length (drop i s) = omega (arith, left) in
      let none = sym taken_is ∙ z in
      ap (λ (t : Took). held t.decoder t.memory) (part ∙ none_took d m (drop i s) some none)
      ∙ fed_refused (drop i s) d m (none_taken d m (drop i s) some none)

  -- where what was said can't be printed, the rest of s is still to come; where no byte was taken, none of it
  stop_leaves_by : (t : ℕ) → r.taken ≡ t → StoppedIn d m (drop i s) n
  stop_leaves_by zero z = (r.decoder, length (drop i s), omega arith, fed_done r.decoder n (drop i s) (length (drop i s)) (omega arith) ∙ fed_stop z)
  stop_leaves_by (suc t) z = (r.decoder, r.taken, omega (arith, left, part_room d m s i r n said in-s), ap (fed r.decoder n) (drop-drop r.taken i s) ∙ fed_on (λ f. omega (arith, f, z)))

  pub stop_leaves : StoppedIn d m (drop i s) n
  stop_leaves = stop_leaves_by r.taken refl

-- a stop behind a first part of the bytes is one in all of them
pub stopped_on : (d d' : Decoder) (m m' s n : List ℕ) (i : ℕ) → i ≤ length s → fed d m (drop i s) ≡ fed d' m' s → StoppedIn d m (drop i s) n → StoppedIn d' m' s n
stopped_on d d' m m' s n i h e w = (w.0, i + w.1, omega (arith, length-drop i s, w.2), ap (fed w.0 n) (sym (drop-drop w.1 i s)) ∙ w.3 ∙ e)
