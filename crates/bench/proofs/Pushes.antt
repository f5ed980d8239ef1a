-- The payloads counted so far, and those of the bytes that a push or a push of a slice takes.
use mathlib.Core.Path.{◌≡◌, refl, ap, sym, ◌∙◌}
use mathlib.Core.Bool.{true, false, cond}
use Rattle.std.specs.Prelude.{Ok, Err}
use mathlib.Core.List.{List, [], ◌∷◌, ◌++◌}
use Prim.Native.Nat.{ℕ, ◌+◌, ◌-◌, ◌<◌, ◌≤◌}
use native.Mathlib.Omega.{arith}
use native.Mathlib.Nat.{add-zero}
use lib.ListN.{length, get_or, take, drop, take-append-drop, drop_of_length-le, length-drop}
use lib.Seq.{length-take-le, drop-append-le, drop-drop}
use Rattle.refusals.proofs.Places.{from_place}
use Rattle.decoder.specs.Record as D
use Rattle.decoder.specs.Record.{DecoderAnswer, Event, After, after, refusal, answer_of, bad_decoder, push_record}
use Rattle.decoder.specs.declared.Decoder.{Decoder}
use Rattle.decoder.specs.declared.Pushed.{Pushed}
use Rattle.decoder_slice.specs.Slice.{Took, after_slice, slice_record}
use Rattle.decoder_slice.specs.declared.Sliced.{Sliced}
use Rattle.decoder_slice.proofs.Taken.{taken_le, none_took, none_taken, goes_on_claim}
use Rattle.bench.specs.Bench.{counted, one, payloads_from}

-- an event is a payload whatever its bytes
same_one : (e : Event) (bytes : List ℕ) → one (answer_of e []) ≡ one (answer_of e bytes)
same_one (Ok true) bytes = refl
same_one (Ok false) bytes = refl
same_one (Err e) bytes = refl

first : (n : ℕ) (d : Decoder) (m : List ℕ) (b : ℕ) (bs : List ℕ)
    → payloads_from (n + one (push_record d m b).answer) (push_record d m b).decoder (push_record d m b).memory bs ≡ payloads_from n d m (b ∷ bs)
unfolding payloads_from
first n d m b bs = refl

pub all_counted : (n : ℕ) (d : Decoder) (m bs : List ℕ) (i : ℕ) → length bs ≤ i → payloads_from n d m (drop i bs) ≡ counted n m
unfolding payloads_from
all_counted n d m bs i h = rw drop_of_length-le

-- one byte
pub push_next : (n : ℕ) (d : Decoder) (m bs : List ℕ) (i k : ℕ) (r : Pushed) (l : List ℕ) → i < length bs → D.after_push r l ≡ push_record d m (get_or bs i 0) → k ≡ one (answer_of r.event [])
    → payloads_from (n + k) r.decoder l (drop (i + 1) bs) ≡ payloads_from n d m (drop i bs)
push_next n d m bs i k r l h e c =
    ap (λ (x : ℕ). payloads_from (n + x) r.decoder l (drop (i + 1) bs)) (c ∙ same_one r.event _)
    ∙ ap (λ (a : After). payloads_from (n + one a.answer) a.decoder a.memory (drop (i + 1) bs)) e
    ∙ first n d m (get_or bs i 0) (drop (i + 1) bs) ∙ ap (payloads_from n d m) (sym (from_place bs i h))

-- pushes that are all refused
all_refused : (bs : List ℕ) (n : ℕ) (d : Decoder) (m : List ℕ) → ((b : ℕ) → push_record d m b ≡ after (refusal (cond (bad_decoder d) 4 5) []) d m) → counted n m ≡ payloads_from n d m bs
unfolding payloads_from
all_refused [] n d m h = refl
all_refused (b ∷ bs) n d m h =
    ap (λ (x : ℕ). counted x m) (sym (add-zero n)) ∙ all_refused bs (n + 0) d m h
    ∙ ap (λ (a : After). payloads_from (n + one a.answer) a.decoder a.memory bs) (sym (h b))

-- the part of s from i on to e is pushed
module _ (n : ℕ) (d : Decoder) (m s : List ℕ) (i e : ℕ) (r : Sliced) (l : List ℕ) (said : after_slice r l ≡ slice_record d m (take (e - i) (drop i s))) (some : i < e) (in-s : e ≤ length s) where
  abbrev part : List ℕ
  part = take (e - i) (drop i s)

  abbrev rest : List ℕ
  rest = drop (e - i) (drop i s)

  as_long : length part ≡ e - i
  as_long = length-take-le (e - i) (drop i s) (omega (arith, length-drop i s))

  taken_is : r.taken ≡ (slice_record d m part).taken
  taken_is = ap (λ (t : Took). t.taken) said

  taken_part : (slice_record d m part).taken ≤ length part
  taken_part = taken_le d m part

  pub taken_room : i + r.taken ≤ length s
  taken_room = omega (arith, taken_is, taken_part, as_long)

  -- what is left is what the push left of its part, and the rest
  left_over_lem : drop (i + r.taken) s ≡ drop r.taken part ++ rest
  left_over_lem =
      sym (drop-drop r.taken i s) ∙ ap (drop r.taken) (sym (take-append-drop (e - i) (drop i s)))
      ∙ drop-append-le r.taken part rest (omega (arith, taken_is, taken_part))

  pub slice_next : (k : ℕ) → k ≡ one (answer_of r.event []) → (r.taken ≡ 0 → ⊥) → payloads_from (n + k) r.decoder l (drop (i + r.taken) s) ≡ payloads_from n d m (drop i s)
  slice_next k c h =
      ap (λ (x : ℕ). payloads_from (n + x) r.decoder l (drop (i + r.taken) s)) (c ∙ same_one r.event _)
      ∙ ap (payloads_from (n + one (after_slice r l).answer) r.decoder l) left_over_lem
      ∙ ap (λ (t : Took). payloads_from (n + one t.answer) t.decoder t.memory (drop t.taken part ++ rest)) said
      ∙ goes_on_claim (λ d₁ m₁ cs. payloads_from n d₁ m₁ (cs ++ rest)) (λ a d₁ m₁ cs. payloads_from (n + one a) d₁ m₁ (cs ++ rest)) (λ d₁ m₁ b cs. first n d₁ m₁ b (cs ++ rest))
      (λ d₁ m₁ cs. ap (λ (x : ℕ). payloads_from x d₁ m₁ (cs ++ rest)) (add-zero n)) d m part (λ z. h (taken_is ∙ z))
      ∙ ap (payloads_from n d m) (take-append-drop (e - i) (drop i s))

  pub slice_stop : r.taken ≡ 0 → counted n l ≡ payloads_from n d m (drop i s)
  slice_stop z =
      let one_left : 0 < length part = omega (arith, as_long) in
      let none = sym taken_is ∙ z in
      ap (λ (t : Took). counted n t.memory) (said ∙ none_took d m part one_left none)
      ∙ all_refused (drop i s) n d m (none_taken d m part one_left none)
