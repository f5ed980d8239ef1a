-- What is read from words that are an event's is the event, and what is taken has these words and stands within its types.
use mathlib.Core.Path.{◌≡◌, refl, sym, ap, subst, ◌∙◌}
use mathlib.Core.Bool.{Bool, true, false, cond, ◌&&◌}
use mathlib.Core.List.{List, [], ◌∷◌}
use mathlib.Core.Option.{Option, some, none}
use Prim.Native.Nat.{ℕ, suc, ◌+◌, ◌-◌, ◌/◌, ◌^◌, ◌≤◌, ◌<◌}
use native.Mathlib.Omega.{arith}
use lib.IntN.{ℤ, pos, negsuc}
use lib.Dec.{eqb}
use lib.Pointwise.{pointwise}
use lib.Signed.{mag}
use borrow.Author.Tests.{lt-ltb, le-ltb}
use Rattle.refusals.specs.declared.Span.{Span}
use Rattle.frame.specs.Frame.{same}
use Rattle.frame.proofs.Cases.{by_eq, by_le, by_lt}
use Rattle.frame.proofs.Same.{same_true, same_self}
use Rattle.numbers.proofs.Numbers.{pow_up}
use Rattle.value.specs.Values.{narrowest, Status, Value, truth, bytes, signed, unsigned, list_time}
use Rattle.common.specs.Fields.{ListEntry}
use Rattle.message.specs.Messages.{MessageStart, ListEnd, Body, open_body, close_body, list_body}
use Rattle.streaming.specs.Next.{MessageEvent, start_event, entry_event, end_event, event}
use Rattle.words.specs.Words.{twos_complement, start_words, end_words, entry_words, with_zeros, event_words}
use Rattle.words.specs.Back.{word_at, bounded, signed_bounded, number_back, signed_back, status_back, field_in, signed_value_back, unsigned_value_back, value_back, body_back, event_back, event_of}
use Rattle.words.specs.Claims.{IfThere, OfBytes, IsWidth, StatusInType, ValueInType, BodyInTypes, EntryInTypes, EventInTypes, TakesEvents, TakesOnlyTheirs, GivesTyped, BackClaims}
use Rattle.words.proofs.Parts.{present_word, part_in, span_words_lem, span_back, number_words, status_words_lem, scaler_words, word_of, value_words_lem}

-- ---- the code's two outcomes

and_test : (s t : Bool) → (s && t) ≡ cond s t false
and_test true t = refl
and_test false t = refl

pointwise_same : (a b : List ℕ) → pointwise eqb a b ≡ same a b
unfolding same
pointwise_same [] [] = refl
pointwise_same [] (y ∷ b) = refl
pointwise_same (x ∷ a) [] = refl
pointwise_same (x ∷ a) (y ∷ b) = rw (pointwise_same a b) (and_test (eqb x y) (same a b))

module _ (e : MessageEvent Span) (w v : List ℕ) (is : e ≡ event_back w) (theirs : v ≡ event_words (event e)) where
  pub words_kept : true ≡ pointwise eqb v w → some e ≡ event_of w
  unfolding event_of
  words_kept h = rw (← is, ← theirs, ← pointwise_same v w, ← h)

  pub words_left : false ≡ pointwise eqb v w → none ≡ event_of w
  unfolding event_of
  words_left h = rw (← is, ← theirs, ← pointwise_same v w, ← h)

-- ---- numbers

bounded_back : (bound n : ℕ) → n < bound → bounded bound n ≡ n
bounded_back bound n h = rw (lt-ltb n bound h)

half_small : (width : ℕ) → IsWidth width → 256 ^ width / 2 ≤ 2 ^ 63
half_small width h = let p : 256 ^ width ≤ 256 ^ 8 = pow_up width 8 (subst (λ (n : ℕ). n ≤ 8) h (width_small width)) in omega (arith, p)
  where
    width_small : (n : ℕ) → narrowest n ≤ 8
    width_small n = by_le (λ (m : ℕ). m ≤ 8) n 1 1 _ (λ h. omega arith) (λ h. by_le (λ (m : ℕ). m ≤ 8) n 2 2 _ (λ h. omega arith) (λ h. by_le (λ (m : ℕ). m ≤ 8) n 4 4 8 (λ h. omega arith) (λ h. omega arith)))

signed_bounded_back : (bound : ℕ) (z : ℤ) → bound ≤ 2 ^ 63 → mag z < bound → signed_bounded bound (twos_complement z) ≡ z
signed_bounded_back bound (pos n) b h = rw (lt-ltb n bound h)
signed_bounded_back bound (negsuc n) b h =
    let back : 2 ^ 64 - 1 - (2 ^ 64 - suc n) ≡ n = omega arith in
    rw (le-ltb (2 ^ 64 - suc n) bound (omega arith), back, lt-ltb n bound h)

-- ---- fields

number_field_back : (width : ℕ) (o : Option ℕ) → IfThere (OfBytes width) o → cond (eqb (present_word o) 1) (some (bounded (256 ^ width) (part_in (λ n. n) o))) none ≡ o
unfolding present_word part_in
number_field_back width (some n) h = ap some (bounded_back (256 ^ width) n h)
number_field_back width none h = refl

status_field_back : (o : Option Status) → IfThere StatusInType o
    → cond (eqb (present_word o) 1) (some (status_back (part_in (λ s. s.width) o ∷ part_in (λ s. s.number) o ∷ []) 0)) none ≡ o
unfolding present_word part_in
status_field_back (some x) h = rw (h.0, bounded_back (256 ^ x.width) x.number h.1)
status_field_back none h = refl

scaler_field_back : (o : Option ℤ) → IfThere (λ z. mag z < 256 ^ 1 / 2) o → cond (eqb (present_word o) 1) (some (signed_bounded (256 ^ 1 / 2) (part_in twos_complement o))) none ≡ o
unfolding present_word part_in
scaler_field_back (some z) h = ap some (signed_bounded_back (256 ^ 1 / 2) z (omega arith) h)
scaler_field_back none h = refl

value_field_back : (v : Value Span) → ValueInType v → value_back (word_of v 0 ∷ word_of v 1 ∷ word_of v 2 ∷ word_of v 3 ∷ word_of v 4 ∷ []) 0 ≡ v
unfolding word_of
value_field_back (truth true) h = refl
value_field_back (truth false) h = refl
value_field_back (bytes s) h = refl
value_field_back (signed width z) h = rw (h.0, signed_bounded_back (256 ^ width / 2) z (half_small width h.0) h.1)
value_field_back (unsigned width n) h = rw (h.0, bounded_back (256 ^ width) n h.1)
value_field_back (list_time n) h = ap list_time (bounded_back (256 ^ 4) n h)

-- ---- events

body_words_back : (m : MessageStart Span) (b : Body Span) → m.message_body ≡ b → OfBytes 1 m.group_no → OfBytes 1 m.abort_on_error → BodyInTypes b → event_back (with_zeros 24 (start_words m)) ≡ start_event m
unfolding with_zeros event_back
body_words_back m (open_body b) e g a h =
    rw (
      e,
      bounded_back (256 ^ 1) m.group_no g,
      bounded_back (256 ^ 1) m.abort_on_error a,
      span_words_lem b.codepage,
      span_words_lem b.client_id,
      number_words b.ref_time,
      number_words b.sml_version,
      span_back b.codepage,
      span_back b.client_id,
      number_field_back 4 b.ref_time h.ref_time,
      number_field_back 1 b.sml_version h.sml_version,
    )
body_words_back m (close_body b) e g a h =
    rw (e, bounded_back (256 ^ 1) m.group_no g, bounded_back (256 ^ 1) m.abort_on_error a, span_words_lem b.global_signature, span_back b.global_signature)
body_words_back m (list_body b) e g a h =
    rw (
      e,
      bounded_back (256 ^ 1) m.group_no g,
      bounded_back (256 ^ 1) m.abort_on_error a,
      span_words_lem b.client_id,
      span_words_lem b.list_name,
      number_words b.act_sensor_time,
      span_back b.client_id,
      span_back b.list_name,
      number_field_back 4 b.act_sensor_time h.act_sensor_time,
      bounded_back (256 ^ 4) b.num_vals h.num_vals,
    )

list_end_words_back : (e : ListEnd Span) → IfThere (OfBytes 4) e.act_gateway_time → event_back (with_zeros 24 (end_words e)) ≡ end_event e
unfolding with_zeros event_back
list_end_words_back e h =
    rw (span_words_lem e.list_signature, number_words e.act_gateway_time, span_back e.list_signature, number_field_back 4 e.act_gateway_time h)

list_entry_words_back : (e : ListEntry Span) → EntryInTypes e → event_back (with_zeros 24 (entry_words e)) ≡ entry_event e
unfolding with_zeros event_back
list_entry_words_back e h =
    rw (
      status_words_lem e.status,
      number_words e.val_time,
      number_words e.unit,
      scaler_words e.scaler,
      value_words_lem e.value,
      span_words_lem e.value_signature,
      status_field_back e.status h.status,
      number_field_back 4 e.val_time h.val_time,
      number_field_back 1 e.unit h.unit,
      scaler_field_back e.scaler h.scaler,
      value_field_back e.value h.value,
      span_back e.value_signature,
    )

event_words_back : (e : MessageEvent Span) → EventInTypes e → event_back (event_words (event e)) ≡ e
event_words_back (start_event m) h = body_words_back m m.message_body refl h.group_no h.abort_on_error h.message_body
event_words_back (end_event e) h = list_end_words_back e h
event_words_back (entry_event e) h = list_entry_words_back e h

takes_events : TakesEvents event_of
unfolding event_of
takes_events e h = rw (event_words_back e h, same_self)

-- ---- what is taken

taken : (w : List ℕ) (e : MessageEvent Span) → event_of w ≡ some e → (same (event_words (event (event_back w))) w ≡ true) × (event_back w ≡ e)
unfolding event_of
taken w e h = by_answer (same (event_words (event (event_back w))) w) h
  where
    by_answer : (t : Bool) → cond t (some (event_back w)) none ≡ some e → (t ≡ true) × (event_back w ≡ e)
    by_answer true h = (refl, cc)
    by_answer false h = let z : ◌≡◌ {A = ℕ} 0 1 = cc in absurd (omega arith)

takes_only_theirs : TakesOnlyTheirs event_of
takes_only_theirs w e h =
    let p = taken w e h in
    sym (same_true _ _ p.0) ∙ ap (λ (x : MessageEvent Span). event_words (event x)) p.1

bounded_under : (bound n : ℕ) → 1 ≤ bound → bounded bound n < bound
bounded_under bound n h = by_lt (λ (m : ℕ). m < bound) n bound n 0 (λ g. g) (λ g. h)

signed_bounded_under : (bound n : ℕ) → 1 ≤ bound → mag (signed_bounded bound n) < bound
signed_bounded_under bound n h =
    by_lt (λ (z : ℤ). mag z < bound) n bound (pos n) _ (λ g. g)
    (λ g. by_lt (λ (z : ℤ). mag z < bound) (2 ^ 64 - 1 - n) bound (negsuc (2 ^ 64 - 1 - n)) (pos 0) (λ k. k) (λ k. h))

-- 1, 2, 4 or 8, and the powers of 256 that go with them
width_typed : (P : ℕ → Type 0) → P 1 → P 2 → P 4 → P 8 → (n : ℕ) → P (narrowest n)
width_typed P one two four eight n = by_le P n 1 1 _ (λ h. one) (λ h. by_le P n 2 2 _ (λ h. two) (λ h. by_le P n 4 4 8 (λ h. four) (λ h. eight)))

is_width : (n : ℕ) → IsWidth (narrowest n)
is_width = width_typed (λ n. narrowest n ≡ n) refl refl refl refl

some_bytes : (n : ℕ) → (1 ≤ 256 ^ narrowest n) × (1 ≤ 256 ^ narrowest n / 2)
some_bytes = width_typed (λ n. (1 ≤ 256 ^ n) × (1 ≤ 256 ^ n / 2)) (omega arith, omega arith) (omega arith, omega arith) (omega arith, omega arith) (omega arith, omega arith)

field_typed : {A : Type 0} (P : A → Type 0) (read : List ℕ → ℕ → A) (w : List ℕ) (k : ℕ) → P (read w (k + 1)) → IfThere P (field_in read w k)
field_typed P read w k p = by_eq (IfThere P) (word_at w k) 1 (some (read w (k + 1))) none (λ e. p) (λ e. tt)

number_typed : (width : ℕ) → 1 ≤ 256 ^ width → (w : List ℕ) (k : ℕ) → IfThere (OfBytes width) (field_in (number_back width) w k)
number_typed width h w k = field_typed (OfBytes width) (number_back width) w k (bounded_under (256 ^ width) (word_at w (k + 1)) h)

value_typed : (w : List ℕ) (k : ℕ) → ValueInType (value_back w k)
value_typed w k =
    by_eq ValueInType (word_at w k) 1 _ _ (λ e. tt) (λ e.
    by_eq ValueInType (word_at w k) 2 _ _ (λ e. tt) (λ e.
    by_eq ValueInType (word_at w k) 3 (signed_value_back (word_at w (k + 1)) (word_at w (k + 2))) _ (λ e. (is_width (word_at w (k + 1)), signed_bounded_under _ _ (some_bytes (word_at w (k + 1))).1)) (λ e.
    by_eq ValueInType (word_at w k) 4 (unsigned_value_back (word_at w (k + 1)) (word_at w (k + 2))) _ (λ e. (is_width (word_at w (k + 1)), bounded_under _ _ (some_bytes (word_at w (k + 1))).0))
    (λ e. bounded_under (256 ^ 4) (word_at w (k + 2)) (omega arith)))))

body_typed : (w : List ℕ) → BodyInTypes (body_back w)
body_typed w =
    by_eq BodyInTypes (word_at w 5) 1 _ _ (λ e. record { ref_time = number_typed 4 (omega arith) w 16; sml_version = number_typed 1 (omega arith) w 18 }) (λ e.
    by_eq BodyInTypes (word_at w 5) 2 _ _ (λ e. tt)
    (λ e. record { act_sensor_time = number_typed 4 (omega arith) w 14; num_vals = bounded_under (256 ^ 4) (word_at w 16) (omega arith) }))

event_typed : (w : List ℕ) → EventInTypes (event_back w)
unfolding event_back
event_typed w =
    by_eq EventInTypes (word_at w 0) 1 _ _ (λ e. record { group_no = bounded_under (256 ^ 1) (word_at w 3) (omega arith); abort_on_error = bounded_under (256 ^ 1) (word_at w 4) (omega arith); message_body = body_typed w }) (λ e.
    by_eq EventInTypes (word_at w 0) 2 _ _ (λ e. number_typed 4 (omega arith) w 4) (λ e.
    record {
      status = field_typed StatusInType status_back w 3 (is_width (word_at w 4), bounded_under _ _ (some_bytes (word_at w 4)).0);
      val_time = number_typed 4 (omega arith) w 6;
      unit = number_typed 1 (omega arith) w 8;
      scaler = field_typed (λ z. mag z < 256 ^ 1 / 2) (signed_back 1) w 10 (signed_bounded_under (256 ^ 1 / 2) (word_at w 11) (omega arith));
      value = value_typed w 12;
    }))

gives_typed : GivesTyped event_of
gives_typed w e h = subst EventInTypes (taken w e h).1 (event_typed w)

pub back_claims : BackClaims
back_claims =
    record {
      events = takes_events;
      theirs = takes_only_theirs;
      typed = gives_typed;
    }
