-- What an event's numbers say is the event: every field is read back.
use mathlib.Core.Path.{◌≡◌, refl, ap}
use mathlib.Core.Bool.{true, false, cond}
use mathlib.Core.List.{List}
use mathlib.Core.Option.{Option, some, none}
use Prim.Native.Nat.{ℕ, zero, suc, ◌+◌, ◌*◌, ◌-◌, ◌^◌, ◌≤◌, ◌<◌}
use native.Mathlib.Omega.{arith}
use lib.IntN.{ℤ, pos, negsuc}
use lib.Dec.{eqb, ltb, leb}
use lib.Signed.{mag}
use lib.ListN.{length}
use borrow.Author.Tests.{eq-eqb, lt-ltb, le-ltb, ne_eqb, ltb-true, ltb-false}
use Rattle.refusals.specs.Numbers.{limit}
use Rattle.refusals.specs.Read.{Read, got, refused, Refusal}
use Rattle.refusals.proofs.Read.{Ok, ok_any, ok_got, ok_at, ok_then, ok_guard, ok_cond}
use Rattle.refusals.specs.declared.Span.{Span}
use Rattle.frame.proofs.Same.{same_self}
use Rattle.tlf.specs.Lengths.{tlf_at, list_of_at}
use Rattle.tlf.specs.declared.Ty.{Ty}
use Rattle.tlf.specs.declared.Ty.TheVariants.{OctetString, Boolean, Integer, Unsigned, ListOf}
use Rattle.numbers.specs.Numbers.{bytes_at_claim, raw_from, raw_at, unsigned_at, signed_of, signed_at, bool_at}
use Rattle.numbers.proofs.Numbers.{fits_high, pow_up}
use Rattle.octet_string.specs.Strings.{octets_at}
use Rattle.octet_string.specs.Optional.{absent_at, optional}
use Rattle.value.specs.Values.{time_at, narrowest, Status, status_at, Value, truth, bytes, signed, unsigned, list_time, signed_value, unsigned_value, list_type_at, value_of_claim, value_at}
use Rattle.common.specs.Fields.{ListEntry, entry_at}
use Rattle.decoder.proofs.Split.{cases}
use Rattle.message.specs.Messages.{MessageStart, ListEnd, Body, open_body, close_body, list_body, start_at, list_end_at}
use Rattle.trailer.specs.Trailer.{trailer_at}
use Rattle.streaming.specs.Next.{start_event, entry_event, end_event, Said, event, no_event, failed, alone, ReaderAfter, onward, is_sound, begin_at, trailer_next, end_next, entry_next, step_at, next_at}
use Rattle.places.specs.Stands.{Stands, over, bad_length, unwanted, message_tag, time_tag, other_crc, other_end}
use Rattle.places.specs.Calls.{CallBroke, in_start, in_trailer, in_next_start, in_list_end, in_entry}
use Rattle.places.proofs.Calls.{call_broke}
use Rattle.words.specs.Words.{twos_complement, start_words, end_words, entry_words, with_zeros, event_words}
use Rattle.words.proofs.Parts.{present_word, part_in, span_words_lem, span_back, number_words, status_words_lem, scaler_words, word_of, value_words_lem}
use Rattle.sartrogheo.specs.Streams.{reader_no}
use Rattle.marks.specs.Library.{event_in, said_by, heard_event}

-- ---- numbers below 0

-- a number of 64 bits with its sign
abbrev pub InRange : ℤ → Type 0
InRange z = mag z < 2 ^ 63

-- what a word says in two's complement
signed_by : ℕ → ℤ
signed_by w = cond (ltb w (2 ^ 63)) (pos w) (negsuc (2 ^ 64 - 1 - w))

signed_back_lem : (z : ℤ) → InRange z → signed_by (twos_complement z) ≡ z
unfolding signed_by
signed_back_lem (pos n) h = rw (lt-ltb n (2 ^ 63) h)
signed_back_lem (negsuc n) h = rw (le-ltb (2 ^ 64 - suc n) (2 ^ 63) (omega arith)) (ap negsuc (omega arith))

-- ---- fields

number_back_lem : (o : Option ℕ) → cond (eqb (present_word o) 1) (some (part_in (λ n. n) o)) none ≡ o
unfolding present_word part_in
number_back_lem (some x) = refl
number_back_lem none = refl

status_back_lem : (o : Option Status) → cond (eqb (present_word o) 1) (some (record { width = part_in (λ s. s.width) o; number = part_in (λ s. s.number) o })) none ≡ o
unfolding present_word part_in
status_back_lem (some x) = refl
status_back_lem none = refl

-- a scaler
abbrev pub FieldInRange : Option ℤ → Type 0
FieldInRange (some z) = InRange z
FieldInRange none = Unit {0}

scaler_back : (o : Option ℤ) → FieldInRange o → cond (eqb (present_word o) 1) (some (signed_by (part_in twos_complement o))) none ≡ o
unfolding present_word part_in
scaler_back (some z) h = ap some (signed_back_lem z h)
scaler_back none h = refl

-- ---- events

pub end_back_heard : (e : ListEnd Span) → event_in (with_zeros 24 (end_words e)) ≡ end_event e
unfolding with_zeros
end_back_heard e = rw (span_words_lem e.list_signature, number_words e.act_gateway_time, span_back e.list_signature, number_back_lem e.act_gateway_time)

body_back_heard : (m : MessageStart Span) (b : Body Span) → m.message_body ≡ b → event_in (with_zeros 24 (start_words m)) ≡ start_event m
unfolding with_zeros
body_back_heard m (open_body b) e =
    rw (
      e,
      span_words_lem b.codepage,
      span_words_lem b.client_id,
      number_words b.ref_time,
      number_words b.sml_version,
      span_back b.codepage,
      span_back b.client_id,
      number_back_lem b.ref_time,
      number_back_lem b.sml_version,
    )
body_back_heard m (close_body b) e = rw (e, span_words_lem b.global_signature, span_back b.global_signature)
body_back_heard m (list_body b) e =
    rw (e, span_words_lem b.client_id, span_words_lem b.list_name, number_words b.act_sensor_time, span_back b.client_id, span_back b.list_name, number_back_lem b.act_sensor_time)

-- a value, in the five words that it takes
value_by : ℕ → ℕ → ℕ → ℕ → ℕ → Value Span
value_by kind width number start len =
    cond (eqb kind 1) (truth (eqb number 1))
    (cond (eqb kind 2) (bytes (record { start = start; len = len }))
    (cond (eqb kind 3) (signed width (signed_by number))
    (cond (eqb kind 4) (unsigned width number) (list_time number))))

abbrev pub ValueInRange : Value Span → Type 0
ValueInRange (truth b) = Unit {0}
ValueInRange (bytes p) = Unit {0}
ValueInRange (signed width z) = InRange z
ValueInRange (unsigned width n) = Unit {0}
ValueInRange (list_time n) = Unit {0}

pub record EntryInRange (e : ListEntry Span) : Type 0 where
  pub scaler' : FieldInRange e.scaler
  pub value' : ValueInRange e.value

value_words_back : (v : Value Span) → ValueInRange v → value_by (word_of v 0) (word_of v 1) (word_of v 2) (word_of v 3) (word_of v 4) ≡ v
unfolding word_of value_by
value_words_back (truth true) h = refl
value_words_back (truth false) h = refl
value_words_back (bytes p) h = refl
value_words_back (signed width z) h = ap (signed width) (signed_back_lem z h)
value_words_back (unsigned width n) h = refl
value_words_back (list_time n) h = refl

entry_words_back : (e : ListEntry Span) → EntryInRange e → event_in (with_zeros 24 (entry_words e)) ≡ entry_event e
unfolding with_zeros signed_by value_by
entry_words_back e h =
    rw (
      status_words_lem e.status,
      number_words e.val_time,
      number_words e.unit,
      scaler_words e.scaler,
      value_words_lem e.value,
      span_words_lem e.value_signature,
      status_back_lem e.status,
      number_back_lem e.val_time,
      number_back_lem e.unit,
      scaler_back e.scaler h.scaler',
      value_words_back e.value h.value',
      span_back e.value_signature,
    )

-- ---- what a call says

-- a refusal's number: neither 0 nor 101
abbrev pub IsRefusal : ℕ → Type 0
IsRefusal n = (1 ≤ n) × (n < 100)

pub not_good : (n : ℕ) → IsRefusal n → eqb n 0 ≡ false
not_good n h = ne_eqb n 0 (λ e. omega (arith, h, e))

pub not_finished : (n : ℕ) → IsRefusal n → eqb n 101 ≡ false
not_finished n h = ne_eqb n 101 (λ e. omega (arith, h, e))

-- what can be told in numbers; of a refusal with a place that is known otherwise
abbrev pub Tellable : Said → Type 0
Tellable (event (start_event m)) = Unit {0}
Tellable (event (end_event e)) = Unit {0}
Tellable (event (entry_event e)) = EntryInRange e
Tellable no_event = Unit {0}
Tellable (failed f) = Unit {0}
Tellable (alone n) = IsRefusal n

pub said_words_back : (x : Said) → Tellable x → ((f : Refusal) → x ≡ failed f → IsRefusal f.number) → said_by (reader_no x) (event_words x) ≡ x
unfolding with_zeros
said_words_back (event (start_event m)) h g = ap event (body_back_heard m m.message_body refl)
said_words_back (event (end_event e)) h g = ap event (end_back_heard e)
said_words_back (event (entry_event e)) h g = ap event (entry_words_back e h)
said_words_back no_event h g = refl
said_words_back (failed f) h g = rw (not_good f.number (g f refl), not_finished f.number (g f refl))
said_words_back (alone n) h g = rw (not_good n h, not_finished n h)

-- ---- what a reading finds is in range

sign_within : (len v : ℕ) → len ≤ 8 → InRange (signed_of len v)
unfolding signed_of
sign_within len v h =
    let p : 256 ^ len ≤ 256 ^ 8 = pow_up len 8 h in
    cases (ltb (2 * v) (256 ^ len))
    (λ t. rw t (omega (arith, p, ltb-true (2 * v) (256 ^ len) t)))
    (λ t. rw t (omega (arith, p, ltb-false (2 * v) (256 ^ len) t)))

signed_within : (width : ℕ) (s : List ℕ) (at : ℕ) → width ≤ 8 → Ok (λ (z : ℤ) (n : ℕ). InRange z) (signed_at width s at)
unfolding signed_at raw_at raw_from
signed_within width s at h =
    ok_then _ _ (ok_then _ _ (ok_any (tlf_at s at)) (λ t m e. ok_guard _ _ _ (λ fits.
    ok_then _ _ (ok_any (bytes_at_claim s m t.len)) (λ v n e'. ok_got {P = λ r n. r.len ≤ width} _ _ (fits_high true width t fits)))))
    (λ r n small. ok_got _ _ (sign_within r.len r.value (omega (arith, h, small))))

narrowest_within : (len : ℕ) → narrowest len ≤ 8
narrowest_within len =
    cases (leb len 1) (λ t. rw t (omega arith)) (λ t.
    cases (leb len 2) (λ u. rw (t, u) (omega arith)) (λ u.
    cases (leb len 4) (λ v. rw (t, u, v) (omega arith)) (λ v. rw (t, u, v) (omega arith))))

value_of_within : (ty : Ty) (len : ℕ) (s : List ℕ) (at : ℕ) → Ok (λ (v : Value Span) (n : ℕ). ValueInRange v) (value_of_claim ty len s at)
unfolding value_of_claim signed_value unsigned_value list_type_at
value_of_within OctetString len s at = ok_then _ _ (ok_any (octets_at s at)) (λ p n e. ok_got (bytes p) n tt)
value_of_within Boolean len s at = ok_then _ _ (ok_any (bool_at s at)) (λ b n e. ok_got (truth b) n tt)
value_of_within Integer len s at = ok_then _ _ (signed_within (narrowest len) s at (narrowest_within len)) (λ z n h. ok_got (signed (narrowest len) z) n h)
value_of_within Unsigned len s at = ok_then _ _ (ok_any (unsigned_at (narrowest len) s at)) (λ v n e. ok_got (unsigned (narrowest len) v) n tt)
value_of_within ListOf len s at =
    ok_then _ _ (ok_any (list_of_at 2 s at)) (λ list n₀ e₀.
    ok_then _ _ (ok_any (unsigned_at 1 s n₀)) (λ tag n₁ e₁. ok_guard _ _ _ (λ e₂.
    ok_then _ _ (ok_any (time_at s n₁)) (λ t n e₃. ok_got (list_time t) n tt))))

value_within : (s : List ℕ) (at : ℕ) → Ok (λ (v : Value Span) (n : ℕ). ValueInRange v) (value_at s at)
unfolding value_at
value_within s at = ok_then _ _ (ok_any (tlf_at s at)) (λ t n e. value_of_within t.ty t.len s at)

scaler_within : (s : List ℕ) (at : ℕ) → Ok (λ (o : Option ℤ) (n : ℕ). FieldInRange o) (optional (signed_at 1) s at)
unfolding optional
scaler_within s at = ok_cond (absent_at s at) _ _ (λ e. ok_got none (at + 1) tt) (λ e. ok_then _ _ (signed_within 1 s at (omega arith)) (λ z n h. ok_got (some z) n h))

entry_within : (s : List ℕ) (at : ℕ) → Ok (λ (e : ListEntry Span) (n : ℕ). EntryInRange e) (entry_at s at)
unfolding entry_at
entry_within s at =
    ok_then _ _ (ok_any (list_of_at 7 s at)) (λ list n₀ e₀.
    ok_then _ _ (ok_any (octets_at s n₀)) (λ name n₁ e₁.
    ok_then _ _ (ok_any (optional status_at s n₁)) (λ status n₂ e₂.
    ok_then _ _ (ok_any (optional time_at s n₂)) (λ time n₃ e₃.
    ok_then _ _ (ok_any (optional (unsigned_at 1) s n₃)) (λ unit n₄ e₄.
    ok_then _ _ (scaler_within s n₄) (λ scaler n₅ h₅.
    ok_then _ _ (value_within s n₅) (λ value n₆ h₆.
    ok_then _ _ (ok_any (optional octets_at s n₆)) (λ signature n₇ e₇.
    ok_got _ _ (record { scaler' = h₅; value' = h₆ })))))))))

-- ---- what a call says can be told

onward_tells : {A : Type 0} (end start pending : ℕ) (r : Read A) (k : A → ℕ → ReaderAfter) → ((a : A) (n : ℕ) → got a n ≡ r → Tellable (k a n).answer) → Tellable (onward end start pending r k).answer
unfolding onward
onward_tells end start pending (got a n) k h = h a n refl
onward_tells end start pending (refused f) k h = tt

begin_tells : (s : List ℕ) (at start : ℕ) → Tellable (begin_at s at start).answer
unfolding begin_at
begin_tells s at start = cases (leb (length s) at) (λ t. rw t tt) (λ t. rw t (onward_tells (length s) at 0 (start_at s at) _ (λ m n e. tt)))

step_tells : (s : List ℕ) (at start pending : ℕ) → Tellable (step_at s at start pending).answer
unfolding step_at trailer_next end_next entry_next
step_tells s at start zero = begin_tells s at start
step_tells s at start (suc zero) = onward_tells (length s) start 1 (trailer_at s start at) _ (λ done n e. begin_tells s n start)
step_tells s at start (suc (suc zero)) = onward_tells (length s) start 2 (list_end_at s at) _ (λ l n e. tt)
step_tells s at start (suc (suc (suc k))) = onward_tells (length s) start (suc (suc (suc k))) (entry_at s at) _ (λ x n e. ok_at e (entry_within s at))

next_tells : (s : List ℕ) (at start pending : ℕ) → Tellable (next_at s at start pending).answer
unfolding next_at
next_tells s at start pending =
    cases (ltb limit (length s)) (λ t. rw t (omega arith)) (λ t.
    cases (is_sound (length s) at start pending) (λ u. rw (t, u) (step_tells s at start pending))
    (λ u. rw (t, u) (omega arith)))

-- a refusal with a place is one of 10 to 15
pub stands_between : {A : Type 0} {read : List ℕ → Read A} {s : List ℕ} {start : ℕ} (f : Refusal) (q : ℕ) → Stands read s start f q → (10 ≤ f.number) × (f.number ≤ 15)
stands_between f q over = omega arith
stands_between f q (bad_length kind p q' x i e) = omega arith
stands_between f q (unwanted t p n x i e) = omega arith
stands_between f q (message_tag tag p n x i e a b c) = omega arith
stands_between f q (time_tag tag p n x i e a) = omega arith
stands_between f q (other_crc crc p n x i e l z a) = omega arith
stands_between f q (other_end p x l a) = omega arith

pub stands_refuses : {A : Type 0} {read : List ℕ → Read A} {s : List ℕ} {start : ℕ} (f : Refusal) (q : ℕ) → Stands read s start f q → IsRefusal f.number
stands_refuses f q h = omega (arith, stands_between f q h)

call_refuses : (s : List ℕ) (at start pending : ℕ) (f : Refusal) → CallBroke s at start pending f → IsRefusal f.number
call_refuses s at start pending f (in_start f' l b) = stands_refuses f _ b.stands
call_refuses s at start pending f (in_trailer f' b) = stands_refuses f _ b.stands
call_refuses s at start pending f (in_next_start f' n e l b) = stands_refuses f _ b.stands
call_refuses s at start pending f (in_list_end f' b) = stands_refuses f _ b.stands
call_refuses s at start pending f (in_entry f' left b) = stands_refuses f _ b.stands

-- number and words that are those of what they say are heard so
pub heard_is : (number : ℕ) (w : List ℕ) (x : Said) → said_by number w ≡ x → reader_no x ≡ number → event_words x ≡ w → heard_event number w ≡ x
heard_is number w x h a b = rw (h, a, b, eq-eqb number number refl, same_self w)

-- so what a call's number and words say is what the call says
pub call_back : (s : List ℕ) (at start pending : ℕ) → let x : Said = (next_at s at start pending).answer in heard_event (reader_no x) (event_words x) ≡ x
call_back s at start pending = heard_is _ _ _ (said_words_back _ (next_tells s at start pending) (λ f e. call_refuses s at start pending f (call_broke s at start pending f e))) refl refl
