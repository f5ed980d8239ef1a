-- An answer says the code's event: the views lose nothing, so two outcomes that a contract allows are equal.
use mathlib.Core.Path.{◌≡◌, refl, ap, sym, ◌∙◌}
use mathlib.Core.Bool.{true, false, cond}
use mathlib.Core.List.{List, []}
use Rattle.std.specs.Prelude.{Result, Ok, Err}
use Prim.Native.Nat.{ℕ}
use lib.ListN.{get_or}
use lib.Dec.{eqb}
use Rattle.decoder.specs.Push as P
use Rattle.decoder.specs.Record.{DecoderAnswer, Event, numbered, nothing, payload, count, refusal, answer_err, answer_of, answer_asked, After, after_push, Left, after_finalize, after_reset}
use Rattle.decoder.specs.declared.DecodeErr.{DecodeErr}
use Rattle.decoder.specs.declared.DecodeErr.TheVariants.{DiscardedBytes, InvalidEsc, OutOfMemory, InvalidMessage, BadState, WrongBuffer}
use Rattle.decoder.specs.declared.Pushed.{Pushed}
use Rattle.decoder.specs.declared.Finalized.{Finalized}
use Rattle.decoder.specs.declared.AfterReset.{AfterReset}
use Rattle.refusals.specs.declared.BadSpan.{BadSpan}

-- the refusal of a number, and the event that an answer came from
refused_from : ℕ → List ℕ → DecodeErr
refused_from n v =
    cond (eqb n 3) OutOfMemory (cond (eqb n 4) BadState (cond (eqb n 5) WrongBuffer
    (cond (eqb n 6) (DiscardedBytes (get_or v 0 0))
    (cond (eqb n 7) (InvalidEsc (get_or v 0 0) (get_or v 1 0) (get_or v 2 0) (get_or v 3 0)) (InvalidMessage (get_or v 0 0) (get_or v 1 0) (eqb (get_or v 2 0) 1) (get_or v 3 0))))))

event_from : DecoderAnswer → Event
event_from nothing = Ok false
event_from (payload bytes) = Ok true
event_from (count n) = Ok false
event_from (refusal n v) = Err (refused_from n v)

refused_back : (e : DecodeErr) → event_from (answer_err e) ≡ Err e
unfolding event_from refused_from
refused_back (DiscardedBytes n) = refl
refused_back (InvalidEsc a b c d) = refl
refused_back OutOfMemory = refl
refused_back (InvalidMessage read computed true p) = refl
refused_back (InvalidMessage read computed false p) = refl
refused_back BadState = refl
refused_back WrongBuffer = refl

event_back_lem : (e : Event) (bytes : List ℕ) → event_from (answer_of e bytes) ≡ e
unfolding event_from
event_back_lem (Ok false) bytes = refl
event_back_lem (Ok true) bytes = refl
event_back_lem (Err e) bytes = refused_back e

one_event : (e f : Event) (bytes more : List ℕ) → answer_of e bytes ≡ answer_of f more → e ≡ f
one_event e f bytes more h = sym (event_back_lem e bytes) ∙ ap event_from h ∙ event_back_lem f more

-- push: answer, record and memory
pub one_push : (r s : Pushed) (m n : List ℕ) → after_push r m ≡ after_push s n → (r ≡ s) × (m ≡ n)
one_push r s m n h =
    let d : r.decoder ≡ s.decoder = ap (λ (a : After). a.decoder) h in
    let e : r.event ≡ s.event = one_event _ _ _ _ (ap (λ (a : After). a.answer) h) in
    (λ i. record { decoder = d i; event = e i }, ap (λ (a : After). a.memory) h)

pub finalize_one : (r s : Finalized) → after_finalize r ≡ after_finalize s → r ≡ s
finalize_one r s h =
    let d : r.decoder ≡ s.decoder = ap (λ (a : Left). a.decoder) h in
    let e : r.event ≡ s.event = one_event _ _ [] [] (ap (λ (a : Left). a.answer) h) in
    λ i. record { decoder = d i; event = e i }

count_of : DecoderAnswer → ℕ
count_of nothing = 0
count_of (payload bytes) = 0
count_of (count n) = n
count_of (refusal n v) = 0

pub reset_one : (r s : AfterReset) → after_reset r ≡ after_reset s → r ≡ s
unfolding count_of
reset_one r s h =
    let d : r.decoder ≡ s.decoder = ap (λ (a : Left). a.decoder) h in
    let e : r.count ≡ s.count = ap (λ (a : Left). count_of a.answer) h in
    λ i. record { decoder = d i; count = e i }

asked_of : DecoderAnswer → Result (Unit {0}) BadSpan
asked_of nothing = Ok tt
asked_of (payload bytes) = Ok tt
asked_of (count n) = Ok tt
asked_of (refusal n v) = Err (record {})

asked_back : (a : Result (Unit {0}) BadSpan) → asked_of (answer_asked a) ≡ a
unfolding asked_of
asked_back (Ok a) = refl
asked_back (Err e) = refl

pub ask_one : (a b : Result (Unit {0}) BadSpan) → answer_asked a ≡ answer_asked b → a ≡ b
ask_one a b h = sym (asked_back a) ∙ ap asked_of h ∙ asked_back b

-- ---- and an answer says the step's event

step_event : DecoderAnswer → P.PushEvent
step_event nothing = P.silent
step_event (payload bytes) = P.pays_out bytes
step_event (count n) = P.silent
step_event (refusal n v) =
    cond (eqb n 3) P.memory
    (cond (eqb n 6) (P.discarded (get_or v 0 0))
    (cond (eqb n 7) (P.bad_escape (get_or v 0 0) (get_or v 1 0) (get_or v 2 0) (get_or v 3 0))
    (P.bad_message (get_or v 0 0) (get_or v 1 0) (eqb (get_or v 2 0) 1) (get_or v 3 0))))

step_back : (e : P.PushEvent) → step_event (numbered e) ≡ e
unfolding step_event
step_back P.silent = refl
step_back (P.discarded n) = refl
step_back (P.pays_out bytes) = refl
step_back P.memory = refl
step_back (P.bad_escape a b c d) = refl
step_back (P.bad_message read computed true p) = refl
step_back (P.bad_message read computed false p) = refl

pub numbered_one : (e f : P.PushEvent) → numbered e ≡ numbered f → e ≡ f
numbered_one e f h = sym (step_back e) ∙ ap step_event h ∙ step_back f
