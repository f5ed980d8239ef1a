-- Each view can be undone, so a contract allows one outcome for each input.
use mathlib.Core.Path.{◌≡◌, refl, ap, sym, ◌∙◌}
use mathlib.Core.Bool.{Bool, cond}
use mathlib.Core.List.{List}
use Prim.Native.Nat.{ℕ}
use lib.Dec.{eqb}
use Rattle.decided.specs.One.{With, Beside, Injective}
use Rattle.decided.proofs.Laws.{injective}
use Rattle.decoder.specs.Record.{Event, DecoderAnswer, nothing, payload, count, refusal, after, left, answer_asked}
use Rattle.decoder.specs.declared.Pushed.{Pushed}
use Rattle.decoder.proofs.Answers.{one_push, finalize_one}
use Rattle.decoder.proofs.Decided.{views as decoderViews}
use Rattle.in_place.specs.declared.Taken.{Taken}
use Rattle.packed.specs.Layout.{record_in}
use Rattle.packed.specs.Packed.{Filled, filled, Unpacked, holds, no_record, unpacked_as, kept_push, tried, kept_slice, KeptLeft, kept_event, kept_reset}
use Rattle.decoder.specs.declared.Decoder.{Decoder}
use Rattle.packed.specs.declared.BadState.{BadState}
use Rattle.packed.specs.declared.PackError.{PackError}
use Rattle.packed.specs.declared.PackError.TheVariants as P
use Rattle.std.specs.Prelude.{Result, Ok, Err}
use Rattle.packed.specs.Decided.{Views, Decided}

-- what packing answered
packing_of : DecoderAnswer → Result (Unit {0}) PackError
packing_of nothing = Ok tt
packing_of (payload bytes) = Ok tt
packing_of (count n) = Ok tt
packing_of (refusal n v) = Err (cond (eqb n 4) P.BadState (cond (eqb n 5) P.WrongBuffer P.OutputTooShort))

packing_back : (r : Result (Unit {0}) PackError) (m : List ℕ) → packing_of (filled r m).answer ≡ r
unfolding packing_of
packing_back (Ok a) m = refl
packing_back (Err P.BadState) m = refl
packing_back (Err P.WrongBuffer) m = refl
packing_back (Err P.OutputTooShort) m = refl

filled_output : (r : Result (Unit {0}) PackError) (m : List ℕ) → (filled r m).output ≡ m
filled_output (Ok a) m = refl
filled_output (Err P.BadState) m = refl
filled_output (Err P.WrongBuffer) m = refl
filled_output (Err P.OutputTooShort) m = refl

packing_one : Injective (λ (r : With (Result (Unit {0}) PackError)). filled r.answer r.memory)
packing_one r r' h =
    let a : r.answer ≡ r'.answer = sym (packing_back r.answer r.memory) ∙ ap (λ (f : Filled). packing_of f.answer) h ∙ packing_back r'.answer r'.memory in
    let m : r.memory ≡ r'.memory = sym (filled_output r.answer r.memory) ∙ ap (λ (f : Filled). f.output) h ∙ filled_output r'.answer r'.memory in
    λ i. record { answer = a i; memory = m i }

-- what unpacking answered
unpacking_of : Unpacked → Result Decoder BadState
unpacking_of (holds d) = Ok d
unpacking_of (no_record n) = Err (record {})

unpacking_back : (r : Result Decoder BadState) → unpacking_of (unpacked_as r) ≡ r
unfolding unpacking_of
unpacking_back (Ok d) = refl
unpacking_back (Err e) = refl

unpacking_one : Injective unpacked_as
unpacking_one r r' h = sym (unpacking_back r) ∙ ap unpacking_of h ∙ unpacking_back r'

-- an event over bytes is an event over the record that they say
over_event_one : (e f : Event) (l k m n : List ℕ) → kept_push e l m ≡ kept_push f k n → e ≡ f
unfolding record_in
over_event_one e f l k m n h =
    let p = one_push (record { decoder = record_in l; event = e }) (record { decoder = record_in k; event = f }) m n (λ i. after (h i).answer (record_in (h i).bytes) (h i).memory) in
    ap (λ (r : Pushed). r.event) p.0

over_push_one : Injective (λ (r : With (Beside Event (List ℕ))). kept_push r.answer.answer r.answer.lent r.memory)
over_push_one r r' h =
    let e = over_event_one r.answer.answer r'.answer.answer r.answer.lent r'.answer.lent r.memory r'.memory h in
    λ i. record { answer = record { answer = e i; lent = (h i).bytes }; memory = (h i).memory }

tried_one : Injective (λ (r : With (Beside Bool (List ℕ))). tried r.answer.answer r.answer.lent r.memory)
tried_one r r' h = λ i. record { answer = record { answer = (h i).did; lent = (h i).bytes }; memory = (h i).memory }

slice_one : Injective (λ (r : With (Beside Taken (List ℕ))). kept_slice r.answer.answer r.answer.lent r.memory)
slice_one r r' h =
    let e = over_event_one r.answer.answer.event r'.answer.answer.event r.answer.lent r'.answer.lent r.memory r'.memory (λ i. record { answer = (h i).answer; bytes = (h i).bytes; memory = (h i).memory }) in
    λ i. record { answer = record { answer = record { event = e i; taken = (h i).taken }; lent = (h i).bytes }; memory = (h i).memory }

left_one : Injective (λ (r : Beside Event (List ℕ)). kept_event r.answer r.lent)
left_one r r' h =
    let p = finalize_one (record { decoder = record_in r.lent; event = r.answer }) (record { decoder = record_in r'.lent; event = r'.answer }) (λ i. left (h i).answer (record_in (h i).bytes)) in
    λ i. record { answer = (p i).event; lent = (h i).bytes }

-- what reset answered
reset_of : DecoderAnswer → Result ℕ BadState
reset_of nothing = Err (record {})
reset_of (payload bytes) = Err (record {})
reset_of (count n) = Ok n
reset_of (refusal n v) = Err (record {})

reset_back : (r : Result ℕ BadState) (l : List ℕ) → (reset_of (kept_reset r l).answer ≡ r) × ((kept_reset r l).bytes ≡ l)
unfolding reset_of
reset_back (Ok n) l = (refl, refl)
reset_back (Err e) l = (refl, refl)

reset_over : Injective (λ (r : Beside (Result ℕ BadState) (List ℕ)). kept_reset r.answer r.lent)
reset_over r r' h =
    let b = reset_back r.answer r.lent in
    let b' = reset_back r'.answer r'.lent in
    let a : r.answer ≡ r'.answer = sym b.0 ∙ ap (λ (k : KeptLeft). reset_of k.answer) h ∙ b'.0 in
    let l : r.lent ≡ r'.lent = sym b.1 ∙ ap (λ (k : KeptLeft). k.bytes) h ∙ b'.1 in
    λ i. record { answer = a i; lent = l i }

pub views : Views
views =
    record {
      packing = packing_one;
      unpacking = unpacking_one;
      pushed_over = over_push_one;
      tried_over = tried_one;
      sliced_over = slice_one;
      finalized_over = left_one;
      was_reset_over = reset_over;
    }

pub decided : Decided
decided =
    record {
      pack = λ d out. injective (λ (r : With (Result (Unit {0}) PackError)). filled r.answer r.memory) views.packing _;
      unpack = λ bytes. injective unpacked_as views.unpacking _;
      push_plain = λ bytes buf b. injective (λ (r : With (Beside Bool (List ℕ))). tried r.answer.answer r.answer.lent r.memory) views.tried_over _;
      push_packed_claim = λ bytes buf b. injective (λ (r : With (Beside Event (List ℕ))). kept_push r.answer.answer r.answer.lent r.memory) views.pushed_over _;
      push_slice_packed = λ bytes buf chunk. injective (λ (r : With (Beside Taken (List ℕ))). kept_slice r.answer.answer r.answer.lent r.memory) views.sliced_over _;
      finalize_packed_claim = λ bytes. injective (λ (r : Beside Event (List ℕ)). kept_event r.answer r.lent) views.finalized_over _;
      reset_packed_claim = λ bytes. injective (λ (r : Beside (Result ℕ BadState) (List ℕ)). kept_reset r.answer r.lent) views.was_reset_over _;
      payload_packed_claim = λ bytes buf r r' h h'. h ∙ sym h';
      ask_payload_packed = λ bytes buf. injective answer_asked decoderViews.asked _;
    }
