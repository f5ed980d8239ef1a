-- What the contracts rule out: each wrong reading of docs/WRONG-READINGS.md that is told here is an outcome that the definition does not allow. The input is the byte 00, which is refused at once; a refusal drops the rest of the input.
use mathlib.Core.Path.{◌≡◌, ap, ◌∙◌}
use mathlib.Core.List.{List, [], ◌∷◌}
use Prim.Native.Nat.{ℕ}
use native.Mathlib.Omega.{arith}
use denote.Ref.{Bor}
use Rattle.refusals.specs.Read.{then, guard, need, byte_at}
use Rattle.refusals.specs.declared.ParseError.TheVariants.{CrcMismatch}
use Rattle.tlf.specs.Lengths.{length_from, less_own, tlf_at, list_of_at}
use Rattle.message.specs.Messages.{start_at}
use Rattle.streaming.specs.Next.{Said, event, no_event, failed, alone, ReaderAfter, onward, begin_at, trailer_next, step_at, next_at}
use Rattle.streaming.specs.Answers.{said as said_by, reader_after}
use Rattle.std.specs.Prelude.{Option, Result, Ok, Err, None}
use Rattle.streaming.specs.declared.ParseEvent.{ParseEvent}
use Rattle.streaming.specs.declared.ReadError.{ReadError}
use Rattle.streaming.specs.declared.ReadError.TheVariants.{Refused}
use Rattle.streaming.specs.declared.Next.{Next}
use Rattle.trailer.specs.Trailer.{trailer_at}
use Rattle.trailer.proofs.Examples.{closing, trailer_examples}
use Rattle.numbers.specs.Numbers.{raw_at, unsigned_at}
use Rattle.parser.specs.Reader.{reader_of, Called, called_next, after_next}
use Rattle.parser.specs.declared.Parser.{Parser}

-- a new reader stands at place 0
new_skips_a_byte : (input : Bor (List ℕ)) → record { input = input; reader = record { place = 1; start = 0; pending = 0 } } ≡ reader_of input → ⊥
new_skips_a_byte input h = let n : ◌≡◌ {A = ℕ} 1 0 = ap (λ (p : Parser). p.reader.place) h in omega (arith, n)

-- and between messages
new_begins_at_a_trailer : (input : Bor (List ℕ)) → record { input = input; reader = record { place = 0; start = 0; pending = 1 } } ≡ reader_of input → ⊥
new_begins_at_a_trailer input h = let n : ◌≡◌ {A = ℕ} 1 0 = ap (λ (p : Parser). p.reader.pending) h in omega (arith, n)

-- behind the refusal nothing is left to read
next_keeps_the_reader : (input : Bor (List ℕ)) (r : Result (Option ParseEvent) ReadError) → input.now ≡ 0x00 ∷ [] → after_next r (reader_of input) ≡ called_next (reader_of input) → ⊥
unfolding next_at step_at begin_at onward start_at list_of_at tlf_at byte_at then guard need length_from less_own
next_keeps_the_reader input r is h =
    let n : ◌≡◌ {A = ℕ} 0 1 = ap (λ (c : Called). c.reader.reader.place) h ∙ ap (λ (s : List ℕ). (next_at s 0 0 0).place) is in
    omega (arith, n)

-- 1 for no event, which is what the reader behind the refusal says
quietness : Said → ℕ
quietness (event e) = 0
quietness no_event = 1
quietness (failed f) = 0
quietness (alone n) = 0

next_answers_for_the_reader_behind : (input : Bor (List ℕ)) (p : Parser) → input.now ≡ 0x00 ∷ [] → after_next (Ok None) p ≡ called_next (reader_of input) → ⊥
unfolding next_at step_at begin_at onward start_at list_of_at tlf_at byte_at then guard need length_from less_own quietness
next_answers_for_the_reader_behind input p is h =
    let n : ◌≡◌ {A = ℕ} 1 0 = ap (λ (c : Called). quietness c.said) h ∙ ap (λ (s : List ℕ). quietness (next_at s 0 0 0).answer) is in
    omega (arith, n)

-- a second message, at place 1: the message start moves there
next_keeps_the_message_start : (input : Bor (List ℕ)) (r : Result (Option ParseEvent) ReadError) (p : Parser) → input.now ≡ 0x00 ∷ 0x00 ∷ [] → p.reader.start ≡ 0 → after_next r p ≡ called_next (record { input = input; reader = record { place = 1; start = 0; pending = 0 } }) → ⊥
unfolding next_at step_at begin_at onward start_at list_of_at tlf_at byte_at then guard need length_from less_own
next_keeps_the_message_start input r p is old h =
    let n : ◌≡◌ {A = ℕ} p.reader.start 1 = ap (λ (c : Called). c.reader.reader.start) h ∙ ap (λ (s : List ℕ). (next_at s 1 0 0).start) is in
    omega (arith, n, old)

-- at the trailer of a message that began at 0, where the input ends: the message start stays
next_from_begins_the_message_at_its_place : (r : Next) → r.reader.start ≡ 1 → reader_after r ≡ next_at (0x00 ∷ []) 1 0 1 → ⊥
unfolding next_at step_at trailer_next onward trailer_at unsigned_at raw_at tlf_at byte_at then guard need
next_from_begins_the_message_at_its_place r wrong h =
    let n : ◌≡◌ {A = ℕ} r.reader.start 0 = ap (λ (a : ReaderAfter). a.start) h in
    omega (arith, n, wrong)

-- a close response read up to its trailer: the CRC goes over the message from 0 on, and is right
next_from_passes_its_place_as_the_start : (r : Next) → r.answer ≡ Err (Refused (record { error = CrcMismatch; place = 14 })) → reader_after r ≡ next_at (closing 0x0f 0x5b 0x00) 14 0 1 → ⊥
unfolding next_at step_at trailer_next begin_at onward quietness
next_from_passes_its_place_as_the_start r wrong h =
    let n : ◌≡◌ {A = ℕ} (quietness (said_by r.answer)) 1 = rw trailer_examples.right at (ap (λ (a : ReaderAfter). quietness a.answer) h) in
    let z : ◌≡◌ {A = ℕ} (quietness (said_by r.answer)) 0 = ap (λ (a : Result (Option ParseEvent) ReadError). quietness (said_by a)) wrong in
    omega (arith, n, z)
