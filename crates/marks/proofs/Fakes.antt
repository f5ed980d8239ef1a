-- Each fake falls: one small run, computed, is not what the claim says.
use mathlib.Core.Path.{◌≡◌, refl, ap, sym, subst, ◌∙◌}
use mathlib.Core.Bool.{Bool, true, false, cond, false≢true}
use mathlib.Core.List.{List, [], ◌∷◌, ◌++◌, append-nil, map}
use Prim.Native.Nat.{ℕ, zero, suc, ◌+◌, ◌≤◌, ◌<◌}
use native.Mathlib.Omega.{arith}
use lib.ListN.{length, get_or, take, replicate, length-append}
use lib.Dec.{ltb}
use Rattle.frame.proofs.Cases.{by_lt}
use Rattle.crc_x25.specs.Crc.{reflect, polynomial, bit_step, bit_steps, byte_step, register, final_xor, crc_of}
use Rattle.frame.specs.Frame.{Sound, start_seq, escaped, closed, frame_of, framed, same}
use Rattle.encoder.specs.Encode.{encode_to}
use Rattle.encoder.specs.Encoder.{NextAnswer, byte, finished}
use Rattle.encoder.specs.Encoder as N
use Rattle.search.specs.Search.{greatest, most_matched}
use Rattle.search.specs.Found.{EndsInStart, NoneWhole}
use Rattle.search.proofs.Matched.{start_matched, start_last, none_in_nil}
use Rattle.since.specs.Bytes.{since_from}
use Rattle.decoder.specs.Push.{first_way, second_way, in_way, sized, searching, store, finish, judge, step, finalized}
use Rattle.decoder.specs.Record.{DecoderAnswer, nothing, payload, count, refusal, wrote, bad_decoder, wrong_buffer, pushed, push_record, finalize_record, reset_record, new_record, has_payload, payload_record}
use Rattle.decoder.specs.Run.{KnownWay, is_first, is_second, Op, push, reset, act}
use Rattle.decoder.specs.declared.DecodeState.{DecodeState}
use Rattle.decoder.specs.declared.DecodeState.TheVariants.{LookingForMessageStart, ParsingNormal, ParsingEscChars, ParsingEscPayload, Done}
use Rattle.decoder.specs.declared.Decoder.{Decoder}
use Rattle.decoder.specs.declared.Setup.{Setup}
use Rattle.decoder_slice.specs.Slice.{pushes_from, slice_record}
use Rattle.refusals.specs.Read.{got, refused, Refusal, then, guard, need, byte_at, span_at}
use Rattle.refusals.specs.declared.Span.{Span}
use Rattle.refusals.proofs.Codes.{refusal_number, refusal_place}
use Rattle.tlf.specs.Lengths.{tlf_at, length_from, less_own, list_of_at}
use Rattle.numbers.specs.Numbers.{number, bytes_at_claim, raw_from, raw_at, unsigned_at, signed_of, signed_at}
use Rattle.octet_string.specs.Strings.{octets_at}
use Rattle.octet_string.specs.Optional.{absent_at, optional}
use Rattle.value.specs.Values.{time_at, status_of, status_at, signed_value, unsigned_value, list_type_at, value_of_claim, value_at}
use Rattle.common.specs.Fields.{entry_at}
use Rattle.message.specs.Messages.{list_start_at, content_at, body_at, start_at}
use Rattle.trailer.specs.Trailer.{trailer_at}
use Rattle.streaming.specs.Next.{Said, event, start_event, entry_event, end_event, no_event, failed, alone, onward, begin_at, entry_next, step_at, next_at}
use Rattle.events.specs.Events.{nth, answer, says_first, at_start_claim, inside, entries_from, content_from, messages_from, events_of, trailer_from, rest_from, answers_from}
use Rattle.events.specs.Message.{Message, message_at}
use Rattle.places.specs.Calls.{Why, the_first, repeated}
use Rattle.places.proofs.Calls.{only_first, broke_in_start}
use Rattle.marks.specs.Decoders.{Gave, LeftBehind, answers, behind_of, left_behind, bytes_from, searched_from, ours}
use Rattle.marks.specs.Mark2.{PushesBytes, Soundness, Completeness, Ready, nothing_matched, some_matched, behind_payload, OurSearch}
use Rattle.marks.specs.Mark3.{Job, frames_for, rest_says, Mark3, Suits}
use Rattle.marks.specs.Hides.{Hides}
use Rattle.marks.specs.Chunks.{by_slices, Chunks}
use Rattle.marks.specs.Second.{Begins, SearchesAgain, HearsBehindNoise, Seeking, in_search, before_search, OurSeeks, OurBegun}
use Rattle.marks.specs.Ways.{our_way, KeepsWay, RefusesUnknown}
use Rattle.marks.specs.Encoders.{calls_of, our_encoder, SameBytes}
use Rattle.marks.specs.Bench.{Outcome, sheet_encoded, sheet_events, sheet_field, sheet_string, sheet_signed, sheet_unsigned, said_from, Holds, payload1, frame1, b1, b2, b3, b6}
use Rattle.marks.specs.Events as Ev
use Rattle.marks.specs.Events.{says_at, hears, ReaderGives, GoesOn, reader_with, Follows, ListsEntries, SaysWhere, CallSaysWhere, TenAgain}
use Rattle.marks.specs.Fakes.{refuses_all, constant, idle, invents, once, first_once, stale, hasty, forgiving, first_only, counts_eight, deaf, forgets_way, serves_any_way, last_of, swallows, takes_none, Withheld, withholds, shrugs, forgetful, blames_the_message, says_it_again, writes_nothing, refuses_to_encode, finished_at_once, without_events, no_entries, NotOurs, Fall}
use Rattle.marks.proofs.Completeness.{new_searches}

-- a number for an answer, in which the fakes differ from what is claimed
unfoldable pub answer_code : DecoderAnswer → ℕ
answer_code nothing = 0
answer_code (payload bytes) = 1000 + get_or bytes 0 0
answer_code (count k) = 2000 + k
answer_code (refusal k values) = 3000 + get_or values 0 0

-- the number of the answer at a place
unfoldable pub code_at : ℕ → List DecoderAnswer → ℕ
code_at n [] = 0
code_at zero (a ∷ l) = answer_code a
code_at (suc n) (a ∷ l) = code_at n l

-- the same of a bench row's outcome: its first event, or the first byte of the output
code_of : Outcome → ℕ
code_of (sheet_encoded l) = get_or l.output 0 0
code_of (sheet_events []) = 0
code_of (sheet_events (s ∷ more)) = answer_code s.answer
code_of (sheet_field r) = 0
code_of (sheet_string r) = 0
code_of (sheet_signed r) = 0
code_of (sheet_unsigned r) = 0

-- capacity 8, its thirteen zero bytes, and B1's payload: the eighth byte's answer is at place 20, the last one's at 32
abbrev C : Setup
C = sized 8

abbrev zeros : List ℕ
zeros = replicate 8 0

abbrev job : Job
job = record { payload = payload1; output = replicate 20 0xff }

frame_is : frame_of payload1 ≡ frame1
unfolding reflect polynomial bit_step bit_steps byte_step register final_xor crc_of escaped closed frame_of
frame_is = refl

room_left_lem : length (frame_of payload1) ≤ length job.output
room_left_lem = let e : length (frame_of payload1) ≡ 20 = ap length frame_is in omega arith

suits : Suits C job
suits = (omega arith, room_left_lem)

-- ---- rows of the bench sheet

refuses_b3 : Holds refuses_all encode_to b3 → ⊥
unfolding code_of answer_code answers said_from
refuses_b3 h = let z : ◌≡◌ {A = ℕ} 3000 1018 = ap code_of h in omega arith

refuses_b1 : Holds ours refuses_to_encode b1 → ⊥
unfolding code_of
refuses_b1 h = let z : ◌≡◌ {A = ℕ} 0xff 0x1b = ap code_of h in omega arith

refuses_b2 : Holds ours refuses_to_encode b2 → ⊥
unfolding code_of
refuses_b2 h = let z : ◌≡◌ {A = ℕ} 0xff 0x1b = ap code_of h in omega arith

writes_nothing_b1 : Holds ours writes_nothing b1 → ⊥
unfolding code_of
writes_nothing_b1 h = let z : ◌≡◌ {A = ℕ} 0xff 0x1b = ap code_of h in omega arith

invents_b6 : Holds invents encode_to b6 → ⊥
unfolding code_of answer_code answers said_from reflect polynomial bit_step bit_steps byte_step register final_xor crc_of searching store same finish judge step finalized wrote bad_decoder wrong_buffer pushed push_record finalize_record act
invents_b6 h = let z : ◌≡◌ {A = ℕ} 3002 3001 = ap code_of h in omega arith

-- ---- mark 2

sound1 : Sound frame1 payload1
unfolding reflect polynomial bit_step bit_steps byte_step register final_xor crc_of escaped closed framed
sound1 = record { D = payload1; p = 0; whole = refl; aligned = refl; small = omega arith; within = omega arith; cut = refl }

idle_mark2 : Completeness idle OurSearch → ⊥
unfolding code_at answer_code answers sound1
idle_mark2 h =
    let e = (h C (new_record C) zeros 0 (new_searches C zeros (is_first refl) refl (omega arith)) frame1 payload1 sound1).0 (omega arith) in
    let z : ◌≡◌ {A = ℕ} 0 1018 = ap (code_at 19) e in
    omega arith

below : List ℕ → Bool
below [] = true
below (b ∷ l) = cond (ltb b 256) (below l) false

below_is : (l : List ℕ) → below l ≡ true → PushesBytes (map push l)
unfolding below
below_is [] = λ e. tt
below_is (b ∷ l) = by_lt (λ (t : Bool). t ≡ true → (b < 256) × PushesBytes (map push l)) b 256 (below l) false (λ h e. (h, below_is l e)) (λ h e. absurd (false≢true e))

-- B1's frame, byte by byte: what is handed back is not what was answered
constant_mark2 : Soundness constant → ⊥
unfolding below behind_of payload_record has_payload reflect polynomial bit_step bit_steps byte_step register final_xor crc_of searching store same finish judge step finalized wrote bad_decoder wrong_buffer pushed push_record finalize_record act
constant_mark2 h =
    let e = ((h C zeros).1 (map push (take 19 frame1)) (push 0x7b)).0 in
    let z : ◌≡◌ {A = ℕ} 0x12 0x2a = ap (λ (l : List ℕ). get_or l 0 0) e in
    omega arith

-- a new decoder has no payload to hand back
stale_mark2 : Soundness stale → ⊥
unfolding has_payload bad_decoder wrong_buffer
stale_mark2 h = let z : ◌≡◌ {A = ℕ} 0x2a 0 = ap (λ (l : List ℕ). get_or l 0 0) (h C zeros).0 in omega arith

-- no frame has one byte
frame_long : (frame P : List ℕ) → Sound frame P → 8 ≤ length frame
unfolding framed closed
frame_long frame P s = let e = ap length s.whole in omega (arith, e)

hasty_mark2 : Soundness hasty → ⊥
unfolding behind_of bytes_from
hasty_mark2 h =
    let f = ((h C zeros).1 [] (push 0x00)).1 (0x2a ∷ []) (omega arith, tt) refl in
    let l = frame_long f.frame (0x2a ∷ []) f.sound in
    let e = ap length f.ends ∙ length-append f.before f.frame in
    omega (arith, l, e)

-- ---- a stray 1b

-- behind 1b and a start it is in a frame, where a search with nothing matched is claimed
state_code : DecodeState → ℕ
state_code (LookingForMessageStart n noise) = 1
state_code ParsingNormal = 0
state_code (ParsingEscChars n) = 0
state_code (ParsingEscPayload n) = 0
state_code Done = 0

ready_code : {way : ℕ} {s : DecodeState} {noise : ℕ} → Ready way s noise → state_code s ≡ 0 → noise ≡ 9 → ⊥
unfolding state_code
ready_code (nothing_matched e) z n = let x : ◌≡◌ {A = ℕ} 1 0 = ap state_code (sym e) ∙ z in omega arith
ready_code (some_matched k before w e small y) z n = let x : ◌≡◌ {A = ℕ} 1 0 = ap state_code (sym e) ∙ z in omega arith
ready_code (behind_payload e y) z n = omega arith

forgiving_hides : Hides first_way forgiving OurSearch → ⊥
unfolding state_code answers left_behind reflect polynomial bit_step bit_steps byte_step register final_xor crc_of searching store same finish judge step finalized wrote bad_decoder wrong_buffer pushed push_record finalize_record act
forgiving_hides h = ready_code (h C (new_record C) zeros 0 refl (new_searches C zeros (is_first refl) refl (omega arith))).1.searches refl refl

-- ---- the second way

abbrev C₂ : Setup
C₂ = in_way second_way 8

-- B5 up to its ninth byte: a stray 1b, and a start
abbrev eight_ops : List Op
eight_ops = map push (0x1b ∷ take 7 start_seq)

-- the first way says nothing there
first_only_begins : Begins first_only OurSeeks OurBegun → ⊥
unfolding answer_code answers left_behind searched_from reflect polynomial bit_step bit_steps byte_step register final_xor crc_of most_matched greatest searching store same finish judge step finalized wrote bad_decoder wrong_buffer pushed push_record finalize_record act
first_only_begins h =
    let e = ((h C₂ zeros refl refl (omega arith) eight_ops 0x01 (in_search 0 8 refl)).1.begins (record { before = 0x1b ∷ []; is = refl })).0 in
    let z : ◌≡◌ {A = ℕ} 0 3001 = ap answer_code e in
    omega arith

-- no event comes of the frame
seven_are : 7 ≡ most_matched (0x1b ∷ take 7 start_seq)
unfolding most_matched greatest same
seven_are = refl

no_start : NoneWhole (0x1b ∷ take 7 start_seq)
no_start s =
    let f : EndsInStart (0x1b ∷ take 7 start_seq) = start_last (0x1b ∷ take 6 start_seq) 0x01 (λ r. let n = ap length r.is ∙ length-append r.before (start_seq ++ r.behind) in omega arith) s in
    let z : ◌≡◌ {A = ℕ} 7 8 = seven_are ∙ start_matched _ f in
    omega arith

first_only_hears : HearsBehindNoise NoneWhole first_only encode_to OurSeeks → ⊥
unfolding code_at answer_code answers left_behind searched_from escaped closed frame_of encode_to reflect polynomial bit_step bit_steps byte_step register final_xor crc_of most_matched greatest searching store same finish judge step finalized wrote bad_decoder wrong_buffer pushed push_record finalize_record act
first_only_hears h =
    let e = h C₂ zeros refl refl (omega arith) [] (0x1b ∷ []) job suits (in_search 0 0 refl) no_start in
    let z : ◌≡◌ {A = ℕ} 0 1018 = ap (code_at 20) e in
    omega arith

-- DiscardedBytes(9) for one byte of noise
counts_eight_begins : Begins counts_eight OurSeeks OurBegun → ⊥
unfolding answer_code answers left_behind searched_from reflect polynomial bit_step bit_steps byte_step register final_xor crc_of most_matched greatest searching store same finish judge step finalized wrote bad_decoder wrong_buffer pushed push_record finalize_record act
counts_eight_begins h =
    let e = ((h C₂ zeros refl refl (omega arith) eight_ops 0x01 (in_search 7 1 refl)).1.begins (record { before = 0x1b ∷ []; is = refl })).0 in
    let z : ◌≡◌ {A = ℕ} 3009 3001 = ap answer_code e in
    omega arith

seeking_code : {s : DecodeState} → Seeking s → s ≡ ParsingNormal → ⊥
seeking_code (in_search n noise e) q = let z : ◌≡◌ {A = ℕ} 0 1 = cc in omega arith
seeking_code (before_search e) q = let z : ◌≡◌ {A = ℕ} 0 1 = cc in omega arith

-- behind an unknown escape the bytes since the search began are none
deaf_again : SearchesAgain deaf OurSeeks → ⊥
unfolding answers left_behind since_from reflect polynomial bit_step bit_steps byte_step register final_xor crc_of most_matched greatest searching store same finish judge step finalized wrote bad_decoder wrong_buffer pushed push_record finalize_record act
deaf_again h = seeking_code (h C₂ zeros refl refl (omega arith) (map push (start_seq ++ (0x1b ∷ 0x1b ∷ 0x1b ∷ 0x1b ∷ 0x02 ∷ 0x00 ∷ 0x00 ∷ 0x00 ∷ []))) none_in_nil) refl

forgets_keeps : KeepsWay forgets_way our_way → ⊥
unfolding act reset_record
forgets_keeps h =
    let z : ◌≡◌ {A = ℕ} 1 2 = h.kept (new_record C₂) zeros reset in
    omega arith

three_unknown : KnownWay 3 → ⊥
three_unknown (is_first e) = omega arith
three_unknown (is_second e) = omega arith

serves_any_refuses : RefusesUnknown serves_any_way our_way → ⊥
unfolding answer_code reflect polynomial bit_step bit_steps byte_step register final_xor crc_of most_matched greatest searching store same finish judge step finalized wrote bad_decoder wrong_buffer pushed push_record finalize_record act
serves_any_refuses h =
    let e = h.by_push_claim (new_record (in_way 3 8)) zeros 0x00 three_unknown in
    let z : ◌≡◌ {A = ℕ} 0 3000 = ap (λ (g : Gave Decoder). answer_code g.answer) e in
    omega arith

-- the ninth byte tells the one before the start
hides_second : Hides second_way ours OurSearch → ⊥
unfolding code_at answer_code answers left_behind reflect polynomial bit_step bit_steps byte_step register final_xor crc_of most_matched greatest searching store same finish judge step finalized wrote bad_decoder wrong_buffer pushed push_record finalize_record act
hides_second h =
    let e = (h C₂ (new_record C₂) zeros 0 refl (new_searches C₂ zeros (is_second refl) refl (omega arith))).0 in
    let z : ◌≡◌ {A = ℕ} 3001 0 = ap (code_at 8) e in
    omega arith

-- a start sequence and a 1b before the frame: its start is an unknown escape, told at the sixteenth byte
hears_anywhere : HearsBehindNoise (λ l. Unit {0}) ours encode_to OurSeeks → ⊥
unfolding code_at answer_code answers left_behind searched_from escaped closed frame_of encode_to reflect polynomial bit_step bit_steps byte_step register final_xor crc_of most_matched greatest searching store same finish judge step finalized wrote bad_decoder wrong_buffer pushed push_record finalize_record act
hears_anywhere h =
    let e = h C₂ zeros refl refl (omega arith) [] (start_seq ++ 0x1b ∷ []) job suits (in_search 0 0 refl) tt in
    let z : ◌≡◌ {A = ℕ} 3027 0 = ap (code_at 15) e in
    omega arith

pub not_ours : NotOurs
not_ours = record { hides_second = hides_second; hears_anywhere = hears_anywhere }

-- ---- slices

-- B1's frame and a byte, in one slice: the payload is at place 19
swallows_chunks : Chunks swallows → ⊥
unfolding code_at answer_code answers left_behind by_slices last_of reflect polynomial bit_step bit_steps byte_step register final_xor crc_of searching store same finish judge step finalized wrote bad_decoder wrong_buffer pushed push_record finalize_record act
swallows_chunks h =
    let s = h C zeros (is_first refl) refl (omega arith) [] (frame1 ++ 0x00 ∷ []) (21 ∷ []) in
    let w : s.took ≡ frame1 ++ 0x00 ∷ [] = sym (append-nil s.took) ∙ s.parts in
    let e = s.same_answers ∙ ap (λ (l : List ℕ). answers ours (new_record C) zeros (map push l)) w in
    let z : ◌≡◌ {A = ℕ} 0 1018 = ap (code_at 19) e in
    omega arith

-- single pushes withhold nothing
never_hidden : (os : List Op) (d : Decoder) (m : List ℕ) → (left_behind withholds.machine (record { decoder = d; hidden = false }) m os).decoder.hidden ≡ false
unfolding left_behind
never_hidden [] d m = refl
never_hidden (o ∷ os) d m = never_hidden os (ours.act d m o).decoder (ours.act d m o).memory

withholds_chunks : Chunks withholds → ⊥
unfolding left_behind by_slices pushes_from slice_record reflect polynomial bit_step bit_steps byte_step register final_xor crc_of searching store same finish judge step finalized wrote bad_decoder wrong_buffer pushed push_record finalize_record act
withholds_chunks h =
    let s = h C zeros (is_first refl) refl (omega arith) [] (frame1 ++ 0x00 ∷ []) (21 ∷ []) in
    let e : ◌≡◌ {A = Bool} true (left_behind withholds.machine (record { decoder = new_record C; hidden = false }) zeros (map push s.took)).decoder.hidden = ap (λ (k : LeftBehind Withheld). k.decoder.hidden) s.same_kept in
    false≢true (sym (e ∙ never_hidden (map push s.took) (new_record C) zeros))

takes_none_chunks : Chunks takes_none → ⊥
unfolding left_behind by_slices
takes_none_chunks h =
    let e = (h C zeros (is_first refl) refl (omega arith) [] (0x00 ∷ []) (1 ∷ [])).all_taken (omega arith, tt) (omega arith) in
    let z : ◌≡◌ {A = ℕ} 1 0 = ap length e in
    omega arith

-- ---- mark 3

refuses_mark3 : Mark3 refuses_all encode_to → ⊥
unfolding code_at answer_code answers frames_for rest_says searched_from reflect polynomial bit_step bit_steps byte_step register final_xor crc_of escaped closed frame_of encode_to
refuses_mark3 h =
    let e = h C zeros (is_first refl) refl (omega arith) [] job [] (suits, tt) in
    let z : ◌≡◌ {A = ℕ} 3000 1018 = ap (code_at 32) e in
    omega arith

constant_mark3 : Mark3 constant encode_to → ⊥
unfolding code_at answer_code answers frames_for rest_says searched_from reflect polynomial bit_step bit_steps byte_step register final_xor crc_of escaped closed frame_of encode_to searching store same finish judge step finalized wrote bad_decoder wrong_buffer pushed push_record finalize_record act
constant_mark3 h =
    let e = h C zeros (is_first refl) refl (omega arith) [] job [] (suits, tt) in
    let z : ◌≡◌ {A = ℕ} 1042 1018 = ap (code_at 32) e in
    omega arith

idle_mark3 : Mark3 idle encode_to → ⊥
unfolding code_at answer_code answers frames_for rest_says searched_from reflect polynomial bit_step bit_steps byte_step register final_xor crc_of escaped closed frame_of encode_to
idle_mark3 h =
    let e = h C zeros (is_first refl) refl (omega arith) [] job [] (suits, tt) in
    let z : ◌≡◌ {A = ℕ} 0 1018 = ap (code_at 32) e in
    omega arith

invents_mark3 : Mark3 invents encode_to → ⊥
unfolding code_at answer_code answers frames_for rest_says searched_from reflect polynomial bit_step bit_steps byte_step register final_xor crc_of escaped closed frame_of encode_to searching store same finish judge step finalized wrote bad_decoder wrong_buffer pushed push_record finalize_record act
invents_mark3 h =
    let e = h C zeros (is_first refl) refl (omega arith) [] job [] (suits, tt) in
    let z : ◌≡◌ {A = ℕ} 3014 3013 = ap (code_at 20) e in
    omega arith

-- right for its first frame, and for what it hands back of it
once_b3 : Holds once encode_to b3
unfolding answers said_from reflect polynomial bit_step bit_steps byte_step register final_xor crc_of searching store same finish judge step finalized wrote bad_decoder wrong_buffer pushed push_record finalize_record act
once_b3 = refl

once_first : once.payload_of first_once.decoder first_once.memory ≡ payload1
unfolding behind_of payload_record has_payload reflect polynomial bit_step bit_steps byte_step register final_xor crc_of searching store same finish judge step finalized wrote bad_decoder wrong_buffer pushed push_record finalize_record act
once_first = refl

-- the second frame's last byte is at place 52
once_mark3 : Mark3 once encode_to → ⊥
unfolding code_at answer_code answers frames_for rest_says searched_from reflect polynomial bit_step bit_steps byte_step register final_xor crc_of escaped closed frame_of encode_to searching store same finish judge step finalized wrote bad_decoder wrong_buffer pushed push_record finalize_record act
once_mark3 h =
    let e = h C zeros (is_first refl) refl (omega arith) [] job (job ∷ []) (suits, (suits, tt)) in
    let z : ◌≡◌ {A = ℕ} 1000 1018 = ap (code_at 52) e in
    omega arith

-- no frame is pushed, so no event comes
writes_nothing_mark3 : Mark3 ours writes_nothing → ⊥
unfolding code_at answer_code answers frames_for rest_says searched_from reflect polynomial bit_step bit_steps byte_step register final_xor crc_of searching store same finish judge step finalized wrote bad_decoder wrong_buffer pushed push_record finalize_record act
writes_nothing_mark3 h =
    let e = h C zeros (is_first refl) refl (omega arith) [] job [] (suits, tt) in
    let z : ◌≡◌ {A = ℕ} 0 3013 = ap (code_at 20) e in
    omega arith

-- ---- the Encoder

first_is_byte : List NextAnswer → ℕ
first_is_byte [] = 0
first_is_byte (byte b ∷ l) = 1
first_is_byte (finished ∷ l) = 0
first_is_byte (N.no_byte k ∷ l) = 0

writes_nothing_bytes : SameBytes our_encoder writes_nothing → ⊥
unfolding reflect polynomial bit_step bit_steps byte_step register final_xor crc_of escaped closed frame_of
writes_nothing_bytes h =
    let e = (h job (omega arith) room_left_lem).0 in
    let z : ◌≡◌ {A = ℕ} 0 20 = ap length e in
    omega arith

finished_at_once_claim : SameBytes finished_at_once encode_to → ⊥
unfolding first_is_byte calls_of reflect polynomial bit_step bit_steps byte_step register final_xor crc_of escaped closed frame_of encode_to
finished_at_once_claim h =
    let e = (h job (omega arith) room_left_lem).1 0 in
    let z : ◌≡◌ {A = ℕ} 0 1 = ap first_is_byte e in
    omega arith

-- ---- message events

-- a list response with one entry
abbrev message : List ℕ
message = 0x76 ∷ 0x02 ∷ 0x07 ∷ 0x62 ∷ 0x00 ∷ 0x62 ∷ 0x00 ∷ 0x72 ∷ 0x63 ∷ 0x07 ∷ 0x01 ∷ 0x77 ∷ 0x01 ∷ 0x02 ∷ 0x01 ∷ 0x01 ∷ 0x01 ∷ 0x71 ∷ 0x77 ∷ 0x02 ∷ 0x05 ∷ 0x01 ∷ 0x01 ∷ 0x01 ∷ 0x01 ∷ 0x62 ∷ 0x01 ∷ 0x01 ∷ 0x01 ∷ 0x01 ∷ 0x63 ∷ 0x51 ∷ 0x62 ∷ 0x00 ∷ []

-- a number for what a call says
said_code : Said → ℕ
said_code (event (start_event m)) = 1
said_code (event (entry_event e)) = 2
said_code (event (end_event e)) = 3
said_code no_event = 0
said_code (failed f) = 4
said_code (alone n) = 5

silent_events : ReaderGives without_events → ⊥
unfolding then guard need byte_at span_at tlf_at length_from less_own list_of_at number bytes_at_claim raw_from raw_at unsigned_at signed_of signed_at octets_at absent_at optional time_at status_of status_at signed_value unsigned_value list_type_at value_of_claim value_at entry_at list_start_at content_at body_at start_at said_code says_at nth answer says_first at_start_claim messages_from events_of
silent_events h = let z : ◌≡◌ {A = ℕ} 0 1 = ap said_code (h message 0) in omega arith

no_entries_events : ReaderGives no_entries → ⊥
unfolding then guard need byte_at span_at tlf_at length_from less_own list_of_at number bytes_at_claim raw_from raw_at unsigned_at signed_of signed_at octets_at absent_at optional time_at status_of status_at signed_value unsigned_value list_type_at value_of_claim value_at entry_at list_start_at content_at body_at start_at said_code says_at nth answer says_first at_start_claim inside entries_from content_from messages_from events_of onward begin_at entry_next step_at next_at
no_entries_events h = let z : ◌≡◌ {A = ℕ} 0 2 = ap said_code (h message 1) in omega arith

-- no list goes on with `no event`
no_list : (f : ℕ → Said) {n k : ℕ} → f k ≡ no_event → Follows f n k → ⊥
unfolding said_code
no_list f e (Ev.refuses x h) = let z : ◌≡◌ {A = ℕ} 0 4 = ap said_code (sym e ∙ h) in omega arith
no_list f e (Ev.lists x h more) = let z : ◌≡◌ {A = ℕ} 0 2 = ap said_code (sym e ∙ h) in omega arith
no_list f e (Ev.closes x h) = let z : ◌≡◌ {A = ℕ} 0 3 = ap said_code (sym e ∙ h) in omega arith

no_entries_lists : ListsEntries no_entries → ⊥
unfolding then guard need byte_at span_at tlf_at length_from less_own list_of_at number bytes_at_claim raw_from raw_at unsigned_at signed_of signed_at octets_at absent_at optional time_at status_of status_at signed_value unsigned_value list_type_at value_of_claim value_at entry_at list_start_at content_at body_at start_at says_at onward begin_at entry_next step_at next_at
no_entries_lists h = no_list _ refl (h message 0 _ _ refl refl)

-- place 1 of no input
shrugs_goes_on : GoesOn shrugs reader_with → ⊥
unfolding said_code says_at nth answer answers_from next_at
shrugs_goes_on h = let z : ◌≡◌ {A = ℕ} 0 5 = ap said_code (h [] (record { place = 1; start = 0; pending = 0 }) 0) in omega arith

-- a trailer is pending, and the input has ended: 10
forgetful_goes_on : GoesOn forgetful reader_with → ⊥
unfolding said_code says_at nth answer answers_from rest_from trailer_from inside trailer_at unsigned_at raw_at tlf_at byte_at then guard begin_at step_at next_at
forgetful_goes_on h = let z : ◌≡◌ {A = ℕ} 0 4 = ap said_code (h [] (record { place = 0; start = 0; pending = 1 }) 0) in omega arith

-- 76 10: the fault stands at 1
faulty : List ℕ
faulty = 0x76 ∷ 0x10 ∷ []

faulty_whole : (m : Message Span) (n : ℕ) → message_at faulty 0 ≡ got m n → ⊥
unfolding faulty then guard need byte_at span_at tlf_at length_from less_own list_of_at octets_at start_at message_at
faulty_whole m n e = let z : ◌≡◌ {A = ℕ} 11 0 = ap refusal_number e in omega (arith, z)

blames_where : SaysWhere blames_the_message → ⊥
unfolding faulty then guard need byte_at span_at tlf_at length_from less_own list_of_at octets_at start_at message_at says_at onward begin_at step_at next_at
blames_where h = by _ (h faulty 0 _ refl) refl
  where
    by : (f : Refusal) → Why faulty (hears blames_the_message faulty) 0 f → f.place ≡ 0 → ⊥
    by f (the_first y k w z a v) e =
        let o = only_first faulty faulty_whole w.start w.begins in
        let b = w.broke in
        let z : ◌≡◌ {A = ℕ} 1 f.place = ap refusal_place (subst (λ (p : ℕ). message_at faulty p ≡ refused f) o b.refuses) in
        omega (arith, z)
    by f (repeated y j g k x q) e = omega arith

blames_call_where : CallSaysWhere blames_the_message reader_with → ⊥
unfolding faulty then guard need byte_at span_at tlf_at length_from less_own list_of_at octets_at start_at says_at onward begin_at step_at next_at
blames_call_where h =
    let b = broke_in_start (h faulty (record { place = 0; start = 0; pending = 0 }) _ refl) refl in
    let z : ◌≡◌ {A = ℕ} 1 0 = ap refusal_place b.refuses in
    omega (arith, z)

-- 10, a length byte of no type, again and again
again_where : SaysWhere says_it_again → ⊥
unfolding then guard need byte_at tlf_at list_of_at start_at says_at onward begin_at step_at next_at
again_where h = by _ (h (0x10 ∷ []) 1 _ refl) refl
  where
    by : (f : Refusal) → Why (0x10 ∷ []) (hears says_it_again (0x10 ∷ [])) 1 f → f.number ≡ 11 → ⊥
    by f (the_first y k w z a v) e = k 0 _ (omega arith) refl
    by f (repeated y j g k x q) e = let z : ◌≡◌ {A = ℕ} f.number 10 = ap (λ (r : Refusal). r.number) q in omega (arith, z)

again_ten : TenAgain says_it_again reader_with → ⊥
unfolding then guard need byte_at tlf_at list_of_at start_at says_at onward begin_at step_at next_at
again_ten h =
    let z : ◌≡◌ {A = ℕ} 11 10 = ap (λ (r : Refusal). r.number) (h (0x10 ∷ []) (record { place = 0; start = 0; pending = 0 }) 0 1 _ _ (omega arith) refl refl) in
    omega (arith, z)

pub fall : Fall
fall =
    record {
      refuses_b3 = refuses_b3;
      refuses_mark3 = refuses_mark3;
      refuses_b1 = refuses_b1;
      refuses_b2 = refuses_b2;
      constant_mark2 = constant_mark2;
      stale_mark2 = stale_mark2;
      hasty_mark2 = hasty_mark2;
      constant_mark3 = constant_mark3;
      idle_mark2 = idle_mark2;
      idle_mark3 = idle_mark3;
      writes_nothing_b1 = writes_nothing_b1;
      writes_nothing_mark3 = writes_nothing_mark3;
      writes_nothing_bytes = writes_nothing_bytes;
      finished_at_once_claim = finished_at_once_claim;
      once_b3 = once_b3;
      once_first = once_first;
      once_mark3 = once_mark3;
      forgiving_hides = forgiving_hides;
      first_only_begins = first_only_begins;
      first_only_hears = first_only_hears;
      counts_eight_begins = counts_eight_begins;
      deaf_again = deaf_again;
      forgets_keeps = forgets_keeps;
      serves_any_refuses = serves_any_refuses;
      swallows_chunks = swallows_chunks;
      takes_none_chunks = takes_none_chunks;
      withholds_chunks = withholds_chunks;
      invents_b6 = invents_b6;
      invents_mark3 = invents_mark3;
      silent_events = silent_events;
      no_entries_events = no_entries_events;
      no_entries_lists = no_entries_lists;
      shrugs_goes_on = shrugs_goes_on;
      forgetful_goes_on = forgetful_goes_on;
      blames_where = blames_where;
      blames_call_where = blames_call_where;
      again_where = again_where;
      again_ten = again_ten;
    }
