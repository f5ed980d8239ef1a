-- A state in 28 bytes: what is claimed of it holds of ours.
use mathlib.Core.Path.{◌≡◌, refl, ap, sym, subst, ◌∙◌}
use mathlib.Core.Bool.{Bool, true, false}
use mathlib.Core.List.{List, [], ◌∷◌, map}
use Prim.Native.Nat.{ℕ, zero, suc, ◌≤◌}
use native.Mathlib.Omega.{arith}
use lib.ListN.{length, take, replicate}
use lib.Dec.{eqb, ltb}
use borrow.Author.Tests.{ne_eqb, eq-eqb, le-ltb, ltb-false}
use Rattle.refusals.specs.Numbers.{bad_state_no, wrong_buffer_no, bad_span_no, limit}
use Rattle.frame.specs.Frame.{same}
use Rattle.decoder.specs.Push as P
use Rattle.decoder.specs.Push.{step}
use Rattle.decoder.specs.Record.{DecoderAnswer, nothing, payload, count, refusal, After, after, numbered, setup, state_of, bad_decoder, wrong_buffer, record_of, pushed, new_record, push_record, finalize_record, reset_record, payload_record, ask_record}
use Rattle.decoder.specs.Run.{KnownWay, Op, push, finalize, reset}
use Rattle.decoder.specs.Run as R
use Rattle.decoder.specs.declared.Decoder.{Decoder}
use Rattle.decoder.specs.declared.Setup.{Setup}
use Rattle.decoder.proofs.Split.{cases}
use Rattle.decoder.proofs.Search.{known_is}
use Rattle.decoder.proofs.Reached.{push_good_stays, push_setup, finalize_good_stays, finalize_setup, reset_good, reset_setup, by_new, reached_good}
use Rattle.decoder.proofs.Valid.{sane_way}
use Rattle.decoder_slice.specs.Slice.{says_nothing, pushes_from, slice_record}
use Rattle.since.specs.Since.{AllBytes}
use Rattle.packed.specs.Layout.{tidied, Narrow, packed_in, record_in}
use Rattle.packed.specs.Packed.{Filled, answering, holds, no_record, pack_into, unpack_of, push_packed, slice_packed, finalize_packed, reset_packed, payload_packed, ask_packed}
use Rattle.packed.proofs.Held.{Packs, packs, pack_bad, pack_over, pack_short, pack_good, holds_record, never_held, slice_stays}
use Rattle.packed.proofs.RoundTrip as T
use Rattle.packed.proofs.RoundTrip.{tidy_is, packed_over, packed_room, packed_long, packed_rest, packed_first, comes_back, tidy_push, tidy_finalize, tidy_reset, tidy_payload, tidy_slice}
use Rattle.marks.specs.Decoders.{ours, answers, LeftBehind, left_behind}
use Rattle.marks.specs.Mark2.{PushesBytes}
use Rattle.marks.specs.Packed.{AreBytes, as_it_was, act_over, our_host, RoundTrip, Exactly, PacksWhatPushes, PacksInOrder, ActsAlike, SlicesAlike, HandsAlike, Serves, LeavesRefused, LeavesTidy, kept_by, AnswersAlike}
use Rattle.marks.specs.Chunks.{Slicer, our_slicer, Use, one_op, slice, HeardUse, heard_use, uses_say, uses_leave}
use Rattle.marks.specs.Library.{UsesBytes}
use Rattle.marks.proofs.Narrow.{bytes_all, new_narrow, act_tame, slice_tame}

-- ---- packing and unpacking

-- what packing accepts
accepted : (d : Decoder) (out : List ℕ) → (pack_into d out).answer ≡ nothing → Packs d out
accepted d out e = packs d out (ap says_nothing e)

filled_with : (d : Decoder) (out : List ℕ) → (pack_into d out).answer ≡ nothing → pack_into d out ≡ answering nothing (packed_in d out)
filled_with d out e =
    let p = accepted d out e in
    pack_good d out p.good p.small p.room

pub round_trips : RoundTrip our_host
round_trips d out n e = rw (filled_with d out e) (comes_back d out n (accepted d out e), packed_rest d out)

-- numbers tell refusals apart
no_of : DecoderAnswer → ℕ
no_of nothing = 100
no_of (payload bytes) = 101
no_of (count n) = 102
no_of (refusal n values) = n

other : {G : Type 0} (a e : DecoderAnswer) → a ≡ e → (no_of a ≡ no_of e → ⊥) → G
other a e h n = absurd (n (ap no_of h))

else_four : (l : List ℕ) (n : ℕ) → unpack_of l ≡ no_record n → n ≡ bad_state_no
unfolding unpack_of
else_four l n e =
    cases (says_nothing (pack_into (record_in l) l).answer)
    (λ said. cases (same (pack_into (record_in l) l).output l) (λ t. never_held (sym (rw (said, t) at e))) (λ t. cc (rw (said, t) at e)))
    (λ said. cc (rw said at e))

pub exactly : Exactly our_host
exactly =
    record {
      gives =
          λ l d bytes e.
          let h = holds_record l d e in
          (ap_narrow l d h.is (T.bytes_narrow l bytes), pack_good d l h.good h.small h.room ∙ ap (answering nothing) h.again);
      takes =
          λ l out d n e t.
          let p = accepted d out e in
          let f : take 28 (packed_in d out) ≡ take 28 l = rw (filled_with d out e) at t in
          let g : packed_in d l ≡ l = packed_first d l out f in
          let room : 28 ≤ length l = rw g at (packed_room d l) in
          rw g at (comes_back d l n (record { good = p.good; small = p.small; room = room }));
      else_four = else_four;
    }
  where
    ap_narrow : (l : List ℕ) (d : Decoder) → d ≡ record_in l → Narrow (record_in l) → Narrow d
    ap_narrow l d is n = subst (λ (x : Decoder). Narrow x) (sym is) n

-- ---- 4 and 5

-- a step never answers 4 or 5
event_number : (e : P.PushEvent) (n : ℕ) (values : List ℕ) → numbered e ≡ refusal n values → (n ≡ bad_state_no → ⊥) × (n ≡ wrong_buffer_no → ⊥)
unfolding no_of
event_number P.silent n values h = (λ x. omega (arith, ap no_of h), λ x. omega (arith, ap no_of h))
event_number (P.pays_out bytes) n values h = (λ x. omega (arith, ap no_of h), λ x. omega (arith, ap no_of h))
event_number P.memory n values h = (λ x. omega (arith, ap no_of h), λ x. omega (arith, ap no_of h))
event_number (P.discarded k) n values h = (λ x. omega (arith, ap no_of h), λ x. omega (arith, ap no_of h))
event_number (P.bad_escape a b c d) n values h = (λ x. omega (arith, ap no_of h), λ x. omega (arith, ap no_of h))
event_number (P.bad_message r c y p) n values h = (λ x. omega (arith, ap no_of h), λ x. omega (arith, ap no_of h))

-- so a push answers 4 exactly where the record is a bad one
push_four : (d : Decoder) (m : List ℕ) (b : ℕ) → (push_record d m b).answer ≡ refusal bad_state_no [] → bad_decoder d ≡ true
unfolding push_record pushed no_of
push_four d m b h =
    cases (bad_decoder d) (λ e. e) (λ e.
    cases (wrong_buffer d.capacity (length m))
    (λ w. absurd (omega (arith, ap no_of (rw (e, w) at h))))
    (λ w. absurd ((event_number (step (setup d) (state_of d m) b).event bad_state_no [] (rw (e, w) at h)).0 refl)))

-- and packing does
pack_four : (d : Decoder) (out : List ℕ) → (pack_into d out).answer ≡ refusal bad_state_no [] → bad_decoder d ≡ true
unfolding pack_into no_of
pack_four d out h =
    cases (bad_decoder d) (λ e. e) (λ e.
    cases (ltb limit d.capacity) (λ o. absurd (omega (arith, ap no_of (rw (e, o) at h)))) (λ o.
    cases (ltb (length out) 28) (λ s. absurd (omega (arith, ap no_of (rw (e, o, s) at h)))) (λ s. absurd (omega (arith, ap no_of (rw (e, o, s) at h))))))

pub bad_push : (d : Decoder) (m : List ℕ) (b : ℕ) → bad_decoder d ≡ true → push_record d m b ≡ after (refusal bad_state_no []) d m
unfolding push_record
bad_push d m b e = rw e

pub wrong_push : (d : Decoder) (m : List ℕ) (b : ℕ) → bad_decoder d ≡ false → wrong_buffer d.capacity (length m) ≡ true → push_record d m b ≡ after (refusal wrong_buffer_no []) d m
unfolding push_record
wrong_push d m b g e = rw (g, e)

pub packs_what_pushes : PacksWhatPushes our_host
packs_what_pushes d out m b = (λ h. ap (λ (a : After). a.answer) (bad_push d m b (pack_four d out h)), λ h. ap (λ (f : Filled). f.answer) (pack_bad d out (push_four d m b h)))

-- what a push over bytes that hold d answers
held_answer : (l m : List ℕ) (d : Decoder) (b : ℕ) → unpack_of l ≡ holds d → (push_packed l m b).answer ≡ (push_record d m b).answer
unfolding push_packed
held_answer l m d b e = rw e

true_false : {G : Type 0} (t : Bool) → t ≡ true → t ≡ false → G
true_false t h k =
    let z : ◌≡◌ {A = ℕ} 0 1 = cc in
    absurd (omega arith)

five_never : (d : Decoder) (m : List ℕ) (b : ℕ) → bad_decoder d ≡ false → d.capacity ≤ limit → length m ≡ d.capacity → (push_record d m b).answer ≡ refusal wrong_buffer_no [] → ⊥
unfolding push_record pushed wrong_buffer
five_never d m b g small e h =
    let right : eqb (length m) d.capacity ≡ true = eq-eqb _ _ e in
    let fits : ltb limit (length m) ≡ false = le-ltb limit (length m) (omega arith) in
    (event_number (step (setup d) (state_of d m) b).event wrong_buffer_no [] (rw (g, right, fits) at h)).1 refl

wrong_five : (d : Decoder) (m : List ℕ) (b : ℕ) → bad_decoder d ≡ false → (length m ≡ d.capacity → ⊥) → push_record d m b ≡ after (refusal wrong_buffer_no []) d m
unfolding wrong_buffer
wrong_five d m b g not = wrong_push d m b g (rw (ne_eqb (length m) d.capacity not))

held_wrong : (l m : List ℕ) (d : Decoder) (b : ℕ) → unpack_of l ≡ holds d → (length m ≡ d.capacity → ⊥) → act_over l m (push b) ≡ as_it_was (refusal wrong_buffer_no []) l m
unfolding push_packed
held_wrong l m d b e not =
    let h = holds_record l d e in
    rw (e, wrong_five d m b h.good not, h.again)

pub serves : Serves our_host
serves l m d b e =
    let h = holds_record l d e in
    let a = held_answer l m d b e in
    (λ four. true_false (bad_decoder d) (push_four d m b (sym a ∙ four)) h.good, λ five alike. five_never d m b h.good h.small alike (sym a ∙ five), λ not. held_wrong l m d b e not)

-- ---- what is refused changes nothing

pack_leaves : (d : Decoder) (out : List ℕ) → ((pack_into d out).answer ≡ nothing → ⊥) → (pack_into d out).output ≡ out
unfolding pack_into
pack_leaves d out h =
    cases (bad_decoder d) (λ e. rw e) (λ e.
    cases (ltb limit d.capacity) (λ o. rw (e, o)) (λ o.
    cases (ltb (length out) 28) (λ s. rw (e, o, s)) (λ s. absurd (h (rw (e, o, s))))))

pack_long : (d : Decoder) (out : List ℕ) → length (pack_into d out).output ≡ length out
unfolding pack_into
pack_long d out =
    cases (bad_decoder d) (λ e. rw e) (λ e.
    cases (ltb limit d.capacity) (λ o. rw (e, o)) (λ o.
    cases (ltb (length out) 28) (λ s. rw (e, o, s)) (λ s. rw (e, o, s) (packed_long d out (ltb-false _ _ s)))))

pub packs_in_order : PacksInOrder our_host
packs_in_order =
    record {
      over = λ d out g o. ap (λ (f : Filled). f.answer) (pack_over d out g o);
      short = λ d out g o s. ap (λ (f : Filled). f.answer) (pack_short d out g o s);
      packs = λ d out g o r. ap (λ (f : Filled). f.answer) (pack_good d out g o r);
      as_long = pack_long;
    }

act_leaves : (l m : List ℕ) (o : Op) → unpack_of l ≡ no_record bad_state_no → act_over l m o ≡ record { answer = refusal bad_state_no []; decoder = l; memory = m }
unfolding push_packed finalize_packed reset_packed
act_leaves l m (push b) e = rw e
act_leaves l m finalize e = rw e
act_leaves l m reset e = rw e

module _ (l m : List ℕ) (e : unpack_of l ≡ no_record bad_state_no) where
  slice_leaves : (chunk : List ℕ) → our_host.push_slice l m chunk ≡ record { answer = refusal bad_state_no []; taken = 0; decoder = l; memory = m }
  unfolding slice_packed
  slice_leaves chunk = rw e

  payload_none : payload_packed l m ≡ []
  unfolding payload_packed
  payload_none = rw e

  ask_none : ask_packed l m ≡ refusal bad_span_no []
  unfolding ask_packed
  ask_none = rw e

as_four : (l : List ℕ) (n : ℕ) → unpack_of l ≡ no_record n → unpack_of l ≡ no_record bad_state_no
as_four l n e = e ∙ ap no_record (else_four l n e)

pub leaves_refused : LeavesRefused our_host
leaves_refused =
    record {
      output = pack_leaves;
      bytes = λ l m o n e. act_leaves l m o (as_four l n e);
      slice = λ l m chunk n e. slice_leaves l m (as_four l n e) chunk;
      asked = λ l m n e. (payload_none l m (as_four l n e), ask_none l m (as_four l n e));
    }

-- ---- calls over the bytes

-- what a call leaves of a record that packing accepts is accepted, too, and packs to these bytes
packs_left : (d e : Decoder) (l b : List ℕ) → d.capacity ≤ limit → bad_decoder e ≡ false → setup e ≡ setup d → 28 ≤ length l → b ≡ packed_in e l → pack_into e l ≡ answering nothing b
packs_left d e l b small good same room is =
    let c : e.capacity ≡ d.capacity = ap (λ (x : Setup). x.capacity) same in
    pack_good e l good (rw c small) room ∙ ap (answering nothing) (sym is)

module _ (d : Decoder) (out m : List ℕ) (n : Narrow d) (p : Packs d out) where
  l : List ℕ
  l = packed_in d out

  held : unpack_of l ≡ holds (tidied d)
  unfolding l
  held = comes_back d out n p

  room : 28 ≤ length l
  unfolding l
  room = packed_room d out

  act_alike : (o : Op) → ((act_over l m o).answer ≡ (R.act d m o).answer) × ((act_over l m o).memory ≡ (R.act d m o).memory) × (pack_into (R.act d m o).decoder l ≡ answering nothing (act_over l m o).decoder)
  unfolding push_packed finalize_packed reset_packed R.act
  act_alike (push b) =
      let a = tidy_push d p.good m b l in
      rw held (a.answers, a.memories, packs_left d (push_record d m b).decoder l _ p.small (push_good_stays d m b p.good) (push_setup d m b) room a.packings)
  act_alike finalize =
      rw (held, tidy_finalize d p.good) (refl, refl, packs_left d (finalize_record d).decoder l _ p.small (finalize_good_stays d p.good) (finalize_setup d) room refl)
  act_alike reset =
      rw (held, tidy_reset d p.good) (refl, refl, packs_left d (reset_record d).decoder l _ p.small (reset_good d (sane_way d p.good)) (reset_setup d) room refl)

  slice_alike : (chunk : List ℕ)
      → ((slice_packed l m chunk).answer ≡ (slice_record d m chunk).answer) × ((slice_packed l m chunk).taken ≡ (slice_record d m chunk).taken) × ((slice_packed l m chunk).memory ≡ (slice_record d m chunk).memory)
      × (pack_into (slice_record d m chunk).decoder l ≡ answering nothing (slice_packed l m chunk).bytes)
  unfolding slice_packed
  slice_alike chunk =
      let a = tidy_slice d p.good m chunk l in
      let s = slice_stays d m chunk p.good in
      rw held (a.answers, a.takens, a.memories, packs_left d (slice_record d m chunk).decoder l _ p.small s.good s.setup' room a.packings)

  hands_alike : (payload_packed l m ≡ payload_record d m) × (ask_packed l m ≡ ask_record d m)
  unfolding payload_packed ask_packed payload_record ask_record
  hands_alike = rw (held, tidy_payload d p.good m) (refl, refl)

pub acts_alike : ActsAlike our_host
unfolding l
acts_alike d out m o n e = rw (filled_with d out e) (act_alike d out m n (accepted d out e) o)

pub slices_alike : SlicesAlike our_host
unfolding l
slices_alike d out m chunk n e = rw (filled_with d out e) (slice_alike d out m n (accepted d out e) chunk)

pub hands_out_alike : HandsAlike our_host
unfolding l
hands_out_alike d out m n e = rw (filled_with d out e) (hands_alike d out m n (accepted d out e))

-- ---- a decoder that is kept in bytes

-- bytes that packing d into them leaves as they are
Keeps : Decoder → List ℕ → Type 0
Keeps d b = pack_into d b ≡ answering nothing b

keeps_on : (d : Decoder) (b k : List ℕ) → pack_into d b ≡ answering nothing k → Keeps d k
unfolding Keeps
keeps_on d b k e =
    let p = accepted d b (ap (λ (f : Filled). f.answer) e) in
    let is : packed_in d b ≡ k = ap (λ (f : Filled). f.output) (sym (filled_with d b (ap (λ (f : Filled). f.answer) e)) ∙ e) in
    rw (← is) (pack_good d (packed_in d b) p.good p.small (packed_room d b) ∙ ap (answering nothing) (packed_over d b d))

record StepKept (d : Decoder) (b m : List ℕ) (o : Op) : Type 0 where
  answers' : (act_over b m o).answer ≡ (R.act d m o).answer
  memories' : (act_over b m o).memory ≡ (R.act d m o).memory
  keeps' : Keeps (R.act d m o).decoder (act_over b m o).decoder

step_kept : (d : Decoder) (b m : List ℕ) (o : Op) → Keeps d b → Narrow d → StepKept d b m o
unfolding Keeps
step_kept d b m o k n =
    let a = acts_alike d b m o n (ap (λ (f : Filled). f.answer) k) in
    let a2 : pack_into (R.act d m o).decoder b ≡ answering nothing (act_over b m o).decoder = rw k at a.2 in
    record { answers' = rw k at a.0; memories' = rw k at a.1; keeps' = keeps_on _ _ _ a2 }

record SliceKept (d : Decoder) (b m chunk : List ℕ) : Type 0 where
  answers' : (slice_packed b m chunk).answer ≡ (slice_record d m chunk).answer
  takens' : (slice_packed b m chunk).taken ≡ (slice_record d m chunk).taken
  memories' : (slice_packed b m chunk).memory ≡ (slice_record d m chunk).memory
  keeps' : Keeps (slice_record d m chunk).decoder (slice_packed b m chunk).bytes

slice_kept : (d : Decoder) (b m chunk : List ℕ) → Keeps d b → Narrow d → SliceKept d b m chunk
unfolding Keeps
slice_kept d b m chunk k n =
    let a = slices_alike d b m chunk n (ap (λ (f : Filled). f.answer) k) in
    let a3 : pack_into (slice_record d m chunk).decoder b ≡ answering nothing (slice_packed b m chunk).bytes = rw k at a.3 in
    record { answers' = rw k at a.0; takens' = rw k at a.1; memories' = rw k at a.2; keeps' = keeps_on _ _ _ a3 }

-- a record and bytes that keep it, with one memory
pub record StaysKept (j : LeftBehind Decoder) (k : LeftBehind (List ℕ)) : Type 0 where
  pub narrow : Narrow j.decoder
  pub keeps : pack_into j.decoder k.decoder ≡ answering nothing k.decoder
  pub memories : k.memory ≡ j.memory

-- the payload there is that of the record, and so is its question
pub kept_payload : (j : LeftBehind Decoder) (k : LeftBehind (List ℕ)) → StaysKept j k
    → (payload_packed k.decoder k.memory ≡ payload_record j.decoder j.memory) × (ask_packed k.decoder k.memory ≡ ask_record j.decoder j.memory)
kept_payload j k a =
    let y = hands_out_alike j.decoder k.decoder k.memory a.narrow (ap (λ (x : Filled). x.answer) a.keeps) in
    let q : payload_packed k.decoder k.memory ≡ payload_record j.decoder k.memory = rw a.keeps at y.0 in
    let r : ask_packed k.decoder k.memory ≡ ask_record j.decoder k.memory = rw a.keeps at y.1 in
    (q ∙ ap (payload_record j.decoder) a.memories, r ∙ ap (ask_record j.decoder) a.memories)

-- operations and slices

abbrev pub host_slicer : Slicer (List ℕ)
host_slicer = record { machine = kept_by our_host; push_slice = our_host.push_slice }

uses_alike : (us : List Use) (d : Decoder) (b m : List ℕ) → Keeps d b → Narrow d → AllBytes m → UsesBytes us → uses_say host_slicer b m us ≡ uses_say our_slicer d m us
unfolding uses_say
uses_alike [] d b m k n h p = refl
uses_alike (one_op o ∷ us) d b m k n h p =
    let s = step_kept d b m o k n in
    let t = (act_tame d m o [] n h p.0).0 in
    rw (s.answers', s.memories') (ap (λ (l : List HeardUse). heard_use (R.act d m o).answer 0 ∷ l) (uses_alike us (R.act d m o).decoder (act_over b m o).decoder (R.act d m o).memory s.keeps' t.decoder t.memory p.1))
uses_alike (slice chunk ∷ us) d b m k n h p =
    let s = slice_kept d b m chunk k n in
    let t = slice_tame d m chunk n h (bytes_all chunk p.0) in
    rw (s.answers', s.takens', s.memories') (ap (λ (l : List HeardUse). heard_use (slice_record d m chunk).answer (slice_record d m chunk).taken ∷ l)
    (uses_alike us (slice_record d m chunk).decoder (slice_packed b m chunk).bytes (slice_record d m chunk).memory s.keeps' t.0 t.1 p.1))

uses_kept : (us : List Use) (d : Decoder) (b m : List ℕ) → Keeps d b → Narrow d → AllBytes m → UsesBytes us → StaysKept (uses_leave our_slicer d m us) (uses_leave host_slicer b m us)
unfolding uses_leave Keeps
uses_kept [] d b m k n h p = record { narrow = n; keeps = k; memories = refl }
uses_kept (one_op o ∷ us) d b m k n h p =
    let s = step_kept d b m o k n in
    let t = (act_tame d m o [] n h p.0).0 in
    rw s.memories' (uses_kept us (R.act d m o).decoder (act_over b m o).decoder (R.act d m o).memory s.keeps' t.decoder t.memory p.1)
uses_kept (slice chunk ∷ us) d b m k n h p =
    let s = slice_kept d b m chunk k n in
    let t = slice_tame d m chunk n h (bytes_all chunk p.0) in
    rw s.memories' (uses_kept us (slice_record d m chunk).decoder (slice_packed b m chunk).bytes (slice_record d m chunk).memory s.keeps' t.0 t.1 p.1)

-- of a new decoder, whatever stood in its bytes before
pub record UsedAlike (C : Setup) (b m : List ℕ) (us : List Use) : Type 0 where
  pub says : uses_say host_slicer b m us ≡ uses_say our_slicer (new_record C) m us
  pub stays : StaysKept (uses_leave our_slicer (new_record C) m us) (uses_leave host_slicer b m us)

pub new_alike : (C : Setup) (l m : List ℕ) (us : List Use) → KnownWay C.way → C.capacity ≤ limit → 28 ≤ length l → AreBytes m → UsesBytes us → UsedAlike C (pack_into (new_record C) l).output m us
unfolding Keeps
new_alike C l m us w small room h p =
    let good = (reached_good C (new_record C) (known_is C.way w) by_new).0 in
    let f = pack_good (new_record C) l good small room in
    let b = (pack_into (new_record C) l).output in
    let k : Keeps (new_record C) b = keeps_on (new_record C) l b (f ∙ ap (λ (x : Filled). answering nothing x.output) (sym f)) in
    record { says = uses_alike us (new_record C) b m k (new_narrow C) (bytes_all m h) p; stays = uses_kept us (new_record C) b m k (new_narrow C) (bytes_all m h) p }

-- operations alone are such uses

pub singly : List Op → List Use
singly os = map one_op os

pub singly_bytes : (os : List Op) → PushesBytes os → UsesBytes (singly os)
unfolding singly
singly_bytes [] p = tt
singly_bytes (push b ∷ os) p = ((p.0, tt), singly_bytes os p.1)
singly_bytes (finalize ∷ os) p = (tt, singly_bytes os p)
singly_bytes (reset ∷ os) p = (tt, singly_bytes os p)

abbrev used_answer : HeardUse → DecoderAnswer
used_answer h = h.answer

module _ {S : Type 0} (M : Slicer S) where
  pub singly_says : (os : List Op) (d : S) (m : List ℕ) → map used_answer (uses_say M d m (singly os)) ≡ answers M.machine d m os
  unfolding singly uses_say answers
  singly_says [] d m = refl
  singly_says (o ∷ os) d m = ap (λ (l : List DecoderAnswer). (M.machine.act d m o).answer ∷ l) (singly_says os (M.machine.act d m o).decoder (M.machine.act d m o).memory)

  pub singly_leaves : (os : List Op) (d : S) (m : List ℕ) → uses_leave M d m (singly os) ≡ left_behind M.machine d m os
  unfolding singly uses_leave left_behind
  singly_leaves [] d m = refl
  singly_leaves (o ∷ os) d m = singly_leaves os (M.machine.act d m o).decoder (M.machine.act d m o).memory

-- what two decoders say alike of uses, they answer alike of operations
pub singly_answers : {S T : Type 0} (M : Slicer S) (N : Slicer T) (os : List Op) (d : S) (e : T) (m : List ℕ) → uses_say M d m (singly os) ≡ uses_say N e m (singly os) → answers M.machine d m os ≡ answers N.machine e m os
singly_answers M N os d e m h = sym (singly_says M os d m) ∙ ap (map used_answer) h ∙ singly_says N os e m

pub answers_alike : AnswersAlike our_host
answers_alike C m os w small h p =
    let a = new_alike C (replicate 28 0) m (singly os) w small (omega arith) h (singly_bytes os p) in
    let b = (pack_into (new_record C) (replicate 28 0)).output in
    let s : StaysKept (left_behind ours (new_record C) m os) (left_behind (kept_by our_host) b m os) = rw (← singly_leaves our_slicer os (new_record C) m, ← singly_leaves host_slicer os b m) a.stays in
    (singly_answers host_slicer our_slicer os b (new_record C) m a.says, s.memories, s.keeps, (kept_payload _ _ s).0)

-- ---- unused counts

record_tidy : (C : Setup) (s : P.State) → tidied (record_of C s) ≡ record_of C s
record_tidy C (P.search n noise raw) = refl
record_tidy C (P.body zero q) = refl
record_tidy C (P.body (suc n) q) = refl
record_tidy C (P.escape k q) = refl
record_tidy C (P.done bytes) = refl

push_tidy : (d : Decoder) (m : List ℕ) (b : ℕ) → tidied d ≡ d → tidied (push_record d m b).decoder ≡ (push_record d m b).decoder
unfolding push_record pushed
push_tidy d m b t =
    cases (bad_decoder d) (λ e. rw e t) (λ e.
    cases (wrong_buffer d.capacity (length m)) (λ w. rw (e, w) t) (λ w. rw (e, w) (record_tidy (setup d) (step (setup d) (state_of d m) b).state)))

act_tidy : (d : Decoder) (m : List ℕ) (o : Op) → tidied d ≡ d → tidied (R.act d m o).decoder ≡ (R.act d m o).decoder
unfolding R.act finalize_record reset_record
act_tidy d m (push b) t = push_tidy d m b t
act_tidy d m finalize t = cases (bad_decoder d) (λ e. rw e t) (λ e. rw e refl)
act_tidy d m reset t = refl

pushes_tidy : (bs : List ℕ) (n : ℕ) (d : Decoder) (m : List ℕ) → tidied d ≡ d → tidied (pushes_from n d m bs).decoder ≡ (pushes_from n d m bs).decoder
unfolding pushes_from
pushes_tidy [] n d m t = t
pushes_tidy (b ∷ bs) n d m t =
    cases (says_nothing (push_record d m b).answer)
    (λ e. rw e (pushes_tidy bs (suc n) (push_record d m b).decoder (push_record d m b).memory (push_tidy d m b t)))
    (λ e. rw e (push_tidy d m b t))

slice_tidy : (d : Decoder) (m chunk : List ℕ) → tidied d ≡ d → tidied (slice_record d m chunk).decoder ≡ (slice_record d m chunk).decoder
unfolding slice_record
slice_tidy d m chunk t =
    cases (bad_decoder d) (λ e. rw e t) (λ e.
    cases (wrong_buffer d.capacity (length m)) (λ w. rw (e, w) t) (λ w. rw (e, w) (pushes_tidy chunk 0 d m t)))

pub leaves_tidy : LeavesTidy
leaves_tidy = record { new = λ C. refl; act = act_tidy; slice = slice_tidy; elsewhere = tidy_is }
