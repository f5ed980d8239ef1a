-- A larger buffer takes nothing away: two decoders of one way and in one state of the push rules stay so, up to the smaller one's first 3.
use mathlib.Core.Path.{◌≡◌, refl, ap, ap₂, sym, subst, ◌∙◌}
use mathlib.Core.Bool.{Bool, true, true≢false}
use mathlib.Core.List.{List, [], ◌∷◌, ◌++◌, append-nil, append_cancel_right, map, nil≢cons, tail-eq_of_cons-eq}
use Prim.Native.Nat.{ℕ, suc, ◌≤◌}
use native.Mathlib.Omega.{arith}
use lib.ListN.{length, take, drop, get_or, take-append-drop}
use lib.Seq.{take-length}
use Rattle.decoder.specs.Push.{State, Out}
use Rattle.decoder.specs.Record.{DecoderAnswer, nothing, refusal, setup, state_of, new_record, unknown_way, push_record, reset_record, has_payload, payload_record, ask_record, numbered}
use Rattle.decoder.specs.Run.{KnownWay, Op, push, finalize, reset, act}
use Rattle.decoder.specs.declared.Decoder.{Decoder}
use Rattle.decoder.specs.declared.Setup.{Setup}
use Rattle.decoder.proofs.Split.{cases}
use Rattle.decoder.proofs.States.{act_state, answer_state}
use Rattle.decoder.proofs.Faithful.{Fit}
use Rattle.decoder.proofs.Payload.{held_payload, payload_held_lem}
use Rattle.decoder.proofs.Runs.{acts, new_fit}
use Rattle.decoder.proofs.Search.{known_is}
use Rattle.decoder_slice.specs.Slice.{Took, says_nothing, pushes_from, slice_record}
use Rattle.decoder_slice.proofs.Taken.{slice_bad, slice_pushes, taken_from}
use Rattle.marks.specs.Decoders.{Gave, LeftBehind, ours, answers, left_behind}
use Rattle.marks.specs.Chunks.{GaveSlice, Slicer, our_slicer, each_byte, by_slices, Chunks, Use, one_op, slice, HeardUse, heard_use, uses_say, uses_leave}
use Rattle.marks.specs.Larger.{is_full, before_first, BeginsWith, OwnBuffer, new_hands, Larger, is_full_call, LargerBySlices, LargerAsked, done_in, said_in, new_does, LargerCutAnyhow}
use Rattle.marks.proofs.Chunks.{answers_join, left_join, chunks}
use Rattle.marks.proofs.Less.{step_less}
use Rattle.marks.proofs.Ways.{unknown_bad, refuses_unknown, unknown_asked}

-- ---- an operation in one state: the smaller one's answer is 3, or both do the same

op_less : {G : Type 0} (C D : Setup) (s : State) (o : Op) → C.way ≡ D.way → C.capacity ≤ D.capacity
    → (answer_state C s o ≡ refusal 3 [] → G) → (answer_state C s o ≡ answer_state D s o → act_state C s o ≡ act_state D s o → G) → G
unfolding answer_state act_state
op_less C D s (push b) w le f g =
    step_less C D s b w le (λ e. f (ap (λ (o : Out). numbered o.event) e)) (λ e. g (ap (λ (o : Out). numbered o.event) e) (ap (λ (o : Out). o.state) e))
op_less C D s finalize w le f g = g refl refl
op_less C D s reset w le f g = g refl refl

-- ---- two decoders, each with its buffer

-- of one way and in one state, neither refused
record Twins (d : Decoder) (m : List ℕ) (e : Decoder) (n : List ℕ) : Type 0 where
  fit : Fit d m
  fit' : Fit e n
  ways : d.way ≡ e.way
  sizes : d.capacity ≤ e.capacity
  states : state_of d m ≡ state_of e n

-- or both new, of an unknown way
data Two : Decoder → List ℕ → Decoder → List ℕ → Type 0 where
  twins : {d e : Decoder} {m n : List ℕ} → Twins d m e n → Two d m e n
  both_unknown : {C D : Setup} {m n : List ℕ} → (KnownWay C.way → ⊥) → (KnownWay D.way → ⊥) → Two (new_record C) m (new_record D) n

-- what is wanted of an operation of the smaller one, a, beside the larger one's, b: its answer is 3, or they answer the same and are still two of that kind
abbrev Pace : Type 0 → (Decoder → List ℕ → Decoder → List ℕ → Type 0) → Gave Decoder → Gave Decoder → Type 0
Pace G R a b = (a.answer ≡ refusal 3 [] → G) → (a.answer ≡ b.answer → R a.decoder a.memory b.decoder b.memory → G) → G

twins_pace : {G : Type 0} (d : Decoder) (m : List ℕ) (e : Decoder) (n : List ℕ) (o : Op) → Twins d m e n → Pace G Twins (ours.act d m o) (ours.act e n o)
twins_pace d m e n o t f g =
    let a = acts d m o t.fit in
    let b = acts e n o t.fit' in
    op_less (setup d) (setup e) (state_of d m) o t.ways t.sizes
    (λ x. f (a.answer ∙ x))
    (λ x y. g (a.answer ∙ x ∙ ap (λ (s : State). answer_state (setup e) s o) t.states ∙ sym b.answer) (record {
      fit = a.fit;
      fit' = b.fit;
      ways = ap (λ (C : Setup). C.way) a.setup' ∙ t.ways ∙ sym (ap (λ (C : Setup). C.way) b.setup');
      sizes = rw (ap (λ (C : Setup). C.capacity) a.setup', ap (λ (C : Setup). C.capacity) b.setup') t.sizes;
      states = a.view' ∙ y ∙ ap (λ (s : State). act_state (setup e) s o) t.states ∙ sym b.view';
    }))

same_pace : {G : Type 0} {a b a' b' : Gave Decoder} → a ≡ a' → b ≡ b' → Pace G Two a' b' → Pace G Two a b
same_pace x y h = rw (x, y) h

unknown_pace : {G : Type 0} (C D : Setup) (m n : List ℕ) (o : Op) → (KnownWay C.way → ⊥) → (KnownWay D.way → ⊥) → Pace G Two (ours.act (new_record C) m o) (ours.act (new_record D) n o)
unfolding act reset_record
unknown_pace C D m n (push b) x y = same_pace (refuses_unknown.by_push_claim (new_record C) m b x) (refuses_unknown.by_push_claim (new_record D) n b y) (λ f g. g refl (both_unknown x y))
unknown_pace C D m n finalize x y = same_pace (refuses_unknown.by_finalize_claim (new_record C) m x) (refuses_unknown.by_finalize_claim (new_record D) n y) (λ f g. g refl (both_unknown x y))
unknown_pace C D m n reset x y = λ f g. g refl (both_unknown x y)

pace : {G : Type 0} {d : Decoder} {m : List ℕ} {e : Decoder} {n : List ℕ} (o : Op) → Two d m e n → Pace G Two (ours.act d m o) (ours.act e n o)
pace o (twins {d = d} {e = e} {m = m} {n = n} t) f g = twins_pace d m e n o t f (λ x t'. g x (twins t'))
pace o (both_unknown {C = C} {D = D} {m = m} {n = n} x y) f g = unknown_pace C D m n o x y f g

-- what both hand back is the same, and whether it stands there
two_hand : {d : Decoder} {m : List ℕ} {e : Decoder} {n : List ℕ} → Two d m e n → payload_record e n ≡ payload_record d m
two_hand (twins {d = d} {e = e} {m = m} {n = n} t) = payload_held_lem e n t.fit' ∙ ap held_payload (sym t.states) ∙ sym (payload_held_lem d m t.fit)
two_hand (both_unknown {C = C} {D = D} {m = m} {n = n} x y) = refuses_unknown.no_payload (new_record D) n y ∙ sym (refuses_unknown.no_payload (new_record C) m x)

two_ask : {d : Decoder} {m : List ℕ} {e : Decoder} {n : List ℕ} → Two d m e n → ask_record e n ≡ ask_record d m
unfolding ask_record has_payload
two_ask (twins t) = rw (t.fit.state, t.fit.buffer, t.fit'.state, t.fit'.buffer, t.states)
two_ask (both_unknown {C = C} {D = D} {m = m} {n = n} x y) = unknown_asked (new_record D) n y ∙ sym (unknown_asked (new_record C) m x)

-- new ones of one way are two of that kind
two_new : (C D : Setup) (m n : List ℕ) → OwnBuffer C m → OwnBuffer D n → C.way ≡ D.way → C.capacity ≤ D.capacity → Two (new_record C) m (new_record D) n
two_new C D m n p q w le =
    cases (unknown_way C.way)
    (λ x. let no : KnownWay C.way → ⊥ = λ k. true≢false (sym x ∙ known_is C.way k) in both_unknown no (λ k. no (rw w k)))
    (λ x. twins (record { fit = new_fit C m x p.long p.within; fit' = new_fit D n (rw (← w) x) q.long q.within; ways = w; sizes = le; states = refl }))

-- ---- what the two say, one beside the other

-- the same until the smaller one's first that the test holds of, which has to the larger one's the relation R; and where there is none, E
data InStep {A : Type 0} (test : A → Bool) (R : A → A → Type 0) (E : Type 0) : List A → List A → Type 0 where
  both_end : E → InStep test R E [] []
  first_stops : {a b : A} {k l : List A} → test a ≡ true → R a b → InStep test R E (a ∷ k) (b ∷ l)
  same_then : {a b : A} {k l : List A} → a ≡ b → InStep test R E k l → InStep test R E (a ∷ k) (b ∷ l)

module _ {A : Type 0} (test : A → Bool) {R : A → A → Type 0} {E : Type 0} where
  begins_with : {k l : List A} → InStep test R E k l → BeginsWith (before_first test l) (before_first test k)
  unfolding before_first
  begins_with (both_end x) = refl
  begins_with (first_stops t r) = rw t
  begins_with (same_then {a = a} e h) = cases (test a) (λ t. rw t) (λ t. rw (← e, t) (ap (λ (x : List A). a ∷ x) (begins_with h)))

  to_the_end : {k l : List A} → InStep test R E k l → before_first test k ≡ k → E
  unfolding before_first
  to_the_end (both_end x) none = x
  to_the_end (first_stops t r) none = absurd (nil≢cons (rw t at none))
  to_the_end (same_then {a = a} e h) none = cases (test a) (λ t. absurd (nil≢cons (rw t at none))) (λ t. to_the_end h (tail-eq_of_cons-eq (rw t at none)))

  -- at the first one, whatever stands for what isn't there
  at_the_first : (other : A) → ((a : A) → R a a) → {k l : List A} → InStep test R E k l → R (get_or k (length (before_first test k)) other) (get_or l (length (before_first test k)) other)
  unfolding before_first
  at_the_first other same (both_end x) = same other
  at_the_first other same (first_stops t r) = rw t r
  at_the_first other same (same_then {a = a} e h) = cases (test a) (λ t. rw (← e, t) (same a)) (λ t. rw t (at_the_first other same h))

-- ---- any number of operations

goes : (os : List Op) (d : Decoder) (m : List ℕ) (e : Decoder) (n : List ℕ) → Two d m e n
    → InStep is_full (λ a b. Unit {0}) (Two (left_behind ours d m os).decoder (left_behind ours d m os).memory (left_behind ours e n os).decoder (left_behind ours e n os).memory) (answers ours d m os) (answers ours e n os)
unfolding answers left_behind
goes [] d m e n t = both_end t
goes (o ∷ os) d m e n t = pace o t (λ x. first_stops (ap is_full x) tt) (λ x t'. same_then x (goes os _ _ _ _ t'))

pub larger : Larger ours
larger C D m n p q w le os =
    let g = goes os _ _ _ _ (two_new C D m n p q w le) in
    record { says = begins_with is_full g; hands = λ none. two_hand (to_the_end is_full g none) }

-- ---- pushes of slices

-- what is wanted of a slice: its answer is 3, and the larger one takes at least as many bytes; or they say the same and are still two of that kind
abbrev SlicePace : Type 0 → (Decoder → List ℕ → Decoder → List ℕ → Type 0) → Took → Took → Type 0
SlicePace G R t u = (t.answer ≡ refusal 3 [] → t.taken ≤ u.taken → G) → (t.answer ≡ u.answer → t.taken ≡ u.taken → R t.decoder t.memory u.decoder u.memory → G) → G

-- a first byte is taken whatever it says
taken_some : (b : ℕ) (bs : List ℕ) (k : ℕ) (d : Decoder) (m : List ℕ) → suc k ≤ (pushes_from k d m (b ∷ bs)).taken
unfolding pushes_from
taken_some b bs k d m = cases (says_nothing (push_record d m b).answer) (λ s. rw s (taken_from bs (suc k) _ _).0) (λ s. rw s (omega arith))

pushes_pace : {G : Type 0} (bs : List ℕ) (k : ℕ) (d : Decoder) (m : List ℕ) (e : Decoder) (n : List ℕ) → Twins d m e n → SlicePace G Twins (pushes_from k d m bs) (pushes_from k e n bs)
unfolding pushes_from act
pushes_pace [] k d m e n t = λ f g. g refl refl t
pushes_pace (b ∷ bs) k d m e n t =
    twins_pace d m e n (push b) t
    (λ x. let some = taken_some b bs k e n in rw (ap says_nothing x) (λ f g. f x some))
    (λ x t'. cases (says_nothing (push_record d m b).answer) (λ s. rw (← x, s) (pushes_pace bs (suc k) _ _ _ _ t')) (λ s. rw (← x, s) (λ f g. g refl refl t')))

slice_pace : {G : Type 0} {d : Decoder} {m : List ℕ} {e : Decoder} {n : List ℕ} (bs : List ℕ) → Two d m e n → SlicePace G Two (slice_record d m bs) (slice_record e n bs)
slice_pace bs (twins {d = d} {e = e} {m = m} {n = n} t) =
    rw (← slice_pushes d m bs t.fit.state t.fit.buffer, ← slice_pushes e n bs t.fit'.state t.fit'.buffer) (λ f g. pushes_pace bs 0 d m e n t f (λ x y t'. g x y (twins t')))
slice_pace bs (both_unknown {C = C} {D = D} {m = m} {n = n} x y) =
    rw (← slice_bad (new_record C) m bs (unknown_bad (new_record C) x), ← slice_bad (new_record D) n bs (unknown_bad (new_record D) y)) (λ f g. g refl refl (both_unknown x y))

-- ---- any number of operations and slices

abbrev TakesAsMany : HeardUse → HeardUse → Type 0
TakesAsMany h g = h.taken ≤ g.taken

goes_by_slices : (us : List Use) (d : Decoder) (m : List ℕ) (e : Decoder) (n : List ℕ) → Two d m e n
    → InStep is_full_call TakesAsMany (Two (uses_leave our_slicer d m us).decoder (uses_leave our_slicer d m us).memory (uses_leave our_slicer e n us).decoder (uses_leave our_slicer e n us).memory)
    (uses_say our_slicer d m us) (uses_say our_slicer e n us)
unfolding uses_say uses_leave
goes_by_slices [] d m e n t = both_end t
goes_by_slices (one_op o ∷ us) d m e n t = pace o t (λ x. first_stops (ap is_full x) (omega arith)) (λ x t'. same_then (ap (λ (a : DecoderAnswer). heard_use a 0) x) (goes_by_slices us _ _ _ _ t'))
goes_by_slices (slice chunk ∷ us) d m e n t = slice_pace chunk t (λ x le. first_stops (ap is_full x) le) (λ x y t'. same_then (ap₂ heard_use x y) (goes_by_slices us _ _ _ _ t'))

pub larger_by_slices : LargerBySlices our_slicer
larger_by_slices C D m n p q w le us =
    let g = goes_by_slices us _ _ _ _ (two_new C D m n p q w le) in
    record {
      says = begins_with is_full_call g;
      takes = at_the_first is_full_call (heard_use nothing 0) (λ h. omega arith) g;
      hands = λ none. two_hand (to_the_end is_full_call g none);
    }

pub larger_asked : LargerAsked our_slicer ask_record
larger_asked C D m n p q w le us none = two_ask (to_the_end is_full_call (goes_by_slices us _ _ _ _ (two_new C D m n p q w le)) none)

-- ---- slices that are cut anyhow, of any decoder of which `Chunks` and `Larger` hold

module _ {S : Type 0} (M : Slicer S) (c : Chunks M) (C : Setup) (m : List ℕ) (p : OwnBuffer C m) (w : KnownWay C.way) where
  abbrev kept : List Op → LeftBehind S
  kept before = left_behind M.machine (M.machine.new C) m before

  -- a slice is heard as the bytes that it took pushed one by one, and leaves what those leave
  record OneSlice (before : List Op) (chunk : List ℕ) (t : GaveSlice S) : Type 0 where
    hears : each_byte t.taken t.answer ≡ answers M.machine (kept before).decoder (kept before).memory (map push (take t.taken chunk))
    leaves : record { decoder = t.decoder; memory = t.memory } ≡ kept (before ++ map push (take t.taken chunk))

  one_part : (before : List Op) (chunk : List ℕ) (n : ℕ) → OneSlice before chunk (M.push_slice (kept before).decoder (kept before).memory (take n chunk))
  unfolding by_slices
  one_part before chunk n =
      let s = c C m w p.long p.within before chunk (n ∷ []) in
      let t = M.push_slice (kept before).decoder (kept before).memory (take n chunk) in
      let g : s.took ≡ take t.taken chunk = append_cancel_right s.took (take t.taken chunk) (drop t.taken chunk) (s.parts ∙ sym (take-append-drop t.taken chunk)) in
      record {
        hears = sym (append-nil (each_byte t.taken t.answer)) ∙ (rw g at s.same_answers);
        leaves = (rw g at s.same_kept) ∙ sym (left_join M.machine before (map push (take t.taken chunk)) (M.machine.new C) m);
      }

  one_slice : (before : List Op) (chunk : List ℕ) → OneSlice before chunk (M.push_slice (kept before).decoder (kept before).memory chunk)
  one_slice before chunk = subst (λ (l : List ℕ). OneSlice before chunk (M.push_slice (kept before).decoder (kept before).memory l)) (take-length chunk) (one_part before chunk (length chunk))

  record OneByOne (before : List Op) (us : List Use) (hs : List HeardUse) (k : LeftBehind S) : Type 0 where
    hears : said_in us hs ≡ answers M.machine (kept before).decoder (kept before).memory (done_in us hs)
    leaves : k ≡ left_behind M.machine (kept before).decoder (kept before).memory (done_in us hs)

  one_by_one : (us : List Use) (before : List Op) → OneByOne before us (uses_say M (kept before).decoder (kept before).memory us) (uses_leave M (kept before).decoder (kept before).memory us)
  unfolding uses_say uses_leave done_in said_in answers left_behind
  one_by_one [] before = record { hears = refl; leaves = refl }
  one_by_one (one_op o ∷ us) before =
      let a = M.machine.act (kept before).decoder (kept before).memory o in
      let e : kept (before ++ o ∷ []) ≡ record { decoder = a.decoder; memory = a.memory } = left_join M.machine before (o ∷ []) (M.machine.new C) m in
      let i = one_by_one us (before ++ o ∷ []) in
      record { hears = ap (λ (l : List DecoderAnswer). a.answer ∷ l) (rw e at i.hears); leaves = rw e at i.leaves }
  one_by_one (slice chunk ∷ us) before =
      let k : LeftBehind S = kept before in
      let t = M.push_slice k.decoder k.memory chunk in
      let l : List Op = map push (take t.taken chunk) in
      let s = one_slice before chunk in
      let i = one_by_one us (before ++ l) in
      let e : left_behind M.machine k.decoder k.memory l ≡ record { decoder = t.decoder; memory = t.memory } = sym (left_join M.machine before l (M.machine.new C) m) ∙ sym s.leaves in
      let X : List Op = done_in us (uses_say M t.decoder t.memory us) in
      record {
        hears = ap (λ (x : List DecoderAnswer). each_byte t.taken t.answer ++ x) (rw (← s.leaves) at i.hears)
            ∙ ap (λ (x : List DecoderAnswer). x ++ answers M.machine t.decoder t.memory X) s.hears
            ∙ sym (answers_join M.machine l X k.decoder k.memory ∙ ap (λ (q : LeftBehind S). answers M.machine k.decoder k.memory l ++ answers M.machine q.decoder q.memory X) e);
        leaves = (rw (← s.leaves) at i.leaves) ∙ sym (left_join M.machine l X k.decoder k.memory ∙ ap (λ (q : LeftBehind S). left_behind M.machine q.decoder q.memory X) e);
      }

module _ {S : Type 0} (M : Slicer S) (c : Chunks M) where
  abbrev handed : LeftBehind S → List ℕ
  handed k = M.machine.payload_of k.decoder k.memory

  pub cut_anyhow : Larger M.machine → LargerCutAnyhow M
  unfolding left_behind
  cut_anyhow h C D m n p q w e le us us' done =
      let a = one_by_one M c C m p w us [] in
      let b = one_by_one M c D n q (rw (← e) w) us' [] in
      let g = h C D m n p q e le (new_does M C m us) in
      record {
        says = rw (a.hears, b.hears, ← done) g.says;
        hands = λ none. ap handed b.leaves ∙ ap (new_hands M.machine D n) (sym done) ∙ g.hands (rw a.hears at none) ∙ sym (ap handed a.leaves);
      }

pub larger_cut_anyhow : LargerCutAnyhow our_slicer
larger_cut_anyhow = cut_anyhow our_slicer chunks larger
