-- From any state that a decoder comes to, C + 5 zero bytes bring it back to a search, and then every frame is heard.
use mathlib.Core.Path.{◌≡◌, refl, ap, sym, ◌∙◌, subst}
use mathlib.Core.List.{List, [], ◌∷◌, ◌++◌, map, map-append}
use Prim.Native.Nat.{ℕ, zero, suc, ◌+◌, ◌-◌, ◌≤◌, ◌<◌}
use native.Mathlib.Omega.{arith}
use native.Mathlib.Nat.{sub-zero}
use lib.ListN.{length, replicate, drop, length-append}
use lib.Seq.{drop-append-le, take_at}
use borrow.Author.Tests.{ne_eqb, le-leb}
use Rattle.frame.specs.Frame.{restart_seq, frame_of, closed}
use Rattle.decoder.specs.Push.{Mem, State, search, body, escape, done, silent, Out, searching, says, put, step, noticed, fresh, stopped}
use Rattle.decoder.specs.Record.{DecoderAnswer, nothing, payload, count, refusal, numbered, new_record}
use Rattle.decoder.specs.Run.{Op, push, act, run}
use Rattle.decoder.proofs.States.{run_state, state_behind, act_state, answer_state}
use Rattle.decoder.specs.Saw as W
use Rattle.decoder.specs.Saw.{Judged, is_data, restarts, good, bad, shifts, Saw, sought, began, again, waits, opens, stores, full, collects, judges, full'}
use Rattle.decoder.proofs.Saw.{saw}
use Rattle.decoder.proofs.Faithful.{contents}
use Rattle.decoder.proofs.Search.{Known, known_is, matched_zero}
use Rattle.decoder.proofs.Runs.{run_new}
use Rattle.decoder.specs.declared.Decoder.{Decoder}
use Rattle.decoder.specs.declared.Setup.{Setup}
use Rattle.since.proofs.Counts.{reads_counted}
use Rattle.refusals.specs.Numbers.{limit}
use Rattle.encoder.specs.Encode.{encode_to}
use Rattle.marks.specs.Decoders.{ours, answers, searched_from, count_since, frame_says}
use Rattle.marks.specs.Mark3.{Job, Suits, AllSuit, wrote_for, frames_for, rest_says, Mark3}
use Rattle.since.proofs.Starts.{starts_none}
use Rattle.marks.proofs.Searched.{grown_search, grown_search_op, searched_cons, Heard, heard_fresh, heard_act}
use Rattle.marks.proofs.RoundTrip.{round_trip}

-- ---- n bytes were pushed since the last event

-- one more byte, with its answer
abbrev tally : DecoderAnswer → ℕ → ℕ
tally nothing n = suc n
tally (payload bytes) n = 0
tally (count k) n = 0
tally (refusal k values) n = 0

tally_is : (a : DecoderAnswer) (g : List ℕ) (b : ℕ) → tally a (length g) ≡ length (grown_search a g b)
tally_is nothing g b = simp length-append (omega arith)
tally_is (payload bytes) g b = refl
tally_is (count k) g b = refl
tally_is (refusal k values) g b = refl

-- what mark 3 needs of what is known
abbrev RoomKept : Setup → ℕ → State → Type 0
RoomKept C n (search k noise raw) = (k ≤ n) × (noise ≡ stopped (n - k))
RoomKept C n (body r m) = length m.stored ≤ C.capacity
RoomKept C n (escape k m) = length m.stored ≤ C.capacity
RoomKept C n (done P) = n ≡ 0

ok : (C : Setup) (g : List ℕ) (s : State) → Heard C g s → RoomKept C (length g) s
ok C g (search j noise raw) k =
    let c = reads_counted C k.since (search j noise raw) k.reads' in
    let e : length g ≡ length k.since = ap length k.same' in
    (omega arith, omega arith)
ok C g (body r m) k = k.reads'.fits
ok C g (escape j m) k = k.reads'.fits
ok C g (done P) k = ap length (k.same' ∙ k.reads'.0)

-- ---- a zero byte: in a frame the fill goes up, or the frame ends

abbrev Moved : Setup → ℕ → State → Type 0
Moved C f (search n noise raw) = n ≡ 0
Moved C f (body r m) = f < length m.stored
Moved C f (escape k m) = f < length m.stored
Moved C f (done P) = Unit {0}

last : List ℕ → ℕ
last [] = 0
last (x ∷ []) = x
last (x ∷ y ∷ l) = last (y ∷ l)

last_snoc : (l : List ℕ) (x : ℕ) → last (l ++ x ∷ []) ≡ x
unfolding last
last_snoc [] x = refl
last_snoc (y ∷ []) x = refl
last_snoc (y ∷ z ∷ l) x = last_snoc (z ∷ l) x

-- the last four bytes, the last of which is 0, are not 01010101
not_restart_seq : (s : List ℕ) → drop (length (s ++ 0 ∷ []) - 4) (s ++ 0 ∷ []) ≡ restart_seq → ⊥
unfolding last
not_restart_seq s e =
    let n : length (s ++ 0 ∷ []) - 4 ≤ length s = simp length-append (omega arith) in
    let q : last (drop (length (s ++ 0 ∷ []) - 4) s ++ 0 ∷ []) ≡ 1 = ap last (sym (drop-append-le _ s (0 ∷ []) n) ∙ e) in
    let z : ◌≡◌ {A = ℕ} 0 1 = sym (last_snoc (drop (length (s ++ 0 ∷ []) - 4) s) 0) ∙ q in
    omega arith

moved_judged : (C : Setup) (f : ℕ) (m : Mem) (four : List ℕ) (o : Out) → f < length m.stored → (four ≡ restart_seq → ⊥) → Judged m four o → Moved C f o.state
moved_judged C f m four o up never (is_data e) = up
moved_judged C f m four o up never (restarts e) = absurd (never e)
moved_judged C f m four o up never (good e h) = tt
moved_judged C f m four o up never (bad e h) = refl
moved_judged C f m four o up never (shifts a e lo hi t) = up
moved_judged C f m four o up never (W.unknown a b c d) = refl

-- in a frame
abbrev InFrame : State → Type 0
InFrame (search n noise raw) = ⊥
InFrame (body r m) = Unit {0}
InFrame (escape k m) = Unit {0}
InFrame (done P) = ⊥

moved : (C : Setup) (s : State) (b : ℕ) (o : Out) → b ≡ 0 → InFrame s → Saw C s b o → Moved C (length (contents s)) o.state
moved C s b o z i (sought k e ne) = absurd i
moved C s b o z i (began e) = absurd i
moved C s b o z i (again w) = absurd i
moved C s b o z i (waits e ne) = absurd (omega arith)
moved C s b o z i (opens e f) = absurd (omega arith)
moved C s b o z i (stores ne fit) = simp length-append (omega arith)
moved C s b o z i (full ne h) = refl
moved C s b o z i (collects fit lt) = simp length-append (omega arith)
moved C s b o z i (judges {m = m} fit ge j) =
    moved_judged C (length m.stored) (put m (b ∷ [])) _ o (simp length-append (omega arith)) (subst (λ (x : ℕ). drop (length (m.stored ++ x ∷ []) - 4) (m.stored ++ x ∷ []) ≡ restart_seq → ⊥) (sym z) (not_restart_seq m.stored)) j
moved C s b o z i (full' h) = refl

-- ---- k zero bytes are enough

abbrev Near : Setup → ℕ → ℕ → State → Type 0
Near C k n (search j noise raw) = (1 ≤ k + n) × (k ≡ 0 → j ≡ 0)
Near C k n (body r m) = C.capacity + 2 ≤ k + length m.stored
Near C k n (escape j m) = C.capacity + 2 ≤ k + length m.stored
Near C k n (done P) = 1 ≤ k

near_from : (C : Setup) (k f n : ℕ) (s : State) → Moved C f s → f ≤ C.capacity → C.capacity + 2 ≤ suc k + f → Near C k n s
near_from C k f n (search j noise raw) mv le h = (omega arith, λ e. mv)
near_from C k f n (body r m) mv le h = omega arith
near_from C k f n (escape j m) mv le h = omega arith
near_from C k f n (done P) mv le h = omega arith

search_zero : (way n noise raw : ℕ) → searching way n noise raw 0 ≡ says (search 0 (stopped (noise + suc n)) (stopped (suc raw))) silent
unfolding searching
search_zero way n noise raw = rw (matched_zero way n, ne_eqb 0 (suc n) (λ e. omega arith), sub-zero)

near_step : (C : Setup) (k n : ℕ) (s : State) → RoomKept C n s → Near C (suc k) n s → Near C k (tally (numbered (step C s 0).event) n) (step C s 0).state
unfolding step searching
near_step C k n (search j noise raw) ok h = rw (search_zero C.way j noise raw) (omega arith, λ e. refl)
near_step C k n (body r m) ok h = near_from C k (length m.stored) (tally (numbered (step C (body r m) 0).event) n) (step C (body r m) 0).state (moved C (body r m) 0 (step C (body r m) 0) refl tt (saw C (body r m) 0)) ok h
near_step C k n (escape j m) ok h = near_from C k (length m.stored) (tally (numbered (step C (escape j m) 0).event) n) (step C (escape j m) 0).state (moved C (escape j m) 0 (step C (escape j m) 0) refl tt (saw C (escape j m) 0)) ok h
near_step C k n (done P) ok h = rw (search_zero C.way 0 0 0) (omega arith, λ e. refl)

-- behind the operations os, from s and the bytes g: a search with nothing matched, whose noise is all that was pushed since the last answer of note
pub record Searching (C : Setup) (s : State) (g : List ℕ) (os : List Op) : Type 0 where
  pub raw : ℕ
  pub state' : state_behind C s os ≡ search 0 (stopped (length (searched_from g os (run_state C s os)))) raw
  pub some : 1 ≤ length (searched_from g os (run_state C s os))

searching_cons : (C : Setup) (s : State) (g : List ℕ) (o : Op) (os : List Op) → Searching C (act_state C s o) (grown_search_op o (answer_state C s o) g) os → Searching C s g (o ∷ os)
unfolding state_behind run_state
searching_cons C s g o os t =
    let e = searched_cons g o (answer_state C s o) os (run_state C (act_state C s o) os) in
    record { raw = t.raw; state' = rw e t.state'; some = rw e t.some }

settle : (C : Setup) (k : ℕ) (g : List ℕ) (s : State) → Heard C g s → Near C k (length g) s → Searching C s g (replicate k (push 0))
unfolding state_behind run_state searched_from act_state answer_state
settle C zero g (search j noise raw) b h =
    let c = ok C g (search j noise raw) b in
    let e : j ≡ 0 = h.1 refl in
    let f : noise ≡ stopped (length g) = omega arith in
    record { raw = raw; state' = cc; some = omega arith }
settle C zero g (body r m) b h = absurd (let c = ok C g (body r m) b in omega arith)
settle C zero g (escape j m) b h = absurd (let c = ok C g (escape j m) b in omega arith)
settle C zero g (done P) b h = absurd (omega arith)
settle C (suc k) g s b h =
    let a : DecoderAnswer = numbered (step C s 0).event in
    searching_cons C s g (push 0) (replicate k (push 0))
    (settle C k (grown_search a g 0) (step C s 0).state (heard_act C g s (push 0) b)
    (subst (λ (n : ℕ). Near C k n (step C s 0).state) (tally_is a g 0) (near_step C k (length g) s (ok C g s b) h)))

near : (C : Setup) (n : ℕ) (s : State) → RoomKept C n s → Near C (C.capacity + 5) n s
near C n (search j noise raw) ok = (omega arith, λ e. absurd (omega arith))
near C n (body r m) ok = omega arith
near C n (escape j m) ok = omega arith
near C n (done P) ok = omega arith

-- whatever was pushed, finalized and reset: its capacity + 5 zero bytes more, and the decoder searches
recovers : (C : Setup) (before : List Op) (s : State) (g : List ℕ) → Heard C g s → Searching C s g (before ++ replicate (C.capacity + 5) (push 0))
recovers C [] s g k = settle C (C.capacity + 5) g s k (near C (length g) s (ok C g s k))
recovers C (o ∷ os) s g k =
    searching_cons C s g o (os ++ replicate (C.capacity + 5) (push 0))
    (recovers C os (act_state C s o) (grown_search_op o (answer_state C s o) g) (heard_act C g s o k))

-- ---- several frames

pub run_state_append : (C : Setup) (a b : List Op) (s : State) → run_state C s (a ++ b) ≡ run_state C s a ++ run_state C (state_behind C s a) b
unfolding run_state state_behind
run_state_append C [] b s = refl
run_state_append C (o ∷ a) b s = ap (λ (l : List DecoderAnswer). answer_state C s o ∷ l) (run_state_append C a b (act_state C s o))

-- encode writes the frame
pub wrote_frame : (j : Job) → length j.payload ≤ limit → length (frame_of j.payload) ≤ length j.output → wrote_for encode_to j ≡ frame_of j.payload
unfolding encode_to
wrote_frame j short room =
    let f : List ℕ = frame_of j.payload in
    rw (le-leb (length j.payload) limit short, le-leb (length f) (length j.output) room) (take_at f (drop (length f) j.output) (length f) refl)

pub wrote_is : (C : Setup) (j : Job) → C.capacity ≤ 1048576 → Suits C j → wrote_for encode_to j ≡ frame_of j.payload
wrote_is C j small s = wrote_frame j (omega arith) s.1

-- behind a payload it is as if fresh
after_done : (C : Setup) (P Q : List ℕ) (l : List Op) → run_state C (done P) (map push (frame_of Q) ++ l) ≡ run_state C fresh (map push (frame_of Q) ++ l)
unfolding frame_of closed run_state act_state answer_state step
after_done C P Q l = refl

no_frames_lem : (C : Setup) (P : List ℕ) → run_state C (done P) (map push (frames_for encode_to [])) ≡ []
unfolding frames_for run_state
no_frames_lem C P = refl

module _ (C : Setup) (small : C.capacity ≤ 1048576) where
  frames_cons : (j : Job) (js : List Job) → Suits C j → map push (frames_for encode_to (j ∷ js)) ≡ map push (frame_of j.payload) ++ map push (frames_for encode_to js)
  unfolding frames_for
  frames_cons j js s = ap (λ (l : List ℕ). map push (l ++ frames_for encode_to js)) (wrote_is C j small s) ∙ map-append push (frame_of j.payload) (frames_for encode_to js)

  rest_says_lem : (js : List Job) (P : List ℕ) → AllSuit C js → run_state C (done P) (map push (frames_for encode_to js)) ≡ rest_says encode_to js
  unfolding rest_says
  rest_says_lem [] P fit = no_frames_lem C P
  rest_says_lem (j ∷ js) P fit =
      ap (run_state C (done P)) (frames_cons j js fit.0) ∙ after_done C P j.payload (map push (frames_for encode_to js))
      ∙ (round_trip C fresh 0 (starts_none C 0 0) j.payload fit.0.0).answers' (map push (frames_for encode_to js))
      ∙ ap (λ (l : List DecoderAnswer). frame_says nothing (frame_of j.payload) j.payload ++ l) (rest_says_lem js j.payload fit.1)
      ∙ ap (λ (f : List ℕ). frame_says nothing f j.payload ++ rest_says encode_to js) (sym (wrote_is C j small fit.0))

  first_says : (n raw : ℕ) (j : Job) (js : List Job) → 1 ≤ n → AllSuit C (j ∷ js)
      → run_state C (search 0 (stopped n) raw) (map push (frames_for encode_to (j ∷ js)))
      ≡ frame_says (refusal 6 (stopped n ∷ [])) (wrote_for encode_to j) j.payload ++ rest_says encode_to js
  first_says n raw j js pos fit =
      ap (run_state C (search 0 (stopped n) raw)) (frames_cons j js fit.0)
      ∙ (round_trip C (search 0 (stopped n) raw) (stopped n) (starts_none C (stopped n) raw) j.payload fit.0.0).answers' (map push (frames_for encode_to js))
      ∙ ap (λ (l : List DecoderAnswer). frame_says (numbered (noticed (stopped n))) (frame_of j.payload) j.payload ++ l) (rest_says_lem js j.payload fit.1)
      ∙ ap (λ (a : DecoderAnswer). frame_says a (frame_of j.payload) j.payload ++ rest_says encode_to js) noisy
      ∙ ap (λ (f : List ℕ). frame_says (refusal 6 (stopped n ∷ [])) f j.payload ++ rest_says encode_to js) (sym (wrote_is C j small fit.0))
    where
      noisy : numbered (noticed (stopped n)) ≡ refusal 6 (stopped n ∷ [])
      noisy = rw (ne_eqb (stopped n) 0 (λ e. omega arith))

-- ---- ours

pub answers_run : (os : List Op) (d : Decoder) (m : List ℕ) → answers ours d m os ≡ run d m os
unfolding answers run
answers_run [] d m = refl
answers_run (o ∷ os) d m = ap (λ (l : List DecoderAnswer). (act d m o).answer ∷ l) (answers_run os (act d m o).decoder (act d m o).memory)

pub answers_new : (C : Setup) (m : List ℕ) (os : List Op) → Known C → length m ≡ C.capacity → C.capacity ≤ 1048576 → answers ours (ours.new C) m os ≡ run_state C fresh os
answers_new C m os w l le = answers_run os (new_record C) m ∙ run_new C m os w l le

pub mark3 : Mark3 ours encode_to
mark3 C m way l le before j js fit =
    let w : Known C = known_is C.way way in
    let os : List Op = before ++ replicate (C.capacity + 5) (push 0) in
    let fs : List Op = map push (frames_for encode_to (j ∷ js)) in
    let heard : List DecoderAnswer = answers ours (ours.new C) m os in
    let same : heard ≡ run_state C fresh os = answers_new C m os w l le in
    let t : Searching C fresh [] os = recovers C before fresh [] (heard_fresh C) in
    answers_new C m (os ++ fs) w l le ∙ run_state_append C os fs fresh
    ∙ ap (λ (s : State). run_state C fresh os ++ run_state C s fs) t.state'
    ∙ ap (λ (l : List DecoderAnswer). run_state C fresh os ++ l) (first_says C le (length (searched_from [] os (run_state C fresh os))) t.raw j js t.some fit)
    ∙ ap (λ (h : List DecoderAnswer). h ++ (frame_says (refusal 6 (stopped (count_since os h) ∷ [])) (wrote_for encode_to j) j.payload ++ rest_says encode_to js)) (sym same)
