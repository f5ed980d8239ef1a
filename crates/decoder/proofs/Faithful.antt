-- The record's pushes are the pushes of its state: for every record that is not refused, with the buffer that it wants.
use mathlib.Core.Path.{◌≡◌, refl, ap, sym, ◌∙◌, subst}
use mathlib.Core.Bool.{false}
use mathlib.Core.List.{List, [], ◌∷◌, ◌++◌, append_assoc, append-nil}
use Prim.Native.Nat.{ℕ, zero, suc, ◌+◌, ◌-◌, ◌≤◌}
use native.Mathlib.Omega.{arith}
use lib.ListN.{length, replicate, take, length-append, length-take, length-drop}
use lib.Seq.{take-append-le, take-length, length-take-le}
use borrow.Author.Tests.{eq-eqb, ne_eqb, le-leb, lt-leb}
use Rattle.frame.proofs.Cases.{either}
use Rattle.decoder.specs.Push.{Setup, Mem, State, search, body, escape, done, Out, pad_of, step}
use Rattle.decoder.specs.Record.{After, after, numbered, setup, state_as, state_of, record_of, wrote, written, bad_decoder, wrong_buffer, pushed, push_record}
use Rattle.decoder.specs.Saw.{Judged, is_data, restarts, good, bad, shifts, unknown, Saw, sought, began, again, waits, opens, stores, full, collects, judges, full'}
use Rattle.decoder.specs.declared.DecodeState.{DecodeState}
use Rattle.decoder.specs.declared.DecodeState.TheVariants.{LookingForMessageStart, ParsingNormal, ParsingEscChars, ParsingEscPayload, Done}
use Rattle.decoder.specs.declared.Decoder.{Decoder}
use Rattle.decoder.proofs.Split.{split}
use Rattle.decoder.proofs.Saw.{saw}
use Rattle.decoder.proofs.Valid.{Valid, valid_step, valid_view, not_bad, sane, sane_way, sane_search, right_buffer}

-- the bytes that a state has in the buffer
abbrev pub contents : State → List ℕ
contents (search n noise raw) = []
contents (body n m) = m.stored
contents (escape k m) = m.stored
contents (done P) = P

-- they are the first in the buffer
unfoldable pub HeldIn : State → List ℕ → Type 0
HeldIn s m = take (length (contents s)) m ≡ contents s

pub view_pack : (C : Setup) (s : State) (m : List ℕ) → HeldIn s m → state_of (record_of C s) m ≡ s
unfolding HeldIn
view_pack C (search n noise raw) m h = refl
view_pack C (body zero q) m h = ap (λ (l : List ℕ). body 0 (record { stored = l; reg = q.reg; idx = q.idx; raw = q.raw })) h
view_pack C (body (suc n) q) m h = ap (λ (l : List ℕ). body (suc n) (record { stored = l; reg = q.reg; idx = q.idx; raw = q.raw })) h
view_pack C (escape k q) m h = ap (λ (l : List ℕ). escape k (record { stored = l; reg = q.reg; idx = q.idx; raw = q.raw })) h
view_pack C (done P) m h = ap done h

pub setup_pack : (C : Setup) (s : State) → setup (record_of C s) ≡ C
setup_pack C (search n noise raw) = refl
setup_pack C (body n q) = refl
setup_pack C (escape k q) = refl
setup_pack C (done P) = refl

-- ---- a push keeps the state's bytes first in the buffer

KeptPart : List ℕ → Out → Type 0
KeptPart l o = take (length (contents o.state)) l ≡ contents o.state

part_judged : (m : Mem) (four : List ℕ) (o : Out) → Judged m four o → KeptPart m.stored o
unfolding KeptPart
part_judged m four o (is_data e) = take-length m.stored
part_judged m four o (restarts e) = refl
part_judged m four o (good e h) = rw (length-take-le (length m.stored - 4 - pad_of four) m.stored (omega arith))
part_judged m four o (bad e h) = refl
part_judged m four o (shifts a e lo hi t) = take-length m.stored
part_judged m four o (unknown a b c d) = refl

kept_part : (C : Setup) (s : State) (b : ℕ) (o : Out) → Saw C s b o → KeptPart (contents s ++ wrote C s b) o
unfolding KeptPart wrote
kept_part C s b o (sought k e ne) = refl
kept_part C s b o (began e) = refl
kept_part C s b o (again (sought k e ne)) = refl
kept_part C s b o (again (began e)) = refl
kept_part C s b o (waits {m = m} e ne) = rw (eq-eqb _ _ e, append-nil m.stored) (take-length m.stored)
kept_part C s b o (opens {m = m} e f) = rw (eq-eqb _ _ e, append-nil m.stored) (take-length m.stored)
kept_part C s b o (stores ne fit) = rw (ne_eqb _ _ ne, le-leb _ _ fit) (take-length _)
kept_part C s b o (full ne h) = refl
kept_part C s b o (collects fit lt) = rw (le-leb _ _ fit) (take-length _)
kept_part C s b o (judges fit ge j) = rw (le-leb _ _ fit) (part_judged _ _ o j)
kept_part C s b o (full' h) = refl

pub kept_first : (C : Setup) (s : State) (b : ℕ) (m : List ℕ) → HeldIn s m → HeldIn (step C s b).state (written m (length (contents s)) (wrote C s b))
unfolding HeldIn KeptPart
kept_first C s b m h =
    let w : List ℕ = wrote C s b in
    let t : State = (step C s b).state in
    let q : take (length (contents t)) (contents s ++ w) ≡ contents t = kept_part C s b (step C s b) (saw C s b) in
    let le : length (contents t) ≤ length (contents s ++ w) = omega (arith, sym (length-take (length (contents t)) (contents s ++ w)) ∙ ap length q) in
    rw (h, ← append_assoc (contents s) w) (take-append-le (length (contents t)) (contents s ++ w) _ le ∙ q)

wrote_fits : (C : Setup) (s : State) (b : ℕ) → Valid C s → length (contents s) + length (wrote C s b) ≤ C.capacity
unfolding wrote
wrote_fits C (search n noise raw) b v = omega arith
wrote_fits C (done P) b v = omega arith
wrote_fits C (body n q) b v =
    either b 0x1b (λ e. rw (eq-eqb b 0x1b e) (omega arith))
    (λ ne. split (length q.stored + length (replicate n 0x1b ++ b ∷ [])) C.capacity
    (λ fit. rw (ne_eqb b 0x1b ne, le-leb _ _ fit) fit) (λ full. rw (ne_eqb b 0x1b ne, lt-leb _ _ full) (omega arith)))
wrote_fits C (escape k q) b v =
    split (length q.stored + 1) C.capacity (λ fit. rw (le-leb _ _ fit) fit) (λ full. rw (lt-leb _ _ full) (omega arith))

written_length : (m w : List ℕ) (n : ℕ) → n + length w ≤ length m → length (written m n w) ≡ length m
written_length m w n h = simp (length-append, length-take, length-drop) (omega arith)

-- ---- a record that is not refused

-- its fill is the number of its state's bytes
fill_as : (d : Decoder) (m : List ℕ) (s : DecodeState) → d.state ≡ s → bad_decoder d ≡ false → length m ≡ d.capacity → d.fill ≡ length (contents (state_as s d m))
fill_as d m (LookingForMessageStart n noise) e g l = (sane_search d g noise n e).0
fill_as d m ParsingNormal e g l = sym (length-take-le d.fill m (omega (arith, (sane d g).0)))
fill_as d m (ParsingEscChars n) e g l = sym (length-take-le d.fill m (omega (arith, (sane d g).0)))
fill_as d m (ParsingEscPayload n) e g l = sym (length-take-le d.fill m (omega (arith, (sane d g).0)))
fill_as d m Done e g l = sym (length-take-le d.fill m (omega (arith, (sane d g).0)))

pub fill_view : (d : Decoder) (m : List ℕ) → bad_decoder d ≡ false → length m ≡ d.capacity → d.fill ≡ length (contents (state_of d m))
fill_view d m g l = fill_as d m d.state refl g l

holds_as : (d : Decoder) (m : List ℕ) (s : DecodeState) → d.fill ≤ length m → HeldIn (state_as s d m) m
unfolding HeldIn
holds_as d m (LookingForMessageStart n noise) l = refl
holds_as d m ParsingNormal l = rw (length-take-le d.fill m l)
holds_as d m (ParsingEscChars n) l = rw (length-take-le d.fill m l)
holds_as d m (ParsingEscPayload n) l = rw (length-take-le d.fill m l)
holds_as d m Done l = rw (length-take-le d.fill m l)

pub holds_view : (d : Decoder) (m : List ℕ) → bad_decoder d ≡ false → length m ≡ d.capacity → HeldIn (state_of d m) m
holds_view d m g l = holds_as d m d.state (omega (arith, (sane d g).0))

-- a record that is not refused, and the buffer that it wants
pub record Fit (d : Decoder) (m : List ℕ) : Type 0 where
  pub state : bad_decoder d ≡ false
  pub buffer : wrong_buffer d.capacity (length m) ≡ false

pub fit_length : (d : Decoder) (m : List ℕ) → Fit d m → length m ≡ d.capacity
fit_length d m f = (right_buffer d.capacity (length m) f.buffer).0

-- where a push leaves them: not refused, of the same setup, in the state that the step gives
pub record Steps (d : Decoder) (m : List ℕ) (b : ℕ) (a : After) : Type 0 where
  pub answer : a.answer ≡ numbered (step (setup d) (state_of d m) b).event
  pub fit : Fit a.decoder a.memory
  pub setup' : setup a.decoder ≡ setup d
  pub view' : state_of a.decoder a.memory ≡ (step (setup d) (state_of d m) b).state

wrong_same : (d : Decoder) (m m' : List ℕ) (C : Setup) (s : State) → setup d ≡ C → length m' ≡ length m → wrong_buffer d.capacity (length m) ≡ false
    → wrong_buffer (record_of C s).capacity (length m') ≡ false
wrong_same d m m' C s e l w =
    let c : (record_of C s).capacity ≡ d.capacity = ap (λ (x : Setup). x.capacity) (setup_pack C s ∙ sym e) in
    rw (c, l) w

pub push_good : (d : Decoder) (m : List ℕ) (b : ℕ) → Fit d m → push_record d m b ≡ pushed d m b (step (setup d) (state_of d m) b)
unfolding push_record
push_good d m b f = rw (f.state, f.buffer)

steps_at : (d : Decoder) (m : List ℕ) (b fill : ℕ) → Fit d m → fill ≡ length (contents (state_of d m))
    → Steps d m b (after (numbered (step (setup d) (state_of d m) b).event) (record_of (setup d) (step (setup d) (state_of d m) b).state) (written m fill (wrote (setup d) (state_of d m) b)))
steps_at d m b fill f e =
    let C : Setup = setup d in
    let s : State = state_of d m in
    let t : State = (step C s b).state in
    let w : List ℕ = wrote C s b in
    let l : length m ≡ d.capacity = fit_length d m f in
    let v : Valid C s = valid_view d m f.state l in
    let h : HeldIn t (written m (length (contents s)) w) = kept_first C s b m (holds_view d m f.state l) in
    let n : length (written m (length (contents s)) w) ≡ length m = written_length m w (length (contents s)) (rw l (wrote_fits C s b v)) in
    rw e (record {
      answer = refl;
      fit = record { state = not_bad C t (sane_way d f.state) (valid_step C s b v); buffer = wrong_same d m (written m (length (contents s)) w) C t refl n f.buffer };
      setup' = setup_pack C t;
      view' = view_pack C t (written m (length (contents s)) w) h;
    })

pub push_is_step : (d : Decoder) (m : List ℕ) (b : ℕ) → Fit d m → Steps d m b (push_record d m b)
unfolding pushed
push_is_step d m b f = subst (Steps d m b) (sym (push_good d m b f)) (steps_at d m b d.fill f (fill_view d m f.state (fit_length d m f)))
