-- A payload: the step that answers with one is behind it, and its record has CRC index and raw length 0.
use mathlib.Core.Path.{◌≡◌, refl, ap, sym}
use mathlib.Core.Bool.{Bool, true, false, cond, false≢true}
use mathlib.Core.List.{List, []}
use Prim.Native.Nat.{ℕ}
use lib.ListN.{length, take}
use Rattle.frame.proofs.Cases.{by_eq, by_test}
use Rattle.decoder.specs.Push.{Setup, Mem, State, search, body, escape, done, PushEvent, pays_out, Out, noticed, fresh, step, finalized}
use Rattle.decoder.specs.Record.{DecoderAnswer, nothing, payload, count, refusal, After, numbered, setup, state_as, state_of, record_with, record_of, bad_decoder, wrong_buffer, pushed, push_record, stands, has_payload, payload_record}
use Rattle.decoder.specs.Run.{Op, push, finalize, reset, brought}
use Rattle.decoder.specs.Saw.{Judged, is_data, restarts, good, bad, shifts, unknown, Saw, sought, began, again, waits, opens, stores, full, collects, judges, full'}
use Rattle.decoder.specs.declared.DecodeState.{DecodeState}
use Rattle.decoder.specs.declared.DecodeState.TheVariants.{LookingForMessageStart, ParsingNormal, ParsingEscChars, ParsingEscPayload, Done}
use Rattle.decoder.specs.declared.Decoder.{Decoder}
use Rattle.decoder.proofs.Saw.{saw}
use Rattle.decoder.proofs.Faithful.{Fit}
use Rattle.decoder.proofs.States.{act_state, answer_state}

-- the step that answers with a payload is behind it
Paid : Out → Type 0
Paid o = (bytes : List ℕ) → numbered o.event ≡ payload bytes → o.state ≡ done bytes

paid_judged : (m : Mem) (four : List ℕ) (o : Out) → Judged m four o → Paid o
unfolding Paid
paid_judged m four o (is_data e) bytes h = cc
paid_judged m four o (restarts e) bytes h = cc
paid_judged m four o (good e p) bytes h = cc
paid_judged m four o (bad e p) bytes h = cc
paid_judged m four o (shifts a e lo hi t) bytes h = cc
paid_judged m four o (unknown a b c d) bytes h = cc

no_payload : DecoderAnswer → Bool
no_payload nothing = true
no_payload (payload bytes) = false
no_payload (count n) = true
no_payload (refusal n values) = true

noticed_not : (noise : ℕ) (bytes : List ℕ) → numbered (noticed noise) ≡ payload bytes → ⊥
unfolding no_payload
noticed_not noise bytes =
    by_eq (λ (v : PushEvent). numbered v ≡ payload bytes → ⊥) noise 0 _ _ (λ e h. false≢true (sym (ap no_payload h))) (λ e h. false≢true (sym (ap no_payload h)))

paid_out : (C : Setup) (s : State) (b : ℕ) (o : Out) → Saw C s b o → Paid o
unfolding Paid
paid_out C s b o (sought k e ne) bytes h = cc
paid_out C s b o (began {noise = noise} e) bytes h = absurd (noticed_not noise bytes h)
paid_out C s b o (again w) bytes h = paid_out C fresh b o w bytes h
paid_out C s b o (waits e ne) bytes h = cc
paid_out C s b o (opens e f) bytes h = cc
paid_out C s b o (stores ne fit) bytes h = cc
paid_out C s b o (full ne f) bytes h = cc
paid_out C s b o (collects fit lt) bytes h = cc
paid_out C s b o (judges fit ge j) bytes h = paid_judged _ _ o j bytes h
paid_out C s b o (full' f) bytes h = cc

-- the record behind a payload: its fill is the payload's length, CRC index and raw length are 0, the CRC register ffff
pub payload_leaves : (d : Decoder) (m : List ℕ) (b : ℕ) (bytes : List ℕ) → (push_record d m b).answer ≡ payload bytes
    → (push_record d m b).decoder ≡ record_with (setup d) (length bytes) 0 0xffff 0 Done
unfolding push_record pushed Paid
payload_leaves d m b bytes =
    by_test (λ (a : After). a.answer ≡ payload bytes → a.decoder ≡ record_of (setup d) (done bytes)) (bad_decoder d) _ _ (λ t h. cc) (λ f.
    by_test (λ (a : After). a.answer ≡ payload bytes → a.decoder ≡ record_of (setup d) (done bytes)) (wrong_buffer d.capacity (length m)) _ _ (λ t h. cc) (λ g h.
    ap (record_of (setup d)) (paid_out (setup d) (state_of d m) b (step (setup d) (state_of d m) b) (saw (setup d) (state_of d m) b) bytes h)))

pub got_done : (C : Setup) (s : State) (b : ℕ) (bytes : List ℕ) → (step C s b).event ≡ pays_out bytes → (step C s b).state ≡ done bytes
unfolding Paid
got_done C s b bytes h = paid_out C s b (step C s b) (saw C s b) bytes (ap numbered h)

-- ---- what stands in the memory is what the answer brings

-- the payload that a state holds
abbrev pub held_payload : State → List ℕ
held_payload (search n noise raw) = []
held_payload (body n m) = []
held_payload (escape k m) = []
held_payload (done bytes) = bytes

Brings : Out → Type 0
Brings o = held_payload o.state ≡ brought (numbered o.event)

brings_judged : (m : Mem) (four : List ℕ) (o : Out) → Judged m four o → Brings o
unfolding Brings
brings_judged m four o (is_data e) = refl
brings_judged m four o (restarts e) = refl
brings_judged m four o (good e p) = refl
brings_judged m four o (bad e p) = refl
brings_judged m four o (shifts a e lo hi t) = refl
brings_judged m four o (unknown a b c d) = refl

brings_step : (C : Setup) (s : State) (b : ℕ) (o : Out) → Saw C s b o → Brings o
unfolding Brings
brings_step C s b o (sought k e ne) = refl
brings_step C s b o (began {noise = noise} e) = by_eq (λ (v : PushEvent). ◌≡◌ {A = List ℕ} [] (brought (numbered v))) noise 0 _ _ (λ e. refl) (λ e. refl)
brings_step C s b o (again w) = brings_step C fresh b o w
brings_step C s b o (waits e ne) = refl
brings_step C s b o (opens e f) = refl
brings_step C s b o (stores ne fit) = refl
brings_step C s b o (full ne f) = refl
brings_step C s b o (collects fit lt) = refl
brings_step C s b o (judges fit ge j) = brings_judged _ _ o j
brings_step C s b o (full' f) = refl

brings_final : (s : State) → ◌≡◌ {A = List ℕ} [] (brought (numbered (finalized s)))
unfolding finalized
brings_final (search n noise raw) =
    by_eq (λ (v : PushEvent). ◌≡◌ {A = List ℕ} [] (brought (numbered v))) n 0 _ _
    (λ e. by_eq (λ (v : PushEvent). ◌≡◌ {A = List ℕ} [] (brought (numbered v))) noise 0 _ _ (λ f. refl) (λ f. refl)) (λ e. refl)
brings_final (body n m) = refl
brings_final (escape k m) = refl
brings_final (done bytes) = refl

-- behind an operation the state holds what the answer brings
pub act_brings : (C : Setup) (s : State) (o : Op) → held_payload (act_state C s o) ≡ brought (answer_state C s o)
unfolding act_state answer_state Brings
act_brings C s (push b) = brings_step C s b (step C s b) (saw C s b)
act_brings C s finalize = brings_final s
act_brings C s reset = refl

held_as : (d : Decoder) (m : List ℕ) (s : DecodeState) → cond (stands (state_as s d m)) (take d.fill m) [] ≡ held_payload (state_as s d m)
held_as d m (LookingForMessageStart n noise) = refl
held_as d m ParsingNormal = refl
held_as d m (ParsingEscChars n) = refl
held_as d m (ParsingEscPayload n) = refl
held_as d m Done = refl

-- what is handed back is what the state holds
pub payload_held_lem : (d : Decoder) (m : List ℕ) → Fit d m → payload_record d m ≡ held_payload (state_of d m)
unfolding payload_record has_payload
payload_held_lem d m f = rw (f.state, f.buffer) (held_as d m d.state)
