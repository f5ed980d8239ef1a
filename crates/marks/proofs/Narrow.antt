-- Counts keep to the width of the record's types where bytes are pushed over a buffer of bytes.
use mathlib.Core.Path.{◌≡◌, refl}
use mathlib.Core.List.{List, [], ◌∷◌, ◌++◌}
use Prim.Native.Nat.{ℕ, zero, suc, ◌+◌, ◌≤◌, ◌<◌}
use native.Mathlib.Omega.{arith}
use lib.ListN.{length, take, drop, get_or, replicate}
use lib.Dec.{eqb, leb}
use Rattle.refusals.specs.Numbers.{count_stop}
use Rattle.crc_x25.specs.Crc.{start, register}
use Rattle.crc_x25.proofs.Laws.{register_fits}
use Rattle.frame.specs.Frame.{esc_seq, restart_seq, start_seq}
use Rattle.decoder.specs.Push.{Mem, State, search, body, escape, done, Out, put, more_noise, begun, fresh, step}
use Rattle.decoder.specs.Record.{After, setup, state_as, state_of, record_of, bad_decoder, wrong_buffer, wrote, pushed, push_record, finalize_record, reset_record}
use Rattle.decoder.specs.Run.{Op, push, finalize, reset, act}
use Rattle.decoder.specs.Saw.{Judged, is_data, restarts, good, bad, shifts, unknown, Saw, sought, began, again, waits, opens, stores, full, collects, judges, full'}
use Rattle.decoder.specs.declared.DecodeState.{DecodeState}
use Rattle.decoder.specs.declared.DecodeState.TheVariants.{LookingForMessageStart, ParsingNormal, ParsingEscChars, ParsingEscPayload, Done}
use Rattle.decoder.specs.declared.Decoder.{Decoder}
use Rattle.decoder.specs.declared.Setup.{Setup}
use Rattle.decoder.proofs.Saw.{saw}
use Rattle.decoder.proofs.Split.{cases}
use Rattle.decoder_slice.specs.Slice.{says_nothing, pushes_from, slice_record}
use Rattle.since.specs.Since.{AllBytes}
use Rattle.packed.specs.Layout.{Narrow}
use Rattle.marks.specs.Mark2.{PushesBytes}
use Rattle.marks.specs.Packed.{AreBytes}

-- ---- lists of bytes

pub bytes_join : (a b : List ℕ) → AllBytes a → AllBytes b → AllBytes (a ++ b)
bytes_join [] b h k = k
bytes_join (x ∷ a) b h k = (h.0, bytes_join a b h.1 k)

bytes_take : (n : ℕ) (l : List ℕ) → AllBytes l → AllBytes (take n l)
bytes_take zero l h = tt
bytes_take (suc n) [] h = tt
bytes_take (suc n) (x ∷ l) h = (h.0, bytes_take n l h.1)

bytes_drop : (n : ℕ) (l : List ℕ) → AllBytes l → AllBytes (drop n l)
bytes_drop zero l h = h
bytes_drop (suc n) [] h = tt
bytes_drop (suc n) (x ∷ l) h = bytes_drop n l h.1

pub bytes_run : (n x : ℕ) → x < 256 → AllBytes (replicate n x)
bytes_run zero x h = tt
bytes_run (suc n) x h = (h, bytes_run n x h)

pub start_bytes : AllBytes start_seq
start_bytes = bytes_join esc_seq restart_seq (bytes_run 4 0x1b (omega arith)) (omega arith, (omega arith, (omega arith, (omega arith, tt))))

pub bytes_at : (l : List ℕ) → AllBytes l → (i : ℕ) → get_or l i 0 < 256
bytes_at [] h i = omega arith
bytes_at (x ∷ l) h zero = h.0
bytes_at (x ∷ l) h (suc i) = bytes_at l h.1 i

-- zeros are bytes
pub zeros_bytes : (n : ℕ) → AreBytes (replicate n 0)
zeros_bytes n = bytes_at (replicate n 0) (bytes_run n 0 (omega arith))

pub bytes_all : (l : List ℕ) → AreBytes l → AllBytes l
bytes_all [] h = tt
bytes_all (x ∷ l) h = (h 0, bytes_all l (λ i. h (suc i)))

pub register_narrow : (r : ℕ) (l : List ℕ) → r < 65536 → AllBytes l → register r l < 65536
register_narrow r l h k = register_fits r l h (bytes_at l k)

-- ---- the state of the push rules

NarrowMem : Mem → Type 0
NarrowMem q = (q.reg < 65536) × (q.raw ≤ count_stop) × AllBytes q.stored

NarrowIn : State → Type 0
NarrowIn (search n noise raw) = (noise ≤ count_stop) × (raw ≤ count_stop)
NarrowIn (body n q) = NarrowMem q
NarrowIn (escape k q) = NarrowMem q
NarrowIn (done P) = Unit {0}

noise_narrow : (noise n k : ℕ) → noise ≤ count_stop → more_noise noise n k ≤ count_stop
noise_narrow noise n k h = cases (eqb k (suc n)) (λ t. rw t h) (λ t. rw t (omega arith))

begun_narrow : NarrowIn begun
unfolding NarrowIn NarrowMem
begun_narrow = (register_narrow start start_seq (omega arith) start_bytes, omega arith, tt)

fresh_narrow : NarrowIn fresh
unfolding NarrowIn
fresh_narrow = (omega arith, omega arith)

put_narrow : (q : Mem) (l : List ℕ) → NarrowMem q → AllBytes l → NarrowMem (put q l)
unfolding NarrowMem
put_narrow q l h k = (h.0, omega arith, bytes_join q.stored l h.2 k)

judged_narrow : (q : Mem) (four : List ℕ) (o : Out) → NarrowMem q → Judged q four o → NarrowIn o.state
unfolding NarrowIn
judged_narrow q four o h (is_data e) = h
judged_narrow q four o h (restarts e) = begun_narrow
judged_narrow q four o h (good e k) = tt
judged_narrow q four o h (bad e k) = fresh_narrow
judged_narrow q four o h (shifts a e lo hi t) = h
judged_narrow q four o h (unknown a b c d) = fresh_narrow

saw_narrow : (C : Setup) (s : State) (b : ℕ) (o : Out) → b < 256 → NarrowIn s → Saw C s b o → NarrowIn o.state
unfolding NarrowIn NarrowMem
saw_narrow C s b o byte h (sought {n} {noise} k e ne) = (noise_narrow noise n k h.0, omega arith)
saw_narrow C s b o byte h (began e) = begun_narrow
saw_narrow C s b o byte h (again w) = saw_narrow C fresh b o byte fresh_narrow w
saw_narrow C s b o byte h (waits e ne) = (h.0, omega arith, h.2)
saw_narrow C s b o byte h (opens {m = q} e f) =
    (register_narrow (register q.reg (drop q.idx q.stored)) esc_seq (register_narrow q.reg (drop q.idx q.stored) h.0 (bytes_drop q.idx q.stored h.2)) (bytes_run 4 0x1b (omega arith)), omega arith, h.2)
saw_narrow C s b o byte h (stores {n} {m = q} ne fit) = put_narrow q (replicate n 0x1b ++ b ∷ []) h (bytes_join (replicate n 0x1b) (b ∷ []) (bytes_run n 0x1b (omega arith)) (byte, tt))
saw_narrow C s b o byte h (full ne f) = fresh_narrow
saw_narrow C s b o byte h (collects {m = q} fit lt) = put_narrow q (b ∷ []) h (byte, tt)
saw_narrow C s b o byte h (judges {m = q} fit ge j) = judged_narrow (put q (b ∷ [])) _ o (put_narrow q (b ∷ []) h (byte, tt)) j
saw_narrow C s b o byte h (full' f) = fresh_narrow

-- ---- the record

state_narrow : (d : Decoder) (m : List ℕ) (s : DecodeState) → d.state ≡ s → Narrow d → AllBytes m → NarrowIn (state_as s d m)
unfolding NarrowIn NarrowMem
state_narrow d m (LookingForMessageStart n noise) e w h =
    let x : noise ≤ count_stop = rw e at w.noise in
    (x, w.raw)
state_narrow d m ParsingNormal e w h = (w.crc, w.raw, bytes_take d.fill m h)
state_narrow d m (ParsingEscChars n) e w h = (w.crc, w.raw, bytes_take d.fill m h)
state_narrow d m (ParsingEscPayload k) e w h = (w.crc, w.raw, bytes_take d.fill m h)
state_narrow d m Done e w h = tt

record_narrow : (C : Setup) (s : State) → NarrowIn s → Narrow (record_of C s)
unfolding NarrowIn NarrowMem
record_narrow C (search n noise raw) h = record { crc = omega arith; raw = h.1; noise = h.0 }
record_narrow C (body zero q) h = record { crc = h.0; raw = h.1; noise = omega arith }
record_narrow C (body (suc n) q) h = record { crc = h.0; raw = h.1; noise = omega arith }
record_narrow C (escape k q) h = record { crc = h.0; raw = h.1; noise = omega arith }
record_narrow C (done P) h = record { crc = omega arith; raw = omega arith; noise = omega arith }

pub new_narrow : (C : Setup) → Narrow (record_of C fresh)
new_narrow C = record_narrow C fresh fresh_narrow

wrote_bytes : (C : Setup) (s : State) (b : ℕ) → b < 256 → AllBytes (wrote C s b)
unfolding wrote
wrote_bytes C (search n noise raw) b h = tt
wrote_bytes C (done P) b h = tt
wrote_bytes C (body n q) b h =
    cases (eqb b 0x1b) (λ t. rw t tt) (λ t.
    cases (leb (length q.stored + length (replicate n 0x1b ++ b ∷ [])) C.capacity) (λ u. rw (t, u) (bytes_join (replicate n 0x1b) (b ∷ []) (bytes_run n 0x1b (omega arith)) (h, tt))) (λ u. rw (t, u) tt))
wrote_bytes C (escape k q) b h = cases (leb (length q.stored + 1) C.capacity) (λ u. rw u (h, tt)) (λ u. rw u tt)

-- a record and a memory, both narrow
pub record Tame (a : After) : Type 0 where
  pub decoder : Narrow a.decoder
  pub memory : AllBytes a.memory

push_tame : (d : Decoder) (m : List ℕ) (b : ℕ) → Narrow d → AllBytes m → b < 256 → Tame (push_record d m b)
unfolding push_record pushed
push_tame d m b w h byte =
    cases (bad_decoder d) (λ e. rw e (record { decoder = w; memory = h })) (λ e.
    cases (wrong_buffer d.capacity (length m)) (λ f. rw (e, f) (record { decoder = w; memory = h })) (λ f.
    rw (e, f)
    (record {
      decoder = record_narrow (setup d) (step (setup d) (state_of d m) b).state (saw_narrow (setup d) (state_of d m) b _ byte (state_narrow d m d.state refl w h) (saw (setup d) (state_of d m) b));
      memory = bytes_join (take d.fill m) _ (bytes_take d.fill m h) (bytes_join (wrote (setup d) (state_of d m) b) _ (wrote_bytes (setup d) (state_of d m) b byte) (bytes_drop (d.fill + length (wrote (setup d) (state_of d m) b)) m h));
    })))

pub act_tame : (d : Decoder) (m : List ℕ) (o : Op) (os : List Op) → Narrow d → AllBytes m → PushesBytes (o ∷ os) → Tame (act d m o) × PushesBytes os
unfolding act finalize_record reset_record
act_tame d m (push b) os w h p = (push_tame d m b w h p.0, p.1)
act_tame d m finalize os w h p = (cases (bad_decoder d) (λ e. rw e (record { decoder = w; memory = h })) (λ e. rw e (record { decoder = new_narrow (setup d); memory = h })), p)
act_tame d m reset os w h p = (record { decoder = new_narrow (setup d); memory = h }, p)

-- so does a slice
pushes_tame : (bs : List ℕ) (n : ℕ) (d : Decoder) (m : List ℕ) → Narrow d → AllBytes m → AllBytes bs → Narrow (pushes_from n d m bs).decoder × AllBytes (pushes_from n d m bs).memory
unfolding pushes_from
pushes_tame [] n d m w h b = (w, h)
pushes_tame (x ∷ bs) n d m w h b =
    let t = push_tame d m x w h b.0 in
    cases (says_nothing (push_record d m x).answer)
    (λ e. rw e (pushes_tame bs (suc n) (push_record d m x).decoder (push_record d m x).memory t.decoder t.memory b.1))
    (λ e. rw e (t.decoder, t.memory))

pub slice_tame : (d : Decoder) (m bs : List ℕ) → Narrow d → AllBytes m → AllBytes bs → Narrow (slice_record d m bs).decoder × AllBytes (slice_record d m bs).memory
unfolding slice_record
slice_tame d m bs w h b =
    cases (bad_decoder d) (λ e. rw e (w, h)) (λ e.
    cases (wrong_buffer d.capacity (length m)) (λ f. rw (e, f) (w, h)) (λ f. rw (e, f) (pushes_tame bs 0 d m w h b)))
