-- What BadState rules out never comes about: a valid state stays valid, and the record of a valid state is not refused.
use mathlib.Core.Path.{◌≡◌, refl}
use mathlib.Core.Bool.{Bool, true, false, cond}
use mathlib.Core.List.{List, [], ◌∷◌}
use Prim.Native.Nat.{ℕ, zero, suc, ◌+◌, ◌≤◌, ◌<◌}
use native.Mathlib.Omega.{arith}
use lib.ListN.{length, length-append, length-take}
use lib.Seq.{length-take-le}
use lib.Dec.{eqb, ltb}
use borrow.Author.Tests.{ltb-false, eqb-true, eqb-false, le-ltb, ne_eqb}
use Rattle.decoder.specs.Push.{Setup, Mem, State, search, body, escape, done, Out, fresh, step, put}
use Rattle.decoder.specs.Record.{setup, state_as, state_of, record_of, unknown_way, bad_in, bad_decoder, wrong_buffer}
use Rattle.decoder.specs.Cut.{FrameHeld}
use Rattle.decoder.specs.Saw.{Judged, is_data, restarts, good, bad, shifts, unknown, Saw, sought, began, again, waits, opens, stores, full, collects, judges, full'}
use Rattle.decoder.specs.declared.DecodeState.{DecodeState}
use Rattle.decoder.specs.declared.DecodeState.TheVariants.{LookingForMessageStart, ParsingNormal, ParsingEscChars, ParsingEscPayload, Done}
use Rattle.decoder.specs.declared.Decoder.{Decoder}
use Rattle.decoder.proofs.Saw.{saw}
use Rattle.decoder.proofs.Search.{Known, matched_most}

abbrev pub Valid : Setup → State → Type 0
Valid C (search n noise raw) = n ≤ 7
Valid C (body r m) = (r ≤ 3) × (length m.stored ≤ C.capacity) × (m.idx ≤ length m.stored) × (8 ≤ m.raw)
Valid C (escape k m) = (k ≤ 3) × (length m.stored ≤ C.capacity) × (m.idx + k ≤ length m.stored) × (8 ≤ m.raw)
Valid C (done P) = length P ≤ C.capacity

valid_judged : (C : Setup) (m : Mem) (four : List ℕ) (o : Out) → length m.stored ≤ C.capacity → m.idx + 4 ≤ length m.stored → 8 ≤ m.raw
    → Judged m four o → Valid C o.state
valid_judged C m four o f i r (is_data e) = omega arith
valid_judged C m four o f i r (restarts e) = omega arith
valid_judged C m four o f i r (good e h) = simp length-take (omega arith)
valid_judged C m four o f i r (bad e h) = omega arith
valid_judged C m four o f i r (shifts a e lo hi t) = omega arith
valid_judged C m four o f i r (unknown a b c d) = omega arith

valid_saw : (C : Setup) (s : State) (b : ℕ) (o : Out) → Valid C s → Saw C s b o → Valid C o.state
valid_saw C s b o v (sought {n} k e ne) = omega (arith, e, matched_most C.way n b)
valid_saw C s b o v (began e) = omega arith
valid_saw C s b o v (again w) = valid_saw C fresh b o (omega arith) w
valid_saw C s b o v (waits e ne) = omega arith
valid_saw C s b o v (opens e f) = omega arith
valid_saw C s b o v (stores ne fit) = simp length-append (omega (arith, simp length-append at fit))
valid_saw C s b o v (full ne h) = omega arith
valid_saw C s b o v (collects fit lt) = simp length-append (omega arith)
valid_saw C s b o v (judges {m = m} fit ge j) =
    valid_judged C (put m (b ∷ [])) _ o (simp length-append (omega arith)) (simp length-append (omega arith)) (omega arith) j
valid_saw C s b o v (full' h) = omega arith

pub valid_step : (C : Setup) (s : State) (b : ℕ) → Valid C s → Valid C (step C s b).state
valid_step C s b v = valid_saw C s b (step C s b) v (saw C s b)

pub not_bad : (C : Setup) (s : State) → Known C → Valid C s → bad_decoder (record_of C s) ≡ false
unfolding bad_decoder
not_bad C (search n noise raw) w v = rw (w, le-ltb C.capacity 0 (omega arith), le-ltb 7 n v)
not_bad C (body zero q) w v = rw (w, le-ltb C.capacity (length q.stored) v.1, le-ltb (length q.stored) q.idx v.2, le-ltb q.raw 8 v.3)
not_bad C (body (suc n) q) w v =
    rw (w, le-ltb C.capacity (length q.stored) v.1, le-ltb (length q.stored) q.idx v.2, le-ltb q.raw 8 v.3, ne_eqb (suc n) 0 (λ e. omega arith), le-ltb 3 (suc n) v.0)
not_bad C (escape k q) w v =
    rw (w, le-ltb C.capacity (length q.stored) v.1, le-ltb (length q.stored) q.idx (omega arith), le-ltb q.raw 8 v.3, le-ltb 3 k v.0, le-ltb (length q.stored) (q.idx + k) v.2)
not_bad C (done P) w v = rw (w, le-ltb C.capacity (length P) v, le-ltb (length P) 0 (omega arith))

-- ---- and what is known of a record that is not refused

pub or_false : (a b : Bool) → cond a true b ≡ false → (a ≡ false) × (b ≡ false)
or_false true b e = (e, cc)
or_false false b e = (refl, e)

pub if_false : (a b : Bool) → cond a b true ≡ false → (a ≡ true) × (b ≡ false)
if_false true b e = (refl, e)
if_false false b e = (cc, cc)

pub sane : (d : Decoder) → bad_decoder d ≡ false
    → (d.fill ≤ d.capacity) × (d.crc_idx ≤ d.fill) × (bad_in d.fill d.crc_idx d.raw_msg_len d.state ≡ false)
unfolding bad_decoder
sane d e =
    let o = or_false (unknown_way d.way) _ e in
    let p = or_false (ltb d.capacity d.fill) _ o.1 in
    let q = or_false (ltb d.fill d.crc_idx) _ p.1 in
    (ltb-false _ _ p.0, ltb-false _ _ q.0, q.1)

-- its way is known
pub sane_way : (d : Decoder) → bad_decoder d ≡ false → Known (setup d)
unfolding bad_decoder
sane_way d e = (or_false (unknown_way d.way) _ e).0

module _ (d : Decoder) (g : bad_decoder d ≡ false) where
  pub sane_search : (noise n : ℕ) → d.state ≡ LookingForMessageStart n noise → (d.fill ≡ 0) × (n < 8)
  sane_search noise n s =
      let h : cond (eqb d.fill 0) (ltb 7 n) true ≡ false = rw s at (sane d g).2 in
      let p = if_false (eqb d.fill 0) (ltb 7 n) h in
      (eqb-true _ _ p.0, omega (arith, ltb-false 7 n p.1))

  pub sane_normal : d.state ≡ ParsingNormal → 8 ≤ d.raw_msg_len
  sane_normal s =
      let h : ltb d.raw_msg_len 8 ≡ false = rw s at (sane d g).2 in
      ltb-false _ _ h

  pub sane_wait : (n : ℕ) → d.state ≡ ParsingEscChars n → (1 ≤ n) × (n ≤ 3) × (8 ≤ d.raw_msg_len)
  sane_wait n s =
      let h : cond (ltb d.raw_msg_len 8) true (cond (eqb n 0) true (ltb 3 n)) ≡ false = rw s at (sane d g).2 in
      let p = or_false (ltb d.raw_msg_len 8) _ h in
      let q = or_false (eqb n 0) (ltb 3 n) p.1 in
      let z : n ≡ 0 → ⊥ = eqb-false n 0 q.0 in
      (omega arith, ltb-false 3 n q.1, ltb-false _ _ p.0)

  pub sane_escape : (n : ℕ) → d.state ≡ ParsingEscPayload n → (d.crc_idx + n ≤ d.fill) × (n ≤ 3) × (8 ≤ d.raw_msg_len)
  sane_escape n s =
      let h : cond (ltb d.raw_msg_len 8) true (cond (ltb 3 n) true (ltb d.fill (d.crc_idx + n))) ≡ false = rw s at (sane d g).2 in
      let p = or_false (ltb d.raw_msg_len 8) _ h in
      let q = or_false (ltb 3 n) _ p.1 in
      (ltb-false _ _ q.1, ltb-false _ _ q.0, ltb-false _ _ p.0)

pub right_buffer : (C n : ℕ) → wrong_buffer C n ≡ false → (n ≡ C) × (n ≤ 1048576)
unfolding wrong_buffer
right_buffer C n e =
    let p = if_false (eqb n C) (ltb 1048576 n) e in
    (eqb-true n C p.0, ltb-false 1048576 n p.1)

-- the state of a record that is not refused, with a buffer of the recorded length
module _ (d : Decoder) (m : List ℕ) (n : ℕ) (g : bad_decoder d ≡ false) (w : wrong_buffer d.capacity (length m) ≡ false) where
  pub wait_in_frame : d.state ≡ ParsingEscChars n → FrameHeld d m 0 × (n ≤ 3)
  wait_in_frame s = omega (arith, sane d g, sane_wait d g n s, right_buffer d.capacity (length m) w)

  pub escape_in_frame : d.state ≡ ParsingEscPayload n → FrameHeld d m n × (n ≤ 3)
  escape_in_frame s = omega (arith, sane d g, sane_escape d g n s, right_buffer d.capacity (length m) w)

valid_as : (d : Decoder) (m : List ℕ) (s : DecodeState) → d.state ≡ s → bad_decoder d ≡ false → length m ≡ d.capacity → Valid (setup d) (state_as s d m)
valid_as d m (LookingForMessageStart n noise) e g l = omega (arith, (sane_search d g noise n e).1)
valid_as d m ParsingNormal e g l =
    let n = length-take-le d.fill m (omega (arith, (sane d g).0)) in
    rw n (omega arith, (sane d g).0, (sane d g).1, sane_normal d g e)
valid_as d m (ParsingEscChars k) e g l =
    let n = length-take-le d.fill m (omega (arith, (sane d g).0)) in
    rw n ((sane_wait d g k e).1, (sane d g).0, (sane d g).1, (sane_wait d g k e).2)
valid_as d m (ParsingEscPayload k) e g l =
    let n = length-take-le d.fill m (omega (arith, (sane d g).0)) in
    rw n ((sane_escape d g k e).1, (sane d g).0, (sane_escape d g k e).0, (sane_escape d g k e).2)
valid_as d m Done e g l = rw (length-take-le d.fill m (omega (arith, (sane d g).0))) (sane d g).0

pub valid_view : (d : Decoder) (m : List ℕ) → bad_decoder d ≡ false → length m ≡ d.capacity → Valid (setup d) (state_of d m)
valid_view d m g l = valid_as d m d.state refl g l
