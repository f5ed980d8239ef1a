-- What the counts are: in a search the bytes since it began, inside a frame the bytes since its first start byte.
use mathlib.Core.Path.{◌≡◌, ap, sym, ◌∙◌, subst}
use mathlib.Core.List.{List, []}
use Prim.Native.Nat.{ℕ, ◌+◌, ◌≤◌}
use native.Mathlib.Omega.{arith}
use lib.ListN.{length, replicate, length-append}
use Rattle.frame.specs.Frame.{escaped}
use Rattle.decoder.specs.Push.{State, search, body, escape, done, fresh}
use Rattle.decoder.specs.Record.{After, after, nothing, state_of, new_record}
use Rattle.decoder.specs.Run.{Op, run, behind}
use Rattle.decoder.proofs.States.{run_state, state_behind}
use Rattle.decoder.specs.declared.Setup.{Setup}
use Rattle.decoder.proofs.Search.{Known}
use Rattle.decoder.proofs.Runs.{run_new, leads, new_fit}
use Rattle.since.specs.Bytes.{since_from, Counted}
use Rattle.since.specs.Since.{frame_head, ReadSince}
use Rattle.since.proofs.Lists.{matched_long}
use Rattle.since.proofs.Kept.{reads_behind}

head_long : (D : List ℕ) → length (frame_head D) ≡ 8 + length (escaped 0 D)
unfolding frame_head
head_long D = omega arith

pub reads_counted : (C : Setup) (h : List ℕ) (s : State) → ReadSince C h s → Counted C s h
reads_counted C h (search n skip raw) k =
    let l : length h ≡ length k.passed + n = ap length k.here ∙ simp (length-append, matched_long n k.most) in
    let m = k.most in
    let d = k.dropped in
    (omega arith, m, omega arith, k.long, k.matched)
reads_counted C h (body r m) k =
    let l : length h ≡ 8 + length (escaped 0 m.stored) + length {A = ℕ} (replicate r 0x1b) = ap length k.here ∙ simp (length-append, head_long) in
    (omega arith, k.long)
reads_counted C h (escape j m) k =
    let l : length h ≡ 8 + length (escaped 0 k.D) + 4 + length k.l = ap length k.here ∙ simp (length-append, head_long) in
    (omega arith, k.long)
reads_counted C h (done P) k = rw k.0

-- every state that is reached from fresh
pub counts : (C : Setup) (os : List Op) → Counted C (state_behind C fresh os) (since_from [] os (run_state C fresh os))
counts C os = reads_counted C (since_from [] os (run_state C fresh os)) (state_behind C fresh os) (reads_behind C os)

-- and so every record that is reached from a new one, with a buffer of its capacity
module _ (C : Setup) (m : List ℕ) (os : List Op) (w : Known C) (l : length m ≡ C.capacity) (le : C.capacity ≤ 1048576) where
  abbrev a : After
  a = behind (after nothing (new_record C) m) os

  abbrev since : List ℕ
  since = since_from [] os (run (new_record C) m os)

  pub record_reads : ReadSince C since (state_of a.decoder a.memory)
  record_reads =
      let r = leads os (after nothing (new_record C) m) (new_fit C m w l le) in
      rw (run_new C m os w l le) (subst (ReadSince C (since_from [] os (run_state C fresh os))) (sym r.view') (reads_behind C os))

  pub record_counts : Counted C (state_of a.decoder a.memory) since
  record_counts = reads_counted C since (state_of a.decoder a.memory) record_reads
