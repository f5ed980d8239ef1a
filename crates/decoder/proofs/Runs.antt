-- Any number of operations: a record that is not refused stays so and keeps its setup, and the run over record and memory says what the run over the state says.
use mathlib.Core.Path.{◌≡◌, refl, ap, ◌∙◌}
use mathlib.Core.Bool.{false}
use mathlib.Core.List.{List, [], ◌∷◌}
use Prim.Native.Nat.{ℕ, ◌≤◌}
use native.Mathlib.Omega.{arith}
use lib.ListN.{length}
use borrow.Author.Tests.{eq-eqb, le-ltb}
use Rattle.decoder.specs.Push.{Setup, fresh, finalized, reset_count}
use Rattle.decoder.specs.Record.{DecoderAnswer, nothing, count, After, after, numbered, setup, state_as, state_of, bad_decoder, wrong_buffer, finalize_record, reset_record, new_record}
use Rattle.decoder.specs.Run.{Op, push, finalize, reset, act, run, behind}
use Rattle.decoder.proofs.States.{act_state, answer_state, run_state, state_behind}
use Rattle.decoder.specs.declared.DecodeState.{DecodeState}
use Rattle.decoder.specs.declared.DecodeState.TheVariants.{LookingForMessageStart, ParsingNormal, ParsingEscChars, ParsingEscPayload, Done}
use Rattle.decoder.specs.declared.Decoder.{Decoder}
use Rattle.decoder.proofs.Search.{Known}
use Rattle.decoder.proofs.Valid.{not_bad, sane_way}
use Rattle.decoder.proofs.Faithful.{Fit, push_is_step}

-- an operation over the record is the operation over its state
pub record Acts (d : Decoder) (m : List ℕ) (o : Op) (a : After) : Type 0 where
  pub answer : a.answer ≡ answer_state (setup d) (state_of d m) o
  pub fit : Fit a.decoder a.memory
  pub setup' : setup a.decoder ≡ setup d
  pub view' : state_of a.decoder a.memory ≡ act_state (setup d) (state_of d m) o

-- finalize and reset look at no stored byte
final_as : (d : Decoder) (m n : List ℕ) (s : DecodeState) → finalized (state_as s d m) ≡ finalized (state_as s d n)
unfolding finalized
final_as d m n (LookingForMessageStart k noise) = refl
final_as d m n ParsingNormal = refl
final_as d m n (ParsingEscChars k) = refl
final_as d m n (ParsingEscPayload k) = refl
final_as d m n Done = refl

reset_as : (d : Decoder) (m n : List ℕ) (s : DecodeState) → reset_count (state_as s d m) ≡ reset_count (state_as s d n)
unfolding reset_count
reset_as d m n (LookingForMessageStart k noise) = refl
reset_as d m n ParsingNormal = refl
reset_as d m n (ParsingEscChars k) = refl
reset_as d m n (ParsingEscPayload k) = refl
reset_as d m n Done = refl

fresh_fit : (d : Decoder) (m : List ℕ) → Fit d m → Fit (new_record (setup d)) m
fresh_fit d m f = record { state = not_bad (setup d) fresh (sane_way d f.state) (omega arith); buffer = f.buffer }

pub acts : (d : Decoder) (m : List ℕ) (o : Op) → Fit d m → Acts d m o (act d m o)
unfolding act act_state answer_state finalize_record reset_record
acts d m (push b) f =
    let s = push_is_step d m b f in
    record { answer = s.answer; fit = s.fit; setup' = s.setup'; view' = s.view' }
acts d m finalize f =
    rw f.state (record { answer = ap numbered (final_as d [] m d.state); fit = fresh_fit d m f; setup' = refl; view' = refl })
acts d m reset f = record { answer = ap count (reset_as d [] m d.state); fit = fresh_fit d m f; setup' = refl; view' = refl }

-- ---- any number of operations

pub run_is : (os : List Op) (d : Decoder) (m : List ℕ) → Fit d m → run d m os ≡ run_state (setup d) (state_of d m) os
unfolding run run_state
run_is [] d m f = refl
run_is (o ∷ os) d m f =
    let a = acts d m o f in
    rw a.answer (ap (λ (l : List DecoderAnswer). answer_state (setup d) (state_of d m) o ∷ l)
    (run_is os (act d m o).decoder (act d m o).memory a.fit ∙ rw (a.setup', a.view')))

-- where they lead
pub record Leads (d : Decoder) (m : List ℕ) (os : List Op) (a : After) : Type 0 where
  pub fit : Fit a.decoder a.memory
  pub setup' : setup a.decoder ≡ setup d
  pub view' : state_of a.decoder a.memory ≡ state_behind (setup d) (state_of d m) os

pub leads : (os : List Op) (a : After) → Fit a.decoder a.memory → Leads a.decoder a.memory os (behind a os)
unfolding behind state_behind
leads [] a f = record { fit = f; setup' = refl; view' = refl }
leads (o ∷ os) a f =
    let h = acts a.decoder a.memory o f in
    let r = leads os (act a.decoder a.memory o) h.fit in
    record { fit = r.fit; setup' = r.setup' ∙ h.setup'; view' = r.view' ∙ rw (h.setup', h.view') }

-- a new decoder of a known way, with a buffer of its capacity
pub new_fit : (C : Setup) (m : List ℕ) → Known C → length m ≡ C.capacity → C.capacity ≤ 1048576 → Fit (new_record C) m
unfolding wrong_buffer
new_fit C m w l le =
    record {
      state = not_bad C fresh w (omega arith);
      buffer = rw (l, eq-eqb C.capacity C.capacity refl, le-ltb 1048576 C.capacity le);
    }

pub run_new : (C : Setup) (m : List ℕ) (os : List Op) → Known C → length m ≡ C.capacity → C.capacity ≤ 1048576 → run (new_record C) m os ≡ run_state C fresh os
run_new C m os w l le = run_is os (new_record C) m (new_fit C m w l le)

-- what is reached from a new decoder is never refused with 4 or 5
pub never_bad : (C : Setup) (m : List ℕ) (os : List Op) → Known C → length m ≡ C.capacity → C.capacity ≤ 1048576
    → let a : After = behind (after nothing (new_record C) m) os in (bad_decoder a.decoder ≡ false) × (setup a.decoder ≡ C)
never_bad C m os w l le =
    let r = leads os (after nothing (new_record C) m) (new_fit C m w l le) in
    (r.fit.state, r.setup')
