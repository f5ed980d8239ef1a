-- claim: the way of searching is part of the decoder. Every operation keeps it, refused or not, and an unknown one is refused.
use Rattle.std.specs.Prelude.{◌≡◌, List, [], ◌∷◌, ◌++◌, ℕ}
use Rattle.refusals.specs.Numbers.{bad_state_no}
use Rattle.decoder.specs.Record.{refusal}
use Rattle.decoder.specs.Run.{KnownWay, Op, push, finalize, reset}
use Rattle.decoder.specs.declared.Decoder.{Decoder}
use Rattle.decoder.specs.declared.Setup.{Setup}
use Rattle.marks.specs.Decoders.{left_behind}
use Rattle.marks.specs.Chunks.{Slicer}

-- ours: the record's field
abbrev pub our_way : Decoder → ℕ
our_way d = d.way

-- `way_of d` is the way that the decoder d has
pub record KeepsWay {S : Type 0} (M : Slicer S) (way_of : S → ℕ) : Type 0 where
  pub made : (C : Setup) → way_of (M.machine.new C) ≡ C.way
  pub kept : (d : S) (m : List ℕ) (o : Op) → way_of (M.machine.act d m o).decoder ≡ way_of d
  pub kept_by_slices : (d : S) (m bytes : List ℕ) → way_of (M.push_slice d m bytes).decoder ≡ way_of d
  -- reset behind any operations leaves a new decoder: each way has its own fresh state
  pub fresh_again : (C : Setup) (m : List ℕ) (os : List Op) → (left_behind M.machine (M.machine.new C) m (os ++ reset ∷ [])).decoder ≡ M.machine.new C
  -- and reset never refuses
  pub reset_never : (d : S) (m : List ℕ) (k : ℕ) (values : List ℕ) → (M.machine.act d m reset).answer ≡ refusal k values → ⊥

-- a way that is neither the first nor the second: a push, a slice and finalize answer 4 and leave decoder and memory as they are, and no payload is handed back
pub record RefusesUnknown {S : Type 0} (M : Slicer S) (way_of : S → ℕ) : Type 0 where
  pub by_push_claim : (d : S) (m : List ℕ) (b : ℕ) → (KnownWay (way_of d) → ⊥) → M.machine.act d m (push b) ≡ record { answer = refusal bad_state_no []; decoder = d; memory = m }
  pub by_finalize_claim : (d : S) (m : List ℕ) → (KnownWay (way_of d) → ⊥) → M.machine.act d m finalize ≡ record { answer = refusal bad_state_no []; decoder = d; memory = m }
  pub by_slices_claim : (d : S) (m bytes : List ℕ) → (KnownWay (way_of d) → ⊥) → M.push_slice d m bytes ≡ record { answer = refusal bad_state_no []; taken = 0; decoder = d; memory = m }
  pub no_payload : (d : S) (m : List ℕ) → (KnownWay (way_of d) → ⊥) → M.machine.payload_of d m ≡ []
