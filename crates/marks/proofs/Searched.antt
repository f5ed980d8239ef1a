-- The bytes since the last payload, refusal, finalize or reset are, outside a frame, those since the search began.
use mathlib.Core.Path.{◌≡◌, refl, sym, subst}
use mathlib.Core.List.{List, [], ◌∷◌, ◌++◌}
use Prim.Native.Nat.{ℕ}
use Rattle.decoder.specs.Push.{Mem, State, search, body, escape, done, Out, put, fresh, step}
use Rattle.decoder.specs.Record.{DecoderAnswer, nothing, payload, count, refusal, numbered}
use Rattle.decoder.specs.Run.{Op, push, finalize, reset}
use Rattle.decoder.specs.Saw as W
use Rattle.decoder.specs.Saw.{Judged, is_data, restarts, good, bad, shifts, Saw, sought, began, again, waits, opens, stores, full, collects, judges, full'}
use Rattle.decoder.specs.declared.Setup.{Setup}
use Rattle.decoder.proofs.Saw.{saw}
use Rattle.decoder.proofs.States.{run_state, state_behind, act_state, answer_state}
use Rattle.since.specs.Bytes.{grown_since}
use Rattle.since.specs.Since.{ReadSince}
use Rattle.since.proofs.Kept.{kept, reads_fresh}
use Rattle.marks.specs.Decoders.{searched_from}

-- with one operation more, and its answer
abbrev pub grown_search : DecoderAnswer → List ℕ → ℕ → List ℕ
grown_search nothing g b = g ++ b ∷ []
grown_search (payload bytes) g b = []
grown_search (count k) g b = []
grown_search (refusal k values) g b = []

abbrev pub grown_search_op : Op → DecoderAnswer → List ℕ → List ℕ
grown_search_op (push b) a g = grown_search a g b
grown_search_op finalize a g = []
grown_search_op reset a g = []

pub searched_cons : (g : List ℕ) (o : Op) (a : DecoderAnswer) (os : List Op) (more : List DecoderAnswer) → searched_from g (o ∷ os) (a ∷ more) ≡ searched_from (grown_search_op o a g) os more
unfolding searched_from
searched_cons g (push b) nothing os more = refl
searched_cons g (push b) (payload bytes) os more = refl
searched_cons g (push b) (count k) os more = refl
searched_cons g (push b) (refusal k values) os more = refl
searched_cons g finalize a os more = refl
searched_cons g reset a os more = refl

-- outside a frame they are the bytes h since the search began
abbrev pub Same : List ℕ → List ℕ → State → Type 0
Same g h (search k noise raw) = g ≡ h
Same g h (body r m) = Unit {0}
Same g h (escape k m) = Unit {0}
Same g h (done P) = g ≡ h

same_judged : (g h : List ℕ) (b : ℕ) (m : Mem) (four : List ℕ) (o : Out) → Judged m four o → Same (grown_search (numbered o.event) g b) (grown_since (numbered o.event) h b) o.state
same_judged g h b m four o (is_data e) = tt
same_judged g h b m four o (restarts e) = tt
same_judged g h b m four o (good e p) = refl
same_judged g h b m four o (bad e p) = refl
same_judged g h b m four o (shifts a e lo hi t) = tt
same_judged g h b m four o (W.unknown w x y z) = refl

same_saw : (C : Setup) (g h : List ℕ) (s : State) (b : ℕ) (o : Out) → Same g h s → Saw C s b o → Same (grown_search (numbered o.event) g b) (grown_since (numbered o.event) h b) o.state
same_saw C g h s b o e (sought k f ne) = rw e
same_saw C g h s b o e (began f) = tt
same_saw C g h s b o e (again w) = same_saw C g h fresh b o e w
same_saw C g h s b o e (waits f ne) = tt
same_saw C g h s b o e (opens f t) = tt
same_saw C g h s b o e (stores ne fit) = tt
same_saw C g h s b o e (full ne f) = refl
same_saw C g h s b o e (collects fit lt) = tt
same_saw C g h s b o e (judges {m = m} fit ge j) = same_judged g h b (put m (b ∷ [])) _ o j
same_saw C g h s b o e (full' f) = refl

-- what is known behind any operations
pub record Heard (C : Setup) (g : List ℕ) (s : State) : Type 0 where
  pub since : List ℕ
  pub reads' : ReadSince C since s
  pub same' : Same g since s

pub heard_fresh : (C : Setup) → Heard C [] fresh
heard_fresh C = record { since = []; reads' = reads_fresh C; same' = refl }

pub heard_act : (C : Setup) (g : List ℕ) (s : State) (o : Op) → Heard C g s → Heard C (grown_search_op o (answer_state C s o) g) (act_state C s o)
unfolding act_state answer_state
heard_act C g s (push b) k =
    record {
      since = grown_since (numbered (step C s b).event) k.since b;
      reads' = (kept C k.since s b k.reads').reads;
      same' = same_saw C g k.since s b (step C s b) k.same' (saw C s b);
    }
heard_act C g s finalize k = heard_fresh C
heard_act C g s reset k = heard_fresh C

pub heard_behind_lem : (C : Setup) (os : List Op) (g : List ℕ) (s : State) → Heard C g s → Heard C (searched_from g os (run_state C s os)) (state_behind C s os)
unfolding run_state state_behind searched_from
heard_behind_lem C [] g s k = k
heard_behind_lem C (o ∷ os) g s k =
    subst (λ (l : List ℕ). Heard C l (state_behind C (act_state C s o) os)) (sym (searched_cons g o (answer_state C s o) os (run_state C (act_state C s o) os)))
    (heard_behind_lem C os (grown_search_op o (answer_state C s o) g) (act_state C s o) (heard_act C g s o k))
