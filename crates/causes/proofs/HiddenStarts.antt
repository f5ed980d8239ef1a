-- Hidden is named exactly if it should be.
use mathlib.Core.Path.{◌≡◌, refl, ap, sym, ◌∙◌, subst}
use mathlib.Core.Bool.{false≢true}
use mathlib.Core.List.{List, [], ◌∷◌, ◌++◌, append_assoc, append-nil}
use Prim.Native.Nat.{ℕ}
use lib.ListN.{replicate, drop}
use Rattle.frame.specs.Frame.{start_seq, esc_seq, escaped}
use Rattle.search.specs.Found.{HasStart}
use Rattle.decoder.specs.Record.{nothing, After, after, state_as, state_of, new_record}
use Rattle.decoder.specs.Run.{run, behind}
use Rattle.decoder.specs.declared.DecodeState.{DecodeState}
use Rattle.decoder.specs.declared.DecodeState.TheVariants.{LookingForMessageStart, ParsingNormal, ParsingEscChars, ParsingEscPayload, Done}
use Rattle.decoder.specs.declared.Decoder.{Decoder}
use Rattle.decoder.proofs.Search.{known_is}
use Rattle.since.specs.Bytes.{since_from}
use Rattle.since.proofs.CountsExactly.{record_reads_exactly}
use Rattle.since.specs.Since.{frame_head}
use Rattle.since.specs.Exactly.{none_for_data, none_behind_escape}
use Rattle.losses.specs.Loss.{begins_in_start}
use Rattle.losses.specs.declared.Cause.{Cause}
use Rattle.losses.proofs.Starts.{begins_true, begins_start}
use Rattle.causes.specs.Causes.{Reason, is_noise, is_unfinished, is_hidden, is_cut, is_escape, is_room_claim, is_crc, is_misaligned, is_pads, Overlooks, open_in_data, open_behind_escape, TrueOf, Names}
use Rattle.causes.specs.Hidden.{FromAStart, AlwaysHiddenExactly, runs, AlwaysRunsFromAStart}
use Rattle.causes.proofs.Told.{in_frame, frame_begins}
use Rattle.causes.proofs.Overlooked.{before_start, search_not}

head_from_lem : (D z : List ℕ) → FromAStart (frame_head D ++ z)
unfolding frame_head
head_from_lem D z = record { rest = escaped 0 D ++ z; is = append_assoc start_seq (escaped 0 D) z }

head_alone : (D : List ℕ) → FromAStart (frame_head D)
head_alone D = subst FromAStart (append-nil (frame_head D)) (head_from_lem D [])

behind_from : (D l : List ℕ) → FromAStart (frame_head D ++ esc_seq ++ l)
behind_from D l = subst FromAStart (sym (append_assoc (frame_head D) esc_seq l)) (head_from_lem D (esc_seq ++ l))

-- a cause that is neither noise nor hidden is a frame's
module _ (way C : ℕ) (w rest : List ℕ) (c : Cause) (none : FromAStart w → ⊥) (has : HasStart w) where
  by_reason : (r : Reason) → Names c r → TrueOf way C w rest r → Names c is_hidden
  by_reason is_noise n t = absurd (t.1 has)
  by_reason is_hidden n t = n
  by_reason is_cut n t = absurd (none (subst FromAStart (sym t.is) (head_alone t.D)))
  by_reason is_unfinished n (e, open_in_data E r is clean few fits) = absurd (none (subst FromAStart (sym is) (head_from_lem E (replicate r 0x1b))))
  by_reason is_unfinished n (e, open_behind_escape D l is o few fits) = absurd (none (subst FromAStart (sym is) (behind_from D l)))
  by_reason is_escape n (four, t) = absurd (none (subst FromAStart (sym t.is) (behind_from t.D four)))
  by_reason is_room_claim n (none_for_data E r b is clean few ne fits over) = absurd (none (subst FromAStart (sym is) (head_alone (E ++ (replicate r 0x1b ++ b ∷ [])))))
  by_reason is_room_claim n (none_behind_escape D l is o some most fits) = absurd (none (subst FromAStart (sym is) (behind_from D l)))
  by_reason is_crc n t = absurd (none (subst FromAStart (sym t.is.is) (behind_from t.D _)))
  by_reason is_misaligned n t = absurd (none (subst FromAStart (sym t.is.is) (behind_from t.D _)))
  by_reason is_pads n t = absurd (none (subst FromAStart (sym t.is.is) (behind_from t.D _)))

search_from : (w : List ℕ) → Overlooks w → FromAStart w → ⊥
search_from w o f = false≢true (sym (search_not o.misses o.n o.most) ∙ ap begins_in_start (sym o.is ∙ f.is) ∙ begins_start f.rest)

pub hidden_exactly : AlwaysHiddenExactly
hidden_exactly way C bytes at l a = record {
  named_if = λ n. let t = a.truly is_hidden n in (t.0, t.1, search_from a.piece t.2);
  if_noise = λ none has. by_reason way C a.piece a.rest l.cause none has a.reason a.some (a.truly a.reason a.some);
  earlier = λ n s. let o : Overlooks a.piece = (a.truly is_hidden n).2 in before_start o.misses o.n o.most s.before s.behind (sym o.is ∙ s.is);
}

-- ---- a frame was running

runs_as : (d : Decoder) (m : List ℕ) (s : DecodeState) → in_frame (state_as s d m) ≡ runs s
runs_as d m (LookingForMessageStart n noise) = refl
runs_as d m ParsingNormal = refl
runs_as d m (ParsingEscChars n) = refl
runs_as d m (ParsingEscPayload n) = refl
runs_as d m Done = refl

pub runs_from : AlwaysRunsFromAStart
runs_from C m os known l le =
    let a : After = behind (after nothing (new_record C) m) os in
    let h : List ℕ = since_from [] os (run (new_record C) m os) in
    let e : begins_in_start h ≡ runs a.decoder.state = frame_begins C h (state_of a.decoder a.memory) known (record_reads_exactly C m os (known_is C.way known) l le) ∙ runs_as a.decoder a.memory a.decoder.state in
    record {
      then = λ t. record { rest = drop 8 h; is = begins_true h (e ∙ t) };
      only_then = λ f. sym e ∙ ap begins_in_start f.is ∙ begins_start f.rest;
    }
