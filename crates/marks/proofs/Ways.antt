-- Every operation keeps the way of searching, and an unknown one is refused by each.
use mathlib.Core.Path.{◌≡◌, refl, ap, ◌∙◌}
use mathlib.Core.Bool.{true}
use mathlib.Core.List.{List, [], ◌∷◌, ◌++◌}
use Prim.Native.Nat.{ℕ, suc}
use native.Mathlib.Omega.{arith}
use Rattle.frame.proofs.Cases.{by_test}
use Rattle.refusals.specs.Numbers.{bad_span_no}
use Rattle.decoder.specs.Record.{count, refusal, After, setup, new_record, bad_decoder, wrong_buffer, push_record, finalize_record, reset_record, has_payload, payload_record, ask_record}
use Rattle.decoder.specs.Run.{KnownWay, Op, push, finalize, reset, act}
use Rattle.decoder.specs.declared.Decoder.{Decoder}
use Rattle.decoder.specs.declared.Setup.{Setup}
use Rattle.decoder.proofs.Search.{unknown_is}
use Rattle.decoder.proofs.Reached.{push_setup, finalize_setup, reset_setup}
use Rattle.decoder_slice.specs.Slice.{Took, says_nothing, pushes_from, slice_record}
use Rattle.marks.specs.Decoders.{ours, left_behind}
use Rattle.marks.specs.Chunks.{our_slicer}
use Rattle.marks.specs.Ways.{our_way, KeepsWay, RefusesUnknown}

-- ---- what never changes stays as it is

act_setup : (d : Decoder) (m : List ℕ) (o : Op) → setup (act d m o).decoder ≡ setup d
unfolding act
act_setup d m (push b) = push_setup d m b
act_setup d m finalize = finalize_setup d
act_setup d m reset = reset_setup d

pushes_setup : (bs : List ℕ) (n : ℕ) (d : Decoder) (m : List ℕ) → setup (pushes_from n d m bs).decoder ≡ setup d
unfolding pushes_from
pushes_setup [] n d m = refl
pushes_setup (b ∷ bs) n d m =
    let a : After = push_record d m b in
    by_test (λ (t : Took). setup t.decoder ≡ setup d) (says_nothing a.answer) _ _ (λ e. pushes_setup bs (suc n) a.decoder a.memory ∙ push_setup d m b) (λ e. push_setup d m b)

slice_setup : (d : Decoder) (m bs : List ℕ) → setup (slice_record d m bs).decoder ≡ setup d
unfolding slice_record
slice_setup d m bs =
    by_test (λ (t : Took). setup t.decoder ≡ setup d) (bad_decoder d) _ _ (λ e. refl) (λ e.
    by_test (λ (t : Took). setup t.decoder ≡ setup d) (wrong_buffer d.capacity _) _ _ (λ w. refl) (λ w. pushes_setup bs 0 d m))

reset_behind : (os : List Op) (d : Decoder) (m : List ℕ) → (left_behind ours d m (os ++ reset ∷ [])).decoder ≡ new_record (setup d)
unfolding left_behind act reset_record
reset_behind [] d m = refl
reset_behind (o ∷ os) d m = reset_behind os (act d m o).decoder (act d m o).memory ∙ ap new_record (act_setup d m o)

no_refusal : (n k : ℕ) (values : List ℕ) → count n ≡ refusal k values → ⊥
no_refusal n k values e = let z : ◌≡◌ {A = ℕ} 0 1 = cc in omega arith

pub keeps_way : KeepsWay our_slicer our_way
unfolding act reset_record
keeps_way = record {
  made = λ C. refl;
  kept = λ d m o. ap (λ (C : Setup). C.way) (act_setup d m o);
  kept_by_slices = λ d m bytes. ap (λ (C : Setup). C.way) (slice_setup d m bytes);
  fresh_again = λ C m os. reset_behind os (new_record C) m;
  reset_never = λ d m k values e. no_refusal _ k values e;
}

-- ---- an unknown way

pub unknown_bad : (d : Decoder) → (KnownWay d.way → ⊥) → bad_decoder d ≡ true
unfolding bad_decoder
unknown_bad d no_way = rw (unknown_is d.way no_way)

pub refuses_unknown : RefusesUnknown our_slicer our_way
unfolding act push_record finalize_record slice_record payload_record has_payload
refuses_unknown = record {
  by_push_claim = λ d m b u. rw (unknown_bad d u);
  by_finalize_claim = λ d m u. rw (unknown_bad d u);
  by_slices_claim = λ d m bytes u. rw (unknown_bad d u);
  no_payload = λ d m u. rw (unknown_bad d u);
}

pub unknown_asked : (d : Decoder) (m : List ℕ) → (KnownWay d.way → ⊥) → ask_record d m ≡ refusal bad_span_no []
unfolding ask_record has_payload
unknown_asked d m u = rw (unknown_bad d u)
