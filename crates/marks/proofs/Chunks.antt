-- Slices, cut anyhow, say what single pushes say.
use mathlib.Core.Path.{◌≡◌, refl, ap, sym, ◌∙◌}
use mathlib.Core.List.{List, [], ◌∷◌, ◌++◌, append_assoc, map, map-append}
use Prim.Native.Nat.{ℕ, zero, suc, ◌-◌, ◌≤◌, ◌<◌}
use native.Mathlib.Omega.{arith}
use native.Mathlib.Nat.{sub-zero}
use lib.ListN.{length, take, drop, length-drop, length-take, take-append-drop}
use lib.Seq.{take-take}
use Rattle.decoder.specs.Record.{DecoderAnswer, nothing, After, after, push_record, new_record}
use Rattle.decoder.specs.Run.{Op, push, act}
use Rattle.decoder.specs.declared.Decoder.{Decoder}
use Rattle.decoder.proofs.Search.{known_is}
use Rattle.decoder.proofs.Faithful.{Fit, push_is_step}
use Rattle.decoder.proofs.Runs.{leads, new_fit}
use Rattle.decoder.proofs.Split.{cases}
use Rattle.decoder_slice.specs.Slice.{Took, says_nothing, pushes_from, slice_record}
use Rattle.decoder_slice.proofs.Taken.{slice_pushes, taken_le, is_nothing}
use Rattle.marks.specs.Decoders.{Machine, LeftBehind, ours, answers, left_behind}
use Rattle.marks.specs.Chunks.{our_slicer, each_byte, by_slices, SlicesSay, Chunks}
use Rattle.marks.proofs.HidesStart.{kept_is}

abbrev heard_of : Decoder → List ℕ → List ℕ → List DecoderAnswer
heard_of d m bytes = answers ours d m (map push bytes)

abbrev kept_of : Decoder → List ℕ → List ℕ → LeftBehind Decoder
kept_of d m bytes = left_behind ours d m (map push bytes)

-- ---- one slice

-- n bytes were taken before: those that it takes are heard one by one, and it leaves what they leave
record SliceGoes (n : ℕ) (d : Decoder) (m bs : List ℕ) (t : Took) : Type 0 where
  fit : Fit t.decoder t.memory
  hears : each_byte (t.taken - n) t.answer ≡ heard_of d m (take (t.taken - n) bs)
  keeps : record { decoder = t.decoder; memory = t.memory } ≡ kept_of d m (take (t.taken - n) bs)
  least : n ≤ t.taken
  some : 1 ≤ length bs → n < t.taken
  quiet : t.taken ≡ n → t.answer ≡ nothing

each_more : (k : ℕ) (a : DecoderAnswer) → (k ≡ 0 → a ≡ nothing) → each_byte (suc k) a ≡ nothing ∷ each_byte k a
each_more zero a h = rw (h refl)
each_more (suc k) a h = refl

goes_from : (bs : List ℕ) (n : ℕ) (d : Decoder) (m : List ℕ) → Fit d m → SliceGoes n d m bs (pushes_from n d m bs)
unfolding pushes_from answers left_behind act
goes_from [] n d m f =
    let z : n - n ≡ 0 = omega arith in
    record { fit = f; hears = rw z; keeps = rw z; least = omega arith; some = λ h. absurd (omega arith); quiet = λ e. refl }
goes_from (b ∷ bs) n d m f =
    let a : After = push_record d m b in
    let t : Took = pushes_from (suc n) a.decoder a.memory bs in
    let f' : Fit a.decoder a.memory = (push_is_step d m b f).fit in
    let i = goes_from bs (suc n) a.decoder a.memory f' in
    let le = i.least in
    let k : t.taken - n ≡ suc (t.taken - suc n) = omega (arith, le) in
    let one : suc n - n ≡ 1 = omega arith in
    cases (says_nothing a.answer)
    (λ e. rw e (record {
      fit = i.fit;
      hears = rw k (each_more (t.taken - suc n) t.answer (λ z. i.quiet (omega (arith, le))) ∙ ap (λ (l : List DecoderAnswer). nothing ∷ l) i.hears
          ∙ ap (λ (x : DecoderAnswer). x ∷ heard_of a.decoder a.memory (take (t.taken - suc n) bs)) (sym (is_nothing a.answer e)));
      keeps = rw k i.keeps;
      least = omega (arith, le);
      some = λ h. omega (arith, le);
      quiet = λ z. absurd (omega (arith, le));
    }))
    (λ e. rw e (record { fit = f'; hears = rw one; keeps = rw one; least = omega arith; some = λ h. omega arith; quiet = λ z. absurd (omega arith) }))

slice_goes : (bs : List ℕ) (d : Decoder) (m : List ℕ) → Fit d m → SliceGoes 0 d m bs (slice_record d m bs)
slice_goes bs d m f = rw (← slice_pushes d m bs f.state f.buffer) (goes_from bs 0 d m f)

-- ---- a slice of n bytes of those that are left

record PartGoes (d : Decoder) (m bytes : List ℕ) (n : ℕ) (t : Took) : Type 0 where
  fit : Fit t.decoder t.memory
  hears : each_byte t.taken t.answer ≡ heard_of d m (take t.taken bytes)
  keeps : record { decoder = t.decoder; memory = t.memory } ≡ kept_of d m (take t.taken bytes)
  shorter : 1 ≤ n → length (drop t.taken bytes) ≤ length bytes - 1

-- a byte of some is taken, so fewer are left
shorter_by : (bytes : List ℕ) (k : ℕ) → (1 ≤ length bytes → 1 ≤ k) → length (drop k bytes) ≤ length bytes - 1
shorter_by [] k h = omega (arith, length-drop {A = ℕ} k [])
shorter_by (b ∷ l) k h = omega (arith, length-drop k (b ∷ l), h (omega arith))

part_goes : (n : ℕ) (d : Decoder) (m bytes : List ℕ) → Fit d m → PartGoes d m bytes n (slice_record d m (take n bytes))
part_goes n d m bytes f =
    let bs : List ℕ = take n bytes in
    let t : Took = slice_record d m bs in
    let g = slice_goes bs d m f in
    let z : t.taken - 0 ≡ t.taken = sub-zero t.taken in
    let w : take t.taken bs ≡ take t.taken bytes = take-take t.taken n bytes (omega (arith, taken_le d m bs, length-take n bytes)) in
    record {
      fit = g.fit;
      hears = rw (z, w) at g.hears;
      keeps = rw (z, w) at g.keeps;
      shorter = λ h. shorter_by bytes t.taken (λ s. g.some (omega (arith, h, s, length-take n bytes)));
    }

-- ---- any number of them

-- operations behind operations, of any decoder
module _ {S : Type 0} (M : Machine S) where
  pub answers_join : (a b : List Op) (d : S) (m : List ℕ) → answers M d m (a ++ b) ≡ answers M d m a ++ answers M (left_behind M d m a).decoder (left_behind M d m a).memory b
  unfolding answers left_behind
  answers_join [] b d m = refl
  answers_join (o ∷ a) b d m = ap (λ (l : List DecoderAnswer). (M.act d m o).answer ∷ l) (answers_join a b (M.act d m o).decoder (M.act d m o).memory)

  pub left_join : (a b : List Op) (d : S) (m : List ℕ) → left_behind M d m (a ++ b) ≡ left_behind M (left_behind M d m a).decoder (left_behind M d m a).memory b
  unfolding left_behind
  left_join [] b d m = refl
  left_join (o ∷ a) b d m = left_join a b (M.act d m o).decoder (M.act d m o).memory

nothing_left : (l : List ℕ) → length l ≤ 0 → l ≡ []
nothing_left [] h = refl
nothing_left (b ∷ l) h = absurd (omega arith)

slices_say : (cuts : List ℕ) (d : Decoder) (m bytes : List ℕ) → Fit d m → SlicesSay our_slicer d m bytes cuts (by_slices our_slicer d m bytes cuts)
unfolding by_slices answers left_behind
slices_say [] d m bytes f = record { took = []; parts = refl; same_answers = refl; same_kept = refl; all_taken = λ none le. nothing_left bytes le }
slices_say (n ∷ cuts) d m bytes f =
    let t : Took = slice_record d m (take n bytes) in
    let p = part_goes n d m bytes f in
    let a : List ℕ = take t.taken bytes in
    let i = slices_say cuts t.decoder t.memory (drop t.taken bytes) p.fit in
    let b : List ℕ = i.took in
    record {
      took = a ++ b;
      parts = append_assoc a b _ ∙ ap (λ (l : List ℕ). a ++ l) i.parts ∙ take-append-drop t.taken bytes;
      same_answers = ap (λ (l : List DecoderAnswer). each_byte t.taken t.answer ++ l) i.same_answers
          ∙ ap (λ (l : List DecoderAnswer). l ++ heard_of t.decoder t.memory b) p.hears
          ∙ ap (λ (k : LeftBehind Decoder). heard_of d m a ++ heard_of k.decoder k.memory b) p.keeps
          ∙ sym (answers_join ours (map push a) (map push b) d m) ∙ ap (answers ours d m) (sym (map-append push a b));
      same_kept = i.same_kept ∙ ap (λ (k : LeftBehind Decoder). kept_of k.decoder k.memory b) p.keeps ∙ sym (left_join ours (map push a) (map push b) d m) ∙ ap (left_behind ours d m) (sym (map-append push a b));
      all_taken = λ none le. i.all_taken none.1 (let s = p.shorter none.0 in omega (arith, s, le));
    }

pub chunks : Chunks our_slicer
chunks C m way l le before bytes cuts =
    let x : After = after nothing (new_record C) m in
    let k = kept_is before x in
    slices_say cuts (left_behind ours (new_record C) m before).decoder (left_behind ours (new_record C) m before).memory bytes (rw k (leads before x (new_fit C m (known_is C.way way) l le)).fit)
