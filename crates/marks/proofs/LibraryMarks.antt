-- The marks hold of every library through which a caller hears what our record says.
use mathlib.Core.Path.{◌≡◌, refl, ap, sym, ◌∙◌}
use mathlib.Core.List.{List, [], ◌∷◌, ◌++◌, map}
use Prim.Native.Nat.{ℕ, zero, suc, ◌+◌, ◌≤◌, ◌<◌}
use native.Mathlib.Omega.{arith}
use lib.ListN.{length, get_or, replicate}
use lib.Dec.{eqb}
use Rattle.crc_x25.specs.Crc.{crc_of}
use Rattle.crc_x25.proofs.Laws.{crc_fits}
use Rattle.frame.specs.Frame.{start_seq, four_more, run_with, escaped, missing, closed, frame_of}
use Rattle.frame.proofs.Frames.{frame_parts}
use Rattle.decoder.specs.Record.{DecoderAnswer, new_record}
use Rattle.decoder.specs.Run.{Op, push, finalize, reset, brought}
use Rattle.decoder.specs.declared.Decoder.{Decoder}
use Rattle.decoder.specs.declared.Setup.{Setup}
use Rattle.decoder.proofs.Split.{cases}
use Rattle.since.specs.Since.{AllBytes}
use Rattle.encoder.specs.Encode.{AfterEncode}
use Rattle.sartrogheo.specs.Calls.{answer_no}
use Rattle.marks.specs.Decoders.{Machine, ours, answers, behind_of, LeftBehind, left_behind}
use Rattle.marks.specs.Mark2.{PushesBytes, SoundBehind}
use Rattle.marks.specs.Mark3.{our_encode, Job, AllSuit, part, wrote_for, frames_for, rest_says, HeardBehindZeros}
use Rattle.marks.specs.Chunks.{our_slicer, Use}
use Rattle.marks.specs.Larger.{OwnBuffer, new_does, LosesNothingCut}
use Rattle.marks.proofs.HeardWhole.{good_by, rows_heard}
use Rattle.marks.proofs.HeardIndex.{index_by, lookup_by, finds_by}
use Rattle.marks.proofs.HeardWalk.{walk_by_lem, looks_by, ends_by, sees_by_lem}
use Rattle.marks.specs.Library.{Library, LentByCaller, KeptByCaller, decoder_by, slicer_by, UsesBytes, CallerBegins, CallersBegin, encode_by, HearsOurs, JobsOfBytes, LosesNothingBy, MarksBy}
use Rattle.marks.proofs.Narrow.{bytes_join, bytes_run, bytes_at, bytes_all, start_bytes}
use Rattle.marks.proofs.Packed.{singly, singly_bytes, singly_leaves, singly_answers}
use Rattle.marks.proofs.Chunks.{answers_join, left_join}
use Rattle.marks.proofs.Soundness.{soundness}
use Rattle.marks.proofs.Recovery.{wrote_is, mark3}
use Rattle.marks.proofs.Larger.{larger_by_slices, larger_asked, larger_cut_anyhow}
use Rattle.marks.proofs.Library.{end_bytes_lem}

-- ---- operations that push bytes

pushes_join : (a b : List Op) → PushesBytes a → PushesBytes b → PushesBytes (a ++ b)
pushes_join [] b h k = k
pushes_join (push x ∷ a) b h k = (h.0, pushes_join a b h.1 k)
pushes_join (finalize ∷ a) b h k = pushes_join a b h k
pushes_join (reset ∷ a) b h k = pushes_join a b h k

pushes_front : (a b : List Op) → PushesBytes (a ++ b) → PushesBytes a
pushes_front [] b h = tt
pushes_front (push x ∷ a) b h = (h.0, pushes_front a b h.1)
pushes_front (finalize ∷ a) b h = pushes_front a b h
pushes_front (reset ∷ a) b h = pushes_front a b h

pushes_zeros : (n : ℕ) → PushesBytes (replicate n (push 0x00))
pushes_zeros zero = tt
pushes_zeros (suc n) = (omega arith, pushes_zeros n)

pushes_bytes : (l : List ℕ) → AllBytes l → PushesBytes (map push l)
pushes_bytes [] h = tt
pushes_bytes (x ∷ l) h = (h.0, pushes_bytes l h.1)

-- ---- one more operation, of any decoder

module _ {S : Type 0} (M : Machine S) (o : Op) where
  behind_is : (os : List Op) (d : S) (m : List ℕ) → behind_of M d m os o ≡ M.act (left_behind M d m os).decoder (left_behind M d m os).memory o
  unfolding left_behind behind_of
  behind_is [] d m = refl
  behind_is (p ∷ os) d m = behind_is os (M.act d m p).decoder (M.act d m p).memory

  left_more : (os : List Op) (d : S) (m : List ℕ)
      → left_behind M d m (os ++ o ∷ []) ≡ record { decoder = (behind_of M d m os o).decoder; memory = (behind_of M d m os o).memory }
  unfolding left_behind
  left_more os d m = rw (behind_is os d m) (left_join M os (o ∷ []) d m)

  answers_more : (os : List Op) (d : S) (m : List ℕ) → answers M d m (os ++ o ∷ []) ≡ answers M d m os ++ (behind_of M d m os o).answer ∷ []
  unfolding answers
  answers_more os d m = rw (behind_is os d m) (answers_join M os (o ∷ []) d m)

last_same : (l k : List DecoderAnswer) (a b : DecoderAnswer) → l ≡ k → l ++ a ∷ [] ≡ k ++ b ∷ [] → a ≡ b
last_same l k a b same e = sym (last_of l a) ∙ ap (λ (x : List DecoderAnswer). get_or x (length l) a) (e ∙ ap (λ (x : List DecoderAnswer). x ++ b ∷ []) (sym same)) ∙ last_from l a b
  where
    last_of : (l : List DecoderAnswer) (a : DecoderAnswer) → get_or (l ++ a ∷ []) (length l) a ≡ a
    last_of [] a = refl
    last_of (x ∷ l) a = last_of l a

    last_from : (l : List DecoderAnswer) (a b : DecoderAnswer) → get_or (l ++ b ∷ []) (length l) a ≡ b
    last_from [] a b = refl
    last_from (x ∷ l) a b = last_from l a b

module _ (L : Library) (h : HearsOurs L) (C : Setup) (c : LentByCaller) (m : List ℕ) (g : CallerBegins C c m) where
  abbrev M : Machine KeptByCaller
  M = decoder_by L c

  -- of operations alone
  hears_answers : (os : List Op) → PushesBytes os → answers M (M.new C) m os ≡ answers ours (new_record C) m os
  hears_answers os p = singly_answers (slicer_by L c) our_slicer os (M.new C) (new_record C) m (h.decoder C c m (singly os) g (singly_bytes os p)).0

  hears_payload : (os : List Op) → PushesBytes os
      → let x : LeftBehind KeptByCaller = left_behind M (M.new C) m os in
      let y : LeftBehind Decoder = left_behind ours (new_record C) m os in
      M.payload_of x.decoder x.memory ≡ ours.payload_of y.decoder y.memory
  hears_payload os p =
      rw (← singly_leaves (slicer_by L c) os (M.new C) m, ← singly_leaves our_slicer os (new_record C) m) (h.decoder C c m (singly os) g (singly_bytes os p)).2.bytes'

  new_empty : M.payload_of (M.new C) m ≡ []
  unfolding left_behind
  new_empty = hears_payload [] tt ∙ (soundness C m).0

  answer_same : (os : List Op) (o : Op) → PushesBytes (os ++ o ∷ []) → (behind_of M (M.new C) m os o).answer ≡ (behind_of ours (new_record C) m os o).answer
  answer_same os o p =
      last_same _ _ _ _ (hears_answers os (pushes_front os (o ∷ []) p))
      (sym (answers_more M o os (M.new C) m) ∙ hears_answers (os ++ o ∷ []) p ∙ answers_more ours o os (new_record C) m)

  payload_same : (os : List Op) (o : Op) → PushesBytes (os ++ o ∷ [])
      → M.payload_of (behind_of M (M.new C) m os o).decoder (behind_of M (M.new C) m os o).memory ≡ ours.payload_of (behind_of ours (new_record C) m os o).decoder (behind_of ours (new_record C) m os o).memory
  payload_same os o p =
      ap (λ (x : LeftBehind KeptByCaller). M.payload_of x.decoder x.memory) (sym (left_more M o os (M.new C) m))
      ∙ hears_payload (os ++ o ∷ []) p
      ∙ ap (λ (x : LeftBehind Decoder). ours.payload_of x.decoder x.memory) (left_more ours o os (new_record C) m)

  sound_behind : (os : List Op) (o : Op) → PushesBytes (os ++ o ∷ []) → SoundBehind M C m os o
  sound_behind os o p =
      let a = answer_same os o p in
      let s = (soundness C m).1 os o in (
        payload_same os o p ∙ s.0 ∙ ap brought (sym a),
        λ P bytes e. rw (hears_answers os (pushes_front os (o ∷ []) p)) (s.1 P bytes (sym a ∙ e)),
      )

-- ---- frames are bytes

escaped_bytes : (n : ℕ) (l : List ℕ) → AllBytes l → AllBytes (escaped n l)
unfolding escaped
escaped_bytes n [] h = tt
escaped_bytes n (b ∷ l) h = (h.0, bytes_join (four_more n b) _ (more n b) (escaped_bytes (run_with n b) l h.1))
  where
    more : (n b : ℕ) → AllBytes (four_more n b)
    more n b = cases (eqb b 0x1b) (λ t. cases (eqb n 3) (λ u. rw (t, u) (bytes_run 4 0x1b (omega arith))) (λ u. rw (t, u) tt)) (λ t. rw t tt)

closed_bytes : (l : List ℕ) → AllBytes l → AllBytes (closed l)
unfolding closed
closed_bytes l h =
    let c : crc_of l < 65536 = crc_fits l (bytes_at l h) in
    bytes_join l _ h (omega arith, (omega (arith, c), tt))

frame_bytes : (p : List ℕ) → AllBytes p → AllBytes (frame_of p)
frame_bytes p h =
    let head : AllBytes (start_seq ++ escaped 0 p) = bytes_join start_seq (escaped 0 p) start_bytes (escaped_bytes 0 p h) in
    rw (frame_parts p) (closed_bytes _ (bytes_join (start_seq ++ escaped 0 p) _ head (end_bytes_lem (missing (length p)) (omega arith))))

frames_bytes : (C : Setup) (js : List Job) → C.capacity ≤ 1048576 → JobsOfBytes js → AllSuit C js → AllBytes (frames_for our_encode js)
unfolding frames_for
frames_bytes C [] small b s = tt
frames_bytes C (j ∷ js) small b s =
    bytes_join (wrote_for our_encode j) _ (rw (wrote_is C j small s.0) (frame_bytes j.payload (bytes_all j.payload b.0))) (frames_bytes C js small b.1 s.1)

-- ---- the library's encode writes them

module _ (L : Library) (h : HearsOurs L) where
  wrote_alike : (j : Job) → wrote_for (encode_by L) j ≡ wrote_for our_encode j
  wrote_alike j = ap (λ (l : AfterEncode). part l.answer l.output) (h.encode j.payload j.output).0

  frames_alike : (js : List Job) → frames_for (encode_by L) js ≡ frames_for our_encode js
  unfolding frames_for
  frames_alike [] = refl
  frames_alike (j ∷ js) = rw (wrote_alike j, frames_alike js)

  rest_alike : (js : List Job) → rest_says (encode_by L) js ≡ rest_says our_encode js
  unfolding rest_says
  rest_alike [] = refl
  rest_alike (j ∷ js) = rw (wrote_alike j, rest_alike js)

  mark3_by : (C : Setup) (c : LentByCaller) (m : List ℕ) → CallerBegins C c m → length m ≡ C.capacity
      → (before : List Op) (j : Job) (js : List Job) → PushesBytes before → JobsOfBytes (j ∷ js) → AllSuit C (j ∷ js) → HeardBehindZeros (decoder_by L c) (encode_by L) C m before j js
  mark3_by C c m g long before j js p b s =
      let os : List Op = before ++ replicate (C.capacity + 5) (push 0x00) in
      let po : PushesBytes os = pushes_join before _ p (pushes_zeros (C.capacity + 5)) in
      let frames : List ℕ = frames_for our_encode (j ∷ js) in
      let pf : PushesBytes (os ++ map push frames) = pushes_join os _ po (pushes_bytes frames (frames_bytes C (j ∷ js) g.capacity b s)) in
      rw (frames_alike (j ∷ js), wrote_alike j, rest_alike js, hears_answers L h C c m g (os ++ map push frames) pf, hears_answers L h C c m g os po)
      (mark3 C m g.way long g.capacity before j js s)

-- ---- a larger buffer

module _ (L : Library) (h : HearsOurs L) (C D : Setup) (c c' : LentByCaller) (m n : List ℕ) (g : CallersBegin C D c c' m n) where
  own_smaller : OwnBuffer C m
  own_smaller = record { long = g.long; within = g.smaller.capacity }

  own_larger : OwnBuffer D n
  own_larger = record { long = g.long'; within = g.larger.capacity }

  larger_by : (us : List Use) → UsesBytes us → LosesNothingBy L C D c c' m n us
  larger_by us b =
      let x = h.decoder C c m us g.smaller b in
      let y = h.decoder D c' n us g.larger b in
      let s = larger_by_slices C D m n own_smaller own_larger g.ways g.sizes us in
      record {
        by_slices_claim = record {
          says = rw (x.0, y.0) s.says;
          takes = rw (x.0, y.0) s.takes;
          hands = λ none. y.2.bytes' ∙ s.hands (rw x.0 at none) ∙ sym x.2.bytes';
        };
        asked = λ none. (
          y.2.number' ∙ ap answer_no (larger_asked C D m n own_smaller own_larger g.ways g.sizes us (rw x.0 at none)) ∙ sym x.2.number',
          y.2.length' ∙ ap length (s.hands (rw x.0 at none)) ∙ sym x.2.length',
        );
      }

  larger_cut_by : (us us' : List Use) → UsesBytes us → UsesBytes us' → new_does (slicer_by L c) C m us ≡ new_does (slicer_by L c') D n us' → LosesNothingCut (slicer_by L c) (slicer_by L c') C D m n us us'
  larger_cut_by us us' b b' done =
      let x = h.decoder C c m us g.smaller b in
      let y = h.decoder D c' n us' g.larger b' in
      let s = larger_cut_anyhow C D m n own_smaller own_larger g.smaller.way g.ways g.sizes us us' (rw (x.0, y.0) at done) in
      record { says = rw (x.0, y.0) s.says; hands = λ none. y.2.bytes' ∙ s.hands (rw x.0 at none) ∙ sym x.2.bytes' }

pub marks_by : (L : Library) → HearsOurs L → MarksBy L
marks_by L h = record { soundness = λ C c m g. (new_empty L h C c m g, sound_behind L h C c m g); mark3 = mark3_by L h; larger = larger_by L h; larger_cut = larger_cut_by L h; whole = good_by L h.whole; rows = rows_heard L h.reader h.whole; index = index_by L h.index; lookup = lookup_by L h.index; finds = finds_by L h.reader h.index; walk = walk_by_lem L h.walk; walk_looks = looks_by L h.walk; walk_ends = ends_by L h.walk; sees = sees_by_lem L h.walk }
