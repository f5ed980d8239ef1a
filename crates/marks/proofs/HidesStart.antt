-- In the first way a stray 1b and a start sequence are nine bytes of noise.
use mathlib.Core.Path.{◌≡◌, refl, ap, sym, ◌∙◌, subst}
use mathlib.Core.List.{List, [], ◌∷◌, ◌++◌, map}
use Prim.Native.Nat.{ℕ, suc, ◌+◌}
use native.Mathlib.Omega.{arith}
use lib.ListN.{take, replicate}
use Rattle.crc_x25.specs.Crc.{reflect, polynomial, bit_step, bit_steps, byte_step, register, final_xor, crc_of}
use Rattle.frame.specs.Frame.{start_seq, escaped, closed, frame_of, same}
use Rattle.decoder.specs.Push.{first_way, in_way, sized, State, search, done, stopped, searching, store, finish, judge, step}
use Rattle.decoder.specs.Record.{nothing, payload, refusal, After, after, state_as, state_of, wrote, bad_decoder, wrong_buffer, pushed, push_record}
use Rattle.decoder.specs.Run as R
use Rattle.decoder.specs.Run.{Op, push, act}
use Rattle.decoder.specs.declared.DecodeState.{DecodeState}
use Rattle.decoder.specs.declared.DecodeState.TheVariants.{LookingForMessageStart, ParsingNormal, ParsingEscChars, ParsingEscPayload, Done}
use Rattle.decoder.specs.declared.Decoder.{Decoder}
use Rattle.decoder.specs.declared.Setup.{Setup}
use Rattle.decoder.proofs.States.{run_state, state_behind, act_state, answer_state}
use Rattle.decoder.proofs.Faithful.{Fit}
use Rattle.decoder.proofs.Runs.{leads, run_is}
use Rattle.marks.specs.Decoders.{ours, answers, left_behind}
use Rattle.marks.specs.Mark2.{Ready, nothing_matched, some_matched, behind_payload, OurSearch}
use Rattle.marks.specs.Hides.{Hides}
use Rattle.marks.specs.Bench.{SheetSaid, sheet_said, said_from}
use Rattle.marks.proofs.Recovery.{answers_run}

abbrev os : List Op
os = map push (0x1b ∷ start_seq)

-- ---- over the state

-- a search with nothing matched and this noise
record Sought (noise : ℕ) (s : State) : Type 0 where
  raw : ℕ
  is : s ≡ search 0 noise raw

hears_none : (c noise raw : ℕ) → run_state (sized c) (search 0 noise raw) os ≡ replicate 9 nothing
unfolding run_state act_state answer_state step searching
hears_none c noise raw = refl

-- the noise behind five bytes that the fifth makes noise, and the four 01, each noise by itself
nine_more : (noise : ℕ) → stopped (stopped (stopped (stopped (stopped (noise + 5) + 1) + 1) + 1) + 1) ≡ stopped (noise + 9)
nine_more noise = omega arith

seeks_on : (c noise raw : ℕ) → Sought (stopped (noise + 9)) (state_behind (sized c) (search 0 noise raw) os)
unfolding state_behind act_state step searching
seeks_on c noise raw =
    let up : ℕ → ℕ = λ r. stopped (suc r) in
    let r : ℕ = up (up (up (up (up (up (up (up (up raw)))))))) in
    record { raw = r; is = ap (λ (n : ℕ). search 0 n r) (nine_more noise) }

-- behind a payload it is as if from fresh
hears_done : (C : Setup) (P : List ℕ) → run_state C (done P) os ≡ run_state C (search 0 0 0) os
unfolding run_state act_state answer_state step
hears_done C P = refl

seeks_done : (C : Setup) (P : List ℕ) → state_behind C (done P) os ≡ state_behind C (search 0 0 0) os
unfolding state_behind act_state step
seeks_done C P = refl

record Hidden (C : Setup) (noise : ℕ) (s : State) : Type 0 where
  hears : run_state C s os ≡ replicate 9 nothing
  seeks : Sought (stopped (noise + 9)) (state_behind C s os)

hides_as : (c : ℕ) (d : Decoder) (m : List ℕ) (noise : ℕ) → d.way ≡ first_way → Ready d.way d.state noise → Hidden (sized c) noise (state_of d m)
hides_as c d m noise w (nothing_matched e) = rw e (record { hears = hears_none c noise d.raw_msg_len; seeks = seeks_on c noise d.raw_msg_len })
hides_as c d m noise w (some_matched n before s e small z) = absurd (let x = sym w ∙ s in omega arith)
hides_as c d m noise w (behind_payload e z) =
    rw (e, z) (record { hears = hears_done (sized c) (take d.fill m) ∙ hears_none c 0 0; seeks = rw (seeks_done (sized c) (take d.fill m)) (seeks_on c 0 0) })

-- ---- over the record

pub looking_back : (s : DecodeState) (d : Decoder) (m : List ℕ) (n noise raw : ℕ) → state_as s d m ≡ search n noise raw → s ≡ LookingForMessageStart n noise
looking_back (LookingForMessageStart k x) d m n noise raw e = cc
looking_back ParsingNormal d m n noise raw e = cc
looking_back (ParsingEscChars k) d m n noise raw e = cc
looking_back (ParsingEscPayload k) d m n noise raw e = cc
looking_back Done d m n noise raw e = cc

pub done_back : (s : DecodeState) (d : Decoder) (m P : List ℕ) → state_as s d m ≡ done P → s ≡ Done
done_back (LookingForMessageStart k x) d m P e = cc
done_back ParsingNormal d m P e = cc
done_back (ParsingEscChars k) d m P e = cc
done_back (ParsingEscPayload k) d m P e = cc
done_back Done d m P e = refl

pub kept_is : (l : List Op) (a : After) → left_behind ours a.decoder a.memory l ≡ record { decoder = (R.behind a l).decoder; memory = (R.behind a l).memory }
unfolding left_behind R.behind
kept_is [] a = refl
kept_is (o ∷ l) a = kept_is l (act a.decoder a.memory o)

pub hides : Hides first_way ours OurSearch
hides C d m noise w h =
    let f : Fit d m = record { state = h.good; buffer = h.lent } in
    let x : After = after nothing d m in
    let way : d.way ≡ first_way = ap (λ (c : Setup). c.way) h.setup' ∙ w in
    let is : C ≡ sized C.capacity = λ i. in_way (w i) C.capacity in
    let t : Hidden C noise (state_of d m) = subst (λ (c : Setup). Hidden c noise (state_of d m)) (sym is) (hides_as C.capacity d m noise way h.searches) in
    let there = leads os x f in
    let b : state_of (R.behind x os).decoder (R.behind x os).memory ≡ search 0 (stopped (noise + 9)) t.seeks.raw =
    there.view' ∙ ap (λ (c : Setup). state_behind c (state_of d m) os) h.setup' ∙ t.seeks.is in (
      answers_run os d m ∙ run_is os d m f ∙ ap (λ (c : Setup). run_state c (state_of d m) os) h.setup' ∙ t.hears,
      rw (kept_is os x) (record {
        searches = nothing_matched (looking_back (R.behind x os).decoder.state (R.behind x os).decoder (R.behind x os).memory 0 (stopped (noise + 9)) t.seeks.raw b);
        good = there.fit.state;
        lent = there.fit.buffer;
        setup' = there.setup' ∙ h.setup';
      }),
    )

-- ---- what an innocent byte can do

-- The frame of a3c300 1b1b1b1b1b 01010101 12345678: five 1b of a payload are nine on the wire, the last four of them and the 01 a start sequence. Alone it is heard; behind a stray 1b that inner start is found, and the frame's end is
-- the end of a sound frame for 12345678: a3c300 are such that behind them and five 1b the CRC register is ffff again
abbrev inner : List ℕ
inner = 0xa3 ∷ 0xc3 ∷ 0x00 ∷ 0x1b ∷ 0x1b ∷ 0x1b ∷ 0x1b ∷ 0x1b ∷ 0x01 ∷ 0x01 ∷ 0x01 ∷ 0x01 ∷ 0x12 ∷ 0x34 ∷ 0x56 ∷ 0x78 ∷ []

abbrev heard_behind : List ℕ → List SheetSaid
heard_behind noise = said_from 1 (answers ours (ours.new (sized 24)) (replicate 24 0x00) (map push (noise ++ frame_of inner)))

pub alone_it_is_heard : heard_behind [] ≡ sheet_said 36 (payload inner) ∷ []
unfolding said_from answers reflect polynomial bit_step bit_steps byte_step register final_xor crc_of escaped closed frame_of searching store same finish judge step wrote bad_decoder wrong_buffer pushed push_record act
alone_it_is_heard = refl

pub another_payload : heard_behind (0x1b ∷ []) ≡ sheet_said 25 (refusal 6 (17 ∷ [])) ∷ sheet_said 37 (payload (0x12 ∷ 0x34 ∷ 0x56 ∷ 0x78 ∷ [])) ∷ []
unfolding said_from answers reflect polynomial bit_step bit_steps byte_step register final_xor crc_of escaped closed frame_of searching store same finish judge step wrote bad_decoder wrong_buffer pushed push_record act
another_payload = refl
