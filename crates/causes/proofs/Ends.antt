-- A frame whose end sequence says something wrong is lost for what is wrong of it.
use mathlib.Core.Path.{◌≡◌, refl, ap, sym, ◌∙◌}
use mathlib.Core.Bool.{not}
use mathlib.Core.List.{List, [], ◌∷◌, ◌++◌, append_assoc}
use Prim.Native.Nat.{ℕ, suc, ◌+◌, ◌-◌, ◌*◌, ◌%◌, ◌/◌, ◌≤◌}
use native.Mathlib.Omega.{arith}
use native.Mathlib.Nat.{mod-add-div}
use lib.ListN.{length, take, drop, length-append}
use lib.Seq.{take_at}
use lib.Dec.{eqb}
use borrow.Author.Tests.{ne_eqb}
use Rattle.crc_x25.specs.Crc.{start, register, crc_of}
use Rattle.frame.specs.Frame.{start_seq, esc_seq, escaped, closed, framed, same}
use Rattle.decoder.specs.Push.{Mem, escape, done, pays_out, bad_message, says, put, computed, misaligned, sound?, finish, judge, fresh, stopped}
use Rattle.decoder.specs.Record.{flag}
use Rattle.decoder.specs.Run.{KnownWay}
use Rattle.decoder.specs.Saw.{Passed}
use Rattle.decoder.specs.declared.Setup.{Setup}
use Rattle.decoder.proofs.Saw.{passed, passes}
use Rattle.since.specs.Since.{frame_head}
use Rattle.since.specs.Exactly.{OpensExactly, tidy_exactly, early_end_exactly, InEscapeExactly, EndOf, SoundWithin}
use Rattle.since.proofs.KeptExactly.{reads_fresh_exactly, computed_all, before_crc}
use Rattle.losses.specs.Loss.{wrong_pads, cause_of}
use Rattle.losses.specs.declared.Cause.TheVariants.{Invalid}
use Rattle.losses.proofs.Starts.{never_true}
use Rattle.causes.specs.Causes.{Reason, is_noise, is_unfinished, is_hidden, is_cut, is_escape, is_room_claim, is_crc, is_misaligned, is_pads, TooManyPads, over_three, over_data, TrueOf, Names, names_crc, names_misaligned, names_pads}
use Rattle.causes.proofs.Unique.{same_back}
use Rattle.causes.proofs.Told.{wrong_pads_lem}
use Rattle.causes.proofs.Searches.{reads_silent}
use Rattle.causes.proofs.Next.{next_in_state, next_step_lem, next_silent, done_next}
use Rattle.causes.proofs.Forward.{TellsOf, by_event, tells_noise, tells_hidden, tells_cut, tells_unfinished, tells_escape, tells_room, Fourth, fourth_byte}

opens_three : {D : List ℕ} {p lo hi : ℕ} → OpensExactly D (0x1a ∷ p ∷ lo ∷ hi ∷ []) → OpensExactly D (0x1a ∷ p ∷ lo ∷ [])
opens_three (tidy_exactly e) = tidy_exactly e
opens_three {p = p} {lo = lo} (early_end_exactly k al e) = early_end_exactly (p ∷ lo ∷ []) al refl

-- what is computed where the last of the four is judged
sum_is : (C : Setup) (D : List ℕ) (p lo hi : ℕ) (f : Fourth C D 0x1a p lo) → length D + 4 ≤ C.capacity → OpensExactly D (0x1a ∷ p ∷ lo ∷ hi ∷ [])
    → let h : List ℕ = frame_head D ++ esc_seq ++ 0x1a ∷ p ∷ lo ∷ [] in
    computed (put f.m (hi ∷ [])) ≡ crc_of (take (length (h ++ hi ∷ []) - 2) (h ++ hi ∷ []))
sum_is C D p lo hi f fits o =
    let m : Mem = f.m in
    let h : List ℕ = frame_head D ++ esc_seq ++ 0x1a ∷ p ∷ lo ∷ [] in
    let k : InEscapeExactly C h 3 m = reads_silent f.quietly [] (reads_fresh_exactly C) in
    let one : k.D ≡ D = (same_back k.D D k.l (0x1a ∷ p ∷ lo ∷ []) (sym k.has ∙ f.has) k.count).0 in
    let n : length (m.stored ++ hi ∷ []) ≡ length D + 4 = ap (λ (l : List ℕ). length (l ++ hi ∷ [])) f.has ∙ simp length-append (omega arith) in
    let here : h ++ hi ∷ [] ≡ frame_head D ++ esc_seq ++ 0x1a ∷ p ∷ lo ∷ hi ∷ [] = append_assoc (frame_head D ++ esc_seq) (0x1a ∷ p ∷ lo ∷ []) (hi ∷ []) in
    let has : m.stored ++ hi ∷ [] ≡ D ++ 0x1a ∷ p ∷ lo ∷ hi ∷ [] = rw f.has (append_assoc D (0x1a ∷ p ∷ lo ∷ []) (hi ∷ [])) in
    let long : stopped (suc m.raw) ≡ stopped (length (h ++ hi ∷ [])) = let i = k.long in let j : length (h ++ hi ∷ []) ≡ suc (length h) = simp length-append (omega arith) in omega arith in
    let index : m.idx ≤ length D = rw one at k.index in
    let sum : register m.reg (drop m.idx D) ≡ register start (frame_head D ++ esc_seq) = rw one at k.sum in
    computed_all C h D (put m (hi ∷ [])) 0x1a p lo hi here has o (omega arith) long index sum refl
    ∙ ap crc_of (sym (before_crc C h D (put m (hi ∷ [])) 0x1a p lo hi here has o (omega arith) long index sum refl))

module _ (C : Setup) (at : ℕ) (known : KnownWay C.way) (w rest D : List ℕ) (p read : ℕ) (e : EndOf C.capacity w D p read) where
  abbrev lo : ℕ
  lo = e.lo

  abbrev hi : ℕ
  hi = e.hi

  f : Fourth C D 0x1a p lo
  f = fourth_byte C D 0x1a p lo known (opens_three e.opens) e.fits

  abbrev M : Mem
  M = put f.m (hi ∷ [])

  abbrev h : List ℕ
  h = frame_head D ++ esc_seq ++ 0x1a ∷ p ∷ lo ∷ []

  on : h ++ hi ∷ [] ≡ w
  on = append_assoc (frame_head D ++ esc_seq) (0x1a ∷ p ∷ lo ∷ []) (hi ∷ []) ∙ sym e.is

  stored_long : length M.stored ≡ length D + 4
  stored_long = ap (λ (l : List ℕ). length (l ++ hi ∷ [])) f.has ∙ simp length-append (omega arith)

  sum : computed M ≡ crc_of (take (length w - 2) w)
  sum = sum_is C D p lo hi f e.fits e.opens ∙ ap (λ (b : List ℕ). crc_of (take (length b - 2) b)) on

  judged_bad : (Passed M p (lo + 256 * hi) → ⊥) → judge M (0x1a ∷ p ∷ lo ∷ hi ∷ []) ≡ says fresh (bad_message (lo + 256 * hi) (computed M) (misaligned M) p)
  unfolding judge finish same
  judged_bad bad = rw (never_true (sound? M p (lo + 256 * hi)) (λ t. bad (passed M p (lo + 256 * hi) t)))

  tells_wrong : (r : Reason) → (Passed M p (lo + 256 * hi) → ⊥)
      → Names (Invalid (not (eqb (lo + 256 * hi) (computed M))) (eqb (flag (misaligned M)) 1) (wrong_pads (length w) p)) r → TellsOf C at w rest r
  unfolding cause_of
  tells_wrong r bad named =
      by_event C at h (escape 3 f.m) f.quietly hi rest w rest fresh (bad_message (lo + 256 * hi) (computed M) (misaligned M) p)
      8 ((lo + 256 * hi) ∷ computed M ∷ flag (misaligned M) ∷ p ∷ []) r (f.judged' hi ∙ judged_bad bad) refl
      (ap (λ (x : List ℕ). x ++ rest) (sym on) ∙ append_assoc h (hi ∷ []) rest) on named

  pub end_crc : (read ≡ crc_of (take (length w - 2) w) → ⊥) → TellsOf C at w rest is_crc
  end_crc wrong =
      let ne : lo + 256 * hi ≡ computed M → ⊥ = λ q. wrong (e.reads ∙ q ∙ sum) in
      tells_wrong is_crc (λ ok. ne ok.0) (rw (ne_eqb (lo + 256 * hi) (computed M) ne) names_crc)

  pub end_misaligned : (length D % 4 ≡ 0 → ⊥) → TellsOf C at w rest is_misaligned
  end_misaligned wrong =
      let ne : length M.stored % 4 ≡ 0 → ⊥ = λ q. wrong (let n = stored_long in omega arith) in
      tells_wrong is_misaligned (λ ok. ne ok.1) (rw (ne_eqb (length M.stored % 4) 0 ne) names_misaligned)

  pub end_pads : TooManyPads D p → TellsOf C at w rest is_pads
  end_pads wrong = tells_wrong is_pads (by_pads wrong) (rw (wrong_pads_lem e wrong) names_pads)
    where
      by_pads : TooManyPads D p → Passed M p (lo + 256 * hi) → ⊥
      by_pads (over_three lt) ok = let a = ok.2 in omega arith
      by_pads (over_data lt) ok = let a = ok.3 in let n = stored_long in omega arith

-- ---- every cause

pub tells_true : (C : Setup) (at : ℕ) → KnownWay C.way → (w rest : List ℕ) (r : Reason) → TrueOf C.way C.capacity w rest r → TellsOf C at w rest r
tells_true C at known w rest is_noise t = tells_noise C at known w rest t
tells_true C at known w rest is_unfinished t = tells_unfinished C at known w rest t
tells_true C at known w rest is_hidden t = tells_hidden C at known w rest t
tells_true C at known w rest is_cut t = tells_cut C at known w rest t
tells_true C at known w rest is_escape t = tells_escape C at known w rest t
tells_true C at known w rest is_room_claim t = tells_room C at known w rest t
tells_true C at known w rest is_crc t = end_crc C at known w rest t.D t.p t.read t.is t.wrong
tells_true C at known w rest is_misaligned t = end_misaligned C at known w rest t.D t.p t.read t.is t.wrong
tells_true C at known w rest is_pads t = end_pads C at known w rest t.D t.p t.read t.is t.wrong

-- ---- a sound frame that fits is passed

sound_end : {C : ℕ} {w P : List ℕ} (s : SoundWithin C w P) → EndOf C w s.sound.D s.sound.p (crc_of (take (length w - 2) w))
unfolding framed closed frame_head
sound_end {C} {w} {P} s =
    let D : List ℕ = s.sound.D in
    let p : ℕ = s.sound.p in
    let f : List ℕ = start_seq ++ escaped 0 D ++ esc_seq ++ (0x1a ∷ p ∷ []) in
    let x : ℕ = crc_of f in
    let is : w ≡ f ++ x % 256 ∷ x / 256 ∷ [] = s.sound.whole in
    let front : take (length w - 2) w ≡ f = rw is (take_at f (x % 256 ∷ x / 256 ∷ []) (length (f ++ x % 256 ∷ x / 256 ∷ []) - 2) (simp length-append (omega arith))) in
    record {
      lo = x % 256;
      hi = x / 256;
      is = is ∙ append_assoc (frame_head D ++ esc_seq) (0x1a ∷ p ∷ []) (x % 256 ∷ x / 256 ∷ []);
      reads = ap crc_of front ∙ sym (mod-add-div x 256);
      opens = early_end_exactly (p ∷ x % 256 ∷ x / 256 ∷ []) s.sound.aligned refl;
      fits = s.fits;
    }

judged_good : (m : Mem) (p lo hi : ℕ) → Passed m p (lo + 256 * hi) → let P : List ℕ = take (length m.stored - 4 - p) m.stored in judge m (0x1a ∷ p ∷ lo ∷ hi ∷ []) ≡ says (done P) (pays_out P)
unfolding judge finish same
judged_good m p lo hi ok = rw (passes m p (lo + 256 * hi) ok)

pub next_behind_frame : (C : Setup) (at : ℕ) → KnownWay C.way → (w P more : List ℕ) → SoundWithin C.capacity w P → next_in_state C fresh at [] (w ++ more) ≡ next_in_state C fresh (at + length w) [] more
next_behind_frame C at known w P more s =
    let D : List ℕ = s.sound.D in
    let p : ℕ = s.sound.p in
    let read : ℕ = crc_of (take (length w - 2) w) in
    let e = sound_end s in
    let g : Fourth C D 0x1a p e.lo = f C at known w more D p read e in
    let m : Mem = M C at known w more D p read e in
    let b : List ℕ = h C at known w more D p read e in
    let n = stored_long C at known w more D p read e in
    let al = s.sound.aligned in
    let wi = s.sound.within in
    let ok : Passed m p (e.lo + 256 * e.hi) = (sym e.reads ∙ sym (sum C at known w more D p read e), omega arith, s.sound.small, omega arith) in
    let P : List ℕ = take (length m.stored - 4 - p) m.stored in
    let whole : b ++ e.hi ∷ [] ≡ w = on C at known w more D p read e in
    ap (next_in_state C fresh at []) (ap (λ (x : List ℕ). x ++ more) (sym whole) ∙ append_assoc b (e.hi ∷ []) more)
    ∙ next_silent g.quietly at [] (e.hi ∷ more)
    ∙ next_step_lem C (escape 3 g.m) at b e.hi more (says (done P) (pays_out P)) (g.judged' e.hi ∙ judged_good m p e.lo e.hi ok)
    ∙ done_next C P (at + length (b ++ e.hi ∷ [])) more
    ∙ ap (λ (x : List ℕ). next_in_state C fresh (at + length x) [] more) whole
