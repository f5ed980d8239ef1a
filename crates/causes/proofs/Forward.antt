-- Where a cause is true of a piece, a new decoder that is pushed the piece and what lies behind it loses that piece for that cause.
use mathlib.Core.Path.{◌≡◌, refl, ap, sym, ◌∙◌, subst}
use mathlib.Core.Bool.{true, false}
use mathlib.Core.List.{List, [], ◌∷◌, ◌++◌, append_assoc, append-nil}
use Prim.Native.Nat.{ℕ, suc, ◌+◌, ◌-◌, ◌≤◌, ◌<◌}
use native.Mathlib.Omega.{arith}
use lib.ListN.{length, take, get_or, replicate, length-append, length-replicate}
use lib.Seq.{take_at}
use borrow.Author.Tests.{ne_eqb, lt-leb}
use Rattle.frame.specs.Frame.{start_seq, esc_seq, restart_seq, missing, escaped, run_behind, same}
use Rattle.frame.proofs.Cases.{by_eq}
use Rattle.frame.proofs.Same.{same_true}
use Rattle.search.specs.Found.{HasStart, NoneWhole}
use Rattle.decoder.specs.Push.{first_way, second_way, Mem, State, search, body, escape, PushEvent, discarded, memory, bad_escape, begun, says, put, early, store, judge, noticed, fresh, stopped, step, finalized}
use Rattle.decoder.specs.Record.{refusal, numbered}
use Rattle.decoder.specs.Run.{KnownWay, is_first, is_second}
use Rattle.decoder.specs.declared.Setup.{Setup}
use Rattle.since.specs.Since.{frame_head, Misses, InSearch}
use Rattle.since.specs.Exactly.{OpensExactly, tidy_exactly, early_end_exactly, none_for_data, none_behind_escape, Meaningless}
use Rattle.since.proofs.Lists.{matched_long, head_other}
use Rattle.since.proofs.KeptExactly.{reads_fresh_exactly}
use Rattle.since.proofs.Rules.{Silent, and_then, step_judge}
use Rattle.since.proofs.Starts.{Fours, sevens, fours_none, fours_any, start_silent}
use Rattle.since.proofs.Arrives.{stored_data, waits_for, ArrivesAt, arrives_at, arrives_open}
use Rattle.losses.specs.Loss.{begins_in_start, has_start, cause_of, piece_of, loss_at, lost_is}
use Rattle.losses.specs.declared.Loss.{Loss}
use Rattle.losses.proofs.Starts.{never_true, has_start_of, none_has_start}
use Rattle.causes.specs.Causes.{Reason, is_noise, is_hidden, is_cut, is_unfinished, is_escape, is_room_claim, SearchOver, over_at_start, over_at_end, LeftOpen, open_in_data, open_behind_escape, TrueOf, Names, names_noise, names_hidden, names_cut, names_unfinished, names_escape, names_room}
use Rattle.causes.proofs.Next.{next_in_state, next_step_lem, next_silent}
use Rattle.causes.proofs.Told.{search_begins, frame_begins}
use Rattle.causes.proofs.Searches.{reads_silent, Seeks, seeks_none, passes_over, overlooks}

pub record TellsOf (C : Setup) (begun : ℕ) (w rest : List ℕ) (r : Reason) : Type 0 where
  pub loss : Loss
  pub told : next_in_state C fresh begun [] (w ++ rest) ≡ lost_is loss
  pub first' : loss.first ≡ suc begun
  pub last' : loss.last ≡ begun + length w
  pub named : Names loss.cause r

-- behind bytes h that say nothing, a byte brings a refusal
module _ (C : Setup) (at : ℕ) (h : List ℕ) (s : State) (quietly : Silent C fresh h s) where
  pub by_event : (b : ℕ) (more w rest : List ℕ) (t : State) (e : PushEvent) (k : ℕ) (v : List ℕ) (r : Reason) → step C s b ≡ says t e → numbered e ≡ refusal k v
      → w ++ rest ≡ h ++ (b ∷ more) → piece_of (refusal k v) (h ++ b ∷ []) ≡ w → Names (cause_of false (begins_in_start h) (has_start w) (length w) (refusal k v)) r → TellsOf C at w rest r
  by_event b more w rest t e k v r is ans bytes piece named = record {
    loss = loss_at false (refusal k v) at h w;
    told = ap (next_in_state C fresh at []) bytes ∙ next_silent quietly at [] (b ∷ more) ∙ next_step_lem C s at h b more (says t e) is ∙ rw (ans, piece);
    first' = refl;
    last' = refl;
    named = named;
  }

  -- the recording ends behind them
  pub by_end : (rest : List ℕ) (k : ℕ) (v : List ℕ) (r : Reason) → rest ≡ [] → numbered (finalized s) ≡ refusal k v
      → Names (cause_of true (begins_in_start h) (has_start h) (length h) (refusal k v)) r → TellsOf C at h rest r
  unfolding next_in_state
  by_end rest k v r none ans named = record {
    loss = loss_at true (refusal k v) at h h;
    told = ap (λ (l : List ℕ). next_in_state C fresh at [] (h ++ l)) none ∙ next_silent quietly at [] [] ∙ rw ans;
    first' = refl;
    last' = refl;
    named = named;
  }

last_of' : (l : List ℕ) → 1 ≤ length l → (i : List ℕ) × (z : ℕ) × (l ≡ i ++ z ∷ [])
last_of' [] le = absurd (omega arith)
last_of' (x ∷ l) le = from x l
  where
    from : (x : ℕ) (l : List ℕ) → (i : List ℕ) × (z : ℕ) × (x ∷ l ≡ i ++ z ∷ [])
    from x [] = ([], x, refl)
    from x (y ∷ l) =
        let (i, z, e) = from y l in
        (x ∷ i, z, ap (λ (k : List ℕ). x ∷ k) e)

-- ---- searches

-- all but the last eight
pub but_eight : (w : List ℕ) → take (length (w ++ take 7 start_seq ++ 0x01 ∷ []) - 8) (w ++ take 7 start_seq ++ 0x01 ∷ []) ≡ w
but_eight w = rw (append_assoc w (take 7 start_seq) (0x01 ∷ [])) (take_at w start_seq (length (w ++ start_seq) - 8) (simp length-append (omega arith)))

-- behind a search a start is found that ends it
module _ (C : Setup) (at : ℕ) (known : KnownWay C.way) (w rest : List ℕ) (n noise raw : ℕ) (quietly : Silent C fresh w (search n noise raw)) (told : ℕ)
    (fours : Fours C (search n noise raw) told) (some : 1 ≤ told) where
  at_start : (r : Reason) → Names (cause_of false false (has_start w) (length w) (refusal 6 (told ∷ []))) r → TellsOf C at w (start_seq ++ rest) r
  at_start r named =
      let v = sevens C (search n noise raw) told fours in
      let all : Silent C fresh (w ++ take 7 start_seq) (search 7 told v.raw) = and_then quietly v.quietly in
      let k : InSearch C (w ++ take 7 start_seq) 7 told v.raw = reads_silent all [] (reads_fresh_exactly C) in
      let not : begins_in_start (w ++ take 7 start_seq) ≡ false = search_begins C (w ++ take 7 start_seq) 7 told v.raw known k in
      let ev : noticed told ≡ discarded told = rw (ne_eqb told 0 (λ e. omega arith)) in
      by_event C at (w ++ take 7 start_seq) (search 7 told v.raw) all 0x01 rest w (start_seq ++ rest) begun (discarded told) 6 (told ∷ []) r
      (v.eighth' ∙ ap (says begun) ev) refl (sym (append_assoc w (take 7 start_seq) (0x01 ∷ rest))) (but_eight w) (rw not named)

-- the recording ends
pub search_left : (C : Setup) (w : List ℕ) (n noise raw : ℕ) → InSearch C w n noise raw → 1 ≤ length w → numbered (finalized (search n noise raw)) ≡ refusal 6 (raw ∷ [])
unfolding finalized
search_left C w n noise raw k pos =
    let l : length w ≡ length k.passed + n = ap length k.here ∙ simp (length-append, matched_long n k.most) in
    by_eq (λ (e : PushEvent). numbered e ≡ refusal 6 (raw ∷ [])) n 0 _ _
    (λ z. by_eq (λ (e : PushEvent). numbered e ≡ refusal 6 (raw ∷ [])) noise 0 _ _ (λ y. absurd (let d = k.dropped in omega arith)) (λ ne. refl))
    (λ ne. refl)

lost_at_end : (C : Setup) (at : ℕ) → KnownWay C.way → (w rest : List ℕ) (q : Seeks C fresh w) (r : Reason) → rest ≡ [] → 1 ≤ length w
    → Names (cause_of true false (has_start w) (length w) (refusal 6 (q.raw ∷ []))) r → TellsOf C at w rest r
lost_at_end C at known w rest q r none pos named =
    let s : State = search q.n q.noise q.raw in
    let k : InSearch C w q.n q.noise q.raw = reads_silent q.quietly [] (reads_fresh_exactly C) in
    by_end C at w s q.quietly rest 6 (q.raw ∷ []) r none (search_left C w q.n q.noise q.raw k pos) (rw (search_begins C w q.n q.noise q.raw known k) named)

-- the first way passes a piece over, with nothing matched behind it
first_other : (C : Setup) → C.way ≡ first_way → C.way ≡ second_way → ⊥
first_other C f s = let z : ◌≡◌ {A = ℕ} 1 2 = sym f ∙ s in omega arith

first_start : (C : Setup) (at : ℕ) → C.way ≡ first_way → (w rest : List ℕ) → Misses w → 1 ≤ length w → (r : Reason)
    → ((told : ℕ) → Names (cause_of false false (has_start w) (length w) (refusal 6 (told ∷ []))) r) → TellsOf C at w (start_seq ++ rest) r
first_start C at f w rest m pos r named =
    let (noise, raw, q) = passes_over C (first_other C f) m 0 0 in
    let k : InSearch C w 0 noise raw = reads_silent q [] (reads_fresh_exactly C) in
    let l : length w ≡ length k.passed = ap length (k.here ∙ append-nil k.passed) in
    at_start C at (is_first f) w rest 0 noise raw q noise (fours_none C noise raw) (let d = k.dropped in omega arith) r (named noise)

-- the second way finds every start
second_start : (C : Setup) (at : ℕ) → C.way ≡ second_way → (w rest : List ℕ) → NoneWhole w → 1 ≤ length w → (r : Reason)
    → ((told : ℕ) → Names (cause_of false false (has_start w) (length w) (refusal 6 (told ∷ []))) r) → TellsOf C at w (start_seq ++ rest) r
second_start C at s w rest none pos r named =
    let q = seeks_none C w none in
    let k : InSearch C w q.n q.noise q.raw = reads_silent q.quietly [] (reads_fresh_exactly C) in
    let l : length w ≡ length k.passed + q.n = ap length k.here ∙ simp (length-append, matched_long q.n k.most) in
    at_start C at (is_second s) w rest q.n q.noise q.raw q.quietly (stopped (q.noise + q.n))
    (fours_any C q.n q.noise q.raw s k.most (let d = k.dropped in omega arith)) (let d = k.dropped in omega arith) r (named (stopped (q.noise + q.n)))

some_hidden : (w : List ℕ) → HasStart w → 1 ≤ length w
some_hidden w h = let n : length w ≡ length h.before + (8 + length h.behind) = ap length h.is ∙ simp length-append (omega arith) in omega arith

module _ (C : Setup) (at : ℕ) (known : KnownWay C.way) (w rest : List ℕ) where
  pub tells_noise : TrueOf C.way C.capacity w rest is_noise → TellsOf C at w rest is_noise
  unfolding cause_of
  tells_noise t = by_over t.2 known
    where
      dull : has_start w ≡ false
      dull = none_has_start w t.1

      by_over : SearchOver C.way w rest → KnownWay C.way → TellsOf C at w rest is_noise
      by_over (over_at_end e) way = lost_at_end C at known w rest (seeks_none C w t.1) is_noise e t.0 (rw dull names_noise)
      by_over (over_at_start more e m) (is_first f) = rw e (first_start C at f w more (m f) t.0 is_noise (λ told. rw dull names_noise))
      by_over (over_at_start more e m) (is_second s) = rw e (second_start C at s w more t.1 t.0 is_noise (λ told. rw dull names_noise))

  pub tells_hidden : TrueOf C.way C.capacity w rest is_hidden → TellsOf C at w rest is_hidden
  unfolding cause_of
  tells_hidden t = by_over t.3
    where
      seen : has_start w ≡ true
      seen = has_start_of w t.1

      by_over : SearchOver C.way w rest → TellsOf C at w rest is_hidden
      by_over (over_at_end e) = lost_at_end C at known w rest (overlooks C (first_other C t.0) w t.2) is_hidden e (some_hidden w t.1) (rw seen names_hidden)
      by_over (over_at_start more e m) = rw e (first_start C at t.0 w more (m t.0) (some_hidden w t.1) is_hidden (λ told. rw seen names_hidden))

-- ---- frames

whole_four : (D l : List ℕ) → frame_head D ++ esc_seq ++ l ≡ start_seq ++ (escaped 0 D ++ (esc_seq ++ l))
unfolding frame_head
whole_four D l = simp append_assoc

-- up to three bytes behind an escape: all are stored, and a frame is running
record Arrived (C : Setup) (D l : List ℕ) : Type 0 where
  k : ℕ
  m : Mem
  quietly : Silent C fresh (frame_head D ++ esc_seq ++ l) (escape k m)
  has : m.stored ≡ D ++ l
  begins : begins_in_start (frame_head D ++ esc_seq ++ l) ≡ true

behind_silent : (C : Setup) (D l : List ℕ) (a : ArrivesAt C begun (escaped 0 D ++ (esc_seq ++ l)) D l) → Silent C fresh (frame_head D ++ esc_seq ++ l) (escape a.k a.m)
behind_silent C D l a = subst (λ (b : List ℕ). Silent C fresh b (escape a.k a.m)) (sym (whole_four D l)) (and_then (start_silent C) a.quietly)

arrived_by : (C : Setup) (D l : List ℕ) → KnownWay C.way → ArrivesAt C begun (escaped 0 D ++ (esc_seq ++ l)) D l → Arrived C D l
arrived_by C D l known a =
    let q : Silent C fresh (frame_head D ++ esc_seq ++ l) (escape a.k a.m) = behind_silent C D l a in
    record { k = a.k; m = a.m; quietly = q; has = a.has; begins = frame_begins C (frame_head D ++ esc_seq ++ l) (escape a.k a.m) known (reads_silent q [] (reads_fresh_exactly C)) }

arrived_here : (C : Setup) (D l : List ℕ) → KnownWay C.way → OpensExactly D l → length l ≤ 3 → length D + length l ≤ C.capacity → Arrived C D l
arrived_here C D l known o few fits = arrived_by C D l known (arrives_at C D l o few fits)

-- three: the fourth is judged
pub record Fourth (C : Setup) (D : List ℕ) (x y z : ℕ) : Type 0 where
  pub m : Mem
  pub quietly : Silent C fresh (frame_head D ++ esc_seq ++ x ∷ y ∷ z ∷ []) (escape 3 m)
  pub has : m.stored ≡ D ++ x ∷ y ∷ z ∷ []
  pub begins : begins_in_start (frame_head D ++ esc_seq ++ x ∷ y ∷ z ∷ []) ≡ true
  pub judged' : (b : ℕ) → step C (escape 3 m) b ≡ judge (put m (b ∷ [])) (x ∷ y ∷ z ∷ b ∷ [])

pub fourth_byte : (C : Setup) (D : List ℕ) (x y z : ℕ) → KnownWay C.way → OpensExactly D (x ∷ y ∷ z ∷ []) → length D + 4 ≤ C.capacity → Fourth C D x y z
fourth_byte C D x y z known o fits =
    let a = arrives_at C D (x ∷ y ∷ z ∷ []) o (omega arith) (omega arith) in
    let r = arrived_by C D (x ∷ y ∷ z ∷ []) known a in
    let n : length a.m.stored ≡ length D + 3 = ap length a.has ∙ simp length-append in
    record { m = a.m; quietly = subst (λ (k : ℕ). Silent C fresh (frame_head D ++ esc_seq ++ x ∷ y ∷ z ∷ []) (escape k a.m)) (a.three refl) (behind_silent C D (x ∷ y ∷ z ∷ []) a); has = a.has; begins = r.begins; judged' = λ b. step_judge C a.m D x y z b a.has (omega arith) }

module _ (C : Setup) (at : ℕ) (known : KnownWay C.way) (w rest : List ℕ) where
  pub tells_cut : TrueOf C.way C.capacity w rest is_cut → TellsOf C at w rest is_cut
  unfolding cause_of judge same
  tells_cut t =
      let D : List ℕ = t.D in
      let f = fourth_byte C D 0x01 0x01 0x01 known (tidy_exactly t.clean) t.fits in
      let h : List ℕ = frame_head D ++ esc_seq ++ take 3 restart_seq in
      let whole : h ++ 0x01 ∷ [] ≡ w ++ start_seq = rw t.is (simp append_assoc) in
      by_event C at h (escape 3 f.m) f.quietly 0x01 t.rest w rest begun (discarded (stopped (suc f.m.raw) - 8)) 6 ((stopped (suc f.m.raw) - 8) ∷ []) is_cut
      (f.judged' 0x01) refl
      (rw (t.start, t.is) (simp append_assoc))
      (rw whole (take_at w start_seq (length (w ++ start_seq) - 8) (simp length-append (omega arith))))
      (rw f.begins names_cut)

  -- ---- the recording ends in a frame

  left_in_data : (E : List ℕ) (r : ℕ) → run_behind 0 E ≡ 0 → r ≤ 3 → length E ≤ C.capacity → (m : Mem) × Silent C fresh (frame_head E ++ replicate r 0x1b) (body r m) × (m.stored ≡ E)
  unfolding frame_head
  left_in_data E r clean few fits =
      let s = stored_data C E clean fits in
      let v = waits_for C s.m r few in
      let all : Silent C fresh (start_seq ++ (escaped 0 E ++ replicate r 0x1b)) (body r v.m') = and_then (start_silent C) (and_then s.quietly v.quietly) in
      (v.m', subst (λ (b : List ℕ). Silent C fresh b (body r v.m')) (sym (append_assoc start_seq (escaped 0 E) (replicate r 0x1b))) all, v.has ∙ s.has)

  pub tells_unfinished : TrueOf C.way C.capacity w rest is_unfinished → TellsOf C at w rest is_unfinished
  unfolding cause_of finalized
  tells_unfinished t = by_open t.1
    where
      by_open : LeftOpen C.capacity w → TellsOf C at w rest is_unfinished
      by_open (open_in_data E r is clean few fits) =
          let (m, q, has) = left_in_data E r clean few fits in
          let h : List ℕ = frame_head E ++ replicate r 0x1b in
          rw is (by_end C at h (body r m) q rest 6 (m.raw ∷ []) is_unfinished t.0 refl (rw (frame_begins C h (body r m) known (reads_silent q [] (reads_fresh_exactly C))) names_unfinished))
      by_open (open_behind_escape D l is o few fits) =
          let a = arrived_here C D l known o few fits in
          rw is (by_end C at (frame_head D ++ esc_seq ++ l) (escape a.k a.m) a.quietly rest 6 (a.m.raw ∷ []) is_unfinished t.0 refl (rw a.begins names_unfinished))

  -- ---- no room

  step_full : (r b : ℕ) (m : Mem) → (b ≡ 0x1b → ⊥) → C.capacity < length m.stored + suc r → step C (body r m) b ≡ says fresh memory
  unfolding step store
  step_full r b m ne lt =
      let n : length (replicate r 0x1b ++ b ∷ []) ≡ suc r = simp (length-append, length-replicate) (omega arith) in
      rw (ne_eqb b 0x1b ne, lt-leb (length m.stored + length (replicate r 0x1b ++ b ∷ [])) C.capacity (omega arith))

  step_full' : (k b : ℕ) (m : Mem) → C.capacity < length m.stored + 1 → step C (escape k m) b ≡ says fresh memory
  unfolding step store
  step_full' k b m lt = rw (lt-leb (length m.stored + 1) C.capacity lt)

  -- the last byte of l, behind those that had room
  last_lacks : (D l : List ℕ) (z : ℕ) → w ≡ frame_head D ++ esc_seq ++ (l ++ z ∷ []) → Arrived C D l → length D + length (l ++ z ∷ []) ≡ suc C.capacity → TellsOf C at w rest is_room_claim
  unfolding cause_of
  last_lacks D l z is a fits =
      let n : length (l ++ z ∷ []) ≡ suc (length l) = simp length-append (omega arith) in
      let long : length a.m.stored ≡ length D + length l = ap length a.has ∙ length-append D l in
      let h : List ℕ = frame_head D ++ esc_seq ++ l in
      let on : h ++ z ∷ [] ≡ w = sym (is ∙ sym (append_assoc (frame_head D ++ esc_seq) l (z ∷ []))) in
      by_event C at h (escape a.k a.m) a.quietly z rest w rest fresh memory 3 [] is_room_claim
      (step_full' a.k z a.m (omega arith)) refl (ap (λ (b : List ℕ). b ++ rest) (sym on) ∙ append_assoc h (z ∷ []) rest) on names_room

  pub tells_room : TrueOf C.way C.capacity w rest is_room_claim → TellsOf C at w rest is_room_claim
  unfolding cause_of
  tells_room (none_for_data E r b is clean few ne fits over) =
      let on : w ≡ frame_head E ++ replicate r 0x1b ++ b ∷ [] = is ∙ head_other E r b clean few ne in
      let h : List ℕ = frame_head E ++ replicate r 0x1b in
      let (m, q, has) = left_in_data E r clean few fits in
      let n : length m.stored ≡ length E = ap length has in
      by_event C at h (body r m) q b rest w rest fresh memory 3 [] is_room_claim
      (step_full r b m ne (omega arith)) refl (ap (λ (x : List ℕ). x ++ rest) on ∙ append_assoc h (b ∷ []) rest) (sym on) names_room
  tells_room (none_behind_escape D l is o some most fits) = by_last l (last_of' l some) o is most fits
    where
      shorter : (l : List ℕ) (x : ℕ) (k : List ℕ) → OpensExactly D ((x ∷ l) ++ k) → OpensExactly D (x ∷ l)
      shorter l x k (tidy_exactly e) = tidy_exactly e
      shorter l x k (early_end_exactly j al e) = early_end_exactly l al (let q : x ≡ 0x1a = ap (λ (t : List ℕ). get_or t 0 0) e in rw q)

      by_front : (i : List ℕ) (z : ℕ) → OpensExactly D (i ++ z ∷ []) → w ≡ frame_head D ++ esc_seq ++ (i ++ z ∷ []) → length (i ++ z ∷ []) ≤ 4 → length D + length (i ++ z ∷ []) ≡ suc C.capacity → TellsOf C at w rest is_room_claim
      by_front [] z o is most fits =
          let n : length D + 1 ≡ suc C.capacity = fits in
          last_lacks D [] z is (arrived_by C D [] known (subst (λ (b : List ℕ). ArrivesAt C begun b D []) (ap (λ (k : List ℕ). escaped 0 D ++ k) (sym (append-nil esc_seq))) (arrives_open C D (omega arith)))) fits
      by_front (x ∷ i) z o is most fits =
          let n : length ((x ∷ i) ++ z ∷ []) ≡ suc (length (x ∷ i)) = simp length-append (omega arith) in
          last_lacks D (x ∷ i) z is (arrived_here C D (x ∷ i) known (shorter i x (z ∷ []) o) (omega arith) (omega arith)) fits

      by_last : (l : List ℕ) → (i : List ℕ) × (z : ℕ) × (l ≡ i ++ z ∷ []) → OpensExactly D l → w ≡ frame_head D ++ esc_seq ++ l → length l ≤ 4 → length D + length l ≡ suc C.capacity → TellsOf C at w rest is_room_claim
      by_last l (i, z, e) o is most fits = by_front i z (rw e at o) (rw e at is) (rw e at most) (rw e at fits)

  -- ---- the four bytes behind an escape

  judge_unknown : (m : Mem) (four : List ℕ) → (four ≡ esc_seq → ⊥) → (four ≡ restart_seq → ⊥) → (get_or four 0 0 ≡ 0x1a → ⊥) → early (missing (length m.stored)) four ≡ false
      → judge m four ≡ says fresh (bad_escape (get_or four 0 0) (get_or four 1 0) (get_or four 2 0) (get_or four 3 0))
  unfolding judge
  judge_unknown m four a b c d = rw (untrue' four esc_seq a, untrue' four restart_seq b, ne_eqb (get_or four 0 0) 0x1a c, d)
    where
      untrue' : (x y : List ℕ) → (x ≡ y → ⊥) → same x y ≡ false
      untrue' x y n = never_true (same x y) (λ t. n (same_true x y t))

  unknown_four : (a b c d : ℕ) → Meaningless C.capacity w (a ∷ b ∷ c ∷ d ∷ []) → TellsOf C at w rest is_escape
  unfolding cause_of
  unknown_four a b c d t =
      let D : List ℕ = t.D in
      let f = fourth_byte C D a b c known (tidy_exactly t.clean) t.fits in
      let h : List ℕ = frame_head D ++ esc_seq ++ a ∷ b ∷ c ∷ [] in
      let on : h ++ d ∷ [] ≡ w = append_assoc (frame_head D ++ esc_seq) (a ∷ b ∷ c ∷ []) (d ∷ []) ∙ sym t.is in
      let n : length (f.m.stored ++ d ∷ []) ≡ length D + 4 = ap (λ (l : List ℕ). length (l ++ d ∷ [])) f.has ∙ simp length-append (omega arith) in
      let gap : missing (length (f.m.stored ++ d ∷ [])) ≡ missing (length D) = omega arith in
      by_event C at h (escape 3 f.m) f.quietly d rest w rest fresh (bad_escape a b c d) 7 (a ∷ b ∷ c ∷ d ∷ []) is_escape
      (f.judged' d ∙ judge_unknown (put f.m (d ∷ [])) (a ∷ b ∷ c ∷ d ∷ []) t.no_data t.no_start t.no_end_claim (ap (λ (k : ℕ). early k (a ∷ b ∷ c ∷ d ∷ [])) gap ∙ t.no_early))
      refl (ap (λ (x : List ℕ). x ++ rest) (sym on) ∙ append_assoc h (d ∷ []) rest) on names_escape

  pub tells_escape : TrueOf C.way C.capacity w rest is_escape → TellsOf C at w rest is_escape
  tells_escape (four, t) = by_four four t.long t
    where
      by_four : (four : List ℕ) → length four ≡ 4 → Meaningless C.capacity w four → TellsOf C at w rest is_escape
      by_four [] n t = absurd (let z : ◌≡◌ {A = ℕ} 0 4 = n in omega arith)
      by_four (a ∷ []) n t = absurd (let z : ◌≡◌ {A = ℕ} 1 4 = n in omega arith)
      by_four (a ∷ b ∷ []) n t = absurd (let z : ◌≡◌ {A = ℕ} 2 4 = n in omega arith)
      by_four (a ∷ b ∷ c ∷ []) n t = absurd (let z : ◌≡◌ {A = ℕ} 3 4 = n in omega arith)
      by_four (a ∷ b ∷ c ∷ d ∷ e ∷ l) n t = absurd (let z : suc (suc (suc (suc (suc (length l))))) ≡ 4 = n in omega arith)
      by_four (a ∷ b ∷ c ∷ d ∷ []) n t = unknown_four a b c d t
