-- The second way of searching: when a frame begins, where it searches, and that noise in which no whole start sequence lies hides none.
use mathlib.Core.Path.{◌≡◌, refl, ap, sym, ◌∙◌, subst}
use mathlib.Core.List.{List, [], ◌∷◌, ◌++◌, append_assoc, append-nil, map, map-append}
use Prim.Native.Nat.{ℕ, suc, ◌+◌, ◌-◌, ◌≤◌}
use native.Mathlib.Omega.{arith}
use lib.ListN.{length, take, replicate, length-append}
use borrow.Author.Tests.{ne_eqb}
use Rattle.frame.specs.Frame.{esc_seq, start_seq, escaped, frame_of, closed, missing}
use Rattle.search.specs.Search.{most_matched}
use Rattle.search.specs.Found.{EndsInStart, HasStart, NoneWhole}
use Rattle.search.proofs.Matched.{matched_start, start_matched, ends_has, has_more, none_in_nil}
use Rattle.encoder.specs.Encode.{encode_to}
use Rattle.decoder.specs.Push.{second_way, State, search, body, escape, done, silent, Out, begun, says, matched_behind, more_noise, searching, noticed, fresh, stopped, step}
use Rattle.decoder.specs.Record.{DecoderAnswer, nothing, numbered, After, after, setup, state_as, state_of, record_of, new_record, pushed}
use Rattle.decoder.specs.Run as R
use Rattle.decoder.specs.Run.{KnownWay, is_second, Op, push, act}
use Rattle.decoder.specs.declared.DecodeState.{DecodeState}
use Rattle.decoder.specs.declared.Decoder.{Decoder}
use Rattle.decoder.specs.declared.Setup.{Setup}
use Rattle.decoder.proofs.States.{run_state, state_behind, act_state, answer_state}
use Rattle.decoder.proofs.Search.{Known, known_is, matched_eight}
use Rattle.decoder.proofs.Faithful.{push_good}
use Rattle.decoder.proofs.Runs.{Leads, leads, acts, new_fit}
use Rattle.since.specs.Bytes.{grown_since, since_from, Counted}
use Rattle.since.specs.Since.{frame_head, InSearch, ReadSince}
use Rattle.since.proofs.Lists.{matched_long}
use Rattle.since.proofs.Kept.{kept, reads_fresh, second_most_matched}
use Rattle.since.proofs.Counts.{reads_counted, record_reads, record_counts}
use Rattle.marks.specs.Decoders.{LeftBehind, ours, answers, left_behind, searched_from, count_since, frame_says}
use Rattle.marks.specs.Mark2.{eighth, Ready, some_matched, behind_payload, OurSearch}
use Rattle.marks.specs.Mark3.{wrote_for}
use Rattle.marks.specs.Second.{FindsStart, Begins, SearchesAgain, HearsBehindNoise, Seeking, in_search, before_search, OurSeeks, OurBegun}
use Rattle.since.proofs.Rules.{Silent, stop, silent_on, silent_run}
use Rattle.since.proofs.Starts.{starts_second}
use Rattle.marks.proofs.RoundTrip.{quiet_replicate, round_trip}
use Rattle.marks.proofs.Searched.{Heard, heard_fresh, heard_behind_lem}
use Rattle.marks.proofs.Recovery.{run_state_append, wrote_is, answers_run, answers_new}
use Rattle.marks.proofs.Completeness.{eighth_is}
use Rattle.marks.proofs.HidesStart.{looking_back, done_back, kept_is}

-- ---- a step of a search

-- g are the bytes since the search began, with the one that is pushed
record FindsState (g : List ℕ) (o : Out) : Type 0 where
  begins' : EndsInStart g → o ≡ says begun (noticed (stopped (length g - 8)))
  goes_on' : (EndsInStart g → ⊥) → (n noise raw : ℕ) × (o ≡ says (search n noise raw) silent)

module _ (C : Setup) (second : C.way ≡ second_way) (h : List ℕ) (n noise raw b : ℕ) (k : InSearch C h n noise raw) where
  abbrev g : List ℕ
  g = h ++ b ∷ []

  noise_is : matched_behind C.way n b ≡ 8 → noise ≡ stopped (length g - 8)
  noise_is eight =
      let seven : n ≡ 7 = (matched_eight C.way n b k.most eight).1 in
      let was : length h ≡ length k.passed + n = ap length k.here ∙ simp (length-append, matched_long n k.most) in
      let long : length g ≡ suc (length h) = simp length-append (omega arith) in
      let d = k.dropped in
      omega (arith, seven, was, long, d)

  finds_state : FindsState g (searching C.way n noise raw b)
  unfolding searching
  finds_state =
      let all : matched_behind C.way n b ≡ most_matched g = second_most_matched C h b n noise raw k second in
      record {
        begins' = λ e.
            let eight : matched_behind C.way n b ≡ 8 = all ∙ start_matched g e in
            rw eight (ap (λ (x : ℕ). says begun (noticed x)) (noise_is eight));
        goes_on' = λ none.
            let ne : matched_behind C.way n b ≡ 8 → ⊥ = λ e. none (matched_start g (sym all ∙ e)) in
            (matched_behind C.way n b, more_noise noise n (matched_behind C.way n b), stopped (suc raw), rw (ne_eqb _ 8 ne));
      }

-- ---- noise in which no start lies

record QuietNoise (C : Setup) (h noise : List ℕ) (s : State) : Type 0 where
  n : ℕ
  dropped : ℕ
  raw : ℕ
  quietly : Silent C s noise (search n dropped raw)
  reads : InSearch C (h ++ noise) n dropped raw

quiet_noise : (C : Setup) → C.way ≡ second_way → (l h : List ℕ) (n noise raw : ℕ) → InSearch C h n noise raw → NoneWhole (h ++ l) → QuietNoise C h l (search n noise raw)
unfolding step
quiet_noise C second [] h n noise raw k none = record { n = n; dropped = noise; raw = raw; quietly = stop; reads = rw (append-nil h) k }
quiet_noise C second (b ∷ l) h n noise raw k none =
    let joined : h ++ b ∷ [] ++ l ≡ h ++ b ∷ l = append_assoc h (b ∷ []) l in
    let (n', noise', raw', is) = (finds_state C second h n noise raw b k).goes_on' (λ e. none (subst HasStart joined (has_more l (ends_has e)))) in
    let next : InSearch C (h ++ b ∷ []) n' noise' raw' = subst (λ (o : Out). ReadSince C (grown_since (numbered o.event) h b) o.state) is (kept C h (search n noise raw) b k).reads in
    let i = quiet_noise C second l (h ++ b ∷ []) n' noise' raw' next (λ e. none (subst HasStart joined e)) in
    record { n = i.n; dropped = i.dropped; raw = i.raw; quietly = silent_on is i.quietly; reads = subst (λ (x : List ℕ). InSearch C x i.n i.dropped i.raw) joined i.reads }

-- and a frame behind it
hears_state : (C : Setup) → C.way ≡ second_way → (h : List ℕ) (n noise raw : ℕ) → InSearch C h n noise raw → (l P : List ℕ) → length P + missing (length P) + 4 ≤ C.capacity → NoneWhole (h ++ l)
    → run_state C (search n noise raw) (map push (l ++ frame_of P)) ≡ replicate (length l) nothing ++ frame_says (eighth (stopped (length h + length l))) (frame_of P) P
unfolding run_state
hears_state C second h n noise raw k l P fit none =
    let q = quiet_noise C second l h n noise raw k none in
    let f : List ℕ = frame_of P in
    let s : State = search q.n q.dropped q.raw in
    let c = reads_counted C (h ++ l) s q.reads in
    let all : stopped (q.dropped + q.n) ≡ stopped (length h + length l) = omega (arith, c.0, c.2, length-append h l) in
    let finds = starts_second C q.n q.dropped q.raw second c.1 (omega (arith, c.2)) in
    ap (run_state C (search n noise raw)) (map-append push l f) ∙ silent_run q.quietly (map push f)
    ∙ ap (λ (x : List DecoderAnswer). x ++ run_state C s (map push f)) (quiet_replicate l)
    ∙ ap (λ (x : List DecoderAnswer). replicate (length l) nothing ++ x)
    (ap (run_state C s) (sym (append-nil (map push f))) ∙ (round_trip C s _ finds P fit).answers' [] ∙ append-nil (frame_says (numbered (noticed (stopped (q.dropped + q.n)))) f P)
    ∙ ap (λ (a : DecoderAnswer). frame_says a f P) (eighth_is (stopped (q.dropped + q.n)) ∙ ap eighth all))

-- behind a payload it is as if fresh
done_as_fresh : (C : Setup) (P l Q : List ℕ) → run_state C (done P) (map push (l ++ frame_of Q)) ≡ run_state C fresh (map push (l ++ frame_of Q))
unfolding frame_of closed run_state act_state answer_state step
done_as_fresh C P [] Q = refl
done_as_fresh C P (b ∷ l) Q = refl

-- ---- the state behind operations

-- a search and the bytes since it began, or behind a payload and none
data SoughtBytes (C : Setup) (g : List ℕ) (s : State) : Type 0 where
  by_search : (n noise raw : ℕ) → s ≡ search n noise raw → InSearch C g n noise raw → SoughtBytes C g s
  by_payload : (P : List ℕ) → s ≡ done P → g ≡ [] → SoughtBytes C g s

sought_search : (C : Setup) (g : List ℕ) (s : State) (n noise raw : ℕ) → Heard C g s → s ≡ search n noise raw → SoughtBytes C g s
sought_search C g s n noise raw k e =
    let t : Heard C g (search n noise raw) = subst (Heard C g) e k in
    by_search n noise raw e (subst (λ (h : List ℕ). InSearch C h n noise raw) (sym t.same') t.reads')

sought_done : (C : Setup) (g : List ℕ) (s : State) (P : List ℕ) → Heard C g s → s ≡ done P → SoughtBytes C g s
sought_done C g s P k e =
    let t : Heard C g (done P) = subst (Heard C g) e k in
    by_payload P e (t.same' ∙ t.reads'.0)

sought_from : (C : Setup) (g : List ℕ) (s : State) (d : Decoder) (m : List ℕ) → Heard C g s → state_of d m ≡ s → Seeking d.state → SoughtBytes C g s
sought_from C g s d m k v (in_search n noise e) = sought_search C g s n noise d.raw_msg_len k (sym v ∙ ap (λ (x : DecodeState). state_as x d m) e)
sought_from C g s d m k v (before_search e) = sought_done C g s (take d.fill m) k (sym v ∙ ap (λ (x : DecodeState). state_as x d m) e)

none_whole : (C : Setup) → C.way ≡ second_way → (g : List ℕ) (s : State) → SoughtBytes C g s → NoneWhole g
none_whole C second g s (by_search n noise raw e k) = k.none_whole second
none_whole C second g s (by_payload P e z) = λ has. none_in_nil (subst HasStart z has)

finds : (C : Setup) → C.way ≡ second_way → (g : List ℕ) (s : State) (b : ℕ) → SoughtBytes C g s → FindsState (g ++ b ∷ []) (step C s b)
unfolding step
finds C second g s b (by_search n noise raw e k) = rw e (finds_state C second g n noise raw b k)
finds C second g s b (by_payload P e z) = rw (e, z) (finds_state C second [] 0 0 0 b (reads_fresh C))

hears_sought : (C : Setup) → C.way ≡ second_way → (g : List ℕ) (s : State) → SoughtBytes C g s → (l P : List ℕ) → length P + missing (length P) + 4 ≤ C.capacity → NoneWhole (g ++ l)
    → run_state C s (map push (l ++ frame_of P)) ≡ replicate (length l) nothing ++ frame_says (eighth (stopped (length g + length l))) (frame_of P) P
hears_sought C second g s (by_search n noise raw e k) l P fit none = rw e (hears_state C second g n noise raw k l P fit none)
hears_sought C second g s (by_payload Q e z) l P fit none =
    rw (e, z) (done_as_fresh C Q l P ∙ hears_state C second [] 0 0 0 (reads_fresh C) l P fit (subst (λ (x : List ℕ). NoneWhole (x ++ l)) z none))

-- ---- the record

module _ (C : Setup) (m : List ℕ) (second : C.way ≡ second_way) (l : length m ≡ C.capacity) (le : C.capacity ≤ 1048576) (os : List Op) where
  abbrev w : Known C
  w = known_is C.way (is_second second)

  -- behind the operations: the record and the memory, the state, the bytes since the search began
  abbrev x : After
  x = R.behind (after nothing (new_record C) m) os

  abbrev s : State
  s = state_behind C fresh os

  abbrev since : List ℕ
  since = searched_from [] os (run_state C fresh os)

  there : Leads (new_record C) m os x
  there = leads os (after nothing (new_record C) m) (new_fit C m w l le)

  left : left_behind ours (new_record C) m os ≡ record { decoder = x.decoder; memory = x.memory }
  left = kept_is os (after nothing (new_record C) m)

  seeks : OurSeeks (left_behind ours (new_record C) m os).decoder → SoughtBytes C since s
  seeks seek =
      sought_from C since s x.decoder x.memory (heard_behind_lem C os [] fresh (heard_fresh C)) there.view' (subst (λ (k : LeftBehind Decoder). OurSeeks k.decoder) left seek)

  answer_is : (b : ℕ) → (act x.decoder x.memory (push b)).answer ≡ numbered (step C s b).event
  unfolding answer_state
  answer_is b = (acts x.decoder x.memory (push b) there.fit).answer ∙ rw (there.setup', there.view')

  decoder_is : (b : ℕ) → (act x.decoder x.memory (push b)).decoder ≡ record_of C (step C s b).state
  unfolding act pushed
  decoder_is b = ap (λ (a : After). a.decoder) (push_good x.decoder x.memory b there.fit) ∙ rw (there.setup', there.view')

  finds_record : (b : ℕ) → FindsState (since ++ b ∷ []) (step C s b) → FindsStart OurSeeks OurBegun C (since ++ b ∷ []) (ours.act x.decoder x.memory (push b))
  finds_record b f = record {
    begins = λ e.
        let o = f.begins' e in
        (answer_is b ∙ ap (λ (o : Out). numbered o.event) o ∙ eighth_is (stopped (length (since ++ b ∷ []) - 8)), decoder_is b ∙ ap (λ (o : Out). record_of C o.state) o);
    goes_on_claim = λ none.
        let (n, noise, raw, o) = f.goes_on' none in
        (answer_is b ∙ ap (λ (o : Out). numbered o.event) o, in_search n noise (ap (λ (d : Decoder). d.state) (decoder_is b ∙ ap (λ (o : Out). record_of C o.state) o)));
  }

pub begins_exactly : Begins ours OurSeeks OurBegun
begins_exactly C m second l le os b seek =
    let t = seeks C m second l le os seek in
    rw (left C m second l le os, answers_new C m os (w C m second l le os) l le) (none_whole C second _ _ t, finds_record C m second l le os b (finds C second _ _ b t))

pub hears_behind_noise : HearsBehindNoise NoneWhole ours encode_to OurSeeks
hears_behind_noise C m second l le before noise j suits seek clear =
    let P : List ℕ = j.payload in
    let frame : List ℕ = wrote_for encode_to j in
    let same : frame ≡ frame_of P = wrote_is C j le suits in
    let way : Known C = known_is C.way (is_second second) in
    let heard : answers ours (ours.new C) m before ≡ run_state C fresh before = answers_new C m before way l le in
    let g : List ℕ = searched_from [] before (run_state C fresh before) in
    let none : NoneWhole (g ++ noise) = λ has. clear (rw heard (has_more (take 7 frame) has)) in
    answers_new C m (before ++ map push (noise ++ frame)) way l le ∙ run_state_append C before (map push (noise ++ frame)) fresh
    ∙ ap (λ (f : List ℕ). run_state C fresh before ++ run_state C (state_behind C fresh before) (map push (noise ++ f))) same
    ∙ ap (λ (a : List DecoderAnswer). run_state C fresh before ++ a) (hears_sought C second g (state_behind C fresh before) (seeks C m second l le before seek) noise P suits.0 none)
    ∙ ap (λ (f : List ℕ). run_state C fresh before ++ (replicate (length noise) nothing ++ frame_says (eighth (stopped (length g + length noise))) f P)) (sym same)
    ∙ ap (λ (h : List DecoderAnswer). h ++ (replicate (length noise) nothing ++ frame_says (eighth (stopped (length (searched_from [] before h) + length noise))) frame P)) (sym heard)

-- ---- where it searches, and from what

-- the bytes since a frame began begin with its start sequence
frame_has : (D l : List ℕ) → HasStart (frame_head D ++ l)
unfolding frame_head
frame_has D l = record { before = []; behind = escaped 0 D ++ l; is = append_assoc start_seq (escaped 0 D) l }

state_seeks : (C : Setup) (h : List ℕ) (s : State) (d : Decoder) (m : List ℕ) → state_of d m ≡ s → ReadSince C h s → NoneWhole h → Seeking d.state
state_seeks C h (search n noise raw) d m v k none = in_search n noise (looking_back d.state d m n noise raw v)
state_seeks C h (body r q) d m v k none = absurd (none (subst HasStart (sym k.here) (frame_has q.stored (replicate r 0x1b))))
state_seeks C h (escape j q) d m v k none = absurd (none (subst HasStart (sym (k.here ∙ append_assoc (frame_head k.D) esc_seq k.l)) (frame_has k.D (esc_seq ++ k.l))))
state_seeks C h (done P) d m v k none = before_search (done_back d.state d m P v)

pub searches_again : SearchesAgain ours OurSeeks
searches_again C m second l le os none =
    let way : Known C = known_is C.way (is_second second) in
    rw (left C m second l le os)
    (state_seeks C _ _ (x C m second l le os).decoder (x C m second l le os).memory refl (record_reads C m os way l le) (subst (λ (a : List DecoderAnswer). NoneWhole (since_from [] os a)) (answers_run os (new_record C) m) none))

-- ours in a search that is reached: all bytes since it began are noise before a start sequence pushed next
ready_from : (C : Setup) (g : List ℕ) (s : State) (d : Decoder) (m : List ℕ) → C.way ≡ second_way → setup d ≡ C → Heard C g s → state_of d m ≡ s → Seeking d.state → Ready d.way d.state (stopped (length g))
ready_from C g s d m second same k v (in_search n noise e) =
    let t : Heard C g (search n noise d.raw_msg_len) = subst (Heard C g) (sym v ∙ ap (λ (x : DecodeState). state_as x d m) e) k in
    let c = reads_counted C t.since (search n noise d.raw_msg_len) t.reads' in
    let long : length g ≡ length t.since = ap length t.same' in
    some_matched n noise (ap (λ (x : Setup). x.way) same ∙ second) e (omega (arith, c.2)) (omega (arith, c.0, c.2, long))
ready_from C g s d m second same k v (before_search e) =
    let t : Heard C g (done (take d.fill m)) = subst (Heard C g) (sym v ∙ ap (λ (x : DecodeState). state_as x d m) e) k in
    behind_payload e (let n = ap length (t.same' ∙ t.reads'.0) in omega (arith, n))

pub second_searches : (C : Setup) (m : List ℕ) → C.way ≡ second_way → length m ≡ C.capacity → C.capacity ≤ 1048576 → (os : List Op)
    → let k : LeftBehind Decoder = left_behind ours (ours.new C) m os in
    OurSeeks k.decoder → OurSearch C k.decoder k.memory (stopped (count_since os (answers ours (ours.new C) m os)))
second_searches C m second l le os seek =
    let way : Known C = known_is C.way (is_second second) in
    let t = there C m second l le os in
    let e : After = x C m second l le os in
    let s : Seeking e.decoder.state = subst (λ (k : LeftBehind Decoder). OurSeeks k.decoder) (left C m second l le os) seek in
    rw (left C m second l le os, answers_new C m os way l le)
    (record {
      searches = ready_from C _ _ e.decoder e.memory second t.setup' (heard_behind_lem C os [] fresh (heard_fresh C)) t.view' s;
      good = t.fit.state;
      lent = t.fit.buffer;
      setup' = t.setup';
    })

-- the counts of every state that is reached, in either way
pub reached_counts : (C : Setup) (m : List ℕ) → KnownWay C.way → length m ≡ C.capacity → C.capacity ≤ 1048576 → (os : List Op)
    → let k : LeftBehind Decoder = left_behind ours (ours.new C) m os in
    Counted C (state_of k.decoder k.memory) (since_from [] os (answers ours (ours.new C) m os))
reached_counts C m way l le os =
    rw (kept_is os (after nothing (new_record C) m), answers_run os (new_record C) m) (record_counts C m os (known_is C.way way) l le)
