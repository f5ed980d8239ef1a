-- A watch tells what the bytes are that its decoder has read since the search or frame began; so what it tells of a recording is what the recording's bytes tell.
use Prim.Native.Nat.{ℕ, zero, suc, ◌+◌, ◌-◌, ◌≤◌}
use mathlib.Core.Path.{◌≡◌, refl, sym, ap, ◌∙◌, subst}
use mathlib.Core.Bool.{true, not}
use mathlib.Core.List.{List, [], ◌∷◌, ◌++◌, append_assoc, append-nil}
use native.Mathlib.Omega.{arith}
use borrow.Author.Tests.{eq-eqb, ne_eqb}
use lib.ListN.{length, take, drop, get_or, length-append}
use lib.Seq.{take-append-le, take-append_seam, take-append-add, drop-append_seam, drop-append-add, take-suc, take_at}
use lib.Dec.{eqb}
use Rattle.frame.specs.Frame.{start_seq, same}
use Rattle.frame.proofs.Cases.{either}
use Rattle.search.specs.Search.{most_matched}
use Rattle.search.specs.Found.{EndsInStart, HasStart, NoneWhole}
use Rattle.search.proofs.Matched.{most_step, most_nil, matched_start, start_matched, ends_has, has_more, start_last, first_long}
use Rattle.decoder.proofs.Split.{cases}
use Rattle.decoder.specs.declared.Decoder.{Decoder}
use Rattle.losses.specs.Loss.{begins_in_start, has_start}
use Rattle.losses.specs.Watch.{look, no_look, start_look, looked_on, watched, moved_on}
use Rattle.losses.specs.declared.Look.{Look}
use Rattle.losses.specs.declared.Watch.{Watch}
use Rattle.since.proofs.Lists.{empty}
use Rattle.losses.proofs.Starts.{begins_start, has_start_true, has_start_of, has_start_none, none_has_start, none_at_first}
use Rattle.losses.proofs.Looks.{looked_found}

-- the watch w stands behind the recording's first `begun` bytes and h, which are those since its search or frame began
pub record Tracks (w : Watch) (begun : ℕ) (h : List ℕ) : Type 0 where
  pub begun' : w.begun ≡ begun
  pub pushed' : w.pushed ≡ begun + length h
  -- a frame is running
  pub running : begins_in_start h ≡ eqb w.look.start_end 8
  -- a whole start lies in them
  pub hides : has_start h ≡ not (eqb w.look.start_end 0)
  -- none yet, and so many bytes of one stand last
  pub matches : w.look.start_end ≡ 0 → w.look.matched ≡ most_matched h

-- ---- a look at one byte more

-- what a look says of the bytes h
abbrev LooksAt : Look → List ℕ → Type 0
LooksAt l h = (begins_in_start h ≡ eqb l.start_end 8) × (has_start h ≡ not (eqb l.start_end 0)) × (l.start_end ≡ 0 → l.matched ≡ most_matched h)

pub has_long : {h : List ℕ} → HasStart h → 8 ≤ length h
has_long {h} e =
    let n : length h ≡ length e.before + (8 + length e.behind) = ap length e.is ∙ simp length-append (omega arith) in
    omega arith

pub begins_more : (h z : List ℕ) → 8 ≤ length h → begins_in_start (h ++ z) ≡ begins_in_start h
begins_more h z le = ap (λ (l : List ℕ). same l start_seq) (take-append-le 8 h z le)

module _ (h : List ℕ) (b : ℕ) where
  abbrev g : List ℕ
  g = h ++ b ∷ []

  one_longer : length g ≡ suc (length h)
  one_longer = simp length-append (omega arith)

  looks_found : (l : Look) → LooksAt l h → (l.start_end ≡ 0 → ⊥) → LooksAt l g
  looks_found l k ne =
      let some : not (eqb l.start_end 0) ≡ true = rw (ne_eqb l.start_end 0 ne) in
      let has : HasStart h = has_start_true h (k.1 ∙ some) in
      (begins_more h (b ∷ []) (has_long has) ∙ k.0, has_start_of g (has_more (b ∷ []) has) ∙ sym some, λ z. absurd (ne z))

  -- the first whole start ends with the byte
  looks_ends : (k : ℕ) → NoneWhole h → k ≡ most_matched g → k ≡ 8 → LooksAt (look k (suc (length h))) g
  looks_ends k none is eight =
      let ends : EndsInStart g = matched_start g (sym is ∙ eight) in
      let n : length g ≡ length ends.before + 8 = ap length ends.is ∙ simp length-append (omega arith) in
      let first : suc (length h) ≡ 8 → begins_in_start g ≡ eqb (suc (length h)) 8 = λ q.
      let none' : ends.before ≡ [] = empty ends.before (omega (arith, n, one_longer, q)) in
      rw (ends.is, none') (begins_start [] ∙ sym (eq-eqb (suc (length h)) 8 q)) in
      let later : (suc (length h) ≡ 8 → ⊥) → begins_in_start g ≡ eqb (suc (length h)) 8 = λ q.
      begins_more h (b ∷ []) (omega (arith, n, one_longer)) ∙ none_at_first h none ∙ sym (ne_eqb (suc (length h)) 8 q) in
      let some : not (eqb (suc (length h)) 0) ≡ true = rw (ne_eqb (suc (length h)) 0 (λ z. omega arith)) in
      (either (suc (length h)) 8 first later, has_start_of g (ends_has ends) ∙ sym some, λ z. absurd (omega arith))

  looks_none : (k : ℕ) → NoneWhole h → k ≡ most_matched g → (k ≡ 8 → ⊥) → LooksAt (look k 0) g
  looks_none k none is ne =
      let still : NoneWhole g = λ has. ne (is ∙ start_matched g (start_last h b none has)) in
      (none_at_first g still, none_has_start g still, λ z. is)

  looks_on : (l : Look) → LooksAt l h → LooksAt (looked_on l (length h) b) g
  looks_on l k =
      let k' : ℕ = most_matched (take l.matched start_seq ++ b ∷ []) in
      either l.start_end 0
      (λ z.
      let none : NoneWhole h = has_start_none h (k.1 ∙ rw (eq-eqb l.start_end 0 z)) in
      let is : k' ≡ most_matched g = ap (λ (n : ℕ). most_matched (take n start_seq ++ b ∷ [])) (k.2 z) ∙ most_step h b in
      rw (eq-eqb l.start_end 0 z) (either k' 8 (λ e. rw (eq-eqb k' 8 e) (looks_ends k' none is e)) (λ ne. rw (ne_eqb k' 8 ne) (looks_none k' none is ne))))
      (λ ne. subst (λ (x : Look). LooksAt x g) (sym (looked_found l (length h) b ne)) (looks_found l k ne))

-- ---- the laws of Tracks

-- no byte of a search yet
pub tracks_new : (d : Decoder) (n : ℕ) → Tracks (watched d n n no_look) n []
unfolding same has_start
tracks_new d n = record { begun' = refl; pushed' = omega arith; running = refl; hides = refl; matches = λ z. most_nil }

-- the eight bytes of a start
pub tracks_start : (d : Decoder) (begun : ℕ) → Tracks (watched d (begun + 8) begun start_look) begun start_seq
unfolding same has_start
tracks_start d begun = record { begun' = refl; pushed' = refl; running = refl; hides = refl; matches = λ z. absurd (omega arith) }

-- one byte more, of which nothing is said
pub tracks_on : (w : Watch) (begun : ℕ) (h : List ℕ) (d : Decoder) (b : ℕ) → Tracks w begun h → Tracks (moved_on w d b) begun (h ++ b ∷ [])
tracks_on w begun h d b t =
    let since : w.pushed - w.begun ≡ length h = omega (arith, t.begun', t.pushed') in
    let k = looks_on h b w.look (t.running, t.hides, t.matches) in
    record {
      begun' = t.begun';
      pushed' = omega (arith, t.pushed', one_longer h b);
      running = rw since k.0;
      hides = rw since k.1;
      matches = rw since k.2;
    }

-- ---- a start found: its first seven bytes make no start that wasn't there

not_itself : (k : ℕ) → 1 ≤ k → k ≤ 7 → take k start_seq ≡ drop (8 - k) start_seq → ⊥
not_itself zero lo le e = omega arith
not_itself (suc zero) lo le e = let q : ◌≡◌ {A = ℕ} 0x1b 0x01 = ap (λ (l : List ℕ). get_or l 0 0) e in omega arith
not_itself (suc (suc zero)) lo le e = let q : ◌≡◌ {A = ℕ} 0x1b 0x01 = ap (λ (l : List ℕ). get_or l 0 0) e in omega arith
not_itself (suc (suc (suc zero))) lo le e = let q : ◌≡◌ {A = ℕ} 0x1b 0x01 = ap (λ (l : List ℕ). get_or l 0 0) e in omega arith
not_itself (suc (suc (suc (suc zero)))) lo le e = let q : ◌≡◌ {A = ℕ} 0x1b 0x01 = ap (λ (l : List ℕ). get_or l 0 0) e in omega arith
not_itself (suc (suc (suc (suc (suc zero))))) lo le e = let q : ◌≡◌ {A = ℕ} 0x1b 0x01 = ap (λ (l : List ℕ). get_or l 1 0) e in omega arith
not_itself (suc (suc (suc (suc (suc (suc zero)))))) lo le e = let q : ◌≡◌ {A = ℕ} 0x1b 0x01 = ap (λ (l : List ℕ). get_or l 2 0) e in omega arith
not_itself (suc (suc (suc (suc (suc (suc (suc zero))))))) lo le e = let q : ◌≡◌ {A = ℕ} 0x1b 0x01 = ap (λ (l : List ℕ). get_or l 3 0) e in omega arith
not_itself (suc (suc (suc (suc (suc (suc (suc (suc k)))))))) lo le e = omega arith

ends_short : (x : List ℕ) (k : ℕ) → 1 ≤ k → k ≤ 7 → EndsInStart (x ++ take k start_seq) → ⊥
ends_short x k lo le e =
    let y : List ℕ = e.before in
    let f : length (take k start_seq) ≡ k = first_long k (omega arith) in
    let n : length x + k ≡ length y + 8 = omega (arith, f, length-append x (take k start_seq), ap length e.is, length-append y start_seq) in
    let m : length x ≡ length y + (8 - k) = omega arith in
    not_itself k lo le (sym (drop-append_seam x (take k start_seq)) ∙ ap (drop (length x)) e.is ∙ ap (λ (i : ℕ). drop i (y ++ start_seq)) m ∙ drop-append-add y start_seq (8 - k))

has_short : (x : List ℕ) (k : ℕ) → k ≤ 7 → HasStart (x ++ take k start_seq) → HasStart x
has_short x zero le e = subst HasStart (append-nil x) e
has_short x (suc k) le e =
    let c : ℕ = get_or start_seq k 0 in
    let more : x ++ take (suc k) start_seq ≡ x ++ take k start_seq ++ c ∷ [] = rw (take-suc start_seq k 0 (omega arith)) (sym (append_assoc x (take k start_seq) (c ∷ []))) in
    cases (has_start (x ++ take k start_seq))
    (λ t. has_short x k (omega arith) (has_start_true (x ++ take k start_seq) t))
    (λ f. absurd (ends_short x (suc k) (omega arith) le (subst EndsInStart (sym more) (start_last (x ++ take k start_seq) c (has_start_none (x ++ take k start_seq) f) (subst HasStart more e)))))

hides_same : (x : List ℕ) → has_start x ≡ has_start (x ++ take 7 start_seq)
hides_same x =
    cases (has_start x)
    (λ t. t ∙ sym (has_start_of (x ++ take 7 start_seq) (has_more (take 7 start_seq) (has_start_true x t))))
    (λ f. f ∙ sym (none_has_start (x ++ take 7 start_seq) (λ has. has_start_none x f (has_short x 7 (omega arith) has))))

-- the piece before a start holds a start exactly if the bytes before its last byte do
pub piece_hides : (h : List ℕ) (b : ℕ) → EndsInStart (h ++ b ∷ []) → has_start (take (length (h ++ b ∷ []) - 8) (h ++ b ∷ [])) ≡ has_start h
piece_hides h b e =
    let x : List ℕ = e.before in
    let n : length x ≡ length (h ++ b ∷ []) - 8 = sym (ap (λ (l : List ℕ). length l - 8) e.is ∙ simp length-append (omega arith)) in
    let m : length h ≡ length x + 7 = omega (arith, n, one_longer h b, ap length e.is ∙ length-append x start_seq) in
    let piece : take (length (h ++ b ∷ []) - 8) (h ++ b ∷ []) ≡ x = ap (take (length (h ++ b ∷ []) - 8)) e.is ∙ take_at x start_seq (length (h ++ b ∷ []) - 8) n in
    let before : h ≡ x ++ take 7 start_seq = sym (take-append_seam h (b ∷ [])) ∙ ap (take (length h)) e.is ∙ ap (λ (i : ℕ). take i (x ++ start_seq)) m ∙ take-append-add x start_seq 7 in
    rw piece (hides_same x ∙ ap has_start (sym before))
