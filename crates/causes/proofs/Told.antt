-- Each cause that is named at a refusal is true of the bytes, and at least one is named.
use mathlib.Core.Path.{◌≡◌, refl, ap, sym, ◌∙◌}
use mathlib.Core.Bool.{Bool, true, false, not, cond, false≢true, ◌||◌}
use mathlib.Core.List.{List, [], ◌∷◌, ◌++◌, append_assoc, append-nil}
use Prim.Native.Nat.{ℕ, suc, ◌+◌, ◌-◌, ◌%◌, ◌≤◌, ◌<◌}
use native.Mathlib.Omega.{arith}
use lib.ListN.{length, take, length-append}
use lib.Dec.{eqb, ltb}
use borrow.Author.Tests.{eqb-true, eqb-false, ltb-true, ltb-false, ne_eqb, lt-ltb}
use Rattle.crc_x25.specs.Crc.{crc_of}
use Rattle.frame.specs.Frame.{start_seq, escaped, run_with, same}
use Rattle.frame.proofs.Cases.{by_test, by_lt, either}
use Rattle.search.specs.Found.{HasStart, NoneWhole}
use Rattle.search.proofs.Matched.{has_more}
use Rattle.decoder.specs.Push.{first_way, second_way, State, search, body, escape, done}
use Rattle.decoder.specs.Record.{flag}
use Rattle.decoder.specs.Run.{KnownWay, is_first, is_second}
use Rattle.decoder.specs.declared.Setup.{Setup}
use Rattle.since.specs.Since.{frame_head, Misses, InSearch}
use Rattle.since.specs.Exactly.{ReadExactly, EndOf}
use Rattle.losses.specs.Loss.{begins_in_start, has_start, wrong_pads}
use Rattle.losses.specs.declared.Cause.{Cause}
use Rattle.losses.specs.declared.Cause.TheVariants.{Noise, Hidden, Invalid}
use Rattle.losses.proofs.Starts.{has_start_true, has_start_none, none_at_first}
use Rattle.causes.specs.Causes.{Reason, is_noise, is_hidden, is_crc, is_misaligned, is_pads, SearchOver, over_at_start, over_at_end, Overlooks, TooManyPads, over_three, over_data, TrueOf, Names, names_noise, names_hidden, names_crc, names_misaligned, names_pads}
use Rattle.causes.proofs.Overlooked.{search_not}

pub record TrulyNamed (way C : ℕ) (w rest : List ℕ) (c : Cause) : Type 0 where
  pub reason : Reason
  pub some : Names c reason
  pub truly : (r : Reason) → Names c r → TrueOf way C w rest r

-- ---- a frame begins with a start, a search does not

pub head_begins : (D z : List ℕ) → begins_in_start (frame_head D ++ z) ≡ true
unfolding frame_head same
head_begins D z = refl

pub search_begins : (C : Setup) (h : List ℕ) (n noise raw : ℕ) → KnownWay C.way → InSearch C h n noise raw → begins_in_start h ≡ false
search_begins C h n noise raw (is_first f) k = rw k.here (search_not (k.misses f) n k.most)
search_begins C h n noise raw (is_second s) k = none_at_first h (k.none_whole s)

abbrev pub in_frame : State → Bool
in_frame (search n noise raw) = false
in_frame (body r m) = true
in_frame (escape k m) = true
in_frame (done P) = false

pub frame_begins : (C : Setup) (h : List ℕ) (s : State) → KnownWay C.way → ReadExactly C h s → begins_in_start h ≡ in_frame s
unfolding same
frame_begins C h (search n noise raw) known k = search_begins C h n noise raw known k
frame_begins C h (body r m) known k = rw k.here (head_begins m.stored _)
frame_begins C h (escape j m) known k = rw (k.here, append_assoc (frame_head k.D)) (head_begins k.D _)
frame_begins C h (done P) known k = rw k.0

-- ---- one cause

pub named_noise : {way C : ℕ} {w rest : List ℕ} → TrueOf way C w rest is_noise → TrulyNamed way C w rest Noise
named_noise {way} {C} {w} {rest} t = record { reason = is_noise; some = names_noise; truly = only }
  where
    only : (r : Reason) → Names Noise r → TrueOf way C w rest r
    only r names_noise = t

pub named_hidden : {way C : ℕ} {w rest : List ℕ} → TrueOf way C w rest is_hidden → TrulyNamed way C w rest Hidden
named_hidden {way} {C} {w} {rest} t = record { reason = is_hidden; some = names_hidden; truly = only }
  where
    only : (r : Reason) → Names Hidden r → TrueOf way C w rest r
    only r names_hidden = t

-- ---- a search's bytes

search_named : {way C : ℕ} (w rest : List ℕ) → KnownWay way → 1 ≤ length w → SearchOver way w rest → (way ≡ first_way → Overlooks w) → (way ≡ second_way → NoneWhole w)
    → TrulyNamed way C w rest (cond (has_start w) Hidden Noise)
search_named {way} {C} w rest known some over looks none =
    by_test (TrulyNamed way C w rest) (has_start w) Hidden Noise
    (λ t. by_way_lem known (has_start_true w t))
    (λ f. named_noise (some, has_start_none w f, over))
  where
    by_way_lem : KnownWay way → HasStart w → TrulyNamed way C w rest Hidden
    by_way_lem (is_first e) h = named_hidden (e, h, looks e, over)
    by_way_lem (is_second e) h = absurd (none e h)

-- a start is found behind x
pub found_named : (way C : ℕ) (x rest : List ℕ) → KnownWay way → (way ≡ first_way → Misses x) → (way ≡ second_way → NoneWhole (x ++ take 7 start_seq)) → 1 ≤ length x
    → TrulyNamed way C x (start_seq ++ rest) (cond (has_start x) Hidden Noise)
found_named way C x rest known misses none some =
    search_named x (start_seq ++ rest) known some (over_at_start rest refl misses)
    (λ f. record { passed = x; n = 0; is = sym (append-nil x); most = omega arith; misses = misses f })
    (λ s h. none s (has_more (take 7 start_seq) h))

-- the recording ends
pub ended_named : (C : Setup) (h : List ℕ) (n noise raw : ℕ) → KnownWay C.way → InSearch C h n noise raw → 1 ≤ length h → TrulyNamed C.way C.capacity h [] (cond (has_start h) Hidden Noise)
ended_named C h n noise raw known k some =
    search_named h [] known some (over_at_end refl) (λ f. record { passed = k.passed; n = n; is = k.here; most = k.most; misses = k.misses f }) k.none_whole

-- ---- an end sequence

or_true : (a b : Bool) {G : Type 0} → a || b ≡ true → (a ≡ true → G) → (b ≡ true → G) → G
or_true true b e f g = f refl
or_true false b e f g = g e

either_true : (a b : Bool) → (a ≡ false → b ≡ true) → a || b ≡ true
either_true true b f = refl
either_true false b f = f refl

-- below four bytes nothing is escaped
short_escaped : (D : List ℕ) (n : ℕ) → n + length D ≤ 3 → length (escaped n D) ≡ length D
unfolding escaped
short_escaped [] n le = refl
short_escaped (b ∷ D) n le =
    ap suc (either b 0x1b
    (λ e. rw (e, ne_eqb n 3 (λ q. omega arith)) (short_escaped D (suc n) (omega arith)))
    (λ ne. rw (ne_eqb b 0x1b ne) (short_escaped D 0 (omega arith))))

longer_escaped : (D : List ℕ) (n : ℕ) → length D ≤ length (escaped n D)
unfolding escaped
longer_escaped [] n = omega arith
longer_escaped (b ∷ D) n = let i = longer_escaped D (run_with n b) in simp length-append (omega arith)

head_size : (D : List ℕ) → length (frame_head D) ≡ 8 + length (escaped 0 D)
unfolding frame_head
head_size D = omega arith

module _ {C : ℕ} {w D : List ℕ} {p read : ℕ} (e : EndOf C w D p read) where
  size : length w ≡ 16 + length (escaped 0 D)
  size = ap length e.is ∙ simp (length-append, head_size) (omega arith)

  -- so the pad count is wrong by the piece's length exactly if it is by the data's
  pub pads_wrong : wrong_pads (length w) p ≡ true → TooManyPads D p
  pads_wrong t = or_true (ltb 3 p) (ltb (length w) (p + 16)) t
      (λ over. over_three (ltb-true 3 p over))
      (λ lt. over_data (let l = ltb-true (length w) (p + 16) lt in let n = size in let i = longer_escaped D 0 in omega arith))

  pub wrong_pads_lem : TooManyPads D p → wrong_pads (length w) p ≡ true
  wrong_pads_lem (over_three lt) = rw (lt-ltb 3 p lt)
  wrong_pads_lem (over_data lt) =
      either_true (ltb 3 p) (ltb (length w) (p + 16)) (λ le.
      let few : p ≤ 3 = ltb-false 3 p le in
      lt-ltb (length w) (p + 16) (let n = size in let i = short_escaped D 0 (omega arith) in omega arith))

  pub pads_right : wrong_pads (length w) p ≡ false → (p ≤ 3) × (p ≤ length D)
  pads_right f =
      let few : p ≤ 3 = small 3 p (λ lt. false≢true (sym f ∙ wrong_pads_lem (over_three lt))) in
      (few, small (length D) p (λ lt. false≢true (sym f ∙ wrong_pads_lem (over_data lt))))
    where
      small : (a b : ℕ) → (a < b → ⊥) → b ≤ a
      small a b n = by_lt {A = ℕ} (λ v. b ≤ a) a b 0 0 (λ lt. absurd (n lt)) (λ ge. ge)

names_invalid : {a b c : Bool} {r : Reason} (G : Reason → Type 0) → Names (Invalid a b c) r → (a ≡ true → G is_crc) → (b ≡ true → G is_misaligned) → (c ≡ true → G is_pads) → G r
names_invalid G names_crc f g h = f refl
names_invalid G names_misaligned f g h = g refl
names_invalid G names_pads f g h = h refl

record OneNamed (a b c : Bool) : Type 0 where
  reason : Reason
  some : Names (Invalid a b c) reason

one_named : (a b c : Bool) → (a ≡ false → b ≡ false → c ≡ false → ⊥) → OneNamed a b c
one_named true b c f = record { reason = is_crc; some = names_crc }
one_named false true c f = record { reason = is_misaligned; some = names_misaligned }
one_named false false true f = record { reason = is_pads; some = names_pads }
one_named false false false f = absurd (f refl refl refl)

pub flag_is : (t : Bool) → eqb (flag t) 1 ≡ t
flag_is true = refl
flag_is false = refl

not_turned : (t : Bool) → not t ≡ true → t ≡ false
not_turned true e = absurd (false≢true e)
not_turned false e = refl

not_again : (t : Bool) → not t ≡ false → t ≡ true
not_again true e = refl
not_again false e = absurd (false≢true (sym e))

-- what is told of an end sequence is what it says, and something of it is wrong
module _ (way C : ℕ) (w rest D : List ℕ) (read computed : ℕ) (mis : Bool) (p : ℕ) (e : EndOf C w D p read) (sum : computed ≡ crc_of (take (length w - 2) w))
    (aligned : mis ≡ not (eqb (length D % 4) 0)) (wrong : read ≡ computed → length D % 4 ≡ 0 → p ≤ 3 → p ≤ length D → ⊥) where
  abbrev crc_flag : Bool
  crc_flag = not (eqb read computed)

  abbrev mis_flag : Bool
  mis_flag = eqb (flag mis) 1

  abbrev pad_flag : Bool
  pad_flag = wrong_pads (length w) p

  pub invalid_named : TrulyNamed way C w rest (Invalid crc_flag mis_flag pad_flag)
  invalid_named =
      let o = one_named crc_flag mis_flag pad_flag (λ a b c.
      let q = pads_right e c in
      wrong (eqb-true read computed (not_again (eqb read computed) a)) (eqb-true (length D % 4) 0 (not_again (eqb (length D % 4) 0) (sym aligned ∙ sym (flag_is mis) ∙ b))) q.0 q.1) in
      record {
        reason = o.reason;
        some = o.some;
        truly = λ r n. names_invalid (λ (r : Reason). TrueOf way C w rest r) n
            (λ t. record { D = D; p = p; read = read; is = e; wrong = λ q. eqb-false read computed (not_turned (eqb read computed) t) (q ∙ sym sum) })
            (λ t. record { D = D; p = p; read = read; is = e; wrong = eqb-false (length D % 4) 0 (not_turned (eqb (length D % 4) 0) (sym aligned ∙ sym (flag_is mis) ∙ t)) })
            (λ t. record { D = D; p = p; read = read; is = e; wrong = pads_wrong e t });
      }
